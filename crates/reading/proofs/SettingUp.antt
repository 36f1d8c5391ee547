-- Set-up lines: the two sets of stones, one line, and all of them.
use mathlib.Core.Path.{◌≡◌, refl, sym, ap, subst, subst⁻¹, ◌∙◌}
use Prim.Native.Nat.{ℕ, zero, suc, ◌+◌, ◌≤◌}
use native.Mathlib.Omega.{arith}
use mathlib.Core.Bool.{Bool, true, false, not, ◌||◌, or_comm, or-false}
use mathlib.Core.List.{List, [], ◌∷◌, ◌++◌}
use mathlib.Core.Option.{none, some}
use lib.Dec.{T, eqb, not_T}
use lib.ListN.{length, length-append}
use Rattle.std.specs.Borrow.{Bor}
use Rattle.std.specs.Prelude as code
use Rattle.rules.specs.Words.{among}
use Rattle.rules.specs.Sizes.{most_nodes, most_bytes}
use Rattle.rules.specs.Board.{is_cell, on_board}
use Rattle.rules.specs.Text.{Bytes}
use Rattle.rules.specs.Lines.{Side, own, opp, is_side, Place, set_up_line}
use Rattle.rules.specs.Tree.{Stone, set_up_cells, cells_of}
use Rattle.rules.specs.Reading.{refused, got, within, cell_of, set_down, read_set_up}
use Rattle.rules.specs.declared.Board.{Board}
use Rattle.rules.specs.declared.Verdict.{Verdict}
use Rattle.rules.specs.declared.Verdict.TheVariants.{OffBoard, SetUpTwice}
use Rattle.rules.proofs.Lists.{among_append}
use Rattle.rules.proofs.Joining.{cell_on_lem}
use Rattle.rules.proofs.Tests.{holds_of}
use Rattle.rules.proofs.SetUp.{either_side, down, down_off, down_twice, set_up_none, set_up_got, set_up_refused}
use Rattle.cells.specs.Cells.{held, Holds}
use Rattle.cells.specs.declared.Cells.{Cells}
use Rattle.lines.specs.Seen.{Reads, side_of, set_up_of, set_up_seen}
use Rattle.lines.specs.declared.set_up.SetUpLine.{SetUpLine}
use Rattle.nodes.specs.Sheets.{HeldStones}
use Rattle.nodes.specs.declared.head.Stones.{Stones}
use Rattle.reading.specs.Numbered.{numbered}
use Rattle.reading.specs.SetUp.{StoneGot, StoneRefused, SetUpGot}
use Rattle.reading.specs.declared.spot.Spot.{Spot}
use Rattle.reading.proofs.OnBoard.{numbered_on, numbered_off}

-- one stone more in a list
more_cells : (o : Side) (cs : List Stone) (c : Stone) → cells_of o (cs ++ c ∷ []) ≡ cells_of o cs ++ cells_of o (c ∷ [])
unfolding cells_of
more_cells o [] c = refl
more_cells o (d ∷ cs) c = by_side (is_side o d.side) refl (more_cells o cs c)
  where
    by_side : (t : Bool) → is_side o d.side ≡ t → cells_of o (cs ++ c ∷ []) ≡ cells_of o cs ++ cells_of o (c ∷ [])
        → cells_of o (d ∷ cs ++ c ∷ []) ≡ cells_of o (d ∷ cs) ++ cells_of o (c ∷ [])
    by_side true e ih = rw (e, cells_of) (ap (λ (l : List ℕ). d.cell ∷ l) ih)
    by_side false e ih = rw (e, cells_of) ih

-- one cell more in a set, and one stone more in a list
one_more : (y x : ℕ) (xs : List ℕ) → (eqb y x || among xs y) ≡ among (xs ++ x ∷ []) y
unfolding among
one_more y x xs = or_comm (eqb y x) (among xs y) ∙ ap (λ (z : Bool). among xs y || z) (sym (or-false (eqb y x))) ∙ sym (among_append y xs (x ∷ []))

none_more : (y : ℕ) (xs : List ℕ) → among xs y ≡ among (xs ++ []) y
unfolding among
none_more y xs = sym (or-false (among xs y)) ∙ sym (among_append y xs [])

module _ (b : Board) (cs : List Stone) (x : ℕ) where
  -- the set of the stone's side has its cell too, the other set is as it was
  one_held : (o : Side) → is_side o o ≡ true → (rows more : List ℕ) → Holds b rows (cells_of o cs) → ((y : ℕ) → held b more y ≡ (eqb y x || held b rows y))
      → Holds b more (cells_of o (cs ++ record { side = o; cell = x } ∷ []))
  unfolding cells_of
  one_held o e rows more h f =
      record {
        same = λ y. f y ∙ ap (λ (z : Bool). eqb y x || z) (h.same y) ∙ one_more y x (cells_of o cs) ∙ ap (λ (l : List ℕ). among l y) (sym (more_cells o cs _ ∙ rw (e, cells_of)));
      }

  none_held : (o p : Side) → is_side o p ≡ false → (rows : List ℕ) → Holds b rows (cells_of o cs) → Holds b rows (cells_of o (cs ++ record { side = p; cell = x } ∷ []))
  unfolding cells_of
  none_held o p e rows h =
      record { same = λ y. h.same y ∙ none_more y (cells_of o cs) ∙ ap (λ (l : List ℕ). among l y) (sym (more_cells o cs _ ∙ rw (e, cells_of))) }

  module _ (mine theirs more : Cells) (h : HeldStones b cs mine theirs) where
    pub put_own : ((y : ℕ) → held b more.rows y ≡ (eqb y x || held b mine.rows y)) → HeldStones b (cs ++ record { side = own; cell = x } ∷ []) more theirs
    unfolding is_side
    put_own f = record { own_held = one_held own refl _ _ h.own_held f; opp_held = none_held opp own refl _ h.opp_held }

    pub put_opp : ((y : ℕ) → held b more.rows y ≡ (eqb y x || held b theirs.rows y)) → HeldStones b (cs ++ record { side = opp; cell = x } ∷ []) mine more
    unfolding is_side
    put_opp f = record { own_held = none_held own opp refl _ h.own_held; opp_held = one_held opp refl _ _ h.opp_held f }

-- One line
pub stone_cell : (b : Board) (p : Place) (n : ℕ) → code.Some n ≡ numbered b (some p) → T (is_cell b n)
unfolding within cell_of
stone_cell b p n e =
    let w = numbered_on b (some p) n e in
    subst (λ (z : ℕ). T (is_cell b z)) w.number (cell_on_lem b p.column p.row (holds_of w.inside))

module _ (b : Board) (s : Spot) (said : SetUpLine) (text : Bor Bytes) (q : Reads s.text.now set_up_line (set_up_seen (code.Some (said, text)))) where
  stone_refused : (cs : List Stone) (v : Verdict) → set_down b (set_up_cells cs) (length cs + 2) (set_up_of said) ≡ refused v → StoneRefused b s cs v
  stone_refused cs v e = record { said = set_up_of said; left = text.now; begun = omega (arith, q.shorter); line_read = sym q.same; not_down = e }

  pub stone_off : code.None ≡ numbered b (some (set_up_of said).place) → (cs : List Stone) → s.line ≡ length cs + 2 → StoneRefused b s cs (OffBoard s.line)
  unfolding within
  stone_off e cs line =
      stone_refused cs _
      (down_off b (set_up_cells cs) (length cs + 2) (set_up_of said) (λ h. subst T (numbered_off b (some (set_up_of said).place) e) h)
      ∙ ap (λ (n : ℕ). refused (OffBoard n)) (sym line))

  module _ (n : ℕ) (e : code.Some n ≡ numbered b (some (set_up_of said).place)) where
    on : T (on_board b said.place.column said.place.row)
    unfolding within
    on = holds_of (numbered_on b (some (set_up_of said).place) n e).inside

    module _ (cs : List Stone) (mine theirs : Cells) (h : HeldStones b cs mine theirs) (line : s.line ≡ length cs + 2) where
      -- a stone is on the cell where one of the two sets holds it
      named : (t : Bool) → t ≡ (held b mine.rows n || held b theirs.rows n) → among (set_up_cells cs) n ≡ t
      named t f = either_side cs n ∙ sym (f ∙ rw (h.own_held.same n, h.opp_held.same n))

      pub stone_twice : true ≡ (held b mine.rows n || held b theirs.rows n) → StoneRefused b s cs (SetUpTwice s.line n)
      unfolding cell_of
      stone_twice f =
          let w = (numbered_on b (some (set_up_of said).place) n e).number in
          stone_refused cs _
          (down_twice b (set_up_cells cs) (length cs + 2) (set_up_of said) on
          (subst⁻¹ (λ (z : ℕ). T (among (set_up_cells cs) z)) w (holds_of (named true f)))
          ∙ ap (λ (z : ℕ). refused (SetUpTwice (length cs + 2) z)) w
          ∙ ap (λ (z : ℕ). refused (SetUpTwice z n)) (sym line))

      pub stone_got : (short : s.line + 1 + length text.now ≤ most_bytes + 2) (few : s.nodes ≤ most_nodes) → false ≡ (held b mine.rows n || held b theirs.rows n) → (stones : Stones)
          → HeldStones b (cs ++ record { side = side_of said.side; cell = n } ∷ []) stones.own stones.opp
          → StoneGot b s cs (record { text = text; line = s.line + 1; nodes = s.nodes; short = short; few = few }) stones
      unfolding cell_of
      stone_got short few f stones k =
          let w = (numbered_on b (some (set_up_of said).place) n e).number in
          record {
            said = set_up_of said;
            stone = record { side = side_of said.side; cell = n };
            line_read = sym q.same;
            set_down_lem =
                down b (set_up_cells cs) (length cs + 2) (set_up_of said) on
                (subst⁻¹ (λ (z : ℕ). T (not (among (set_up_cells cs) z))) w (not_T (among (set_up_cells cs) n) (λ t. subst T (named false f) t)))
                ∙ ap (λ (z : ℕ). got (record { side = side_of said.side; cell = z })) w;
            held = k;
            shorter = q.shorter;
            next_line_lem = refl;
            same_nodes = refl;
          }

-- All lines: what is still to be read comes to what was to be read at the start
pub record SettingUp (b : Board) (body : Bytes) (stones : Stones) (here : Spot) : Type 0 where
  pub set_up : List Stone
  pub most : ℕ
  pub same : read_set_up (length body) b [] body ≡ read_set_up most b set_up here.text.now
  pub enough : length here.text.now ≤ most
  pub low : here.line + length here.text.now ≤ length body + 2
  pub held : HeldStones b set_up stones.own stones.opp
  pub line_is : here.line ≡ length set_up + 2
  pub no_nodes_lem : here.nodes ≡ 0

module _ {b : Board} {body : Bytes} {stones : Stones} {here : Spot} (g : SettingUp b body stones here) where
  -- one more was to be read
  some_left : (most : ℕ) → length here.text.now ≤ most → 1 ≤ length here.text.now → (m : ℕ) × (most ≡ suc m)
  some_left zero e l = absurd (omega (arith, e, l))
  some_left (suc m) e l = (m, refl)

  pub setting_on : (after : Spot) (later : Stones) → StoneGot b here g.set_up after later → SettingUp b body later after
  setting_on after later s =
      let m = some_left g.most g.enough (omega (arith, s.shorter)) in
      record {
        set_up = g.set_up ++ s.stone ∷ [];
        most = m.0;
        same =
            g.same ∙ ap (λ (z : ℕ). read_set_up z b g.set_up here.text.now) m.1
            ∙ set_up_got m.0 b g.set_up here.text.now (s.said, after.text.now) s.line_read s.stone s.set_down_lem;
        enough = omega (arith, g.enough, m.1, s.shorter);
        low = omega (arith, g.low, s.shorter, s.next_line_lem);
        held = s.held;
        line_is = s.next_line_lem ∙ omega (arith, g.line_is, length-append g.set_up (s.stone ∷ []));
        no_nodes_lem = s.same_nodes ∙ g.no_nodes_lem;
      }

  pub setting_done : set_up_line here.text.now ≡ none → SetUpGot b body here stones
  setting_done e =
      record {
        set_up = g.set_up;
        reads = g.same ∙ set_up_none g.most b g.set_up here.text.now e;
        held = g.held;
        line_is = g.line_is;
        line_low = g.low;
        no_nodes_lem = g.no_nodes_lem;
      }

  pub setting_refused : (v : Verdict) → StoneRefused b here g.set_up v → read_set_up (length body) b [] body ≡ refused v
  setting_refused v s =
      let m = some_left g.most g.enough s.begun in
      g.same ∙ ap (λ (z : ℕ). read_set_up z b g.set_up here.text.now) m.1
      ∙ set_up_refused m.0 b g.set_up here.text.now (s.said, s.left) s.line_read v s.not_down
