-- The joining test: what the first side grows to inside the board's cells has a cell of the last side exactly where a chain joins the two.
use mathlib.Core.Path.{◌≡◌, sym, ap, ◌∙◌, subst}
use mathlib.Core.Bool.{Bool, not}
use mathlib.Core.List.{List}
use Prim.Native.Nat.{ℕ}
use native.Mathlib.Omega.{arith}
use borrow.Author.Tests.{eq-eqb, ne_eqb}
use lib.Dec.{T, eqb}
use lib.Bits.{bit_and}
use Rattle.rules.specs.Board.{is_cell, cell_at, column_of, row_of, on_first_side, on_last_side, smallest}
use Rattle.rules.specs.Joining.{Chain, here, step, Joins, joined}
use Rattle.rules.specs.declared.Board.{Board}
use Rattle.rules.specs.declared.Player.{Player}
use Rattle.rules.proofs.Tests.{same_test, holds_of}
use Rattle.rules.proofs.Smallest.{smallest_none}
use Rattle.rules.proofs.Joining.{chain_from, joined→joins, joins→joined}
use Rattle.rules.proofs.Places.{cell_place, at_place, column_at, row_at, cell_at_lem}
use Rattle.cells.specs.Cells.{held, Fits}
use Rattle.cells.specs.Rows.{In, RowByRow, Clipped, Side}
use Rattle.cells.specs.Growing.{Linked, own, next, Framed, Closure}
use Rattle.cells.proofs.Held.{held_cell, held_in, in_held}
use Rattle.cells.proofs.Neighbours.{neighbour_near, near_neighbour}
use Rattle.cells.proofs.Smallest.{smallest_held}
use Rattle.cells.proofs.Words.{both_in, both_out}

-- the cells of a board that fits stand inside the frame
pub clipped_framed : (b : Board) (s t : List ℕ) → Fits b → Clipped b s t → Framed b.rows t
clipped_framed b s t fits cl =
    record {
      inside =
          λ c r e.
          let o = (cl.only c r e).1 in
          (o.top, o.bottom, omega (arith, o.right, fits.few_columns));
    }

chain_to : {b : Board} {s : ℕ → Bool} {z x : ℕ} → Chain b s z x → T (s z)
chain_to (here h) = h
chain_to (step y h n c) = chain_to c

-- of a board: the set s, its cells on the board, the first and the last side of a player
module _ (b : Board) (p : Player) (fits : Fits b) {s cells first last start all there : List ℕ}
    (cl : Clipped b s cells) (fs : Side b (on_first_side b p) first) (ls : Side b (on_last_side b p) last)
    (starts : RowByRow bit_and cells first start) (grew : Closure cells start all) (ends : RowByRow bit_and all last there) where
  abbrev Reach : ℕ → ℕ → Type 0
  Reach c r = Linked cells start c r

  reach_in : (c r : ℕ) → Reach c r → In cells c r
  reach_in c r (own i) = (both_out c r starts i).0
  reach_in c r (next l n i) = i

  cell_in : (x : ℕ) → T (held b s x) → In cells (column_of b x) (row_of b x)
  cell_in x h = cl.inside (column_of b x) (row_of b x) (held_in b s x h) (cell_place b x fits.some_column (held_cell b s x h))

  in_cell : (c r : ℕ) → In cells c r → T (held b s (cell_at b c r))
  in_cell c r e =
      let t = cl.only c r e in
      in_held b s (cell_at b c r) (cell_at_lem b c r t.1) (rw (column_at b c r t.1, row_at b c r t.1) t.0)

  -- a chain from the first side to z
  record From (z : ℕ) : Type 0 where
    from : ℕ
    from_cell : T (is_cell b from)
    from_first : T (on_first_side b p from)
    chain : Chain b (held b s) z from

  -- a reached place is led to from the first side
  reach_from : (z c r : ℕ) → Reach c r → Chain b (held b s) z (cell_at b c r) → From z
  reach_from z c r (own i) ch =
      let t = both_out c r starts i in
      let o = (cl.only c r t.0).1 in
      record {
        from = cell_at b c r;
        from_cell = cell_at_lem b c r o;
        from_first = fs.only (cell_at b c r) (cell_at_lem b c r o) (rw (column_at b c r o, row_at b c r o) t.1);
        chain = ch;
      }
  reach_from z c r (next {c = c₀} {r = r₀} l n i) ch =
      let e = reach_in c₀ r₀ l in
      reach_from z c₀ r₀ l
      (step (cell_at b c r) (in_cell c₀ r₀ e) (near_neighbour b c₀ r₀ c r (cl.only c₀ r₀ e).1 (cl.only c r i).1 n) ch)

  -- a chain from a reached cell leads to a reached cell
  chain_reach : (z x : ℕ) → Chain b (held b s) z x → Reach (column_of b x) (row_of b x) → Reach (column_of b z) (row_of b z)
  chain_reach z x (here h) l = l
  chain_reach z x (step y h n ch) l = chain_reach z y ch (next l (neighbour_near b x y n) (cell_in y (chain_from ch)))

  abbrev found : ℕ → Bool
  found = held b there

  -- no place of it is off the board
  found_clipped : Clipped b there there
  found_clipped =
      record {
        inside = λ c r e o. e;
        only = λ c r e. (e, (cl.only c r (reach_in c r (grew.sound c r (both_out c r ends e).0))).1);
      }

  found_joins : (smallest b found ≡ 0 → ⊥) → Joins b p (held b s)
  found_joins h =
      let t = smallest_held b found h in
      let x : ℕ = smallest b found in
      let i = both_out (column_of b x) (row_of b x) ends (held_in b there x t.1) in
      let l = grew.sound (column_of b x) (row_of b x) i.0 in
      let f = reach_from x (column_of b x) (row_of b x) l (goes x t.0 (reach_in (column_of b x) (row_of b x) l)) in
      record {
        from = f.from;
        to = x;
        from_cell = f.from_cell;
        from_first = f.from_first;
        to_last = ls.only x t.0 i.1;
        chain = f.chain;
      }
    where
      goes : (x : ℕ) → T (is_cell b x) → In cells (column_of b x) (row_of b x) → Chain b (held b s) x (cell_at b (column_of b x) (row_of b x))
      goes x i e = subst (Chain b (held b s) x) (sym (at_place b x i)) (here (in_held b s x i (cl.only (column_of b x) (row_of b x) e).0))

  joins_found : Joins b p (held b s) → smallest b found ≡ 0 → ⊥
  joins_found j e =
      let from = own (both_in (column_of b j.from) (row_of b j.from) starts (cell_in j.from (chain_from j.chain))
      (fs.inside j.from j.from_cell j.from_first)) in
      let l = chain_reach j.to j.from j.chain from in
      let i = held_cell b s j.to (chain_to j.chain) in
      smallest_none b found e j.to i
      (in_held b there j.to i
      (both_in (column_of b j.to) (row_of b j.to) ends (grew.whole (column_of b j.to) (row_of b j.to) l)
      (ls.inside j.to i j.to_last)))

  pub reached_joined : (n : ℕ) → ((t : List ℕ) → Clipped b t there → n ≡ smallest b (held b t)) → not (eqb n 0) ≡ joined b p (held b s)
  reached_joined n low =
      let e : n ≡ smallest b found = low there found_clipped in
      same_test (not (eqb n 0)) (joined b p (held b s))
      (λ h. joins→joined b p (held b s) (found_joins (λ z. subst T (ap not (eq-eqb n 0 (e ∙ z))) h)))
      (λ h. holds_of (ap not (ne_eqb n 0 (λ z. joins_found (joined→joins b p (held b s) h) (sym e ∙ z)))))
