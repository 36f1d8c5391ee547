-- That `Begins` is what it says: a text that begins as a sheet does is the beginning of the text of a tree, whatever stands for
-- the nodes that are due.
use mathlib.Core.Path.{◌≡◌, refl, sym, ap, ap₂, subst, ◌∙◌}
use mathlib.Core.Logic.{◌≢◌}
use Prim.Native.Nat.{ℕ, zero, suc}
use mathlib.Core.List.{List, [], ◌∷◌, ◌++◌, append_assoc, append-nil}
use mathlib.Core.Option.{Option, none, some}
use lib.Dec.{T}
use native.Mathlib.Omega.{arith}
use Rattle.rules.specs.Text.{Bytes}
use Rattle.rules.specs.Lines.{Place, Line, kind_under}
use Rattle.rules.specs.Tree.{Waits, no_waits, wait, Moves, no_moves, move, Stone, Sheet}
use Rattle.rules.specs.Written.{printed, a_line, written_header, written_set_up, written_stones, place_of, how_many_waits, how_many_moves, written_move, written_wait, written_waits, written_moves, written}
use Rattle.rules.specs.Reading.{within, cell_of}
use Rattle.rules.specs.Unread.{IsLine, of_move, of_first, of_dash, of_wait, Due, due_after, NoSetUp, SetUp, after_header, after_stone, Begins, after_set_up, after_line}
use Rattle.rules.specs.declared.Board.{Board}
use Rattle.rules.specs.declared.LineKind.{LineKind}
use Rattle.rules.specs.declared.LineKind.TheVariants as K
use Rattle.rules.specs.declared.Player.{Player}
use Rattle.rules.proofs.Lines.{set_up_starts, place_again}
use Rattle.rules.proofs.SetUp.{stone_text}

-- the text of one node of a kind with all that is under it, and of nodes one after another, as they are due
pub data NodeText (b : Board) : LineKind → Bytes → Type 0 where
  first_text : (c : ℕ) (ws : Waits) → NodeText b K.First (written_move (place_of b c) (how_many_waits ws) ++ written_waits b ws)
  move_text : (c : ℕ) (ws : Waits) → NodeText b K.Move (written_move (place_of b c) (how_many_waits ws) ++ written_waits b ws)
  wait_text : (ms : Moves) → NodeText b K.Wait (written_wait (how_many_moves ms) ++ written_moves b ms)

pub data Filled (b : Board) : List Due → Bytes → Type 0 where
  none_due : Filled b [] []
  one_due : {d : Due} {ds : List Due} (u v : Bytes) → NodeText b d.kind u → Filled b ds v → Filled b (d ∷ ds) (u ++ v)

-- the nodes right under a node, gathered
record WaitsFilled (b : Board) (n : ℕ) (ds : List Due) (u : Bytes) : Type 0 where
  waits : Waits
  rest : Bytes
  many : how_many_waits waits ≡ n
  text : u ≡ written_waits b waits ++ rest
  filled : Filled b ds rest

record MovesFilled (b : Board) (n : ℕ) (ds : List Due) (u : Bytes) : Type 0 where
  moves : Moves
  rest : Bytes
  many : how_many_moves moves ≡ n
  text : u ≡ written_moves b moves ++ rest
  filled : Filled b ds rest

wait_of : {b : Board} {k : LineKind} {u : Bytes} → k ≡ K.Wait → NodeText b k u → (ms : Moves) × (u ≡ written_wait (how_many_moves ms) ++ written_moves b ms)
wait_of e (first_text c ws) = let z : ◌≡◌ {A = ℕ} 0 1 = cc in absurd (omega arith)
wait_of e (move_text c ws) = let z : ◌≡◌ {A = ℕ} 0 1 = cc in absurd (omega arith)
wait_of e (wait_text ms) = (ms, refl)

move_of : {b : Board} {k : LineKind} {u : Bytes} → kind_under k ≡ K.Wait → NodeText b k u
    → (c : ℕ) × (ws : Waits) × (u ≡ written_move (place_of b c) (how_many_waits ws) ++ written_waits b ws)
move_of e (first_text c ws) = (c, ws, refl)
move_of e (move_text c ws) = (c, ws, refl)
move_of e (wait_text ms) = let z : ◌≡◌ {A = ℕ} 0 1 = cc in absurd (omega arith)

-- a node's text, and what is after it
texts : {u v : Bytes} (line under beside rest : Bytes) → u ≡ line ++ under → v ≡ beside ++ rest → u ++ v ≡ (line ++ under ++ beside) ++ rest
texts line under beside rest e f = rw (e, f) (simp append_assoc)

module _ (b : Board) (d : Due) (ds : List Due) where
  waits_filled : (n : ℕ) (u : Bytes) → kind_under d.kind ≡ K.Wait → Filled b (due_after d n ds) u → WaitsFilled b n ds u
  unfolding due_after how_many_waits written_waits
  waits_filled zero u k f = record { waits = no_waits; rest = u; many = refl; text = refl; filled = f }
  waits_filled (suc n) _ k (one_due u v x f) =
      let (ms, e) = wait_of k x in
      let g = waits_filled n v k f in
      record {
        waits = wait 0 ms g.waits;
        rest = g.rest;
        many = ap suc g.many;
        text = texts (written_wait (how_many_moves ms)) (written_moves b ms) (written_waits b g.waits) g.rest e g.text;
        filled = g.filled;
      }

  moves_filled : (n : ℕ) (u : Bytes) → kind_under d.kind ≡ K.Move → Filled b (due_after d n ds) u → MovesFilled b n ds u
  unfolding due_after how_many_moves written_moves
  moves_filled zero u k f = record { moves = no_moves; rest = u; many = refl; text = refl; filled = f }
  moves_filled (suc n) _ k (one_due u v x f) =
      let (c, ws, e) = move_of (ap kind_under k) x in
      let g = moves_filled n v k f in
      record {
        moves = move 0 c ws g.moves;
        rest = g.rest;
        many = ap suc g.many;
        text = texts (written_move (place_of b c) (how_many_waits ws)) (written_waits b ws) (written_moves b g.moves) g.rest e g.text;
        filled = g.filled;
      }

-- a line and what fills the nodes right under it fill the node
abbrev due : LineKind → ℕ → Due
due k depth = record { kind = k; depth = depth }

module _ (b : Board) (depth : ℕ) (ds : List Due) (left : Bytes) (n : ℕ) where
  move_filled : (k : LineKind) → ((c : ℕ) (ws : Waits) → NodeText b k (written_move (place_of b c) (how_many_waits ws) ++ written_waits b ws))
      → (o : Option Place) → T (within b o) → WaitsFilled b n ds left → Filled b (due k depth ∷ ds) (written_move o n ++ left)
  move_filled k text o on w =
      subst (Filled b (due k depth ∷ ds))
      (append_assoc (written_move (place_of b (cell_of b o)) (how_many_waits w.waits)) (written_waits b w.waits) w.rest ∙ ap₂ ◌++◌ (ap₂ written_move (place_again b o on) w.many) (sym w.text))
      (one_due _ w.rest (text (cell_of b o) w.waits) w.filled)

  wait_filled : MovesFilled b n ds left → Filled b (due K.Wait depth ∷ ds) (written_wait n ++ left)
  wait_filled m =
      subst (Filled b (due K.Wait depth ∷ ds))
      (append_assoc (written_wait (how_many_moves m.moves)) (written_moves b m.moves) m.rest ∙ ap₂ ◌++◌ (ap written_wait m.many) (sym m.text))
      (one_due _ m.rest (wait_text m.moves) m.filled)

line_filled : (b : Board) (k : LineKind) (depth : ℕ) (ds : List Due) (line left : Bytes) (l : Line) → IsLine k line l → T (within b l.place)
    → Filled b (due_after (due k depth) l.under ds) left → Filled b (due k depth ∷ ds) (line ++ left)
line_filled b _ depth ds _ left _ (of_move p n h f) on g =
    move_filled b depth ds left n K.Move move_text (some p) on (waits_filled b (due K.Move depth) ds n left refl g)
line_filled b _ depth ds _ left _ (of_first p n h f) on g =
    move_filled b depth ds left n K.First first_text (some p) on (waits_filled b (due K.First depth) ds n left refl g)
line_filled b _ depth ds _ left _ (of_dash n f) on g =
    move_filled b depth ds left n K.First first_text none on (waits_filled b (due K.First depth) ds n left refl g)
line_filled b _ depth ds _ left _ (of_wait n low f) on g = wait_filled b depth ds left n (moves_filled b (due K.Wait depth) ds n left refl g)

-- where the text that is left fills the nodes that are due, the whole text is a tree's
root_filled : {b : Board} {u : Bytes} → Filled b (record { kind = K.First; depth = 1 } ∷ []) u
    → (c : ℕ) × (ws : Waits) × (u ≡ written_move (place_of b c) (how_many_waits ws) ++ written_waits b ws)
root_filled (one_due u _ x none_due) =
    let (c, ws, e) = move_of refl x in
    (c, ws, append-nil u ∙ e)

-- the set-up lines are the text of their stones
stones_snoc : (b : Board) (cs : List Stone) (c : Stone) → written_stones b (cs ++ c ∷ []) ≡ written_stones b cs ++ written_set_up c.side (place_of b c.cell)
unfolding written_stones
stones_snoc b [] c = append-nil (written_set_up c.side (place_of b c.cell))
stones_snoc b (d ∷ cs) c = rw (stones_snoc b cs c) (simp append_assoc)

stones_begun : {t : Bytes} {b : Board} {cs : List Stone} {left : Bytes} → SetUp t b cs left → (p : Player) × (t ≡ written_header b p ++ (written_stones b cs ++ left))
unfolding written_stones
stones_begun (after_header p left size e) = (p, e)
stones_begun {b = b} (after_stone cs o p left a h on new) =
    let (q, e) = stones_begun a in
    (q, e ∙ ap (λ (u : Bytes). written_header b q ++ u) (rw (stone_text b o p on, stones_snoc b cs) (simp append_assoc)))

pub tree_begun : (t : Bytes) (b : Board) (first n : ℕ) (ds : List Due) (left : Bytes) → Begins t b first n ds left → Filled b ds left → (s : Sheet) × (t ≡ written s)
unfolding written
tree_begun t b first _ _ _ (after_set_up cs left a no_more e) f =
    let (c, ws, g) = root_filled f in
    let (p, h) = stones_begun a in (
      record { board = b; player = p; set_up = cs; root = record { line = first; cell = c; waits = ws } },
      h ∙ ap (λ (u : Bytes). written_header b p ++ (written_stones b cs ++ u)) g ∙ simp append_assoc,
    )
tree_begun t b first _ _ _ (after_line n d ds line left l a i few deep on) f =
    tree_begun t b first n (d ∷ ds) (line ++ left) a (line_filled b d.kind d.depth ds line left l i on f)

-- no set-up line begins with another byte than `o`
no_set_up : (c : ℕ) (u : Bytes) → c ≢ 111 → NoSetUp (c ∷ u)
unfolding NoSetUp
no_set_up c u h o p after n e =
    let starts = set_up_starts o (some p) after in
    let same : c ∷ u ≡ 111 ∷ starts.0 = e ∙ starts.1 in
    h (cc same)

nothing_set_up : NoSetUp []
unfolding NoSetUp
nothing_set_up o p after n e =
    let starts = set_up_starts o (some p) after in
    let same : [] ≡ 111 ∷ starts.0 = e ∙ starts.1 in
    let z : ◌≡◌ {A = ℕ} 0 1 = cc in
    omega arith

m_set_up : (u : Bytes) → NoSetUp (109 ∷ u)
m_set_up u = no_set_up 109 u (λ e. omega arith)

w_set_up : (u : Bytes) → NoSetUp (119 ∷ u)
w_set_up u = no_set_up 119 u (λ e. omega arith)

line_no_set_up : {k : LineKind} {line : Bytes} {l : Line} (more : Bytes) → IsLine k line l → NoSetUp (line ++ more)
unfolding written_move written_wait a_line printed
line_no_set_up more (of_move p n h f) = m_set_up _
line_no_set_up more (of_first p n h f) = m_set_up _
line_no_set_up more (of_dash n f) = m_set_up _
line_no_set_up more (of_wait n low f) = w_set_up _

node_no_set_up : {b : Board} {k : LineKind} {u : Bytes} (more : Bytes) → NodeText b k u → NoSetUp (u ++ more)
unfolding written_move written_wait a_line printed
node_no_set_up more (first_text c ws) = m_set_up _
node_no_set_up more (move_text c ws) = m_set_up _
node_no_set_up more (wait_text ms) = w_set_up _

filled_no_set_up : {b : Board} {ds : List Due} {u : Bytes} → Filled b ds u → NoSetUp u
filled_no_set_up none_due = nothing_set_up
filled_no_set_up (one_due u v x f) = node_no_set_up v x

-- nodes that are due can be filled
fill_one : (b : Board) (k : LineKind) → (u : Bytes) × NodeText b k u
fill_one b K.First = (_, first_text 1 no_waits)
fill_one b K.Move = (_, move_text 1 no_waits)
fill_one b K.Wait = (_, wait_text (move 0 1 no_waits no_moves))

pub fill : (b : Board) (ds : List Due) → (u : Bytes) × Filled b ds u
fill b [] = ([], none_due)
fill b (d ∷ ds) =
    let (u, x) = fill_one b d.kind in
    let (v, f) = fill b ds in
    (u ++ v, one_due u v x f)

-- what stands before the text that is left, which another text may take the place of, if no set-up line begins it
record StonesStand (t : Bytes) (b : Board) (cs : List Stone) (left : Bytes) : Type 0 where
  before : Bytes
  split : t ≡ before ++ left
  instead : (more : Bytes) → SetUp (before ++ more) b cs more

stones_stand : {t : Bytes} {b : Board} {cs : List Stone} {left : Bytes} → SetUp t b cs left → StonesStand t b cs left
stones_stand {b = b} (after_header p left size e) = record { before = written_header b p; split = e; instead = λ more. after_header p more size refl }
stones_stand {b = b} (after_stone cs o p left a h on new) =
    let g = stones_stand a in
    let line = written_set_up o (some p) in
    record {
      before = g.before ++ line;
      split = g.split ∙ sym (append_assoc g.before line left);
      instead =
          λ more. after_stone cs o p more
          (subst (λ (u : Bytes). SetUp u b cs (line ++ more)) (sym (append_assoc g.before line more)) (g.instead (line ++ more))) h on new;
    }

record Stands (t : Bytes) (b : Board) (first n : ℕ) (ds : List Due) (left : Bytes) : Type 0 where
  before : Bytes
  split : t ≡ before ++ left
  instead : (more : Bytes) → NoSetUp more → Begins (before ++ more) b first n ds more

stands : {t : Bytes} {b : Board} {first n : ℕ} {ds : List Due} {left : Bytes} → Begins t b first n ds left → Stands t b first n ds left
stands (after_set_up cs left a no_more e) =
    let g = stones_stand a in
    record { before = g.before; split = g.split; instead = λ more none-there. after_set_up cs more (g.instead more) none-there e }
stands {b = b} {first = first} (after_line n d ds line left l a i few deep on) =
    let g = stands a in
    record {
      before = g.before ++ line;
      split = g.split ∙ sym (append_assoc g.before line left);
      instead =
          λ more none-there. after_line n d ds line more l
          (subst (λ (u : Bytes). Begins u b first n (d ∷ ds) (line ++ more)) (sym (append_assoc g.before line more)) (g.instead (line ++ more) (line_no_set_up more i))) i few deep on;
    }

-- so what stands is the beginning of the text of a tree
pub record TreeBegun (t left : Bytes) : Type 0 where
  pub before : Bytes
  pub split : t ≡ before ++ left
  pub more : Bytes
  pub tree : Sheet
  pub text : before ++ more ≡ written tree

pub begins_tree : (t : Bytes) (b : Board) (first n : ℕ) (ds : List Due) (left : Bytes) → Begins t b first n ds left → TreeBegun t left
begins_tree t b first n ds left a =
    let g = stands a in
    let (u, f) = fill b ds in
    let (s, e) = tree_begun (g.before ++ u) b first n ds u (g.instead u (filled_no_set_up f)) f in
    record { before = g.before; split = g.split; more = u; tree = s; text = e }
