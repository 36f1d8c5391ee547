-- The reading in plain words: a text reads as a sheet exactly when it is what is written of the sheet and the sheet is `WellRead`.
use mathlib.Core.Path.{◌≡◌, refl, sym, ap, ap₂, ◌∙◌}
use mathlib.Core.Logic.{◌≢◌, ◌↔◌}
use Prim.Native.Nat.{ℕ, zero, suc, ◌+◌, ◌-◌, ◌≤◌, ◌<◌}
use mathlib.Core.List.{List, [], ◌∷◌, ◌++◌, append_assoc, append-nil}
use mathlib.Core.Option.{some}
use lib.Dec.{T}
use lib.ListN.{length}
use native.Mathlib.Omega.{arith}
use Rattle.rules.specs.Sizes.{most_nodes}
use Rattle.rules.specs.Words.{◌∈◌, at_head, in_tail}
use Rattle.rules.specs.Board.{is_cell}
use Rattle.rules.specs.Text.{Bytes, Reader, ◌or_else◌}
use Rattle.rules.specs.Lines.{Line, Header, move_line, dash_line, wait_line}
use Rattle.rules.specs.Tree.{Waits, no_waits, wait, Moves, no_moves, move, Wait, Move, as_waits, as_moves, Sheet, moves_of_waits, moves_of_moves, waits_of_waits, waits_of_moves, every_move, every_wait, move_count, wait_count}
use Rattle.rules.specs.Written.{printed, a_line, written_header, place_of, how_many_waits, how_many_moves, written_move, written_wait, written_waits, written_moves, written_stones, written}
use Rattle.rules.specs.Reading.{Result, got, Spot, Reading, go, give, within, cell_of, node_here, node_line, in_turn, read_move, read_wait, ended, read_tree, planted, read_body, headed, read_sheet_up_to, read_sheet}
use Rattle.rules.specs.Unread.{BoardSize}
use Rattle.rules.specs.Plain.{lines_of_waits, lines_of_moves, lines_of, up_from, depth_of_waits, depth_of_moves, WellRead, Spells}
use Rattle.rules.specs.declared.Board.{Board}
use Rattle.rules.proofs.NodeLine.{sees_line, seen_is}
use Rattle.rules.proofs.Lists.{in_first, in_second, not_nil}
use Rattle.rules.proofs.Lines.{header_back, no_set_up_line, wait_back, Names, cell_names, root_names}
use Rattle.rules.proofs.SetUp.{stones_back, good_of}
use Rattle.rules.proofs.Reading.{nodes_in_waits, nodes_in_moves, ReadWaits, ReadMoves}
use Rattle.rules.proofs.WellRead.{well_read, print_back, nodes_of_waits_lem}

-- lines that go up begin with their first, and go on after it
up_first : (line from n : ℕ) (l : List ℕ) → line ∷ l ≡ up_from from n → (line ≡ from) × (k : ℕ) × (l ≡ up_from (from + 1) k)
unfolding up_from
up_first line from zero l e = let z : ◌≡◌ {A = ℕ} 0 1 = cc in absurd (omega arith)
up_first line from (suc n) l e = let next : suc from ≡ from + 1 = omega arith in (cc, n, cc)

-- a tree that is `WellRead` is one as the reading gives it, and the lines go on after it
mutual
  unfolding ReadWaits lines_of_waits depth_of_waits waits_of_waits moves_of_waits nodes_in_waits

  waits_placed : (ws : Waits) (rest : List ℕ) (b : Board) (levels from n : ℕ) → ((w : Wait) → w ∈ waits_of_waits ws → w.moves ≢ no_moves)
      → ((m : Move) → m ∈ moves_of_waits ws → T (is_cell b m.cell)) → depth_of_waits ws ≤ levels → lines_of_waits ws ++ rest ≡ up_from from n
      → ReadWaits ws b levels from × (k : ℕ) × (rest ≡ up_from (from + nodes_in_waits ws) k)
  waits_placed no_waits rest b levels from n some_in on deep e = let here : from ≡ from + 0 = omega arith in (tt, n, cc)
  waits_placed (wait line ms ws) rest b levels from n some_in on deep e =
      let (at, k, tail) = up_first line from n (lines_of_moves ms ++ lines_of_waits ws ++ rest) e in
      let (under, j, after) =
      moves_placed ms (lines_of_waits ws ++ rest) b (levels - 1) (from + 1) k (λ w i. some_in w (in_tail (in_first (waits_of_waits ws) i)))
      (λ m i. on m (in_first (moves_of_waits ws) i)) (omega arith) (sym (append_assoc (lines_of_moves ms) (lines_of_waits ws) rest) ∙ tail) in
      let (beside, i, last) =
      waits_placed ws rest b levels (from + 1 + nodes_in_moves ms) j (λ w i. some_in w (in_tail (in_second (waits_of_moves ms) i)))
      (λ m i. on m (in_second (moves_of_moves ms) i)) (omega arith) after in
      let there : from + 1 + nodes_in_moves ms + nodes_in_waits ws ≡ from + (1 + nodes_in_moves ms + nodes_in_waits ws) = omega arith in
      (((at, omega arith, some_in _ at_head, under), beside), i, last ∙ ap (λ (f : ℕ). up_from f i) there)

  moves_placed : (ms : Moves) (rest : List ℕ) (b : Board) (levels from n : ℕ) → ((w : Wait) → w ∈ waits_of_moves ms → w.moves ≢ no_moves)
      → ((m : Move) → m ∈ moves_of_moves ms → T (is_cell b m.cell)) → depth_of_moves ms ≤ levels → lines_of_moves ms ++ rest ≡ up_from from n
      → ReadMoves ms b levels from × (k : ℕ) × (rest ≡ up_from (from + nodes_in_moves ms) k)
  moves_placed no_moves rest b levels from n some_in on deep e = let here : from ≡ from + 0 = omega arith in (tt, n, cc)
  moves_placed (move line c ws ms) rest b levels from n some_in on deep e =
      let (at, k, tail) = up_first line from n (lines_of_waits ws ++ lines_of_moves ms ++ rest) e in
      let (under, j, after) =
      waits_placed ws (lines_of_moves ms ++ rest) b (levels - 1) (from + 1) k (λ w i. some_in w (in_first (waits_of_moves ms) i))
      (λ m i. on m (in_tail (in_first (moves_of_moves ms) i))) (omega arith) (sym (append_assoc (lines_of_waits ws) (lines_of_moves ms) rest) ∙ tail) in
      let (beside, i, last) =
      moves_placed ms rest b levels (from + 1 + nodes_in_waits ws) j (λ w i. some_in w (in_second (waits_of_waits ws) i))
      (λ m i. on m (in_tail (in_second (moves_of_waits ws) i))) (omega arith) after in
      let there : from + 1 + nodes_in_waits ws + nodes_in_moves ms ≡ from + (1 + nodes_in_waits ws + nodes_in_moves ms) = omega arith in
      (((at, omega arith, on _ at_head, under), beside), i, last ∙ ap (λ (f : ℕ). up_from f i) there)

-- one reading after another
go_back : {X Y : Type 0} {r : Result (X × Spot)} {x : X} {u : Spot} {z : Result (Y × Spot)} → r ≡ got (x, u) → (f : X → Reading Y) → f x u ≡ z → go r f ≡ z
unfolding go
go_back e f q = rw e q

abbrev spot : Bytes → ℕ → ℕ → Spot
spot t i k = record { text = t; line = i; nodes = k }

-- a node's line that its reader reads
node_back : (b : Board) (r : Reader Line) (levels i k : ℕ) (c : ℕ) (t u : Bytes) (l : Line) → r (c ∷ t) ≡ some (l, u) → T (within b l.place) → k < most_nodes
    → node_line b r (suc levels) (spot (c ∷ t) i k) ≡ got (record { line = i; cell = cell_of b l.place; under = l.under }, spot u (i + 1) (k + 1))
unfolding node_here
node_back b r levels i k c t u l e h f =
    seen_is b r (suc levels) (spot (c ∷ t) i k) _
    (sees_line (record { some_text = not_nil refl; not_full = λ q. omega arith }) (l, u) e (λ z. omega arith) h)

-- sums of lines and of nodes
add_zero : (i : ℕ) → i ≡ i + 0
add_zero i = omega arith

add_more : (i m n : ℕ) → i + (1 + m + n) ≡ i + 1 + m + n
add_more i m n = omega arith

-- those right under a node are no more than all
few_waits : (ws : Waits) → how_many_waits ws ≤ nodes_in_waits ws
unfolding how_many_waits nodes_in_waits
few_waits no_waits = omega arith
few_waits (wait line ms ws) = omega (arith, few_waits ws)

few_moves : (ms : Moves) → how_many_moves ms ≤ nodes_in_moves ms
unfolding how_many_moves nodes_in_moves
few_moves no_moves = omega arith
few_moves (move line c ws ms) = omega (arith, few_moves ms)

some_moves : (ms : Moves) → ms ≢ no_moves → 1 ≤ how_many_moves ms
unfolding how_many_moves
some_moves no_moves h = absurd (h refl)
some_moves (move line c ws ms) h = omega arith

module _ (b : Board) (size : BoardSize b) where
  -- the waits are read from one spot to another, and so are the moves
  record WaitsRead (levels : ℕ) (ws : Waits) (s v : Spot) : Type 0 where
    list : List Wait
    same : as_waits list ≡ ws
    read : in_turn (how_many_waits ws) (read_wait levels b) s ≡ got (list, v)

  record MovesRead (levels : ℕ) (ms : Moves) (s v : Spot) : Type 0 where
    list : List Move
    same : as_moves list ≡ ms
    read : in_turn (how_many_moves ms) (read_move levels b move_line) s ≡ got (list, v)

  -- a move, or a wait, where what is under it is read
  move_one : (r : Reader Line) (levels i k c : ℕ) (ws : Waits) (t : Bytes) (v : Spot) → Names r b c → k + 1 + nodes_in_waits ws ≤ most_nodes
      → WaitsRead levels ws (spot t (i + 1) (k + 1)) v
      → read_move (suc levels) b r (spot (written_move (place_of b c) (how_many_waits ws) ++ t) i k) ≡ got (record { line = i; cell = c; waits = ws }, v)
  unfolding read_move give written_move a_line printed
  move_one r levels i k c ws t v n f a =
      go_back (node_back b r levels i k 109 _ t _ (n.read (how_many_waits ws) t (omega (arith, few_waits ws))) n.inside (omega arith)) _
      (go_back a.read _ (ap₂ (λ (x : ℕ) (y : Waits). got (record { line = i; cell = x; waits = y }, v)) n.its_cell a.same))

  wait_one : (levels i k : ℕ) (ms : Moves) (t : Bytes) (v : Spot) → ms ≢ no_moves → k + 1 + nodes_in_moves ms ≤ most_nodes
      → MovesRead levels ms (spot t (i + 1) (k + 1)) v
      → read_wait (suc levels) b (spot (written_wait (how_many_moves ms) ++ t) i k) ≡ got (record { line = i; moves = ms }, v)
  unfolding read_wait give written_wait a_line printed within
  wait_one levels i k ms t v h f a =
      go_back (node_back b wait_line levels i k 119 _ t _ (wait_back (how_many_moves ms) t (omega (arith, few_moves ms)) (some_moves ms h)) tt (omega arith)) _
      (go_back a.read _ (ap (λ (y : Moves). got (record { line = i; moves = y }, v)) a.same))

  -- what is written of waits and of moves is read
  mutual
    unfolding ReadWaits written_waits nodes_in_waits how_many_waits how_many_moves as_waits as_moves in_turn give

    waits_back : (ws : Waits) (levels : ℕ) (u : Bytes) (i k : ℕ) → ReadWaits ws b levels i → k + nodes_in_waits ws ≤ most_nodes
        → WaitsRead levels ws (spot (written_waits b ws ++ u) i k) (spot u (i + nodes_in_waits ws) (k + nodes_in_waits ws))
    waits_back no_waits levels u i k r f = record { list = []; same = refl; read = ap₂ (λ (i k : ℕ). got ([], spot u i k)) (add_zero i) (add_zero k) }
    waits_back (wait line ms ws) zero u i k r f = absurd (omega (arith, r.0.1))
    waits_back (wait line ms ws) (suc levels) u i k r f =
        let one_less : suc levels - 1 ≡ levels = omega arith in
        let under = moves_back ms levels (written_waits b ws ++ u) (i + 1) (k + 1) (rw one_less at r.0.3) (omega arith) in
        let beside = waits_back ws (suc levels) u (i + 1 + nodes_in_moves ms) (k + 1 + nodes_in_moves ms) r.1 (omega arith) in
        record {
          list = record { line = i; moves = ms } ∷ beside.list;
          same = ap₂ (λ (l : ℕ) (z : Waits). wait l ms z) (sym r.0.0) beside.same;
          read =
              simp append_assoc (rw (add_more i (nodes_in_moves ms) (nodes_in_waits ws), add_more k (nodes_in_moves ms) (nodes_in_waits ws))
              (go_back (wait_one levels i k ms _ _ r.0.2 (omega arith) under) _ (go_back beside.read _ refl)));
        }

    moves_back : (ms : Moves) (levels : ℕ) (u : Bytes) (i k : ℕ) → ReadMoves ms b levels i → k + nodes_in_moves ms ≤ most_nodes
        → MovesRead levels ms (spot (written_moves b ms ++ u) i k) (spot u (i + nodes_in_moves ms) (k + nodes_in_moves ms))
    moves_back no_moves levels u i k r f = record { list = []; same = refl; read = ap₂ (λ (i k : ℕ). got ([], spot u i k)) (add_zero i) (add_zero k) }
    moves_back (move line c ws ms) zero u i k r f = absurd (omega (arith, r.0.1))
    moves_back (move line c ws ms) (suc levels) u i k r f =
        let one_less : suc levels - 1 ≡ levels = omega arith in
        let under = waits_back ws levels (written_moves b ms ++ u) (i + 1) (k + 1) (rw one_less at r.0.3) (omega arith) in
        let beside = moves_back ms (suc levels) u (i + 1 + nodes_in_waits ws) (k + 1 + nodes_in_waits ws) r.1 (omega arith) in
        record {
          list = record { line = i; cell = c; waits = ws } ∷ beside.list;
          same = ap₂ (λ (l : ℕ) (z : Moves). move l c ws z) (sym r.0.0) beside.same;
          read =
              simp append_assoc (rw (add_more i (nodes_in_waits ws) (nodes_in_moves ms), add_more k (nodes_in_waits ws) (nodes_in_moves ms))
              (go_back (move_one move_line levels i k c ws _ _ (cell_names b c size r.0.2) (omega arith) under) _ (go_back beside.read _ refl)));
        }

-- what is written of a sheet that is `WellRead` reads as that sheet
pub read_back : (s : Sheet) → WellRead s → read_sheet (written s) ≡ got s
unfolding read_sheet_up_to headed read_body planted read_tree ended written lines_of move_count wait_count every_move every_wait
read_back s h =
    let b = s.board in
    let ws = s.root.waits in
    let cs = s.set_up in
    let size = h.size in
    let first = length cs + 2 in
    let header : Header = record { board = b; player = s.player } in
    let (line, k, lines) = up_first s.root.line first _ (lines_of_waits ws) (h.in_order ∙ ap (λ (i : ℕ). up_from i (move_count s + wait_count s)) h.first_line_lem) in
    let (tree, _, _) = waits_placed ws [] b 127 (first + 1) k h.some_moves h.on_board_lem (omega (arith, h.shallow)) (append-nil (lines_of_waits ws) ∙ lines) in
    let few : 1 + nodes_in_waits ws ≤ most_nodes = omega (arith, h.few_nodes, nodes_of_waits_lem ws) in
    let root =
    move_one b size (move_line or_else dash_line) 127 first 0 s.root.cell ws (written_waits b ws ++ []) _
    (root_names b s.root.cell size h.root_on_board) (omega arith) (waits_back b size ws 127 [] (first + 1) 1 tree few) in
    let rest : Bytes = written_move (place_of b s.root.cell) (how_many_waits ws) ++ (written_waits b ws ++ []) in
    let stones =
    stones_back b size (length (written_stones b cs ++ rest)) [] cs rest (good_of b [] cs h.set_up_on_board h.set_up_once)
    (unfold written_move a_line printed in no_set_up_line 109 _ (λ e. omega arith)) (omega arith) in
    let text : written s ≡ written_header b s.player ++ (written_stones b cs ++ rest) = simp (append_assoc, append-nil) in
    ap read_sheet text
    ∙ ap headed (header_back b s.player _ size)
    ∙ ap (planted header) stones
    ∙ ap (ended header cs) root
    ∙ ap (λ (l : ℕ). got (record { board = b; player = s.player; set_up = cs; root = record { line = l; cell = s.root.cell; waits = ws } })) (sym line)

-- a text reads as a sheet exactly when it is what is written of the sheet, and the sheet is `WellRead`
pub reads_exactly : (t : Bytes) (s : Sheet) → (read_sheet t ≡ got s) ↔ Spells t s
reads_exactly t s = (λ e. record { text = print_back t s e; well = well_read t s e }, λ h. ap read_sheet h.text ∙ read_back s h.well)
