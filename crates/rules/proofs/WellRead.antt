-- Every text that reads gives a sheet that is `WellRead`.
use mathlib.Core.Path.{◌≡◌, refl, sym, ap, ap₂, subst, subst⁻¹, ◌∙◌}
use mathlib.Core.Logic.{◌≢◌, ◌⊎◌, inl, inr}
use Prim.Native.Nat.{ℕ, zero, suc, ◌+◌, ◌-◌, ◌≤◌}
use mathlib.Core.List.{List, [], ◌∷◌, ◌++◌, append_assoc, append-nil}
use mathlib.Core.Option.{Option, none, some}
use lib.Dec.{T}
use lib.ListN.{length, length-append}
use native.Mathlib.Omega.{arith}
use Rattle.rules.specs.Sizes.{most_depth}
use Rattle.rules.specs.Words.{◌∈◌, at_head, in_tail}
use Rattle.rules.specs.Board.{is_cell}
use Rattle.rules.specs.Text.{Bytes, ◌or_else◌}
use Rattle.rules.specs.Lines.{Header, header_line, move_line, dash_line}
use Rattle.rules.specs.Tree.{Waits, no_waits, wait, Moves, no_moves, move, Wait, Move, Stone, Sheet, moves_of_waits, moves_of_moves, waits_of_waits, waits_of_moves, every_move, every_wait, move_count, wait_count}
use Rattle.rules.specs.Written.{written_stones, written}
use Rattle.rules.specs.Reading.{Result, refused, got, Spot, read_move, ended, read_set_up, read_tree, planted, read_body, headed, read_sheet_up_to, read_sheet}
use Rattle.rules.specs.Plain.{lines_of_waits, lines_of_moves, lines_of, up_from, depth_of_waits, depth_of_moves, WellRead}
use Rattle.rules.specs.declared.Board.{Board}
use Rattle.rules.proofs.Lists.{in_both}
use Rattle.rules.proofs.Steps.{not_refused, got_inj}
use Rattle.rules.proofs.Lines.{header_is, root_is}
use Rattle.rules.proofs.SetUp.{Good, StonesRead, stones_read, good_on, good_once}
use Rattle.rules.proofs.Reading.{nodes_in_waits, nodes_in_moves, ReadWaits, ReadMoves, MoveRead, move_read, cell_read}

-- waits have a move
mutual
  unfolding ReadWaits waits_of_waits

  some_in_waits : (ws : Waits) (b : Board) (levels from : ℕ) → ReadWaits ws b levels from → (w : Wait) → w ∈ waits_of_waits ws → w.moves ≢ no_moves
  some_in_waits no_waits b levels from r w h = elim h [ ]
  some_in_waits (wait line ms ws) b levels from r w at_head = r.0.2
  some_in_waits (wait line ms ws) b levels from r w (in_tail h) =
      elim (in_both (waits_of_moves ms) (waits_of_waits ws) h) [
        | inl k ↦ some_in_moves ms b (levels - 1) (from + 1) r.0.3 w k
        | inr k ↦ some_in_waits ws b levels (from + 1 + nodes_in_moves ms) r.1 w k
      ]

  some_in_moves : (ms : Moves) (b : Board) (levels from : ℕ) → ReadMoves ms b levels from → (w : Wait) → w ∈ waits_of_moves ms → w.moves ≢ no_moves
  some_in_moves no_moves b levels from r w h = elim h [ ]
  some_in_moves (move line c ws ms) b levels from r w h =
      elim (in_both (waits_of_waits ws) (waits_of_moves ms) h) [
        | inl k ↦ some_in_waits ws b (levels - 1) (from + 1) r.0.3 w k
        | inr k ↦ some_in_moves ms b levels (from + 1 + nodes_in_waits ws) r.1 w k
      ]

-- cells are on the board
mutual
  unfolding ReadWaits moves_of_waits

  board_in_waits : (ws : Waits) (b : Board) (levels from : ℕ) → ReadWaits ws b levels from → (m : Move) → m ∈ moves_of_waits ws → T (is_cell b m.cell)
  board_in_waits no_waits b levels from r m h = elim h [ ]
  board_in_waits (wait line ms ws) b levels from r m h =
      elim (in_both (moves_of_moves ms) (moves_of_waits ws) h) [
        | inl k ↦ board_in_moves ms b (levels - 1) (from + 1) r.0.3 m k
        | inr k ↦ board_in_waits ws b levels (from + 1 + nodes_in_moves ms) r.1 m k
      ]

  board_in_moves : (ms : Moves) (b : Board) (levels from : ℕ) → ReadMoves ms b levels from → (m : Move) → m ∈ moves_of_moves ms → T (is_cell b m.cell)
  board_in_moves no_moves b levels from r m h = elim h [ ]
  board_in_moves (move line c ws ms) b levels from r m at_head = r.0.2
  board_in_moves (move line c ws ms) b levels from r m (in_tail h) =
      elim (in_both (moves_of_waits ws) (moves_of_moves ms) h) [
        | inl k ↦ board_in_waits ws b (levels - 1) (from + 1) r.0.3 m k
        | inr k ↦ board_in_moves ms b levels (from + 1 + nodes_in_waits ws) r.1 m k
      ]

-- nodes are moves and waits
mutual
  unfolding nodes_in_waits moves_of_waits waits_of_waits

  pub nodes_of_waits_lem : (ws : Waits) → length (moves_of_waits ws) + length (waits_of_waits ws) ≡ nodes_in_waits ws
  nodes_of_waits_lem no_waits = refl
  nodes_of_waits_lem (wait line ms ws) =
      omega (arith, length-append (moves_of_moves ms) (moves_of_waits ws), length-append (waits_of_moves ms) (waits_of_waits ws), nodes_of_moves_lem ms, nodes_of_waits_lem ws)

  pub nodes_of_moves_lem : (ms : Moves) → length (moves_of_moves ms) + length (waits_of_moves ms) ≡ nodes_in_moves ms
  nodes_of_moves_lem no_moves = refl
  nodes_of_moves_lem (move line c ws ms) =
      omega (arith, length-append (moves_of_waits ws) (moves_of_moves ms), length-append (waits_of_waits ws) (waits_of_moves ms), nodes_of_waits_lem ws, nodes_of_moves_lem ms)

-- no deeper than the levels
mutual
  unfolding ReadWaits depth_of_waits

  waits_shallow : (ws : Waits) (b : Board) (levels from : ℕ) → ReadWaits ws b levels from → depth_of_waits ws ≤ levels
  waits_shallow no_waits b levels from r = omega arith
  waits_shallow (wait line ms ws) b levels from r =
      omega (arith, r.0.1, moves_shallow ms b (levels - 1) (from + 1) r.0.3, waits_shallow ws b levels (from + 1 + nodes_in_moves ms) r.1)

  moves_shallow : (ms : Moves) (b : Board) (levels from : ℕ) → ReadMoves ms b levels from → depth_of_moves ms ≤ levels
  moves_shallow no_moves b levels from r = omega arith
  moves_shallow (move line c ws ms) b levels from r =
      omega (arith, r.0.1, waits_shallow ws b (levels - 1) (from + 1) r.0.3, moves_shallow ms b levels (from + 1 + nodes_in_waits ws) r.1)

-- lines in order
up_both : (i m n : ℕ) → up_from i (m + n) ≡ up_from i m ++ up_from (i + m) n
unfolding up_from
up_both i zero n =
    let a : zero + n ≡ n = omega arith in
    let b : i ≡ i + 0 = omega arith in
    ap (up_from i) a ∙ ap (λ (k : ℕ). up_from k n) b
up_both i (suc m) n =
    let a : suc m + n ≡ suc (m + n) = omega arith in
    let b : suc i + m ≡ i + suc m = omega arith in
    ap (up_from i) a ∙ ap (λ (l : List ℕ). i ∷ l) (up_both (suc i) m n ∙ ap (λ (k : ℕ). up_from (suc i) m ++ up_from k n) b)

-- a node's line, the lines under it, and the lines after it
up_node : (line from m n : ℕ) (under after : List ℕ) → line ≡ from → under ≡ up_from (from + 1) m → after ≡ up_from (from + 1 + m) n
    → (line ∷ under ++ after) ≡ up_from from (1 + m + n)
unfolding up_from
up_node line from m n under after e u a =
    let k : 1 + m + n ≡ suc (m + n) = omega arith in
    let i : from + 1 ≡ suc from = omega arith in
    ap₂ ◌∷◌ e (ap₂ ◌++◌ u a ∙ sym (up_both (from + 1) m n) ∙ ap (λ (j : ℕ). up_from j (m + n)) i) ∙ sym (ap (up_from from) k)

mutual
  unfolding ReadWaits lines_of_waits nodes_in_waits up_from

  waits_in_order : (ws : Waits) (b : Board) (levels from : ℕ) → ReadWaits ws b levels from → lines_of_waits ws ≡ up_from from (nodes_in_waits ws)
  waits_in_order no_waits b levels from r = refl
  waits_in_order (wait line ms ws) b levels from r =
      up_node line from (nodes_in_moves ms) (nodes_in_waits ws) (lines_of_moves ms) (lines_of_waits ws) r.0.0
      (moves_in_order ms b (levels - 1) (from + 1) r.0.3)
      (waits_in_order ws b levels (from + 1 + nodes_in_moves ms) r.1)

  moves_in_order : (ms : Moves) (b : Board) (levels from : ℕ) → ReadMoves ms b levels from → lines_of_moves ms ≡ up_from from (nodes_in_moves ms)
  moves_in_order no_moves b levels from r = refl
  moves_in_order (move line c ws ms) b levels from r =
      up_node line from (nodes_in_waits ws) (nodes_in_moves ms) (lines_of_waits ws) (lines_of_moves ms) r.0.0
      (waits_in_order ws b (levels - 1) (from + 1) r.0.3)
      (moves_in_order ms b levels (from + 1 + nodes_in_waits ws) r.1)

-- of the whole sheet: its header was read, then its set-up lines, then its root from the next line on, and no text is left
record SheetRead (t : Bytes) (s : Sheet) : Type 0 where
  body : Bytes
  header : header_line t ≡ some (record { board = s.board; player = s.player }, body)
  tree : Bytes
  set_up_read : read_set_up (length body) s.board [] body ≡ got (s.set_up, tree)
  after : Spot
  root_read : read_move most_depth s.board (move_line or_else dash_line) (record { text = tree; line = length s.set_up + 2; nodes = 0 }) ≡ got (s.root, after)
  no_more : after.text ≡ []

record Ended (h : Header) (cs : List Stone) (r : Result (Move × Spot)) (s : Sheet) : Type 0 where
  header : h ≡ record { board = s.board; player = s.player }
  stones : cs ≡ s.set_up
  after : Spot
  root : r ≡ got (s.root, after)
  no_more : after.text ≡ []

ended_got : (h : Header) (cs : List Stone) (r : Result (Move × Spot)) (s : Sheet) → ended h cs r ≡ got s → Ended h cs r s
unfolding ended
ended_got h cs (refused v) s e = absurd (not_refused e)
ended_got h cs (got x) s e = by_text x.1.text refl
  where
    by_text : (t : Bytes) → x.1.text ≡ t → Ended h cs (got x) s
    by_text [] k = subst (Ended h cs (got x)) (got_inj (rw (k, ended) at e)) (record { header = refl; stones = refl; after = x.1; root = refl; no_more = k })
    by_text (c ∷ t) k = absurd (not_refused (rw (k, ended) at e))

planted_got : (h : Header) (r : Result (List Stone × Bytes)) (s : Sheet) → planted h r ≡ got s
    → (u : Bytes) × (r ≡ got (s.set_up, u)) × Ended h s.set_up (read_move most_depth h.board (move_line or_else dash_line) (record { text = u; line = length s.set_up + 2; nodes = 0 })) s
unfolding planted read_tree
planted_got h (refused v) s e = absurd (not_refused e)
planted_got h (got x) s e =
    let g = ended_got h x.0 _ s e in (
      x.1,
      ap (λ (cs : List Stone). got (cs, x.1)) g.stones,
      subst (λ (cs : List Stone). Ended h cs (read_move most_depth h.board (move_line or_else dash_line) (record { text = x.1; line = length cs + 2; nodes = 0 })) s) g.stones g,
    )

headed_got : (t : Bytes) (o : Option (Header × Bytes)) (s : Sheet) → header_line t ≡ o → headed o ≡ got s → SheetRead t s
unfolding headed read_body
headed_got t none s f e = absurd (not_refused e)
headed_got t (some x) s f e =
    let (u, stones, g) = planted_got x.0 _ s e in
    let h = g.header in
    record {
      body = x.1;
      header = f ∙ ap (λ (k : Header). some (k, x.1)) h;
      tree = u;
      set_up_read = ap (λ (k : Header). read_set_up (length x.1) k.board [] x.1) (sym h) ∙ stones;
      after = g.after;
      root_read = ap (λ (k : Header). read_move most_depth k.board (move_line or_else dash_line) (record { text = u; line = length s.set_up + 2; nodes = 0 })) (sym h) ∙ g.root;
      no_more = g.no_more;
    }

module _ (t : Bytes) (s : Sheet) (e : read_sheet t ≡ got s) where
  sheet_read : SheetRead t s
  unfolding read_sheet_up_to
  sheet_read = headed_got t (header_line t) s refl e

  stones_are : StonesRead s.board [] sheet_read.body s.set_up sheet_read.tree
  stones_are = stones_read (length sheet_read.body) s.board [] sheet_read.body (s.set_up, sheet_read.tree) sheet_read.set_up_read

  stones_good : Good s.board [] s.set_up
  stones_good = subst⁻¹ (Good s.board []) stones_are.after stones_are.good

  root_read : MoveRead s.board (move_line or_else dash_line) most_depth (record { text = sheet_read.tree; line = length s.set_up + 2; nodes = 0 }) s.root sheet_read.after
  root_read = move_read most_depth s.board (move_line or_else dash_line) (record { of = root_is }) _ s.root sheet_read.after sheet_read.root_read

  pub well_read : WellRead s
  unfolding every_wait move_count wait_count every_move lines_of up_from
  well_read =
      let size = (header_is t _ sheet_read.header).1 in
      let m = root_read in
      let b = s.board in
      let ws = s.root.waits in
      let first = length s.set_up + 2 in
      let n = m.node_of.2 in
      let nodes : length (every_move s) + length (every_wait s) ≡ suc (nodes_in_waits ws) = omega (arith, nodes_of_waits_lem ws) in
      let next : first + 1 ≡ suc first = omega arith in
      record {
        size = size;
        set_up_on_board = good_on stones_good;
        set_up_once = good_once stones_good;
        some_moves = some_in_waits ws b 127 (first + 1) m.waits_of;
        on_board_lem = board_in_waits ws b 127 (first + 1) m.waits_of;
        root_on_board = subst⁻¹ (λ (z : ℕ). (z ≡ 0) ⊎ T (is_cell b z)) (m.node_of.3 ∙ n.its_cell) (cell_read b n.line_read.0.place n.inside);
        few_nodes = omega (arith, nodes, m.went_of.nodes_went, m.went_of.still_few (omega arith));
        shallow = omega (arith, waits_shallow ws b 127 (first + 1) m.waits_of);
        first_line_lem = m.line_of;
        in_order = rw (m.line_of, nodes) (ap (λ (l : List ℕ). first ∷ l) (waits_in_order ws b 127 (first + 1) m.waits_of ∙ ap (λ (i : ℕ). up_from i (nodes_in_waits ws)) next));
      }

  -- the text that was read is what is written of the sheet
  pub print_back : t ≡ written s
  unfolding written
  print_back =
      let stones : sheet_read.body ≡ written_stones s.board s.set_up ++ sheet_read.tree =
      subst⁻¹ (λ (cs : List Stone). sheet_read.body ≡ written_stones s.board cs ++ sheet_read.tree) stones_are.after stones_are.text in
      (header_is t _ sheet_read.header).0 ∙ rw (stones, root_read.went_of.text_went, sheet_read.no_more) (simp (append_assoc, append-nil))
