-- The refusals of the reading in plain words: a text is refused with v exactly when it is `Unread` with v.
use mathlib.Core.Path.{◌≡◌, refl, sym, ap, subst, subst⁻¹, ◌∙◌}
use mathlib.Core.Logic.{◌≢◌, ◌↔◌, ◌⊎◌, inl, inr, ⊎_elim}
use Prim.Native.Nat.{ℕ, zero, suc, ◌+◌, ◌-◌, ◌≤◌, ◌<◌}
use mathlib.Core.Bool.{Bool, true, false, not}
use mathlib.Core.List.{List, [], ◌∷◌, ◌++◌}
use mathlib.Core.Option.{Option, none, some}
use lib.Dec.{T, ltb}
use lib.ListN.{length}
use borrow.Author.Tests.{ltb-true, ltb-false}
use native.Mathlib.Nat.{eq-zero-or-pos}
use native.Mathlib.Omega.{arith}
use Rattle.rules.specs.Sizes.{most_nodes, most_depth}
use Rattle.rules.specs.Words.{◌∈◌, at_head, in_tail, among}
use Rattle.rules.specs.Board.{on_board}
use Rattle.rules.specs.Text.{Bytes}
use Rattle.rules.specs.Lines.{Place, Line, Header, header_line, Side, SetUpLine, set_up_line, reader_of, kind_under}
use Rattle.rules.specs.Tree.{Move, Stone, Sheet, set_up_cells}
use Rattle.rules.specs.Written.{printed, a_line, written_set_up, written_move, written_wait}
use Rattle.rules.specs.Reading.{Result, refused, got, Spot, Reading, go, give, within, cell_of, Node, node_here, node_line, in_turn, read_move, read_wait, ended, set_down, read_set_up, read_tree, planted, read_body, headed, read_sheet_up_to, read_sheet}
use Rattle.rules.specs.Unread.{IsLine, of_move, of_first, of_dash, of_wait, Due, due_after, Nameable, NoSetUp, cell_on, SetUp, after_header, after_stone, Begins, after_set_up, after_line, Unread, no_header, no_line, off_board, stone_off, stone_twice, one_too_many, too_deep, text_ends, text_remains}
use Rattle.rules.specs.Plain.{Spells}
use Rattle.rules.specs.declared.Board.{Board}
use Rattle.rules.specs.declared.LineKind.{LineKind}
use Rattle.rules.specs.declared.LineKind.TheVariants as K
use Rattle.rules.specs.declared.Player.{Player}
use Rattle.rules.specs.declared.Verdict.{Verdict}
use Rattle.rules.specs.declared.Verdict.TheVariants.{BadHeader, BadLine, OffBoard, TooManyNodes, TooDeep, Unfinished, TextAfter}
use Rattle.rules.proofs.Lists.{nothing_in, not_nil}
use Rattle.rules.proofs.Steps.{none≢some, some_inj, not_refused, got_inj, refused_inj}
use Rattle.rules.proofs.Lines.{header_is, header_back, set_up_is, set_up_back, LineRead, line_is, line_back}
use Rattle.rules.proofs.SetUp.{stone_of, down, down_off, down_twice, Downed, is_down, is_off, is_twice, downed, set_up_refused, set_up_got, set_up_none, longer_set_up}
use Rattle.rules.proofs.NodeLine.{LineBegins, LineSeen, sees_end, sees_many, sees_bad, sees_deep, sees_off, sees_line, seen_is, line_seen_lem}
use Rattle.rules.proofs.Reading.{node_read}
use Rattle.rules.proofs.Written.{reads_exactly}

-- the levels that are left at a node that is due, its own among them
unfoldable levels_at : Due → ℕ
levels_at d = suc most_depth - d.depth

-- the next line, where this node is due
abbrev next_line : Board → Due → Reading Node
next_line b d = node_line b (reader_of d.kind) (levels_at d)

-- The reading line by line, with the nodes that are due in place of its calls: what it comes to, a refusal or none
data Runs (b : Board) : List Due → Spot → Option Verdict → Type 0 where
  finishes : (s : Spot) → s.text ≡ [] → Runs b [] s none
  remains : (s : Spot) (c : ℕ) (t : Bytes) → s.text ≡ c ∷ t → Runs b [] s (some (TextAfter s.line))
  refuses : (d : Due) (ds : List Due) (s : Spot) (v : Verdict) → next_line b d s ≡ refused v → Runs b (d ∷ ds) s (some v)
  passes : (d : Due) (ds : List Due) (s : Spot) (n : Node) (u : Spot) (r : Option Verdict) → next_line b d s ≡ got (n, u) → Runs b (due_after d n.under ds) u r
      → Runs b (d ∷ ds) s r

-- it comes to one thing
runs_one : (b : Board) {ds : List Due} {s : Spot} {r q : Option Verdict} → Runs b ds s r → Runs b ds s q → r ≡ q
runs_one b (finishes s e) (finishes _ f) = refl
runs_one b (finishes s e) (remains _ c t f) = let z : [] ≡ c ∷ t = sym e ∙ f in cc
runs_one b (remains s c t e) (finishes _ f) = let z : [] ≡ c ∷ t = sym f ∙ e in cc
runs_one b (remains s c t e) (remains _ _ _ f) = refl
runs_one b (refuses d ds s v e) (refuses _ _ _ w f) = ap some (refused_inj (sym e ∙ f))
runs_one b (refuses d ds s v e) (passes _ _ _ n u r f q) = absurd (not_refused (sym e ∙ f))
runs_one b (passes d ds s n u r e p) (refuses _ _ _ w f) = absurd (not_refused (sym f ∙ e))
runs_one b {q = k} (passes d ds s n u r e p) (passes _ _ _ m v _ f q) =
    runs_one b p (subst⁻¹ (λ (z : Node × Spot). Runs b (due_after d z.0.under ds) z.1 k) (got_inj (sym e ∙ f)) q)

-- A reading of the first of the nodes that are due: refused, or on to where the others are due
data Follows {X : Type 0} (b : Board) (ds : List Due) (s : Spot) (es : List Due) : Result (X × Spot) → Type 0 where
  stops : (v : Verdict) → Runs b ds s (some v) → Follows b ds s es (refused v)
  goes : (x : X × Spot) → ((r : Option Verdict) → Runs b es x.1 r → Runs b ds s r) → Follows b ds s es (got x)

module _ (b : Board) where
  follows_on : {X : Type 0} {ds es fs : List Due} {s u : Spot} {q : Result (X × Spot)} → ((r : Option Verdict) → Runs b es u r → Runs b ds s r)
      → Follows b es u fs q → Follows b ds s fs q
  follows_on h (stops v f) = stops v (h (some v) f)
  follows_on h (goes x f) = goes x (λ r q. h r (f r q))

  go_follows : {X Y : Type 0} {ds es fs : List Due} {s : Spot} {q : Result (X × Spot)} (f : X → Reading Y) → Follows b ds s es q
      → ((x : X) (u : Spot) → Follows b es u fs (f x u)) → Follows b ds s fs (go q f)
  unfolding go
  go_follows f (stops v a) h = stops v a
  go_follows f (goes x a) h = follows_on a (h x.0 x.1)

  give_follows : {X : Type 0} (x : X) (s : Spot) (ds : List Due) → Follows b ds s ds (give x s)
  unfolding give
  give_follows x s ds = goes (x, s) (λ r q. q)

  node_follows : {Y : Type 0} (d : Due) (ds : List Due) (s : Spot) (f : Node → Reading Y)
      → ((n : Node) (u : Spot) → next_line b d s ≡ got (n, u) → Follows b (due_after d n.under ds) u ds (f n u))
      → (q : Result (Node × Spot)) → next_line b d s ≡ q → Follows b (d ∷ ds) s ds (go q f)
  unfolding go
  node_follows d ds s f h (refused v) e = stops v (refuses d ds s v e)
  node_follows d ds s f h (got x) e = follows_on (λ r q. passes d ds s x.0 x.1 r e q) (h x.0 x.1 e)

  turn_follows : {X : Type 0} (d : Due) (n : ℕ) (one : Reading X)
      → ((s : Spot) (ds : List Due) → Follows b (record { kind = kind_under d.kind; depth = suc d.depth } ∷ ds) s ds (one s))
      → (s : Spot) (ds : List Due) → Follows b (due_after d n ds) s ds (in_turn n one s)
  unfolding in_turn due_after
  turn_follows d zero one h s ds = give_follows [] s ds
  turn_follows d (suc n) one h s ds =
      go_follows _ (h s (due_after d n ds)) (λ x u. go_follows _ (turn_follows d n one h u ds) (λ xs v. give_follows (x ∷ xs) v ds))

  abbrev due : LineKind → ℕ → Due
  due k depth = record { kind = k; depth = depth }

  -- where no level is left no line is read
  none_left : (d : Due) (s : Spot) (n : Node) (u : Spot) → levels_at d ≡ 0 → next_line b d s ≡ got (n, u) → ⊥
  none_left d s n u l e = omega (arith, l, (node_read b (reader_of d.kind) (levels_at d) s (n, u) e).level_left)

  level_under : (k l : LineKind) (depth levels : ℕ) → levels_at (due k depth) ≡ suc levels → levels_at (due l (suc depth)) ≡ levels
  unfolding levels_at
  level_under k l depth levels e = omega arith

  -- a move, and a wait, with all that is under it
  mutual
    unfolding read_move

    move_follows : (levels : ℕ) (k : LineKind) (depth : ℕ) → kind_under k ≡ K.Wait → levels_at (due k depth) ≡ levels → (s : Spot) (ds : List Due)
        → Follows b (due k depth ∷ ds) s ds (read_move levels b (reader_of k) s)
    move_follows zero k depth w l s ds =
        node_follows (due k depth) ds s _ (λ n u e. absurd (none_left (due k depth) s n u l e)) _ (ap (λ (i : ℕ). node_line b (reader_of k) i s) l)
    move_follows (suc levels) k depth w l s ds =
        node_follows (due k depth) ds s _
        (λ n u e. go_follows _ (turn_follows (due k depth) n.under (read_wait levels b)
        (λ v es. subst⁻¹ (λ (j : LineKind). Follows b (due j (suc depth) ∷ es) v es (read_wait levels b v)) w (wait_follows levels (suc depth) (level_under k K.Wait depth levels l) v es)) u ds)
        (λ ws v. give_follows _ v ds)) _ (ap (λ (i : ℕ). node_line b (reader_of k) i s) l)

    wait_follows : (levels depth : ℕ) → levels_at (due K.Wait depth) ≡ levels → (s : Spot) (ds : List Due) → Follows b (due K.Wait depth ∷ ds) s ds (read_wait levels b s)
    wait_follows zero depth l s ds =
        node_follows (due K.Wait depth) ds s _ (λ n u e. absurd (none_left (due K.Wait depth) s n u l e)) _ (ap (λ (i : ℕ). node_line b (reader_of K.Wait) i s) l)
    wait_follows (suc levels) depth l s ds =
        node_follows (due K.Wait depth) ds s _
        (λ n u e. go_follows _ (turn_follows (due K.Wait depth) n.under (read_move levels b (reader_of K.Move))
        (λ v es. move_follows levels K.Move (suc depth) refl (level_under K.Wait K.Move depth levels l) v es) u ds)
        (λ ms v. give_follows _ v ds)) _ (ap (λ (i : ℕ). node_line b (reader_of K.Wait) i s) l)

-- of the whole text after line 1
verdict_of : Result Sheet → Option Verdict
verdict_of (refused v) = some v
verdict_of (got s) = none

abbrev start : List Due
start = record { kind = K.First; depth = 1 } ∷ []

abbrev spot : (first : ℕ) → Bytes → ℕ → Spot
spot first t n = record { text = t; line = n + first; nodes = n }

ended_runs : (h : Header) (cs : List Stone) (s : Spot) (q : Result (Move × Spot)) → Follows h.board start s [] q → Runs h.board start s (verdict_of (ended h cs q))
unfolding ended verdict_of
ended_runs h cs s _ (stops v r) = r
ended_runs h cs s _ (goes x f) = by_text x.1.text refl
  where
    by_text : (t : Bytes) → x.1.text ≡ t → Runs h.board start s (verdict_of (ended h cs (got x)))
    by_text [] e = rw (e, ended) (f none (finishes x.1 e))
    by_text (c ∷ t) e = rw (e, ended) (f (some (TextAfter x.1.line)) (remains x.1 c t e))

tree_runs : (h : Header) (cs : List Stone) (t : Bytes) → Runs h.board start (spot (length cs + 2) t 0) (verdict_of (read_tree h cs t))
unfolding read_tree levels_at
tree_runs h cs t =
    let here : length cs + 2 ≡ 0 + (length cs + 2) = omega arith in
    subst (λ (i : ℕ). Runs h.board start (record { text = t; line = i; nodes = 0 }) (verdict_of (read_tree h cs t))) here
    (ended_runs h cs (record { text = t; line = length cs + 2; nodes = 0 }) _ (move_follows h.board most_depth K.First 1 refl refl _ []))

-- What a run comes to is said in plain words
below_most : (n : ℕ) → n ≤ most_nodes → n ≢ most_nodes → n < most_nodes
below_most n few ne = go (ltb n most_nodes) refl
  where
    go : (t : Bool) → ltb n most_nodes ≡ t → n < most_nodes
    go true e = ltb-true n most_nodes e
    go false e = absurd (ne (omega (arith, ltb-false n most_nodes e)))

-- a node that is due has depth 129 at most
due_in : (d e : Due) (n : ℕ) (ds : List Due) → e ∈ due_after d n ds → (e.depth ≡ suc d.depth) ⊎ (e ∈ ds)
unfolding due_after
due_in d e zero ds i = inr i
due_in d _ (suc n) ds at_head = inl refl
due_in d e (suc n) ds (in_tail i) = due_in d e n ds i

due_shallow : {t : Bytes} {b : Board} {first n : ℕ} {ds : List Due} {left : Bytes} → Begins t b first n ds left → (e : Due) → e ∈ ds → e.depth ≤ most_depth + 1
due_shallow (after_set_up cs left a none_left f) _ at_head = omega arith
due_shallow (after_set_up cs left a none_left f) e (in_tail i) = absurd (nothing_in i)
due_shallow (after_line n d ds line left l a i few deep on) e j =
    elim (due_in d e l.under ds j) [ inl q ↦ omega (arith, q, deep) | inr k ↦ due_shallow a e (in_tail k) ]

module _ (t : Bytes) (b : Board) (first : ℕ) (d : Due) (ds : List Due) (s : Spot) (v : Verdict) (begins : Begins t b first s.nodes (d ∷ ds) s.text)
    (at-line : s.line ≡ s.nodes + first) where
  told_at : (f : ℕ → Verdict) → ◌≡◌ {A = Result (Node × Spot)} (refused (f s.line)) (refused v) → Unread t (f (s.nodes + first)) → Unread t v
  told_at f e h = subst (Unread t) (ap f (sym at-line) ∙ refused_inj e) h

  -- the text as the line that was read and what follows it
  begins_line : (x : Line × Bytes) (l : LineRead d.kind s.text x) → Begins t b first s.nodes (d ∷ ds) (l.line ++ x.1)
  begins_line x l = subst (Begins t b first s.nodes (d ∷ ds)) l.before begins

  seen_unread : s.nodes ≤ most_nodes → (q : Result (Node × Spot)) → LineSeen b (reader_of d.kind) (levels_at d) s q → q ≡ refused v → Unread t v
  unfolding levels_at node_here
  seen_unread few _ (sees_end h) e = told_at Unfinished e (text_ends b first s.nodes d ds (subst (Begins t b first s.nodes (d ∷ ds)) h begins))
  seen_unread few _ (sees_many some_text full) e =
      told_at TooManyNodes e
      (subst⁻¹ (λ (n : ℕ). Unread t (TooManyNodes (n + first))) full
      (one_too_many b first d ds s.text (subst (λ (n : ℕ). Begins t b first n (d ∷ ds) s.text) full begins) some_text))
  seen_unread few _ (sees_bad h r) e =
      told_at BadLine e
      (no_line b first s.nodes d ds s.text begins h.some_text (below_most s.nodes few h.not_full)
      (λ line after l i q. none≢some (sym r ∙ ap (reader_of d.kind) q ∙ line_back d.kind line l after i)))
  seen_unread few _ (sees_deep h x r z) e =
      let l = line_is d.kind s.text x r in
      told_at TooDeep e
      (too_deep b first s.nodes d ds l.line x.1 x.0 (begins_line x l) l.is_line (below_most s.nodes few h.not_full)
      (omega (arith, z, due_shallow begins d at_head)))
  seen_unread few _ (sees_off h x r z w) e =
      let l = line_is d.kind s.text x r in
      told_at OffBoard e
      (off_board b first s.nodes d ds l.line x.1 x.0 (begins_line x l) l.is_line (below_most s.nodes few h.not_full) (level z) w)
    where
      level : suc most_depth - d.depth ≢ 0 → d.depth ≤ most_depth
      level z = ⊎_elim (λ k. absurd (z k)) (λ k. omega arith) (eq-zero-or-pos (suc most_depth - d.depth))
  seen_unread few _ (sees_line h x r z w) e = absurd (not_refused (sym e))

  node_unread : s.nodes ≤ most_nodes → next_line b d s ≡ refused v → Unread t v
  node_unread few e = seen_unread few _ (line_seen_lem b (reader_of d.kind) (levels_at d) s) e

data Ends (t : Bytes) (b : Board) (first : ℕ) : Option Verdict → Type 0 where
  as_read : (n : ℕ) → Begins t b first n [] [] → Ends t b first none
  as_refused : (v : Verdict) → Unread t v → Ends t b first (some v)

begins_at : {t u left : Bytes} {b : Board} {first m n j k : ℕ} (d : Due) (ds : List Due) → Begins t b first n (due_after d k ds) left → m ≡ n → j ≡ k → u ≡ left
    → Begins t b first m (due_after d j ds) u
begins_at d ds a e f g = rw (e, f, g) a

run_ends : (t : Bytes) (b : Board) (first : ℕ) {ds : List Due} {s : Spot} {r : Option Verdict} → Runs b ds s r → Begins t b first s.nodes ds s.text
    → s.line ≡ s.nodes + first → s.nodes ≤ most_nodes → Ends t b first r
unfolding levels_at
run_ends t b first (finishes s e) a l few = as_read s.nodes (subst (Begins t b first s.nodes []) e a)
run_ends t b first (remains s c u e) a l few =
    as_refused _ (subst⁻¹ (λ (i : ℕ). Unread t (TextAfter i)) l (text_remains b first s.nodes s.text a (not_nil e)))
run_ends t b first (refuses d ds s v e) a l few = as_refused v (node_unread t b first d ds s v a l few e)
run_ends t b first (passes d ds s n u r e q) a l few =
    let i = node_read b (reader_of d.kind) (levels_at d) s (n, u) e in
    let line = line_is d.kind s.text i.line_read i.by_reader in
    let fewer = below_most s.nodes few i.not_full in
    let next = after_line s.nodes d ds line.line i.line_read.1 i.line_read.0 (subst (Begins t b first s.nodes (d ∷ ds)) line.before a) line.is_line fewer (omega (arith, i.level_left)) i.inside in
    run_ends t b first q (begins_at d ds next i.nodes_after i.its_under i.text_after) (omega (arith, l, i.line_after, i.nodes_after)) (omega (arith, fewer, i.nodes_after))

-- What is said in plain words is what a run comes to
line_not_nil : {k : LineKind} {line : Bytes} {l : Line} (after : Bytes) → IsLine k line l → (line ++ after) ≢ []
unfolding written_move written_wait a_line printed
line_not_nil after (of_move p n h f) = not_nil refl
line_not_nil after (of_first p n h f) = not_nil refl
line_not_nil after (of_dash n f) = not_nil refl
line_not_nil after (of_wait n low f) = not_nil refl

module _ (b : Board) (first : ℕ) (d : Due) (n : ℕ) where
  -- what the next line is seen to be, it comes to
  next_is : (left : Bytes) (q : Result (Node × Spot)) → LineSeen b (reader_of d.kind) (levels_at d) (spot first left n) q → next_line b d (spot first left n) ≡ q
  next_is left q h = seen_is b (reader_of d.kind) (levels_at d) (spot first left n) q h

  may_begin : (left : Bytes) → left ≢ [] → n < most_nodes → LineBegins (spot first left n)
  may_begin left h few = record { some_text = h; not_full = λ q. omega arith }

  module _ (line after : Bytes) (l : Line) (i : IsLine d.kind line l) (few : n < most_nodes) where
    begins_here : LineBegins (spot first (line ++ after) n)
    begins_here = may_begin (line ++ after) (line_not_nil after i) few

    read_here : reader_of d.kind (line ++ after) ≡ some (l, after)
    read_here = line_back d.kind line l after i

    level_here : d.depth ≤ most_depth → levels_at d ≢ 0
    unfolding levels_at
    level_here deep z = omega arith

    node_deep : d.depth ≡ most_depth + 1 → next_line b d (spot first (line ++ after) n) ≡ refused (TooDeep (n + first))
    unfolding levels_at
    node_deep low = next_is (line ++ after) _ (sees_deep begins_here (l, after) read_here (omega arith))

    node_off : d.depth ≤ most_depth → (T (within b l.place) → ⊥) → next_line b d (spot first (line ++ after) n) ≡ refused (OffBoard (n + first))
    node_off low outside = next_is (line ++ after) _ (sees_off begins_here (l, after) read_here (level_here low) outside)

    node_passes : d.depth ≤ most_depth → T (within b l.place) → (ds : List Due) (r : Option Verdict) → Runs b (due_after d l.under ds) (spot first after (n + 1)) r
        → Runs b (d ∷ ds) (spot first (line ++ after) n) r
    unfolding node_here
    node_passes low on ds r q =
        let next : n + 1 + first ≡ n + first + 1 = omega arith in
        passes d ds (spot first (line ++ after) n) (record { line = n + first; cell = cell_of b l.place; under = l.under })
        (record { text = after; line = n + first + 1; nodes = n + 1 }) r
        (next_is (line ++ after) _ (sees_line begins_here (l, after) read_here (level_here low) on))
        (subst (λ (j : ℕ). Runs b (due_after d l.under ds) (record { text = after; line = j; nodes = n + 1 }) r) next q)

-- the set-up lines: where they begin the text, the reading comes to what is left, with as many lines at most as it has bytes
record SetUpBegun (t : Bytes) (b : Board) (cs : List Stone) (left : Bytes) : Type 0 where
  player : Player
  body : Bytes
  header : header_line t ≡ some (record { board = b; player = player }, body)
  most : ℕ
  enough : length left ≤ most
  same : read_set_up (length body) b [] body ≡ read_set_up most b cs left

one_down : (most : ℕ) (b : Board) (cs : List Stone) (o : Side) (p : Place) (left : Bytes) → Nameable p → T (on_board b p.column p.row)
    → T (not (among (set_up_cells cs) (cell_on b p))) → length (written_set_up o (some p) ++ left) ≤ most
    → (k : ℕ) × (length left ≤ k) × (read_set_up most b cs (written_set_up o (some p) ++ left) ≡ read_set_up k b (cs ++ stone_of b o p ∷ []) left)
one_down zero b cs o p left h on new few = absurd (omega (arith, few, longer_set_up o (some p) left))
one_down (suc most) b cs o p left h on new few = (
  most,
  omega (arith, few, longer_set_up o (some p) left),
  set_up_got most b cs _ (record { side = o; place = p }, left) (set_up_back o p left h) (stone_of b o p) (down b (set_up_cells cs) (length cs + 2) (record { side = o; place = p }) on new),
)

set_up_begun : {t : Bytes} {b : Board} {cs : List Stone} {left : Bytes} → SetUp t b cs left → SetUpBegun t b cs left
set_up_begun {b = b} (after_header p left size e) =
    record { player = p; body = left; header = ap header_line e ∙ header_back b p left size; most = length left; enough = omega arith; same = refl }
set_up_begun {b = b} (after_stone cs o p left a h on new) =
    let g = set_up_begun a in
    let (k, few, e) = one_down g.most b cs o p left h on new g.enough in
    record { player = g.player; body = g.body; header = g.header; most = k; enough = few; same = g.same ∙ e }

-- a set-up line that is refused
stone_refused : (t : Bytes) (b : Board) (cs : List Stone) (o : Side) (p : Place) (after : Bytes) (v : Verdict) → SetUp t b cs (written_set_up o (some p) ++ after) → Nameable p
    → set_down b (set_up_cells cs) (length cs + 2) (record { side = o; place = p }) ≡ refused v → read_sheet t ≡ refused v
unfolding read_sheet_up_to headed read_body planted
stone_refused t b cs o p after v a h e =
    let g = set_up_begun a in
    let header : Header = record { board = b; player = g.player } in
    ap headed g.header ∙ ap (planted header) (g.same ∙ by_most g.most g.enough)
  where
    by_most : (most : ℕ) → length (written_set_up o (some p) ++ after) ≤ most → read_set_up most b cs (written_set_up o (some p) ++ after) ≡ refused v
    by_most zero few = absurd (omega (arith, few, longer_set_up o (some p) after))
    by_most (suc most) few = set_up_refused most b cs _ (record { side = o; place = p }, after) (set_up_back o p after h) v e

-- no set-up line, in plain words and by the reader
pub no_line_read : (left : Bytes) → NoSetUp left → set_up_line left ≡ none
unfolding NoSetUp
no_line_read left h = by_line (set_up_line left) refl
  where
    by_line : (o : Option (SetUpLine × Bytes)) → set_up_line left ≡ o → o ≡ none
    by_line none e = refl
    by_line (some y) e = let r = set_up_is left y e in absurd (h y.0.side y.0.place y.1 r.1 r.0)

pub read_no_line : (left : Bytes) → set_up_line left ≡ none → NoSetUp left
unfolding NoSetUp
read_no_line left e o p after h q = none≢some (sym e ∙ ap set_up_line q ∙ set_up_back o p after h)

record Begun (t : Bytes) (b : Board) (first n : ℕ) (ds : List Due) (left : Bytes) : Type 0 where
  player : Player
  stones : List Stone
  its_first : first ≡ length stones + 2
  body : Bytes
  reads : read_sheet t ≡ read_tree (record { board = b; player = player }) stones body
  onward : (r : Option Verdict) → Runs b ds (spot first left n) r → Runs b start (spot first body 0) r

begun : {t : Bytes} {b : Board} {first n : ℕ} {ds : List Due} {left : Bytes} → Begins t b first n ds left → Begun t b first n ds left
unfolding read_sheet_up_to headed read_body planted
begun {b = b} (after_set_up cs left a no_more f) =
    let g = set_up_begun a in
    let header : Header = record { board = b; player = g.player } in
    record {
      player = g.player;
      stones = cs;
      its_first = f;
      body = left;
      reads = ap headed g.header ∙ ap (planted header) (g.same ∙ set_up_none g.most b cs left (no_line_read left no_more));
      onward = λ r q. q;
    }
begun {b = b} {first = first} (after_line n d ds line left l a i few deep on) =
    let g = begun a in
    record {
      player = g.player;
      stones = g.stones;
      its_first = g.its_first;
      body = g.body;
      reads = g.reads;
      onward = λ r q. g.onward r (node_passes b first d n line left l i few deep on ds r q);
    }

refused_of : (q : Result Sheet) (v : Verdict) → verdict_of q ≡ some v → q ≡ refused v
unfolding verdict_of
refused_of (refused w) v e = ap refused (some_inj e)
refused_of (got s) v e = absurd (none≢some e)

got_of : (q : Result Sheet) → verdict_of q ≡ none → (s : Sheet) × (q ≡ got s)
unfolding verdict_of
got_of (refused w) e = absurd (none≢some (sym e))
got_of (got s) e = (s, refl)

-- where a run from a beginning comes to something, the reading does
begun_verdict : (t : Bytes) (b : Board) (first n : ℕ) (ds : List Due) (left : Bytes) → Begins t b first n ds left → (r : Option Verdict) → Runs b ds (spot first left n) r
    → verdict_of (read_sheet t) ≡ r
begun_verdict t b first n ds left a r q =
    let g = begun a in
    let h : Header = record { board = b; player = g.player } in
    ap verdict_of g.reads
    ∙ runs_one b (subst⁻¹ (λ (i : ℕ). Runs b start (spot i g.body 0) (verdict_of (read_tree h g.stones g.body))) g.its_first (tree_runs h g.stones g.body)) (g.onward r q)

-- a line that is refused, and text that remains
line_refused : {t : Bytes} {b : Board} {first n : ℕ} {d : Due} {ds : List Due} {left : Bytes} {v : Verdict} → Begins t b first n (d ∷ ds) left
    → next_line b d (spot first left n) ≡ refused v → read_sheet t ≡ refused v
line_refused {t} {b} {first} {n} {d} {ds} {left} {v} a e = refused_of (read_sheet t) v (begun_verdict t b first n (d ∷ ds) left a (some v) (refuses d ds (spot first left n) v e))

rest_refused : (t : Bytes) (b : Board) (first n : ℕ) (left : Bytes) → Begins t b first n [] left → left ≢ [] → read_sheet t ≡ refused (TextAfter (n + first))
rest_refused t b first n [] a h = absurd (h refl)
rest_refused t b first n (c ∷ u) a h = refused_of (read_sheet t) _ (begun_verdict t b first n [] (c ∷ u) a _ (remains (spot first (c ∷ u) n) c u refl))

none_read : (k : LineKind) (left : Bytes) → ((line after : Bytes) (l : Line) → IsLine k line l → left ≢ (line ++ after)) → reader_of k left ≡ none
none_read k left h = go (reader_of k left) refl
  where
    go : (o : Option (Line × Bytes)) → reader_of k left ≡ o → o ≡ none
    go none e = refl
    go (some y) e = let r = line_is k left y e in absurd (h r.line y.1 y.0 r.is_line r.before)

unread_refused : (t : Bytes) (v : Verdict) → Unread t v → read_sheet t ≡ refused v
unread_refused t _ (no_header h) = by_header (header_line t) refl
  where
    by_header : (o : Option (Header × Bytes)) → header_line t ≡ o → read_sheet t ≡ refused BadHeader
    by_header none e = unfold read_sheet_up_to headed in rw e
    by_header (some y) e = let k = header_is t y e in absurd (h y.0.board y.0.player y.1 k.1 k.0)
unread_refused t _ (no_line b first n d ds left a some_text few h) =
    line_refused a (next_is b first d n left _ (sees_bad (may_begin b first d n left some_text few) (none_read d.kind left h)))
unread_refused t _ (off_board b first n d ds line after l a i few deep off) = line_refused a (node_off b first d n line after l i few deep off)
unread_refused t _ (one_too_many b first d ds left a some_text) = line_refused a (next_is b first d most_nodes left _ (sees_many some_text refl))
unread_refused t _ (too_deep b first n d ds line after l a i few deep) = line_refused a (node_deep b first d n line after l i few deep)
unread_refused t _ (text_ends b first n d ds a) = line_refused a (next_is b first d n [] _ (sees_end refl))
unread_refused t _ (text_remains b first n left a some_text) = rest_refused t b first n left a some_text
unread_refused t _ (stone_off b cs o p after a h off) = stone_refused t b cs o p after _ a h (down_off b (set_up_cells cs) (length cs + 2) (record { side = o; place = p }) off)
unread_refused t _ (stone_twice b cs o p after a h on old) = stone_refused t b cs o p after _ a h (down_twice b (set_up_cells cs) (length cs + 2) (record { side = o; place = p }) on old)

-- 4 of set-up lines: where the next line begins with `o`, as `own` and `opp` do, and is no set-up line, it is refused as malformed
first_starts : {line : Bytes} {l : Line} (after : Bytes) → IsLine K.First line l → (u : Bytes) × (line ++ after ≡ 109 ∷ u)
unfolding written_move a_line printed
first_starts after (of_first p n h f) = (_, refl)
first_starts after (of_dash n f) = (_, refl)

pub set_up_malformed : (t : Bytes) (b : Board) (cs : List Stone) (left : Bytes) → SetUp t b cs (111 ∷ left) → NoSetUp (111 ∷ left) → read_sheet t ≡ refused (BadLine (length cs + 2))
set_up_malformed t b cs left a h =
    let here : 0 + (length cs + 2) ≡ length cs + 2 = omega arith in
    subst (λ (i : ℕ). read_sheet t ≡ refused (BadLine i)) here
    (unread_refused t _ (no_line b (length cs + 2) 0 (record { kind = K.First; depth = 1 }) [] (111 ∷ left) (after_set_up cs (111 ∷ left) a h refl) (not_nil refl) (omega arith)
    (λ line after l i e.
    let starts = first_starts after i in
    let same : 111 ∷ left ≡ 109 ∷ starts.0 = e ∙ starts.1 in
    let z : ◌≡◌ {A = ℕ} 111 109 = cc same in
    omega arith)))

-- what the set-up lines come to
data StonesEnd (t : Bytes) (b : Board) : Result (List Stone × Bytes) → Type 0 where
  stones_refused : (v : Verdict) → Unread t v → StonesEnd t b (refused v)
  stones_set : (cs : List Stone) (left : Bytes) → SetUp t b cs left → NoSetUp left → StonesEnd t b (got (cs, left))

stones_end : (t : Bytes) (b : Board) (most : ℕ) (cs : List Stone) (u : Bytes) → SetUp t b cs u → length u ≤ most → StonesEnd t b (read_set_up most b cs u)
unfolding NoSetUp
stones_end t b zero cs u a few = rw (set_up_none zero b cs u (no_line_read u none_left)) (stones_set cs u a none_left)
  where
    none_left : NoSetUp u
    none_left o p after h e = omega (arith, few, ap length e, longer_set_up o (some p) after)
stones_end t b (suc most) cs u a few = by_line (set_up_line u) refl (λ ds v k l. stones_end t b most ds v k l)
  where
    by_down : (x : SetUpLine × Bytes) → set_up_line u ≡ some x → (r : Result Stone) → set_down b (set_up_cells cs) (length cs + 2) x.0 ≡ r
        → Downed b (set_up_cells cs) (length cs + 2) x.0 r
        → ((ds : List Stone) (v : Bytes) → SetUp t b ds v → length v ≤ most → StonesEnd t b (read_set_up most b ds v)) → StonesEnd t b (read_set_up (suc most) b cs u)
    by_down x f _ g (is_down on new) ih =
        let k = set_up_is u x f in
        rw (set_up_got most b cs u x f _ g)
        (ih _ x.1 (after_stone cs x.0.side x.0.place x.1 (subst (SetUp t b cs) k.0 a) k.1 on new)
        (omega (arith, few, ap length k.0, longer_set_up x.0.side (some x.0.place) x.1)))
    by_down x f _ g (is_off off) ih =
        let k = set_up_is u x f in
        rw (set_up_refused most b cs u x f _ g) (stones_refused _ (stone_off b cs x.0.side x.0.place x.1 (subst (SetUp t b cs) k.0 a) k.1 off))
    by_down x f _ g (is_twice on old) ih =
        let k = set_up_is u x f in
        rw (set_up_refused most b cs u x f _ g) (stones_refused _ (stone_twice b cs x.0.side x.0.place x.1 (subst (SetUp t b cs) k.0 a) k.1 on old))

    by_line : (o : Option (SetUpLine × Bytes)) → set_up_line u ≡ o
        → ((ds : List Stone) (v : Bytes) → SetUp t b ds v → length v ≤ most → StonesEnd t b (read_set_up most b ds v)) → StonesEnd t b (read_set_up (suc most) b cs u)
    by_line none f ih = rw (set_up_none (suc most) b cs u f) (stones_set cs u a (read_no_line u f))
    by_line (some x) f ih = by_down x f (set_down b (set_up_cells cs) (length cs + 2) x.0) refl (downed b (set_up_cells cs) (length cs + 2) x.0) ih

-- what a text comes to, after its header
abbrev EndsSome : Bytes → Board → Option Verdict → Type 0
EndsSome t b r = (first : ℕ) × Ends t b first r

planted_ends : (t : Bytes) (h : Header) (r : Result (List Stone × Bytes)) → StonesEnd t h.board r → EndsSome t h.board (verdict_of (planted h r))
unfolding planted verdict_of
planted_ends t h _ (stones_refused v u) = (0, as_refused v u)
planted_ends t h _ (stones_set cs left a no_more) =
    (length cs + 2, run_ends t h.board (length cs + 2) (tree_runs h cs left) (after_set_up cs left a no_more refl) (omega arith) (omega arith))

ends_of : (t : Bytes) (y : Header × Bytes) → header_line t ≡ some y → EndsSome t y.0.board (verdict_of (read_sheet t))
unfolding read_sheet_up_to headed read_body
ends_of t y e =
    let k = header_is t y e in
    rw e
    (planted_ends t y.0 _ (stones_end t y.0.board (length y.1) [] y.1 (after_header y.0.player y.1 k.1 k.0) (omega arith)))

ended_refused : {t : Bytes} {b : Board} {first : ℕ} {r : Option Verdict} {v : Verdict} → Ends t b first r → r ≡ some v → Unread t v
ended_refused (as_read n a) e = absurd (none≢some e)
ended_refused {t} (as_refused w h) e = subst (Unread t) (some_inj e) h

ended_read : {t : Bytes} {b : Board} {first : ℕ} {r : Option Verdict} → Ends t b first r → r ≡ none → (n : ℕ) × Begins t b first n [] []
ended_read (as_read n a) e = (n, a)
ended_read (as_refused w h) e = absurd (none≢some (sym e))

refused_unread : (t : Bytes) (v : Verdict) → read_sheet t ≡ refused v → Unread t v
unfolding verdict_of
refused_unread t v e = by_header (header_line t) refl
  where
    by_header : (o : Option (Header × Bytes)) → header_line t ≡ o → Unread t v
    by_header none f =
        let g : ◌≡◌ {A = Result Sheet} (refused BadHeader) (refused v) = unfold read_sheet_up_to headed in sym (ap headed f) ∙ e in
        subst (Unread t) (refused_inj g) (no_header (λ b p left size h. none≢some (sym f ∙ ap header_line h ∙ header_back b p left size)))
    by_header (some y) f = unfold verdict_of in ended_refused (ends_of t y f).1 (ap verdict_of e)

-- a text is refused with v exactly when the table says so of 3 to 9 and 19
pub refused_exactly : (t : Bytes) (v : Verdict) → (read_sheet t ≡ refused v) ↔ Unread t v
refused_exactly t v = (refused_unread t v, unread_refused t v)

-- and it is a sheet's exactly when it begins as one and then no node is due and no text is left
sheet_begins : (t : Bytes) (s : Sheet) → Spells t s → (b : Board) × (first : ℕ) × (n : ℕ) × Begins t b first n [] []
sheet_begins t s h = by_header (header_line t) refl
  where
    reads : read_sheet t ≡ got s
    reads = (reads_exactly t s).1 h

    by_header : (o : Option (Header × Bytes)) → header_line t ≡ o → (b : Board) × (first : ℕ) × (n : ℕ) × Begins t b first n [] []
    by_header none f =
        let g : ◌≡◌ {A = Result Sheet} (refused BadHeader) (got s) = unfold read_sheet_up_to headed in sym (ap headed f) ∙ reads in
        absurd (not_refused g)
    by_header (some y) f =
        let none_told : verdict_of (read_sheet t) ≡ none = unfold verdict_of in ap verdict_of reads in
        let (first, ends) = ends_of t y f in
        let (n, a) = ended_read ends none_told in
        (y.0.board, first, n, a)

begins_sheet : (t : Bytes) (b : Board) (first n : ℕ) → Begins t b first n [] [] → (s : Sheet) × Spells t s
begins_sheet t b first n a =
    let (s, e) = got_of (read_sheet t) (begun_verdict t b first n [] [] a none (finishes (spot first [] n) refl)) in
    (s, (reads_exactly t s).0 e)

pub finished_exactly : (t : Bytes) → ((s : Sheet) × Spells t s) ↔ ((b : Board) × (first : ℕ) × (n : ℕ) × Begins t b first n [] [])
finished_exactly t = (λ h. sheet_begins t h.0 h.1, λ h. begins_sheet t h.0 h.1 h.2 h.3)

-- one of the two holds of every text, and with one verdict
pub read_or_unread : (t : Bytes) → ((s : Sheet) × Spells t s) ⊎ ((v : Verdict) × Unread t v)
read_or_unread t = by_result (read_sheet t) refl
  where
    by_result : (r : Result Sheet) → read_sheet t ≡ r → ((s : Sheet) × Spells t s) ⊎ ((v : Verdict) × Unread t v)
    by_result (refused v) e = inr (v, refused_unread t v e)
    by_result (got s) e = inl (s, (reads_exactly t s).0 e)

pub not_both : (t : Bytes) (s : Sheet) (v : Verdict) → Spells t s → Unread t v → ⊥
not_both t s v h u = not_refused (sym (unread_refused t v u) ∙ (reads_exactly t s).1 h)

pub one_unread : (t : Bytes) (v w : Verdict) → Unread t v → Unread t w → v ≡ w
one_unread t v w h k = refused_inj (sym (unread_refused t v h) ∙ unread_refused t w k)
