-- Judge's reply is the one that the table gives: each case exactly when its plain statement holds.
use mathlib.Core.Path.{◌≡◌, refl, sym, ap, subst, subst⁻¹, ◌∙◌}
use mathlib.Core.Logic.{◌≢◌, inl, inr, ◌↔◌}
use Prim.Native.Nat.{ℕ, zero, suc, ◌+◌, ◌≤◌, ◌<◌}
use mathlib.Core.Bool.{Bool, true, false, ◌&&◌}
use mathlib.Core.List.{List, [], ◌∷◌}
use mathlib.Core.Option.{Option, none, some}
use lib.Dec.{T, eqb, eqb_refl, eqb→eq, leb, ltb, leb→le, le→leb}
use lib.ListN.{length, get_or}
use borrow.Author.Tests.{ltb-true, ltb-false, lt-ltb, le-ltb}
use native.Mathlib.Omega.{arith}
use Rattle.rules.specs.Sizes.{most_bytes, least_workspace, most_outcomes}
use Rattle.rules.specs.Words.{◌∈◌, at_head, in_tail, among}
use Rattle.rules.specs.Board.{is_cell}
use Rattle.rules.specs.Text.{Bytes}
use Rattle.rules.specs.Joining.{Joins, joined}
use Rattle.rules.specs.Tree.{Wait, Move, Stone, Sheet, set_up_cells, every_move, every_wait}
use Rattle.rules.specs.Reading.{Result, refused, got, read_sheet}
use Rattle.rules.specs.Fair.{Fault, in_waits, holding, on_set_up, not_apart, not_elusive, first_on_set_up, first_not_apart, first_twice, first_not_elusive}
use Rattle.rules.specs.Outcomes.{outcomes, outcome_count}
use Rattle.rules.specs.Entries.{◌>>=◌, refuse_if, refuse_fault, refuse_unjoined, read_text_up_to, read_up_to, read, fair, satisfying, accepted, judged, judge}
use Rattle.rules.specs.Plain.{IsFree, IsApart, IsElusive, AllFree, AllApart, NoneTwice, AllElusive, AllJoin, WithinSizes, IsRead, IsFair, IsSheet, Given, as_accepted, as_small, as_long, as_unread, as_on_set_up, as_not_apart, as_twice, as_not_elusive, as_too_many, as_not_joined}
use Rattle.rules.specs.declared.Board.{Board}
use Rattle.rules.specs.declared.Player.{Player}
use Rattle.rules.specs.Verdict.{told}
use Rattle.rules.specs.declared.Told.{Told}
use Rattle.rules.specs.declared.Verdict.{Verdict}
use Rattle.rules.specs.declared.Verdict.TheVariants.{SmallWorkspace, LongText, OnSetUp, NotApart, NotElusive, TooManyOutcomes, NotJoined, SameBranch}
use Rattle.rules.proofs.Tests.{true_of, false_of, both, fst, snd, left, right, cases}
use Rattle.rules.proofs.Lists.{all_cons, nothing_in}
use Rattle.rules.proofs.Joining.{joined→joins, joins→joined}
use Rattle.rules.proofs.Outcomes.{count_is_length}
use Rattle.rules.proofs.Smallest.{none_clean, clean_none, first_is, is_first}
use Rattle.rules.proofs.Twice.{twice_none, none_twice, twice_first, is_first_twice}
use Rattle.rules.proofs.Written.{reads_exactly}
use Rattle.rules.proofs.Unread.{refused_exactly}
use Rattle.rules.proofs.Steps.{not_refused, got_inj, then_got, refuse_if_got, refuse_fault_got}

-- free, apart and elusive, at a node
free_clean : (b : Board) (cs : List Stone) (m : Move) → IsFree b cs m → (x : ℕ) → T (is_cell b x) → T (on_set_up cs m x) → ⊥
unfolding on_set_up
free_clean b cs m a x i h =
    let e = eqb→eq x m.cell (fst (eqb x m.cell) (among (set_up_cells cs) x) h) in
    a.no_stone (subst (λ z. T (is_cell b z)) e i) (subst (λ z. T (among (set_up_cells cs) z)) e (snd (eqb x m.cell) (among (set_up_cells cs) x) h))

clean_free : (b : Board) (cs : List Stone) (m : Move) → ((x : ℕ) → T (is_cell b x) → T (on_set_up cs m x) → ⊥) → IsFree b cs m
unfolding on_set_up
clean_free b cs m h = record { no_stone = λ i k. h m.cell i (both (eqb m.cell m.cell) (among (set_up_cells cs) m.cell) (eqb_refl m.cell) k) }

at_most_one : (n : ℕ) → (2 ≤ n → ⊥) → n ≤ 1
at_most_one zero h = omega arith
at_most_one (suc zero) h = omega arith
at_most_one (suc (suc n)) h = absurd (h (omega arith))

apart_clean : (b : Board) (m : Move) → IsApart b m → (x : ℕ) → T (is_cell b x) → T (not_apart m x) → ⊥
unfolding not_apart
apart_clean b m a x i h =
    elim (cases (eqb x m.cell && in_waits m.waits x) (leb 2 (holding m.waits x)) h) [
      | inl k ↦
          let e = eqb→eq x m.cell (fst (eqb x m.cell) (in_waits m.waits x) k) in
          a.own_not_under (subst (λ z. T (is_cell b z)) e i) (subst (λ z. T (in_waits m.waits z)) e (snd (eqb x m.cell) (in_waits m.waits x) k))
      | inr k ↦ omega (arith, leb→le 2 (holding m.waits x) k, a.in_one_wait x i)
    ]

clean_apart : (b : Board) (m : Move) → ((x : ℕ) → T (is_cell b x) → T (not_apart m x) → ⊥) → IsApart b m
unfolding not_apart
clean_apart b m h =
    record {
      own_not_under =
          λ i k.
          h m.cell i
          (left (eqb m.cell m.cell && in_waits m.waits m.cell) (leb 2 (holding m.waits m.cell))
          (both (eqb m.cell m.cell) (in_waits m.waits m.cell) (eqb_refl m.cell) k));
      in_one_wait =
          λ x i.
          at_most_one (holding m.waits x)
          (λ two. h x i (right (eqb x m.cell && in_waits m.waits x) (leb 2 (holding m.waits x)) (le→leb 2 (holding m.waits x) two)));
    }

elusive_clean : (b : Board) (w : Wait) → IsElusive b w → (x : ℕ) → T (is_cell b x) → T (not_elusive w x) → ⊥
unfolding not_elusive
elusive_clean b w a x i h = a.no_cell_in_all x i h

clean_elusive : (b : Board) (w : Wait) → ((x : ℕ) → T (is_cell b x) → T (not_elusive w x) → ⊥) → IsElusive b w
unfolding not_elusive
clean_elusive b w h = record { no_cell_in_all = h }

-- over the whole tree
pub free_none : (s : Sheet) → AllFree s → first_on_set_up s ≡ none
unfolding first_on_set_up
free_none s a = clean_none s.board (λ (m : Move). m.line) (on_set_up s.set_up) (every_move s) (λ m i. free_clean s.board s.set_up m (a m i))

pub none_free : (s : Sheet) → first_on_set_up s ≡ none → AllFree s
unfolding first_on_set_up
none_free s e m i = clean_free s.board s.set_up m (none_clean s.board (λ (m : Move). m.line) (on_set_up s.set_up) (every_move s) e m i)

-- without set-up stones no move is on one
pub bare_free : (s : Sheet) → s.set_up ≡ [] → first_on_set_up s ≡ none
bare_free s e = free_none s (λ m i. record { no_stone = λ on h. unfold set_up_cells among in subst (λ (cs : List Stone). T (among (set_up_cells cs) m.cell)) e h })

pub apart_none : (s : Sheet) → AllApart s → first_not_apart s ≡ none
unfolding first_not_apart
apart_none s a = clean_none s.board (λ (m : Move). m.line) not_apart (every_move s) (λ m i. apart_clean s.board m (a m i))

pub none_apart : (s : Sheet) → first_not_apart s ≡ none → AllApart s
unfolding first_not_apart
none_apart s e m i = clean_apart s.board m (none_clean s.board (λ (m : Move). m.line) not_apart (every_move s) e m i)

pub elusive_none : (s : Sheet) → AllElusive s → first_not_elusive s ≡ none
unfolding first_not_elusive
elusive_none s a = clean_none s.board (λ (w : Wait). w.line) not_elusive (every_wait s) (λ w i. elusive_clean s.board w (a w i))

pub none_elusive : (s : Sheet) → first_not_elusive s ≡ none → AllElusive s
unfolding first_not_elusive
none_elusive s e w i = clean_elusive s.board w (none_clean s.board (λ (w : Wait). w.line) not_elusive (every_wait s) e w i)

-- outcomes one by one, the first with number n
module _ (b : Board) (p : Player) where
  abbrev Joining : List ℕ → Type 0
  Joining o = Joins b p (among o)

  pub all_joined : (n : ℕ) (os : List (List ℕ)) → ((o : List ℕ) → o ∈ os → Joining o) → refuse_unjoined b p n os ≡ got tt
  unfolding refuse_unjoined
  all_joined n [] h = refl
  all_joined n (o ∷ os) h =
      rw (true_of (joined b p (among o)) (joins→joined b p (among o) (h o at_head)), refuse_unjoined) (all_joined (n + 1) os (λ q i. h q (in_tail i)))

  first_unjoined : (n : ℕ) (os : List (List ℕ)) (i : ℕ) → i < length os → (Joining (get_or os i []) → ⊥) → ((j : ℕ) → j < i → Joining (get_or os j []))
      → refuse_unjoined b p n os ≡ refused (NotJoined (n + i))
  unfolding refuse_unjoined
  first_unjoined n [] i l not_so so = absurd (omega arith)
  first_unjoined n (o ∷ os) zero l not_so so =
      let z : n ≡ n + 0 = omega arith in
      rw (false_of (joined b p (among o)) (λ t. not_so (joined→joins b p (among o) t)), refuse_unjoined) (ap (λ (k : ℕ). refused (NotJoined k)) z)
  first_unjoined n (o ∷ os) (suc i) l not_so so =
      let z : n + 1 + i ≡ n + suc i = omega arith in
      rw (true_of (joined b p (among o)) (joins→joined b p (among o) (so 0 (omega arith))), refuse_unjoined)
      (first_unjoined (n + 1) os i (omega arith) not_so (λ j h. so (suc j) (omega arith)) ∙ ap (λ (k : ℕ). refused (NotJoined k)) z)

  -- what the walk comes to
  pub data Walked (n : ℕ) (os : List (List ℕ)) : Result (Unit {0}) → Type 0 where
    all : ((o : List ℕ) → o ∈ os → Joining o) → Walked n os (got tt)
    first : (i : ℕ) → i < length os → (Joining (get_or os i []) → ⊥) → ((j : ℕ) → j < i → Joining (get_or os j [])) → Walked n os (refused (NotJoined (n + i)))

  walked_more : (n : ℕ) (o : List ℕ) (os : List (List ℕ)) (r : Result (Unit {0})) → Joining o → Walked (n + 1) os r → Walked n (o ∷ os) r
  walked_more n o os r j (all h) = all (all_cons Joining o os j h)
  walked_more n o os r j (first i l not_so so) =
      let z : n + suc i ≡ n + 1 + i = omega arith in
      subst (λ (k : ℕ). Walked n (o ∷ os) (refused (NotJoined k))) z (first (suc i) (omega arith) not_so (joined_below so))
    where
      joined_below : ((k : ℕ) → k < i → Joining (get_or os k [])) → (k : ℕ) → k < suc i → Joining (get_or (o ∷ os) k [])
      joined_below y zero h = j
      joined_below y (suc k) h = y k (omega arith)

  pub walked : (n : ℕ) (os : List (List ℕ)) → Walked n os (refuse_unjoined b p n os)
  unfolding refuse_unjoined
  walked n [] = all (λ o i. absurd (nothing_in i))
  walked n (o ∷ os) = go (joined b p (among o)) refl (walked (n + 1) os)
    where
      go : (t : Bool) → joined b p (among o) ≡ t → Walked (n + 1) os (refuse_unjoined b p (n + 1) os) → Walked n (o ∷ os) (refuse_unjoined b p n (o ∷ os))
      go true e ih = rw (e, refuse_unjoined) (walked_more n o os (refuse_unjoined b p (n + 1) os) (joined→joins b p (among o) (subst⁻¹ T e tt)) ih)
      go false e ih =
          let z : n + 0 ≡ n = omega arith in
          rw (e, refuse_unjoined)
          (subst (λ (k : ℕ). Walked n (o ∷ os) (refused (NotJoined k))) z
          (first 0 (omega arith) (λ k. subst T e (joins→joined b p (among o) k)) (λ j h. absurd (omega arith))))

-- The reply, stage by stage
module _ (w : ℕ) (t : Bytes) where
  reply_small : w < least_workspace → judge w t ≡ SmallWorkspace
  unfolding judge judged accepted read_up_to read_text_up_to refuse_if ◌>>=◌
  reply_small h = rw (lt-ltb w least_workspace h)

  reply_long : least_workspace ≤ w → most_bytes < length t → judge w t ≡ LongText
  unfolding judge judged accepted read_up_to read_text_up_to refuse_if ◌>>=◌
  reply_long h k = rw (le-ltb w least_workspace h, lt-ltb most_bytes (length t) k)

  -- within the sizes the reading's reply, or what the checks of a sheet come to
  pub accepted_read : WithinSizes w t → accepted w t ≡ (read_sheet t >>= λ s. fair s >>= satisfying)
  unfolding accepted read_up_to read_text_up_to refuse_if ◌>>=◌
  accepted_read z = rw (le-ltb w least_workspace z.enough, le-ltb most_bytes (length t) z.short)

  reply_unread : (v : Verdict) → WithinSizes w t → read_sheet t ≡ refused v → judge w t ≡ v
  unfolding judge judged ◌>>=◌
  reply_unread v z e = rw (accepted_read z, e)

  reply_got : (s : Sheet) → IsRead w t s → judge w t ≡ judged (fair s >>= satisfying)
  unfolding judge ◌>>=◌
  reply_got s r = rw (accepted_read r.sizes, (reads_exactly t s).1 r.spells)

-- a sheet that was read: 20, 10, 24, 11 and 12
module _ (s : Sheet) where
  pub fair_on : (f : Fault) → first_on_set_up s ≡ some f → fair s ≡ refused (OnSetUp f.line f.cell)
  unfolding fair refuse_fault ◌>>=◌
  fair_on f e = rw e

  pub fair_apart : (f : Fault) → first_on_set_up s ≡ none → first_not_apart s ≡ some f → fair s ≡ refused (NotApart f.line f.cell)
  unfolding fair refuse_fault ◌>>=◌
  fair_apart f o e = rw (o, e)

  pub fair_twice : (f : Fault) → first_on_set_up s ≡ none → first_not_apart s ≡ none → first_twice s ≡ some f → fair s ≡ refused (SameBranch f.line)
  unfolding fair refuse_fault ◌>>=◌
  fair_twice f o a e = rw (o, a, e)

  pub fair_elusive : (f : Fault) → first_on_set_up s ≡ none → first_not_apart s ≡ none → first_twice s ≡ none → first_not_elusive s ≡ some f
      → fair s ≡ refused (NotElusive f.line f.cell)
  unfolding fair refuse_fault ◌>>=◌
  fair_elusive f o a d e = rw (o, a, d, e)

  pub fair_many : first_on_set_up s ≡ none → first_not_apart s ≡ none → first_twice s ≡ none → first_not_elusive s ≡ none → most_outcomes < outcome_count s
      → fair s ≡ refused TooManyOutcomes
  unfolding fair refuse_fault refuse_if ◌>>=◌
  fair_many o a d e m = rw (o, a, d, e, lt-ltb most_outcomes (outcome_count s) m)

  pub fair_passed : first_on_set_up s ≡ none → first_not_apart s ≡ none → first_twice s ≡ none → first_not_elusive s ≡ none → outcome_count s ≤ most_outcomes
      → fair s ≡ got s
  unfolding fair refuse_fault refuse_if ◌>>=◌
  fair_passed o a d e m = rw (o, a, d, e, le-ltb most_outcomes (outcome_count s) m)

  fair_refused : (v : Verdict) → fair s ≡ refused v → judged (fair s >>= satisfying) ≡ v
  unfolding judged ◌>>=◌
  fair_refused v e = rw e

  pub fault_joined : (r : Result (Unit {0})) → refuse_unjoined s.board s.player 0 (outcomes s) ≡ r → satisfying s ≡ (r >>= λ u. got s)
  unfolding satisfying
  fault_joined r e = rw e

  fair_satisfying : (w : ℕ) (t : Bytes) → IsFair w t s → judge w t ≡ judged (satisfying s)
  unfolding ◌>>=◌
  fair_satisfying w t f =
      reply_got w t s f.read
      ∙ ap (λ (r : Result Sheet). judged (r >>= satisfying)) (fair_passed (free_none s f.free) (apart_none s f.apart) (none_twice s f.none_twice) (elusive_none s f.elusive) f.few)

-- every case of the table is what judge's reply tells
pub given_judge : (w : ℕ) (t : Bytes) (n : Told) → Given w t n → told (judge w t) ≡ n
unfolding judged ◌>>=◌ first_on_set_up first_not_apart first_not_elusive
given_judge w t _ (as_accepted s h) =
    ap told (
    fair_satisfying s w t h.fair
    ∙ ap judged (fault_joined s (got tt) (all_joined s.board s.player 0 (outcomes s) h.satisfying))
    )
given_judge w t _ (as_small h) = ap told (reply_small w t h)
given_judge w t _ (as_long h k) = ap told (reply_long w t h k)
given_judge w t _ (as_unread v z u) = ap told (reply_unread w t v z ((refused_exactly t v).1 u))
given_judge w t _ (as_on_set_up s f r h) =
    ap told (reply_got w t s r ∙ fair_refused s _ (fair_on s f (is_first s.board (λ (m : Move). m.line) (on_set_up s.set_up) (every_move s) f h)))
given_judge w t _ (as_not_apart s f r o h) =
    ap told (reply_got w t s r ∙ fair_refused s _ (fair_apart s f (free_none s o) (is_first s.board (λ (m : Move). m.line) not_apart (every_move s) f h)))
given_judge w t _ (as_twice s l r o a h) = ap told (reply_got w t s r ∙ fair_refused s _ (fair_twice s _ (free_none s o) (apart_none s a) (is_first_twice s l h)))
given_judge w t _ (as_not_elusive s f r o a d h) =
    ap told
    (reply_got w t s r
    ∙ fair_refused s _ (fair_elusive s f (free_none s o) (apart_none s a) (none_twice s d) (is_first s.board (λ (v : Wait). v.line) not_elusive (every_wait s) f h)))
given_judge w t _ (as_too_many s r o a d l m) =
    ap told (reply_got w t s r ∙ fair_refused s _ (fair_many s (free_none s o) (apart_none s a) (none_twice s d) (elusive_none s l) m))
given_judge w t _ (as_not_joined s i f h) =
    ap told (
    fair_satisfying s w t f
    ∙ ap judged
    (fault_joined s (refused (NotJoined (0 + i)))
    (first_unjoined s.board s.player 0 (outcomes s) i (omega (arith, count_is_length s, h.is_number)) h.not_joined h.joined_before))
    ∙ ap NotJoined (number i)
    )
  where
    number : (k : ℕ) → 0 + k ≡ k
    number k = omega arith

-- what judge's reply tells is a case of the table
abbrev GivenAs : ℕ → Bytes → Verdict → Type 0
GivenAs w t v = Given w t (told v)

module _ (w : ℕ) (t : Bytes) (s : Sheet) (r : IsRead w t s) where
  joined_given : IsFair w t s → (u : Result (Unit {0})) → Walked s.board s.player 0 (outcomes s) u → GivenAs w t (judged (u >>= λ x. got s))
  unfolding judged ◌>>=◌
  joined_given f _ (all h) = as_accepted s (record { fair = f; satisfying = h })
  joined_given f _ (first i k not_so so) =
      let n : 0 + i ≡ i = omega arith in
      rw n (as_not_joined s i f (record { is_number = omega (arith, count_is_length s); not_joined = not_so; joined_before = so }))

  count_given : AllFree s → AllApart s → NoneTwice s → AllElusive s → (b : Bool) → ltb most_outcomes (outcome_count s) ≡ b → GivenAs w t (judged (fair s >>= satisfying))
  unfolding ◌>>=◌
  count_given o a d l true q =
      subst⁻¹ (GivenAs w t) (fair_refused s _ (fair_many s (free_none s o) (apart_none s a) (none_twice s d) (elusive_none s l) (ltb-true most_outcomes (outcome_count s) q)))
      (as_too_many s r o a d l (ltb-true most_outcomes (outcome_count s) q))
  count_given o a d l false q =
      let m = ltb-false most_outcomes (outcome_count s) q in
      subst⁻¹ (λ (u : Result Sheet). GivenAs w t (judged (u >>= satisfying))) (fair_passed s (free_none s o) (apart_none s a) (none_twice s d) (elusive_none s l) m)
      (subst⁻¹ (λ (u : Result Sheet). GivenAs w t (judged u)) (fault_joined s (refuse_unjoined s.board s.player 0 (outcomes s)) refl)
      (joined_given (record { read = r; free = o; apart = a; none_twice = d; elusive = l; few = m }) (refuse_unjoined s.board s.player 0 (outcomes s)) (walked s.board s.player 0 (outcomes s))))

  elusive_given : AllFree s → AllApart s → NoneTwice s → (f : Option Fault) → first_not_elusive s ≡ f → GivenAs w t (judged (fair s >>= satisfying))
  unfolding first_not_elusive
  elusive_given o a d none q = count_given o a d (none_elusive s q) (ltb most_outcomes (outcome_count s)) refl
  elusive_given o a d (some f) q =
      subst⁻¹ (GivenAs w t) (fair_refused s _ (fair_elusive s f (free_none s o) (apart_none s a) (none_twice s d) q))
      (as_not_elusive s f r o a d (first_is s.board (λ (v : Wait). v.line) not_elusive (every_wait s) f q))

  twice_given : AllFree s → AllApart s → (f : Option Fault) → first_twice s ≡ f → GivenAs w t (judged (fair s >>= satisfying))
  twice_given o a none q = elusive_given o a (twice_none s q) (first_not_elusive s) refl
  twice_given o a (some f) q =
      subst⁻¹ (GivenAs w t) (fair_refused s _ (fair_twice s f (free_none s o) (apart_none s a) q)) (as_twice s f.line r o a (twice_first s f q))

  apart_given : AllFree s → (f : Option Fault) → first_not_apart s ≡ f → GivenAs w t (judged (fair s >>= satisfying))
  unfolding first_not_apart
  apart_given o none q = twice_given o (none_apart s q) (first_twice s) refl
  apart_given o (some f) q =
      subst⁻¹ (GivenAs w t) (fair_refused s _ (fair_apart s f (free_none s o) q)) (as_not_apart s f r o (first_is s.board (λ (m : Move). m.line) not_apart (every_move s) f q))

  free_given : (f : Option Fault) → first_on_set_up s ≡ f → GivenAs w t (judged (fair s >>= satisfying))
  unfolding first_on_set_up
  free_given none q = apart_given (none_free s q) (first_not_apart s) refl
  free_given (some f) q =
      subst⁻¹ (GivenAs w t) (fair_refused s _ (fair_on s f q))
      (as_on_set_up s f r (first_is s.board (λ (m : Move). m.line) (on_set_up s.set_up) (every_move s) f q))

read_given : (w : ℕ) (t : Bytes) → WithinSizes w t → (u : Result Sheet) → read_sheet t ≡ u → GivenAs w t (judge w t)
read_given w t z (refused v) e = subst⁻¹ (GivenAs w t) (reply_unread w t v z e) (as_unread v z ((refused_exactly t v).0 e))
read_given w t z (got s) e =
    let r : IsRead w t s = record { sizes = z; spells = (reads_exactly t s).0 e } in
    subst⁻¹ (GivenAs w t) (reply_got w t s r) (free_given w t s r (first_on_set_up s) refl)

pub judge_given : (w : ℕ) (t : Bytes) → Given w t (told (judge w t))
judge_given w t = sized (ltb w least_workspace) refl
  where
    texted : least_workspace ≤ w → (b : Bool) → ltb most_bytes (length t) ≡ b → GivenAs w t (judge w t)
    texted h true e =
        let k = ltb-true most_bytes (length t) e in
        subst⁻¹ (GivenAs w t) (reply_long w t h k) (as_long h k)
    texted h false e = read_given w t (record { enough = h; short = ltb-false most_bytes (length t) e }) (read_sheet t) refl

    sized : (b : Bool) → ltb w least_workspace ≡ b → GivenAs w t (judge w t)
    sized true e =
        let h = ltb-true w least_workspace e in
        subst⁻¹ (GivenAs w t) (reply_small w t h) (as_small h)
    sized false e = texted (ltb-false w least_workspace e) (ltb most_bytes (length t)) refl

-- demand 2, of judge: its reply tells these numbers exactly when the table gives them
pub given_exactly : (w : ℕ) (t : Bytes) (n : Told) → (told (judge w t) ≡ n) ↔ Given w t n
given_exactly w t n = (λ e. subst (Given w t) e (judge_given w t), given_judge w t n)

-- demand 2, of acceptance: a sheet is accepted exactly when it is one by document 01
walked_all : (b : Board) (p : Player) (n : ℕ) (os : List (List ℕ)) (r : Result (Unit {0})) → Walked b p n os r → (u : Unit {0}) → r ≡ got u
    → (o : List ℕ) → o ∈ os → Joins b p (among o)
walked_all b p n os _ (all h) u e = h
walked_all b p n os _ (first i k not_so so) u e = absurd (not_refused e)

pub read→ : (w : ℕ) (t : Bytes) (s : Sheet) → read w t ≡ got s → IsRead w t s
unfolding read_up_to read_text_up_to
read→ w t s e =
    let b = then_got (refuse_if (ltb w least_workspace) SmallWorkspace) _ s e in
    let c = then_got (refuse_if (ltb most_bytes (length t)) LongText) _ s b.2 in
    record {
      sizes = record { enough = ltb-false w least_workspace (refuse_if_got _ _ _ b.1); short = ltb-false most_bytes (length t) (refuse_if_got _ _ _ c.1) };
      spells = (reads_exactly t s).0 c.2;
    }

fair→ : (w : ℕ) (t : Bytes) (s : Sheet) → (read w t >>= fair) ≡ got s → IsFair w t s
unfolding fair
fair→ w t s e =
    let a = then_got (read w t) fair s e in
    let o = then_got (refuse_fault OnSetUp (first_on_set_up a.0)) _ s a.2 in
    let d = then_got (refuse_fault NotApart (first_not_apart a.0)) _ s o.2 in
    let k = then_got (refuse_fault (λ line cell. SameBranch line) (first_twice a.0)) _ s d.2 in
    let f = then_got (refuse_fault NotElusive (first_not_elusive a.0)) _ s k.2 in
    let g = then_got (refuse_if (ltb most_outcomes (outcome_count a.0)) TooManyOutcomes) _ s f.2 in
    let same : a.0 ≡ s = got_inj g.2 in
    record {
      read = read→ w t s (a.1 ∙ ap got same);
      free = none_free s (subst (λ (z : Sheet). first_on_set_up z ≡ none) same (refuse_fault_got _ _ _ o.1));
      apart = none_apart s (subst (λ (z : Sheet). first_not_apart z ≡ none) same (refuse_fault_got _ _ _ d.1));
      none_twice = twice_none s (subst (λ (z : Sheet). first_twice z ≡ none) same (refuse_fault_got _ _ _ k.1));
      elusive = none_elusive s (subst (λ (z : Sheet). first_not_elusive z ≡ none) same (refuse_fault_got _ _ _ f.1));
      few = subst (λ (z : Sheet). outcome_count z ≤ most_outcomes) same (ltb-false most_outcomes (outcome_count a.0) (refuse_if_got _ _ _ g.1));
    }

→fair : (w : ℕ) (t : Bytes) (s : Sheet) → IsFair w t s → (read w t >>= fair) ≡ got s
unfolding read_up_to read_text_up_to refuse_if ◌>>=◌
→fair w t s h =
    rw (le-ltb w least_workspace h.read.sizes.enough, le-ltb most_bytes (length t) h.read.sizes.short, (reads_exactly t s).1 h.read.spells)
    (fair_passed s (free_none s h.free) (apart_none s h.apart) (none_twice s h.none_twice) (elusive_none s h.elusive) h.few)

-- what outcome asks of a sheet
pub fair_exactly : (w : ℕ) (t : Bytes) (s : Sheet) → ((read w t >>= fair) ≡ got s) ↔ IsFair w t s
fair_exactly w t s = (fair→ w t s, →fair w t s)

-- acceptance is what comes after it
pub accepted_fair : (w : ℕ) (t : Bytes) → accepted w t ≡ (read w t >>= fair >>= satisfying)
unfolding accepted ◌>>=◌
accepted_fair w t = go (read w t) refl
  where
    go : (r : Result Sheet) → read w t ≡ r → accepted w t ≡ (read w t >>= fair >>= satisfying)
    go (refused v) e = rw e
    go (got s) e = rw e

accepted→ : (w : ℕ) (t : Bytes) (s : Sheet) → accepted w t ≡ got s → IsSheet w t s
unfolding satisfying
accepted→ w t s e =
    let a = then_got (read w t >>= fair) satisfying s (sym (accepted_fair w t) ∙ e) in
    let b = then_got (refuse_unjoined a.0.board a.0.player 0 (outcomes a.0)) _ s a.2 in
    let same : a.0 ≡ s = got_inj b.2 in
    let f = fair→ w t s (a.1 ∙ ap got same) in
    record {
      fair = f;
      satisfying =
          subst (λ (z : Sheet). AllJoin z) same
          (walked_all a.0.board a.0.player 0 (outcomes a.0) _ (walked a.0.board a.0.player 0 (outcomes a.0)) b.0 b.1);
    }

-- a fair sheet is accepted where its outcomes join
fair_accepted : (w : ℕ) (t : Bytes) (s : Sheet) → IsFair w t s → (r : Result (Unit {0})) → refuse_unjoined s.board s.player 0 (outcomes s) ≡ r
    → accepted w t ≡ (r >>= λ u. got s)
unfolding ◌>>=◌
fair_accepted w t s f r e = accepted_fair w t ∙ ap (λ (z : Result Sheet). z >>= satisfying) (→fair w t s f) ∙ fault_joined s r e

→accepted : (w : ℕ) (t : Bytes) (s : Sheet) → IsSheet w t s → accepted w t ≡ got s
unfolding ◌>>=◌
→accepted w t s h =
    fair_accepted w t s h.fair (got tt) (all_joined s.board s.player 0 (outcomes s) h.satisfying)

pub accepted_exactly : (w : ℕ) (t : Bytes) (s : Sheet) → (accepted w t ≡ got s) ↔ IsSheet w t s
accepted_exactly w t s = (accepted→ w t s, →accepted w t s)

-- a fair sheet is accepted, or refused with 13
pub fair_judged : (w : ℕ) (t : Bytes) (s : Sheet) → IsFair w t s → (told (judge w t)).number ≢ 0 → (told (judge w t)).number ≡ 13
unfolding judge
fair_judged w t s f z =
    subst⁻¹ Unjoined (fair_accepted w t s f (refuse_unjoined s.board s.player 0 (outcomes s)) refl)
    (go (refuse_unjoined s.board s.player 0 (outcomes s)) (walked s.board s.player 0 (outcomes s))) z
  where
    Unjoined : Result Sheet → Type 0
    Unjoined r = (told (judged r)).number ≢ 0 → (told (judged r)).number ≡ 13

    go : (r : Result (Unit {0})) → Walked s.board s.player 0 (outcomes s) r → Unjoined (r >>= λ u. got s)
    go _ (all h) = unfold judged ◌>>=◌ in λ y. absurd (y refl)
    go _ (first i k not_so so) = unfold judged ◌>>=◌ in λ y. refl
