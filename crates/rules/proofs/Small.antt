-- The numbers of a reply fit into 32 bits: a sheet has no more waits than nodes, and an outcome no more cells than the board.
use mathlib.Core.Path.{◌≡◌, refl, ap, subst}
use Prim.Native.Nat.{ℕ, zero, suc, ◌+◌, ◌*◌, ◌<◌, ◌≤◌}
use native.Mathlib.Omega.{arith}
use native.Mathlib.Nat.{mul-le-mul}
use mathlib.Core.Bool.{Bool, not}
use mathlib.Core.List.{List, [], ◌∷◌}
use lib.Dec.{ltb}
use lib.ListN.{length, take, get_or, length-append}
use lib.Seq.{length-take-le}
use Rattle.rules.specs.Sizes.{largest, most_nodes}
use Rattle.rules.specs.Words.{up_to, among}
use Rattle.rules.specs.Text.{Bytes}
use Rattle.rules.specs.Board.{cells, listed}
use Rattle.rules.specs.Tree.{Sheet, wait_count}
use Rattle.rules.specs.Plain.{WellRead}
use Rattle.rules.specs.Outcomes.{outcomes, outcome_count}
use Rattle.rules.specs.Reading.{Result, refused, got}
use Rattle.rules.specs.Answering.{start}
use Rattle.rules.specs.Entries.{◌>>=◌, refuse_if, read, fair, accepted, Rounds, rounds, PlayReply, refused_play, played_out, play_on, play, outcome_cells, named, outcome, PlayKept, play_shown, OutcomeKept, outcome_shown}
use Rattle.rules.specs.declared.Played.{Played}
use Rattle.rules.specs.declared.Named.{Named}
use Rattle.rules.specs.declared.Verdict.TheVariants.{NoSuchOutcome, ShortRoom}
use Rattle.rules.proofs.Lists.{keep_split}
use Rattle.rules.proofs.Steps.{got_inj, then_got}
use Rattle.rules.proofs.Given.{accepted_exactly, fair_exactly}
use Rattle.rules.proofs.Cover.{demand_3}
use Rattle.rules.proofs.GoesOn.{RoundsSeen, stops, plays, rounds_seen, outcome_fair}

-- no list of cells of the board is longer than the board
up_to_length : (n : ℕ) → length (up_to n) ≡ n
unfolding up_to
up_to_length zero = refl
up_to_length (suc n) = omega (arith, length-append (up_to n) (suc n ∷ []), up_to_length n)

few_listed : (s : Sheet) (set : ℕ → Bool) → WellRead s → length (listed s.board set) ≤ largest * largest
unfolding listed cells
few_listed s set w =
    let b = s.board in
    let m : b.columns * b.rows ≤ largest * largest = mul-le-mul {n₁ = b.columns} {m₁ = b.rows} {n₂ = largest} {m₂ = largest} w.size.columns.1 w.size.rows.1 in
    omega (arith, m, keep_split set (up_to (b.columns * b.rows)), up_to_length (b.columns * b.rows))

-- outcome lists few cells
few_named : (r : Result (List ℕ)) → ((xs : List ℕ) → r ≡ got xs → length xs ≤ largest * largest) → length (named r).cells ≤ largest * largest
unfolding named
few_named (refused v) h = omega arith
few_named (got xs) h = h xs refl

few_cells : (w : ℕ) (t : Bytes) (i room : ℕ) → length (outcome w t i room).cells ≤ largest * largest
unfolding outcome_cells
few_cells w t i room =
    rw (outcome_fair w t i room)
    (few_named _ λ xs e.
    let a = then_got (read w t >>= fair) _ xs e in
    let s = a.0 in
    let c = then_got (refuse_if (not (ltb i (outcome_count s))) NoSuchOutcome) _ xs a.2 in
    let d = then_got (refuse_if (ltb room (length (outcome_cells s i))) ShortRoom) _ xs c.2 in
    let few = few_listed s (among (get_or (outcomes s) i [])) ((fair_exactly w t s).0 a.1).read.spells.well in
    omega (arith, ap length (got_inj d.2), few))

-- play has few rounds
record FewRounds (r : PlayReply) : Type 0 where
  few_places : r.place ≤ most_nodes + 1
  few_answers : length r.answers ≤ most_nodes

few_waits : (w : ℕ) (t : Bytes) (s : Sheet) → accepted w t ≡ got s → wait_count s ≤ most_nodes
few_waits w t s e = omega (arith, ((accepted_exactly w t s).0 e).fair.read.spells.well.few_nodes)

few_out : (w : ℕ) (t : Bytes) (s : Sheet) (xs : List ℕ) → accepted w t ≡ got s → (r : Rounds) → RoundsSeen s (start s) 1 xs r → FewRounds (played_out s r)
unfolding played_out refused_play
few_out w t s xs e _ (stops k g v at small is before why) =
    let n = (demand_3 w t s e).within (take k xs) g before in
    record { few_places = omega (arith, is, n, length-take-le k xs (omega (arith, small)), few_waits w t s e); few_answers = omega arith }
few_out w t s xs e _ (plays g r) =
    let n = (demand_3 w t s e).within xs g r in
    let m = ((demand_3 w t s e).plays xs g r (length xs) (omega arith)).one_each in
    record { few_places = omega arith; few_answers = omega (arith, m, n, few_waits w t s e) }

few_rounds : (w : ℕ) (t : Bytes) (xs : List ℕ) (room : ℕ) → FewRounds (play w t xs room)
unfolding play play_on refused_play
few_rounds w t xs room = go (accepted w t >>= λ s. refuse_if (ltb room (length xs)) ShortRoom >>= λ u. got s) refl
  where
    go : (r : Result Sheet) → (accepted w t >>= λ s. refuse_if (ltb room (length xs)) ShortRoom >>= λ u. got s) ≡ r → FewRounds (play_on xs r)
    go (refused v) e = record { few_places = omega arith; few_answers = omega arith }
    go (got s) e =
        let a = then_got (accepted w t) _ s e in
        let b = then_got (refuse_if (ltb room (length xs)) ShortRoom) _ s a.2 in
        let f = subst (λ (z : Sheet). accepted w t ≡ got z) (got_inj b.2) a.1 in
        few_out w t s xs f (rounds s (start s) 1 xs) (rounds_seen s (start s) 1 xs)

-- so what the entries hand back does
module _ {workspace workspace' : List ℕ} {t : Bytes} {room room' : List ℕ} where
  pub outcome_few : {number : ℕ} {n : Named} → OutcomeKept workspace t number room n workspace' room' → n.cells < 4294967296
  unfolding outcome_shown
  outcome_few {number} k = omega (arith, ap (λ (z : Named). z.cells) k.reply, few_cells (length workspace) t number (length room))

  module _ {moves : List ℕ} {p : Played} (k : PlayKept workspace t moves room p workspace' room') where
    pub play_few_places : p.place < 4294967296
    unfolding play_shown
    play_few_places =
        omega (arith, ap (λ (z : Played). z.place) k.reply, (few_rounds (length workspace) t moves (length room)).few_places)

    pub play_few_answers : p.answers < 4294967296
    unfolding play_shown
    play_few_answers =
        omega (arith, ap (λ (z : Played). z.answers) k.reply, (few_rounds (length workspace) t moves (length room)).few_answers)
