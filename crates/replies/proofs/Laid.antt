-- The lent memory: what the entries' contracts leave in it.
use Rattle.std.proofs.lemmas.List.{drop-replicate}
use mathlib.Core.Path.{◌≡◌, refl, sym, ap, subst, subst⁻¹, ◌∙◌}
use mathlib.Core.Logic.{⊎_elim}
use mathlib.Core.Bool.{Bool, true, false}
use mathlib.Core.List.{List, [], ◌++◌}
use Prim.Native.Nat.{ℕ, ◌+◌, ◌-◌, ◌<◌, ◌≤◌}
use native.Mathlib.Nat.{eq-zero-or-pos}
use native.Mathlib.Omega.{arith}
use lib.ListN.{length, take, drop, replicate, length-append, length-drop, length-replicate}
use lib.Seq.{take_at, drop_at}
use borrow.Author.Tests.{lt-ltb, le-ltb}
use Rattle.rules.specs.Sizes.{least_workspace}
use Rattle.rules.specs.Text.{Bytes}
use Rattle.rules.specs.Tree.{Sheet}
use Rattle.rules.specs.Answering.{start}
use Rattle.rules.specs.Reading.{Result, refused, got}
use Rattle.rules.specs.Verdict.{told}
use Rattle.rules.specs.Entries.{Rounds, stopped, played, rounds, refused_play, played_out, play_on, play, named, outcome, workspace_after, room_after, play_shown, outcome_shown, PlayKept, OutcomeKept}
use Rattle.rules.specs.declared.Played.{Played}
use Rattle.rules.specs.declared.Named.{Named}
use Rattle.rules.proofs.Tests.{never_both}
use Rattle.replies.specs.Lent.{AllAre, Filled, WorkspaceLaid, RoomLaid}

-- what was made of one number is that number, as long as it is
pub all_are : (v n : ℕ) {l : List ℕ} → l ≡ replicate n v → AllAre v l
all_are v n e = e ∙ ap (λ (m : ℕ). replicate m v) (sym (ap length e ∙ length-replicate {A = ℕ} n v))

-- and so is its end
all_drop : (n v : ℕ) (l : List ℕ) → AllAre v l → AllAre v (drop n l)
all_drop n v l a = all_are v _ (ap (drop n) a ∙ drop-replicate n (length l) v)

-- what the entries leave of a workspace that was filled
workspace_after_lem : (n : ℕ) (w : List ℕ) → n ≡ least_workspace → (length w < n → workspace_after w ≡ w) × (n ≤ length w → workspace_after w ≡ replicate n 0 ++ drop n w)
unfolding workspace_after
workspace_after_lem n w e = (λ h. rw (lt-ltb (length w) least_workspace (omega arith)), λ h. rw (e, le-ltb (length w) least_workspace (omega arith)))

pub workspace_laid : (w : List ℕ) → Filled w → WorkspaceLaid (workspace_after w)
workspace_laid w f = laid least_workspace refl
  where
    laid : (n : ℕ) → n ≡ least_workspace → WorkspaceLaid (workspace_after w)
    laid n e =
        let later = replicate n 0 ++ drop n w in
        ⊎_elim
        (λ z.
        let same = (workspace_after_lem n w e).1 (omega arith) in
        let long : length later ≡ n + (length w - n) = omega (arith, length-append (replicate n 0) (drop n w), length-replicate {A = ℕ} n 0, length-drop n w) in
        let first = all_are 0 n (take_at (replicate n 0) (drop n w) n (length-replicate {A = ℕ} n 0)) in
        let rest = subst⁻¹ Filled (drop_at (replicate n 0) (drop n w) n (length-replicate {A = ℕ} n 0)) (all_drop n 4294967295 w f) in
        subst⁻¹ WorkspaceLaid same
        (record {
          unchanged = λ h. absurd (omega (arith, long));
          cleared = λ h. subst (λ (m : ℕ). AllAre 0 (take m later)) e first;
          others = λ h. subst (λ (m : ℕ). Filled (drop m later)) e rest;
        }))
        (λ z.
        let same = (workspace_after_lem n w e).0 (omega arith) in
        subst⁻¹ WorkspaceLaid same
        (record { unchanged = λ h. f; cleared = λ h. absurd (omega arith); others = λ h. absurd (omega arith) }))
        (eq-zero-or-pos (n - length w))

-- a refused play has no answers, a refused outcome no cells
play_silent : (w : ℕ) (t : Bytes) (xs : List ℕ) (n : ℕ) → ¬ ((told (play w t xs n).verdict).number ≡ 0) → (play w t xs n).answers ≡ []
unfolding play
play_silent w t xs n h = by_result _ h
  where
    by_rounds : (s : Sheet) (r : Rounds) → ¬ ((told (played_out s r).verdict).number ≡ 0) → (played_out s r).answers ≡ []
    by_rounds s (stopped v place) h = unfold played_out refused_play in refl
    by_rounds s (played g) h = absurd (h (unfold played_out in refl))

    by_result : (r : Result Sheet) → ¬ ((told (play_on xs r).verdict).number ≡ 0) → (play_on xs r).answers ≡ []
    by_result (refused v) h = unfold play_on refused_play in refl
    by_result (got s) h = unfold play_on in by_rounds s (rounds s (start s) 1 xs) (unfold play_on in h)

outcome_silent : (w : ℕ) (t : Bytes) (i n : ℕ) → ¬ ((told (outcome w t i n).verdict).number ≡ 0) → (outcome w t i n).cells ≡ []
unfolding outcome
outcome_silent w t i n h = by_result _ h
  where
    by_result : (r : Result (List ℕ)) → ¬ ((told (named r).verdict).number ≡ 0) → (named r).cells ≡ []
    by_result (refused v) h = unfold named in refl
    by_result (got xs) h = absurd (h (unfold named in refl))

-- what they leave of a room that was filled
room_laid : (xs room later : List ℕ) (number : ℕ) → Filled room → later ≡ room_after xs room → (¬ (number ≡ 0) → xs ≡ []) → RoomLaid number (length xs) later
unfolding room_after
room_laid xs room later number f e silent =
    subst⁻¹ (RoomLaid number (length xs)) e
    (record {
      there = omega (arith, length-append xs (drop (length xs) room));
      others = subst⁻¹ Filled (drop_at xs (drop (length xs) room) (length xs) refl) (all_drop (length xs) 4294967295 room f);
      refused = λ h. ap length (silent h);
    })

-- so the memory is never found otherwise
pub workspace_never : {w later : List ℕ} {ok : Bool} → Filled w → later ≡ workspace_after w → (WorkspaceLaid later → ok ≡ true) → ok ≡ false → ⊥
workspace_never {w} f e finds bad = never_both (finds (subst⁻¹ WorkspaceLaid e (workspace_laid w f))) bad

pub play_never : {w : List ℕ} {t : Bytes} {moves room : List ℕ} {r : Played} {w' room' : List ℕ} {ok : Bool} (number : ℕ) → Filled room → Filled w
    → PlayKept w t moves room r w' room' → number ≡ (told r.verdict).number → (WorkspaceLaid w' × RoomLaid number r.answers room' → ok ≡ true) → ok ≡ false → ⊥
unfolding play_shown
play_never {w} {t} {moves} {room} {r} {w'} {room'} number f g k e finds bad =
    let o = play (length w) t moves (length room) in
    let many : r.answers ≡ length o.answers = ap (λ (z : Played). z.answers) k.reply in
    let told-so : number ≡ (told o.verdict).number = e ∙ ap (λ (z : Played). (told z.verdict).number) k.reply in
    let left = room_laid o.answers room room' number f k.answers (λ h. play_silent (length w) t moves (length room) (λ z. h (told-so ∙ z))) in
    never_both (finds (subst⁻¹ WorkspaceLaid k.memory (workspace_laid w g), subst⁻¹ (λ (n : ℕ). RoomLaid number n room') many left)) bad

pub outcome_never : {w : List ℕ} {t : Bytes} {i : ℕ} {room : List ℕ} {r : Named} {w' room' : List ℕ} {ok : Bool} (number : ℕ) → Filled room → Filled w
    → OutcomeKept w t i room r w' room' → number ≡ (told r.verdict).number → (WorkspaceLaid w' × RoomLaid number r.cells room' → ok ≡ true) → ok ≡ false → ⊥
unfolding outcome_shown
outcome_never {w} {t} {i} {room} {r} {w'} {room'} number f g k e finds bad =
    let o = outcome (length w) t i (length room) in
    let many : r.cells ≡ length o.cells = ap (λ (z : Named). z.cells) k.reply in
    let told-so : number ≡ (told o.verdict).number = e ∙ ap (λ (z : Named). (told z.verdict).number) k.reply in
    let left = room_laid o.cells room room' number f k.cells (λ h. outcome_silent (length w) t i (length room) (λ z. h (told-so ∙ z))) in
    never_both (finds (subst⁻¹ WorkspaceLaid k.memory (workspace_laid w g), subst⁻¹ (λ (n : ℕ). RoomLaid number n room') many left)) bad
