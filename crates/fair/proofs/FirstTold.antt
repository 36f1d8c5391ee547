-- What is told first of the numbers of a range, as `find_map` answers it.
use mathlib.Core.Path.{◌≡◌, ap, subst, ◌∙◌}
use Prim.Native.Nat.{ℕ, ◌+◌, ◌-◌, ◌<◌}
use native.Mathlib.Nat.{eq-zero-or-pos}
use mathlib.Core.Logic.{⊎_elim}
use native.Mathlib.Omega.{arith}
use denote.Param.Members.{Mut}
use Rattle.std.specs.Prelude as code
use Rattle.std.specs.Fn.{Called}
use Rattle.std.specs.Option.{MatchOption, IfSome, IsSomeAnd, option_map}
use Rattle.std.specs.Iterator.Runs.{SomeRun, ItemsCountUp, CallKeepsClosure, AllItemsGive, IsFirstToGive}
use Rattle.std.specs.declared.ops.Range.{Range}
use Rattle.std.proofs.iter.Yields.{nat_range_steps}
use Rattle.std.proofs.iter.runs.Sources.{range_runs}

-- what is told first of the numbers below `end`, by what may be told of each; nothing is of those before it
abbrev pub FirstTold : {A : Type 0} → (told : ℕ → code.Option A → Type 0) → (end : ℕ) → code.Option A → Type 0
FirstTold told end (code.Some x) = (i : ℕ) × (i < end) × told i (code.Some x) × ((j : ℕ) → j < i → told j code.None)
FirstTold told end code.None = (j : ℕ) → j < end → told j code.None

-- nothing is told of one number more
pub none_again : (told : ℕ → Type 0) {i : ℕ} → ((j : ℕ) → j < i → told j) → told i → (j : ℕ) → j < i + 1 → told j
none_again told {i} before here j p =
    ⊎_elim
    (λ z.
    let same : i ≡ j = omega arith in
    subst told same here)
    (λ q. before j (omega arith)) (eq-zero-or-pos (i - j))

-- an item that is read is there
item : (o : code.Option ℕ) (n : ℕ) → option_map (λ (y : ℕ). y) o ≡ code.Some n → o ≡ code.Some n
item code.None n e = e
item (code.Some x) n e = e

pub first_told : {A F : Type 0} {g : Mut F (ℕ × Unit {0}) (code.Option A)} {f : F} (told : ℕ → code.Option A → Type 0) {s : Range ℕ} (r : code.Option A)
    → ((i : ℕ) (o : code.Option A) (q : F) → Called g f (i, tt) o q → (q ≡ f) × told i o) → s.start ≡ 0
    → SomeRun nat_range_steps s (λ p.
    MatchOption r ((p.whole ≡ code.true) × AllItemsGive p g f code.None) (λ y. (i : ℕ) × (i < p.len) × (p.len ≡ i + 1) × IsFirstToGive p g f (code.Some y) code.None i))
    → FirstTold told s.end r
first_told {A} {F} {g} {f} told {s} r calls z (p, from, w) = go r w
  where
    start : p.from.start ≡ 0
    start = ap (λ (k : Range ℕ). k.start) from ∙ z

    end : p.from.end ≡ s.end
    end = ap (λ (k : Range ℕ). k.end) from

    counts : ItemsCountUp p p.from.start p.from.end
    counts = range_runs p p.seen

    at : (k : ℕ) → k < p.len → p.at k ≡ code.Some k
    at k q =
        let here : p.from.start + k ≡ k = omega (arith, start) in
        item (p.at k) k (counts.3 k q ∙ ap (λ (n : ℕ). code.Some n) here)

    keep : CallKeepsClosure g f
    keep x o q c = (calls x.0 o q c).0

    go : (o : code.Option A) → MatchOption o ((p.whole ≡ code.true) × AllItemsGive p g f code.None) (λ y. (i : ℕ) × (i < p.len) × (p.len ≡ i + 1) × IsFirstToGive p g f (code.Some y) code.None i)
        → FirstTold told s.end o
    go code.None h = λ j q.
        let in_run : j < p.len = omega (arith, counts.1 h.0, start, end) in
        (calls j code.None f (subst (λ (k : code.Option ℕ). IfSome k (λ (x : ℕ). Called g f (x, tt) code.None f)) (at j in_run) (h.1 keep j))).1
    go (code.Some y) h =
        let gave = h.3 keep in (
          h.0,
          omega (arith, h.1, counts.0, start, end),
          (calls h.0 (code.Some y) f (subst (λ (k : code.Option ℕ). IsSomeAnd k (λ (x : ℕ). Called g f (x, tt) (code.Some y) f)) (at h.0 h.1) gave.0)).1,
          λ j q. (calls j code.None f (subst (λ (k : code.Option ℕ). IsSomeAnd k (λ (x : ℕ). Called g f (x, tt) code.None f)) (at j (omega (arith, h.1))) (gave.1 j q))).1,
        )
