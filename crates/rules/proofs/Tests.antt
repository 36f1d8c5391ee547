-- Tests as statements: the connectives, a choice by a test, and a test as a number.
use mathlib.Core.Path.{◌≡◌, refl, sym, ap, ◌∙◌, subst, subst⁻¹}
use mathlib.Core.Bool.{Bool, true, false, not, cond, ◌&&◌, ◌||◌, not-not}
use mathlib.Core.Logic.{◌⊎◌, inl, inr}
use lib.Dec.{T}
use Rattle.rules.specs.Words.{one_if}

pub holds_of : {b : Bool} → b ≡ true → T b
holds_of e = subst⁻¹ T e tt

pub true_of : (b : Bool) → T b → b ≡ true
true_of true h = refl
true_of false h = absurd h

pub false_of : (b : Bool) → (T b → ⊥) → b ≡ false
false_of true h = absurd (h tt)
false_of false h = refl

pub never_both : {b : Bool} → b ≡ true → b ≡ false → ⊥
never_both e f = subst T f (holds_of e)

-- two tests that hold together are the same
pub same_test : (a b : Bool) → (T a → T b) → (T b → T a) → a ≡ b
same_test true true f g = refl
same_test true false f g = absurd (f tt)
same_test false true f g = absurd (g tt)
same_test false false f g = refl

pub decide : (b : Bool) → T b ⊎ T (not b)
decide true = inl tt
decide false = inr tt

pub both : (a b : Bool) → T a → T b → T (a && b)
both true b h k = k
both false b h k = h

pub fst : (a b : Bool) → T (a && b) → T a
fst true b h = tt
fst false b h = h

pub snd : (a b : Bool) → T (a && b) → T b
snd true b h = h
snd false b h = absurd h

pub left : (a b : Bool) → T a → T (a || b)
left true b h = tt
left false b h = absurd h

pub right : (a b : Bool) → T b → T (a || b)
right true b h = tt
right false b h = h

pub cases : (a b : Bool) → T (a || b) → T a ⊎ T b
cases true b h = inl tt
cases false b h = inr h

pub nor_left : (a b : Bool) → T (not (a || b)) → T (not a)
nor_left true b h = h
nor_left false b h = tt

pub nor_right : (a b : Bool) → T (not (a || b)) → T (not b)
nor_right true b h = absurd h
nor_right false b h = h

pub nor : (a b : Bool) → T (not a) → T (not b) → T (not (a || b))
nor true b h k = h
nor false b h k = k

pub nand : (a b : Bool) → T (not (a && b)) → T (not a) ⊎ T (not b)
nand true b h = inr h
nand false b h = inl tt

pub twice : (b : Bool) → T b → T (not (not b))
twice true h = tt
twice false h = h

-- what a test that is turned round told
pub turned : {a b : Bool} → not a ≡ b → a ≡ not b
turned {a} e = sym (not-not a) ∙ ap not e

pub cond_yes : {A : Type 0} (b : Bool) (u v : A) → T b → cond b u v ≡ u
cond_yes true u v h = refl
cond_yes false u v h = absurd h

pub cond_no : {A : Type 0} (b : Bool) (u v : A) → T (not b) → cond b u v ≡ v
cond_no true u v h = absurd h
cond_no false u v h = refl

pub by_cond : {A : Type 0} (P : A → Type 0) (b : Bool) (u v : A) → (T b → P u) → (T (not b) → P v) → P (cond b u v)
by_cond P true u v f g = f tt
by_cond P false u v f g = g tt

pub one_yes : (b : Bool) → T b → one_if b ≡ 1
unfolding one_if
one_yes true h = refl
one_yes false h = absurd h

pub one_no : (b : Bool) → T (not b) → one_if b ≡ 0
unfolding one_if
one_no true h = absurd h
one_no false h = refl
