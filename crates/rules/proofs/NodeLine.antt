-- What the next node's line comes to: a case for each refusal in its order, and one where it is read.
use mathlib.Core.Path.{◌≡◌, refl, subst, subst⁻¹}
use mathlib.Core.Logic.{◌≢◌}
use Prim.Native.Nat.{ℕ}
use mathlib.Core.Bool.{Bool, true, false}
use mathlib.Core.List.{[], ◌∷◌}
use mathlib.Core.Option.{Option, none, some}
use lib.Dec.{T, eqb}
use borrow.Author.Tests.{eq-eqb, ne_eqb, eqb-true, eqb-false}
use Rattle.rules.specs.Sizes.{most_nodes}
use Rattle.rules.specs.Text.{Bytes, Reader}
use Rattle.rules.specs.Lines.{Line}
use Rattle.rules.specs.Reading.{Result, refused, Spot, go, give, within, Node, refuse_here, line_here, node_here, this_spot, is_nothing, node_line}
use Rattle.rules.specs.declared.Board.{Board}
use Rattle.rules.specs.declared.Verdict.TheVariants.{BadLine, OffBoard, TooManyNodes, TooDeep, Unfinished}
use Rattle.rules.proofs.Tests.{true_of, false_of}
use Rattle.rules.proofs.Lists.{not_nil}

-- a line begins here, and may
pub record LineBegins (s : Spot) : Type 0 where
  pub some_text : s.text ≢ []
  pub not_full : s.nodes ≢ most_nodes

module _ (b : Board) (r : Reader Line) (levels : ℕ) (s : Spot) where
  pub data LineSeen : Result (Node × Spot) → Type 0 where
    sees_end : s.text ≡ [] → LineSeen (refused (Unfinished s.line))
    sees_many : s.text ≢ [] → s.nodes ≡ most_nodes → LineSeen (refused (TooManyNodes s.line))
    sees_bad : LineBegins s → r s.text ≡ none → LineSeen (refused (BadLine s.line))
    sees_deep : LineBegins s → (x : Line × Bytes) → r s.text ≡ some x → levels ≡ 0 → LineSeen (refused (TooDeep s.line))
    sees_off : LineBegins s → (x : Line × Bytes) → r s.text ≡ some x → levels ≢ 0 → (T (within b x.0.place) → ⊥) → LineSeen (refused (OffBoard s.line))
    sees_line : LineBegins s → (x : Line × Bytes) → r s.text ≡ some x → levels ≢ 0 → T (within b x.0.place) → LineSeen (node_here b x s)

  nothing : s.text ≡ [] → is_nothing s.text ≡ true
  unfolding is_nothing
  nothing e = rw e

  something : (t : Bytes) → t ≢ [] → is_nothing t ≡ false
  unfolding is_nothing
  something [] h = absurd (h refl)
  something (x ∷ t) h = refl

  -- what is seen is what the line comes to
  pub seen_is : (q : Result (Node × Spot)) → LineSeen q → node_line b r levels s ≡ q
  unfolding node_line this_spot refuse_here line_here go give
  seen_is _ (sees_end e) = rw (nothing e)
  seen_is _ (sees_many h e) = rw (something s.text h, eq-eqb s.nodes most_nodes e)
  seen_is _ (sees_bad h e) = rw (something s.text h.some_text, ne_eqb s.nodes most_nodes h.not_full, e)
  seen_is _ (sees_deep h x e z) = rw (something s.text h.some_text, ne_eqb s.nodes most_nodes h.not_full, e, eq-eqb levels 0 z)
  seen_is _ (sees_off h x e z w) =
      rw (something s.text h.some_text, ne_eqb s.nodes most_nodes h.not_full, e, ne_eqb levels 0 z, false_of (within b x.0.place) w)
  seen_is _ (sees_line h x e z w) =
      rw (something s.text h.some_text, ne_eqb s.nodes most_nodes h.not_full, e, ne_eqb levels 0 z, true_of (within b x.0.place) w)

  -- and what it comes to is seen
  abbrev Seen : Type 0
  Seen = LineSeen (node_line b r levels s)

  seen_as : (q : Result (Node × Spot)) → LineSeen q → Seen
  seen_as q h = subst⁻¹ LineSeen (seen_is q h) h

  inside_seen : LineBegins s → (x : Line × Bytes) → r s.text ≡ some x → levels ≢ 0 → (w : Bool) → within b x.0.place ≡ w → Seen
  inside_seen h x e z true w = seen_as _ (sees_line h x e z (subst⁻¹ T w tt))
  inside_seen h x e z false w = seen_as _ (sees_off h x e z (λ k. subst T w k))

  level_seen : LineBegins s → (x : Line × Bytes) → r s.text ≡ some x → (z : Bool) → eqb levels 0 ≡ z → Seen
  level_seen h x e true z = seen_as _ (sees_deep h x e (eqb-true levels 0 z))
  level_seen h x e false z = inside_seen h x e (eqb-false levels 0 z) (within b x.0.place) refl

  formed_seen : LineBegins s → (o : Option (Line × Bytes)) → r s.text ≡ o → Seen
  formed_seen h none e = seen_as _ (sees_bad h e)
  formed_seen h (some x) e = level_seen h x e (eqb levels 0) refl

  counted_seen : s.text ≢ [] → (k : Bool) → eqb s.nodes most_nodes ≡ k → Seen
  counted_seen h true k = seen_as _ (sees_many h (eqb-true s.nodes most_nodes k))
  counted_seen h false k = formed_seen (record { some_text = h; not_full = eqb-false s.nodes most_nodes k }) (r s.text) refl

  pub line_seen_lem : Seen
  line_seen_lem = go_on s.text refl
    where
      go_on : (t : Bytes) → s.text ≡ t → Seen
      go_on [] e = seen_as _ (sees_end e)
      go_on (c ∷ t) e = counted_seen (not_nil e) (eqb s.nodes most_nodes) refl
