-- C-15 of lists of moves: where the stones join all but the first are passed over (A); where they do not, lists that begin with
-- different moves are counted apart (B).
use Rattle.std.specs.Prelude.{if◌then◌else◌}
use mathlib.Core.Path.{◌≡◌, refl, sym, ap, ap₂, ◌∙◌}
use Prim.Native.Nat.{ℕ, ◌+◌, ◌≤◌}
use native.Mathlib.Omega.{arith}
use mathlib.Core.Bool.{Bool, true, false, not, ◌&&◌, ◌||◌}
use mathlib.Core.List.{List, [], ◌∷◌, ◌++◌, map, append-nil, append_assoc, map-append}
use mathlib.Core.Option
use mathlib.Core.Option.{Option, none, some}
use lib.Dec.{T, eqb, eqb_refl}
use lib.ListN.{length, length-map}
use Rattle.rules.specs.Words.{among, any, first_that, one_if}
use Rattle.rules.specs.Joining.{joined}
use Rattle.rules.specs.Tree.{Move, stone}
use Rattle.rules.specs.Passing.{stones_of, beginnings, shortest, begins, begins_there, is_passed, passed_among}
use Rattle.rules.specs.declared.Board.{Board}
use Rattle.rules.specs.declared.Player.{Player}
use Rattle.rules.proofs.Tests.{holds_of, true_of, turned}
use Rattle.rules.proofs.Lists.{append_left}
use Rattle.rules.proofs.Joining.{joined_more}
use Rattle.rules.proofs.EachOutcome.{Each}
use Rattle.rules.proofs.Living.{one_at_most}

-- the first that passes, where the first does, among lists with one more move, and by an equal test
first_passes : (t : List Move → Bool) (l : List Move) (ls : List (List Move)) → t l ≡ true → first_that t (l ∷ ls) ≡ some l
unfolding first_that
first_passes t l ls e = ap (λ (u : Bool). if u then some l else first_that t ls) e

first_fails : (t : List Move → Bool) (l : List Move) (ls : List (List Move)) → t l ≡ false → first_that t (l ∷ ls) ≡ first_that t ls
unfolding first_that
first_fails t l ls e = ap (λ (u : Bool). if u then some l else first_that t ls) e

one_more : (u : Bool) (m : Move) (l : List Move) (o : Option (List Move))
    → (if u then some (m ∷ l) else Option.map (λ k. m ∷ k) o) ≡ Option.map (λ k. m ∷ k) (if u then some l else o)
one_more true m l o = refl
one_more false m l o = refl

first_after : (t u : List Move → Bool) (m : Move) → ((l : List Move) → t (m ∷ l) ≡ u l) → (ls : List (List Move))
    → first_that t (map (λ l. m ∷ l) ls) ≡ Option.map (λ l. m ∷ l) (first_that u ls)
unfolding first_that
first_after t u m e [] = refl
first_after t u m e (l ∷ ls) =
    ap₂ (λ (v : Bool) (o : Option (List Move)). if v then some (m ∷ l) else o) (e l) (first_after t u m e ls) ∙ one_more (u l) m l (first_that u ls)

begins_after : (m : Move) (o : Option (List Move)) (l : List Move) → begins_there (Option.map (λ k. m ∷ k) o) (m ∷ l) ≡ begins_there o l
unfolding begins_there begins
begins_after m none l = refl
begins_after m (some k) l = ap (λ (v : Bool). v && begins k l) (true_of (eqb m.line m.line) (eqb_refl m.line))

-- the list does not begin with a move on this line
unfoldable pub elsewhere : ℕ → List Move → Type 0
elsewhere line [] = Unit {0}
elsewhere line (n ∷ l) = T (not (eqb line n.line))

begins_elsewhere : (m : Move) (o : Option (List Move)) (l : List Move) → elsewhere m.line l → begins_there (Option.map (λ k. m ∷ k) o) l ≡ false
unfolding begins_there begins elsewhere
begins_elsewhere m none l e = refl
begins_elsewhere m (some k) [] e = refl
begins_elsewhere m (some k) (n ∷ l) e = ap (λ (v : Bool). v && begins k l) (turned {a = eqb m.line n.line} (true_of (not (eqb m.line n.line)) e))

module _ (b : Board) (p : Player) where
  -- where the stones join the shortest beginning is empty
  pub shortest_here : (put : List ℕ) (l : List Move) → joined b p (among put) ≡ true → shortest b p put l ≡ some []
  unfolding shortest beginnings stones_of
  shortest_here put [] e = first_passes _ [] [] (ap (λ (xs : List ℕ). joined b p (among xs)) (append-nil put) ∙ e)
  shortest_here put (m ∷ l) e =
      first_passes _ [] (map (λ k. m ∷ k) (beginnings l)) (ap (λ (xs : List ℕ). joined b p (among xs)) (append-nil put) ∙ e)

  -- where they do not it has the first move, and goes on with its stone
  pub shortest_on : (put : List ℕ) (m : Move) (l : List Move) → joined b p (among put) ≡ false
      → shortest b p put (m ∷ l) ≡ Option.map (λ k. m ∷ k) (shortest b p (put ++ stone m.cell) l)
  unfolding shortest beginnings stones_of
  shortest_on put m l e =
      first_fails (λ k. joined b p (among (put ++ stones_of k))) [] (map (λ k. m ∷ k) (beginnings l)) (ap (λ (xs : List ℕ). joined b p (among xs)) (append-nil put) ∙ e)
      ∙ first_after (λ k. joined b p (among (put ++ stones_of k))) (λ k. joined b p (among ((put ++ stone m.cell) ++ stones_of k))) m
      (λ k. ap (λ (xs : List ℕ). joined b p (among xs)) (sym (append_assoc put (stone m.cell) (stones_of k)))) (beginnings l)

  -- lists after others
  passed_append : (put : List ℕ) (es ls rs : List (List Move)) → passed_among b p put es (ls ++ rs) ≡ passed_among b p put es ls + passed_among b p put (es ++ ls) rs
  unfolding passed_among
  passed_append put es [] rs = ap (λ (z : List (List Move)). passed_among b p put z rs) (sym (append-nil es)) ∙ omega arith
  passed_append put es (l ∷ ls) rs =
      let z : passed_among b p put ((es ++ l ∷ []) ++ ls) rs ≡ passed_among b p put (es ++ l ∷ ls) rs =
      ap (λ (k : List (List Move)). passed_among b p put k rs) (append_assoc es (l ∷ []) ls) in
      omega (arith, passed_append put (es ++ l ∷ []) ls rs, z)

  -- (A) where the stones join, all lists share one shortest beginning: all after the first are passed over
  passed_after : (put : List ℕ) (e : List Move) (es ls : List (List Move)) → joined b p (among put) ≡ true → passed_among b p put (e ∷ es) ls ≡ length ls
  unfolding passed_among is_passed any begins_there begins one_if
  passed_after put e es [] j = refl
  passed_after put e es (l ∷ ls) j =
      let z : one_if (is_passed b p put (e ∷ es) l) ≡ 1 =
      ap (λ (o : Option (List Move)). one_if (begins_there o l || is_passed b p put es l)) (shortest_here put e j) in
      omega (arith, z, passed_after put e (es ++ l ∷ []) ls j)

  pub passed_joined : (put : List ℕ) (l : List Move) (ls : List (List Move)) → joined b p (among put) ≡ true → passed_among b p put [] (l ∷ ls) ≡ length ls
  unfolding passed_among is_passed any one_if
  passed_joined put l ls j = omega (arith, passed_after put l [] ls j)

  -- where they do not, lists that begin with one move are passed over as they are after it
  passed_by_after : (put : List ℕ) (m : Move) (l : List Move) (es : List (List Move)) → joined b p (among put) ≡ false
      → is_passed b p put (map (λ k. m ∷ k) es) (m ∷ l) ≡ is_passed b p (put ++ stone m.cell) es l
  unfolding is_passed any
  passed_by_after put m l [] j = refl
  passed_by_after put m l (e ∷ es) j =
      ap₂ ◌||◌ (ap (λ (o : Option (List Move)). begins_there o (m ∷ l)) (shortest_on put m e j) ∙ begins_after m (shortest b p (put ++ stone m.cell) e) l)
      (passed_by_after put m l es j)

  passed_on : (put : List ℕ) (m : Move) (es ls : List (List Move)) → joined b p (among put) ≡ false
      → passed_among b p put (map (λ k. m ∷ k) es) (map (λ k. m ∷ k) ls) ≡ passed_among b p (put ++ stone m.cell) es ls
  unfolding passed_among
  passed_on put m es [] j = refl
  passed_on put m es (l ∷ ls) j =
      ap₂ ◌+◌ (ap one_if (passed_by_after put m l es j))
      (ap (λ (k : List (List Move)). passed_among b p put k (map (λ z. m ∷ z) ls)) (sym (map-append (λ z. m ∷ z) es (l ∷ []))) ∙ passed_on put m (es ++ l ∷ []) ls j)

  -- and none that begins elsewhere is passed over for them
  passed_by_elsewhere : (put : List ℕ) (m : Move) (l : List Move) (hs es : List (List Move)) → joined b p (among put) ≡ false → elsewhere m.line l
      → is_passed b p put (map (λ k. m ∷ k) hs ++ es) l ≡ is_passed b p put es l
  unfolding is_passed any
  passed_by_elsewhere put m l [] es j u = refl
  passed_by_elsewhere put m l (h ∷ hs) es j u =
      ap₂ ◌||◌ (ap (λ (o : Option (List Move)). begins_there o l) (shortest_on put m h j) ∙ begins_elsewhere m (shortest b p (put ++ stone m.cell) h) l u)
      (passed_by_elsewhere put m l hs es j u)

  passed_elsewhere : (put : List ℕ) (m : Move) (hs es rs : List (List Move)) → joined b p (among put) ≡ false → Each (elsewhere m.line) rs
      → passed_among b p put (map (λ k. m ∷ k) hs ++ es) rs ≡ passed_among b p put es rs
  unfolding passed_among
  passed_elsewhere put m hs es [] j u = refl
  passed_elsewhere put m hs es (r ∷ rs) j u =
      ap₂ ◌+◌ (ap one_if (passed_by_elsewhere put m r hs es j u.0))
      (ap (λ (k : List (List Move)). passed_among b p put k rs) (append_assoc (map (λ k. m ∷ k) hs) es (r ∷ [])) ∙ passed_elsewhere put m hs (es ++ r ∷ []) rs j u.1)

  -- (B) so what goes on from two moves of a wait is counted apart
  pub passed_apart : (put : List ℕ) (m : Move) (ls rs : List (List Move)) → joined b p (among put) ≡ false → Each (elsewhere m.line) rs
      → passed_among b p put [] (map (λ k. m ∷ k) ls ++ rs) ≡ passed_among b p (put ++ stone m.cell) [] ls + passed_among b p put [] rs
  passed_apart put m ls rs j u =
      passed_append put [] (map (λ k. m ∷ k) ls) rs
      ∙ ap₂ ◌+◌ (passed_on put m [] ls j)
      (ap (λ (k : List (List Move)). passed_among b p put k rs) (sym (append-nil (map (λ k. m ∷ k) ls))) ∙ passed_elsewhere put m ls [] rs j u)

  -- more stones join where fewer do
  pub joined_on : (put more : List ℕ) → joined b p (among put) ≡ true → joined b p (among (put ++ more)) ≡ true
  joined_on put more j =
      true_of (joined b p (among (put ++ more)))
      (joined_more b p (among put) (among (put ++ more)) (λ y i h. append_left y put more h) (holds_of j))

  -- lists that all begin with one move are passed over as they are after it, joined or not
  pub passed_first : (put : List ℕ) (m : Move) (ls : List (List Move)) → passed_among b p put [] (map (λ k. m ∷ k) ls) ≡ passed_among b p (put ++ stone m.cell) [] ls
  unfolding passed_among
  passed_first put m [] = refl
  passed_first put m (l ∷ ls) = go (joined b p (among put)) refl
    where
      go : (t : Bool) → joined b p (among put) ≡ t
          → passed_among b p put [] (map (λ k. m ∷ k) (l ∷ ls)) ≡ passed_among b p (put ++ stone m.cell) [] (l ∷ ls)
      go true j =
          passed_joined put (m ∷ l) (map (λ k. m ∷ k) ls) j ∙ length-map ls (λ k. m ∷ k) ∙ sym (passed_joined (put ++ stone m.cell) l ls (joined_on put (stone m.cell) j))
      go false j = passed_on put m [] (l ∷ ls) j

  -- no more are passed over than there are
  pub passed_most : (put : List ℕ) (es ls : List (List Move)) → passed_among b p put es ls ≤ length ls
  unfolding passed_among
  passed_most put es [] = omega arith
  passed_most put es (l ∷ ls) = omega (arith, one_at_most (is_passed b p put es l), passed_most put (es ++ l ∷ []) ls)
