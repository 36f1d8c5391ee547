-- What the moves of a wait tell: the smallest cell in all of them, and how many aren't live. So of a node; and of a sheet, how many.
use mathlib.Core.Path.{◌≡◌, refl, sym, ap, ◌∙◌}
use mathlib.Core.Logic.{◌≢◌}
use mathlib.Core.Bool.{Bool, true, false, not, ◌&&◌, and_assoc}
use mathlib.Core.List.{List, [], ◌∷◌}
use mathlib.Core.Option.{none, some}
use Prim.Native.Nat.{ℕ, ◌+◌, ◌-◌, ◌<◌, ◌≤◌}
use native.Mathlib.Nat.{add-zero}
use native.Mathlib.Omega.{arith}
use Rattle.rules.specs.declared.Board.{Board}
use Rattle.rules.specs.Words.{among, total, one_if}
use Rattle.rules.specs.Board.{smallest}
use Rattle.rules.specs.Tree.{Waits, Moves, no_moves, move, Wait, Sheet, every_wait}
use Rattle.rules.specs.Fair.{in_move, in_every, not_elusive}
use Rattle.rules.specs.Live.{Shared, and_this, is_live, idle_under, idle_at, idle_count}
use Rattle.rules.proofs.Steps.{none≢some}
use Rattle.rules.proofs.Live.{in_all_before, all_before}
use Rattle.rules.proofs.Living.{one_at_most}
use Rattle.cells.proofs.Smallest.{smallest_same}
use Rattle.nodes.specs.Nodes.{a_wait}
use Rattle.nodes.specs.Table.{under_in, end_in, is_move_at, WeighedOn, SomeNode}
use Rattle.nodes.specs.Order.{TreeNode, is_move, is_wait, waits_among}
use Rattle.nodes.proofs.Order.{waits_of_waits_lem}
use Rattle.nodes.proofs.Walk.{Walking, walking_starts, walking_again}
use Rattle.fair.specs.Faults.{at_waits, WaitAt, IsFault}
use Rattle.fair.proofs.WhichKind.{of_move, of_wait, none_move}
use Rattle.fair.proofs.Laid.{tree_of}
use Rattle.fair.proofs.Adding.{Sum}
use Rattle.std.specs.Prelude as code
use Rattle.fair.specs.declared.Fault.{Fault}
use Rattle.live.specs.Looking.{CommonIs, ToldAny, LeastAny, LookedAny, LookedAt, idle_in}
use Rattle.live.specs.declared.Common.{Common}
use Rattle.live.specs.declared.Common.TheVariants.{NoMove}
use Rattle.live.proofs.Asking.{Asked, asked_all, asked_again, Stops, asked_stop}

-- ---- of a wait

-- so many of those before are live, and the cells that are in every move are those common to them that are in every one that is left
pub record SoFar (passed live : ℕ) (ms : Moves) (before : Shared) (rest : Moves) : Type 0 where
  pub so_many : passed + idle_under before rest ≡ live + idle_under none ms
  pub in_every_lem : (x : ℕ) → in_every ms x ≡ (in_all_before before x && in_every rest x)
  pub all_left : before ≡ none → rest ≡ ms

-- one more, or none
pub one_live : (n : ℕ) (live : Bool) → live ≡ true → n + 1 ≡ n + one_if live
unfolding one_if
one_live n live e = rw e refl

pub none_live : (n : ℕ) (live : Bool) → live ≡ false → n ≡ n + one_if live
unfolding one_if
none_live n live e = rw e (sym (add-zero n))

one_or_other : (y : Bool) → one_if y + one_if (not y) ≡ 1
unfolding one_if
one_or_other true = refl
one_or_other false = refl

never_none : (before : Shared) (c : ℕ) (ws : Waits) → and_this before c ws ≡ none → ⊥
unfolding and_this
never_none none c ws e = none≢some (sym e)
never_none (some xs) c ws e = none≢some (sym e)

pub record Counting (b : Board) (t : List ℕ) (i under next j : ℕ) (z : Common) (live : ℕ) : Type 0 where
  pub walk : Walking (WeighedOn b t) (WeighedOn b t) a_wait i under next j (Asked b z (SoFar j live))
  pub few : live ≤ j

pub counting_starts : {b : Board} {t : List ℕ} {i under : ℕ} → under ≡ under_in t i → Counting b t i under (i + 1) 0 NoMove 0
counting_starts {b} e =
    record {
      walk =
          walking_starts (λ c u r. omega (arith, r.weight.row.under))
          (asked_all b (SoFar 0 0) (λ ms. record { so_many = refl; in_every_lem = λ x. refl; all_left = λ q. refl }));
      few = omega arith;
    }

module _ {b : Board} {t : List ℕ} {i under next j : ℕ} {z : Common} {live : ℕ} (w : Counting b t i under next j z live) where
  -- one more is looked at
  pub counting_again : j < under → SomeNode (WeighedOn b t) a_wait i → {next' : ℕ} {z' : Common} {is : Bool} (live' : ℕ) → ToldAny b t next z z' is → next' ≡ end_in t next → live' ≡ live + one_if is
      → Counting b t i under next' (j + 1) z' live'
  counting_again p n {next'} {z'} {is} live' tells end e =
      record {
        walk = walking_again w.walk p n (λ c v m.
            record {
              next_is = end ∙ m.here.weight.end;
              each = λ a s. s;
              holds = asked_again (SoFar j live) (SoFar (j + 1) live') tells c v m (λ ms before line ws others at told h. one_more ms before line ws others told h);
            });
        few = omega (arith, w.few, e, one_at_most is);
      }
    where
      one_more : {c : ℕ} (ms : Moves) (before : Shared) (line : ℕ) (ws : Waits) (others : Moves) → is ≡ is_live before c ws
          → SoFar j live ms before (move line c ws others) → SoFar (j + 1) live' ms (and_this before c ws) others
      one_more {c} ms before line ws others told h =
          record {
            so_many = unfold idle_under in omega (arith, e, h.so_many, ap (λ y. one_if (not y)) told, one_or_other is);
            in_every_lem = λ x.
                unfold in_every in
                h.in_every_lem x
                ∙ sym (and_assoc (in_all_before before x) (in_move c ws x) (in_every others x))
                ∙ ap (λ y. y && in_every others x) (sym (all_before before c ws x));
            all_left = λ q. absurd (never_none before c ws q);
          }

  -- none is left, or none that is left is live
  pub counting_done : Stops z under j → {cell : ℕ} → LeastAny b z cell → (v : Wait) → WaitAt b t i v → v.moves ≢ no_moves
      → (cell ≡ smallest b (not_elusive v)) × (under - live ≡ idle_at v)
  counting_done p {cell} least v a some_move =
      let d = asked_stop w.walk p v.moves a in (
        smallest_of d.before d.common (λ x. d.holds.in_every_lem x ∙ d.over.in_all x) (λ q. some_move (sym (d.holds.all_left q) ∙ d.over.none_before q)),
        omega (arith, d.holds.so_many, d.over.all_idle, d.many_left, w.walk.turns, w.few),
      )
    where
      smallest_of : (before : Shared) → CommonIs b z before → ((x : ℕ) → in_every v.moves x ≡ in_all_before before x) → (before ≢ none) → cell ≡ smallest b (not_elusive v)
      smallest_of none h every some-before = absurd (some-before refl)
      smallest_of (some xs) h every some-before = least xs h ∙ unfold not_elusive in smallest_same b (among xs) (in_every v.moves) (λ x c. sym (every x))

-- ---- of a node

module _ {b : Board} {t : List ℕ} {i : ℕ} where
  -- a move tells nothing
  pub move_told : is_move_at t i ≡ true → LookedAt b t i (code.Ok 0)
  move_told e = (none_move not_elusive e, of_move e (λ n. 0 ≡ idle_in n) (λ m a. refl))

  -- a wait what its moves tell
  pub wait_told : (r : code.Result ℕ Fault) → is_move_at t i ≡ false → LookedAny b t i r → LookedAt b t i r
  wait_told (code.Err f) e h = of_wait e (λ n. IsFault i (smallest b (at_waits not_elusive n)) (code.Some f)) h
  wait_told (code.Ok idle) e h = (
    of_wait e (λ n. smallest b (at_waits not_elusive n) ≡ 0) (λ w a g. (h w a g).0),
    of_wait e (λ n. idle ≡ idle_in n) (λ w a g. (h w a g).1),
  )

-- ---- of a sheet

-- the waits of a list of nodes give the sum
waits_total : (ns : List TreeNode) → total idle_in ns ≡ total idle_at (waits_among ns)
unfolding total waits_among
waits_total [] = refl
waits_total (is_move m ∷ ns) = omega (arith, waits_total ns)
waits_total (is_wait w ∷ ns) = ap (λ n. idle_at w + n) (waits_total ns)

pub tree_total : (s : Sheet) → idle_count s ≡ total idle_in (tree_of s)
unfolding idle_count every_wait waits_among
tree_total s = ap (total idle_at) (sym (waits_of_waits_lem s.root.waits)) ∙ sym (waits_total (tree_of s))

abbrev pub idle_sum : Sum
idle_sum = record { gives = idle_in; all = idle_count; is_all = tree_total }
