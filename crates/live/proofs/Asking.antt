-- A loop over the moves of a wait that looks at each: what was told of those before, and what is left. For any statement of these.
use mathlib.Core.Path.{◌≡◌, refl, sym, ap, ◌∙◌, subst}
use mathlib.Core.Bool.{Bool, ◌&&◌, and-true}
use mathlib.Core.Logic.{◌⊎◌, ⊎_elim}
use mathlib.Core.List.{List}
use mathlib.Core.Option.{none}
use Prim.Native.Nat.{ℕ, suc, ◌+◌, ◌-◌, ◌≤◌}
use native.Mathlib.Omega.{arith}
use Rattle.rules.specs.declared.Board.{Board}
use Rattle.rules.specs.Tree.{Waits, Moves, no_moves, move}
use Rattle.rules.specs.Fair.{in_every}
use Rattle.rules.specs.Live.{Shared, and_this, is_live, living_after, idle_under}
use Rattle.rules.proofs.Live.{in_all_before}
use Rattle.nodes.specs.Nodes.{Nodes, node, Kind, a_wait, a_move, many, nodes_of_waits, nodes_of_moves, size}
use Rattle.nodes.specs.Table.{Property, WeighedOn, At}
use Rattle.nodes.proofs.Walk.{Walking}
use Rattle.live.specs.Looking.{CommonIs, no_move, ToldAny}
use Rattle.live.specs.declared.Common.{Common}
use Rattle.live.specs.declared.Common.TheVariants.{NoMove, Spent}
use Rattle.live.proofs.Sharing.{spent_all, spent_none}

-- a statement of all moves of a wait, the cells common to those before, and those that are left
abbrev pub Statement : Type 1
Statement = (all : Moves) (before : Shared) (rest : Moves) → Type 0

-- these moves of the wait are left
pub record MovesLeft (b : Board) (z : Common) (R : Statement) (all : Moves) (rest : Nodes) : Type 0 where
  pub before : Shared
  pub moves : Moves
  pub are : rest ≡ nodes_of_moves moves
  pub common : CommonIs b z before
  pub holds : R all before moves

-- so it is of whatever moves are under the wait
pub record Asked (b : Board) (z : Common) (R : Statement) (all rest : Nodes) : Type 0 where
  pub of : (ms : Moves) → all ≡ nodes_of_moves ms → MovesLeft b z R ms rest

pub asked_all : (b : Board) (R : Statement) → ((ms : Moves) → R ms none ms) → (u : Nodes) → Asked b NoMove R u u
asked_all b R f u = record { of = λ ms e. record { before = none; moves = ms; are = e; common = no_move; holds = f ms } }

-- the first of moves that are nodes
record FirstMove (c : ℕ) (v a : Nodes) (ms : Moves) : Type 0 where
  line : ℕ
  waits : Waits
  others : Moves
  is : ms ≡ move line c waits others
  under : v ≡ nodes_of_waits waits
  after : a ≡ nodes_of_moves others

first_of : (c : ℕ) (v a : Nodes) (ms : Moves) → node c v a ≡ nodes_of_moves ms → FirstMove c v a ms
unfolding nodes_of_moves
first_of c v a no_moves e = absurd (let z : suc (size v + size a) ≡ 0 = unfold size in ap size e in omega arith)
first_of c v a (move line d ws ms) e =
    let own : c ≡ d = cc in
    record { line = line; waits = ws; others = ms; is = ap (λ x. move line x ws ms) (sym own); under = cc; after = cc }

-- one more is looked at
pub asked_again : {b : Board} {t : List ℕ} {z z' : Common} {live : Bool} {next : ℕ} (R R' : Statement) → ToldAny b t next z z' live
    → (c : ℕ) (v : Nodes) → At (WeighedOn b t) a_move next c v
    → ((ms : Moves) (before : Shared) (line : ℕ) (ws : Waits) (others : Moves) → At (WeighedOn b t) a_move next c (nodes_of_waits ws)
    → live ≡ is_live before c ws → R ms before (move line c ws others) → R' ms (and_this before c ws) others)
    → (u a : Nodes) → Asked b z R u (node c v a) → Asked b z' R' u a
asked_again {b} {t} {z} {z'} {live} {next} R R' tells c v m step u a f = record { of = one }
  where
    one : (ms : Moves) → u ≡ nodes_of_moves ms → MovesLeft b z' R' ms a
    one ms e =
        let l = f.of ms e in
        let x = first_of c v a l.moves l.are in
        let at = subst (At (WeighedOn b t) a_move next c) x.under m in
        let told = tells l.before c x.waits l.common at in
        record {
          before = and_this l.before c x.waits;
          moves = x.others;
          are = x.after;
          common = told.common_is;
          holds = step ms l.before x.line x.waits x.others at told.live_is (subst (R ms l.before) x.is l.holds);
        }

-- No move is left, or none that is left is live
abbrev pub Stops : (z : Common) → (under j : ℕ) → Type 0
Stops z under j = (under ≤ j) ⊎ (z ≡ Spent)

-- none of these is live, and no cell but those common to the moves before is in every move
pub record Over (before : Shared) (ms : Moves) : Type 0 where
  pub none_live : living_after before ms ≡ no_moves
  pub all_idle : idle_under before ms ≡ many (nodes_of_moves ms)
  pub none_before : before ≡ none → ms ≡ no_moves
  pub in_all : (x : ℕ) → (in_all_before before x && in_every ms x) ≡ in_all_before before x

pub record Stopped (b : Board) (z : Common) (R : Statement) (ms : Moves) (left : ℕ) : Type 0 where
  pub before : Shared
  pub moves : Moves
  pub common : CommonIs b z before
  pub holds : R ms before moves
  pub over : Over before moves
  pub many_left : many (nodes_of_moves moves) ≡ left

no_more : (before : Shared) (ms : Moves) → many (nodes_of_moves ms) ≡ 0 → Over before ms
unfolding living_after idle_under nodes_of_moves many in_every
no_more before no_moves e = record { none_live = refl; all_idle = refl; none_before = λ q. refl; in_all = λ x. and-true (in_all_before before x) }
no_more before (move line c ws ms) e = absurd (omega arith)

none_more : {b : Board} (before : Shared) → CommonIs b Spent before → (ms : Moves) → Over before ms
none_more before h ms =
    let d = spent_all before h ms in
    record {
      none_live = d.0;
      all_idle = d.1;
      none_before = λ q. absurd (some_move (subst (CommonIs _ Spent) q h));
      in_all = λ x. let gone = spent_none before h x in ap (λ y. y && in_every ms x) gone ∙ sym gone;
    }
  where
    some_move : {b : Board} → CommonIs b Spent none → ⊥
    some_move h = elim h [ ]

module _ {P : Property} {b : Board} {t : List ℕ} {i under next j : ℕ} {z : Common} {R : Statement} (w : Walking P (WeighedOn b t) a_wait i under next j (Asked b z R)) (stop : Stops z under j) where
  pub asked_stop : (ms : Moves) → At P a_wait i 0 (nodes_of_moves ms) → Stopped b z R ms (under - j)
  asked_stop ms m =
      let l = w.left 0 (nodes_of_moves ms) m in
      let k = l.holds.of ms refl in
      let same : many (nodes_of_moves k.moves) ≡ under - j = ap many (sym k.are) ∙ l.many_left in
      let d : Over k.before k.moves =
      ⊎_elim (λ p. no_more k.before k.moves (omega (arith, same))) (λ e. none_more k.before (subst (λ y. CommonIs b y k.before) e k.common) k.moves) stop in
      record { before = k.before; moves = k.moves; common = k.common; holds = k.holds; over = d; many_left = same }

-- it is no further than the wait goes
pub walk_within : {P Q : Property} {k : Kind} {i under next j c : ℕ} {u : Nodes} {R : Nodes → Nodes → Type 0} → Walking P Q k i under next j R → At P k i c u → next ≤ i + 1 + size u
walk_within {c = c} {u = u} w m = omega (arith, (w.left c u m).to_end)
