-- The loops over the waits of a move, and over the moves of a wait, that leave out the moves that aren't live.
use mathlib.Core.Path.{◌≡◌, refl, sym, ap, subst, subst⁻¹, ◌∙◌}
use mathlib.Core.Bool.{Bool, true, false, not}
use mathlib.Core.List.{List}
use mathlib.Core.Option.{none}
use Prim.Native.Nat.{ℕ, suc, ◌+◌, ◌-◌, ◌*◌, ◌<◌, ◌≤◌}
use native.Mathlib.Omega.{arith}
use lib.Dec.{T}
use lib.ListN.{length}
use Rattle.rules.specs.declared.Board.{Board}
use Rattle.rules.specs.Tree.{Waits, no_waits, wait, Moves, no_moves, move}
use Rattle.rules.specs.Live.{Shared, and_this, is_live, living, living_after}
use Rattle.rules.proofs.Tests.{holds_of, cond_yes, cond_no}
use Rattle.nodes.specs.Nodes.{Nodes, no_nodes, node, Kind, a_wait, a_move, many, size, nodes_of_waits, nodes_of_moves}
use Rattle.nodes.specs.Table.{cell_in, under_in, end_in, with_node, Each, nothing, first, Stand, WeighedOn, At, SomeNode}
use Rattle.nodes.proofs.Table.{each_map, at_map, Agree, agree_within, agree_then, row_agree, weighed_row_agree, stand_agree, stored_row, stored, node_end}
use Rattle.nodes.proofs.Walk.{Walking, walking_starts, walking_again, walking_ends}
use Rattle.live.specs.Looking.{ToldAny}
use Rattle.live.specs.Thinning.{Within, MovedUp, StandsTo, MoveThinnedAny, WaitThinnedAny}
use Rattle.live.specs.declared.Common.{Common}
use Rattle.live.specs.declared.Common.TheVariants.{NoMove}
use Rattle.live.proofs.Asking.{Asked, asked_all, asked_again, Stops, Stopped, asked_stop, walk_within}

no_nodes_lem : {ms : Moves} → ms ≡ no_moves → nodes_of_moves ms ≡ no_nodes
unfolding nodes_of_moves
no_nodes_lem e = ap nodes_of_moves e

none_many : many no_nodes ≡ 0
unfolding many
none_many = refl

-- ---- what stays in the table

within_all : (t : List ℕ) (to next : ℕ) → Within t t to next
within_all t to next = record { long = refl; before = λ m h. refl; after = λ m h. refl }

within_then : {t v w : List ℕ} {to next to' next' : ℕ} → to ≤ to' → next ≤ next' → Within t v to next → Within v w to' next' → Within t w to next'
within_then p q a d =
    record {
      long = d.long ∙ a.long;
      before = λ m h. d.before m (omega arith) ∙ a.before m h;
      after = λ m h. d.after m h ∙ a.after m (omega arith);
    }

agree_before : {t v : List ℕ} {to next : ℕ} (from : ℕ) → Within t v to next → Agree t v from to
agree_before from a = record { long = a.long; same = λ m lo hi. a.before m hi }

agree_after : {t v : List ℕ} {to next : ℕ} (from end : ℕ) → next ≤ from → Within t v to next → Agree t v from end
agree_after from end p a = record { long = a.long; same = λ m lo hi. a.after m (omega arith) }

rows_agree : {b : Board} {t v : List ℕ} {k : Kind} {i : ℕ} {n : Nodes} → Agree t v i (i + size n) → Each (WeighedOn b t) k i n → Each (WeighedOn b v) k i n
rows_agree a s = each_map (λ k j c u from to r. record { weight = weighed_row_agree a from (omega arith) r.weight; on = r.on; celled = r.celled }) s

-- the node's own row is stored last
module _ (t : List ℕ) (to c n : ℕ) where
  stored_after_lem : (out : ℕ) → Agree t (with_node t to c n) (to + 1) out
  stored_after_lem out = stored t to c n (to + 1) out (λ m lo hi. (λ e. omega arith, λ e. omega arith))

  stored_within : (t₀ : List ℕ) (next : ℕ) → to < next → Within t₀ t (to + 1) next → Within t₀ (with_node t to c n) to next
  stored_within t₀ next p w =
      record {
        long = (stored t to c n 0 0 (λ m lo hi. absurd (omega arith))).long ∙ w.long;
        before = λ m h. (stored t to c n 0 to (λ m lo hi. (λ e. omega arith, λ e. omega arith))).same m (omega arith) h ∙ w.before m (omega arith);
        after = λ m h.
            (stored t to c n (to + 1) (m + 1) (λ m lo hi. (λ e. omega arith, λ e. omega arith))).same m (omega arith) (omega arith)
            ∙ w.after m h;
      }

-- there are no more nodes right under a node than the table has rows
many_few : (n : Nodes) → many n ≤ size n
unfolding many size
many_few no_nodes = omega arith
many_few (node c u a) = omega (arith, many_few a)

pub under_few : {b : Board} {t : List ℕ} {k : Kind} {i : ℕ} → SomeNode (WeighedOn b t) k i → 4 * under_in t i ≤ length t
under_few n =
    let row = n.at.here.weight.row in
    omega (arith, row.under, many_few n.under, node_end (at_map (λ k j c u r. r.weight.row) n.at))

-- ---- what is built: of the nodes `all` that are to stand after node `to`, the rest are yet to stand from `out` on
pub record Built (t : List ℕ) (k : Kind) (to out : ℕ) (all rest : Nodes) : Type 0 where
  pub out_end : out + size rest ≡ to + 1 + size all
  pub finish : (v : List ℕ) → Agree t v (to + 1) out → Stand v k out rest → Stand v k (to + 1) all

built_none : (t : List ℕ) (k : Kind) (to : ℕ) (all : Nodes) → Built t k to (to + 1) all all
built_none t k to all = record { out_end = refl; finish = λ v g s. s }

-- one more stands
built_more : {t v : List ℕ} {k : Kind} {to out out' e c : ℕ} {u all rest : Nodes} → to < out → Within t v out e → StandsTo v k out c u out'
    → Built t k to out all (node c u rest) → Built v k to out' all rest
unfolding size
built_more {t} {v} {k} {to} {out} {out'} {e} {c} {u} {all} {rest} p kept s f =
    record {
      out_end = omega (arith, f.out_end, s.out_is);
      finish = λ w g r.
          f.finish w
          (agree_then (agree_before (to + 1) kept) (agree_within (omega arith) (omega (arith, s.out_is)) g))
          (first
          (row_agree g (omega arith) (omega (arith, s.out_is)) s.stands.here)
          (stand_agree (agree_within (omega arith) (omega (arith, s.out_is)) g) s.stands.below)
          (subst (λ (i : ℕ). Stand w k i rest) s.out_is r));
    }

-- all stand, with the node above them
built_all : {t : List ℕ} {k l : Kind} {to out : ℕ} {all : Nodes} (c n : ℕ) → 4 * to + 3 < length t → many all ≡ n → Built t l to out all no_nodes
    → l ≡ Rattle.nodes.specs.Nodes.other k → StandsTo (with_node t to c n) k to c all out
unfolding size
built_all {t} {k} {l} {to} {out} {all} c n room e f same =
    record {
      out_is = omega (arith, f.out_end);
      stands =
          record {
            here = stored_row t k to c n all room e;
            below = subst (λ (z : Kind). Stand (with_node t to c n) z (to + 1) all) same (f.finish (with_node t to c n) (stored_after_lem t to c n out) nothing);
          };
    }

-- ---- where a loop stands
pub record Going (t₀ t : List ℕ) (to next out : ℕ) : Type 0 where
  pub ahead : to < out
  pub behind : out ≤ next
  pub kept : Within t₀ t (to + 1) next

going_starts : (t : List ℕ) (from to : ℕ) → to ≤ from → Going t t to (from + 1) (to + 1)
going_starts t from to p = record { ahead = omega arith; behind = omega arith; kept = within_all t (to + 1) (from + 1) }

module _ {t₀ t : List ℕ} {to next out next' : ℕ} (p : next ≤ next') (g : Going t₀ t to next out) where
  -- a node was moved up, or left out
  going_on : {v : List ℕ} {out' : ℕ} → next' ≡ end_in t next → MovedUp t v next out out' → Going t₀ v to next' out'
  going_on {v} e m =
      record {
        ahead = omega (arith, g.ahead, m.ahead);
        behind = omega (arith, m.behind, e);
        kept = within_then (omega (arith, g.ahead)) p g.kept (subst⁻¹ (Within t v out) e m.kept);
      }

  going_past : Going t₀ t to next' out
  going_past = record { ahead = g.ahead; behind = omega (arith, g.behind); kept = within_then (omega (arith, g.ahead)) p g.kept (within_all t out next') }

-- the node's own row is stored, so all was moved up
going_done : {t₀ t : List ℕ} {from to next out : ℕ} (c n : ℕ) → next ≤ end_in t₀ from → Going t₀ t to next out → MovedUp t₀ (with_node t to c n) from to out
going_done {t₀} {t} {from} {to} c n p g =
    let h = going_past p g in
    record {
      ahead = h.ahead;
      behind = h.behind;
      kept = stored_within t to c n t₀ (end_in t₀ from) (omega (arith, h.ahead, h.behind)) h.kept;
    }

-- ---- the waits of a move

pub record WaitsLeft (t : List ℕ) (to out : ℕ) (ws : Waits) (rest : Nodes) : Type 0 where
  pub waits : Waits
  pub are : rest ≡ nodes_of_waits waits
  pub built : Built t a_wait to out (nodes_of_waits (living ws)) (nodes_of_waits (living waits))

pub record WaitsOf (t : List ℕ) (to out : ℕ) (all rest : Nodes) : Type 0 where
  pub of : (ws : Waits) → all ≡ nodes_of_waits ws → WaitsLeft t to out ws rest

pub record WaitsGoing (b : Board) (t₀ t : List ℕ) (from to under next out j : ℕ) : Type 0 where
  pub walk : Walking (WeighedOn b t₀) (WeighedOn b t) a_move from under next j (WaitsOf t to out)
  pub going : Going t₀ t to next out

pub waits_starts : (b : Board) (t : List ℕ) (from to under : ℕ) → under ≡ under_in t from → to ≤ from → WaitsGoing b t t from to under (from + 1) (to + 1) 0
waits_starts b t from to under e p =
    record {
      walk = walking_starts (λ c u r. omega (arith, r.weight.row.under))
          (λ u. record { of = λ ws q. record { waits = ws; are = q; built = built_none t a_wait to (nodes_of_waits (living ws)) } });
      going = going_starts t from to p;
    }

-- no wait is left out
waits_kept : (ws : Waits) → many (nodes_of_waits (living ws)) ≡ many (nodes_of_waits ws)
unfolding many nodes_of_waits living
waits_kept no_waits = refl
waits_kept (wait line ms ws) = ap suc (waits_kept ws)

-- a wait that was thinned
wait_built : {b : Board} {t v : List ℕ} {to next out out' : ℕ} → to < out → WaitThinnedAny b t next out out' v → (c : ℕ) (u : Nodes) → At (WeighedOn b t) a_wait next c u
    → (all a : Nodes) → WaitsOf t to out all (node c u a) → WaitsOf v to out' all a
unfolding nodes_of_waits living
wait_built {b} {t} {v} {to} {next} {out} {out'} p h c u m all a f = record { of = λ ws q. go ws (f.of ws q).waits (f.of ws q).are (f.of ws q).built }
  where
    go : (ws vs : Waits) → node c u a ≡ nodes_of_waits vs → Built t a_wait to out (nodes_of_waits (living ws)) (nodes_of_waits (living vs)) → WaitsLeft v to out' ws a
    go ws no_waits e k = absurd (let z : suc (size u + size a) ≡ 0 = unfold size in ap size e in omega arith)
    go ws (wait line ms vs) e k =
        let own : c ≡ 0 = cc in
        let under : u ≡ nodes_of_moves ms = cc in
        let s = h.thinned ms (subst (At (WeighedOn b t) a_wait next 0) under (subst (λ (x : ℕ). At (WeighedOn b t) a_wait next x u) own m)) in
        record { waits = vs; are = cc; built = built_more p h.moved.kept s k }

module _ {b : Board} {t₀ t : List ℕ} {from to under next out j : ℕ} (w : WaitsGoing b t₀ t from to under next out j) where
  -- one more is thinned
  pub waits_again : j < under → (n : SomeNode (WeighedOn b t) a_wait next) → SomeNode (WeighedOn b t₀) a_move from → {out' next' : ℕ} {v : List ℕ} → next' ≡ end_in t next
      → WaitThinnedAny b t next out out' v → WaitsGoing b t₀ v from to under next' out' (j + 1)
  waits_again p n s {out'} {next'} {v} e h =
      record {
        walk = walking_again w.walk p s (λ c u m.
            record {
              next_is = e ∙ m.here.weight.end;
              each = λ a r. rows_agree (agree_after _ _ (omega (arith, m.here.weight.end)) h.moved.kept) r;
              holds = wait_built w.going.ahead h c u m;
            });
        going = going_on (omega (arith, e, n.at.here.weight.end)) w.going e h.moved;
      }

  -- all are, and the move's own row is stored
  pub waits_done : under ≤ j → SomeNode (WeighedOn b t₀) a_move from → (cell n : ℕ) {v : List ℕ} → v ≡ with_node t to cell n → cell ≡ cell_in t₀ from → n ≡ under_in t₀ from → 4 * to + 3 < length t
      → MoveThinnedAny b t₀ from to out v
  unfolding nodes_of_waits
  waits_done p s cell n {v} e ce ne room =
      subst⁻¹ (MoveThinnedAny b t₀ from to out) e
      (record {
        moved = going_done cell n (omega (arith, walk_within w.walk s.at, s.at.here.weight.end)) w.going;
        thinned = λ c ws m.
            let l = (walking_ends w.walk p c (nodes_of_waits ws) m).1.of ws refl in
            subst (λ (x : ℕ). StandsTo (with_node t to cell n) a_move to x (nodes_of_waits (living ws)) out) (ce ∙ m.here.weight.row.cell)
            (built_all cell n room (waits_kept ws ∙ sym m.here.weight.row.under ∙ sym ne) (none_left ws l.waits l.are l.built) refl);
      })
    where
      none_left : (ws vs : Waits) → no_nodes ≡ nodes_of_waits vs → Built t a_wait to out (nodes_of_waits (living ws)) (nodes_of_waits (living vs))
          → Built t a_wait to out (nodes_of_waits (living ws)) no_nodes
      none_left ws no_waits q k = unfold living nodes_of_waits in k
      none_left ws (wait line ms vs) q k = absurd (let z : 0 ≡ suc (size (nodes_of_moves ms) + size (nodes_of_waits vs)) = unfold size nodes_of_waits in ap size q in omega arith)

-- ---- the moves of a wait

-- a live move with those after it, and a move that isn't live left out
module _ (before : Shared) (line c : ℕ) (ws : Waits) (ms : Moves) where
  nodes_live : T (is_live before c ws) → nodes_of_moves (living_after before (move line c ws ms)) ≡ node c (nodes_of_waits (living ws)) (nodes_of_moves (living_after (and_this before c ws) ms))
  unfolding living_after nodes_of_moves
  nodes_live l = ap (λ (ns : Moves). nodes_of_moves ns) (cond_yes (is_live before c ws) _ _ l)

  nodes_idle : T (not (is_live before c ws)) → nodes_of_moves (living_after before (move line c ws ms)) ≡ nodes_of_moves (living_after (and_this before c ws) ms)
  unfolding living_after
  nodes_idle d = ap (λ (ns : Moves). nodes_of_moves ns) (cond_no (is_live before c ws) _ _ d)

-- so many of those before were kept
pub record Kept (t : List ℕ) (to out kept : ℕ) (ms : Moves) (before : Shared) (rest : Moves) : Type 0 where
  pub built : Built t a_move to out (nodes_of_moves (living_after none ms)) (nodes_of_moves (living_after before rest))
  pub many_kept : kept + many (nodes_of_moves (living_after before rest)) ≡ many (nodes_of_moves (living_after none ms))

pub record MovesGoing (b : Board) (t₀ t : List ℕ) (from to under next out j : ℕ) (z : Common) (kept : ℕ) : Type 0 where
  pub walk : Walking (WeighedOn b t₀) (WeighedOn b t) a_wait from under next j (Asked b z (Kept t to out kept))
  pub going : Going t₀ t to next out
  pub few : kept ≤ j

pub moves_starts : (b : Board) (t : List ℕ) (from to under : ℕ) → under ≡ under_in t from → to ≤ from → MovesGoing b t t from to under (from + 1) (to + 1) 0 NoMove 0
moves_starts b t from to under e p =
    record {
      walk = walking_starts (λ c u r. omega (arith, r.weight.row.under))
          (asked_all b (Kept t to (to + 1) 0) (λ ms. record { built = built_none t a_move to (nodes_of_moves (living_after none ms)); many_kept = omega arith }));
      going = going_starts t from to p;
      few = omega arith;
    }

module _ {b : Board} {t₀ t : List ℕ} {from to under next out j : ℕ} {z : Common} {kept : ℕ} (w : MovesGoing b t₀ t from to under next out j z kept) where
  module _ (p : j < under) (n : SomeNode (WeighedOn b t) a_move next) (s : SomeNode (WeighedOn b t₀) a_wait from) {next' : ℕ} {z' : Common} {live : Bool} (tells : ToldAny b t next z z' live) (end : next' ≡ end_in t next) where
    further : next ≤ next'
    further = omega (arith, end, n.at.here.weight.end)

    -- one more is live, and was thinned
    pub moves_live : live ≡ true → {out' kept' : ℕ} {v : List ℕ} → MoveThinnedAny b t next out out' v → kept' ≡ kept + 1
        → MovesGoing b t₀ v from to under next' out' (j + 1) z' kept'
    unfolding many
    moves_live e {out'} {kept'} {v} h k =
        record {
          walk = walking_again w.walk p s (λ c u m.
              record {
                next_is = end ∙ m.here.weight.end;
                each = λ a q. rows_agree (agree_after _ _ (omega (arith, m.here.weight.end)) h.moved.kept) q;
                holds = asked_again (Kept t to out kept) (Kept v to out' kept') tells c u m step;
              });
          going = going_on further w.going end h.moved;
          few = omega (arith, w.few);
        }
      where
        step : {c : ℕ} (ms : Moves) (before : Shared) (line : ℕ) (ws : Waits) (others : Moves) → At (WeighedOn b t) a_move next c (nodes_of_waits ws) → live ≡ is_live before c ws
            → Kept t to out kept ms before (move line c ws others) → Kept v to out' kept' ms (and_this before c ws) others
        step {c} ms before line ws others at is f =
            let q = nodes_live before line c ws others (holds_of (sym is ∙ e)) in
            record {
              built = built_more w.going.ahead h.moved.kept (h.thinned c ws at) (subst (Built t a_move to out (nodes_of_moves (living_after none ms))) q f.built);
              many_kept = omega (arith, f.many_kept, k, ap many q);
            }

    -- or isn't, and is left out
    pub moves_idle : live ≡ false → MovesGoing b t₀ t from to under next' out (j + 1) z' kept
    moves_idle e =
        record {
          walk = walking_again w.walk p s (λ c u m.
              record {
                next_is = end ∙ m.here.weight.end;
                each = λ a q. q;
                holds = asked_again (Kept t to out kept) (Kept t to out kept) tells c u m step;
              });
          going = going_past further w.going;
          few = omega (arith, w.few);
        }
      where
        step : {c : ℕ} (ms : Moves) (before : Shared) (line : ℕ) (ws : Waits) (others : Moves) → At (WeighedOn b t) a_move next c (nodes_of_waits ws) → live ≡ is_live before c ws
            → Kept t to out kept ms before (move line c ws others) → Kept t to out kept ms (and_this before c ws) others
        step {c} ms before line ws others at is f =
            let q = nodes_idle before line c ws others (subst (λ y. T (not y)) (sym e ∙ is) tt) in
            record {
              built = subst (Built t a_move to out (nodes_of_moves (living_after none ms))) q f.built;
              many_kept = omega (arith, f.many_kept, ap many q);
            }

  -- no more is live, and the wait's own row is stored
  pub moves_done : Stops z under j → SomeNode (WeighedOn b t₀) a_wait from → {v : List ℕ} → v ≡ with_node t to 0 kept → 4 * to + 3 < length t → WaitThinnedAny b t₀ from to out v
  moves_done p s {v} e room =
      subst⁻¹ (WaitThinnedAny b t₀ from to out) e
      (record {
        moved = going_done 0 kept (omega (arith, walk_within w.walk s.at, s.at.here.weight.end)) w.going;
        thinned = λ ms m. done ms (asked_stop w.walk p ms m);
      })
    where
      done : (ms : Moves) → Stopped b z (Kept t to out kept) ms (under - j) → StandsTo (with_node t to 0 kept) a_wait to 0 (nodes_of_moves (living_after none ms)) out
      done ms d =
          let none_left = no_nodes_lem d.over.none_live in
          let many_left : many (nodes_of_moves (living_after d.before d.moves)) ≡ 0 = ap many none_left ∙ none_many in
          built_all 0 kept room (omega (arith, d.holds.many_kept, many_left)) (subst (Built t a_move to out (nodes_of_moves (living_after none ms))) none_left d.holds.built) refl
