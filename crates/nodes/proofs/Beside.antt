-- Nodes beside nodes: for a loop that makes one node after another, as the reading does.
use mathlib.Core.Path.{◌≡◌, refl, ap, subst}
use Prim.Native.Nat.{ℕ, suc, ◌+◌}
use native.Mathlib.Omega.{arith}
use mathlib.Core.List.{List, [], ◌∷◌, ◌++◌}
use lib.ListN.{length}
use Rattle.rules.specs.Tree.{Wait, Move, as_waits, as_moves}
use Rattle.nodes.specs.Nodes.{Nodes, no_nodes, node, Kind, nodes_of_waits, nodes_of_moves, many, size}
use Rattle.nodes.specs.Table.{Property, Each, first}

unfoldable pub beside : Nodes → Nodes → Nodes
beside no_nodes m = m
beside (node c u a) m = node c u (beside a m)

pub size_beside : (n m : Nodes) → size (beside n m) ≡ size n + size m
unfolding beside size
size_beside no_nodes m = omega arith
size_beside (node c u a) m = omega (arith, size_beside a m)

pub many_beside : (n m : Nodes) → many (beside n m) ≡ many n + many m
unfolding beside many
many_beside no_nodes m = omega arith
many_beside (node c u a) m = omega (arith, many_beside a m)

pub each_beside : {P : Property} {k : Kind} {i : ℕ} (n m : Nodes) → Each P k i n → Each P k (i + size n) m → Each P k i (beside n m)
unfolding beside size
each_beside {P} {k} {i} no_nodes m e f = subst (λ (j : ℕ). Each P k j m) (omega arith) f
each_beside {P} {k} {i} (node c u a) m (first p below rest) f =
    first p below (each_beside {P = P} {k = k} {i = i + 1 + size u} a m rest (subst (λ (j : ℕ). Each P k j m) (omega arith) f))

-- of lists of waits, and of moves
pub waits_beside : (xs ys : List Wait) → nodes_of_waits (as_waits (xs ++ ys)) ≡ beside (nodes_of_waits (as_waits xs)) (nodes_of_waits (as_waits ys))
unfolding beside nodes_of_waits as_waits
waits_beside [] ys = refl
waits_beside (x ∷ xs) ys = ap (node 0 (nodes_of_moves x.moves)) (waits_beside xs ys)

pub moves_beside : (xs ys : List Move) → nodes_of_moves (as_moves (xs ++ ys)) ≡ beside (nodes_of_moves (as_moves xs)) (nodes_of_moves (as_moves ys))
unfolding beside nodes_of_waits as_moves
moves_beside [] ys = refl
moves_beside (x ∷ xs) ys = ap (node x.cell (nodes_of_waits x.waits)) (moves_beside xs ys)

pub waits_many : (xs : List Wait) → many (nodes_of_waits (as_waits xs)) ≡ length xs
unfolding many nodes_of_waits as_waits
waits_many [] = refl
waits_many (x ∷ xs) = ap suc (waits_many xs)

pub moves_many : (xs : List Move) → many (nodes_of_moves (as_moves xs)) ≡ length xs
unfolding many nodes_of_waits as_moves
moves_many [] = refl
moves_many (x ∷ xs) = ap suc (moves_many xs)
