-- The nodes of a tree in the order of their lines are the nodes of the table in the order of their numbers.
use mathlib.Core.Path.{◌≡◌, refl, sym, ap, ap₂, subst, ◌∙◌}
use Prim.Native.Nat.{ℕ, ◌+◌}
use native.Mathlib.Omega.{arith}
use mathlib.Core.List.{List, [], ◌∷◌, ◌++◌, append_assoc, append-nil}
use lib.ListN.{length, length-append}
use Rattle.rules.specs.Tree.{Waits, no_waits, wait, Moves, no_moves, move, Wait, Move, moves_of_waits, moves_of_moves, waits_of_waits, waits_of_moves}
use Rattle.nodes.specs.Nodes.{a_wait, a_move, nodes_of_waits, nodes_of_moves, size}
use Rattle.nodes.specs.Table.{Property, Each, first, At}
use Rattle.nodes.specs.Order.{TreeNode, is_move, is_wait, in_order_waits, in_order_moves, moves_among, waits_among, InOrder, at_end, at_move, at_wait}

mutual
  unfolding in_order_waits nodes_of_waits size

  pub waits_in_order : {P : Property} (ws : Waits) (i : ℕ) (rest : List TreeNode) → Each P a_wait i (nodes_of_waits ws)
      → InOrder P (i + size (nodes_of_waits ws)) rest → InOrder P i (in_order_waits ws ++ rest)
  waits_in_order {P} no_waits i rest e o = subst (λ (j : ℕ). InOrder P j rest) (omega arith) o
  waits_in_order {P} (wait line ms ws) i rest (first p below after) o =
      at_wait
      (record { here = p; below = below })
      (subst (λ (l : List TreeNode). InOrder P (i + 1) l) (sym (append_assoc (in_order_moves ms) (in_order_waits ws) rest))
      (moves_in_order ms (i + 1) (in_order_waits ws ++ rest) below
      (waits_in_order ws (i + 1 + size (nodes_of_moves ms)) rest after (subst (λ (j : ℕ). InOrder P j rest) (omega arith) o))))

  pub moves_in_order : {P : Property} (ms : Moves) (i : ℕ) (rest : List TreeNode) → Each P a_move i (nodes_of_moves ms)
      → InOrder P (i + size (nodes_of_moves ms)) rest → InOrder P i (in_order_moves ms ++ rest)
  moves_in_order {P} no_moves i rest e o = subst (λ (j : ℕ). InOrder P j rest) (omega arith) o
  moves_in_order {P} (move line c ws ms) i rest (first p below after) o =
      at_move
      (record { here = p; below = below })
      (subst (λ (l : List TreeNode). InOrder P (i + 1) l) (sym (append_assoc (in_order_waits ws) (in_order_moves ms) rest))
      (waits_in_order ws (i + 1) (in_order_moves ms ++ rest) below
      (moves_in_order ms (i + 1 + size (nodes_of_waits ws)) rest after (subst (λ (j : ℕ). InOrder P j rest) (omega arith) o))))

-- all the nodes of a move, itself first
pub move_in_order : {P : Property} (m : Move) (i : ℕ) → At P a_move i m.cell (nodes_of_waits m.waits) → InOrder P i (is_move m ∷ in_order_waits m.waits)
move_in_order {P} m i n = at_move n (subst (λ (ns : List TreeNode). InOrder P (i + 1) ns) (append-nil (in_order_waits m.waits)) (waits_in_order m.waits (i + 1) [] n.below at_end))

-- there are as many as nodes in the table
mutual
  unfolding in_order_waits nodes_of_waits size

  pub waits_length : (ws : Waits) → length (in_order_waits ws) ≡ size (nodes_of_waits ws)
  waits_length no_waits = refl
  waits_length (wait line ms ws) = omega (arith, length-append (in_order_moves ms) (in_order_waits ws), moves_length ms, waits_length ws)

  pub moves_length : (ms : Moves) → length (in_order_moves ms) ≡ size (nodes_of_moves ms)
  moves_length no_moves = refl
  moves_length (move line c ws ms) = omega (arith, length-append (in_order_waits ws) (in_order_moves ms), waits_length ws, moves_length ms)

-- the moves and the waits among them are those that rules lists
moves_append : (ns ls : List TreeNode) → moves_among (ns ++ ls) ≡ moves_among ns ++ moves_among ls
unfolding moves_among
moves_append [] ls = refl
moves_append (is_move m ∷ ns) ls = ap (λ (l : List Move). m ∷ l) (moves_append ns ls)
moves_append (is_wait w ∷ ns) ls = moves_append ns ls

waits_append : (ns ls : List TreeNode) → waits_among (ns ++ ls) ≡ waits_among ns ++ waits_among ls
unfolding waits_among
waits_append [] ls = refl
waits_append (is_move m ∷ ns) ls = waits_append ns ls
waits_append (is_wait w ∷ ns) ls = ap (λ (l : List Wait). w ∷ l) (waits_append ns ls)

mutual
  unfolding in_order_waits moves_among moves_of_waits

  pub moves_of_waits_lem : (ws : Waits) → moves_among (in_order_waits ws) ≡ moves_of_waits ws
  moves_of_waits_lem no_waits = refl
  moves_of_waits_lem (wait line ms ws) =
      moves_append (in_order_moves ms) (in_order_waits ws) ∙ ap₂ (λ (a b : List Move). a ++ b) (moves_of_moves_lem ms) (moves_of_waits_lem ws)

  pub moves_of_moves_lem : (ms : Moves) → moves_among (in_order_moves ms) ≡ moves_of_moves ms
  moves_of_moves_lem no_moves = refl
  moves_of_moves_lem (move line c ws ms) =
      ap (λ (l : List Move). record { line = line; cell = c; waits = ws } ∷ l)
      (moves_append (in_order_waits ws) (in_order_moves ms) ∙ ap₂ (λ (a b : List Move). a ++ b) (moves_of_waits_lem ws) (moves_of_moves_lem ms))

mutual
  unfolding in_order_waits waits_among waits_of_waits

  pub waits_of_waits_lem : (ws : Waits) → waits_among (in_order_waits ws) ≡ waits_of_waits ws
  waits_of_waits_lem no_waits = refl
  waits_of_waits_lem (wait line ms ws) =
      ap (λ (l : List Wait). record { line = line; moves = ms } ∷ l)
      (waits_append (in_order_moves ms) (in_order_waits ws) ∙ ap₂ (λ (a b : List Wait). a ++ b) (waits_of_moves_lem ms) (waits_of_waits_lem ws))

  pub waits_of_moves_lem : (ms : Moves) → waits_among (in_order_moves ms) ≡ waits_of_moves ms
  waits_of_moves_lem no_moves = refl
  waits_of_moves_lem (move line c ws ms) =
      waits_append (in_order_waits ws) (in_order_moves ms) ∙ ap₂ (λ (a b : List Wait). a ++ b) (waits_of_waits_lem ws) (waits_of_moves_lem ms)
