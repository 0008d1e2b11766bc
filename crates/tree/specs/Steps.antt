-- What the steps of the walk give, for their own contracts: a node's own action over the words of its atoms, and what
-- stands behind a subtree or some children.
--
--   own_action, with_atom    a node's own action, and one atom before the others
--   TreeGave, ChildrenGave   what the walk gives of a subtree, and of some children
use Rattle.std.specs.Prelude.{ℕ, ◌≡◌, List, if◌then◌else◌}
use Rattle.words.specs.Records.{rows_of}
use Rattle.theory.specs.Tree.{own, evals}
use Rattle.theory.specs.declared.Row.{Row}
use Rattle.row.specs.Row.{row_length, row_of}
use Rattle.flow.specs.Match.{meets}
use Rattle.flow.specs.declared.Match.{Match}
use Rattle.flow.specs.declared.Packet.{Packet}
use Rattle.action.specs.Operator.{join}
use Rattle.action.specs.declared.Action.{Action}
use Rattle.action.specs.declared.Action.TheVariants.{DontCare}
use Rattle.nodes.specs.Nodes.{cells_at}
use Rattle.nodes.specs.Walk.{tree_at, children_at, AfterTree, AfterChildren}
use Rattle.nodes.specs.declared.Spot.{Spot}
use Rattle.tree.specs.Action.{eval_tree}

-- a node's own action, over the words of its atoms
unfoldable pub own_action : List ℕ → List ℕ → Packet → Action
own_action o atoms p = own meets DontCare join o (rows_of row_length row_of atoms) p

-- one atom before the others
unfoldable pub with_atom : List ℕ → Row Match Action → Packet → Action → Action
with_atom o atom p rest = if meets atom.matching p then join o atom.action rest else rest

-- the action is that of the tree at the place, and the next place is behind it
pub record TreeGave (f : List ℕ) (s : Spot) (p : Packet) (r : Action) (next : Spot) : Type 0 where
  pub action : r ≡ eval_tree (tree_at f s) p
  pub after : AfterTree f s next

-- the action is that of k children from the place on under a sibling operator, and the next place is behind them
pub record ChildrenGave (f : List ℕ) (s : Spot) (sibling k : ℕ) (p : Packet) (r : Action) (next : Spot) : Type 0 where
  pub action : r ≡ evals meets DontCare join (children_at f s k) (cells_at f sibling) p
  pub after : AfterChildren f s k next
