-- A walk over the nodes of an accepted file: at each place, how many nodes are left, and where the next node's atoms
-- start.
--
--   layout_of                  the layout that a file's counts say
--   list_of                    its nodes in order, each with what it holds
--   node_index                 the index of the next node
--   atoms_from                 the word where the atoms start that the nodes before an index leave
--   Reached                    a place that a walk over an accepted file reaches
--   next_spot                  the place behind a node's own atoms
--   grown                      the trees that stand from a place on
--   tree_at, children_at       the first of them, and the first k of them
--   After                      a place behind some trees
--   AfterTree, AfterChildren   a place behind the tree at a place, and behind k children
use Rattle.std.specs.Prelude.{ℕ, ◌+◌, ◌*◌, ◌-◌, ◌≤◌, ◌≡◌, List, Ok, take, drop, slice_index}
use Rattle.theory.specs.Tree.{Forest}
use Rattle.theory.specs.Nodes.{Listed, take_trees, drop_trees, plant}
use Rattle.policy.specs.Numbers.{header_length, atom_length}
use Rattle.policy.specs.Whole.{own_atoms}
use Rattle.policy.specs.Read.{nodes_at, node_records, layout, read_of}
use Rattle.policy.specs.Read as read
use Rattle.policy.specs.File.{PolicyNode, PolicyTree, file_nodes, first_tree}
use Rattle.policy.specs.declared.Layout.{Layout}
use Rattle.nodes.specs.Nodes.{node_at}
use Rattle.nodes.specs.declared.Spot.{Spot}

-- the layout that a file's counts say
abbrev pub layout_of : List ℕ → Layout
layout_of f =
    let a : ℕ = slice_index f header_length in
    let b : ℕ = slice_index f (read.atoms_at a) in
    layout a b (slice_index f (nodes_at a b))

-- the nodes of a file in order
abbrev pub list_of : List ℕ → List (Listed PolicyNode)
list_of f = file_nodes f (layout_of f)

-- the nodes of a file in order, each by its words
abbrev pub records_of : List ℕ → List (List ℕ)
records_of f = node_records f (layout_of f).operators (layout_of f).atoms (layout_of f).nodes

-- the index of the next node
abbrev pub node_index : List ℕ → Spot → ℕ
node_index f s = (layout_of f).nodes - s.nodes_left

-- the word where the atoms start that the nodes before an index leave
abbrev pub atoms_from : List ℕ → ℕ → ℕ
atoms_from f i = read.atoms_at (layout_of f).operators + 1 + atom_length * own_atoms (take i (records_of f))

-- a place that a walk over an accepted file reaches: its atoms start where those of the nodes before it end
pub record Reached (f : List ℕ) (s : Spot) : Type 0 where
  pub accepted : read_of f ≡ Ok (layout_of f)
  pub left : s.nodes_left ≤ (layout_of f).nodes
  pub atom : s.next_atom ≡ atoms_from f (node_index f s)

-- the place behind a node's own atoms: that of its first child
abbrev pub next_spot : List ℕ → Spot → Spot
next_spot f s = record {
  nodes_left = s.nodes_left - 1;
  next_atom = s.next_atom + atom_length * (node_at f s.nodes_left).own;
}

-- the trees that stand from a place on
unfoldable pub grown : List ℕ → Spot → Forest PolicyNode
grown f s = plant (drop (node_index f s) (list_of f))

-- the tree that stands at a place
abbrev pub tree_at : List ℕ → Spot → PolicyTree
tree_at f s = first_tree (grown f s)

-- k children from a place on
abbrev pub children_at : List ℕ → Spot → ℕ → Forest PolicyNode
children_at f s k = take_trees k (grown f s)

-- a place with these trees to come and at most n nodes left
pub record After (f : List ℕ) (ts : Forest PolicyNode) (n : ℕ) (next : Spot) : Type 0 where
  pub rest : grown f next ≡ ts
  pub less : next.nodes_left ≤ n
  pub reached : Reached f next

-- a place behind the tree at a place
abbrev pub AfterTree : List ℕ → Spot → Spot → Type 0
AfterTree f s = After f (drop_trees 1 (grown f s)) (s.nodes_left - 1)

-- a place behind k children from a place on
abbrev pub AfterChildren : List ℕ → Spot → ℕ → Spot → Type 0
AfterChildren f s k = After f (drop_trees k (grown f s)) s.nodes_left
