-- What an accepted file holds: its operators, its atoms and its nodes, and the tree that the nodes are. See
-- docs/FORMAT.md, "The policy file".
--
--   PolicyNode, PolicyTree      a node with its operators' cells and its atoms; a tree of such nodes
--   atoms_of_in, atoms_of       the atoms of a file of an edition, each a match and an action; of the newest
--   held                        the nodes, each with its own atoms, taken from where the node before it stopped
--   file_nodes_in, file_nodes   the nodes of a file
--   tree_in, tree_of            the tree that they are
use Rattle.std.specs.Prelude.{ℕ, List, [], ◌∷◌, map, take, drop}
use Rattle.theory.specs.declared.Row.{Row}
use Rattle.theory.specs.Tree.{Tree, Forest, node, bare, ◌▸◌, Node}
use Rattle.theory.specs.Nodes.{Listed, plant}
use Rattle.row.specs.Row.{row_of}
use Rattle.flow.specs.declared.Match.{Match}
use Rattle.action.specs.declared.Action.{Action}
use Rattle.policy.specs.Numbers.{latest}
use Rattle.policy.specs.Atom.{atom_row}
use Rattle.policy.specs.Cells.{operator_rows}
use Rattle.policy.specs.Sections.{inner_of, parent_of, sibling_of, own_of, children_of}
use Rattle.policy.specs.Read.{operators_in, atoms_in, nodes_in}
use Rattle.policy.specs.declared.Edition.{Edition}
use Rattle.policy.specs.declared.Layout.{Layout}
use Rattle.policy.specs.Meaning.{operator_at}

-- a node: its operators, each by its cells, and its atoms
abbrev pub PolicyNode : Type 0
PolicyNode = Node (List ℕ) Match Action

-- a tree of such nodes
abbrev pub PolicyTree : Type 0
PolicyTree = Tree PolicyNode

-- a node, with its atoms off the front of those that are left
abbrev pub held_node : List (List ℕ) → List (Row Match Action) → List ℕ → PolicyNode
held_node os xs r = record {
  inner = operator_at os (inner_of r);
  parent = operator_at os (parent_of r);
  sibling = operator_at os (sibling_of r);
  atoms = take (own_of r) xs;
}

-- the nodes in order: each takes its atoms from where the node before it stopped
abbrev pub held : List (List ℕ) → List (Row Match Action) → List (List ℕ) → List (Listed PolicyNode)
held os xs [] = []
held os xs (r ∷ rs) = record { what = held_node os xs r; child_count = children_of r } ∷ held os (drop (own_of r) xs) rs

-- the atoms of a file
abbrev pub atoms_of_in : Edition → List ℕ → Layout → List (Row Match Action)
atoms_of_in e f l = map (λ r. row_of (atom_row e r)) (atoms_in e f l.operators l.atoms)

-- the nodes of a file
abbrev pub file_nodes_in : Edition → List ℕ → Layout → List (Listed PolicyNode)
file_nodes_in e f l =
    held (operator_rows e (operators_in e f l.operators)) (atoms_of_in e f l)
    (nodes_in e f l.operators l.atoms l.nodes)

-- the first tree of a forest; a forest without trees has none, and a node that holds nothing stands for it
abbrev pub first_tree : Forest PolicyNode → PolicyTree
first_tree bare = node (record { inner = []; parent = []; sibling = []; atoms = [] }) bare
first_tree (t ▸ ts) = t

-- the tree that the nodes of a file are
abbrev pub tree_in : Edition → List ℕ → Layout → PolicyTree
tree_in e f l = first_tree (plant (file_nodes_in e f l))

-- the same for the newest edition
abbrev pub atoms_of : List ℕ → Layout → List (Row Match Action)
atoms_of f l = atoms_of_in latest f l

abbrev pub file_nodes : List ℕ → Layout → List (Listed PolicyNode)
file_nodes f l = file_nodes_in latest f l

abbrev pub tree_of : List ℕ → Layout → PolicyTree
tree_of f l = tree_in latest f l
