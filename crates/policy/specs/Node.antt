-- A node: its five words as the fields of one struct, and what is asked of them. See docs/FORMAT.md, "The policy file".
--
--   node_of          the node that some words are
--   right_node       its operator indexes are below the number of operators, its counts within their limits
--   names_operator   it names an operator as inner or sibling
--   nodes_held       the nodes that some words hold
--   nodes_left       those that an iterator over nodes still has to give
--   node-some        a node has words
use Rattle.std.specs.Prelude.{ℕ, ◌<◌, Bool, ◌&&◌, ◌||◌, List, ◌==◌, nat_le, nat_lt}
use Rattle.std.proofs.Common.{arith}
use Rattle.policy.specs.Numbers.{node_length, most_atoms, most_children}
use Rattle.policy.specs.Sections.{inner_of, parent_of, sibling_of, own_of, children_of}
use Rattle.policy.specs.declared.nodes.Node.{Node}
use Rattle.words.specs.Records.{rows_of}
use Rattle.words.specs.Left.{left}
use Rattle.words.specs.declared.spelling.Records.{Records}

-- the node that some words are
abbrev pub node_of : List ℕ → Node
node_of r = record {
  inner = inner_of r;
  parent = parent_of r;
  sibling = sibling_of r;
  own = own_of r;
  children = children_of r;
}

-- its operator indexes are below the number of operators, its counts within their limits
abbrev pub right_node : ℕ → Node → Bool
right_node operators n =
    nat_lt n.inner operators
    && nat_lt n.parent operators
    && nat_lt n.sibling operators
    && nat_le n.own most_atoms
    && nat_le n.children most_children

-- it names the operator i as inner or sibling
abbrev pub names_operator : ℕ → Node → Bool
names_operator i n = n.inner == i || n.sibling == i

-- the nodes that some words hold
abbrev pub nodes_held : List ℕ → List Node
nodes_held ws = rows_of node_length node_of ws

-- those that an iterator over nodes still has to give
abbrev pub nodes_left : {R : Type 0} → Records R → List Node
nodes_left s = nodes_held (left s)

-- a node has words
pub node-some : 0 < node_length
node-some = omega arith
