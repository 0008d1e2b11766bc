-- Where a node, its operators and its atoms stand in a policy file, for every list of words. See docs/FORMAT.md, "The
-- policy file".
--
--   root_spot l                         the place of the root
--   spot_behind_own s n                 the place behind a node's own atoms
--   node_place n left, node_at f left   where the node stands that has so many left, and its words
--   from_operator f i, cells_at f i     the words from the operator of an index on, and its cells
--   atom_words_at f from n              the words of n atoms
use Rattle.std.specs.Prelude.{ℕ, ◌+◌, ◌-◌, ◌*◌, ◌/◌, ◌^◌, min, List, [], length, take, drop, if◌then◌else◌, nat_le, nat_lt, slice_index}
use Rattle.action.specs.Operator.{cells_of}
use Rattle.policy.specs.Numbers.{first_operator, operator_length, atom_length, node_length}
use Rattle.policy.specs.Read.{first_atom}
use Rattle.policy.specs.declared.Layout.{Layout}
use Rattle.policy.specs.declared.Node.{Node}
use Rattle.nodes.specs.declared.Spot.{Spot}

-- the place of the root: all nodes are left, and the first atom is the next
unfoldable pub root_spot : Layout → Spot
root_spot l = record { nodes_left = l.nodes; next_atom = first_atom l.operators }

-- the place behind a node's own atoms: a node less is left, and the next atom is the one behind them, at the last place
-- at most that a word can have
unfoldable pub spot_behind_own : Spot → Node → Spot
spot_behind_own s n = record {
  nodes_left = s.nodes_left - 1;
  next_atom = min (s.next_atom + atom_length * n.own) (2 ^ 64 - 1);
}

-- the word where the node stands that has so many nodes left from it on; the end of the file if it has not so many
unfoldable pub node_place : ℕ → ℕ → ℕ
node_place words left = if nat_lt (words / node_length) left then words else words - node_length * left

-- that node's five words
unfoldable pub node_at : List ℕ → ℕ → Node
node_at f left =
    let at : ℕ = node_place (length f) left in
    record {
      inner = slice_index f (at + 0);
      parent = slice_index f (at + 1);
      sibling = slice_index f (at + 2);
      own = slice_index f (at + 3);
      children = slice_index f (at + 4);
    }

-- the words from the operator of an index on
unfoldable pub from_operator : List ℕ → ℕ → List ℕ
from_operator f i = drop (first_operator + operator_length * i) f

-- the cells of that operator
unfoldable pub cells_at : List ℕ → ℕ → List ℕ
cells_at f i = cells_of (from_operator f i)

-- the words of n atoms from a word of the file on; none if they are not all there
unfoldable pub atom_words_at : List ℕ → ℕ → ℕ → List ℕ
atom_words_at f from n = if nat_le (from + atom_length * n) (length f) then take (atom_length * n) (drop from f) else []
