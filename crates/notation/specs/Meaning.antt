-- What the words of the grammar mean: the policy that operators and a tree of nodes are, and the texts that give it.
-- See docs/NOTATION.md, "What a text gives".
--
--   uses                     the names of the operators that nodes use, in order
--   added_by                 the operators with the one that a name adds
--   all_added                the operators with those that some names add
--   NodeOf, NodesOf          the node that a block is among some operators, and the nodes that blocks are
--   IsPolicy ws p            the words ws are the policy p
--   IsText text p            the text is the policy p
use Rattle.std.specs.Prelude.{ℕ, ◌≡◌, List, [], ◌∷◌, ◌++◌, Some, None, Option}
use Rattle.theory.specs.Tree.{Tree}
use Rattle.depths.specs.Depths.{Deep, deep_tree}
use Rattle.tokens.specs.Cut.{Cut}
use Rattle.notation.specs.Policy.{OperatorEntry, NodeEntry, Entries}
use Rattle.notation.specs.Operators.{builtin_of}
use Rattle.notation.specs.Nodes.{operator_index}
use Rattle.notation.specs.Grammar.{Block, IsOperators, IsNode}
use Rattle.notation.specs.Right.{RightEntries}

-- the operators that nodes use, node by node: inside, between, below
abbrev pub uses : List (Deep Block) → List (List ℕ)
uses [] = []
uses (x ∷ xs) = x.what.inner ∷ x.what.sibling ∷ x.what.parent ∷ uses xs

-- an operator that is there from the start is put behind the others where it is not among them
abbrev pub put_behind : Option ℕ → Option (List ℕ) → List ℕ → List OperatorEntry → List OperatorEntry
put_behind (Some i) cells w os = os
put_behind None None w os = os
put_behind None (Some cells) w os = os ++ record { name = w; at = 0; cells = cells } ∷ []

-- the operators with the one that a name adds
abbrev pub added_by : List ℕ → List OperatorEntry → List OperatorEntry
added_by w os = put_behind (operator_index w os) (builtin_of w) w os

-- the operators with those that some names add
abbrev pub all_added : List (List ℕ) → List OperatorEntry → List OperatorEntry
all_added [] os = os
all_added (w ∷ ws) os = all_added ws (added_by w os)

-- the node that a block is among some operators, each the first of its name
pub record NodeOf (os : List OperatorEntry) (x : Deep Block) (n : NodeEntry) : Type 0 where
  pub name : n.name ≡ x.what.name
  pub at : n.at ≡ 0
  pub depth : n.depth ≡ x.depth
  pub inner : operator_index x.what.inner os ≡ Some n.inner
  pub sibling : operator_index x.what.sibling os ≡ Some n.sibling
  pub parent : operator_index x.what.parent os ≡ Some n.parent
  pub rules : n.rules ≡ x.what.rules

-- the nodes that some blocks are
pub data NodesOf (os : List OperatorEntry) : List (Deep Block) → List NodeEntry → Type 0 where
  none : NodesOf os [] []
  more : {x : Deep Block} {n : NodeEntry} {xs : List (Deep Block)} {ns : List NodeEntry} → NodeOf os x n
      → NodesOf os xs ns → NodesOf os (x ∷ xs) (n ∷ ns)

-- the words are a policy: operators, and a node with those inside it; each name is that of an operator, and the policy
-- is right
pub record IsPolicy (ws : List (List ℕ)) (p : Entries) : Type 0 where
  pub operator_words : List (List ℕ)
  pub node_words : List (List ℕ)
  pub operators : List OperatorEntry
  pub tree : Tree Block
  pub words : ws ≡ operator_words ++ node_words
  pub declared : IsOperators operator_words operators
  pub nodes : IsNode node_words tree
  pub used : p.operators ≡ all_added (uses (deep_tree 1 tree)) operators
  pub held : NodesOf p.operators (deep_tree 1 tree) p.nodes
  pub right : RightEntries p

-- the text is a policy: its words are
pub record IsText (text : List ℕ) (p : Entries) : Type 0 where
  pub words : List (List ℕ)
  pub cut : Cut text words
  pub policy : IsPolicy words p
