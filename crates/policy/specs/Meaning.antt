-- What the tests of a whole file mean, in the words of the scope: one tree of the depth allowed, a place for each node,
-- and laws that are kept. See docs/FORMAT.md, "The policy file".
--
--   OneTree                 some nodes in file order are those of one tree, no deeper than allowed
--   lacking, ended          how many nodes are lacking behind some nodes; the tree has ended
--   nodes_above, HasPlace   how many nodes are above the next one; the tree has a place for a node
--   operator_at             the cells of the operator at an index
--   KeepsLaws               an operator is commutative and associative over all actions with allowed rates
--   LawsKept                the operators that nodes name as inner or sibling keep the laws
use Rattle.std.specs.Prelude.{ℕ, zero, suc, ◌+◌, ◌≤◌, ◌<◌, ◌≡◌, Bool, false, List, [], ◌∷◌, length, take, if◌then◌else◌, ◌==◌, slice_index_or}
use Rattle.theory.specs.Tree.{Tree, depth}
use Rattle.theory.specs.Nodes.{Listed, list_tree}
use Rattle.action.specs.Operator.{cells_of}
use Rattle.action.specs.Laws.{Commutative, Associative}
use Rattle.policy.specs.Numbers.{deepest}
use Rattle.policy.specs.Sections.{inner_of, sibling_of}

-- the nodes, parent first and then each child's whole subtree, are those of one tree
pub record OneTree {X : Type 0} (ns : List (Listed X)) : Type 0 where
  pub tree : Tree X
  pub lists : list_tree tree ≡ ns
  pub shallow : depth tree ≤ deepest

-- how many nodes are lacking behind some nodes, given by their child counts, where n were lacking before them: each is
-- one that was lacking, and then its children are; once none is lacking the tree has ended, and none is from there on
abbrev pub lacking : ℕ → List ℕ → ℕ
lacking n [] = n
lacking zero (k ∷ ks) = 0
lacking (suc n) (k ∷ ks) = lacking (n + k) ks

-- the tree that begins with the first of some nodes has ended behind them
abbrev pub ended : List ℕ → Bool
ended ks = lacking 1 ks == 0

-- how many nodes are above the one behind some nodes: those of them whose tree has not ended before it
abbrev pub nodes_above : List ℕ → ℕ
nodes_above [] = 0
nodes_above (k ∷ ks) = (if ended (k ∷ ks) then 0 else 1) + nodes_above ks

-- the tree has a place for node i: it had not ended before it, and its depth, the nodes above it and itself, is allowed
pub record HasPlace (ks : List ℕ) (i : ℕ) : Type 0 where
  pub awaited : ended (take i ks) ≡ false
  pub shallow : suc (nodes_above (take i ks)) ≤ deepest

-- the cells of the operator at an index
abbrev pub operator_at : List (List ℕ) → ℕ → List ℕ
operator_at os i = cells_of (slice_index_or os i [])

-- an operator keeps both laws over all actions with allowed rates
abbrev pub KeepsLaws : List ℕ → Type 0
KeepsLaws o = Commutative o × Associative o

-- the operators that nodes name as inner or sibling keep the laws
abbrev pub LawsKept : List (List ℕ) → List (List ℕ) → Type 0
LawsKept os ns = (i : ℕ) → i < length ns
    → KeepsLaws (operator_at os (inner_of (slice_index_or ns i [])))
    × KeepsLaws (operator_at os (sibling_of (slice_index_or ns i [])))
