-- What is proved of nodes by their depths. Each statement is proved in proofs/ under the name given behind it.
--
--   NestedTree        nodes with the child counts of nested depths are one tree
--   DepthsFit         what TreeNested says of child counts
--   TreeNested        the child counts of one tree are those of their depths, which are nested
--   NestedBack        the depths of the child counts of nested depths are these
--   FewChildren       a node has fewer children than there are nodes
--   Grown             a tree with given nodes and depths
--   NestedGrows       nested depths are those of the nodes of a tree
--   TreeDepths        the depths of the nodes of a tree that is not too deep are nested
--   WordsSame         a tree is written as its nodes by their depths
use Rattle.std.specs.Prelude.{ℕ, ◌<◌, ◌≤◌, ◌≡◌, List, length, map}
use Rattle.logic.specs.Lists.{All}
use Rattle.theory.specs.Tree.{Tree, depth}
use Rattle.theory.specs.Nodes.{Listed}
use Rattle.policy.specs.Numbers.{deepest}
use Rattle.policy.specs.Meaning.{OneTree}
use Rattle.depths.specs.Depths.{Nested, child_counts, depths_of, Deep, deep_tree, tree_words, flat_words}

-- nodes with the child counts of nested depths are one tree (nested-tree)
abbrev pub NestedTree : Type 0 → Type 0
NestedTree X = (ns : List (Listed X)) (ds : List ℕ) → Nested ds
    → map (λ n. n.child_count) ns ≡ child_counts ds → OneTree ns

-- the depths of some child counts are nested, and have these child counts
pub record DepthsFit (ks : List ℕ) : Type 0 where
  pub nested : Nested (depths_of ks)
  pub counts : child_counts (depths_of ks) ≡ ks

-- the child counts of one tree's nodes are such (tree-nested)
abbrev pub TreeNested : Type 0 → Type 0
TreeNested X = (ns : List (Listed X)) → OneTree ns → DepthsFit (map (λ n. n.child_count) ns)

-- nested depths are those of their child counts (nested-back)
abbrev pub NestedBack : Type 0
NestedBack = (ds : List ℕ) → Nested ds → depths_of (child_counts ds) ≡ ds

-- a node has fewer children than there are nodes (few-children)
abbrev pub FewChildren : Type 0
FewChildren = (ds : List ℕ) → All (λ k. k < length ds) (child_counts ds)

-- a tree with these nodes and depths
pub record Grown {X : Type 0} (xs : List (Deep X)) : Type 0 where
  pub tree : Tree X
  pub nodes : deep_tree 1 tree ≡ xs

-- nodes whose depths are nested are those of a tree (nested-grows)
abbrev pub NestedGrows : Type 0 → Type 0
NestedGrows X = (xs : List (Deep X)) → Nested (map (λ x. x.depth) xs) → Grown xs

-- the depths of a tree's nodes are nested, unless it is too deep (tree-depths)
abbrev pub TreeDepths : Type 0 → Type 0
TreeDepths X = (t : Tree X) → depth t ≤ deepest → Nested (map (λ x. x.depth) (deep_tree 1 t))

-- a tree is written as its nodes by their depths (words-same)
abbrev pub WordsSame : Type 0 → Type 0 → Type 0
WordsSame X W = (head : X → List W) (end : W) (t : Tree X)
    → tree_words head end t ≡ flat_words head end (deep_tree 1 t)
