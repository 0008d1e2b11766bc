-- The nodes of a tree in the order of a file, each with its depth in place of its child count: the root has depth 1,
-- and a node stands below the last one before it that is less deep.
--
--   Below, Nested                 the depths of nodes behind one of a depth, and of the nodes of one tree
--   children                      how many children a node of a depth has among those behind it
--   child_counts                  the child counts of nodes by their depths
--   depths_from, depths_of        the depths of nodes by child counts, with a stack of children to come; of one tree
--   Deep, deep_tree, deep_trees   what a node holds and its depth; the nodes of a tree and of a forest
--   tree_words, forest_words      what a tree is written as: for each node its head, the nodes inside it, and its end
--   closings, first_depth         how many nodes end between two depths; the depth of the first node
--   flat_words                    what nodes by their depths are written as
use Rattle.std.specs.Prelude.{ℕ, zero, suc, ◌+◌, ◌-◌, ◌≤◌, ◌≡◌, List, [], ◌∷◌, ◌++◌, length, replicate, if◌then◌else◌, ◌==◌, nat_le, ⊤}
use Rattle.theory.specs.Tree.{Tree, Forest, node, bare, ◌▸◌}
use Rattle.policy.specs.Numbers.{deepest}
use Rattle.policy.specs.Whole.{waiting_nodes, one_less}

-- depths of nodes that stand behind one of depth d and below the root, each at most one deeper than the one before
abbrev pub Below : ℕ → List ℕ → Type 0
Below d [] = ⊤
Below d (e ∷ es) = (2 ≤ e) × (e ≤ suc d) × (e ≤ deepest) × Below e es

-- depths of the nodes of one tree
abbrev pub Nested : List ℕ → Type 0
Nested [] = ⊥
Nested (d ∷ ds) = (d ≡ 1) × Below d ds

-- how many of the nodes behind one of depth d are its children: those one deeper, up to the first that is not deeper
abbrev pub children : ℕ → List ℕ → ℕ
children d [] = 0
children d (e ∷ es) = if nat_le e d then 0 else ((if e == suc d then 1 else 0) + children d es)

-- the child counts of nodes by their depths
abbrev pub child_counts : List ℕ → List ℕ
child_counts [] = []
child_counts (d ∷ ds) = children d ds ∷ child_counts ds

-- the depths of nodes by their child counts, with the children still to come of each open node, the innermost first
abbrev pub depths_from : List ℕ → List ℕ → List ℕ
depths_from st [] = []
depths_from st (k ∷ ks) = length (waiting_nodes st) ∷ depths_from (k ∷ one_less (waiting_nodes st)) ks

-- the same for the nodes of one tree: one node is awaited, the root
abbrev pub depths_of : List ℕ → List ℕ
depths_of ks = depths_from (1 ∷ []) ks

-- what a node holds, and its depth
pub record Deep (X : Type 0) : Type 0 where
  pub depth : ℕ
  pub what : X

module _ {X : Type 0} where
  abbrev mutual
    -- The nodes of a tree whose root has a depth, each before those inside it.
    pub deep_tree : ℕ → Tree X → List (Deep X)
    deep_tree d (node x ts) = record { depth = d; what = x } ∷ deep_trees (suc d) ts

    -- The same of a forest.
    pub deep_trees : ℕ → Forest X → List (Deep X)
    deep_trees d bare = []
    deep_trees d (t ▸ ts) = deep_tree d t ++ deep_trees d ts

-- how many nodes end behind one of depth d, where one of depth e comes next, or none for e ≡ 0
abbrev pub closings : ℕ → ℕ → ℕ
closings d zero = d
closings d (suc e) = suc d - suc e

-- the depth of the first of some nodes, 0 if there is none
abbrev pub first_depth : {X : Type 0} → List (Deep X) → ℕ
first_depth [] = 0
first_depth (x ∷ xs) = x.depth

module _ {X W : Type 0} (head : X → List W) (end : W) where
  abbrev mutual
    -- A tree: its root's head, the trees inside it, and its end.
    pub tree_words : Tree X → List W
    tree_words (node x ts) = head x ++ (forest_words ts ++ end ∷ [])

    -- Trees one behind the other.
    pub forest_words : Forest X → List W
    forest_words bare = []
    forest_words (t ▸ ts) = tree_words t ++ forest_words ts

  -- Nodes by their depths: each its head, and as many ends as nodes end behind it.
  abbrev pub flat_words : List (Deep X) → List W
  flat_words [] = []
  flat_words (x ∷ xs) = head x.what ++ (replicate (closings x.depth (first_depth xs)) end ++ flat_words xs)
