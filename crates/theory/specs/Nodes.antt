-- Nodes in file order, parent first and then each child's whole subtree, and the trees that they are. See
-- docs/FORMAT.md, "The policy file".
--
--   Listed X                 what a node holds, and its child count
--   take_trees, drop_trees   the first trees of a forest, and the others
--   count_trees              how many trees a forest has
--   plant                    the trees that nodes in file order are
--   list_tree, list_trees    the nodes of a tree, and of a forest, in file order
--   ChildrenFound            every node finds its children
--   all_atoms                the atoms of some nodes, one node's behind the other's
use Rattle.std.specs.Prelude.{ℕ, zero, suc, ◌≤◌, List, [], ◌∷◌, ◌++◌, ⊤}
use Rattle.theory.specs.declared.Row.{Row}
use Rattle.theory.specs.Tree.{Tree, Forest, node, bare, ◌▸◌, Node}

-- What a node holds, and its child count.
pub record Listed (X : Type 0) : Type 0 where
  pub what : X
  pub child_count : ℕ

module _ {X : Type 0} where
  -- The first k trees of a forest, or all if it has fewer.
  abbrev pub take_trees : ℕ → Forest X → Forest X
  take_trees zero ts = bare
  take_trees (suc k) bare = bare
  take_trees (suc k) (t ▸ ts) = t ▸ take_trees k ts

  -- The trees behind the first k.
  abbrev pub drop_trees : ℕ → Forest X → Forest X
  drop_trees zero ts = ts
  drop_trees (suc k) bare = bare
  drop_trees (suc k) (t ▸ ts) = drop_trees k ts

  -- How many trees a forest has.
  abbrev pub count_trees : Forest X → ℕ
  count_trees bare = 0
  count_trees (t ▸ ts) = suc (count_trees ts)

  -- Read from the last, each node takes its children off the front of what is grown behind it; so plant (drop i nodes)
  -- stands from node i on.
  abbrev pub plant : List (Listed X) → Forest X
  plant [] = bare
  plant (n ∷ ns) =
      let ts : Forest X = plant ns in
      node n.what (take_trees n.child_count ts) ▸ drop_trees n.child_count ts

  abbrev mutual
    -- A tree's nodes: its root, then each child's whole subtree.
    pub list_tree : Tree X → List (Listed X)
    list_tree (node x ts) = record { what = x; child_count = count_trees ts } ∷ list_trees ts

    -- A forest's nodes: those of each tree in order.
    pub list_trees : Forest X → List (Listed X)
    list_trees bare = []
    list_trees (t ▸ ts) = list_tree t ++ list_trees ts

  -- Each node has as many trees behind it as it has children.
  abbrev pub ChildrenFound : List (Listed X) → Type 0
  ChildrenFound [] = ⊤
  ChildrenFound (n ∷ ns) = (n.child_count ≤ count_trees (plant ns)) × ChildrenFound ns

-- The atoms of some nodes, one node's behind the other's.
abbrev pub all_atoms : {O M A : Type 0} → List (Listed (Node O M A)) → List (Row M A)
all_atoms [] = []
all_atoms (n ∷ ns) = n.what.atoms ++ all_atoms ns
