-- The nodes of a tree with their depths, against the same nodes with their child counts. Assumes nothing.
use Rattle.std.proofs.Common.{ℕ, suc, ◌+◌, ◌≤◌, ◌<◌, arith, ◌≡◌, refl, sym, ap, ap₂, ◌∙◌, List, [], ◌∷◌, ◌++◌, map}
use Rattle.std.proofs.Common.{length, drop, get_or, append_assoc, append-nil}
use Rattle.theory.specs.Tree.{Tree, Forest, node, bare, ◌▸◌, depth, depths}
use Rattle.theory.specs.Nodes.{Listed, count_trees, plant, list_tree, list_trees}
use Rattle.theory.proofs.Nodes.{plant-list}
use Rattle.policy.specs.Numbers.{deepest}
use Rattle.policy.specs.Meaning.{OneTree}
use Rattle.depths.specs.Depths.{Below, Nested, children, child_counts, depths_of, Deep, deep_tree, deep_trees, first_depth}
use Rattle.depths.specs.Theorems.{NestedGrows, TreeDepths}
use Rattle.depths.proofs.Stacks.{children-end, children-next, children-inner, nested-back, nested-tree}

-- a step into a list of two parts
in_parts : {X Z : Type 0} (f : List X → Z) (xs ys zs : List X) {z : Z} → f (xs ++ (ys ++ zs)) ≡ z → f (xs ++ ys ++ zs) ≡ z
in_parts f xs ys zs e = rw append_assoc e

module _ {X : Type 0} where
  -- the depths of nodes
  abbrev depths_in : List (Deep X) → List ℕ
  depths_in xs = map (λ x. x.depth) xs

  -- nodes by their depths, each with its child count
  abbrev pub listed : List (Deep X) → List (Listed X)
  listed [] = []
  listed (x ∷ xs) = record { what = x.what; child_count = children x.depth (map (λ x. x.depth) xs) } ∷ listed xs

  -- their child counts
  pub listed-counts : (xs : List (Deep X)) → map (λ n. n.child_count) (listed xs) ≡ child_counts (map (λ x. x.depth) xs)
  listed-counts [] = refl
  listed-counts (x ∷ xs) = ap (λ (ks : List ℕ). children x.depth (depths_in xs) ∷ ks) (listed-counts xs)

  -- what they hold
  pub listed-what : (xs : List (Deep X)) → map (λ n. n.what) (listed xs) ≡ map (λ x. x.what) xs
  listed-what [] = refl
  listed-what (x ∷ xs) = ap (λ (ys : List X). x.what ∷ ys) (listed-what xs)

  -- how many they are
  pub listed-length : (xs : List (Deep X)) → length (listed xs) ≡ length xs
  listed-length [] = refl
  listed-length (x ∷ xs) = ap suc (listed-length xs)

  -- nodes deeper than children are no children
  mutual
    -- of a tree
    inner-tree : (d e : ℕ) (t : Tree X) (xs : List (Deep X)) → suc d < e → children d (depths_in (deep_tree e t ++ xs)) ≡ children d (depths_in xs)
    inner-tree d e (node x ts) xs h = children-inner d e (depths_in (deep_trees (suc e) ts ++ xs)) h ∙ inner-trees d (suc e) ts xs (omega arith)

    -- of a forest
    inner-trees : (d e : ℕ) (ts : Forest X) (xs : List (Deep X)) → suc d < e → children d (depths_in (deep_trees e ts ++ xs)) ≡ children d (depths_in xs)
    inner-trees d e bare xs h = refl
    inner-trees d e (t ▸ ts) xs h = in_parts (λ l. children d (depths_in l)) (deep_tree e t) (deep_trees e ts) xs
        (inner-tree d e t (deep_trees e ts ++ xs) h ∙ inner-trees d e ts xs h)

  -- a tree one deeper is a child
  child-tree : (d : ℕ) (t : Tree X) (xs : List (Deep X)) → children d (depths_in (deep_tree (suc d) t ++ xs)) ≡ suc (children d (depths_in xs))
  child-tree d (node x ts) xs = children-next d (depths_in (deep_trees (suc (suc d)) ts ++ xs)) ∙ ap suc (inner-trees d (suc (suc d)) ts xs (omega arith))

  -- so the trees one deeper are the children
  child-trees : (d : ℕ) (ts : Forest X) (xs : List (Deep X)) → children d (depths_in (deep_trees (suc d) ts ++ xs)) ≡ count_trees ts + children d (depths_in xs)
  child-trees d bare xs = omega arith
  child-trees d (t ▸ ts) xs = in_parts (λ l. children d (depths_in l)) (deep_tree (suc d) t) (deep_trees (suc d) ts) xs
      (child-tree d t (deep_trees (suc d) ts ++ xs) ∙ omega (arith, child-trees d ts xs))

  -- a node that is not deeper is none
  child-none : (d : ℕ) (xs : List (Deep X)) → first_depth xs ≤ d → children d (depths_in xs) ≡ 0
  child-none d [] h = refl
  child-none d (x ∷ xs) h = children-end d x.depth (depths_in xs) h

  -- the first node of a forest is as deep as its trees stand
  pub first-trees : (d : ℕ) (ts : Forest X) (xs : List (Deep X)) → first_depth xs ≤ d → first_depth (deep_trees d ts ++ xs) ≤ d
  first-trees d bare xs h = h
  first-trees d (node x us ▸ ts) xs h = omega arith

  -- THE NODES OF A TREE BY THEIR DEPTHS are those in file order, before nodes that are not inside it
  mutual
    -- of a tree
    pub deep-list : (d : ℕ) (t : Tree X) (xs : List (Deep X)) → first_depth xs ≤ d → listed (deep_tree d t ++ xs) ≡ list_tree t ++ listed xs
    deep-list d (node x ts) xs h =
        let c : children d (depths_in (deep_trees (suc d) ts ++ xs)) ≡ count_trees ts = omega (arith, child-trees d ts xs, child-none d xs h) in
        rw (c, deep-lists (suc d) ts xs (omega arith))

    -- of a forest
    pub deep-lists : (d : ℕ) (ts : Forest X) (xs : List (Deep X)) → first_depth xs ≤ d → listed (deep_trees d ts ++ xs) ≡ list_trees ts ++ listed xs
    deep-lists d bare xs h = refl
    deep-lists d (t ▸ ts) xs h = in_parts listed (deep_tree d t) (deep_trees d ts) xs
        (rw (deep-list d t (deep_trees d ts ++ xs) (first-trees d ts xs h), deep-lists d ts xs h, append_assoc))

  -- the same with nothing behind
  pub tree-list : (d : ℕ) (t : Tree X) → listed (deep_tree d t) ≡ list_tree t
  tree-list d t = ap listed (sym (append-nil (deep_tree d t))) ∙ deep-list d t [] (omega arith) ∙ append-nil (list_tree t)

  -- of a forest
  pub trees-list : (d : ℕ) (ts : Forest X) → listed (deep_trees d ts) ≡ list_trees ts
  trees-list d ts = ap listed (sym (append-nil (deep_trees d ts))) ∙ deep-lists d ts [] (omega arith) ∙ append-nil (list_trees ts)

  -- there are as many by their depths as in file order
  pub deep-length : (d : ℕ) (t : Tree X) → length (deep_tree d t) ≡ length (list_tree t)
  deep-length d t = sym (listed-length (deep_tree d t)) ∙ ap length (tree-list d t)

  -- of a forest
  pub deep-lengths : (d : ℕ) (ts : Forest X) → length (deep_trees d ts) ≡ length (list_trees ts)
  deep-lengths d ts = sym (listed-length (deep_trees d ts)) ∙ ap length (trees-list d ts)

  -- their child counts are those of their depths
  pub deep-counts : (d : ℕ) (t : Tree X) → map (λ n. n.child_count) (list_tree t) ≡ child_counts (map (λ x. x.depth) (deep_tree d t))
  deep-counts d t = ap (map (λ (n : Listed X). n.child_count)) (sym (tree-list d t)) ∙ listed-counts (deep_tree d t)

  -- of a forest
  pub deep-counts-all : (d : ℕ) (ts : Forest X) → map (λ n. n.child_count) (list_trees ts) ≡ child_counts (map (λ x. x.depth) (deep_trees d ts))
  deep-counts-all d ts = ap (map (λ (n : Listed X). n.child_count)) (sym (trees-list d ts)) ∙ listed-counts (deep_trees d ts)

  -- and they hold the same
  pub deep-what : (d : ℕ) (t : Tree X) → map (λ n. n.what) (list_tree t) ≡ map (λ x. x.what) (deep_tree d t)
  deep-what d t = ap (map (λ (n : Listed X). n.what)) (sym (tree-list d t)) ∙ listed-what (deep_tree d t)

  -- of a forest
  pub deep-what-all : (d : ℕ) (ts : Forest X) → map (λ n. n.what) (list_trees ts) ≡ map (λ x. x.what) (deep_trees d ts)
  deep-what-all d ts = ap (map (λ (n : Listed X). n.what)) (sym (trees-list d ts)) ∙ listed-what (deep_trees d ts)

  -- the depths of nodes are below those that they may stand behind
  mutual
    -- of a tree
    pub tree-below : (d e : ℕ) (t : Tree X) (xs : List (Deep X)) → 2 ≤ d → d ≤ suc e → d + depth t ≤ suc deepest
        → ((f : ℕ) → d ≤ f → Below f (map (λ x. x.depth) xs)) → Below e (map (λ x. x.depth) (deep_tree d t ++ xs))
    tree-below d e (node x ts) xs h k l g =
        (h, k, omega (arith, l), trees-below (suc d) d ts xs (omega arith) (omega arith) (omega (arith, l)) (λ f m. g f (omega arith)))

    -- of a forest
    pub trees-below : (d e : ℕ) (ts : Forest X) (xs : List (Deep X)) → 2 ≤ d → d ≤ suc e → d + depths ts ≤ suc deepest
        → ((f : ℕ) → d ≤ suc f → Below f (map (λ x. x.depth) xs)) → Below e (map (λ x. x.depth) (deep_trees d ts ++ xs))
    trees-below d e bare xs h k l g = g e k
    trees-below d e (t ▸ ts) xs h k l g = rw append_assoc
        (tree-below d e t (deep_trees d ts ++ xs) h k (omega (arith, l)) (λ f m. trees-below d f ts xs h (omega arith) (omega (arith, l)) g))

  -- THE DEPTHS OF A TREE'S NODES ARE NESTED
  pub tree-depths : TreeDepths X
  tree-depths (node x ts) h = (refl, rw append-nil at (trees-below 2 1 ts [] (omega arith) (omega arith) (omega (arith, h)) (λ f m. tt)))

  -- nodes of the same depths that hold the same
  same-nodes : (xs ys : List (Deep X)) → depths_in xs ≡ depths_in ys → map (λ x. x.what) xs ≡ map (λ x. x.what) ys → xs ≡ ys
  same-nodes [] [] e f = refl
  same-nodes [] (y ∷ ys) e f = absurd (omega (arith, ap length e))
  same-nodes (x ∷ xs) [] e f = absurd (omega (arith, ap length e))
  same-nodes (x ∷ xs) (y ∷ ys) e f =
      let d : x.depth ≡ y.depth = ap (λ l. get_or l 0 0) e in
      let w : x.what ≡ y.what = ap (λ l. get_or l 0 x.what) f in
      let h : x ≡ y = ap₂ (λ (d : ℕ) (w : X). let z : Deep X = record { depth = d; what = w } in z) d w in
      ap₂ (λ (z : Deep X) (zs : List (Deep X)). z ∷ zs) h (same-nodes xs ys (ap (drop 1) e) (ap (drop 1) f))

  -- a tree's depths are those of its child counts
  pub deep-depths : (t : Tree X) → depth t ≤ deepest → depths_of (map (λ n. n.child_count) (list_tree t)) ≡ map (λ x. x.depth) (deep_tree 1 t)
  deep-depths t h = ap depths_of (deep-counts 1 t) ∙ nested-back (depths_in (deep_tree 1 t)) (tree-depths t h)

  -- a tree that has nodes in file order has them by their nested depths
  pub listed-deep : (xs : List (Deep X)) (t : Tree X) → Nested (map (λ x. x.depth) xs) → depth t ≤ deepest → list_tree t ≡ listed xs → deep_tree 1 t ≡ xs
  listed-deep xs t n h e =
      let ys : List (Deep X) = deep_tree 1 t in
      let c : map (λ n. n.child_count) (list_tree t) ≡ child_counts (depths_in xs) = ap (map (λ (n : Listed X). n.child_count)) e ∙ listed-counts xs in
      let d : depths_in ys ≡ depths_in xs = sym (deep-depths t h) ∙ ap depths_of c ∙ nested-back (depths_in xs) n in
      same-nodes ys xs d (sym (deep-what 1 t) ∙ ap (map (λ (n : Listed X). n.what)) e ∙ listed-what xs)

  -- NODES WHOSE DEPTHS ARE NESTED ARE THOSE OF A TREE
  pub nested-grows : NestedGrows X
  nested-grows xs n =
      let o : OneTree (listed xs) = nested-tree (listed xs) (depths_in xs) n (listed-counts xs) in
      record { tree = o.tree; nodes = listed-deep xs o.tree n o.shallow o.lists }

  -- the first tree of a forest, if it has one
  abbrev first_tree : Tree X → Forest X → Tree X
  first_tree u bare = u
  first_tree u (t ▸ ts) = t

  -- TREES WITH THE SAME NODES AT THE SAME DEPTHS ARE THE SAME
  pub grown-one : (d : ℕ) (t u : Tree X) → deep_tree d t ≡ deep_tree d u → t ≡ u
  grown-one d t u e =
      let l : list_tree t ≡ list_tree u = sym (tree-list d t) ∙ ap listed e ∙ tree-list d u in
      ap (first_tree t) (sym (plant-list t) ∙ ap plant l ∙ plant-list u)
