-- A tree is written as its nodes by their depths: behind each node the trees end that the next node is not inside. Assumes nothing.
use Rattle.std.proofs.Common.{ℕ, zero, suc, ◌≤◌, arith, ◌≡◌, refl, sym, ap, ◌∙◌, List, [], ◌∷◌, ◌++◌, append_assoc, append-nil}
use Rattle.std.specs.Prelude.{replicate}
use Rattle.theory.specs.Tree.{Tree, Forest, node, bare, ◌▸◌}
use Rattle.depths.specs.Depths.{Deep, deep_tree, deep_trees, tree_words, forest_words, closings, first_depth, flat_words}
use Rattle.depths.specs.Theorems.{WordsSame}
use Rattle.depths.proofs.Grown.{first-trees}

-- a node's own end, and those of the nodes above it that end with it
closings-more : (d e : ℕ) → e ≤ suc d → closings (suc d) e ≡ suc (closings d e)
closings-more d zero h = refl
closings-more d (suc e) h = omega arith

-- none ends behind a node where the next stands one deeper
closings-none : (d : ℕ) → closings d (suc d) ≡ 0
closings-none d = omega arith

-- words in other brackets
regroup : {W : Type 0} (a b c d : List W) → a ++ (b ++ (c ++ d)) ≡ a ++ (b ++ c) ++ d
regroup a b c d = ap (λ ws. a ++ ws) (sym (append_assoc b c d)) ∙ sym (append_assoc a (b ++ c) d)

module _ {X W : Type 0} (head : X → List W) (end : W) where
  -- the ends behind a node of a depth, and the nodes behind it
  abbrev ends_then : ℕ → List (Deep X) → List W
  ends_then d xs = replicate (closings d (first_depth xs)) end ++ flat_words head end xs

  -- so a tree that stands one deeper comes at once
  one-deeper : (d : ℕ) (t : Tree X) (xs : List (Deep X)) → ends_then d (deep_tree (suc d) t ++ xs) ≡ flat_words head end (deep_tree (suc d) t ++ xs)
  one-deeper d (node x ts) xs =
      ap (λ (n : ℕ). replicate n end ++ flat_words head end (deep_tree (suc d) (node x ts) ++ xs)) (closings-none d)

  -- what is written of nodes by their depths, before nodes that are not inside them
  mutual
    -- of a tree
    pub words-tree : (d : ℕ) (t : Tree X) (xs : List (Deep X)) → first_depth xs ≤ suc d
        → flat_words head end (deep_tree (suc d) t ++ xs)
        ≡ tree_words head end t ++ (replicate (closings d (first_depth xs)) end ++ flat_words head end xs)
    words-tree d (node x ts) xs h =
        let inner : List W = forest_words head end ts in
        let e : ends_then (suc d) xs ≡ end ∷ ends_then d xs = ap (λ (n : ℕ). replicate n end ++ flat_words head end xs) (closings-more d (first_depth xs) h) in
        ap (λ ws. head x ++ ws) (words-forest (suc d) ts xs (omega arith) ∙ ap (λ ws. inner ++ ws) e) ∙ regroup (head x) inner (end ∷ []) (ends_then d xs)

    -- of a forest
    pub words-forest : (d : ℕ) (ts : Forest X) (xs : List (Deep X)) → first_depth xs ≤ suc d
        → replicate (closings d (first_depth (deep_trees (suc d) ts ++ xs))) end ++ flat_words head end (deep_trees (suc d) ts ++ xs)
        ≡ forest_words head end ts ++ (replicate (closings d (first_depth xs)) end ++ flat_words head end xs)
    words-forest d bare xs h = refl
    words-forest d (t ▸ ts) xs h =
        let ys : List (Deep X) = deep_trees (suc d) ts ++ xs in
        ap (ends_then d) (append_assoc (deep_tree (suc d) t) (deep_trees (suc d) ts) xs) ∙ one-deeper d t ys
        ∙ words-tree d t ys (first-trees (suc d) ts xs h) ∙ ap (λ ws. tree_words head end t ++ ws) (words-forest d ts xs h)
        ∙ sym (append_assoc (tree_words head end t) (forest_words head end ts) (ends_then d xs))

-- A TREE IS WRITTEN AS ITS NODES BY THEIR DEPTHS
pub words-same : {X W : Type 0} → WordsSame X W
words-same head end t =
    sym (append-nil (tree_words head end t)) ∙ sym (words-tree head end 0 t [] (omega arith)) ∙ ap (flat_words head end) (append-nil (deep_tree 1 t))
