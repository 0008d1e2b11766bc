-- A shuffle keeps the number of rows: the shuffled tree has the same atoms in another order, and a sum over sets of atoms knows no order. Assumes nothing.
use Rattle.std.proofs.Common.{◌≡◌, refl, ap, arith, Bool, ◌++◌, flat_map, IsPermutation, ⊎_elim}
use Rattle.std.proofs.lemmas.List.Sorted.{IsPermutation-append_left, IsPermutation-append_right}
use Rattle.logic.proofs.Permutations.{all-perm, IsPermutation-flat_map}
use Rattle.theory.specs.Tree.{Tree, Forest, node, bare, ◌▸◌, Node}
use Rattle.theory.specs.Shuffle.{trees, Shuffled, OneShuffled, ShuffledRows}
use Rattle.theory.proofs.Count.{live, live-nice, Rights, tree_atoms, forest_atoms, atoms-listed, rows-over_sets, sets-perm}

module _ {O M A : Type 0} where
  -- The atoms of a forest are those of its trees, one tree's behind the other's.
  forest-listed : (ts : Forest (Node O M A)) → forest_atoms ts ≡ flat_map tree_atoms (trees ts)
  forest-listed bare = refl
  forest-listed (t ▸ ts) = ap (λ xs. tree_atoms t ++ xs) (forest-listed ts)

  -- A step moves atoms only.
  mutual
    tree-perm : (t t' : Tree (Node O M A)) → Shuffled t t' → IsPermutation (tree_atoms t) (tree_atoms t')
    tree-perm (node n ts) (node n' ts') h =
        ⊎_elim
        (λ a. rw (← a.1) (IsPermutation-append_left (forest_atoms ts) n.atoms n'.atoms a.0.atoms))
        (λ b.
        let q : IsPermutation (forest_atoms ts) (forest_atoms ts') =
        ⊎_elim
        (λ p. rw (forest-listed ts, forest-listed ts') (IsPermutation-flat_map tree_atoms (trees ts) (trees ts') p))
        (λ o. one-perm ts ts' o)
        b.1 in
        rw (← b.0) (IsPermutation-append_right n.atoms (forest_atoms ts) (forest_atoms ts') q))
        h

    one-perm : (ts ts' : Forest (Node O M A)) → OneShuffled ts ts' → IsPermutation (forest_atoms ts) (forest_atoms ts')
    one-perm bare ts' h = absurd h
    one-perm (t ▸ ts) bare h = absurd h
    one-perm (t ▸ ts) (t' ▸ ts') h =
        ⊎_elim
        (λ a. rw (← a.1) (IsPermutation-append_left (forest_atoms ts) (tree_atoms t) (tree_atoms t') (tree-perm t t' a.0)))
        (λ a. rw (← a.0) (IsPermutation-append_right (tree_atoms t) (forest_atoms ts) (forest_atoms ts') (one-perm ts ts' a.1)))
        h

module _ {M P A O : Type 0} (meets : M → P → Bool) (common : M → M → M) (empty : M → Bool) (top : M) (joined : O → A → A → A) where
  -- A step keeps the number of rows.
  pub shuffled-rows : ShuffledRows meets common empty top joined
  shuffled-rows IsRight InRange laws t t' a h =
      let f : Rights laws (tree_atoms t) = rw (← atoms-listed t) a in
      let q : IsPermutation (tree_atoms t) (tree_atoms t') = tree-perm t t' h in
      omega (
        arith,
        rows-over_sets laws joined t f,
        rows-over_sets laws joined t' (all-perm (λ x. IsRight x.matching) (tree_atoms t) (tree_atoms t') q f),
        sets-perm laws (live laws) (live-nice laws) (tree_atoms t) (tree_atoms t') q f top laws.top_right,
      )
