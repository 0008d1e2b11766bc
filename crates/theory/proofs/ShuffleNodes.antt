-- A step among the trees that some nodes in file order are is a step of the whole tree that they stand in: each node before them takes as many trees
-- as it did, and finds its children. Assumes nothing.
use Rattle.std.proofs.Common.{ℕ, zero, suc, ◌≤◌, arith, ◌≡◌, refl, sym, ap, subst, ◌⊎◌, inl, inr, List, [], ◌∷◌, ◌++◌, length, append-nil}
use Rattle.std.proofs.lemmas.List.Sorted.{IsPermutation-sym}
use Rattle.std.specs.Prelude.{IsPermutation, flat_map}
use Rattle.logic.specs.Lists.{All}
use Rattle.logic.proofs.Permutations.{all-perm}
use Rattle.theory.specs.Tree.{Tree, Forest, node, bare, ◌▸◌, depth, depths, Node}
use Rattle.theory.specs.Nodes.{Listed, take_trees, drop_trees, count_trees, plant, list_tree, list_trees, ChildrenFound}
use Rattle.theory.specs.Shuffle.{trees, Shuffled, OneShuffled, listed, ShuffledTo, AtomsShuffled, ChildrenShuffled}
use Rattle.theory.proofs.Nodes.{take_all, drop_all, plants-before, plant-list, list-plant, list-found}

module _ {X : Type 0} where
  found-behind : (L ns : List (Listed X)) → ChildrenFound (L ++ ns) → ChildrenFound ns
  found-behind [] ns f = f
  found-behind (l ∷ L) ns f = found-behind L ns f.1

  -- Trees as a forest.
  abbrev forest : List (Tree X) → Forest X
  forest [] = bare
  forest (t ∷ ts) = t ▸ forest ts

  trees-forest : (ts : List (Tree X)) → trees (forest ts) ≡ ts
  trees-forest [] = refl
  trees-forest (t ∷ ts) = ap (λ us. t ∷ us) (trees-forest ts)

  count-forest : (ts : List (Tree X)) → count_trees (forest ts) ≡ length ts
  count-forest [] = refl
  count-forest (t ∷ ts) = ap suc (count-forest ts)

  list-forest : (ts : List (Tree X)) → list_trees (forest ts) ≡ flat_map list_tree ts
  list-forest [] = refl
  list-forest (t ∷ ts) = ap (λ ns. list_tree t ++ ns) (list-forest ts)

  -- A forest is as deep as its deepest tree.
  abbrev pub AtMost : ℕ → Tree X → Type 0
  AtMost d t = depth t ≤ d

  pub each-least : (d : ℕ) (ts : Forest X) → depths ts ≤ d → All (AtMost d) (trees ts)
  each-least d bare h = tt
  each-least d (t ▸ ts) h = (omega arith, each-least d ts (omega arith))

  least-each : (d : ℕ) (ts : Forest X) → All (AtMost d) (trees ts) → depths ts ≤ d
  least-each d bare h = omega arith
  least-each d (t ▸ ts) h = omega (arith, h.0, least-each d ts h.1)

  depths-moved : (ts us : Forest X) → IsPermutation (trees ts) (trees us) → depths us ≤ depths ts
  depths-moved ts us p = least-each (depths ts) us (all-perm (AtMost (depths ts)) (trees ts) (trees us) p (each-least (depths ts) ts (omega arith)))

module _ {O M A : Type 0} where
  -- A step keeps how deep a tree is, and how many trees a forest has.
  mutual
    deep-shuffled : (t t' : Tree (Node O M A)) → Shuffled t t' → depth t' ≡ depth t
    deep-shuffled (node n ts) (node n' ts') (inl (a, e)) = ap (λ us. suc (depths us)) (sym e)
    deep-shuffled (node n ts) (node n' ts') (inr (e, inl p)) =
        omega (arith, depths-moved ts ts' p, depths-moved ts' ts (IsPermutation-sym (trees ts) (trees ts') p))
    deep-shuffled (node n ts) (node n' ts') (inr (e, inr s)) = ap suc (deep-one ts ts' s)

    deep-one : (ts ts' : Forest (Node O M A)) → OneShuffled ts ts' → depths ts' ≡ depths ts
    deep-one bare ts' h = absurd h
    deep-one (t ▸ ts) bare h = absurd h
    deep-one (t ▸ ts) (t' ▸ ts') (inl (s, e)) = rw (deep-shuffled t t' s, e) refl
    deep-one (t ▸ ts) (t' ▸ ts') (inr (e, s)) = rw (deep-one ts ts' s, e) refl

  count-one : (ts ts' : Forest (Node O M A)) → OneShuffled ts ts' → count_trees ts' ≡ count_trees ts
  count-one bare ts' h = absurd h
  count-one (t ▸ ts) bare h = absurd h
  count-one (t ▸ ts) (t' ▸ ts') (inl (s, e)) = ap (λ us. suc (count_trees us)) (sym e)
  count-one (t ▸ ts) (t' ▸ ts') (inr (e, s)) = ap suc (count-one ts ts' s)

  -- A step is one among the first k trees or among those behind them.
  split-one : (k : ℕ) (ts ts' : Forest (Node O M A)) → OneShuffled ts ts'
      → (OneShuffled (take_trees k ts) (take_trees k ts') × (drop_trees k ts ≡ drop_trees k ts'))
      ⊎ ((take_trees k ts ≡ take_trees k ts') × OneShuffled (drop_trees k ts) (drop_trees k ts'))
  split-one zero ts ts' h = inr (refl, h)
  split-one (suc k) bare ts' h = absurd h
  split-one (suc k) (t ▸ ts) bare h = absurd h
  split-one (suc k) (t ▸ ts) (t' ▸ ts') (inl (s, e)) = inl (inl (s, ap (take_trees k) e), ap (drop_trees k) e)
  split-one (suc k) (t ▸ ts) (t' ▸ ts') (inr (e, s)) = elim (split-one k ts ts' s) [
    | inl (a, b) ↦ inl (inr (e, a), b)
    | inr (a, b) ↦ inr (rw (e, a) refl, b)
  ]

  -- A step among the trees that some nodes are is one with other nodes before them.
  plant-one : (L ns ns' : List (Listed (Node O M A))) → OneShuffled (plant ns) (plant ns')
      → OneShuffled (plant (L ++ ns)) (plant (L ++ ns'))
  plant-one [] ns ns' h = h
  plant-one (l ∷ L) ns ns' h = elim (split-one l.child_count (plant (L ++ ns)) (plant (L ++ ns')) (plant-one L ns ns' h)) [
    | inl (a, b) ↦ inl (inr (refl, inr a), b)
    | inr (a, b) ↦ inr (ap (node l.what) a, b)
  ]

  -- The nodes before find their children as they did.
  found-one : (L ns ns' : List (Listed (Node O M A))) → OneShuffled (plant ns) (plant ns') → ChildrenFound ns'
      → ChildrenFound (L ++ ns) → ChildrenFound (L ++ ns')
  found-one [] ns ns' h f g = f
  found-one (l ∷ L) ns ns' h f g =
      let same = count-one (plant (L ++ ns)) (plant (L ++ ns')) (plant-one L ns ns' h) in
      (rw same g.0, found-one L ns ns' h f g.1)

  one-same : (F F' G G' : Forest (Node O M A)) → G ≡ F → G' ≡ F' → OneShuffled G G' → OneShuffled F F'
  one-same F F' G G' e e' h = subst (OneShuffled F) e' (subst (λ H. OneShuffled H G') e h)

  -- Trees one step from a tree alone are a tree alone.
  alone : (t : Tree (Node O M A)) (ts : Forest (Node O M A)) (ns : List (Listed (Node O M A)))
      → OneShuffled (t ▸ bare) ts → list_trees ts ≡ ns → ShuffledTo t ns
  alone t bare ns h e = absurd h
  alone t (t' ▸ ts) ns (inl (s, same)) e = record {
    tree = t';
    lists = rw append-nil at (subst (λ us. list_tree t' ++ list_trees us ≡ ns) (sym same) e);
    shuffled = s;
    deep = deep-shuffled t t' s;
  }
  alone t (t' ▸ ts) ns (inr (same, s)) e = absurd s

  -- So a step among the trees that the nodes behind L are is one of the whole tree.
  step-behind : (t : Tree (Node O M A)) (L ns ns' : List (Listed (Node O M A))) → list_tree t ≡ L ++ ns
      → OneShuffled (plant ns) (plant ns') → (ChildrenFound ns → ChildrenFound ns') → ShuffledTo t (L ++ ns')
  step-behind t L ns ns' e h f =
      let found : ChildrenFound (L ++ ns) = subst ChildrenFound e (rw append-nil at (list-found t [] tt)) in
      let found' : ChildrenFound (L ++ ns') = found-one L ns ns' h (f (found-behind L ns found)) found in
      let whole : OneShuffled (t ▸ bare) (plant (L ++ ns')) =
      one-same (t ▸ bare) (plant (L ++ ns')) (plant (L ++ ns)) (plant (L ++ ns')) (rw e at (plant-list t)) refl (plant-one L ns ns' h) in
      alone t (plant (L ++ ns')) (L ++ ns') whole (list-plant (L ++ ns') found')

  -- The node itself takes the step.
  pub atoms-shuffled : AtomsShuffled O M A
  atoms-shuffled t L R n n' k e moved =
      step-behind t L (listed n k ∷ R) (listed n' k ∷ R) e (inl (inl (moved, refl), refl)) (λ f. f)

  plant-listed : (n : Node O M A) (ts : List (Tree (Node O M A))) (R : List (Listed (Node O M A)))
      → plant (listed n (length ts) ∷ (flat_map list_tree ts ++ R)) ≡ node n (forest ts) ▸ plant R
  plant-listed n ts R = rw (← list-forest ts, plants-before, ← count-forest ts, take_all, drop_all) refl

  found-listed : (n : Node O M A) (ts : List (Tree (Node O M A))) (R : List (Listed (Node O M A)))
      → ChildrenFound R → ChildrenFound (listed n (length ts) ∷ (flat_map list_tree ts ++ R))
  found-listed n ts R f = rw (← list-forest ts, ← count-forest ts) (list-found (node n (forest ts)) R f)

  -- The trees that the node takes are its subtrees, which are permuted.
  pub children-shuffled : ChildrenShuffled O M A
  children-shuffled t L R n ts us e p =
      let ns : List (Listed (Node O M A)) = listed n (length ts) ∷ (flat_map list_tree ts ++ R) in
      let ns' : List (Listed (Node O M A)) = listed n (length us) ∷ (flat_map list_tree us ++ R) in
      let moved : IsPermutation (trees (forest ts)) (trees (forest us)) = rw (trees-forest ts, trees-forest us) p in
      let h : OneShuffled (plant ns) (plant ns') =
      one-same (plant ns) (plant ns') (node n (forest ts) ▸ plant R) (node n (forest us) ▸ plant R)
      (sym (plant-listed n ts R)) (sym (plant-listed n us R)) (inl (inr (refl, inl moved), refl)) in
      step-behind t L ns ns' e h (λ f. found-listed n us R (found-behind (flat_map list_tree ts) R f.1))
