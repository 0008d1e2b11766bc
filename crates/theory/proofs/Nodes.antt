-- Nodes in file order and trees say the same: what a node takes and what it leaves, put together again, is what stood there.
use Rattle.std.proofs.Common.{ℕ, zero, suc, ◌-◌, ◌≤◌, arith, ◌≡◌, refl, ap, List, [], ◌∷◌, ◌++◌, append_assoc, append-nil}
use Rattle.theory.specs.Tree.{Tree, Forest, node, bare, ◌▸◌}
use Rattle.theory.specs.Nodes.{Listed, take_trees, drop_trees, count_trees, plant, list_tree, list_trees, ChildrenFound}
use Rattle.theory.specs.Theorems.{ListPlant, PlantList}

module _ {X : Type 0} where
  infixr 67 ◌⧺◌
  -- One forest before another.
  abbrev pub ◌⧺◌ : Forest X → Forest X → Forest X
  bare ⧺ us = us
  (t ▸ ts) ⧺ us = t ▸ (ts ⧺ us)

  take-drop : (k : ℕ) (ts : Forest X) → take_trees k ts ⧺ drop_trees k ts ≡ ts
  take-drop zero ts = refl
  take-drop (suc k) bare = refl
  take-drop (suc k) (t ▸ ts) = ap (λ us. t ▸ us) (take-drop k ts)

  pub count-take : (k : ℕ) (ts : Forest X) → k ≤ count_trees ts → count_trees (take_trees k ts) ≡ k
  count-take zero ts h = refl
  count-take (suc k) bare h = absurd (omega arith)
  count-take (suc k) (t ▸ ts) h = ap suc (count-take k ts (omega arith))

  pub count-drop : (k : ℕ) (ts : Forest X) → count_trees (drop_trees k ts) ≡ count_trees ts - k
  count-drop zero ts = omega arith
  count-drop (suc k) bare = omega arith
  count-drop (suc k) (t ▸ ts) = rw (count-drop k ts) (omega arith)

  list-append : (ts us : Forest X) → list_trees (ts ⧺ us) ≡ list_trees ts ++ list_trees us
  list-append bare us = refl
  list-append (t ▸ ts) us = rw (list-append ts us, append_assoc)

  pub list-plant : ListPlant X
  list-plant [] found = refl
  list-plant (n ∷ ns) found =
      let k : ℕ = n.child_count in
      let ts : Forest X = plant ns in
      simp (count-take k ts found.0, ← list-append (take_trees k ts) (drop_trees k ts), take-drop k ts, list-plant ns found.1)

  pub take_all : (ts us : Forest X) → take_trees (count_trees ts) (ts ⧺ us) ≡ ts
  take_all bare us = refl
  take_all (t ▸ ts) us = ap (λ vs. t ▸ vs) (take_all ts us)

  pub drop_all : (ts us : Forest X) → drop_trees (count_trees ts) (ts ⧺ us) ≡ us
  drop_all bare us = refl
  drop_all (t ▸ ts) us = drop_all ts us

  -- The list of a tree or a forest, before other nodes.
  mutual
    pub plant-before : (t : Tree X) (ns : List (Listed X)) → plant (list_tree t ++ ns) ≡ t ▸ plant ns
    plant-before (node x ts) ns = rw (plants-before ts ns, take_all, drop_all)

    pub plants-before : (ts : Forest X) (ns : List (Listed X)) → plant (list_trees ts ++ ns) ≡ ts ⧺ plant ns
    plants-before bare ns = refl
    plants-before (t ▸ ts) ns = rw (append_assoc, plant-before t (list_trees ts ++ ns), plants-before ts ns)

  pub plant-list : PlantList X
  plant-list t = rw append-nil at (plant-before t [])

  count-before : (ts us : Forest X) → count_trees ts ≤ count_trees (ts ⧺ us)
  count-before bare us = omega arith
  count-before (t ▸ ts) us = omega (arith, count-before ts us)

  -- Before nodes that find their children, those of a tree or a forest find theirs.
  mutual
    pub list-found : (t : Tree X) (ns : List (Listed X)) → ChildrenFound ns → ChildrenFound (list_tree t ++ ns)
    list-found (node x ts) ns f = (rw (plants-before ts ns) (count-before ts (plant ns)), lists-found ts ns f)

    lists-found : (ts : Forest X) (ns : List (Listed X)) → ChildrenFound ns → ChildrenFound (list_trees ts ++ ns)
    lists-found bare ns f = f
    lists-found (t ▸ ts) ns f = rw append_assoc (list-found t (list_trees ts ++ ns) (lists-found ts ns f))
