-- The shape test is exact: it passes exactly where every node finds its children and the trees that were awaited stand there, each as deep
-- as its place allows. Assumes nothing.
use Rattle.std.proofs.Common.{ℕ, zero, suc, ◌-◌, ◌≤◌, arith, ◌≡◌, refl, sym, ap, ◌∙◌, Bool, true, false, cond, ◌&&◌, List, [], ◌∷◌, map}
use Rattle.std.proofs.Common.{append-nil, eqb, leb, length, eqb-true, leb-true, le-leb, Ok, Err}
use Rattle.theory.specs.Tree.{Tree, Forest, node, bare, ◌▸◌, depth, depths}
use Rattle.theory.specs.Nodes.{Listed, take_trees, drop_trees, count_trees, plant, list_tree, list_trees, ChildrenFound}
use Rattle.theory.proofs.Nodes.{list-plant, plant-list, list-found}
use Rattle.refusal.specs.Refusals.{refusal_at}
use Rattle.refusal.specs.declared.Reason.TheVariants.{NoTree}
use Rattle.refusal.specs.declared.Refusal.{Refusal}
use Rattle.policy.specs.Numbers.{deepest}
use Rattle.policy.specs.Sections.{Test}
use Rattle.policy.specs.Whole.{waiting_nodes, one_less, shape}
use Rattle.policy.specs.Meaning.{OneTree}
use Rattle.policy.proofs.Records.{unless-true}
use Rattle.logic.proofs.Tests.{and_left, and_right}

-- a test that guards a refusal was passed
guarded : (b : Bool) (v : Test) (x : Refusal) → cond b v (Err x) ≡ Ok tt → (b ≡ true) × (v ≡ Ok tt)
guarded true v x e = (refl, e)
guarded false v x e = (cc, cc)

length-less : (st : List ℕ) → length (one_less st) ≡ length st
length-less [] = refl
length-less (n ∷ st) = refl

module _ {X : Type 0} where
  -- the trees awaited by a stack of open nodes, the innermost first, and no more: those of the node at the bottom may be as deep as is allowed, and each
  -- node above it leaves one less
  abbrev Awaited : List ℕ → Forest X → Type 0
  Awaited [] ts = ts ≡ bare
  Awaited (n ∷ st) ts = (n ≤ count_trees ts) × (depths (take_trees n ts) ≤ deepest - length st) × Awaited st (drop_trees n ts)

  -- nothing is awaited exactly where no node waits
  awaited-bare : (st : List ℕ) (ts : Forest X) → ts ≡ bare → Awaited st ts → waiting_nodes st ≡ []
  awaited-bare [] ts e h = refl
  awaited-bare (zero ∷ st) ts e h = awaited-bare st ts e h.2
  awaited-bare (suc n ∷ st) ts e h = absurd (omega (arith, h.0, ap count_trees e))

  bare-awaited : (st : List ℕ) (ts : Forest X) → ts ≡ bare → waiting_nodes st ≡ [] → Awaited st ts
  bare-awaited [] ts q e = q
  bare-awaited (zero ∷ st) ts q e = (omega arith, omega arith, bare-awaited st ts q e)
  bare-awaited (suc n ∷ st) ts q e = let z : ◌≡◌ {A = ℕ} 0 1 = cc in absurd (omega arith)

  -- a tree enters: it is the next child of the innermost node that waits
  enters : (st : List ℕ) (t : Tree X) (us : Forest X) → 1 ≤ length (waiting_nodes st) → depth t ≤ suc deepest - length (waiting_nodes st)
      → Awaited (one_less (waiting_nodes st)) us → Awaited st (t ▸ us)
  enters [] t us h d a = absurd (omega arith)
  enters (zero ∷ st) t us h d a = (omega arith, omega arith, enters st t us h d a)
  enters (suc m ∷ st) t us h d a = (omega (arith, a.0), omega (arith, d, a.1), a.2)

  entered : (st : List ℕ) (t : Tree X) (us : Forest X) → Awaited st (t ▸ us)
      → (1 ≤ length (waiting_nodes st)) × (depth t ≤ suc deepest - length (waiting_nodes st)) × Awaited (one_less (waiting_nodes st)) us
  entered [] t us a = let z : ◌≡◌ {A = ℕ} 0 1 = cc in absurd (omega arith)
  entered (zero ∷ st) t us a = entered st t us a.2
  entered (suc m ∷ st) t us a = (omega arith, omega (arith, a.1), (omega (arith, a.0), omega (arith, a.1), a.2))

  -- what passes has its trees
  pub shape-trees : (ns : List (Listed X)) (st : List ℕ) (i : ℕ) → shape (map (λ n. n.child_count) ns) st i ≡ Ok tt → ChildrenFound ns × Awaited st (plant ns)
  shape-trees [] st i e =
      (tt, bare-awaited st bare refl (none_left (waiting_nodes st) (eqb-true _ _ (unless-true (eqb (length (waiting_nodes st)) 0) NoTree i e))))
    where
      none_left : (s : List ℕ) → length s ≡ 0 → s ≡ []
      none_left [] h = refl
      none_left (n ∷ s) h = absurd (omega arith)
  shape-trees (n ∷ ns) st i e =
      let s : List ℕ = waiting_nodes st in
      let k : ℕ = n.child_count in
      let rest : Test = shape (map (λ n. n.child_count) ns) (k ∷ one_less s) (suc i) in
      let g : ((leb 1 (length s) && leb (length s) deepest) ≡ true) × (rest ≡ Ok tt) =
      guarded (leb 1 (length s) && leb (length s) deepest) rest (refusal_at NoTree i) e in
      let waits : 1 ≤ length s = leb-true 1 (length s) (and_left (leb 1 (length s)) (leb (length s) deepest) g.0) in
      let few : length s ≤ deepest = leb-true (length s) deepest (and_right (leb 1 (length s)) (leb (length s) deepest) g.0) in
      let ih : ChildrenFound ns × Awaited (k ∷ one_less s) (plant ns) = shape-trees ns (k ∷ one_less s) (suc i) g.1 in
      let l : length (one_less s) ≡ length s = length-less s in
      ((ih.1.0, ih.0), enters st (node n.what (take_trees k (plant ns))) (drop_trees k (plant ns)) waits (omega (arith, ih.1.1)) ih.1.2)

  -- and what has its trees passes
  pub trees-shape : (ns : List (Listed X)) (st : List ℕ) (i : ℕ) → ChildrenFound ns → Awaited st (plant ns) → shape (map (λ n. n.child_count) ns) st i ≡ Ok tt
  trees-shape [] st i f a = rw (awaited-bare st bare refl a)
  trees-shape (n ∷ ns) st i f a =
      let s : List ℕ = waiting_nodes st in
      let k : ℕ = n.child_count in
      let t : Tree X = node n.what (take_trees k (plant ns)) in
      let h : (1 ≤ length s) × (depth t ≤ suc deepest - length s) × Awaited (one_less s) (drop_trees k (plant ns)) = entered st t (drop_trees k (plant ns)) a in
      let l : length (one_less s) ≡ length s = length-less s in
      let waits : 1 ≤ length s = h.0 in
      let d : suc (depths (take_trees k (plant ns))) ≤ suc deepest - length s = h.1 in
      rw (le-leb 1 (length s) waits, le-leb (length s) deepest (omega arith))
      (trees-shape ns (k ∷ one_less s) (suc i) f.1 (f.0, omega arith, h.2))

  -- a forest of which nothing is left behind its first tree
  only : (ts : Forest X) → 1 ≤ count_trees ts → depths (take_trees 1 ts) ≤ deepest → drop_trees 1 ts ≡ bare
      → (t : Tree X) × (ts ≡ t ▸ bare) × (depth t ≤ deepest)
  only bare h d e = absurd (omega arith)
  only (t ▸ us) h d e = (t, ap (λ (vs : Forest X). t ▸ vs) e, omega arith)

  -- ONE TREE exactly where the shape test passes
  pub shape-one-tree : (ns : List (Listed X)) → shape (map (λ n. n.child_count) ns) (1 ∷ []) 0 ≡ Ok tt → OneTree ns
  shape-one-tree ns e =
      let h : ChildrenFound ns × Awaited (1 ∷ []) (plant ns) = shape-trees ns (1 ∷ []) 0 e in
      let o : (t : Tree X) × (plant ns ≡ t ▸ bare) × (depth t ≤ deepest) = only (plant ns) h.1.0 h.1.1 h.1.2 in
      record { tree = o.0; lists = sym (append-nil (list_tree o.0)) ∙ ap list_trees (sym o.1) ∙ list-plant ns h.0; shallow = o.2 }

  pub one-tree-shape : (ns : List (Listed X)) → OneTree ns → shape (map (λ n. n.child_count) ns) (1 ∷ []) 0 ≡ Ok tt
  one-tree-shape ns o =
      let t : Tree X = o.tree in
      let p : plant ns ≡ t ▸ bare = ap plant (sym o.lists) ∙ plant-list t in
      let f : ChildrenFound ns = rw (← o.lists) (rw append-nil at (list-found t [] tt)) in
      trees-shape ns (1 ∷ []) 0 f (rw p (omega arith, omega (arith, o.shallow), refl))

  -- and then it is what is planted of the nodes
  pub one-tree-planted : (ns : List (Listed X)) (o : OneTree ns) → plant ns ≡ o.tree ▸ bare
  one-tree-planted ns o = ap plant (sym o.lists) ∙ plant-list o.tree
