-- How many rows a compile makes: with the empty set, one for each set of atoms that some packet meets all of. A table stands for a list of atoms where every
-- sum over their sets is a sum over its rows, and a join stands for both lists. Assumes nothing.
use Rattle.std.proofs.Common.{ℕ, suc, ◌+◌, arith, ◌≡◌, refl, sym, ap, ap₂, ◌∙◌, Bool, true, false, cond, ◌&&◌, List, [], ◌∷◌, ◌++◌}
use Rattle.std.proofs.Common.{append_assoc, length, IsPermutation}
use mathlib.Core.Bool.{false≢true, and-false}
use Rattle.std.specs.Prelude.{⊤}
use Rattle.logic.specs.Lists.{All}
use Rattle.logic.proofs.Lists.{all_split, all_then}
use Rattle.logic.proofs.Permutations.{along_all}
use Rattle.logic.proofs.Tests.{by-test}
use Rattle.theory.specs.declared.Row.{Row}
use Rattle.theory.specs.Rows.{kept, common_row, common_with, common_rows, join}
use Rattle.theory.specs.Tree.{Tree, Forest, node, bare, ◌▸◌, Node, EveryNode, EveryNodes, GoodNode, table, compile, compiles}
use Rattle.theory.specs.Nodes.{Listed, list_tree, list_trees, all_atoms}
use Rattle.theory.specs.Shuffle.{CountLaws}
use Rattle.theory.proofs.Every.{every-table, every-trees, compile-every}

-- The atoms of a tree, node by node.
module _ {O M A : Type 0} where
  abbrev mutual
    pub tree_atoms : Tree (Node O M A) → List (Row M A)
    tree_atoms (node n ts) = n.atoms ++ forest_atoms ts

    pub forest_atoms : Forest (Node O M A) → List (Row M A)
    forest_atoms bare = []
    forest_atoms (t ▸ ts) = tree_atoms t ++ forest_atoms ts

module _ {M A : Type 0} (common : M → M → M) where
  -- The sum of g over the sets of some atoms, each set met with m.
  abbrev pub over_sets : (M → ℕ) → M → List (Row M A) → ℕ
  over_sets g m [] = g m
  over_sets g m (x ∷ xs) = over_sets g m xs + over_sets g (common m x.matching) xs

  -- The sum of g over some rows, each met with m.
  abbrev pub over_rows : (M → ℕ) → M → List (Row M A) → ℕ
  over_rows g m [] = 0
  over_rows g m (r ∷ N) = g (common m r.matching) + over_rows g m N

  sets-append : (g : M → ℕ) (m : M) (xs ys : List (Row M A)) → over_sets g m (xs ++ ys) ≡ over_sets (λ n. over_sets g n ys) m xs
  sets-append g m [] ys = refl
  sets-append g m (x ∷ xs) ys = ap₂ ◌+◌ (sets-append g m xs ys) (sets-append g (common m x.matching) xs ys)

  rows-append : (g : M → ℕ) (m : M) (N N' : List (Row M A)) → over_rows g m (N ++ N') ≡ over_rows g m N + over_rows g m N'
  rows-append g m [] N' = omega arith
  rows-append g m (r ∷ N) N' = omega (arith, rows-append g m N N')

module _ {M P : Type 0} {meets : M → P → Bool} {common : M → M → M} {empty : M → Bool} {top : M} {IsRight : M → Type 0} {InRange : P → Type 0}
    (laws : CountLaws meets common empty top IsRight InRange) where
  -- The same packets in range meet both.
  abbrev pub Same : M → M → Type 0
  Same m n = (p : P) → InRange p → meets m p ≡ meets n p

  -- What no packet in range meets is empty.
  unmet : (m : M) → IsRight m → ((p : P) → InRange p → meets m p ≡ false) → empty m ≡ true
  unmet m r f =
      by-test (empty m)
      (λ e. e)
      (λ e. let h : (p : P) × (InRange p × (meets m p ≡ true)) = laws.met_in_range m r e in absurd (false≢true (sym (f h.0 h.1.0) ∙ h.1.1)))

  empty-same : (m n : M) → IsRight m → IsRight n → Same m n → empty m ≡ empty n
  empty-same m n r q s =
      by-test (empty m)
      (λ e. e ∙ sym (unmet n q (λ p i. sym (s p i) ∙ laws.meets_empty m p e)))
      (λ e. by-test (empty n)
      (λ d. unmet m r (λ p i. s p i ∙ laws.meets_empty n p d) ∙ sym d)
      (λ d. e ∙ sym d))

  -- A number of right matches that is the same where the same packets in range meet them, and 0 where none does.
  pub record Nice (g : M → ℕ) : Type 0 where
    pub same : (m n : M) → IsRight m → IsRight n → Same m n → g m ≡ g n
    pub dead : (m : M) → IsRight m → empty m ≡ true → g m ≡ 0

  empty-left : (m n : M) → IsRight m → IsRight n → empty m ≡ true → empty (common m n) ≡ true
  empty-left m n r q e = unmet (common m n) (laws.common_right m n r q) (λ p i. rw (laws.meets_common m n p, laws.meets_empty m p e))

  empty-right : (m n : M) → IsRight m → IsRight n → empty n ≡ true → empty (common m n) ≡ true
  empty-right m n r q e =
      unmet (common m n) (laws.common_right m n r q) (λ p i. rw (laws.meets_common m n p, laws.meets_empty n p e) (and-false (meets m p)))

  same-common : (m n x : M) → Same m n → Same (common m x) (common n x)
  same-common m n x s p i = rw (laws.meets_common m x p, laws.meets_common n x p, s p i)

  regroup : (m r s : M) → Same (common m (common r s)) (common (common m r) s)
  regroup m r s p i =
      rw (laws.meets_common m (common r s) p, laws.meets_common r s p, laws.meets_common (common m r) s p, laws.meets_common m r p)
      (ands (meets m p) (meets r p) (meets s p))
    where
      ands : (a b c : Bool) → (a && (b && c)) ≡ (a && b && c)
      ands true b c = refl
      ands false b c = refl

  -- What counts 1 for a set that some packet meets all of.
  abbrev pub live : M → ℕ
  live m = cond (empty m) 0 1

  -- It is the same where the same packets meet, and 0 where none does.
  pub live-nice : Nice live
  live-nice = record { same = λ m n r q s. ap (λ b. cond b 0 1) (empty-same m n r q s); dead = λ m r e. rw e }

  module _ {A : Type 0} where
    -- The matches of some rows are right.
    abbrev pub Rights : List (Row M A) → Type 0
    Rights xs = All (λ x. IsRight x.matching) xs

    sets-nice : (g : M → ℕ) → Nice g → (ys : List (Row M A)) → Rights ys → Nice (λ m. over_sets common g m ys)
    sets-nice g h [] a = h
    sets-nice g h (y ∷ ys) a =
        let k : Nice (λ m. over_sets common g m ys) = sets-nice g h ys a.1 in
        let right : (m : M) → IsRight m → IsRight (common m y.matching) = λ m r. laws.common_right m y.matching r a.0 in
        record {
          same = λ m n r q s. ap₂ ◌+◌ (k.same m n r q s)
              (k.same (common m y.matching) (common n y.matching) (right m r) (right n q) (same-common m n y.matching s));
          dead = λ m r e. rw (k.dead m r e, k.dead (common m y.matching) (right m r) (empty-left m y.matching r a.0 e));
        }

    -- A table stands for some atoms: for each such number, the empty set and the rows sum up to what the sets do.
    abbrev pub Stands : List (Row M A) → List (Row M A) → Type 0
    Stands N xs = (g : M → ℕ) → Nice g → (m : M) → IsRight m → over_sets common g m xs ≡ g m + over_rows common g m N

    rows-kept : (g : M → ℕ) → Nice g → (m : M) → IsRight m → (r : Row M A) → IsRight r.matching → over_rows common g m (kept empty r) ≡ g (common m r.matching)
    rows-kept g h m q r a =
        by-test (empty r.matching)
        (λ e. rw e (sym (h.dead (common m r.matching) (laws.common_right m r.matching q a) (empty-right m r.matching q a e))))
        (λ e. rw e (omega arith))

    rows-with : (op : A → A → A) (g : M → ℕ) → Nice g → (m : M) → IsRight m → (r : Row M A) → IsRight r.matching → (N' : List (Row M A)) → Rights N'
        → over_rows common g m (common_with common empty op r N') ≡ over_rows common g (common m r.matching) N'
    rows-with op g h m q r a [] b = refl
    rows-with op g h m q r a (s ∷ N') b =
        let c : Row M A = common_row common op r s in
        let right : IsRight c.matching = laws.common_right r.matching s.matching a b.0 in
        rows-append common g m (kept empty c) (common_with common empty op r N')
        ∙ ap₂ ◌+◌
        (rows-kept g h m q c right
        ∙ h.same (common m c.matching) (common (common m r.matching) s.matching) (laws.common_right m c.matching q right)
        (laws.common_right (common m r.matching) s.matching (laws.common_right m r.matching q a) b.0) (regroup m r.matching s.matching))
        (rows-with op g h m q r a N' b.1)

    -- The sum over N of g and of the sums over N': the common rows and N itself.
    rows-common : (op : A → A → A) (g g' : M → ℕ) → Nice g → (N' : List (Row M A)) → Rights N'
        → ((m : M) → IsRight m → g' m ≡ g m + over_rows common g m N') → (m : M) → IsRight m → (N : List (Row M A)) → Rights N
        → over_rows common g' m N ≡ over_rows common g m N + over_rows common g m (common_rows common empty op N N')
    rows-common op g g' h N' b e m q [] a = refl
    rows-common op g g' h N' b e m q (r ∷ N) a =
        rw (rows-append common g m (common_with common empty op r N') (common_rows common empty op N N'))
        (omega (
          arith,
          e (common m r.matching) (laws.common_right m r.matching q a.0),
          rows-common op g g' h N' b e m q N a.1,
          rows-with op g h m q r a.0 N' b,
        ))

    stands-join : (op : A → A → A) (N N' xs ys : List (Row M A)) → Rights N → Rights N' → Rights ys → Stands N xs → Stands N' ys
        → Stands (join common empty op N N') (xs ++ ys)
    stands-join op N N' xs ys a b c s t g h m q =
        let g' : M → ℕ = λ n. over_sets common g n ys in
        rw (
          sets-append common g m xs ys,
          rows-append common g m (common_rows common empty op N N') (N ++ N'),
          rows-append common g m N N',
        )
        (omega (arith, s g' (sets-nice g h ys c) m q, t g h m q, rows-common op g g' h N' b (t g h) m q N a))

    stands-kept : (r : Row M A) → IsRight r.matching → Stands (kept empty r) (r ∷ [])
    stands-kept r a g h m q = omega (arith, rows-kept g h m q r a)

    rights-kept : (r : Row M A) → IsRight r.matching → Rights (kept empty r)
    rights-kept r a = by-test (empty r.matching) (λ t. rw t tt) (λ t. rw t (a, tt))

    -- Of right rows that are not empty each counts 1.
    length-live : (N : List (Row M A)) → All (λ r. IsRight r.matching × (empty r.matching ≡ false)) N → over_rows common live top N ≡ length N
    length-live [] s = refl
    length-live (r ∷ N) s =
        let same : Same (common top r.matching) r.matching = λ p i. laws.meets_common top r.matching p ∙ ap (λ b. b && meets r.matching p) (laws.top_met p i) in
        let e : empty (common top r.matching) ≡ false =
        empty-same (common top r.matching) r.matching (laws.common_right top r.matching laws.top_right s.0.0) s.0.0 same ∙ s.0.1 in
        rw e (omega (arith, length-live N s.1))

    -- Two atoms change places, and a sum over sets stays.
    sets-swap : (g : M → ℕ) → Nice g → (m : M) → IsRight m → (x y : Row M A) (xs : List (Row M A)) → Rights (x ∷ y ∷ xs)
        → over_sets common g m (x ∷ y ∷ xs) ≡ over_sets common g m (y ∷ x ∷ xs)
    sets-swap g h m q x y xs a =
        let same : Same (common (common m x.matching) y.matching) (common (common m y.matching) x.matching) = λ p i.
        rw (
          laws.meets_common (common m x.matching) y.matching p,
          laws.meets_common m x.matching p,
          laws.meets_common (common m y.matching) x.matching p,
          laws.meets_common m y.matching p,
        )
        (turn (meets m p) (meets x.matching p) (meets y.matching p)) in
        omega (
          arith,
          (sets-nice g h xs a.1.1).same (common (common m x.matching) y.matching) (common (common m y.matching) x.matching)
              (laws.common_right (common m x.matching) y.matching (laws.common_right m x.matching q a.0) a.1.0)
              (laws.common_right (common m y.matching) x.matching (laws.common_right m y.matching q a.1.0) a.0) same,
        )
      where
        turn : (a b c : Bool) → (a && b && c) ≡ (a && c && b)
        turn true true true = refl
        turn true true false = refl
        turn true false true = refl
        turn true false false = refl
        turn false b c = refl

    -- A sum over sets knows no order.
    pub sets-perm : (g : M → ℕ) → Nice g → (xs ys : List (Row M A)) → IsPermutation xs ys → Rights xs → (m : M) → IsRight m
        → over_sets common g m xs ≡ over_sets common g m ys
    sets-perm g h =
        along_all (λ x. IsRight x.matching) (λ xs ys. (m : M) → IsRight m → over_sets common g m xs ≡ over_sets common g m ys)
        (λ xs m q. refl)
        (λ x xs ys r e m q. ap₂ ◌+◌ (e m q) (e (common m x.matching) (laws.common_right m x.matching q r)))
        (λ x y xs a m q. sets-swap g h m q x y xs a)
        (λ xs ys zs d e m q. d m q ∙ e m q)

  module _ {A O : Type 0} (joined : O → A → A → A) where
    keeps-right : (o : O) (r s : Row M A) → ⊤ → IsRight r.matching → IsRight s.matching → IsRight (common_row common (joined o) r s).matching
    keeps-right o r s k f g = laws.common_right r.matching s.matching f g

    -- Nodes whose atoms are right, as CompileEvery asks.
    abbrev RightNodes : Tree (Node O M A) → Type 0
    RightNodes t = EveryNode (GoodNode (λ o. ⊤) (λ r. IsRight r.matching)) t

    mutual
      right-nodes : (t : Tree (Node O M A)) → Rights (tree_atoms t) → RightNodes t
      right-nodes (node n ts) a =
          let s = all_split (λ x. IsRight x.matching) n.atoms (forest_atoms ts) a in
          (record { inner = tt; parent = tt; sibling = tt; atoms = s.0 }, right-forest ts s.1)

      right-forest : (ts : Forest (Node O M A)) → Rights (forest_atoms ts) → EveryNodes (GoodNode (λ o. ⊤) (λ r. IsRight r.matching)) ts
      right-forest bare a = tt
      right-forest (t ▸ ts) a =
          let s = all_split (λ x. IsRight x.matching) (tree_atoms t) (forest_atoms ts) a in (right-nodes t s.0, right-forest ts s.1)

    -- What is right of rows that are right and not empty.
    rights-of : (N : List (Row M A)) → All (λ r. IsRight r.matching × (empty r.matching ≡ false)) N → Rights N
    rights-of N f = all_then (λ r. IsRight r.matching × (empty r.matching ≡ false)) (λ r. IsRight r.matching) (λ r g. g.0) N f

    rights-table : (i : O) (xs : List (Row M A)) → Rights xs → Rights (table common empty joined i xs)
    rights-table i xs a =
        rights-of (table common empty joined i xs)
        (every-table joined common empty (λ o. ⊤) (λ r. IsRight r.matching) keeps-right i tt xs a)

    rights-trees : (ts : Forest (Node O M A)) (s : O) → Rights (forest_atoms ts) → Rights (compiles common empty joined ts s)
    rights-trees ts s a =
        rights-of (compiles common empty joined ts s)
        (every-trees joined common empty (λ o. ⊤) (λ r. IsRight r.matching) keeps-right ts s tt (right-forest ts a))

    rows-right : (t : Tree (Node O M A)) → Rights (tree_atoms t) → All (λ r. IsRight r.matching × (empty r.matching ≡ false)) (compile common empty joined t)
    rows-right t a = compile-every joined common empty (λ o. ⊤) (λ r. IsRight r.matching) keeps-right t (right-nodes t a)

    stands-table : (i : O) (xs : List (Row M A)) → Rights xs → Stands (table common empty joined i xs) xs
    stands-table i [] a = λ g h m q. omega arith
    stands-table i (x ∷ xs) a =
        stands-join (joined i) (kept empty x) (table common empty joined i xs) (x ∷ []) xs (rights-kept x a.0) (rights-table i xs a.1) a.1
        (stands-kept x a.0) (stands-table i xs a.1)

    mutual
      stands-tree : (t : Tree (Node O M A)) → Rights (tree_atoms t) → Stands (compile common empty joined t) (tree_atoms t)
      stands-tree (node n ts) a =
          let s = all_split (λ x. IsRight x.matching) n.atoms (forest_atoms ts) a in
          stands-join (joined n.parent) (table common empty joined n.inner n.atoms) (compiles common empty joined ts n.sibling)
          n.atoms (forest_atoms ts) (rights-table n.inner n.atoms s.0) (rights-trees ts n.sibling s.1) s.1
          (stands-table n.inner n.atoms s.0) (stands-trees ts n.sibling s.1)

      stands-trees : (ts : Forest (Node O M A)) (o : O) → Rights (forest_atoms ts) → Stands (compiles common empty joined ts o) (forest_atoms ts)
      stands-trees bare o a = λ g h m q. omega arith
      stands-trees (t ▸ ts) o a =
          let s = all_split (λ x. IsRight x.matching) (tree_atoms t) (forest_atoms ts) a in
          stands-join (joined o) (compile common empty joined t) (compiles common empty joined ts o) (tree_atoms t) (forest_atoms ts)
          (rights-of (compile common empty joined t) (rows-right t s.0)) (rights-trees ts o s.1) s.1 (stands-tree t s.0) (stands-trees ts o s.1)

    -- With the empty set, one row for each set of atoms that some packet meets all of.
    pub rows-over_sets : (t : Tree (Node O M A)) → Rights (tree_atoms t)
        → suc (length (compile common empty joined t)) ≡ over_sets common live top (tree_atoms t)
    rows-over_sets t a =
        let one : live top ≡ 1 = rw laws.top_lives in
        omega (arith, stands-tree t a live live-nice top laws.top_right, length-live (compile common empty joined t) (rows-right t a))

module _ {O M A : Type 0} where
  -- The atoms node by node are those of the nodes in file order.
  atoms-append : (ns ms : List (Listed (Node O M A))) → all_atoms (ns ++ ms) ≡ all_atoms ns ++ all_atoms ms
  atoms-append [] ms = refl
  atoms-append (n ∷ ns) ms = ap (λ xs. n.what.atoms ++ xs) (atoms-append ns ms) ∙ sym (append_assoc n.what.atoms (all_atoms ns) (all_atoms ms))

  mutual
    pub atoms-listed : (t : Tree (Node O M A)) → all_atoms (list_tree t) ≡ tree_atoms t
    atoms-listed (node n ts) = ap (λ xs. n.atoms ++ xs) (trees-listed ts)

    trees-listed : (ts : Forest (Node O M A)) → all_atoms (list_trees ts) ≡ forest_atoms ts
    trees-listed bare = refl
    trees-listed (t ▸ ts) = atoms-append (list_tree t) (list_trees ts) ∙ ap₂ (λ xs ys. xs ++ ys) (atoms-listed t) (trees-listed ts)
