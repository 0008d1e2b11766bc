-- The marks of a row that stays are the places of the atoms that its match lies inside: they are the action of the marked tree there. Assumes nothing.
use Rattle.std.proofs.Common.{ℕ, zero, suc, ◌+◌, ◌≤◌, ◌<◌, arith, ◌≡◌, refl, sym, ap, ap₂, ◌∙◌, Bool, false, cond, List, [], ◌∷◌, ◌++◌, map, append-nil, length}
use Rattle.std.proofs.Common.{length-append, get_or, take, take-suc, length-take-le}
use lib.Seq.{take-length}
use Rattle.std.specs.Prelude.{⊤}
use Rattle.logic.specs.Lists.{All}
use Rattle.logic.proofs.Lists.{all_then, all-at}
use Rattle.logic.proofs.Tests.{by-test}
use Rattle.theory.specs.declared.Row.{Row}
use Rattle.theory.specs.Hidden.{staying, places_where}
use Rattle.theory.specs.Nodes.{list_tree, all_atoms}
use Rattle.theory.specs.Tree.{Tree, Forest, node, bare, ◌▸◌, Node, EveryNode, EveryNodes, GoodNode, own, eval, evals, compile}
use Rattle.theory.proofs.Count.{tree_atoms, forest_atoms, atoms-listed}
use Rattle.theory.proofs.Every.{every_both, compile-every}
use Rattle.theory.proofs.HiddenLaws.{hidden-every}
use Rattle.origins.specs.Marked.{InsideLaws, Identity, Marked, marked_atoms, marked, marked_trees, joined_marked, unmarked}
use Rattle.origins.specs.Marked.{inside_of, rows, marked_rows, RowsFrom}
use Rattle.origins.specs.Theorems.{RowsComeFrom}
use Rattle.origins.proofs.Carried.{carried_tree, carried_trees, carried-compile, carried-staying}
use Rattle.origins.proofs.Inner.{around, staying-action}

-- the places of the atoms whose matches pass a test, the first at k
abbrev tested_places : {M A : Type 0} → (M → Bool) → ℕ → List (Row M A) → List ℕ
tested_places test k [] = []
tested_places test k (x ∷ xs) = cond (test x.matching) (k ∷ tested_places test (suc k) xs) (tested_places test (suc k) xs)

module _ {M A : Type 0} (test : M → Bool) where
  tested-append : (k : ℕ) (xs ys : List (Row M A)) → tested_places test k (xs ++ ys) ≡ tested_places test k xs ++ tested_places test (k + length xs) ys
  tested-append k [] ys = let n : k + 0 ≡ k = omega arith in rw n
  tested-append k (x ∷ xs) ys =
      let n : k + length (x ∷ xs) ≡ suc k + length xs = omega arith in
      rw (n, tested-append (suc k) xs ys) (by-test (test x.matching) (λ t. rw t) (λ t. rw t))

  -- the same by place
  tested-take : (d : Row M A) (xs : List (Row M A)) (n : ℕ) → n ≤ length xs
      → tested_places test 0 (take n xs) ≡ places_where (λ i. test (get_or xs i d).matching) n
  tested-take d xs zero h = refl
  tested-take d xs (suc n) h =
      let long : length (take n xs) ≡ n = length-take-le n xs (omega arith) in
      let k : 0 + length (take n xs) ≡ n = omega (arith, long) in
      rw (take-suc xs n d h, tested-append 0 (take n xs) (get_or xs n d ∷ []), k, tested-take d xs n (omega arith))

  tested-where : (d : Row M A) (xs : List (Row M A)) → tested_places test 0 xs ≡ places_where (λ i. test (get_or xs i d).matching) (length xs)
  tested-where d xs = ap (tested_places test 0) (sym (take-length xs)) ∙ tested-take d xs (length xs) (omega arith)

-- what a marked row is without its marks
abbrev plain : {M A : Type 0} → Row M (Marked A) → A
plain r = r.action.0

unmarked-atoms : {M A : Type 0} (k : ℕ) (xs : List (Row M A)) → map unmarked (marked_atoms k xs) ≡ xs
unmarked-atoms k [] = refl
unmarked-atoms k (x ∷ xs) = ap (λ ys. x ∷ ys) (unmarked-atoms (suc k) xs)

-- a marked tree without its marks is the tree
module _ {O M A : Type 0} where
  mutual
    unmarked-tree : (k : ℕ) (t : Tree (Node O M A)) → carried_tree plain (marked k t) ≡ t
    unmarked-tree k (node n ts) =
        ap₂ (λ (xs : List (Row M A)) (us : Forest (Node O M A)). node (record {
          inner = n.inner;
          parent = n.parent;
          sibling = n.sibling;
          atoms = xs;
        }) us) (unmarked-atoms k n.atoms) (unmarked-trees (k + length n.atoms) ts)

    unmarked-trees : (k : ℕ) (ts : Forest (Node O M A)) → carried_trees plain (marked_trees k ts) ≡ ts
    unmarked-trees k bare = refl
    unmarked-trees k (t ▸ ts) =
        ap₂ (λ (u : Tree (Node O M A)) (us : Forest (Node O M A)). u ▸ us) (unmarked-tree k t)
        (unmarked-trees (k + length (all_atoms (list_tree t))) ts)

module _ {M A O : Type 0} (inside : M → M → Bool) (dont_care : A) (joined : O → A → A → A) (q : M) where
  -- the marks of the action of a marked tree at a match
  abbrev around_places : ℕ → List (Row M A) → List ℕ
  around_places k xs = tested_places (λ m. inside q m) k xs

  marks-own : (i : O) (k : ℕ) (xs : List (Row M A))
      → (own (around inside) (dont_care, []) (joined_marked joined) i (marked_atoms k xs) q).1 ≡ around_places k xs
  marks-own i k [] = refl
  marks-own i k (x ∷ xs) =
      by-test (inside q x.matching) (λ t. rw t (ap (λ l. k ∷ l) (marks-own i (suc k) xs))) (λ t. rw t (marks-own i (suc k) xs))

  mutual
    marks-eval : (k : ℕ) (t : Tree (Node O M A))
        → (eval (around inside) (dont_care, []) (joined_marked joined) (marked k t) q).1 ≡ around_places k (tree_atoms t)
    marks-eval k (node n ts) =
        ap₂ (λ (x y : List ℕ). x ++ y) (marks-own n.inner k n.atoms) (marks-evals (k + length n.atoms) ts n.sibling)
        ∙ sym (tested-append (λ m. inside q m) k n.atoms (forest_atoms ts))

    marks-evals : (k : ℕ) (ts : Forest (Node O M A)) (s : O)
        → (evals (around inside) (dont_care, []) (joined_marked joined) (marked_trees k ts) s q).1 ≡ around_places k (forest_atoms ts)
    marks-evals k bare s = refl
    marks-evals k (t ▸ ts) s =
        ap₂ (λ (x y : List ℕ). x ++ y) (marks-eval k t)
        (marks-evals (k + length (all_atoms (list_tree t))) ts s ∙ ap (λ l. around_places (k + length l) (forest_atoms ts)) (atoms-listed t))
        ∙ sym (tested-append (λ m. inside q m) k (tree_atoms t) (forest_atoms ts))

-- marked actions have don't care without marks for an identity
marked-identity : {A O : Type 0} {dont_care : A} {joined : O → A → A → A} → Identity dont_care joined
    → Identity {A = Marked A} (dont_care, []) (joined_marked joined)
marked-identity identity = record {
  left = λ o a. ap (λ x. (x, a.1)) (identity.left o a.0);
  right = λ o a. ap₂ (λ x y. (x, y)) (identity.right o a.0) (append-nil a.1);
}

-- the marked atoms have right matches, and marks
module _ {M A : Type 0} (Right : M → Type 0) where
  abbrev HasMark : Row M (Marked A) → Type 0
  HasMark r = Right r.matching × (0 < length r.action.1)

  marked-right : (k : ℕ) (xs : List (Row M A)) → All (λ x. Right x.matching) xs → All HasMark (marked_atoms k xs)
  marked-right k [] f = tt
  marked-right k (x ∷ xs) f = ((f.0, omega arith), marked-right (suc k) xs f.1)

module _ {M A O : Type 0} (Right : M → Type 0) where
  mutual
    marked-good : (k : ℕ) (t : Tree (Node O M A)) → EveryNode (GoodNode (λ o. ⊤) (λ x. Right x.matching)) t
        → EveryNode (GoodNode (λ o. ⊤) (HasMark Right)) (marked k t)
    marked-good k (node n ts) g =
        (record { inner = tt; parent = tt; sibling = tt; atoms = marked-right Right k n.atoms g.0.atoms }, marked-trees-good (k + length n.atoms) ts g.1)

    marked-trees-good : (k : ℕ) (ts : Forest (Node O M A)) → EveryNodes (GoodNode (λ o. ⊤) (λ x. Right x.matching)) ts
        → EveryNodes (GoodNode (λ o. ⊤) (HasMark Right)) (marked_trees k ts)
    marked-trees-good k bare g = tt
    marked-trees-good k (t ▸ ts) g = (marked-good k t g.0, marked-trees-good (k + length (all_atoms (list_tree t))) ts g.1)

module _ {M P A O : Type 0} {meets : M → P → Bool} {inside : M → M → Bool} {common : M → M → M} {empty : M → Bool} {Right : M → Type 0}
    (laws : InsideLaws meets inside common empty Right) {dont_care : A} {joined : O → A → A → A} (identity : Identity dont_care joined)
    (t : Tree (Node O M A)) (good : EveryNode (GoodNode (λ o. ⊤) (λ x. Right x.matching)) t) where
  abbrev all : List (Row M (Marked A))
  all = marked_rows joined common empty t

  abbrev kept : List (Row M (Marked A))
  kept = staying inside all

  same : map unmarked all ≡ rows joined common empty t
  same =
      carried-compile common empty (joined_marked joined) joined plain (λ o r s. refl) (marked 0 t)
      ∙ ap (compile common empty joined) (unmarked-tree 0 t)

  same_stay : map unmarked kept ≡ staying inside (rows joined common empty t)
  same_stay = carried-staying inside plain all ∙ ap (staying inside) same

  marked-tree : EveryNode (GoodNode (λ o. ⊤) (HasMark Right)) (marked 0 t)
  marked-tree = marked-good Right 0 t good

  right-tree : EveryNode (GoodNode (λ o. ⊤) (λ (x : Row M (Marked A)). Right x.matching)) (marked 0 t)
  right-tree =
      every_both (GoodNode (λ o. ⊤) (HasMark Right)) (GoodNode (λ o. ⊤) (HasMark Right)) (GoodNode (λ o. ⊤) (λ (x : Row M (Marked A)). Right x.matching))
      (λ n a b. record { inner = tt; parent = tt; sibling = tt; atoms = all_then (HasMark Right) (λ x. Right x.matching) (λ x g. g.0) n.atoms a.atoms })
      (marked 0 t) marked-tree marked-tree

  have-marks : All (λ r. HasMark Right r × (empty r.matching ≡ false)) all
  have-marks =
      compile-every (joined_marked joined) common empty (λ o. ⊤) (HasMark Right)
      (λ o r s k f g. (laws.common_right r.matching s.matching f.0 g.0, rw length-append (omega (arith, f.1)))) (marked 0 t) marked-tree

  rows-from : RowsFrom joined common empty t inside dont_care
  rows-from = record {
    same = same;
    same_stay = same_stay;
    marks = λ d e i h.
        let q : M = (get_or kept i d).matching in
        ap (λ a. a.1) (staying-action laws (marked-identity identity) (marked 0 t) right-tree d i h)
        ∙ marks-eval inside dont_care joined q 0 t
        ∙ tested-where (λ m. inside q m) e (tree_atoms t)
        ∙ ap (λ xs. inside_of inside e xs q) (sym (atoms-listed t));
    some = λ d i h. (all-at (λ r. HasMark Right r × (empty r.matching ≡ false)) d kept i
        (hidden-every (Marked A) inside (λ r. HasMark Right r × (empty r.matching ≡ false)) all have-marks) h).0.1;
    action = λ d i h. staying-action laws identity t good d i h;
  }

-- WHERE THE ROWS COME FROM
module _ {M P A O : Type 0} {meets : M → P → Bool} {inside : M → M → Bool} {common : M → M → M} {empty : M → Bool} {Right : M → Type 0}
    {joined : O → A → A → A} {dont_care : A} where
  pub rows-come-from : RowsComeFrom meets inside common empty Right joined dont_care
  rows-come-from laws identity t good = rows-from laws identity t good
