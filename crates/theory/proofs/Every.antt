-- What every compiled row has: each join keeps the rows of both tables and adds common rows, of which the empty are dropped. Assumes nothing.
use Rattle.std.proofs.Common.{◌≡◌, Bool, false, List, [], ◌∷◌, ◌++◌}
use Rattle.logic.specs.Lists.{All}
use Rattle.logic.proofs.Lists.{all_append, all_split}
use Rattle.logic.proofs.Tests.{by-test}
use Rattle.theory.specs.declared.Row.{Row}
use Rattle.theory.specs.Rows.{kept, common_row, common_with, common_rows, join}
use Rattle.theory.specs.Tree.{Tree, Forest, node, bare, ◌▸◌, Node, EveryNode, EveryNodes, GoodNode, table, compile, compiles}
use Rattle.theory.specs.Nodes.{Listed, list_tree, list_trees}
use Rattle.theory.specs.Theorems.{CompileEvery}

-- what all listed nodes of a tree hold, every node of it does
module _ {X : Type 0} (Q : X → Type 0) where
  abbrev Held : Listed X → Type 0
  Held n = Q n.what

  mutual
    pub listed-every : (t : Tree X) → All Held (list_tree t) → EveryNode Q t
    listed-every (node x ts) f = (f.0, listed-all ts f.1)

    listed-all : (ts : Forest X) → All Held (list_trees ts) → EveryNodes Q ts
    listed-all bare f = tt
    listed-all (t ▸ ts) f = let g = all_split Held (list_tree t) (list_trees ts) f in (listed-every t g.0, listed-all ts g.1)

-- what every node has, by two things that every node has
module _ {X : Type 0} (P Q R : X → Type 0) (gives : (x : X) → P x → Q x → R x) where
  mutual
    pub every_both : (t : Tree X) → EveryNode P t → EveryNode Q t → EveryNode R t
    every_both (node x ts) f g = (gives x f.0 g.0, all_both ts f.1 g.1)

    all_both : (ts : Forest X) → EveryNodes P ts → EveryNodes Q ts → EveryNodes R ts
    all_both bare f g = tt
    all_both (t ▸ ts) f g = (every_both t f.0 g.0, all_both ts f.1 g.1)

module _ {M A O : Type 0} (joined : O → A → A → A) (common : M → M → M) (empty : M → Bool) (K : O → Type 0) (T : Row M A → Type 0)
    (keeps : (o : O) (r s : Row M A) → K o → T r → T s → T (common_row common (joined o) r s)) where
  -- The property, of a row whose match is not empty.
  abbrev Kept : Row M A → Type 0
  Kept r = T r × (empty r.matching ≡ false)

  every-kept : (r : Row M A) → T r → All Kept (kept empty r)
  every-kept r f = by-test (empty r.matching) (λ t. rw t tt) (λ t. rw t ((f, t), tt))

  every-with : (o : O) → K o → (r : Row M A) (N' : List (Row M A)) → T r → All Kept N' → All Kept (common_with common empty (joined o) r N')
  every-with o k r [] f g = tt
  every-with o k r (s ∷ N') f g =
      all_append Kept (kept empty (common_row common (joined o) r s)) (common_with common empty (joined o) r N')
      (every-kept (common_row common (joined o) r s) (keeps o r s k f g.0.0)) (every-with o k r N' f g.1)

  every-common : (o : O) → K o → (N N' : List (Row M A)) → All Kept N → All Kept N' → All Kept (common_rows common empty (joined o) N N')
  every-common o k [] N' f g = tt
  every-common o k (r ∷ N) N' f g =
      all_append Kept (common_with common empty (joined o) r N') (common_rows common empty (joined o) N N')
      (every-with o k r N' f.0.0 g) (every-common o k N N' f.1 g)

  every-join : (o : O) → K o → (N N' : List (Row M A)) → All Kept N → All Kept N' → All Kept (join common empty (joined o) N N')
  every-join o k N N' f g =
      all_append Kept (common_rows common empty (joined o) N N') (N ++ N') (every-common o k N N' f g) (all_append Kept N N' f g)

  pub every-table : (i : O) → K i → (xs : List (Row M A)) → All T xs → All Kept (table common empty joined i xs)
  every-table i k [] f = tt
  every-table i k (x ∷ xs) f = every-join i k (kept empty x) (table common empty joined i xs) (every-kept x f.0) (every-table i k xs f.1)

  mutual
    every-tree : (t : Tree (Node O M A)) → EveryNode (GoodNode K T) t → All Kept (compile common empty joined t)
    every-tree (node n ts) f =
        every-join n.parent f.0.parent (table common empty joined n.inner n.atoms) (compiles common empty joined ts n.sibling)
        (every-table n.inner f.0.inner n.atoms f.0.atoms) (every-trees ts n.sibling f.0.sibling f.1)

    pub every-trees : (ts : Forest (Node O M A)) (s : O) → K s → EveryNodes (GoodNode K T) ts → All Kept (compiles common empty joined ts s)
    every-trees bare s k f = tt
    every-trees (t ▸ ts) s k f =
        every-join s k (compile common empty joined t) (compiles common empty joined ts s) (every-tree t f.0) (every-trees ts s k f.1)

module _ {M A O : Type 0} (joined : O → A → A → A) (common : M → M → M) (empty : M → Bool) where
  pub compile-every : CompileEvery joined common empty
  compile-every = every-tree joined common empty
