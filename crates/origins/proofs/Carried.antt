-- Rows that carry something else for an action are compiled alike, if it is joined as the actions are. Assumes nothing.
--
--   carried               a row with what it carries
--   carried_tree          a tree of such atoms
--   carried-compile       the compiled rows, carrying that, are those of that tree
--   carried-staying       the rows that stay, carrying that, are those that stay of rows that carry it
use Rattle.std.proofs.Common.{◌≡◌, refl, ap, ap₂, ◌∙◌, Bool, ◌||◌, List, [], ◌∷◌, ◌++◌, map}
use Rattle.std.proofs.lemmas.List.{map-append}
use Rattle.logic.proofs.Tests.{by-test}
use Rattle.theory.specs.declared.Row.{Row}
use Rattle.theory.specs.Rows.{kept, common_row, common_with, common_rows, join}
use Rattle.theory.specs.Hidden.{inside_one, staying_after, staying}
use Rattle.theory.specs.Tree.{Tree, Forest, node, bare, ◌▸◌, Node, table, compile, compiles}

-- a row with what it carries for its action
abbrev pub carried : {M A B : Type 0} → (Row M A → B) → Row M A → Row M B
carried g r = record { matching = r.matching; action = g r }

-- a tree whose atoms carry that
module _ {M A B O : Type 0} (g : Row M A → B) where
  abbrev pub carried_node : Node O M A → Node O M B
  carried_node n = record { inner = n.inner; parent = n.parent; sibling = n.sibling; atoms = map (carried g) n.atoms }

  abbrev mutual
    pub carried_tree : Tree (Node O M A) → Tree (Node O M B)
    carried_tree (node n ts) = node (carried_node n) (carried_trees ts)

    pub carried_trees : Forest (Node O M A) → Forest (Node O M B)
    carried_trees bare = bare
    carried_trees (t ▸ ts) = carried_tree t ▸ carried_trees ts

module _ {M A B O : Type 0} (common : M → M → M) (empty : M → Bool) (joined : O → A → A → A) (joined' : O → B → B → B) (g : Row M A → B)
    (keeps : (o : O) (r s : Row M A) → g (common_row common (joined o) r s) ≡ joined' o (g r) (g s)) where
  abbrev h : Row M A → Row M B
  h r = carried g r

  carried-common : (o : O) (r s : Row M A) → h (common_row common (joined o) r s) ≡ common_row common (joined' o) (h r) (h s)
  carried-common o r s = ap (λ (b : B). record { matching = common r.matching s.matching; action = b }) (keeps o r s)

  carried-kept : (r : Row M A) → map h (kept empty r) ≡ kept empty (h r)
  carried-kept r = by-test (empty r.matching) (λ t. rw t) (λ t. rw t)

  carried-with : (o : O) (r : Row M A) (N' : List (Row M A))
      → map h (common_with common empty (joined o) r N') ≡ common_with common empty (joined' o) (h r) (map h N')
  carried-with o r [] = refl
  carried-with o r (s ∷ N') =
      map-append h (kept empty (common_row common (joined o) r s)) (common_with common empty (joined o) r N')
      ∙ ap₂ (λ (x y : List (Row M B)). x ++ y)
      (carried-kept (common_row common (joined o) r s) ∙ ap (kept empty) (carried-common o r s)) (carried-with o r N')

  carried-rows : (o : O) (N N' : List (Row M A))
      → map h (common_rows common empty (joined o) N N') ≡ common_rows common empty (joined' o) (map h N) (map h N')
  carried-rows o [] N' = refl
  carried-rows o (r ∷ N) N' =
      map-append h (common_with common empty (joined o) r N') (common_rows common empty (joined o) N N')
      ∙ ap₂ (λ (x y : List (Row M B)). x ++ y) (carried-with o r N') (carried-rows o N N')

  carried-join : (o : O) (N N' : List (Row M A)) → map h (join common empty (joined o) N N') ≡ join common empty (joined' o) (map h N) (map h N')
  carried-join o N N' =
      map-append h (common_rows common empty (joined o) N N') (N ++ N')
      ∙ ap₂ (λ (x y : List (Row M B)). x ++ y) (carried-rows o N N') (map-append h N N')

  carried-table : (i : O) (xs : List (Row M A)) → map h (table common empty joined i xs) ≡ table common empty joined' i (map h xs)
  carried-table i [] = refl
  carried-table i (x ∷ xs) =
      carried-join i (kept empty x) (table common empty joined i xs)
      ∙ ap₂ (λ (N N' : List (Row M B)). join common empty (joined' i) N N') (carried-kept x) (carried-table i xs)

  mutual
    pub carried-compile : (t : Tree (Node O M A)) → map h (compile common empty joined t) ≡ compile common empty joined' (carried_tree g t)
    carried-compile (node n ts) =
        carried-join n.parent (table common empty joined n.inner n.atoms) (compiles common empty joined ts n.sibling)
        ∙ ap₂ (λ (N N' : List (Row M B)). join common empty (joined' n.parent) N N') (carried-table n.inner n.atoms)
        (carried-compiles ts n.sibling)

    carried-compiles : (ts : Forest (Node O M A)) (s : O)
        → map h (compiles common empty joined ts s) ≡ compiles common empty joined' (carried_trees g ts) s
    carried-compiles bare s = refl
    carried-compiles (t ▸ ts) s =
        carried-join s (compile common empty joined t) (compiles common empty joined ts s)
        ∙ ap₂ (λ (N N' : List (Row M B)). join common empty (joined' s) N N') (carried-compile t) (carried-compiles ts s)

-- so do the rows that stay
module _ {M A B : Type 0} (inside : M → M → Bool) (g : Row M A → B) where
  carried-one : (m : M) (N : List (Row M A)) → inside_one inside m (map (carried g) N) ≡ inside_one inside m N
  carried-one m [] = refl
  carried-one m (r ∷ N) = ap (λ (b : Bool). inside m r.matching || b) (carried-one m N)

  carried-after : (E N : List (Row M A))
      → map (carried g) (staying_after inside E N) ≡ staying_after inside (map (carried g) E) (map (carried g) N)
  carried-after E [] = refl
  carried-after E (r ∷ N) =
      let rest : map (carried g) (staying_after inside (E ++ (r ∷ [])) N)
      ≡ staying_after inside (map (carried g) E ++ (carried g r ∷ [])) (map (carried g) N) =
      carried-after (E ++ (r ∷ [])) N ∙ ap (λ F. staying_after inside F (map (carried g) N)) (map-append (carried g) E (r ∷ [])) in
      by-test (inside_one inside r.matching E)
      (λ t. rw (carried-one r.matching E, t) rest)
      (λ t. rw (carried-one r.matching E, t) (ap (λ K. carried g r ∷ K) rest))

  pub carried-staying : (N : List (Row M A)) → map (carried g) (staying inside N) ≡ staying inside (map (carried g) N)
  carried-staying N = carried-after [] N
