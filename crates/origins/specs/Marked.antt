-- Where a compiled row comes from, over any matches, packets, actions and operators: each atom is marked with its
-- place, and marks are joined as the actions are, one list behind the other; so a compiled row has the places of the
-- atoms that it was joined from.
--
--   InsideLaws      what is asked of matches, of packets, and of what lies inside what
--   Identity        what is asked of operators
--   RightAtoms      every atom of a tree has a right match
--   Marked A        an action with the places of the atoms that it comes from
--   marked_atoms    atoms, each marked with its place, counted from a first one
--   marked          a tree, with its atoms so marked
--   joined_marked   marked actions joined: the actions under the operator, and the places one list behind the other
--   unmarked        a row without its marks
--   inside_of       the places of the atoms that a match lies inside
--   rows            the compiled rows of a tree
--   marked_rows     those of the marked tree
--   RowsFrom        what is told of the marks of the rows that stay
use Rattle.std.specs.Prelude.{ℕ, suc, ◌+◌, ◌<◌, ◌≡◌, Bool, true, false, ◌&&◌, List, [], ◌∷◌, ◌++◌, map, length, slice_index_or, ⊤}
use Rattle.theory.specs.declared.Row.{Row}
use Rattle.theory.specs.Tree.{Tree, Forest, node, bare, ◌▸◌, Node, EveryNode, GoodNode, eval, compile}
use Rattle.theory.specs.Nodes.{list_tree, all_atoms}
use Rattle.theory.specs.Hidden.{staying, places_where, Enclosing, Nesting}

-- A packet meets the common match exactly when it meets both, and a right match that is not empty lies inside the
-- common match of right ones exactly when it lies inside both.
pub record InsideLaws {M P : Type 0} (meets : M → P → Bool) (inside : M → M → Bool) (common : M → M → M)
    (empty : M → Bool) (Right : M → Type 0) : Type 0 where
  pub meets_common : (m n : M) (p : P) → meets (common m n) p ≡ (meets m p && meets n p)
  pub meets_empty : (m : M) (p : P) → empty m ≡ true → meets m p ≡ false
  pub common_right : (m n : M) → Right m → Right n → Right (common m n)
  pub inside_itself : (m : M) → Right m → inside m m ≡ true
  pub inside_common : (l m n : M) → Right l → empty l ≡ false → Right m → Right n
      → inside l (common m n) ≡ (inside l m && inside l n)
  pub inside_empty : (l m : M) → empty l ≡ false → empty m ≡ true → inside l m ≡ false
  pub encloses : Enclosing meets inside
  pub nests : Nesting inside

-- Don't care is every operator's identity.
pub record Identity {A O : Type 0} (dont_care : A) (joined : O → A → A → A) : Type 0 where
  pub left : (o : O) (a : A) → joined o dont_care a ≡ a
  pub right : (o : O) (a : A) → joined o a dont_care ≡ a

-- every atom of a tree has a right match
abbrev pub RightAtoms : {M A O : Type 0} → (M → Type 0) → Tree (Node O M A) → Type 0
RightAtoms Right t = EveryNode (GoodNode (λ o. ⊤) (λ x. Right x.matching)) t

-- an action, and the places of the atoms that it comes from
abbrev pub Marked : Type 0 → Type 0
Marked A = A × List ℕ

-- atoms, each marked with its place: the first with k
abbrev pub marked_atoms : {M A : Type 0} → ℕ → List (Row M A) → List (Row M (Marked A))
marked_atoms k [] = []
marked_atoms k (x ∷ xs) =
    record { matching = x.matching; action = (x.action, k ∷ []) } ∷ marked_atoms (suc k) xs

module _ {O M A : Type 0} where
  -- a node with its atoms so marked
  abbrev pub marked_node : ℕ → Node O M A → Node O M (Marked A)
  marked_node k n = record {
    inner = n.inner;
    parent = n.parent;
    sibling = n.sibling;
    atoms = marked_atoms k n.atoms;
  }

  abbrev mutual
    -- a tree with its atoms marked in file order, the first with k: the node's own, then those of each child
    pub marked : ℕ → Tree (Node O M A) → Tree (Node O M (Marked A))
    marked k (node n ts) = node (marked_node k n) (marked_trees (k + length n.atoms) ts)

    -- the same of trees in order
    pub marked_trees : ℕ → Forest (Node O M A) → Forest (Node O M (Marked A))
    marked_trees k bare = bare
    marked_trees k (t ▸ ts) = marked k t ▸ marked_trees (k + length (all_atoms (list_tree t))) ts

-- marked actions joined: the actions under the operator, and the places one list behind the other
abbrev pub joined_marked : {A O : Type 0} → (O → A → A → A) → O → Marked A → Marked A → Marked A
joined_marked joined o x y = (joined o x.0 y.0, x.1 ++ y.1)

-- a row without its marks
abbrev pub unmarked : {M A : Type 0} → Row M (Marked A) → Row M A
unmarked r = record { matching = r.matching; action = r.action.0 }

-- the places of the atoms that a match lies inside, in order; d stands for an atom past the last
abbrev pub inside_of : {M A : Type 0} → (M → M → Bool) → Row M A → List (Row M A) → M → List ℕ
inside_of inside d xs q = places_where (λ i. inside q (slice_index_or xs i d).matching) (length xs)

module _ {M A O : Type 0} (joined : O → A → A → A) (common : M → M → M) (empty : M → Bool)
    (t : Tree (Node O M A)) where
  -- the compiled rows of the tree
  abbrev pub rows : List (Row M A)
  rows = compile common empty joined t

  -- the same, each with the places of the atoms that it was joined from
  abbrev pub marked_rows : List (Row M (Marked A))
  marked_rows = compile common empty (joined_marked joined) (marked 0 t)

  -- What is told of the rows that stay of the marked tree.
  pub record RowsFrom (inside : M → M → Bool) (dont_care : A) : Type 0 where
    -- without their marks they are those of the tree, as all compiled rows are
    pub same : map unmarked marked_rows ≡ rows
    pub same_stay : map unmarked (staying inside marked_rows) ≡ staying inside rows
    -- the marks of each are the places of the atoms that its match lies inside
    pub marks : (d : Row M (Marked A)) (e : Row M A) (i : ℕ) → i < length (staying inside marked_rows)
        → let r : Row M (Marked A) = slice_index_or (staying inside marked_rows) i d in
        r.action.1 ≡ inside_of inside e (all_atoms (list_tree t)) r.matching
    -- and there is one
    pub some : (d : Row M (Marked A)) (i : ℕ) → i < length (staying inside marked_rows)
        → 0 < length (slice_index_or (staying inside marked_rows) i d).action.1
    -- its action is that of the tree over these atoms alone, with its match in the place of a packet
    pub action : (d : Row M A) (i : ℕ) → i < length (staying inside rows)
        → let r : Row M A = slice_index_or (staying inside rows) i d in
        r.action ≡ eval (λ m q. inside q m) dont_care joined t r.matching
