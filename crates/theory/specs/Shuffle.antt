-- Trees in which the atoms of one node, or its children, stand in another order: their action is the same, and they are
-- compiled to as many rows, which are as many as there are non-empty sets of atoms, told apart by place, that some
-- packet meets all of. See docs/FORMAT.md, "Rows".
--
--   trees                        the trees of a forest, as a list
--   AtomsMoved                   a node whose atoms stand in another order
--   Shuffled, OneShuffled        one step: the atoms of one node, or its children, in another order
--   listed                       a node with its child count
--   ShuffledTo                   a step leads from a tree to one with these nodes, as deep as it
--   Orderless                    an operator is commutative and associative on actions in range
--   StaysInRange                 operators join actions in range to actions in range
--   Sound                        what is asked of a node, so that the order of its atoms and children is free
--   chosen                       the entries of a list at the places of a set
--   non_empty                    a set has a place
--   IsSet, Sets                  a non-empty set of places that has a property; there are so many of these
--   CountLaws                    what is asked of matches and packets, so that rows can be counted
--   SharedBy                     a packet in range meets some atoms all
--   AtomsShuffled                nodes in file order of which one has its atoms in another order are a step away
--   ChildrenShuffled             so are those of which one has its children, whole subtrees, in another order
--   ShuffledEval, ShuffledRows   a step keeps the action, for every packet, and the number of rows
--   RowsCounted                  that number is the number of sets
--   SetsFixed                    there is one number of sets, and no other
use Rattle.std.specs.Prelude.{ℕ, ◌≡◌, Bool, true, false, ◌&&◌, ◌||◌, ◌⊎◌, List, [], ◌∷◌, ◌++◌, ◌↔◌, length, Contains, AllPairs, IsPermutation, flat_map}
use Rattle.logic.specs.Lists.{All}
use Rattle.theory.specs.declared.Row.{Row}
use Rattle.theory.specs.Tree.{Tree, Forest, node, bare, ◌▸◌, depth, Node, EveryNode, GoodNode, eval, compile}
use Rattle.theory.specs.Nodes.{Listed, list_tree, all_atoms}

-- The trees of a forest, as a list.
abbrev pub trees : {X : Type 0} → Forest X → List (Tree X)
trees bare = []
trees (t ▸ ts) = t ∷ trees ts

-- The same operators, and the atoms in another order.
pub record AtomsMoved {O M A : Type 0} (n n' : Node O M A) : Type 0 where
  pub inner : n.inner ≡ n'.inner
  pub parent : n.parent ≡ n'.parent
  pub sibling : n.sibling ≡ n'.sibling
  pub atoms : IsPermutation n.atoms n'.atoms

module _ {O M A : Type 0} where
  abbrev mutual
    -- One step: the root's atoms stand in another order, or its children do, each a whole subtree, or one child is
    -- shuffled.
    pub Shuffled : Tree (Node O M A) → Tree (Node O M A) → Type 0
    Shuffled (node n ts) (node n' ts') =
        (AtomsMoved n n' × (ts ≡ ts')) ⊎ ((n ≡ n') × (IsPermutation (trees ts) (trees ts') ⊎ OneShuffled ts ts'))

    -- One tree of a forest is shuffled.
    pub OneShuffled : Forest (Node O M A) → Forest (Node O M A) → Type 0
    OneShuffled bare ts' = ⊥
    OneShuffled (t ▸ ts) bare = ⊥
    OneShuffled (t ▸ ts) (t' ▸ ts') = (Shuffled t t' × (ts ≡ ts')) ⊎ ((t ≡ t') × OneShuffled ts ts')

-- A node with its child count.
abbrev pub listed : {X : Type 0} → X → ℕ → Listed X
listed x k = record { what = x; child_count = k }

-- A step leads from the tree t to one with the nodes ns in file order, as deep as t.
pub record ShuffledTo {O M A : Type 0} (t : Tree (Node O M A)) (ns : List (Listed (Node O M A))) : Type 0 where
  pub tree : Tree (Node O M A)
  pub lists : list_tree tree ≡ ns
  pub shuffled : Shuffled t tree
  pub deep : depth tree ≡ depth t

-- The operator o is commutative and associative on actions in range.
pub record Orderless {A O : Type 0} (joined : O → A → A → A) (InRange : A → Type 0) (o : O) : Type 0 where
  pub commutes : (a b : A) → InRange a → InRange b → joined o a b ≡ joined o b a
  pub associates : (a b c : A) → InRange a → InRange b → InRange c
      → joined o (joined o a b) c ≡ joined o a (joined o b c)

-- Don't care is in range, and operators of G join actions in range to actions in range.
pub record StaysInRange {A O : Type 0} (dont_care : A) (joined : O → A → A → A) (G : O → Type 0) (InRange : A → Type 0)
    : Type 0 where
  pub none : InRange dont_care
  pub keeps : (o : O) → G o → (a b : A) → InRange a → InRange b → InRange (joined o a b)

-- A node's operators are of G and its atoms' actions in range, and the order of its atoms and of its children is free.
pub record Sound {O M A : Type 0} (joined : O → A → A → A) (G : O → Type 0) (InRange : A → Type 0) (n : Node O M A)
    : Type 0 where
  pub good : GoodNode G (λ r. InRange r.action) n
  pub inner : Orderless joined InRange n.inner
  pub sibling : Orderless joined InRange n.sibling

-- The entries of a list at the places of a set, which has a Bool for each place.
abbrev pub chosen : {X : Type 0} → List Bool → List X → List X
chosen [] xs = []
chosen (b ∷ s) [] = []
chosen (true ∷ s) (x ∷ xs) = x ∷ chosen s xs
chosen (false ∷ s) (x ∷ xs) = chosen s xs

-- A set has a place.
abbrev pub non_empty : List Bool → Bool
non_empty [] = false
non_empty (b ∷ s) = b || non_empty s

-- A non-empty set of n places that has the property T.
pub record IsSet (n : ℕ) (T : List Bool → Type 0) (s : List Bool) : Type 0 where
  pub places : length s ≡ n
  pub some : non_empty s ≡ true
  pub has : T s

-- There are k such sets: they are listed, each of them, nothing else, and none twice.
pub record Sets (n : ℕ) (T : List Bool → Type 0) (k : ℕ) : Type 0 where
  pub sets : List (List Bool)
  pub exactly : (s : List Bool) → Contains sets s ↔ IsSet n T s
  pub once : AllPairs (λ s t. ¬ (s ≡ t)) sets
  pub many : length sets ≡ k

-- A packet meets the common match exactly when it meets both, and an empty match is met by none. Of right matches
-- common ones are right, and one that is not empty is met by some packet in range; top is one that all packets in range
-- meet.
pub record CountLaws {M P : Type 0} (meets : M → P → Bool) (common : M → M → M) (empty : M → Bool) (top : M)
    (IsRight : M → Type 0) (InRange : P → Type 0) : Type 0 where
  pub meets_common : (m n : M) (p : P) → meets (common m n) p ≡ (meets m p && meets n p)
  pub meets_empty : (m : M) (p : P) → empty m ≡ true → meets m p ≡ false
  pub common_right : (m n : M) → IsRight m → IsRight n → IsRight (common m n)
  pub met_in_range : (m : M) → IsRight m → empty m ≡ false → (p : P) × (InRange p × (meets m p ≡ true))
  pub top_right : IsRight top
  pub top_lives : empty top ≡ false
  pub top_met : (p : P) → InRange p → meets top p ≡ true

-- A packet in range that meets all of some atoms.
pub record SharedBy {M P A : Type 0} (meets : M → P → Bool) (InRange : P → Type 0) (xs : List (Row M A)) : Type 0 where
  pub packet : P
  pub in_range : InRange packet
  pub meets_all : All (λ x. meets x.matching packet ≡ true) xs

module _ (O M A : Type 0) where
  -- Of a tree's nodes in file order one has its atoms in another order: they are the nodes of a tree one step away.
  abbrev pub AtomsShuffled : Type 0
  AtomsShuffled = (t : Tree (Node O M A)) (L R : List (Listed (Node O M A))) (n n' : Node O M A) (k : ℕ)
      → list_tree t ≡ L ++ (listed n k ∷ R) → AtomsMoved n n' → ShuffledTo t (L ++ (listed n' k ∷ R))

  -- So they are where the children of one node, the whole subtrees behind it, stand in another order.
  abbrev pub ChildrenShuffled : Type 0
  ChildrenShuffled = (t : Tree (Node O M A)) (L R : List (Listed (Node O M A))) (n : Node O M A)
      (ts us : List (Tree (Node O M A)))
      → list_tree t ≡ L ++ (listed n (length ts) ∷ (flat_map list_tree ts ++ R)) → IsPermutation ts us
      → ShuffledTo t (L ++ (listed n (length us) ∷ (flat_map list_tree us ++ R)))

module _ {M P A O : Type 0} (meets : M → P → Bool) (dont_care : A) (joined : O → A → A → A) where
  -- A step keeps the action, for every packet.
  abbrev pub ShuffledEval : Type 1
  ShuffledEval = (G : O → Type 0) (InRange : A → Type 0) → StaysInRange dont_care joined G InRange
      → (t t' : Tree (Node O M A)) → EveryNode (Sound joined G InRange) t → Shuffled t t'
      → (p : P) → eval meets dont_care joined t p ≡ eval meets dont_care joined t' p

module _ {M P A O : Type 0} (meets : M → P → Bool) (common : M → M → M) (empty : M → Bool) (top : M)
    (joined : O → A → A → A) where
  -- A step keeps the number of rows, where the atoms' matches are right.
  abbrev pub ShuffledRows : Type 1
  ShuffledRows = (IsRight : M → Type 0) (InRange : P → Type 0) → CountLaws meets common empty top IsRight InRange
      → (t t' : Tree (Node O M A)) → All (λ x. IsRight x.matching) (all_atoms (list_tree t)) → Shuffled t t'
      → length (compile common empty joined t) ≡ length (compile common empty joined t')

  -- There is a row for each non-empty set of atoms that some packet in range meets all of.
  abbrev pub RowsCounted : Type 1
  RowsCounted = (IsRight : M → Type 0) (InRange : P → Type 0) → CountLaws meets common empty top IsRight InRange
      → (t : Tree (Node O M A)) → let xs : List (Row M A) = all_atoms (list_tree t) in
      All (λ x. IsRight x.matching) xs
      → Sets (length xs) (λ s. SharedBy meets InRange (chosen s xs)) (length (compile common empty joined t))

-- No other number of sets fits.
abbrev pub SetsFixed : Type 1
SetsFixed = (n : ℕ) (T : List Bool → Type 0) (k k' : ℕ) → Sets n T k → Sets n T k' → k ≡ k'
