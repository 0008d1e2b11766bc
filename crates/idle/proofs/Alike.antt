-- Trees that are alike but for the atoms' matches, of which each pair is related, have the same action where related matches are met alike: by induction
-- over nodes in file order, and over the tree. Assumes nothing.
use Rattle.std.proofs.Common.{ℕ, zero, suc, ◌≡◌, refl, Bool, List, [], ◌∷◌, ◌++◌, take, drop}
use Rattle.std.specs.Prelude.{⊤}
use Rattle.logic.specs.Lists.{All}
use Rattle.theory.specs.declared.Row.{Row}
use Rattle.theory.specs.Tree.{Tree, Forest, node, bare, ◌▸◌, Node, own, eval, evals}
use Rattle.theory.specs.Nodes.{Listed, take_trees, drop_trees, plant}

module _ {M A : Type 0} (R : Row M A → Row M A → Type 0) where
  -- rows that are related one by one
  abbrev pub AlikeRows : List (Row M A) → List (Row M A) → Type 0
  AlikeRows [] [] = ⊤
  AlikeRows [] (y ∷ ys) = ⊥
  AlikeRows (x ∷ xs) [] = ⊥
  AlikeRows (x ∷ xs) (y ∷ ys) = R x y × AlikeRows xs ys

  pub alike-self : (xs : List (Row M A)) → All (λ x. R x x) xs → AlikeRows xs xs
  alike-self [] h = tt
  alike-self (x ∷ xs) h = (h.0, alike-self xs h.1)

  -- rows behind related rows
  pub alike-append : (xs ys xs' ys' : List (Row M A)) → AlikeRows xs ys → AlikeRows xs' ys' → AlikeRows (xs ++ xs') (ys ++ ys')
  alike-append [] [] xs' ys' h k = k
  alike-append [] (y ∷ ys) xs' ys' h k = absurd h
  alike-append (x ∷ xs) [] xs' ys' h k = absurd h
  alike-append (x ∷ xs) (y ∷ ys) xs' ys' h k = (h.0, alike-append xs ys xs' ys' h.1 k)

  pub alike-take : (n : ℕ) (xs ys : List (Row M A)) → AlikeRows xs ys → AlikeRows (take n xs) (take n ys)
  alike-take zero xs ys h = tt
  alike-take (suc n) [] [] h = tt
  alike-take (suc n) [] (y ∷ ys) h = absurd h
  alike-take (suc n) (x ∷ xs) [] h = absurd h
  alike-take (suc n) (x ∷ xs) (y ∷ ys) h = (h.0, alike-take n xs ys h.1)

  pub alike-drop : (n : ℕ) (xs ys : List (Row M A)) → AlikeRows xs ys → AlikeRows (drop n xs) (drop n ys)
  alike-drop zero xs ys h = h
  alike-drop (suc n) [] [] h = tt
  alike-drop (suc n) [] (y ∷ ys) h = absurd h
  alike-drop (suc n) (x ∷ xs) [] h = absurd h
  alike-drop (suc n) (x ∷ xs) (y ∷ ys) h = alike-drop n xs ys h.1

module _ {O M A : Type 0} (R : Row M A → Row M A → Type 0) where
  -- nodes with the same operators, and related atoms
  pub record AlikeNode (n m : Node O M A) : Type 0 where
    pub inner : n.inner ≡ m.inner
    pub parent : n.parent ≡ m.parent
    pub sibling : n.sibling ≡ m.sibling
    pub atoms : AlikeRows R n.atoms m.atoms

  abbrev mutual
    -- trees of one shape with such nodes
    pub AlikeTree : Tree (Node O M A) → Tree (Node O M A) → Type 0
    AlikeTree (node n ts) (node m us) = AlikeNode n m × AlikeTrees ts us

    pub AlikeTrees : Forest (Node O M A) → Forest (Node O M A) → Type 0
    AlikeTrees bare bare = ⊤
    AlikeTrees bare (u ▸ us) = ⊥
    AlikeTrees (t ▸ ts) bare = ⊥
    AlikeTrees (t ▸ ts) (u ▸ us) = AlikeTree t u × AlikeTrees ts us

  -- nodes in file order, with the same child counts
  abbrev pub AlikeListed : List (Listed (Node O M A)) → List (Listed (Node O M A)) → Type 0
  AlikeListed [] [] = ⊤
  AlikeListed [] (m ∷ ms) = ⊥
  AlikeListed (n ∷ ns) [] = ⊥
  AlikeListed (n ∷ ns) (m ∷ ms) = AlikeNode n.what m.what × (n.child_count ≡ m.child_count) × AlikeListed ns ms

  alike-first : (k : ℕ) (ts us : Forest (Node O M A)) → AlikeTrees ts us → AlikeTrees (take_trees k ts) (take_trees k us)
  alike-first zero ts us h = tt
  alike-first (suc k) bare bare h = tt
  alike-first (suc k) bare (u ▸ us) h = absurd h
  alike-first (suc k) (t ▸ ts) bare h = absurd h
  alike-first (suc k) (t ▸ ts) (u ▸ us) h = (h.0, alike-first k ts us h.1)

  alike-others : (k : ℕ) (ts us : Forest (Node O M A)) → AlikeTrees ts us → AlikeTrees (drop_trees k ts) (drop_trees k us)
  alike-others zero ts us h = h
  alike-others (suc k) bare bare h = tt
  alike-others (suc k) bare (u ▸ us) h = absurd h
  alike-others (suc k) (t ▸ ts) bare h = absurd h
  alike-others (suc k) (t ▸ ts) (u ▸ us) h = alike-others k ts us h.1

  -- they are planted to trees that are alike
  pub alike-plant : (ns ms : List (Listed (Node O M A))) → AlikeListed ns ms → AlikeTrees (plant ns) (plant ms)
  alike-plant [] [] h = tt
  alike-plant [] (m ∷ ms) h = absurd h
  alike-plant (n ∷ ns) [] h = absurd h
  alike-plant (n ∷ ns) (m ∷ ms) h =
      let rest : AlikeTrees (plant ns) (plant ms) = alike-plant ns ms h.2 in
      rw (← h.1) ((h.0, alike-first n.child_count (plant ns) (plant ms) rest), alike-others n.child_count (plant ns) (plant ms) rest)

module _ {O M A P Q : Type 0} (R : Row M A → Row M A → Type 0) (meets : M → P → Bool) (holds : M → Q → Bool) (dont_care : A) (joined : O → A → A → A)
    (p : P) (q : Q) (acts : (x y : Row M A) → R x y → x.action ≡ y.action) (tests : (x y : Row M A) → R x y → meets x.matching p ≡ holds y.matching q) where
  own-alike : (i : O) (xs ys : List (Row M A)) → AlikeRows R xs ys → own meets dont_care joined i xs p ≡ own holds dont_care joined i ys q
  own-alike i [] [] h = refl
  own-alike i [] (y ∷ ys) h = absurd h
  own-alike i (x ∷ xs) [] h = absurd h
  own-alike i (x ∷ xs) (y ∷ ys) h =
      rw (acts x y h.0, tests x y h.0, own-alike i xs ys h.1) refl

  -- TREES THAT ARE ALIKE HAVE THE SAME ACTION
  mutual
    pub eval-alike : (t u : Tree (Node O M A)) → AlikeTree R t u → eval meets dont_care joined t p ≡ eval holds dont_care joined u q
    eval-alike (node n ts) (node m us) h =
        rw (h.0.inner, h.0.parent, h.0.sibling, own-alike m.inner n.atoms m.atoms h.0.atoms, evals-alike ts us m.sibling h.1) refl

    evals-alike : (ts us : Forest (Node O M A)) (s : O) → AlikeTrees R ts us → evals meets dont_care joined ts s p ≡ evals holds dont_care joined us s q
    evals-alike bare bare s h = refl
    evals-alike bare (u ▸ us) s h = absurd h
    evals-alike (t ▸ ts) bare s h = absurd h
    evals-alike (t ▸ ts) (u ▸ us) s h = rw (eval-alike t u h.0, evals-alike ts us s h.1) refl
