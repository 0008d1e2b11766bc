-- A shuffle keeps a tree's action: a fold under an operator that knows no order gives the same in another order, as long as all that it joins is in
-- range. Assumes nothing.
use Rattle.std.proofs.Common.{◌≡◌, refl, sym, ap, ap₂, ◌∙◌, Bool, cond, List, [], ◌∷◌, IsPermutation, ⊎_elim}
use Rattle.logic.specs.Lists.{All}
use Rattle.logic.proofs.Permutations.{along_all}
use Rattle.logic.proofs.Tests.{by-test}
use Rattle.theory.specs.declared.Row.{Row}
use Rattle.theory.specs.Tree.{Tree, Forest, node, bare, ◌▸◌, Node, EveryNode, EveryNodes, own, eval, evals}
use Rattle.theory.specs.Shuffle.{trees, Shuffled, OneShuffled, Orderless, StaysInRange, Sound, ShuffledEval}

-- What all nodes of a forest have, all nodes of each of its trees have.
nodes-trees : {X : Type 0} (Q : X → Type 0) (ts : Forest X) → EveryNodes Q ts → All (EveryNode Q) (trees ts)
nodes-trees Q bare s = tt
nodes-trees Q (t ▸ ts) s = (s.0, nodes-trees Q ts s.1)

module _ {M P A O : Type 0} (meets : M → P → Bool) (dont_care : A) (joined : O → A → A → A) (G : O → Type 0) (InRange : A → Type 0)
    (stays : StaysInRange dont_care joined G InRange) where
  abbrev Ranged : List (Row M A) → Type 0
  Ranged xs = All (λ r. InRange r.action) xs

  abbrev SoundTree : Tree (Node O M A) → Type 0
  SoundTree t = EveryNode (Sound joined G InRange) t

  -- Two actions in front of a third may change places.
  turn : (o : O) → Orderless joined InRange o → (a b c : A) → InRange a → InRange b → InRange c → joined o a (joined o b c) ≡ joined o b (joined o a c)
  turn o l a b c p q r = sym (l.associates a b c p q r) ∙ ap (λ x. joined o x c) (l.commutes a b p q) ∙ l.associates b a c q p r

  -- Actions stay in range.
  own-range : (o : O) → G o → (xs : List (Row M A)) (p : P) → Ranged xs → InRange (own meets dont_care joined o xs p)
  own-range o g [] p f = stays.none
  own-range o g (x ∷ xs) p f =
      by-test (meets x.matching p)
      (λ t. rw t (stays.keeps o g x.action (own meets dont_care joined o xs p) f.0 (own-range o g xs p f.1)))
      (λ t. rw t (own-range o g xs p f.1))

  mutual
    eval-range : (t : Tree (Node O M A)) (p : P) → SoundTree t → InRange (eval meets dont_care joined t p)
    eval-range (node n ts) p s =
        stays.keeps n.parent s.0.good.parent (own meets dont_care joined n.inner n.atoms p) (evals meets dont_care joined ts n.sibling p)
        (own-range n.inner s.0.good.inner n.atoms p s.0.good.atoms) (evals-range ts n.sibling s.0.good.sibling p s.1)

    evals-range : (ts : Forest (Node O M A)) (o : O) → G o → (p : P) → EveryNodes (Sound joined G InRange) ts
        → InRange (evals meets dont_care joined ts o p)
    evals-range bare o g p s = stays.none
    evals-range (t ▸ ts) o g p s =
        stays.keeps o g (eval meets dont_care joined t p) (evals meets dont_care joined ts o p) (eval-range t p s.0) (evals-range ts o g p s.1)

  module _ (o : O) (g : G o) (l : Orderless joined InRange o) (p : P) where
    own-turn : (x y : Row M A) (xs : List (Row M A)) → Ranged (x ∷ y ∷ xs)
        → own meets dont_care joined o (x ∷ y ∷ xs) p ≡ own meets dont_care joined o (y ∷ x ∷ xs) p
    own-turn x y xs f =
        by-test (meets x.matching p)
        (λ s. by-test (meets y.matching p)
        (λ t. rw (s, t) (turn o l x.action y.action (own meets dont_care joined o xs p) f.0 f.1.0 (own-range o g xs p f.1.1)))
        (λ t. rw (s, t)))
        (λ s. by-test (meets y.matching p) (λ t. rw (s, t)) (λ t. rw (s, t)))

    -- A node's own action does not change with the order of its atoms.
    own-perm : (xs ys : List (Row M A)) → IsPermutation xs ys → Ranged xs → own meets dont_care joined o xs p ≡ own meets dont_care joined o ys p
    own-perm = along_all (λ r. InRange r.action) (λ xs ys. own meets dont_care joined o xs p ≡ own meets dont_care joined o ys p)
        (λ xs. refl)
        (λ x xs ys f e. ap (λ z. cond (meets x.matching p) (joined o x.action z) z) e)
        own-turn
        (λ xs ys zs d e. d ∙ e)

    -- The children's action, as a fold over their list.
    abbrev folded : List (Tree (Node O M A)) → A
    folded [] = dont_care
    folded (t ∷ ts) = joined o (eval meets dont_care joined t p) (folded ts)

    evals-folded : (ts : Forest (Node O M A)) → evals meets dont_care joined ts o p ≡ folded (trees ts)
    evals-folded bare = refl
    evals-folded (t ▸ ts) = ap (λ z. joined o (eval meets dont_care joined t p) z) (evals-folded ts)

    folded-range : (ts : List (Tree (Node O M A))) → All SoundTree ts → InRange (folded ts)
    folded-range [] s = stays.none
    folded-range (t ∷ ts) s = stays.keeps o g (eval meets dont_care joined t p) (folded ts) (eval-range t p s.0) (folded-range ts s.1)

    folded-perm : (xs ys : List (Tree (Node O M A))) → IsPermutation xs ys → All SoundTree xs → folded xs ≡ folded ys
    folded-perm = along_all SoundTree (λ xs ys. folded xs ≡ folded ys)
        (λ xs. refl)
        (λ x xs ys s e. ap (λ z. joined o (eval meets dont_care joined x p) z) e)
        (λ x y xs s. turn o l (eval meets dont_care joined x p) (eval meets dont_care joined y p) (folded xs)
        (eval-range x p s.0) (eval-range y p s.1.0) (folded-range xs s.1.1))
        (λ xs ys zs d e. d ∙ e)

    -- Nor does that of its children with their order.
    evals-perm : (ts ts' : Forest (Node O M A)) → IsPermutation (trees ts) (trees ts') → EveryNodes (Sound joined G InRange) ts
        → evals meets dont_care joined ts o p ≡ evals meets dont_care joined ts' o p
    evals-perm ts ts' q s =
        evals-folded ts ∙ folded-perm (trees ts) (trees ts') q (nodes-trees (Sound joined G InRange) ts s) ∙ sym (evals-folded ts')

  -- The step itself: by its case, at the root or within one child.
  mutual
    tree-shuffled : (t t' : Tree (Node O M A)) (p : P) → SoundTree t → Shuffled t t' → eval meets dont_care joined t p ≡ eval meets dont_care joined t' p
    tree-shuffled (node n ts) (node n' ts') p s h =
        ⊎_elim
        (λ a.
        let e : own meets dont_care joined n.inner n.atoms p ≡ own meets dont_care joined n.inner n'.atoms p =
        own-perm n.inner s.0.good.inner s.0.inner p n.atoms n'.atoms a.0.atoms s.0.good.atoms in
        rw (e, a.0.inner, a.0.parent, a.0.sibling, a.1))
        (λ b.
        let e : evals meets dont_care joined ts n.sibling p ≡ evals meets dont_care joined ts' n.sibling p =
        ⊎_elim
        (λ q. evals-perm n.sibling s.0.good.sibling s.0.sibling p ts ts' q s.1)
        (λ o. one-shuffled ts ts' n.sibling p s.1 o)
        b.1 in
        ap (λ z. joined n.parent (own meets dont_care joined n.inner n.atoms p) z) e ∙ ap (λ m. eval meets dont_care joined (node m ts') p) b.0)
        h

    one-shuffled : (ts ts' : Forest (Node O M A)) (o : O) (p : P) → EveryNodes (Sound joined G InRange) ts → OneShuffled ts ts'
        → evals meets dont_care joined ts o p ≡ evals meets dont_care joined ts' o p
    one-shuffled bare ts' o p s h = absurd h
    one-shuffled (t ▸ ts) bare o p s h = absurd h
    one-shuffled (t ▸ ts) (t' ▸ ts') o p s h =
        ⊎_elim
        (λ a. ap₂ (λ x y. joined o x y) (tree-shuffled t t' p s.0 a.0) (ap (λ us. evals meets dont_care joined us o p) a.1))
        (λ a. ap₂ (λ x y. joined o x y) (ap (λ u. eval meets dont_care joined u p) a.0) (one-shuffled ts ts' o p s.1 a.1))
        h

module _ {M P A O : Type 0} (meets : M → P → Bool) (dont_care : A) (joined : O → A → A → A) where
  -- A step keeps the action.
  pub shuffled-eval : ShuffledEval meets dont_care joined
  shuffled-eval G InRange stays t t' s h p = tree-shuffled meets dont_care joined G InRange stays t t' p s h
