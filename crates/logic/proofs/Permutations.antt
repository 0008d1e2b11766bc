-- Laws of lists that are permutations of one another: a relation holds along each permutation if it goes under a head, over an exchange of the first
-- two, and from step to step. Assumes nothing.
use Rattle.std.proofs.Common.{ℕ, zero, suc, ◌<◌, arith, List, [], ◌∷◌, length, get_or, set, swap, flat_map, append_assoc, IsPermutation}
use Rattle.std.proofs.lemmas.List.Sorted.{IsPermutation-refl, IsPermutation-keeps, IsPermutation-trans, IsPermutation-append_left, IsPermutation-append_right, IsPermutation-append_comm}
use Rattle.logic.specs.Lists.{All}

module _ {X : Type 0} (R : List X → List X → Type 0) (same : (xs : List X) → R xs xs)
    (skip : (x : X) (xs ys : List X) → R xs ys → R (x ∷ xs) (x ∷ ys))
    (turn : (x y : X) (xs : List X) → R (x ∷ y ∷ xs) (y ∷ x ∷ xs))
    (chain : (xs ys zs : List X) → R xs ys → R ys zs → R xs zs) where
  -- The head changes places with another element.
  along_head : (xs : List X) (j : ℕ) (x d : X) → j < length xs → R (x ∷ xs) (get_or xs j d ∷ set xs j x)
  along_head [] j x d h = absurd (omega arith)
  along_head (y ∷ xs) zero x d h = turn x y xs
  along_head (y ∷ xs) (suc j) x d h =
      chain _ _ _ (turn x y xs) (chain _ _ _ (skip y _ _ (along_head xs j x d (omega arith))) (turn y (get_or xs j d) (set xs j x)))

  along_exchange : (xs : List X) (i j : ℕ) (d : X) → i < length xs → j < length xs → R xs (set (set xs i (get_or xs j d)) j (get_or xs i d))
  along_exchange [] i j d g h = absurd (omega arith)
  along_exchange (x ∷ xs) zero zero d g h = same (x ∷ xs)
  along_exchange (x ∷ xs) zero (suc j) d g h = along_head xs j x d (omega arith)
  along_exchange (x ∷ xs) (suc i) zero d g h = along_head xs i x d (omega arith)
  along_exchange (x ∷ xs) (suc i) (suc j) d g h = skip x _ _ (along_exchange xs i j d (omega arith) (omega arith))

  along_swap : (xs : List X) (i j : ℕ) → i < length xs → j < length xs → R xs (swap xs i j)
  along_swap [] i j g h = same []
  along_swap (x ∷ xs) i j g h = along_exchange (x ∷ xs) i j x g h

  -- So it holds of a list and any permutation of it.
  pub along_permutation : (xs ys : List X) → IsPermutation xs ys → R xs ys
  along_permutation xs = IsPermutation-keeps xs (R xs) (same xs) (λ ys i j g h r. chain xs ys _ r (along_swap ys i j g h))

module _ {X : Type 0} (T : X → Type 0) where
  -- What all have, they have in another order.
  pub all-perm : (xs ys : List X) → IsPermutation xs ys → All T xs → All T ys
  all-perm = along_permutation (λ xs ys. All T xs → All T ys)
      (λ xs f. f)
      (λ x xs ys g f. (f.0, g f.1))
      (λ x y xs f. (f.1.0, (f.0, f.1.1)))
      (λ xs ys zs g h f. h (g f))

  -- The same as along_permutation, where all elements have T.
  pub along_all : (R : List X → List X → Type 0) → ((xs : List X) → R xs xs) → ((x : X) (xs ys : List X) → T x → R xs ys → R (x ∷ xs) (x ∷ ys))
      → ((x y : X) (xs : List X) → All T (x ∷ y ∷ xs) → R (x ∷ y ∷ xs) (y ∷ x ∷ xs)) → ((xs ys zs : List X) → R xs ys → R ys zs → R xs zs)
      → (xs ys : List X) → IsPermutation xs ys → All T xs → R xs ys
  along_all R same skip turn chain xs ys p f = (both xs ys p f).0
    where
      both : (xs ys : List X) → IsPermutation xs ys → All T xs → R xs ys × All T ys
      both = along_permutation (λ xs ys. All T xs → R xs ys × All T ys)
          (λ xs f. (same xs, f))
          (λ x xs ys g f. let h = g f.1 in (skip x xs ys f.0 h.0, (f.0, h.1)))
          (λ x y xs f. (turn x y xs f, (f.1.0, (f.0, f.1.1))))
          (λ xs ys zs g h f. let k = g f in let l = h k.1 in (chain xs ys zs k.0 l.0, l.1))

-- The lists of permuted elements, one behind the other.
pub IsPermutation-flat_map : {X Y : Type 0} (f : X → List Y) (xs ys : List X) → IsPermutation xs ys → IsPermutation (flat_map f xs) (flat_map f ys)
IsPermutation-flat_map f = along_permutation (λ xs ys. IsPermutation (flat_map f xs) (flat_map f ys))
    (λ xs. IsPermutation-refl (flat_map f xs))
    (λ x xs ys p. IsPermutation-append_right (f x) _ _ p)
    (λ x y xs. rw (← append_assoc (f x), ← append_assoc (f y)) (IsPermutation-append_left (flat_map f xs) _ _ (IsPermutation-append_comm (f x) (f y))))
    (λ xs ys zs. IsPermutation-trans _ _ _)
