-- No other number of sets fits: of two lists without repetition, each within the other, neither is longer. Assumes nothing.
use Rattle.std.proofs.Common.{zero, suc, ◌≤◌, ◌<◌, arith, ◌≡◌, refl, sym, ap, ◌∙◌, ⊎_elim, List, [], ◌∷◌, ◌++◌, length, length-append, Contains, AllPairs}
use Rattle.std.proofs.lemmas.List.Elements.{Contains-append_left, Contains-append_right, Contains-append_cases}
use Rattle.std.proofs.lemmas.Map.Made.{Contains-tail}
use Rattle.theory.specs.Shuffle.{SetsFixed}

module _ {X : Type 0} where
  -- An entry in its place.
  record Split (x : X) (ys : List X) : Type 0 where
    before : List X
    after : List X
    is : ys ≡ before ++ (x ∷ after)

  split : (x : X) (ys : List X) → Contains ys x → Split x ys
  split x [] m = absurd (omega (arith, m.1))
  split x (y ∷ ys) (zero, l, e) = record { before = []; after = ys; is = ap (λ z. z ∷ ys) e }
  split x (y ∷ ys) (suc k, l, e) =
      let s : Split x ys = split x ys (k, omega arith, e) in record { before = y ∷ s.before; after = s.after; is = ap (λ zs. y ∷ zs) s.is }

  -- A list without repetition is no longer than one that it lies within.
  at-most : (xs ys : List X) → AllPairs (λ s t. ¬ (s ≡ t)) xs → ((z : X) → Contains xs z → Contains ys z) → length xs ≤ length ys
  at-most [] ys once within = omega arith
  at-most (x ∷ xs) ys once within =
      let s : Split x ys = split x ys (within x (0, omega arith, refl)) in
      let less : length xs ≤ length (s.before ++ s.after) =
      at-most xs (s.before ++ s.after) (λ i j d lt l. once (suc i) (suc j) d (omega arith) (omega arith)) (λ z m.
      let l : m.0 < length xs = m.1 in
      let apart : x ≡ z → ⊥ = λ e. once 0 (suc m.0) z (omega arith) (omega arith) (e ∙ sym m.2) in
      let later : Contains (x ∷ xs) z = (suc m.0, omega arith, m.2) in
      let whole = rw s.is at within z later in
      ⊎_elim
      (λ n. Contains-append_left s.before s.after z n)
      (λ n. Contains-append_right s.before s.after z (Contains-tail x s.after z apart n))
      (Contains-append_cases s.before (x ∷ s.after) z whole)) in
      omega (arith, less, ap length s.is, length-append s.before (x ∷ s.after), length-append s.before s.after)

-- Two lists of the sets with a property are within each other.
pub sets-fixed : SetsFixed
sets-fixed n T k k' a b =
    let there : length a.sets ≤ length b.sets = at-most a.sets b.sets a.once (λ s m. (b.exactly s).1 ((a.exactly s).0 m)) in
    let back : length b.sets ≤ length a.sets = at-most b.sets a.sets b.once (λ s m. (a.exactly s).1 ((b.exactly s).0 m)) in
    omega (arith, there, back, a.many, b.many)
