-- Our numbering has L distinct priorities and no right one has fewer: along the chain every right numbering falls, and a pigeonhole counts both ways.
use Rattle.std.proofs.Common.{ℕ, zero, suc, ◌-◌, ◌≤◌, ◌<◌, arith, ◌≡◌, refl, sym, ap, ◌∙◌, Bool, true, false, cond, List, [], ◌∷◌, get_or, length, eqb}
use Rattle.std.proofs.Common.{eqb-true, eq-eqb, ne_eqb}
use mathlib.Core.Bool.{false≢true}
use lib.ListN.{length-map}
use borrow.Author.Tests.{eqb-false}
use Rattle.logic.proofs.Tests.{by-test, by_le}
use Rattle.theory.specs.Number.{levels, level_count, priorities, chain, Chained, has, distinct}
use Rattle.theory.specs.Theorems.{PrioritiesCount, FewestPriorities}
use Rattle.theory.proofs.Levels.{length-levels, priorities-right, priorities-range}
use Rattle.theory.proofs.Chain.{chain-holds}

-- A list without the first y in it.
abbrev without : ℕ → List ℕ → List ℕ
without y [] = []
without y (x ∷ xs) = cond (eqb y x) xs (x ∷ without y xs)

length_without : (y : ℕ) (xs : List ℕ) → has y xs ≡ true → suc (length (without y xs)) ≡ length xs
length_without y [] h = absurd (false≢true h)
length_without y (x ∷ xs) h =
    by-test (eqb y x) (λ t. rw t) (λ t. rw t (ap suc (length_without y xs (rw t at h))))

has-without : (y z : ℕ) (xs : List ℕ) → (z ≡ y → ⊥) → has z xs ≡ true → has z (without y xs) ≡ true
has-without y z [] ne h = h
has-without y z (x ∷ xs) ne h =
    by-test (eqb y x)
    (λ t.
    let n : eqb z x ≡ false = ne_eqb z x (λ e. ne (e ∙ sym (eqb-true y x t))) in
    rw t (rw n at h))
    (λ t. by-test (eqb z x) (λ u. rw (t, u)) (λ u. rw (t, u) (has-without y z xs ne (rw u at h))))

-- Different numbers, each in a list, are no more than the list is long.
pigeonhole : (n : ℕ) (g : ℕ → ℕ) (xs : List ℕ) → ((j k : ℕ) → j < k → k < n → g j ≡ g k → ⊥) → ((k : ℕ) → k < n → has (g k) xs ≡ true) → n ≤ length xs
pigeonhole zero g xs f h = omega arith
pigeonhole (suc n) g xs f h =
    omega (
      arith,
      length_without (g n) xs (h n (omega arith)),
      pigeonhole n g (without (g n) xs) (λ j k a b. f j k a (omega arith)) (λ k a. has-without (g n) (g k) xs (f k n a (omega arith)) (h k (omega arith))),
    )

pub has-at : (xs : List ℕ) (i : ℕ) → i < length xs → has (get_or xs i 0) xs ≡ true
has-at [] i h = absurd (omega arith)
has-at (x ∷ xs) zero h = rw (eq-eqb x x refl)
has-at (x ∷ xs) (suc i) h = by-test (eqb (get_or xs i 0) x) (λ t. rw t) (λ t. rw t (has-at xs i (omega arith)))

-- What holds at every place of a list holds of every number that it has.
has-each : (T : ℕ → Type 0) (xs : List ℕ) → ((i : ℕ) → i < length xs → T (get_or xs i 0)) → (y : ℕ) → has y xs ≡ true → T y
has-each T [] f y h = absurd (false≢true h)
has-each T (x ∷ xs) f y h =
    by-test (eqb y x)
    (λ t. rw (eqb-true y x t) (f 0 (omega arith)))
    (λ t. has-each T xs (λ i k. f (suc i) (omega arith)) y (rw t at h))

has-distinct : (y : ℕ) (xs : List ℕ) → has y (distinct xs) ≡ has y xs
has-distinct y [] = refl
has-distinct y (x ∷ xs) =
    by-test (has x xs)
    (λ t. by-test (eqb y x)
    (λ u. rw (t, u, has-distinct y xs, eqb-true y x u) t)
    (λ u. rw (t, u) (has-distinct y xs)))
    (λ t. rw (t, has-distinct y xs))

-- The numbers of a list differ from each other.
abbrev Differ : List ℕ → Type 0
Differ xs = (j k : ℕ) → j < k → k < length xs → get_or xs j 0 ≡ get_or xs k 0 → ⊥

differ-more : (x : ℕ) (xs : List ℕ) → has x xs ≡ false → Differ xs → Differ (x ∷ xs)
differ-more x xs t f j zero h b e = absurd (omega arith)
differ-more x xs t f zero (suc k) h b e = false≢true (sym t ∙ rw (← e) at (has-at xs k (omega arith)))
differ-more x xs t f (suc j) (suc k) h b e = f j k (omega arith) (omega arith) e

distinct-differ : (xs : List ℕ) → Differ (distinct xs)
distinct-differ [] = λ j k h b e. absurd (omega arith)
distinct-differ (x ∷ xs) =
    by-test (has x xs)
    (λ t. rw t (distinct-differ xs))
    (λ t. rw t (differ-more x (distinct xs) (has-distinct x xs ∙ t) (distinct-differ xs)))

-- The numbers 1 to l.
abbrev up_to : ℕ → List ℕ
up_to zero = []
up_to (suc l) = suc l ∷ up_to l

length-up_to : (l : ℕ) → length (up_to l) ≡ l
length-up_to zero = refl
length-up_to (suc l) = ap suc (length-up_to l)

has-up_to : (l x : ℕ) → (1 ≤ x) × (x ≤ l) → has x (up_to l) ≡ true
has-up_to zero x h = absurd (omega arith)
has-up_to (suc l) x h =
    by-test (eqb x (suc l))
    (λ t. rw t)
    (λ t. rw t (has-up_to l x (omega (arith, eqb-false x (suc l) t))))

-- What falls from each place to the next falls from each to every later one.
falls : (g : ℕ → ℕ) (n : ℕ) → ((k : ℕ) → suc k < n → g (suc k) < g k) → (j k : ℕ) → j < k → k < n → g k < g j
falls g n f j zero h b = absurd (omega arith)
falls g n f j (suc k) h b =
    by_le k j
    (λ l. let q : j ≡ k = omega arith in rw q (f k b))
    (λ l. omega (arith, falls g n f j k l (omega arith), f k b))

module _ (over : ℕ → ℕ → Bool) (n : ℕ) where
  pub fewest-priorities : FewestPriorities over n
  fewest-priorities qs m right =
      let c : List ℕ = chain over (levels over n) in
      let r : Chained over (levels over n) c = chain-holds over n in
      let within : (k : ℕ) → k < length c → get_or c k 0 < n = λ k h. omega (arith, r.rows k h, length-levels over n) in
      let q : ℕ → ℕ = λ k. get_or qs (get_or c k 0) 0 in
      let fall : (j k : ℕ) → j < k → k < length c → q k < q j =
      falls q (length c) (λ k h. right (get_or c k 0) (get_or c (suc k) 0) (r.in_order k h) (within (suc k) h) (r.overlaps k h)) in
      let enough : length c ≤ length (distinct qs) =
      pigeonhole (length c) q (distinct qs) (λ j k h b e. omega (arith, fall j k h b))
      (λ k h. has-distinct (q k) qs ∙ has-at qs (get_or c k 0) (omega (arith, within k h))) in
      omega (arith, r.many)

  pub priorities-count : PrioritiesCount over n
  priorities-count =
      let ls : List ℕ = levels over n in
      let ps : List ℕ = priorities ls in
      let m : length ps ≡ n = length-map ls (λ l. level_count ls - l) ∙ length-levels over n in
      let range : (y : ℕ) → has y ps ≡ true → (1 ≤ y) × (y ≤ level_count ls) =
      has-each (λ y. (1 ≤ y) × (y ≤ level_count ls)) ps (λ i h. priorities-range over n i (omega arith)) in
      let most : length (distinct ps) ≤ length (up_to (level_count ls)) =
      pigeonhole (length (distinct ps)) (λ k. get_or (distinct ps) k 0) (up_to (level_count ls)) (distinct-differ ps)
      (λ k h. let y : ℕ = get_or (distinct ps) k 0 in
      has-up_to (level_count ls) y (range y (sym (has-distinct y ps) ∙ has-at (distinct ps) k h))) in
      omega (arith, fewest-priorities ps m (priorities-right over n), length-up_to (level_count ls))
