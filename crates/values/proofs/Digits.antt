-- What the loop over digits answers is the number of a word.
use Rattle.std.proofs.Common.{◌≡◌, ℕ, suc, ◌+◌, ◌-◌, ◌*◌, ◌^◌, ◌<◌, ◌≤◌, Bool, true, false, List, [], ◌∷◌, length, Option, Some, None, refl, arith, inl, inr}
use Rattle.std.specs.Prelude.{◌≢◌, ◌&&◌, if◌then◌else◌, nat_lt}
use Rattle.std.proofs.lemmas.Bool.{cases_lt, lt-ltb, le-ltb}
use Rattle.values.specs.Numbers.{is_digit, all_digits, value_from, leads_by_zero, number_of, value_below}

-- more digits make no smaller number
pub value-grows : (n : ℕ) (w : List ℕ) → n ≤ value_from n w
value-grows n [] = omega arith
value-grows n (b ∷ w) = omega (arith, value-grows (10 * n + (b - 48)) w)

-- no answer where a test fails
never : (a : Bool) (x : Option ℕ) → None ≡ (if a && false then x else None)
never true x = refl
never false x = refl

-- digits are read to the end, or the number is too great
pub below-is_whole : (n : ℕ) (w : List ℕ) → n < 2 ^ 32
    → value_below n w ≡ (if all_digits w && nat_lt (value_from n w) (2 ^ 32) then Some (value_from n w) else None)
unfolding value_below
below-is_whole n [] low = rw (lt-ltb n (2 ^ 32) low) refl
below-is_whole n (b ∷ w) low =
    elim (is_digit b) as (λ d. (if d then (if nat_lt (10 * n + (b - 48)) (2 ^ 32) then value_below (10 * n + (b - 48)) w else None) else None)
    ≡ (if (d && all_digits w) && nat_lt (value_from (10 * n + (b - 48)) w) (2 ^ 32) then Some (value_from (10 * n + (b - 48)) w) else None)) [
      | false ↦ refl
      | true ↦ elim (cases_lt (10 * n + (b - 48)) (2 ^ 32)) [
        | inl lt ↦ rw (lt-ltb (10 * n + (b - 48)) (2 ^ 32) lt) (below-is_whole (10 * n + (b - 48)) w lt)
        | inr le ↦ rw (
          le-ltb (10 * n + (b - 48)) (2 ^ 32) le,
          le-ltb (value_from (10 * n + (b - 48)) w) (2 ^ 32) (omega (arith, value-grows (10 * n + (b - 48)) w)),
        )
            (never (all_digits w) (Some (value_from (10 * n + (b - 48)) w)))
      ]
    ]

-- the empty word is no number
pub empty-is_none : (w : List ℕ) → length w ≡ 0 → None ≡ number_of w
unfolding number_of
empty-is_none [] none = refl
empty-is_none (b ∷ w) none = absurd (omega arith)

-- no answer where the second test fails
leads : (a v : Bool) (x : Option ℕ) → None ≡ (if (a && false) && v then x else None)
leads true v x = refl
leads false v x = refl

-- one that leads by a zero is none
pub leading-is_none : (w : List ℕ) → leads_by_zero w ≡ true → None ≡ number_of w
unfolding number_of
leading-is_none w leading = rw leading (leads (nat_lt 0 (length w) && all_digits w) (nat_lt (value_from 0 w) (2 ^ 32)) (Some (value_from 0 w)))

-- a test that holds changes nothing
plainly : (a v : Bool) (x : Option ℕ) → (if a && v then x else None) ≡ (if (a && true) && v then x else None)
plainly true v x = refl
plainly false v x = refl

-- of any other the digits decide
pub plain-is_number : (w : List ℕ) → length w ≢ 0 → leads_by_zero w ≡ false → value_below 0 w ≡ number_of w
unfolding number_of
plain-is_number [] long plain = absurd (long refl)
plain-is_number (b ∷ w) long plain =
    rw (below-is_whole 0 (b ∷ w) (omega arith), plain)
    (rw (lt-ltb 0 (suc (length w)) (omega arith)) (plainly (is_digit b && all_digits w) (nat_lt (value_from 0 (b ∷ w)) (2 ^ 32)) (Some (value_from 0 (b ∷ w)))))
