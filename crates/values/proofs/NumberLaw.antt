-- A number is read exactly where one is written.
use Rattle.std.proofs.Common.{◌≡◌, ℕ, zero, suc, ◌^◌, ◌<◌, Bool, true, false, List, [], ◌∷◌, length, get_or, Some, None, refl, sym, ap, ◌∙◌, arith, rules}
use Rattle.std.specs.Prelude.{◌&&◌, not, if◌then◌else◌, nat_lt}
use Rattle.std.specs.Fmt.{decimal}
use Rattle.std.proofs.lemmas.Bool.{eq-eqb, ne_eqb, lt-ltb, ltb-true}
use Rattle.std.proofs.lemmas.Fmt.{decimal-digits_value, digits_decimal, digits_value-decimal, decimal_nonempty, first_decimal, decimal_digit}
use Rattle.std.proofs.lemmas.Str.Parse.{IsNumeralModel, numerals_by_fold}
use Rattle.values.specs.Numbers.{all_digits, value_from, leads_by_zero, is_number, number_of}
use Rattle.values.specs.Grammar.{NumberExactly}

-- the digits and their value are those of std
pub own : IsNumeralModel (λ w. all_digits w ≡ true) (value_from 0)
own = numerals_by_fold _ (search rules) value_from (search rules)

-- both of two tests
pub both : (a b : Bool) → (a && b) ≡ true → (a ≡ true) × (b ≡ true)
both true b e = (refl, e)
both false b e = absurd cc

-- what is not true
pub not_true : (a : Bool) → not a ≡ true → a ≡ false
not_true true e = absurd cc
not_true false e = refl

-- a choice that gives a value
pub chosen : (a : Bool) (m n : ℕ) → (if a then Some m else None) ≡ Some n → (a ≡ true) × (m ≡ n)
chosen true m n e = (refl, cc)
chosen false m n e = absurd cc

-- one digit alone may be a zero
lone : (w : List ℕ) → 0 < length w → leads_by_zero w ≡ false → get_or w 0 0 ≡ 48 → length w ≡ 1
lone [] long plain e = absurd (omega arith)
lone (b ∷ []) long plain e = refl
lone (b ∷ c ∷ w) long plain e = absurd (let h = sym (eq-eqb b 48 e) ∙ plain in cc)

-- a first byte that is no zero leads by none
no_lead : (w : List ℕ) → 48 < get_or w 0 0 → leads_by_zero w ≡ false
no_lead [] h = refl
no_lead (b ∷ []) h = refl
no_lead (b ∷ c ∷ w) h = ne_eqb b 48 (omega arith)

-- a number has no zero before it
pub decimal-no_lead : (n : ℕ) → n < 2 ^ 32 → leads_by_zero (decimal n) ≡ false
decimal-no_lead zero low = rw (decimal_digit 0 (omega arith)) refl
decimal-no_lead (suc n) low = no_lead (decimal (suc n)) (first_decimal (suc n) (omega arith) (omega arith))

-- the digits of a number
pub decimal-digits : (n : ℕ) → n < 2 ^ 32 → all_digits (decimal n) ≡ true
decimal-digits n low = digits_decimal own n (omega arith)

-- a number has a digit
pub decimal-long : (n : ℕ) → n < 2 ^ 32 → 0 < length (decimal n)
decimal-long n low = decimal_nonempty n (omega arith)

-- what is read is written so
pub number-written : (w : List ℕ) (n : ℕ) → number_of w ≡ Some n → (n < 2 ^ 32) × (w ≡ decimal n)
unfolding number_of
number-written w n e =
    let c = chosen (is_number w) (value_from 0 w) n e in
    let c1 = both (nat_lt 0 (length w) && all_digits w && not (leads_by_zero w)) (nat_lt (value_from 0 w) (2 ^ 32)) c.0 in
    let c2 = both (nat_lt 0 (length w) && all_digits w) (not (leads_by_zero w)) c1.0 in
    let c3 = both (nat_lt 0 (length w)) (all_digits w) c2.0 in
    let low : value_from 0 w < 2 ^ 32 = ltb-true _ _ c1.1 in
    let long : 0 < length w = ltb-true _ _ c3.0 in
    let text = decimal-digits_value own w c3.1 long (lone w long (not_true _ c2.1)) (omega arith) in
    (omega (arith, c.1), sym text ∙ ap decimal c.1)

-- what is written is read
pub number-read : (n : ℕ) → n < 2 ^ 32 → number_of (decimal n) ≡ Some n
unfolding number_of
number-read n low =
    let value : value_from 0 (decimal n) ≡ n = digits_value-decimal own n (omega arith) in
    rw (lt-ltb 0 (length (decimal n)) (decimal-long n low), decimal-digits n low, decimal-no_lead n low, value, lt-ltb n (2 ^ 32) low) refl

-- the law
pub number-exactly : NumberExactly
number-exactly w n = (
  (λ e. let h = number-written w n e in record { below = h.0; text = h.1 }),
  (λ h. ap number_of h.text ∙ number-read n h.below),
)
