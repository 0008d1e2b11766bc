-- Numbers as they are written: decimal digits, no zero before them. See docs/NOTATION.md, "Numbers".
--
--   is_digit, digit_value   a digit's byte, and the digit
--   value_from n w          the number that some digits make behind the number n
--   is_number, number_of    the text of a number below 2 ^ 32, and that number
--   value_below n w         that number, if w is digits and it stays below 2 ^ 32
--   up_to limit n           the number, if it is no more than the limit
use Rattle.std.specs.Prelude.{ℕ, ◌+◌, ◌-◌, ◌*◌, ◌^◌, Bool, true, false, ◌&&◌, not, List, [], ◌∷◌, Option, Some, None, length, if◌then◌else◌, ◌==◌, nat_le, nat_lt}

abbrev pub zero_digit : ℕ
zero_digit = 48

abbrev pub nine_digit : ℕ
nine_digit = 57

-- a decimal digit
abbrev pub is_digit : ℕ → Bool
is_digit b = nat_le zero_digit b && nat_le b nine_digit

abbrev pub all_digits : List ℕ → Bool
all_digits [] = true
all_digits (b ∷ bs) = is_digit b && all_digits bs

-- the number that some digits make behind a number
abbrev pub value_from : ℕ → List ℕ → ℕ
value_from n [] = n
value_from n (b ∷ bs) = value_from (10 * n + (b - zero_digit)) bs

-- no zero before other digits
abbrev pub leads_by_zero : List ℕ → Bool
leads_by_zero [] = false
leads_by_zero (b ∷ []) = false
leads_by_zero (b ∷ c ∷ bs) = b == zero_digit

-- the text of a number below 2 ^ 32
abbrev pub is_number : List ℕ → Bool
is_number w =
    nat_lt 0 (length w) && all_digits w && not (leads_by_zero w) && nat_lt (value_from 0 w) (2 ^ 32)

-- the number of a text
unfoldable pub number_of : List ℕ → Option ℕ
number_of w = if is_number w then Some (value_from 0 w) else None

-- the number that some digits make behind a number, read from left to right as long as it stays below 2 ^ 32
unfoldable pub value_below : ℕ → List ℕ → Option ℕ
value_below n [] = Some n
value_below n (b ∷ bs) =
    if is_digit b
    then (if nat_lt (10 * n + (b - zero_digit)) (2 ^ 32) then value_below (10 * n + (b - zero_digit)) bs else None)
    else None

-- a number, if it is no more than a limit
abbrev pub up_to : ℕ → Option ℕ → Option ℕ
up_to limit None = None
up_to limit (Some n) = if nat_le n limit then Some n else None
