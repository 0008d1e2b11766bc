-- The prefix test by bit counts, sentence by sentence as it was asked for. It is said of `in_prefix`, which the
-- contract of field's `Prefix::contains` cites for addresses of 32 bits, over addresses of every width. How a function
-- works is its body, and no contract fixes that: what is said here is that the count gives the first bit, and what this
-- bit tells.
--
--   FirstDifference w p x k   p and x differ first in bit k, counted from the top, from 0, or k is w and they differ in
--                             none
--   ByFirstDifference         what that bit tells, and how it is found
--   SamePromise               what the test promises
--   prefix_cases              worked cases: prefixes and addresses, and what they give
use Rattle.std.specs.Prelude.{ℕ, suc, ◌^◌, ◌≤◌, ◌<◌, ◌≡◌, true, false, List, [], ◌∷◌, ◌↔◌, min}
use Rattle.std.specs.Int.Bits.{bit_xor}
use Rattle.std.specs.Int.Count.{count_leading_zeros}
use Rattle.field.specs.Prefix.{address_bits, leading, in_prefix}
use Rattle.field.specs.Theorems.{InBoth, MeetExactly, CoversExactly}
use Rattle.promises.specs.Cases.{Case, k, Hold, dotted}

-- the first k bits of p and x are the same, and the next is not, if there is one
pub record FirstDifference (w p x k : ℕ) : Type 0 where
  pub within : k ≤ w
  pub before : leading w k p ≡ leading w k x
  pub next : k < w → ¬ (leading w (suc k) p ≡ leading w (suc k) x)

pub record ByFirstDifference : Type 0 where
  -- "Have the test work from the first bit in which two addresses differ,": an address lies in a prefix exactly where
  -- that bit stands behind the bits that the length asks for
  pub tells : (w p n x k : ℕ) → FirstDifference w p x k → (in_prefix w p n x ≡ true) ↔ (min n w ≤ k)
  -- "by the language's own bit counts,": as many bits stand before it as the xor of the two has leading zeros. Of the
  -- words "with no list of masks" nothing can be said here
  pub counted : (w p x : ℕ) → p < 2 ^ w → x < 2 ^ w → FirstDifference w p x (count_leading_zeros w (bit_xor p x))

-- "Nothing it promises changes."
pub record SamePromise : Type 0 where
  -- the two agree in their first n bits
  pub holds : (w p n x : ℕ) → (in_prefix w p n x ≡ true) ↔ (leading w n p ≡ leading w n x)
  -- length 0 holds every address, length w its own alone, and a length beyond w what length w holds
  pub star : (w p x : ℕ) → p < 2 ^ w → x < 2 ^ w → in_prefix w p 0 x ≡ true
  pub constant : (w p x : ℕ) → (in_prefix w p w x ≡ true) ↔ (p ≡ x)
  pub beyond : (w p n x : ℕ) → w ≤ n → in_prefix w p n x ≡ in_prefix w p w x
  -- and what is asked of two prefixes by it: both together, whether they meet, whether one covers the other
  pub both : InBoth
  pub meet : MeetExactly
  pub cover : CoversExactly

-- cases, numbered by their lengths: x lies in p, n
abbrev pub held : ℕ → ℕ → ℕ → Case
held p n x = k n (in_prefix address_bits p n x) true

-- and x does not
abbrev pub outside : ℕ → ℕ → ℕ → Case
outside p n x = k n (in_prefix address_bits p n x) false

abbrev pub prefix_cases : List Case
prefix_cases =
    held (dotted 10 7 0 0) 16 (dotted 10 7 3 9)
    ∷ held (dotted 10 7 0 0) 16 (dotted 10 7 128 0)
    ∷ outside (dotted 10 7 0 0) 16 (dotted 10 6 0 0)
    ∷ outside (dotted 10 7 0 0) 16 (dotted 138 7 0 0)
    ∷ held (dotted 10 7 0 0) 15 (dotted 10 6 0 0)
    ∷ held 0 0 (dotted 255 255 255 255)
    ∷ held (dotted 128 0 0 0) 1 (dotted 255 255 255 255)
    ∷ outside 0 1 (dotted 255 255 255 255)
    ∷ held (dotted 10 7 3 9) 31 (dotted 10 7 3 8)
    ∷ outside (dotted 10 7 3 9) 32 (dotted 10 7 3 8)
    ∷ held (dotted 10 7 3 9) 32 (dotted 10 7 3 9)
    ∷ held (dotted 10 7 3 9) 33 (dotted 10 7 3 9)
    ∷ outside (dotted 10 7 3 9) 33 (dotted 10 7 3 8)
    ∷ held (dotted 10 7 3 9) 4294967295 (dotted 10 7 3 9)
    ∷ []

-- EVERY SENTENCE
pub record PrefixTest : Type 0 where
  pub first : ByFirstDifference
  pub same : SamePromise
  pub cases : Hold prefix_cases
