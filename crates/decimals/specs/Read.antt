-- What a text of words says: the numbers of its words, in order. A word is a decimal number below 2 ^ 32 with no zero
-- before it; `tokens` says what words are.
--
--   behind, numbers_of   a number before others, and the numbers of words: all of them, or the place of the first word
--                        that is none
--   read_of text         the numbers of a text
--   Reads view result    what a function gives is what is read, unless memory ran out
--   begins_with_digit    the first word of a text begins with a digit
use Rattle.std.specs.Prelude.{ℕ, ◌≡◌, Bool, false, List, [], ◌∷◌, Option, Some, None, Result, Ok, Err, if◌then◌else◌, bytes_eq}
use Rattle.tokens.specs.Tokens.{Token, tokens_of, word}
use Rattle.values.specs.Numbers.{is_digit, number_of}
use Rattle.decimals.specs.declared.numbers.ReadError.{ReadError}
use Rattle.decimals.specs.declared.numbers.ReadError.TheVariants as errors

-- a number before others, if there is one; its word stands at a place
abbrev pub behind : Option ℕ → ℕ → Result (List ℕ) ℕ → Result (List ℕ) ℕ
behind None place read = Err place
behind (Some n) place (Err other) = Err other
behind (Some n) place (Ok ns) = Ok (n ∷ ns)

-- the numbers of words up to the end
abbrev pub numbers_of : List Token → Result (List ℕ) ℕ
numbers_of [] = Ok []
numbers_of (t ∷ ts) = if bytes_eq t.word [] then Ok [] else behind (number_of t.word) t.at (numbers_of ts)

-- the numbers of a text, or the place of its first word that is none
unfoldable pub read_of : List ℕ → Result (List ℕ) ℕ
read_of text = numbers_of (tokens_of text)

-- what was given, seen by view, is what is read, unless memory ran out
abbrev pub Reads : {X : Type 0} → (X → List ℕ) → Result X ReadError → Result (List ℕ) ℕ → Type 0
Reads view (Ok numbers) read = read ≡ Ok (view numbers)
Reads view (Err errors.Memory) read = Unit {0}
Reads view (Err (errors.Fault place)) read = read ≡ Err place

-- a word begins with a digit
abbrev pub begins_digit : List ℕ → Bool
begins_digit [] = false
begins_digit (b ∷ w) = is_digit b

-- the first word of a text does
abbrev pub begins_with_digit : List ℕ → Bool
begins_with_digit text = begins_digit (word (tokens_of text))
