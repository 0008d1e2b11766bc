-- What is proved of words and places. A law of the same name in proofs/ proves each statement: cut-exactly proves
-- CutExactly.
--
--   CutExactly      the words of a text are those that it is made of, and the end
--   TokensWithin    each word lies within the text
--   TokensLie       it is the bytes of the text where it starts
--   OneEnd n ts     some words that are not empty, and the end at n
--   WordsNonempty   the words of a text are such
--   PlaceLies       the line and the column of a byte are those that a person counts
use Rattle.std.specs.Prelude.{ℕ, ◌+◌, ◌<◌, ◌≤◌, ◌≡◌, ◌↔◌, List, [], ◌∷◌, ◌++◌, length, map, take, drop}
use Rattle.logic.specs.Lists.{All}
use Rattle.tokens.specs.Tokens.{Token, tokens_of}
use Rattle.tokens.specs.Cut.{Cut}
use Rattle.tokens.specs.Place.{IsPlace, place_of}

-- a text is made of exactly the words that are found
abbrev pub CutExactly : Type 0
CutExactly = (text : List ℕ) (ws : List (List ℕ)) → Cut text ws ↔ (map (λ t. t.word) (tokens_of text) ≡ ws ++ [] ∷ [])

-- no word goes over the end
abbrev pub TokensWithin : Type 0
TokensWithin = (text : List ℕ) → All (λ t. t.at + length t.word ≤ length text) (tokens_of text)

-- a word is what stands at its place
abbrev pub TokensLie : Type 0
TokensLie = (text : List ℕ) → All (λ t. t.word ≡ take (length t.word) (drop t.at text)) (tokens_of text)

-- all but the last are words that are not empty; the last is the end, at n
abbrev pub OneEnd : ℕ → List Token → Type 0
OneEnd n [] = ⊥
OneEnd n (t ∷ []) = (t.at ≡ n) × (t.word ≡ [])
OneEnd n (t ∷ u ∷ ts) = (0 < length t.word) × OneEnd n (u ∷ ts)

-- the words of a text are not empty, and the end stands behind its last byte
abbrev pub WordsNonempty : Type 0
WordsNonempty = (text : List ℕ) → OneEnd (length text) (tokens_of text)

-- a place of a text is what a person counts
abbrev pub PlaceLies : Type 0
PlaceLies = (text : List ℕ) (at : ℕ) → at ≤ length text → IsPlace text at (place_of text at)
