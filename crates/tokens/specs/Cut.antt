-- How a text is cut into words: the grammar of docs/NOTATION.md, "Words", apart from how it is read.
--
--   Gap, LastGap   blanks and comments between words, and behind the last one
--   IsWord         a mark, or some bytes of words
--   Apart w rest   a word goes as far as it can: bytes of words don't stand behind it
--   Cut text ws    the text is made of the words ws
use Rattle.std.specs.Prelude.{ℕ, ◌<◌, ◌≡◌, true, false, List, [], ◌∷◌, ◌++◌, ◌⊎◌, length, ⊤}
use Rattle.logic.specs.Lists.{All}
use Rattle.tokens.specs.Tokens.{newline, hash, is_blank, is_mark, in_word}

-- bytes that don't end a line
abbrev pub IsLine : List ℕ → Type 0
IsLine c = All (λ b. ¬ (b ≡ newline)) c

-- blanks, and comments that end with their line
pub data Gap : List ℕ → Type 0 where
  none : Gap []
  blank : {b : ℕ} {g : List ℕ} → is_blank b ≡ true → Gap g → Gap (b ∷ g)
  comment : (c : List ℕ) {g : List ℕ} → IsLine c → Gap g → Gap (hash ∷ (c ++ newline ∷ g))

-- the same, behind which a comment may end with the text
pub data LastGap : List ℕ → Type 0 where
  gap : {g : List ℕ} → Gap g → LastGap g
  comment : (c : List ℕ) {g : List ℕ} → Gap g → IsLine c → LastGap (g ++ hash ∷ c)

-- a mark, or bytes of words
abbrev pub IsWord : List ℕ → Type 0
IsWord w = ((b : ℕ) × (is_mark b ≡ true) × (w ≡ b ∷ [])) ⊎ ((0 < length w) × All (λ b. in_word b ≡ true) w)

-- what stands behind a word does not go on with it
abbrev pub Apart : List ℕ → List ℕ → Type 0
Apart (b ∷ w) (c ∷ rest) = (is_mark b ≡ true) ⊎ (in_word c ≡ false)
Apart w rest = ⊤

-- the text is made of the words
pub data Cut : List ℕ → List (List ℕ) → Type 0 where
  end : {g : List ℕ} → LastGap g → Cut g []
  word : {g w rest : List ℕ} {ws : List (List ℕ)} → Gap g → IsWord w → Apart w rest → Cut rest ws
      → Cut (g ++ (w ++ rest)) (w ∷ ws)
