-- Words, places, numbers and prefixes as a message shows them, byte by byte in ASCII. See docs/NOTATION.md, "Messages".
--
--   is_plain, hex_digit, shown_byte   a byte that stands for itself; any other one is \x and two digits
--   shown                             the bytes of a word
--   found                             a word that was found, in backquotes, and the end of the text
--   place_text                        a line and a column
use Rattle.std.specs.Prelude.{ℕ, ◌+◌, ◌/◌, ◌%◌, Bool, ◌&&◌, List, [], ◌∷◌, ◌++◌, codes, length, take, if◌then◌else◌, ◌==◌, nat_le, nat_lt}
use Rattle.std.specs.Fmt.{decimal}
use Rattle.tokens.specs.declared.place.Place.{Place}

-- a byte that stands for itself
abbrev pub is_plain : ℕ → Bool
is_plain b = nat_le 33 b && nat_le b 126

-- a digit to the base 16
abbrev pub hex_digit : ℕ → ℕ
hex_digit n = if nat_lt n 10 then 48 + n else 87 + n

-- a byte of a word
abbrev pub shown_byte : ℕ → List ℕ
shown_byte b = if is_plain b then b ∷ [] else 92 ∷ 120 ∷ hex_digit (b / 16) ∷ hex_digit (b % 16) ∷ []

-- the bytes of a word
abbrev pub shown : List ℕ → List ℕ
shown [] = []
shown (b ∷ bs) = shown_byte b ++ shown bs

-- so many bytes of a word are shown
abbrev pub most_shown : ℕ
most_shown = 40

-- what stands behind a word of so many bytes
abbrev pub closing : ℕ → List ℕ
closing n = if nat_le n most_shown then codes "`" else codes "`.."

-- a word in backquotes; of a long one the first bytes, and two dots behind
unfoldable pub quoted : List ℕ → List ℕ
quoted w = codes "`" ++ shown (take most_shown w) ++ closing (length w)

-- a word that was found; no word is there at the end
unfoldable pub found : List ℕ → List ℕ
found w = if length w == 0 then codes "the end of the text" else quoted w

-- a line and a column
unfoldable pub place_text : Place → List ℕ
place_text p = decimal p.line ++ codes ":" ++ decimal p.column
