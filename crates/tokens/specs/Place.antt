-- The line and the column of a byte, both from 1. A column counts bytes.
--
--   newlines, behind_newline   the line ends among some bytes; the bytes behind the last of them
--   place_of text at           the line and the column of the byte at a place
--   IsPlace text at place      the place is what a person counts
use Rattle.std.specs.Prelude.{ℕ, suc, ◌+◌, ◌≡◌, List, [], ◌∷◌, ◌++◌, ◌⊎◌, length, take, if◌then◌else◌, ◌==◌}
use Rattle.tokens.specs.Tokens.{newline}
use Rattle.tokens.specs.Cut.{IsLine}
use Rattle.tokens.specs.declared.place.Place.{Place}

-- how many line ends there are
abbrev pub newlines : List ℕ → ℕ
newlines [] = 0
newlines (b ∷ bs) = if b == newline then suc (newlines bs) else newlines bs

-- how many bytes stand behind the last line end, if n stand before
abbrev pub behind_newline : ℕ → List ℕ → ℕ
behind_newline n [] = n
behind_newline n (b ∷ bs) = if b == newline then behind_newline 0 bs else behind_newline (suc n) bs

-- the line and the column of a byte of a text; one behind its end has the place of the end
abbrev pub place_of : List ℕ → ℕ → Place
place_of text at = record {
  line = suc (newlines (take at text));
  column = suc (behind_newline 0 (take at text));
}

-- before the byte stand whole lines, one for each line end, and then a part of the byte's own line
pub record IsPlace (text : List ℕ) (at : ℕ) (place : Place) : Type 0 where
  pub before : List ℕ
  pub here : List ℕ
  pub parts : take at text ≡ before ++ here
  pub bytes : length before + length here ≡ at
  pub whole : (before ≡ []) ⊎ ((lines : List ℕ) × (before ≡ lines ++ newline ∷ []))
  pub own : IsLine here
  pub line : place.line ≡ suc (newlines before)
  pub column : place.column ≡ suc (length here)
