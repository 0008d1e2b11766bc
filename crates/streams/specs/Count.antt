-- Counting bytes.
--
--   low number                  the low 32 bits of a number
--   Counts before bytes after   a count after is a count before and the bytes, of which it keeps the low 32 bits
use Rattle.std.specs.Prelude.{ℕ, ◌+◌, ◌%◌, ◌^◌, ◌≡◌, List, length}

-- the low 32 bits of a number
abbrev pub low : ℕ → ℕ
low number = number % 2 ^ 32

-- a count of which the low 32 bits are kept
abbrev pub Counts : ℕ → List ℕ → ℕ → Type 0
Counts before bytes after = low after ≡ low (before + length bytes)
