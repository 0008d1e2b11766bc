-- What is proved of numbers as text. The law decimal-reads in proofs/ proves DecimalReads.
--
--   reads ds       the number that some digits are, the most significant first
--   Decimal n ds   ds are digits that read as n, and no zero stands before another digit
--   DecimalReads   a number of at most 64 digits is written so that it reads back
use Rattle.std.specs.Prelude.{ℕ, ◌+◌, ◌-◌, ◌*◌, ◌^◌, ◌≤◌, ◌<◌, ◌≡◌, List, [], ◌∷◌, length, decimal, slice_index}
use Prim.Native.Char.{code}

-- digits read from the first on, behind a number that was read before them
abbrev pub reads_on : ℕ → List ℕ → ℕ
reads_on n [] = n
reads_on n (d ∷ ds) = reads_on (n * 10 + (d - code "0")) ds

-- the number that some digits are
abbrev pub reads : List ℕ → ℕ
reads ds = reads_on 0 ds

-- digits of a number, without a needless zero
pub record Decimal (n : ℕ) (ds : List ℕ) : Type 0 where
  pub same : reads ds ≡ n
  pub every : (i : ℕ) → i < length ds → (code "0" ≤ slice_index ds i) × (slice_index ds i ≤ code "9")
  pub first : 1 < length ds → code "0" < slice_index ds 0
  pub some : 0 < length ds

-- EVERY NUMBER OF AT MOST 64 DIGITS READS BACK
abbrev pub DecimalReads : Type 0
DecimalReads = (n : ℕ) → n < 10 ^ 64 → Decimal n (decimal n)
