-- The answer of the check, as a tested table or a refusal.
--
--   Checked words ws r   where the words ws are right, r is a table that has these words; else the check's refusal
use Rattle.std.specs.Prelude.{ℕ, ◌≡◌, List, Result, Ok, Err}
use Rattle.refusal.specs.declared.Refusal.{Refusal}
use Rattle.table.specs.Table.{check_of}

-- a tested table has the words that were asked about; else the refusal is the check's
abbrev pub Checked : {T : Type 0} → (T → List ℕ) → List ℕ → Result T Refusal → Type 0
Checked words ws (Ok t) = words t ≡ ws
Checked words ws (Err f) = check_of ws ≡ Err f
