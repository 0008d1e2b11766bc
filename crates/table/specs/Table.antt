-- Tables: rows that stand one behind the other in a list of words, and which tables are right. See docs/FORMAT.md,
-- "Rows" and "Numbers a caller can get back".
--
--   row_count ws      how many rows the words hold
--   past              stands for a row past the last
--   right_length ws   the words are whole rows, and not too many
--   first_wrong right why i rs
--                     of the records from record i on, the first that is not right, or how many records there are
--   check_rows ws     the same of all rows
--   check_of ws       the check's answer
--   row_at ws i       the words of row i
--   RightTable ws     what makes a table right
use Rattle.std.specs.Prelude.{ℕ, suc, ◌*◌, ◌/◌, ◌%◌, ◌≤◌, ◌<◌, ◌≡◌, Bool, true, ◌&&◌, List, [], ◌∷◌, Result, Ok, Err, length, take, drop, if◌then◌else◌, ◌==◌, nat_le}
use Rattle.words.specs.Records.{records}
use Rattle.theory.specs.declared.Row.{Row}
use Rattle.flow.specs.declared.Match.{Match}
use Rattle.action.specs.declared.Action.{Action}
use Rattle.row.specs.Row.{row_length, most_rows, row_of, right_row}
use Rattle.refusal.specs.Refusals.{refusal_at}
use Rattle.refusal.specs.declared.Reason.{Reason}
use Rattle.refusal.specs.declared.Reason.TheVariants.{WrongTable, WrongRow}
use Rattle.refusal.specs.declared.Refusal.{Refusal}

-- how many rows the words hold
abbrev pub row_count : List ℕ → ℕ
row_count ws = length ws / row_length

-- what stands for a row past the last, where a place is asked for that has none
abbrev pub past : Row Match Action
past = row_of []

-- the words are whole rows, and not too many
unfoldable pub right_length : List ℕ → Bool
right_length ws = length ws % row_length == 0 && nat_le (row_count ws) most_rows

-- of the records from record i on, each given by its words, the first that is not right, refused at its place; how many
-- records there are if all are right
abbrev pub first_wrong : (List ℕ → Bool) → Reason → ℕ → List (List ℕ) → Result ℕ Refusal
first_wrong right why i [] = Ok i
first_wrong right why i (r ∷ rs) = if right r then first_wrong right why (suc i) rs else Err (refusal_at why i)

-- the first wrong row, or how many rows there are
unfoldable pub check_rows : List ℕ → Result ℕ Refusal
check_rows ws = first_wrong right_row WrongRow 0 (records (row_count ws) row_length ws)

-- the check: first the length, then each row
unfoldable pub check_of : List ℕ → Result ℕ Refusal
check_of ws = if right_length ws then check_rows ws else Err (refusal_at WrongTable 0)

-- the words of row i
abbrev pub row_at : List ℕ → ℕ → List ℕ
row_at ws i = take row_length (drop (i * row_length) ws)

-- a right table: a multiple of 11 words, not too many rows, and each row right
pub record RightTable (ws : List ℕ) : Type 0 where
  pub whole : length ws % row_length ≡ 0
  pub few : row_count ws ≤ most_rows
  pub rows : (i : ℕ) → i < row_count ws → right_row (row_at ws i) ≡ true
