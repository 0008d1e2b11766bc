-- What is proved of the pass. A law of the same name in proofs/ proves each statement: kept-rows proves KeptRows.
--
--   KeptTells ws n      what an answer of n rows tells of the words after it
--   KeptRows            every answer of rows tells that
--   RightKept           a right table is answered so
--   RefusedExactly      it is refused exactly where the check refuses, with its number and place
--   RefusedStays        then every word stays
--   SameAction          the scan of the rows that stay has the action of the scan before, for every packet
use Rattle.std.specs.Prelude.{ℕ, ◌-◌, ◌≤◌, ◌≡◌, List, ◌++◌, Ok, Err, ◌↔◌, length}
use Rattle.words.specs.Words.{zeros}
use Rattle.row.specs.Row.{rows_in, words_of, table_rows}
use Rattle.table.specs.Table.{row_count, check_of, RightTable}
use Rattle.refusal.specs.Refusals.{answer_number}
use Rattle.refusal.specs.declared.Refusal.{Refusal}
use Rattle.table.specs.Scan.{scan_of, scan_action}
use Rattle.hidden.specs.Hidden.{kept_rows, kept_of, table_kept}

-- n rows stay of a right table: their words stand at its front with zeros behind them, and they are a right table
pub record KeptTells (ws : List ℕ) (n : ℕ) : Type 0 where
  pub right : RightTable ws
  pub count : n ≡ length (kept_rows ws)
  pub fewer : n ≤ row_count ws
  pub rows : rows_in (table_rows n (table_kept ws)) ≡ kept_rows ws
  pub check : check_of (table_rows n (table_kept ws)) ≡ Ok n
  pub words : table_kept ws ≡ words_of (kept_rows ws) ++ zeros (length ws - length (words_of (kept_rows ws)))

-- every answer of rows tells that
abbrev pub KeptRows : Type 0
KeptRows = (ws : List ℕ) (n : ℕ) → kept_of ws ≡ Ok n → KeptTells ws n

-- a right table is answered by how many rows stay
abbrev pub RightKept : Type 0
RightKept = (ws : List ℕ) → RightTable ws → kept_of ws ≡ Ok (length (kept_rows ws))

-- a table that is not right is refused as the check has it, and no other
abbrev pub RefusedExactly : Type 0
RefusedExactly = (ws : List ℕ) (f : Refusal) → (kept_of ws ≡ Err f) ↔ (check_of ws ≡ Err f)

-- and stays
abbrev pub RefusedStays : Type 0
RefusedStays = (ws : List ℕ) (f : Refusal) → kept_of ws ≡ Err f → table_kept ws ≡ ws

-- the rows that stay have the same action for every packet; words that are no packet are refused alike
abbrev pub SameAction : Type 0
SameAction = (ws packet : List ℕ) (n : ℕ) → kept_of ws ≡ Ok n
    → let t : List ℕ = table_rows n (table_kept ws) in
    (answer_number (scan_of t packet) ≡ answer_number (scan_of ws packet))
    × (scan_action (scan_of t packet) ≡ scan_action (scan_of ws packet))
