-- The pass over a table that takes its hidden rows out, for every list of words: its answer, and every word after it.
-- See docs/FORMAT.md, "Hidden rows".
--
--   kept_rows ws, kept_words ws           the rows that stay, and their words
--   kept_of ws                            the answer: how many rows stay, or the check's refusal
--   table_kept ws                         the words after it
--   kept_count                            the row count of an answer; 0 where it has none
use Rattle.std.specs.Prelude.{ℕ, ◌-◌, List, ◌++◌, Result, Ok, Err, length}
use Rattle.words.specs.Words.{zeros}
use Rattle.theory.specs.declared.Row.{Row}
use Rattle.theory.specs.Hidden.{staying}
use Rattle.flow.specs.Match.{inside}
use Rattle.flow.specs.declared.Match.{Match}
use Rattle.action.specs.declared.Action.{Action}
use Rattle.row.specs.Row.{rows_in, words_of}
use Rattle.table.specs.Table.{check_of}
use Rattle.refusal.specs.declared.Refusal.{Refusal}

-- the rows that stay: those that lie inside no earlier row
abbrev pub kept_rows : List ℕ → List (Row Match Action)
kept_rows ws = staying inside (rows_in ws)

-- their words
unfoldable pub kept_words : List ℕ → List ℕ
kept_words ws = words_of (kept_rows ws)

-- the answer, by what the check finds
abbrev pub kept_by : List ℕ → Result ℕ Refusal → Result ℕ Refusal
kept_by ws (Ok n) = Ok (length (kept_rows ws))
kept_by ws (Err f) = Err f

-- THE ANSWER, for every list of words
unfoldable pub kept_of : List ℕ → Result ℕ Refusal
kept_of ws = kept_by ws (check_of ws)

-- the words after it, by what the check finds: the rows that stay and then zeros, or what was there
abbrev pub table_by : List ℕ → Result ℕ Refusal → List ℕ
table_by ws (Ok n) = kept_words ws ++ zeros (length ws - length (kept_words ws))
table_by ws (Err f) = ws

-- THE TABLE after it
unfoldable pub table_kept : List ℕ → List ℕ
table_kept ws = table_by ws (check_of ws)

-- how many rows stay
abbrev pub kept_count : Result ℕ Refusal → ℕ
kept_count (Ok n) = n
kept_count (Err f) = 0
