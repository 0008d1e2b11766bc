-- A table as text: for every list of words, the one text of the rows with their priorities. See docs/FORMAT.md, "The
-- listing".
--
--   listing_room      the rows that a listing has room for
--   lines ps rs       rows, each with its priority
--   numbered t ps l   the text of a table t with its priorities ps, of which there are l
--   table_text t      the text of a table: its rows, or the refusal of the numbering
--   rows_text n t     the text of a table t of n rows that is not refused: the head, and a line for each row
use Rattle.std.specs.Prelude.{ℕ, List, [], ◌∷◌, ◌++◌, Result, Ok, Err}
use Rattle.theory.specs.declared.Row.{Row}
use Rattle.theory.specs.Number.{level_count}
use Rattle.flow.specs.declared.Match.{Match}
use Rattle.action.specs.declared.Action.{Action}
use Rattle.row.specs.Row.{rows_in}
use Rattle.table.specs.Table.{row_count}
use Rattle.priority.specs.Numbering.{levels_of, number_of, priorities_of}
use Rattle.refusal.specs.Refusals.{refusal_number}
use Rattle.refusal.specs.declared.Refusal.{Refusal}
use Rattle.show.specs.Text.{line, head, refusal}

-- the rows that a listing has room for
abbrev pub listing_room : ℕ
listing_room = 1024

-- rows in scan order, each with its priority
abbrev pub lines : List ℕ → List (Row Match Action) → List ℕ
lines [] rs = []
lines (p ∷ ps) [] = []
lines (p ∷ ps) (r ∷ rs) = line p r ++ lines ps rs

-- what is shown of a table with its priorities ps, of which there are l
abbrev pub numbered : List ℕ → List ℕ → ℕ → List ℕ
numbered t ps l = head (row_count t) l ++ lines ps (rows_in t)

-- what is shown of a table, by what the numbering answers
abbrev pub numbered_text : List ℕ → Result ℕ Refusal → List ℕ
numbered_text t (Ok l) = numbered t (priorities_of t) l
numbered_text t (Err f) = refusal (refusal_number f) f.place

-- THE TEXT OF A TABLE
unfoldable pub table_text : List ℕ → List ℕ
table_text t = numbered_text t (number_of t listing_room listing_room)

-- the head, and a line for each row with its priority
abbrev pub rows_text : ℕ → List ℕ → List ℕ
rows_text n t = head n (level_count (levels_of t)) ++ lines (priorities_of t) (rows_in t)
