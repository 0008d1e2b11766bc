-- Tables in words, their common rows and their joins: the theory's definitions at rows of 11 words. An operator is its
-- list of cells. See docs/FORMAT.md, "Rows".
--
--   common_words o r s         the common row of the row r and the row that s holds, none if it is empty
--   common_with_words o r ws   the common rows of the row r and each row of a table
--   common_rows_words o l r    the common rows of two tables
--   join_rows o N N'           two tables joined
--   own_rows o xs              the table of a node's own atoms
--   join_words o l r           two tables joined, in words
--   atom_words x               an atom's table, in words
--   own_words o xs             the table of a node's own atoms, in words
use Rattle.std.specs.Prelude.{ℕ, List, ◌++◌}
use Rattle.theory.specs.Rows.{kept, common_row, common_with, common_rows, join}
use Rattle.theory.specs.declared.Row.{Row}
use Rattle.theory.specs.Tree.{table}
use Rattle.flow.specs.Match.{is_empty, common}
use Rattle.flow.specs.declared.Match.{Match}
use Rattle.action.specs.Operator as operator
use Rattle.action.specs.declared.Action.{Action}
use Rattle.row.specs.Row.{row_of, rows_in, words_of}

-- the common row of a row and the row that some words hold, dropped if empty
unfoldable pub common_words : List ℕ → Row Match Action → List ℕ → List ℕ
common_words o r s = words_of (kept is_empty (common_row common (operator.join o) r (row_of s)))

-- the common rows of a row and each row of a table in order
unfoldable pub common_with_words : List ℕ → Row Match Action → List ℕ → List ℕ
common_with_words o r ws = words_of (common_with common is_empty (operator.join o) r (rows_in ws))

-- the common rows of two tables
unfoldable pub common_rows_words : List ℕ → List ℕ → List ℕ → List ℕ
common_rows_words o left right = words_of (common_rows common is_empty (operator.join o) (rows_in left) (rows_in right))

-- two tables joined
abbrev pub join_rows : List ℕ → List (Row Match Action) → List (Row Match Action) → List (Row Match Action)
join_rows o N N' = join common is_empty (operator.join o) N N'

-- the table of a node's own atoms
abbrev pub own_rows : List ℕ → List (Row Match Action) → List (Row Match Action)
own_rows o xs = table common is_empty operator.join o xs

-- two tables joined: the common rows, then the left table, then the right
unfoldable pub join_words : List ℕ → List ℕ → List ℕ → List ℕ
join_words o left right = common_rows_words o left right ++ (left ++ right)

-- an atom's table: one row, or none if its match is empty
unfoldable pub atom_words : Row Match Action → List ℕ
atom_words x = words_of (kept is_empty x)

-- the table of a node's own atoms, folded from the last
unfoldable pub own_words : List ℕ → List ℕ → List ℕ
own_words o atoms = words_of (own_rows o (rows_in atoms))
