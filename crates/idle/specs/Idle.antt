-- Which atoms of a policy file decide nothing in any row of a table: without one of them each row's action is the same.
--
--   without f l j         the file f with atom j's match the one that no packet meets
--   decides_by t m r      the row r lies inside the match m, and the tree t has another action there
--   decides_in f l j r    the row r lies inside atom j, and without atom j its action is another
--   decides f l rows j    some row does so
--   idle_of f l rows      the places of the atoms that decide in no row
--   IsIdle items f ws r   these places are answered, or the file's refusal, or memory ran out
use Rattle.std.specs.Prelude.{ℕ, ◌+◌, ◌*◌, ◌≡◌, Bool, not, ◌&&◌, List, Result, Ok, Err, slice_index_or}
use Rattle.std.specs.List.{list_any}
use Rattle.words.specs.Words.{laid}
use Rattle.theory.specs.declared.Row.{Row}
use Rattle.theory.specs.Hidden.{places_where}
use Rattle.flow.specs.Match.{match_words, none, inside}
use Rattle.flow.specs.declared.Match.{Match}
use Rattle.action.specs.Laws.{same}
use Rattle.action.specs.declared.Action.{Action}
use Rattle.row.specs.Row.{row_length, rows_in}
use Rattle.policy.specs.Read.{first_atom, read_of}
use Rattle.policy.specs.File.{PolicyTree, atoms_of, tree_of}
use Rattle.policy.specs.declared.Layout.{Layout}
use Rattle.table.specs.Table.{past}
use Rattle.origins.specs.Origins.{action_inside}
use Rattle.idle.specs.declared.IdleError.{IdleError}
use Rattle.idle.specs.declared.IdleError.TheVariants.{Memory, Refused}

-- the file with atom j's nine match words those of the match that no packet meets
unfoldable pub without : List ℕ → Layout → ℕ → List ℕ
without f l j = laid (first_atom l.operators + row_length * j) (match_words none) f

-- the row's match lies inside a match, and a tree has another action than the row, over the atoms that the row's match
-- lies inside
abbrev pub decides_by : PolicyTree → Match → Row Match Action → Bool
decides_by t m r = inside r.matching m && not (same (action_inside t r.matching) r.action)

-- the row's match lies inside atom j's, and the tree without atom j has another action than the row
unfoldable pub decides_in : List ℕ → Layout → ℕ → Row Match Action → Bool
decides_in f l j r = decides_by (tree_of (without f l j) l) (slice_index_or (atoms_of f l) j past).matching r

-- atom j decides in some row
abbrev pub decides : List ℕ → Layout → List (Row Match Action) → ℕ → Bool
decides f l rows j = list_any (λ r. decides_in f l j r) rows

-- THE IDLE ATOMS: the places of those that decide in no row
abbrev pub idle_of : List ℕ → Layout → List (Row Match Action) → List ℕ
idle_of f l rows = places_where (λ j. not (decides f l rows j)) l.atoms

-- what is answered of a file and the words of rows, where `items` are the places that an answer has
abbrev pub IsIdle : {V : Type 0} → (V → List ℕ) → List ℕ → List ℕ → Result V IdleError → Type 0
IsIdle items f ws (Ok places) = (l : Layout) × (read_of f ≡ Ok l) × (items places ≡ idle_of f l (rows_in ws))
IsIdle items f ws (Err Memory) = Unit {0}
IsIdle items f ws (Err (Refused r)) = read_of f ≡ Err r
