-- Where the rows of an accepted file come from, of the rows that stay once the hidden ones are out. See docs/FORMAT.md,
-- "Where a row comes from".
--
--   staying_rows f l     the rows that stay of a file; staying_row f l i is row i of these
--   marked_staying f l   those of its tree with each atom marked with its place, and marks joined as the actions are:
--                        each row with the places of the atoms that it was joined from; marked_row f l i is row i
--   marked_past          stands for such a row past the last
--   met_atoms N p        the places of the atoms that a packet meets
--   ComesFrom f l i      where row i of those that stay comes from
--   OriginsShown         all that is shown
use Rattle.std.specs.Prelude.{ℕ, ◌<◌, ◌≡◌, false, List, [], map, length, Ok, slice_index_or}
use Rattle.theory.specs.declared.Row.{Row}
use Rattle.theory.specs.Rows.{matches_at}
use Rattle.theory.specs.Number.{FirstPlace}
use Rattle.theory.specs.Hidden.{staying, places_where}
use Rattle.flow.specs.Match.{is_empty, common, meets, inside}
use Rattle.flow.specs.declared.Match.{Match}
use Rattle.flow.specs.declared.Packet.{Packet}
use Rattle.action.specs.Operator.{join}
use Rattle.action.specs.declared.Action.{Action}
use Rattle.row.specs.Row.{rows_in, table_rows}
use Rattle.policy.specs.Read.{read_of}
use Rattle.policy.specs.File.{atoms_of, tree_of}
use Rattle.policy.specs.declared.Layout.{Layout}
use Rattle.table.specs.Table.{past}
use Rattle.compile.specs.Compile.{compiled_rows, answer_of, table_after}
use Rattle.hidden.specs.Hidden.{kept_of, table_kept}
use Rattle.origins.specs.Origins.{origins_of, action_inside}
use Rattle.origins.specs.Marked.{Marked, marked_rows, unmarked}

-- the rows that stay of an accepted file
abbrev pub staying_rows : List ℕ → Layout → List (Row Match Action)
staying_rows f l = staying inside (compiled_rows f l)

-- row i of these
abbrev pub staying_row : List ℕ → Layout → ℕ → Row Match Action
staying_row f l i = slice_index_or (staying_rows f l) i past

-- the rows that stay of the file's tree with its atoms marked
abbrev pub marked_staying : List ℕ → Layout → List (Row Match (Marked Action))
marked_staying f l = staying inside (marked_rows join common is_empty (tree_of f l))

-- what stands for a marked row past the last
abbrev pub marked_past : Row Match (Marked Action)
marked_past = record { matching = past.matching; action = (past.action, []) }

-- row i of these
abbrev pub marked_row : List ℕ → Layout → ℕ → Row Match (Marked Action)
marked_row f l i = slice_index_or (marked_staying f l) i marked_past

-- the places of the atoms that a packet meets, in order
abbrev pub met_atoms : List (Row Match Action) → Packet → List ℕ
met_atoms N p = places_where (matches_at meets past N p) (length N)

-- where row i of those that stay comes from
pub record ComesFrom (f : List ℕ) (l : Layout) (i : ℕ) : Type 0 where
  -- row i of those with marks has its match and its action
  pub row : unmarked (marked_row f l i) ≡ staying_row f l i
  -- the atoms that it was joined from are exactly those that its match lies inside
  pub marks : (marked_row f l i).action.1 ≡ origins_of (atoms_of f l) (staying_row f l i).matching
  -- there is one
  pub some : 0 < length (origins_of (atoms_of f l) (staying_row f l i).matching)
  -- its action is that of the tree over these atoms alone
  pub action : (staying_row f l i).action ≡ action_inside (tree_of f l) (staying_row f l i).matching
  -- a packet that it is the first to meet, right or not, meets these atoms, and no other
  pub met : (p : Packet) → FirstPlace (matches_at meets past (staying_rows f l) p) (length (staying_rows f l)) i
      → met_atoms (atoms_of f l) p ≡ origins_of (atoms_of f l) (staying_row f l i).matching

pub record OriginsShown : Type 0 where
  -- the rows that the compile and then the pass leave in a table are the rows that stay
  pub table : (f t s : List ℕ) (l : Layout) (n k : ℕ) → read_of f ≡ Ok l → answer_of f t s ≡ Ok n
      → let ws : List ℕ = table_rows n (table_after f t s) in
      kept_of ws ≡ Ok k → rows_in (table_rows k (table_kept ws)) ≡ staying_rows f l
  -- the marked rows are these rows with marks
  pub same : (f : List ℕ) (l : Layout) → read_of f ≡ Ok l → map unmarked (marked_staying f l) ≡ staying_rows f l
  -- each comes from the atoms that its match lies inside
  pub comes_from : (f : List ℕ) (l : Layout) (i : ℕ) → read_of f ≡ Ok l → i < length (staying_rows f l)
      → ComesFrom f l i
  -- a packet that meets no row meets no atom
  pub unmet : (f : List ℕ) (l : Layout) (p : Packet) → read_of f ≡ Ok l
      → ((i : ℕ) → i < length (staying_rows f l) → matches_at meets past (staying_rows f l) p i ≡ false)
      → (k : ℕ) → k < length (atoms_of f l) → matches_at meets past (atoms_of f l) p k ≡ false
