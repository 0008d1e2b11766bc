-- Tables, that is lists of rows, over any matches and actions: the scan of a table, and the join of two. See
-- docs/FORMAT.md, "The scan" and "Rows".
--
--   Row M A       an atom or a row: a match and an action
--   scan          the first matching row's action, or don't care
--   place         the first matching row's place, or the number of rows
--   tried         how many rows the scan tries
--   matches_at    whether the row at a place matches
--   kept          an atom's table
--   common_row    a row of N and a row of N' as one
--   common_with   the common rows of one row and a table
--   common_rows   the common rows of two tables
--   join          two tables joined
use Rattle.std.specs.Prelude.{ℕ, suc, Bool, List, [], ◌∷◌, ◌++◌, if◌then◌else◌, slice_index_or}
use Rattle.theory.specs.declared.Row.{Row}

module _ {M P A : Type 0} (meets : M → P → Bool) (dont_care : A) where
  -- The first matching row's action; don't care if none matches.
  abbrev pub scan : List (Row M A) → P → A
  scan [] p = dont_care
  scan (r ∷ N) p = if meets r.matching p then r.action else scan N p

module _ {M P A : Type 0} (meets : M → P → Bool) where
  -- The first matching row's place; the number of rows if none matches.
  abbrev pub place : List (Row M A) → P → ℕ
  place [] p = 0
  place (r ∷ N) p = if meets r.matching p then 0 else suc (place N p)

  -- How many rows the scan tries: those up to the first that matches, or all.
  abbrev pub tried : List (Row M A) → P → ℕ
  tried [] p = 0
  tried (r ∷ N) p = suc (if meets r.matching p then 0 else tried N p)

-- Whether the row at place i of a table matches; d stands for a row past the last.
abbrev pub matches_at : {M P A : Type 0} → (M → P → Bool) → Row M A → List (Row M A) → P → ℕ → Bool
matches_at meets d N p i = meets (slice_index_or N i d).matching p

-- An atom's table: one row, or none if its match is empty.
abbrev pub kept : {M A : Type 0} → (M → Bool) → Row M A → List (Row M A)
kept empty r = if empty r.matching then [] else r ∷ []

-- The common match of a row of N and a row of N', with the joined action, left from N.
abbrev pub common_row : {M A : Type 0} → (M → M → M) → (A → A → A) → Row M A → Row M A → Row M A
common_row common op r s = record { matching = common r.matching s.matching; action = op r.action s.action }

module _ {M A : Type 0} (common : M → M → M) (empty : M → Bool) (op : A → A → A) where
  -- One row of N with each row of N' in order, dropped if empty.
  abbrev pub common_with : Row M A → List (Row M A) → List (Row M A)
  common_with r [] = []
  common_with r (s ∷ N') = kept empty (common_row common op r s) ++ common_with r N'

  -- Each row of N in order, with each row of N' in order.
  abbrev pub common_rows : List (Row M A) → List (Row M A) → List (Row M A)
  common_rows [] N' = []
  common_rows (r ∷ N) N' = common_with r N' ++ common_rows N N'

  -- N joined with N': the common rows, then N, then N'.
  abbrev pub join : List (Row M A) → List (Row M A) → List (Row M A)
  join N N' = common_rows N N' ++ (N ++ N')
