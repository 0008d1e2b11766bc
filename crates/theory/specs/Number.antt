-- The numbering over places: rows are known by place, and `over j i` tests whether rows j and i overlap. See
-- docs/FORMAT.md, "Priorities".
--
--   rows_overlap     that test, for the rows of a table
--   FirstPlace       a place is the first that passes a test
--   seek             that place, computed
--   above            the level that the rows before a place give a row
--   levels           the levels of the first n rows
--   level_count      how many levels there are: L
--   priorities       the rows' priorities, from their levels
--   at_level         whether a row has a level
--   first_of_level   the first row of a level
--   overlaps_at      whether a row overlaps another and has a level
--   step_back        the first earlier such row
--   chain_to         the chain that ends at a row
--   chain            the chain that forces L priorities
--   Chained          what makes a chain right
--   Right            what makes a numbering right
--   Obeyed           a switch with such numbers may obey a row
--   has, distinct    whether a list has a number, and its distinct numbers
use Rattle.std.specs.Prelude.{ℕ, zero, suc, ◌-◌, ◌≤◌, ◌<◌, max, ◌≡◌, Bool, true, false, ◌&&◌, List, [], ◌∷◌, ◌++◌, map, length, if◌then◌else◌, ◌==◌, slice_index, slice_index_or}
use Rattle.theory.specs.declared.Row.{Row}
use Rattle.theory.specs.Rows.{matches_at}

-- Whether the rows at two places of a table overlap; d stands for a row past the last.
abbrev pub rows_overlap : {M A : Type 0} → (M → M → Bool) → Row M A → List (Row M A) → ℕ → ℕ → Bool
rows_overlap overlap d N j i = overlap (slice_index_or N j d).matching (slice_index_or N i d).matching

-- Place i is the first below n that passes the test.
pub record FirstPlace (test : ℕ → Bool) (n i : ℕ) : Type 0 where
  pub within : i < n
  pub passes : test i ≡ true
  pub skips : (j : ℕ) → j < i → test j ≡ false

-- The first of the n places from `at` on that passes the test; the place behind them if none does.
abbrev pub seek : (ℕ → Bool) → ℕ → ℕ → ℕ
seek test zero at = at
seek test (suc n) at = if test at then at else seek test n (suc at)

module _ (over : ℕ → ℕ → Bool) where
  -- Of the rows before place k, whose levels are ls: 0 if none overlaps row i, else 1 more than the highest level of
  -- those that do.
  abbrev pub above : List ℕ → ℕ → ℕ → ℕ
  above ls i zero = 0
  above ls i (suc k) = max (above ls i k) (if over k i then suc (slice_index ls k) else 0)

  -- The levels of the first n rows: each from the rows before it.
  abbrev pub levels : ℕ → List ℕ
  levels zero = []
  levels (suc n) = levels n ++ (above (levels n) n n ∷ [])

-- How many levels there are: 1 more than the highest, 0 if there is no row.
abbrev pub level_count : List ℕ → ℕ
level_count [] = 0
level_count (l ∷ ls) = max (suc l) (level_count ls)

-- With L levels, a row's priority is L minus its level.
abbrev pub priorities : List ℕ → List ℕ
priorities ls = map (λ l. level_count ls - l) ls

-- Row j has level l.
abbrev pub at_level : List ℕ → ℕ → ℕ → Bool
at_level ls l j = slice_index ls j == l

-- The first row of level l.
abbrev pub first_of_level : List ℕ → ℕ → ℕ
first_of_level ls l = seek (at_level ls l) (length ls) 0

module _ (over : ℕ → ℕ → Bool) (ls : List ℕ) where
  -- Row j overlaps row i and has level l.
  abbrev pub overlaps_at : ℕ → ℕ → ℕ → Bool
  overlaps_at i l j = over j i && at_level ls l j

  -- The first row before i that overlaps it and has level l.
  abbrev pub step_back : ℕ → ℕ → ℕ
  step_back i l = seek (overlaps_at i l) i 0

  -- The chain that ends at row i of level l, in scan order: each step back goes one level lower.
  abbrev pub chain_to : ℕ → ℕ → List ℕ
  chain_to zero i = i ∷ []
  chain_to (suc l) i = chain_to l (step_back i l) ++ (i ∷ [])

  -- With L levels, the chain that ends at the first row of level L - 1; no row if L is 0.
  abbrev pub chain_under : ℕ → List ℕ
  chain_under zero = []
  chain_under (suc l) = chain_to l (first_of_level ls l)

  -- The chain.
  abbrev pub chain : List ℕ
  chain = chain_under (level_count ls)

-- L places of rows in scan order, neighbours overlapping: the end is the first row of level L - 1, each step back the
-- first earlier overlapping row one level lower.
pub record Chained (over : ℕ → ℕ → Bool) (ls c : List ℕ) : Type 0 where
  pub many : length c ≡ level_count ls
  pub rows : (k : ℕ) → k < length c → slice_index c k < length ls
  pub in_order : (k : ℕ) → suc k < length c → slice_index c k < slice_index c (suc k)
  pub overlaps : (k : ℕ) → suc k < length c → over (slice_index c k) (slice_index c (suc k)) ≡ true
  pub ends : (k : ℕ) → suc k ≡ length c → FirstPlace (at_level ls k) (length ls) (slice_index c k)
  pub steps : (k : ℕ) → suc k < length c
      → FirstPlace (overlaps_at over ls (slice_index c (suc k)) k) (slice_index c (suc k)) (slice_index c k)

-- A numbering of n rows is right where of two rows that overlap the earlier has the strictly higher number.
abbrev pub Right : (ℕ → ℕ → Bool) → ℕ → (ℕ → ℕ) → Type 0
Right over n q = (j i : ℕ) → j < i → i < n → over j i ≡ true → q i < q j

-- Whether a list has a number.
abbrev pub has : ℕ → List ℕ → Bool
has y [] = false
has y (x ∷ xs) = if y == x then true else has y xs

-- The distinct numbers of a list.
abbrev pub distinct : List ℕ → List ℕ
distinct [] = []
distinct (x ∷ xs) = if has x xs then distinct xs else x ∷ distinct xs

-- A switch with the numbers q may obey row i: it matches, and no matching row has a higher number.
pub record Obeyed {M P A : Type 0} (meets : M → P → Bool) (d : Row M A) (N : List (Row M A)) (q : ℕ → ℕ) (p : P)
    (i : ℕ) : Type 0 where
  pub within : i < length N
  pub matches : matches_at meets d N p i ≡ true
  pub highest : (j : ℕ) → j < length N → matches_at meets d N p j ≡ true → q j ≤ q i
