-- Hidden rows: a row whose match lies inside one earlier row's match goes, the others stay in order. See
-- docs/FORMAT.md, "Hidden rows".
--
--   inside_one       whether a match lies inside that of one of some rows
--   staying_after    of rows that stand behind others, those that lie inside no row before them
--   staying          of a table's rows, those that lie inside no earlier one
--   inside_earlier   whether the row at a place lies inside an earlier row
--   places_where     the places that pass a test, in order
--   Enclosing        asked of `inside`: a packet that meets the inner match meets the outer
--   Nesting          asked of it too: what lies inside a match lies inside all that this one lies inside
--   InsideSome       one of some rows whose match a match lies inside
use Rattle.std.specs.Prelude.{ℕ, zero, suc, ◌<◌, ◌≡◌, Bool, true, List, [], ◌∷◌, ◌++◌, length, take, if◌then◌else◌, slice_index_or}
use Rattle.std.specs.List.{list_any}
use Rattle.theory.specs.declared.Row.{Row}

module _ {M A : Type 0} (inside : M → M → Bool) where
  -- Whether a match lies inside that of one of the rows.
  abbrev pub inside_one : M → List (Row M A) → Bool
  inside_one m N = list_any (λ r. inside m r.matching) N

  -- Of the rows N, which stand behind the rows E, those that lie inside no row before them, whether that one goes or
  -- stays.
  abbrev pub staying_after : List (Row M A) → List (Row M A) → List (Row M A)
  staying_after E [] = []
  staying_after E (r ∷ N) =
      let rest : List (Row M A) = staying_after (E ++ (r ∷ [])) N in if inside_one r.matching E then rest else r ∷ rest

  -- The rows that lie inside no earlier row of the table.
  abbrev pub staying : List (Row M A) → List (Row M A)
  staying N = staying_after [] N

  -- Whether row i lies inside an earlier row; d stands for a row past the last.
  abbrev pub inside_earlier : Row M A → List (Row M A) → ℕ → Bool
  inside_earlier d N i = inside_one (slice_index_or N i d).matching (take i N)

  -- A row of the table whose match m lies inside, by its place.
  pub record InsideSome (d : Row M A) (m : M) (N : List (Row M A)) : Type 0 where
    pub place : ℕ
    pub within : place < length N
    pub lies : inside m (slice_index_or N place d).matching ≡ true

-- The places below n that pass the test, in order.
abbrev pub places_where : (ℕ → Bool) → ℕ → List ℕ
places_where test zero = []
places_where test (suc n) = places_where test n ++ (if test n then n ∷ [] else [])

-- A packet that meets a match meets every match that it lies inside.
abbrev pub Enclosing : {M P : Type 0} → (M → P → Bool) → (M → M → Bool) → Type 0
Enclosing {M} {P} meets inside = (m n : M) (p : P) → inside m n ≡ true → meets m p ≡ true → meets n p ≡ true

-- What lies inside a match lies inside all that this one lies inside.
abbrev pub Nesting : {M : Type 0} → (M → M → Bool) → Type 0
Nesting {M} inside = (l m n : M) → inside l m ≡ true → inside m n ≡ true → inside l n ≡ true
