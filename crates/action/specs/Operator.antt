-- Operators. An operator is its cells, a list of nine codes: the left action's kind slowest, the right's fastest.
-- Assumes nothing. See docs/FORMAT.md, "Operators".
--
--   kinds, cell_count   the kinds that have cells, and the cells
--   cells_of ws         the operator whose cells the first of some words are, by words_from i n ws
--   cell a b            the cell of two actions
--   added m n           two rates added up, but no more than the largest rate
--   coded c a b         what the code c gives for two actions, by the list codes a b
--   join o a b          two actions joined
--   sibling, parent     the two operators supplied by name
--   rate_cells          the cells in which both actions have a rate, each with the largest code that is right there
--   largest_code        the largest code that is right in every cell; largest_in rate_cells i in the cell i
--   right_cell i c      a code that is right in the cell i
--   RightCodes o        an operator with right codes
use Rattle.std.specs.Prelude.{ℕ, zero, suc, ◌+◌, ◌-◌, ◌*◌, ◌<◌, max, min, ◌≡◌, Bool, true, ◌&&◌, List, [], ◌∷◌, length, if◌then◌else◌, ◌==◌, nat_le, nat_lt, slice_index, slice_index_or}
use Rattle.action.specs.Action.{kind_of, rate_of, is_dont_care, gmb, largest_rate}
use Rattle.action.specs.declared.Action.{Action}
use Rattle.action.specs.declared.Action.TheVariants.{DontCare, Allow, Deny, Gmb}

-- the kinds that have cells: all but don't care, up to GMB
abbrev pub kinds : ℕ
kinds = gmb

-- a cell for each two kinds
abbrev pub cell_count : ℕ
cell_count = kinds * kinds

-- n words from the i-th on; words that are missing count as 0
abbrev pub words_from : ℕ → ℕ → List ℕ → List ℕ
words_from i zero ws = []
words_from i (suc n) ws = slice_index ws i ∷ words_from (suc i) n ws

-- the operator whose cells the first of some words are
abbrev pub cells_of : List ℕ → List ℕ
cells_of ws = words_from 0 cell_count ws

-- the cell of two actions, the left one's kind slowest
abbrev pub cell : Action → Action → ℕ
cell a b = (kind_of a - 1) * kinds + (kind_of b - 1)

-- two rates added up, but no more than the largest rate
abbrev pub added : ℕ → ℕ → ℕ
added m n = min (m + n) largest_rate

-- what each code gives, by its number: 1 Allow, 2 Deny, 3 the left action, 4 the right, 5 the larger rate, 6 the
-- smaller, 7 the rates added up
abbrev pub codes : Action → Action → List Action
codes a b =
    DontCare
    ∷ Allow
    ∷ Deny
    ∷ a
    ∷ b
    ∷ Gmb (max (rate_of a) (rate_of b))
    ∷ Gmb (min (rate_of a) (rate_of b))
    ∷ Gmb (added (rate_of a) (rate_of b))
    ∷ []

-- what a code gives; an unknown one gives don't care
unfoldable pub coded : ℕ → Action → Action → Action
coded c a b = slice_index_or (codes a b) c DontCare

-- two actions joined: don't care is the identity and has no cell
unfoldable pub join : List ℕ → Action → Action → Action
join o a b =
    if is_dont_care a then b else (if is_dont_care b then a else coded (slice_index o (cell a b)) a b)

-- between siblings: Deny before GMB before Allow, and of two rates the larger
abbrev pub sibling : List ℕ
sibling = 1 ∷ 2 ∷ 4 ∷ 2 ∷ 2 ∷ 2 ∷ 3 ∷ 2 ∷ 5 ∷ []

-- from parent to child: the child's action, but a GMB stays over an Allow, and of two rates the larger
abbrev pub parent : List ℕ
parent = 1 ∷ 2 ∷ 4 ∷ 1 ∷ 2 ∷ 4 ∷ 3 ∷ 2 ∷ 5 ∷ []

-- the ninth cell, in which both actions have a rate
abbrev pub rate_cell : ℕ
rate_cell = cell_count - 1

-- the largest code that is right in every cell
abbrev pub largest_code : ℕ
largest_code = 4

-- the largest code that is right in the ninth
abbrev pub largest_rate_code : ℕ
largest_rate_code = 7

-- the cells in which both actions have a rate, each with the largest code that is right there
abbrev pub rate_cells : List (ℕ × ℕ)
rate_cells = (rate_cell, largest_rate_code) ∷ []

-- the largest code that is right in a cell, by such a list
abbrev pub largest_in : List (ℕ × ℕ) → ℕ → ℕ
largest_in [] i = largest_code
largest_in (r ∷ rs) i = if i == r.0 then r.1 else largest_in rs i

-- codes 1 to 4 are right in every cell, 5 to 7 only in the ninth
unfoldable pub right_cell : ℕ → ℕ → Bool
right_cell i c = (nat_lt i cell_count && nat_le 1 c) && nat_le c (largest_in rate_cells i)

-- an operator with right codes
abbrev pub RightCodes : List ℕ → Type 0
RightCodes o = (length o ≡ cell_count) × ((i : ℕ) → i < cell_count → right_cell i (slice_index o i) ≡ true)
