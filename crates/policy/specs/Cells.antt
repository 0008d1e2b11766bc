-- The operators of each edition: which codes its cells may have, and the operator that its words are.
--
--   right_cell_in   a code that is right in a cell
--   operator_row    the words that the words of an operator are in the newest edition
--   operator_rows   the same for some operators
use Rattle.std.specs.Prelude.{ℕ, Bool, List}
use Rattle.action.specs.Operator.{right_cell}
use Rattle.policy.specs.declared.Edition.{Edition}
use Rattle.policy.specs.declared.Edition.TheVariants.{First}

-- a code that is right in a cell
abbrev pub right_cell_in : Edition → ℕ → ℕ → Bool
right_cell_in First i c = right_cell i c

-- the words that the words of an operator are in the newest edition
abbrev pub operator_row : Edition → List ℕ → List ℕ
operator_row First r = r

-- the same for some operators
abbrev pub operator_rows : Edition → List (List ℕ) → List (List ℕ)
operator_rows First os = os
