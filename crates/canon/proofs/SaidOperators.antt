-- The words of operators are in the grammar, and stand for these operators.
use Rattle.std.proofs.Common.{ℕ, ◌+◌, ◌≤◌, ◌≡◌, Bool, true, false, List, [], ◌∷◌, ◌++◌, Option, Some, None, length, refl, sym, ap, subst, ◌∙◌, arith}
use Rattle.std.specs.Prelude.{◌||◌, ◌==◌, IfSome, map, slice_index}
use Rattle.std.proofs.lemmas.Bool.{eqb-true, ne_eqb}
use Rattle.logic.specs.Lists.{All}
use Rattle.action.specs.Operator.{RightCodes, right_cell, largest_code, largest_rate_code, largest_in, rate_cells}
use Rattle.values.specs.Words.{code_of}
use Rattle.notation.specs.Policy.{OperatorEntry}
use Rattle.notation.specs.Words.{operator_word, allow_word, deny_word, reserve_word}
use Rattle.notation.specs.Operators.{builtin_of}
use Rattle.notation.specs.Grammar.{IsLine, IsTable, IsOperator, IsOperators}
use Rattle.notation.specs.Right.{RightOperator, bare_operator}
use Rattle.canon.specs.Text.{cell_word}
use Rattle.canon.specs.Pieces.{line_words, table_words, cells_words, operator_words, operators_words}
use Rattle.canon.proofs.LaidOperators.{right-code}
use Rattle.canon.proofs.Small.{below}

-- a number that may be there is this one
abbrev holds : Option ℕ → ℕ → Bool
holds (Some n) c = n == c
holds None c = false

-- what the test says
holds-is : (o : Option ℕ) (c : ℕ) → holds o c ≡ true → o ≡ Some c
holds-is (Some n) c e = ap (λ (x : ℕ). Some x) (eqb-true n c e)
holds-is None c e = absurd cc

-- the word of a code is read as that
code-said : (c : ℕ) → 1 ≤ c → c ≤ 7 → code_of (cell_word c) ≡ Some c
unfolding code_of
code-said c low high =
    let t : (c == 0 || holds (code_of (cell_word c)) c) ≡ true = below (λ k. k == 0 || holds (code_of (cell_word k)) k) 8 refl c (omega arith) in
    holds-is (code_of (cell_word c)) c (sym (ap (λ (x : Bool). x || holds (code_of (cell_word c)) c) (ne_eqb c 0 (omega arith))) ∙ t)

-- a cell's word, and that its code is right
record Cell (largest c : ℕ) : Type 0 where
  is : code_of (cell_word c) ≡ Some c
  most : c ≤ largest

-- of a right cell
cell-said : (i c : ℕ) → right_cell i c ≡ true → Cell (largest_in rate_cells i) c
cell-said i c e = let h = right-code i c e in record { is = code-said c h.0 h.2; most = h.1 }

-- three cells from place i on
abbrev three : List ℕ → ℕ → List ℕ
three cells i = slice_index cells i ∷ slice_index cells (i + 1) ∷ slice_index cells (i + 2) ∷ []

-- nine cells are three lines
nine : (cells : List ℕ) → length cells ≡ 9 → three cells 0 ++ (three cells 3 ++ three cells 6) ≡ cells
nine [] e = absurd (omega arith)
nine (a ∷ []) e = absurd (omega arith)
nine (a ∷ b ∷ []) e = absurd (omega arith)
nine (a ∷ b ∷ c ∷ []) e = absurd (omega arith)
nine (a ∷ b ∷ c ∷ d ∷ []) e = absurd (omega arith)
nine (a ∷ b ∷ c ∷ d ∷ f ∷ []) e = absurd (omega arith)
nine (a ∷ b ∷ c ∷ d ∷ f ∷ g ∷ []) e = absurd (omega arith)
nine (a ∷ b ∷ c ∷ d ∷ f ∷ g ∷ h ∷ []) e = absurd (omega arith)
nine (a ∷ b ∷ c ∷ d ∷ f ∷ g ∷ h ∷ i ∷ []) e = absurd (omega arith)
nine (a ∷ b ∷ c ∷ d ∷ f ∷ g ∷ h ∷ i ∷ j ∷ []) e = refl
nine (a ∷ b ∷ c ∷ d ∷ f ∷ g ∷ h ∷ i ∷ j ∷ k ∷ l) e = absurd (omega arith)

-- A TABLE
pub is-table : (cells : List ℕ) → RightCodes cells → IsTable (table_words cells) cells
is-table cells r =
    let c0 = cell-said 0 (slice_index cells 0) (r.1 0 (omega arith)) in
    let c1 = cell-said 1 (slice_index cells 1) (r.1 1 (omega arith)) in
    let c2 = cell-said 2 (slice_index cells 2) (r.1 2 (omega arith)) in
    let c3 = cell-said 3 (slice_index cells 3) (r.1 3 (omega arith)) in
    let c4 = cell-said 4 (slice_index cells 4) (r.1 4 (omega arith)) in
    let c5 = cell-said 5 (slice_index cells 5) (r.1 5 (omega arith)) in
    let c6 = cell-said 6 (slice_index cells 6) (r.1 6 (omega arith)) in
    let c7 = cell-said 7 (slice_index cells 7) (r.1 7 (omega arith)) in
    let c8 = cell-said 8 (slice_index cells 8) (r.1 8 (omega arith)) in
    let a : IsLine allow_word largest_code (line_words allow_word cells 0) (three cells 0) = IsLine.line c0.is c0.most c1.is c1.most c2.is c2.most in
    let d : IsLine deny_word largest_code (line_words deny_word cells 3) (three cells 3) = IsLine.line c3.is c3.most c4.is c4.most c5.is c5.most in
    let e : IsLine reserve_word largest_rate_code (line_words reserve_word cells 6) (three cells 6) = IsLine.line c6.is c6.most c7.is c7.most c8.is c8.most in
    subst (IsTable (table_words cells)) (nine cells r.0) (IsTable.table a d e)

-- an operator of a name and cells, without its place
abbrev named : List ℕ → List ℕ → OperatorEntry
named w cells = record { name = w; at = 0; cells = cells }

-- AN OPERATOR
pub is-operator : (o : OperatorEntry) → RightOperator o → IsOperator (operator_words o) (bare_operator o)
is-operator o r =
    elim (builtin_of o.name) as (λ b. builtin_of o.name ≡ b → IfSome b (λ cells. o.cells ≡ cells)
    → IsOperator (operator_word ∷ o.name ∷ cells_words b o.cells) (bare_operator o)) [
      | Some own ↦ λ e s. subst (λ (cells : List ℕ). IsOperator (operator_word ∷ o.name ∷ []) (named o.name cells)) (sym s) (IsOperator.builtin e)
      | None ↦ λ e s. IsOperator.written r.name e (is-table o.cells r.cells)
    ] refl r.own

-- OPERATORS
pub is-operators : (os : List OperatorEntry) → All RightOperator os → IsOperators (operators_words os) (map bare_operator os)
is-operators [] r = IsOperators.none
is-operators (o ∷ os) r = IsOperators.more (is-operator o r.0) (is-operators os r.1)
