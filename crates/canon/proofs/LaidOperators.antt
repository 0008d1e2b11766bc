-- The text of an operator is made of its words.
use Rattle.std.proofs.Common.{ℕ, suc, ◌+◌, ◌-◌, ◌<◌, ◌≤◌, ◌≡◌, Bool, true, false, List, [], ◌∷◌, ◌++◌, Option, Some, None, length, refl, sym, ap, subst, ◌∙◌, arith}
use Rattle.std.specs.Prelude.{◌&&◌, ◌||◌, ◌==◌, codes, nat_le, nat_lt, slice_index, if◌then◌else◌}
use Rattle.std.proofs.lemmas.Bool.{ltb-true, leb-true, ne_eqb}
use Rattle.logic.specs.Lists.{All}
use Rattle.logic.proofs.Tests.{and_right}
use Rattle.action.specs.Operator.{right_cell, cell_count, largest_in, rate_cells}
use Rattle.values.proofs.NumberLaw.{both}
use Rattle.notation.specs.Policy.{OperatorEntry}
use Rattle.notation.specs.Words.{operator_word, allow_word, deny_word, reserve_word, open_mark, close_mark}
use Rattle.notation.specs.Operators.{builtin_of}
use Rattle.notation.specs.Right.{RightOperator}
use Rattle.canon.specs.Text.{spaces, column, padded, cell_word, cell_line, table_text, cells_text, operator_text, operators_text}
use Rattle.canon.specs.Pieces.{line_words, table_words, cells_words, operator_words, operators_words}
use Rattle.canon.proofs.Laid.{Loose, Parts, Word, all_word, all-word, blank, mark, word, loose-loose, tight-loose, begins-parts, spaces-loose, line_end-loose, spaced}
use Rattle.canon.proofs.Bytes.{name-word}
use Rattle.canon.proofs.Small.{below}

-- ---- cells

-- the word of a code is a word that a column has room for
abbrev cell_test : ℕ → Bool
cell_test c = c == 0 || (nat_lt 0 (length (cell_word c)) && all_word (cell_word c) && nat_lt (length (cell_word c)) column)

-- such a word
record CellWord (c : ℕ) : Type 0 where
  is : Word (cell_word c)
  short : length (cell_word c) < column

-- of each code
cell-is : (c : ℕ) → 1 ≤ c → c ≤ 7 → CellWord c
cell-is c low high =
    let t : cell_test c ≡ true = below cell_test 8 refl c (omega arith) in
    let u : (nat_lt 0 (length (cell_word c)) && all_word (cell_word c) && nat_lt (length (cell_word c)) column) ≡ true =
    sym (ap (λ (x : Bool). x || (nat_lt 0 (length (cell_word c)) && all_word (cell_word c) && nat_lt (length (cell_word c)) column))
    (ne_eqb c 0 (omega arith))) ∙ t in
    let v = both (nat_lt 0 (length (cell_word c)) && all_word (cell_word c)) (nat_lt (length (cell_word c)) column) u in
    let w = both (nat_lt 0 (length (cell_word c))) (all_word (cell_word c)) v.0 in
    record { is = (ltb-true _ _ w.0, all-word (cell_word c) w.1); short = ltb-true _ _ v.1 }

-- a word in a column
padded-loose : (w : List ℕ) → Word w → length w < column → Loose (padded w) (w ∷ [])
padded-loose w h short =
    let e : suc (9 - length w) ≡ column - length w = omega arith in
    subst (λ (n : ℕ). Loose (w ++ spaces n) (w ∷ [])) e (spaced w (9 - length w) h)

-- the line of three cells
line-loose : (kind cells : List ℕ) (i : ℕ) → Word kind → length kind < column → CellWord (slice_index cells i) → CellWord (slice_index cells (i + 1))
    → CellWord (slice_index cells (i + 2)) → Loose (cell_line kind cells i) (line_words kind cells i)
line-loose kind cells i k short x y z =
    loose-loose (spaces-loose 4) (loose-loose (padded-loose kind k short)
    (loose-loose (padded-loose (cell_word (slice_index cells i)) x.is x.short)
    (loose-loose (padded-loose (cell_word (slice_index cells (i + 1))) y.is y.short)
    (tight-loose (word (cell_word (slice_index cells (i + 2))) z.is) (begins-parts 10 [] refl) line_end-loose))))

-- the word of the first line and column
allow-is : Word allow_word
allow-is = (omega arith, all-word allow_word refl)

-- of the second
deny-is : Word deny_word
deny-is = (omega arith, all-word deny_word refl)

-- of the third
reserve-is : Word reserve_word
reserve-is = (omega arith, all-word reserve_word refl)

-- the cells in their braces
table-loose : (cells : List ℕ) → ((i : ℕ) → i < cell_count → CellWord (slice_index cells i)) → Loose (table_text cells) (table_words cells)
table-loose cells cell =
    loose-loose open-loose (loose-loose (spaces-loose 4) (loose-loose (spaces-loose 10)
    (loose-loose (padded-loose allow_word allow-is (omega arith)) (loose-loose (padded-loose deny_word deny-is (omega arith))
    (loose-loose reserve-loose
    (loose-loose (line-loose allow_word cells 0 allow-is (omega arith) (cell 0 (omega arith)) (cell 1 (omega arith)) (cell 2 (omega arith)))
    (loose-loose (line-loose deny_word cells 3 deny-is (omega arith) (cell 3 (omega arith)) (cell 4 (omega arith)) (cell 5 (omega arith)))
    (loose-loose (line-loose reserve_word cells 6 reserve-is (omega arith) (cell 6 (omega arith)) (cell 7 (omega arith)) (cell 8 (omega arith)))
    close-loose))))))))
  where
    open-loose : Loose (codes " {\n") (open_mark ∷ [])
    open-loose = record { laid = λ rest us c. blank 32 refl (mark 123 refl (blank 10 refl c)) }

    reserve-loose : Loose (codes "reserve\n") (reserve_word ∷ [])
    reserve-loose = tight-loose (word reserve_word reserve-is) (begins-parts 10 [] refl) line_end-loose

    close-loose : Loose (codes "}\n") (close_mark ∷ [])
    close-loose = record { laid = λ rest us c. mark 125 refl (blank 10 refl c) }

-- the cells of an operator, if they are written
cells-loose : (own : Option (List ℕ)) (cells : List ℕ) → ((i : ℕ) → i < cell_count → CellWord (slice_index cells i))
    → Loose (cells_text own cells) (cells_words own cells)
cells-loose (Some own) cells cell = line_end-loose
cells-loose None cells cell = table-loose cells cell

-- they part
cells-parts : (own : Option (List ℕ)) (cells : List ℕ) → Parts (cells_text own cells)
cells-parts (Some own) cells = begins-parts 10 [] refl
cells-parts None cells = record { breaks = λ rest. refl }

-- ---- operators

-- no code is larger than 7
largest-code : (i : ℕ) → largest_in rate_cells i ≤ 7
largest-code i = elim (i == 8) as (λ d. (if d then 7 else 4) ≤ 7) [ true ↦ omega arith | false ↦ omega arith ]

-- the bounds of a right code
pub right-code : (i c : ℕ) → right_cell i c ≡ true → (1 ≤ c) × (c ≤ largest_in rate_cells i) × (c ≤ 7)
unfolding right_cell
right-code i c e =
    let h = both (nat_lt i cell_count && nat_le 1 c) (nat_le c (largest_in rate_cells i)) e in
    let low : 1 ≤ c = leb-true _ _ (and_right (nat_lt i cell_count) (nat_le 1 c) h.0) in
    let high : c ≤ largest_in rate_cells i = leb-true _ _ h.1 in
    (low, high, omega (arith, largest-code i))

-- a right code has a word
right-cell : (i c : ℕ) → right_cell i c ≡ true → CellWord c
right-cell i c e = let h = right-code i c e in cell-is c h.0 h.2

-- an operator
pub operator-loose : (o : OperatorEntry) → RightOperator o → Loose (operator_text o) (operator_words o)
unfolding operator_text
operator-loose o r =
    loose-loose (spaced operator_word 0 (omega arith, all-word operator_word refl))
    (tight-loose (word o.name (name-word o.name r.name)) (cells-parts (builtin_of o.name) o.cells)
    (cells-loose (builtin_of o.name) o.cells (λ i h. right-cell i (slice_index o.cells i) (r.cells.1 i h))))

-- operators one behind the other
pub operators-loose : (os : List OperatorEntry) → All RightOperator os → Loose (operators_text os) (operators_words os)
operators-loose [] r = line_end-loose
operators-loose (o ∷ os) r = loose-loose (operator-loose o r.0) (operators-loose os r.1)
