-- The cells that words are: how many, each by its place, and the same from equal words; by recursion on the count. Assumes nothing.
use Prim.Native.Nat.{ℕ, zero, suc, ◌+◌, ◌<◌}
use native.Mathlib.Omega.{arith}
use native.Mathlib.Nat.{zero-add, add-zero}
use mathlib.Core.Path.{◌≡◌, refl, sym, ap, ◌∙◌}
use mathlib.Core.List.{List}
use lib.ListN.{length, get_or}
use lib.Seq.{ext_get_or}
use Rattle.action.specs.Operator.{cell_count, words_from, cells_of}

length-words : (i n : ℕ) (ws : List ℕ) → length (words_from i n ws) ≡ n
length-words i zero ws = refl
length-words i (suc n) ws = ap suc (length-words (suc i) n ws)

-- a word by its place
word-from : (i n : ℕ) (ws : List ℕ) (j : ℕ) → j < n → get_or (words_from i n ws) j 0 ≡ get_or ws (i + j) 0
word-from i zero ws j h = absurd (omega arith)
word-from i (suc n) ws zero h = rw add-zero
word-from i (suc n) ws (suc j) h =
    let e : i + suc j ≡ suc i + j = omega arith in
    rw e (word-from (suc i) n ws j (omega arith))

-- AN OPERATOR FROM WORDS has all its cells, each the word at its place
pub cells-many : (ws : List ℕ) → length (cells_of ws) ≡ cell_count
cells-many ws = length-words 0 cell_count ws

pub cell-word : (ws : List ℕ) (j : ℕ) → j < cell_count → get_or (cells_of ws) j 0 ≡ get_or ws j 0
cell-word ws j h = rw zero-add at (word-from 0 cell_count ws j h)

-- and equal words are the same operator
pub cells-equal : (ws vs : List ℕ) → ((j : ℕ) → j < cell_count → get_or ws j 0 ≡ get_or vs j 0) → cells_of ws ≡ cells_of vs
cells-equal ws vs h = ext_get_or 0 (cells_of ws) (cells_of vs) (cells-many ws ∙ sym (cells-many vs)) (λ j l. cell-word ws j l ∙ h j l ∙ sym (cell-word vs j l))
