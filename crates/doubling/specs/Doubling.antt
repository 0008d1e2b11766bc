-- The files whose atoms are unconstrained, and what the compile answers of each.
--
--   before k, behind k   the words before the first of k atoms and behind the last
--   file k               the file of one operator and one node, which has k atoms, each of zeros
--   largest              the words of the largest table, and of its scratch
--   answer_for k         what the compile answers of the file of k atoms
--   number_of a          the number that tells an answer
use Rattle.std.specs.Prelude.{ℕ, ◌*◌, List, [], ◌∷◌, ◌++◌, Ok, Err}
use Rattle.words.specs.Words.{zeros}
use Rattle.row.specs.Row.{row_length, most_rows}
use Rattle.policy.specs.Numbers.{atom_length}
use Rattle.refusal.specs.Refusals.{refusal_number}
use Rattle.compile.specs.Compile.{Compiled, answer_of}

-- an operator whose cells are all 1, and the count of the atoms
abbrev pub before : ℕ → List ℕ
before k = 1 ∷ 1 ∷ 1 ∷ 1 ∷ 1 ∷ 1 ∷ 1 ∷ 1 ∷ 1 ∷ 1 ∷ k ∷ []

-- one node: its three operators, its own atoms, no children
abbrev pub behind : ℕ → List ℕ
behind k = 1 ∷ 0 ∷ 0 ∷ 0 ∷ k ∷ 0 ∷ []

-- an atom of zeros is met by every packet
unfoldable pub file : ℕ → List ℕ
file k = before k ++ (zeros (atom_length * k) ++ behind k)

-- room for the most rows that a table may have
abbrev pub largest : List ℕ
largest = zeros (row_length * most_rows)

-- THE ANSWER for the file of k atoms
abbrev pub answer_for : ℕ → Compiled
answer_for k = answer_of (file k) largest largest

-- the row count, or the refusal's number
abbrev pub number_of : Compiled → ℕ
number_of (Ok rows) = rows
number_of (Err refusal) = refusal_number refusal
