-- The compile's one answer for every file and every pair of buffers, and every word of both buffers after it.
-- See docs/FORMAT.md, "Rows" and "Numbers a caller can get back".
--
--   room words                                          the rows that a buffer has room for
--   compiled_rows f l                                   the rows of an accepted file
--   Compiled                                            what the compile answers
--   accepted_answer, accepted_table, accepted_scratch   the answer and the buffers for an accepted file
--   answer_of, table_after, scratch_after               the same for every file
--   Compiles                                            all three
--   compile_count                                       the row count of an answer
use Rattle.std.specs.Prelude.{ℕ, ◌*◌, ◌-◌, ◌/◌, min, ◌≡◌, List, ◌++◌, length, Result, Ok, Err, if◌then◌else◌, nat_lt}
use Rattle.theory.specs.declared.Row.{Row}
use Rattle.flow.specs.declared.Match.{Match}
use Rattle.action.specs.declared.Action.{Action}
use Rattle.row.specs.Row.{row_length, most_rows, words_of}
use Rattle.refusal.specs.Refusals.{refusal_at}
use Rattle.refusal.specs.declared.Reason.TheVariants.{NoRoom, NoScratch}
use Rattle.refusal.specs.declared.Refusal.{Refusal}
use Rattle.policy.specs.Read.{Reading, read_of}
use Rattle.policy.specs.File.{tree_of}
use Rattle.policy.specs.declared.Layout.{Layout}
use Rattle.compile.specs.Build.{compile_tree}
use Rattle.words.specs.Words.{zeros}

-- the buffer's words divided by a row's, rounded down, at most 4,096
abbrev pub room : ℕ → ℕ
room words = min (words / row_length) most_rows

-- the rows of an accepted file: the compile of its tree
unfoldable pub compiled_rows : List ℕ → Layout → List (Row Match Action)
compiled_rows f l = compile_tree (tree_of f l)

-- one of three, by what is refused: the scratch, the room, or nothing
abbrev pub by_case : {X : Type 0} → List (Row Match Action) → List ℕ → List ℕ → X → X → X → X
by_case N t s scratch_short too_many success =
    if nat_lt (length s) (row_length * room (length t))
    then scratch_short
    else (if nat_lt (room (length t)) (length N) then too_many else success)

-- what the compile answers: the row count, or a refusal
abbrev pub Compiled : Type 0
Compiled = Result ℕ Refusal

-- the answer for an accepted file with the rows N: 13, then 12, else the row count
abbrev pub accepted_answer : List (Row Match Action) → List ℕ → List ℕ → Compiled
accepted_answer N t s = by_case N t s (Err (refusal_at NoScratch 0)) (Err (refusal_at NoRoom 0)) (Ok (length N))

-- the table after it: unchanged after 13, all zero after 12, else the rows and then zeros
abbrev pub accepted_table : List (Row Match Action) → List ℕ → List ℕ → List ℕ
accepted_table N t s =
    by_case N t s t (zeros (length t)) (words_of N ++ zeros (length t - length (words_of N)))

-- the scratch after it: unchanged after 13, else all zero
abbrev pub accepted_scratch : List (Row Match Action) → List ℕ → List ℕ → List ℕ
accepted_scratch N t s = by_case N t s s (zeros (length s)) (zeros (length s))

-- what reading answered, carried on
abbrev pub after_reading : {X : Type 0} → Reading → (Refusal → X) → (Layout → X) → X
after_reading (Ok l) refused accepted = accepted l
after_reading (Err r) refused accepted = refused r

-- THE ANSWER, for every file and every pair of buffers
unfoldable pub answer_of : List ℕ → List ℕ → List ℕ → Compiled
answer_of f t s = after_reading (read_of f) (λ r. Err r) (λ l. accepted_answer (compiled_rows f l) t s)

-- THE TABLE after it: unchanged where the file is refused
unfoldable pub table_after : List ℕ → List ℕ → List ℕ → List ℕ
table_after f t s = after_reading (read_of f) (λ r. t) (λ l. accepted_table (compiled_rows f l) t s)

-- THE SCRATCH after it: unchanged where the file is refused
unfoldable pub scratch_after : List ℕ → List ℕ → List ℕ → List ℕ
scratch_after f t s = after_reading (read_of f) (λ r. s) (λ l. accepted_scratch (compiled_rows f l) t s)

-- the answer, and every word of both buffers
pub record Compiles (f t s t' s' : List ℕ) (r : Compiled) : Type 0 where
  pub answer : r ≡ answer_of f t s
  pub table : t' ≡ table_after f t s
  pub scratch : s' ≡ scratch_after f t s

-- the row count of an answer: 0 where it is a refusal
abbrev pub compile_count : Compiled → ℕ
compile_count (Ok n) = n
compile_count (Err r) = 0
