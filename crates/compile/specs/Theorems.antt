-- What is proved of the compile. Each statement is proved in proofs/ under the name given behind it.
--
--   InOrder, AnsweredInOrder   what comes first: the file's refusal, 13, 12, else the rows; and what the buffers hold
--   RoomExactly                given its scratch, 12 exactly when the rows outnumber the room
--   RowsRight                  the rows of an accepted file are right
--   AnswerTells, AnswersRows   a success answers how many rows the file has: they fit, are right, and stand in the
--                              table
use Rattle.std.specs.Prelude.{ℕ, ◌*◌, ◌-◌, ◌≤◌, ◌<◌, ◌≡◌, List, ◌++◌, ◌↔◌, Ok, Err, length}
use Rattle.row.specs.Row.{row_length, RightRow, words_of, table_rows}
use Rattle.refusal.specs.Refusals.{refusal_at}
use Rattle.refusal.specs.declared.Refusal.{Refusal}
use Rattle.refusal.specs.declared.Reason.TheVariants.{NoRoom, NoScratch}
use Rattle.policy.specs.Read.{read_of}
use Rattle.policy.specs.declared.Layout.{Layout}
use Rattle.words.specs.Words.{zeros}
use Rattle.compile.specs.Compile.{room, compiled_rows, answer_of, table_after, Compiles}
use Rattle.logic.specs.Lists.{All}

-- what the compile answers and leaves, by what is refused first
pub record InOrder (f t s : List ℕ) : Type 0 where
  -- the file, with its own refusal: both buffers stay
  pub file_refused : (r : Refusal) → read_of f ≡ Err r → Compiles f t s t s (Err r)
  -- of an accepted file the scratch, whatever its rows are: 13, and both buffers stay
  pub scratch_short : (l : Layout) → read_of f ≡ Ok l → length s < row_length * room (length t)
      → Compiles f t s t s (Err (refusal_at NoScratch 0))
  -- with scratch enough the room: 12, and both buffers are zero
  pub room_short : (l : Layout) → read_of f ≡ Ok l → row_length * room (length t) ≤ length s
      → room (length t) < length (compiled_rows f l)
      → Compiles f t s (zeros (length t)) (zeros (length s)) (Err (refusal_at NoRoom 0))
  -- else nothing: the rows are counted, they stand in the table with zeros behind them, and the scratch is zero
  pub rows_answered : (l : Layout) → read_of f ≡ Ok l → row_length * room (length t) ≤ length s
      → length (compiled_rows f l) ≤ room (length t)
      → Compiles f t s
      (words_of (compiled_rows f l) ++ zeros (length t - length (words_of (compiled_rows f l))))
      (zeros (length s)) (Ok (length (compiled_rows f l)))

-- for every file and every two buffers; the premises of one of the four always hold (answered-in-order)
abbrev pub AnsweredInOrder : Type 0
AnsweredInOrder = (f t s : List ℕ) → InOrder f t s

-- with scratch enough, an accepted file is refused with 12 exactly when its rows outnumber the room (room-exactly)
abbrev pub RoomExactly : Type 0
RoomExactly = (f t s : List ℕ) (l : Layout) → read_of f ≡ Ok l → row_length * room (length t) ≤ length s
    → (answer_of f t s ≡ Err (refusal_at NoRoom 0)) ↔ (room (length t) < length (compiled_rows f l))

-- the rows of an accepted file are right, their rates too, since joining rates in range makes none outside it
-- (rows-right)
abbrev pub RowsRight : Type 0
RowsRight = (f : List ℕ) (l : Layout) → read_of f ≡ Ok l → All RightRow (compiled_rows f l)

-- what n rows as an answer tell: the file is accepted, its rows are as many, there is room for them, each is right, and
-- they stand in the table
pub record AnswerTells (f t s : List ℕ) (n : ℕ) : Type 0 where
  pub layout : Layout
  pub accepted : read_of f ≡ Ok layout
  pub count : n ≡ length (compiled_rows f layout)
  pub fits : n ≤ room (length t)
  pub right : All RightRow (compiled_rows f layout)
  pub stands : table_rows n (table_after f t s) ≡ words_of (compiled_rows f layout)

-- (answers-rows)
abbrev pub AnswersRows : Type 0
AnswersRows = (f t s : List ℕ) (n : ℕ) → answer_of f t s ≡ Ok n → AnswerTells f t s n
