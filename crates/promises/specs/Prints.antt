-- What the listing prints: for every input, however broken, those of its compiled rows that are not hidden, with their
-- priorities, or one refusal of a fixed number.
--
--   PrintsRows b          the compile of the input's words answers rows, and the text has the head and a line for each
--                         that is not hidden
--   PrintsRefusal b       the text is one refusal, of number 1 to 10, 12 or 18
--   EveryListing          every input has one of the two
use Rattle.std.specs.Prelude.{ℕ, ◌≡◌, true, List, Ok, ◌⊎◌}
use Rattle.words.specs.Bytes.{words_in}
use Rattle.row.specs.Row.{table_rows}
use Rattle.refusal.specs.declared.Reason.TheVariants.{NoRoom, WrongInput}
use Rattle.compile.specs.Compile.{answer_of, table_after}
use Rattle.show.specs.Text.{refusal}
use Rattle.text.specs.Listing.{right_input, blank, file_text, listing_of, ListedKept}
use Rattle.promises.specs.Told.{between}
use Rattle.refusal.specs.Refusals.{reason_number}

-- of the rows that the compile answers those that are not hidden, each with its priority
pub record PrintsRows (b : List ℕ) : Type 0 where
  pub right : right_input b ≡ true
  pub count : ℕ
  pub compiled : answer_of (words_in b) blank blank ≡ Ok count
  pub listed : ListedKept (words_in b) (table_rows count (table_after (words_in b) blank blank))
  pub text : listing_of b ≡ file_text (words_in b)

-- one refusal
pub record PrintsRefusal (b : List ℕ) : Type 0 where
  pub number : ℕ
  pub place : ℕ
  pub one_of : between 1 10 number ⊎ ((number ≡ reason_number NoRoom) ⊎ (number ≡ reason_number WrongInput))
  pub text : listing_of b ≡ refusal number place

-- THE LISTING PRINTS ROWS, OR A REFUSAL 1 TO 10, 12 OR 18, AND NO OTHER
abbrev pub EveryListing : Type 0
EveryListing = (b : List ℕ) → PrintsRows b ⊎ PrintsRefusal b
