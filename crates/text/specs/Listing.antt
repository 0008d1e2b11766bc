-- The listing: for every input, however broken, the one text that answers it. See docs/FORMAT.md, "The listing".
--
--   longest_input      the bytes of the longest file
--   right_input b      whole words, and not more than the longest file has
--   shown_text t       the listing of compiled rows, without the hidden ones
--   file_text f        the listing of a policy file
--   listing_of b       the listing of an input
--   ListedRows f n t   the listing of the file f is the text of the n rows t, and there are n priorities
--   ListedKept f t     the listing of the file f has those of the rows t that are not hidden
use Rattle.std.specs.Prelude.{ℕ, ◌*◌, ◌%◌, ◌≡◌, Bool, ◌&&◌, List, Result, Ok, Err, length, replicate, if◌then◌else◌, ◌==◌, nat_le}
use Rattle.refusal.specs.Refusals.{reason_number, refusal_number}
use Rattle.refusal.specs.declared.Reason.TheVariants.{WrongInput}
use Rattle.refusal.specs.declared.Refusal.{Refusal}
use Rattle.words.specs.Bytes.{word_bytes, words_in}
use Rattle.row.specs.Row.{row_length, rows_in, table_rows}
use Rattle.hidden.specs.Hidden.{kept_of, table_kept}
use Rattle.policy.specs.Numbers.{longest_file}
use Rattle.compile.specs.Compile.{answer_of, table_after}
use Rattle.priority.specs.Numbering.{priorities_of}
use Rattle.show.specs.Text.{refusal}
use Rattle.show.specs.Sheet.{listing_room, table_text, rows_text}

-- the bytes of the longest file
abbrev pub longest_input : ℕ
longest_input = word_bytes * longest_file

-- whole words, and not more than the longest file has
unfoldable pub right_input : List ℕ → Bool
right_input b = length b % word_bytes == 0 && nat_le (length b) longest_input

-- the table, and the scratch, before the compile
abbrev pub blank : List ℕ
blank = replicate (row_length * listing_room) 0

-- what is shown of compiled rows, by what the pass that takes hidden rows out answers and the table that it leaves
abbrev pub kept_text : List ℕ → Result ℕ Refusal → List ℕ
kept_text t (Ok n) = table_text (table_rows n t)
kept_text t (Err f) = refusal (refusal_number f) f.place

-- the listing of compiled rows
unfoldable pub shown_text : List ℕ → List ℕ
shown_text t = kept_text (table_kept t) (kept_of t)

-- what is shown of a file, by what the compile answers and the table that it leaves
abbrev pub compiled_text : List ℕ → Result ℕ Refusal → List ℕ
compiled_text t (Ok n) = shown_text (table_rows n t)
compiled_text t (Err r) = refusal (refusal_number r) r.place

-- the listing of a policy file
unfoldable pub file_text : List ℕ → List ℕ
file_text f = compiled_text (table_after f blank blank) (answer_of f blank blank)

-- THE LISTING, for every input
unfoldable pub listing_of : List ℕ → List ℕ
listing_of b = if right_input b then file_text (words_in b) else refusal (reason_number WrongInput) 0

-- the text, and that no row and no priority is left over
pub record ListedRows (f : List ℕ) (n : ℕ) (t : List ℕ) : Type 0 where
  pub text : file_text f ≡ rows_text n t
  pub rows : length (rows_in t) ≡ n
  pub priorities : length (priorities_of t) ≡ n

-- of the compiled rows t, those that stay when the hidden ones are out
pub record ListedKept (f t : List ℕ) : Type 0 where
  pub count : ℕ
  pub stay : kept_of t ≡ Ok count
  pub listed : ListedRows f count (table_rows count (table_kept t))
