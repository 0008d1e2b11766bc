-- What is proved of the listing. A law of the same name in proofs/ proves each statement: lists-rows proves ListsRows.
--
--   TableRight                    the rows that the compile leaves pass the table's check, with as many rows
--   ListsRows                     where the compile answers rows, those that are not hidden are listed: neither the
--                                 pass nor the numbering refuses anything
--   ListsRefused                  where the compile refuses, its number and place are listed
--   RefusedInput                  an input that is no file is 18 at place 0
--   KnownByFirst                  one byte more than the longest input has tells what is listed
--   KnownByRoom                   so what fits the array that a program reads into does
--   ExamplesListed                the text of each of some examples
use Rattle.std.specs.Prelude.{ℕ, ◌<◌, ◌≡◌, false, List, [], ◌∷◌, Ok, Err, codes, take}
use Prim.Native.String.{String}
use Rattle.words.specs.Records.{flat}
use Rattle.words.specs.Bytes.{bytes_of}
use Rattle.table.specs.Table.{check_of}
use Rattle.action.specs.Operator.{sibling}
use Rattle.policy.specs.Examples.{tenant, tenant_with, lone}
use Rattle.refusal.specs.Refusals.{reason_number, refusal_number}
use Rattle.refusal.specs.declared.Reason.TheVariants.{WrongInput}
use Rattle.refusal.specs.declared.Refusal.{Refusal}
use Rattle.row.specs.Row.{table_rows}
use Rattle.compile.specs.Compile.{answer_of, table_after}
use Rattle.show.specs.Text.{refusal}
use Rattle.text.specs.declared.TheConstants.{INPUT_ROOM}
use Rattle.text.specs.Listing.{longest_input, right_input, blank, file_text, listing_of, ListedKept}
use Rattle.logic.specs.Lists.{All}

-- the rows that the compile leaves pass the table's check, with as many rows
abbrev pub TableRight : Type 0
TableRight =
    (f t s : List ℕ) (n : ℕ) → answer_of f t s ≡ Ok n → check_of (table_rows n (table_after f t s)) ≡ Ok n

-- THE LISTING HAS A LINE FOR EACH COMPILED ROW THAT IS NOT HIDDEN
abbrev pub ListsRows : Type 0
ListsRows =
    (f : List ℕ) (n : ℕ) → answer_of f blank blank ≡ Ok n → ListedKept f (table_rows n (table_after f blank blank))

-- or it is the compile's refusal
abbrev pub ListsRefused : Type 0
ListsRefused =
    (f : List ℕ) (r : Refusal) → answer_of f blank blank ≡ Err r → file_text f ≡ refusal (refusal_number r) r.place

-- bytes that are not whole words, or too many
abbrev pub RefusedInput : Type 0
RefusedInput = (b : List ℕ) → right_input b ≡ false → listing_of b ≡ refusal (reason_number WrongInput) 0

-- an input is known by its first bytes, if they are one more than the longest has: what is longer is refused
abbrev pub KnownByFirst : Type 0
KnownByFirst = (b : List ℕ) (n : ℕ) → longest_input < n → listing_of (take n b) ≡ listing_of b

-- so by what fits the array that a program reads into
abbrev pub KnownByRoom : Type 0
KnownByRoom = (b : List ℕ) → listing_of (take INPUT_ROOM b) ≡ listing_of b

-- an input, and the lines that are listed of it
pub record Example : Type 0 where
  pub input : List ℕ
  pub listed : List String

-- the tenant's file, the same with a root whose operator is not commutative, a file without rows, no bytes, and one
-- byte
abbrev pub examples : List Example
examples =
    record {
      input = flat bytes_of tenant;
      listed =
          "rows 2 priorities 2\n"
          ∷ "2 * 0.0.0.0/0 10.7.3.9/32 * * * gmb 40000\n"
          ∷ "1 * 0.0.0.0/0 10.7.0.0/16 * * * deny\n"
          ∷ [];
    }
    ∷ record { input = flat bytes_of (tenant_with 1); listed = "refused 10 1\n" ∷ [] }
    ∷ record { input = flat bytes_of (lone sibling); listed = "rows 0 priorities 0\n" ∷ [] }
    ∷ record { input = []; listed = "refused 1 0\n" ∷ [] }
    ∷ record { input = 0 ∷ []; listed = "refused 18 0\n" ∷ [] }
    ∷ []

-- each is listed as it says
abbrev pub ExamplesListed : Type 0
ExamplesListed = All (λ x. listing_of x.input ≡ flat codes x.listed) examples
