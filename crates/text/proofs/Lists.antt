-- What is listed, by what the compile answers in blank buffers: its rows pass the table's check, so do those of them that stay, and these fit the
-- numbering's buffers, so neither the pass nor the numbering refuses anything. Assumes nothing.
use Rattle.std.proofs.Common.{ℕ, ◌*◌, ◌≤◌, ◌<◌, arith, ◌≡◌, sym, ap, ◌∙◌, false, List, length, take, take_all, length-take-le, le-leb, Ok}
use mathlib.Core.Bool.{and-false}
use lib.ListN.{length-replicate}
use borrow.Author.Tests.{lt-leb}
use Rattle.logic.proofs.Tests.{by_le}
use Rattle.theory.specs.Number.{level_count}
use Rattle.row.specs.Row.{row_length, table_rows}
use Rattle.table.specs.Table.{row_count, RightTable}
use Rattle.table.proofs.Tables.{check-exactly, length-rows}
use Rattle.hidden.specs.Hidden.{kept_rows, kept_of, table_kept}
use Rattle.hidden.specs.Theorems.{KeptTells}
use Rattle.hidden.proofs.Laws.{kept-rows, right_kept}
use Rattle.compile.specs.Compile.{answer_of, table_after}
use Rattle.compile.proofs.Answered.{answers-rows}
use Rattle.priority.specs.Numbering.{levels_of, number_of}
use Rattle.priority.proofs.Whole.{priorities-many}
use Rattle.show.specs.Sheet.{listing_room, table_text, rows_text}
use Rattle.text.specs.declared.TheConstants.{INPUT_ROOM}
use Rattle.text.specs.Listing.{longest_input, right_input, blank, shown_text, file_text, listing_of, ListedRows}
use Rattle.text.specs.Theorems.{ListsRows, ListsRefused, RefusedInput, KnownByFirst, KnownByRoom}
use Rattle.text.proofs.Right.{table-right}

-- the rows of a file, where the compile answers rows
module _ (f : List ℕ) (n : ℕ) (e : answer_of f blank blank ≡ Ok n) where
  few : n ≤ listing_room
  few = let k : length blank ≡ row_length * listing_room = length-replicate {A = ℕ} (row_length * listing_room) 0 in omega
      (arith, (answers-rows f blank blank n e).fits)

  -- the compiled rows
  abbrev compiled : List ℕ
  compiled = table_rows n (table_after f blank blank)

  checked : RightTable compiled × (n ≡ row_count compiled)
  checked = (check-exactly compiled n).0 (table-right f blank blank n e)

  -- how many of them stay, and what stands of them
  abbrev stay : ℕ
  stay = length (kept_rows compiled)

  abbrev shown : List ℕ
  shown = table_rows stay (table_kept compiled)

  stays : kept_of compiled ≡ Ok stay
  stays = right_kept compiled checked.0

  told : KeptTells compiled stay
  told = kept-rows compiled stay stays

  fewer : stay ≤ listing_room
  fewer = omega (arith, few, checked.1, told.fewer)

  many : stay ≡ row_count shown
  many = ((check-exactly shown stay).0 told.check).1

  numbers : number_of shown listing_room listing_room ≡ Ok (level_count (levels_of shown))
  unfolding number_of
  numbers = rw (told.check, le-leb stay listing_room fewer)

  pub listed : ListedRows f stay shown
  unfolding file_text shown_text table_text
  listed = record {
    text = rw (e, stays, numbers) (ap (λ k. rows_text k shown) (sym many));
    rows = length-rows shown ∙ sym many;
    priorities = priorities-many shown ∙ sym many;
  }

pub lists-rows : ListsRows
lists-rows f n e = record { count = stay f n e; stay = stays f n e; listed = listed f n e }

pub lists-refused : ListsRefused
unfolding file_text
lists-refused f r e = rw e

pub refused-input : RefusedInput
unfolding listing_of
refused-input b e = rw e

-- an input that is too long is refused
too_long : (b : List ℕ) → longest_input < length b → right_input b ≡ false
unfolding right_input
too_long b h = rw (lt-leb (length b) longest_input h, and-false)

pub known-by-first : KnownByFirst
unfolding listing_of
known-by-first b n h =
    by_le (length b) n
    (λ k. ap listing_of (take_all n b k))
    (λ k.
    let e : length (take n b) ≡ n = length-take-le n b (omega arith) in
    rw (too_long (take n b) (omega arith), too_long b (omega arith)))

pub known-by-room : KnownByRoom
known-by-room b = known-by-first b INPUT_ROOM (omega arith)
