-- Hidden rows out, sentence by sentence as it was asked for. It is said of the definitions that the contracts cite:
--
--   kept_of, table_kept   hidden::drop_hidden   of a table: the answer, and every word after it
--   listing_of            text::list            of the bytes of a file
--
-- and in these words:
--
--   row_in ws i         row i of a table
--   Inside ws i j       row i's match lies wholly inside row j's: every packet in range that meets it meets row j's
--   Hidden ws i         it lies wholly inside that of one earlier row
--   Passed ws           what the pass makes of a right table
--   PassRefused         what it refuses, and in which order
--   PassListed          what the listing shows of a file
--   KeptObeysTree       what a switch does that has the rows which stay
use Rattle.std.specs.Prelude.{ℕ, suc, ◌*◌, ◌-◌, ◌≤◌, ◌<◌, ◌≡◌, true, false, not, List, ◌++◌, Ok, Err, ◌↔◌, length, slice_index, slice_index_or}
use Rattle.words.specs.Words.{zeros}
use Rattle.words.specs.Records.{flat}
use Rattle.words.specs.Bytes.{words_in}
use Rattle.theory.specs.Rows.{matches_at}
use Rattle.theory.specs.declared.Row.{Row}
use Rattle.theory.specs.Number.{FirstPlace, Obeyed, has}
use Rattle.flow.specs.Packet.{packet_of, right_packet_words}
use Rattle.flow.specs.Match.{meets, LiesIn}
use Rattle.flow.specs.declared.Match.{Match}
use Rattle.action.specs.declared.Action.{Action}
use Rattle.row.specs.Row.{row_length, right_row, rows_in, table_rows}
use Rattle.refusal.specs.Refusals.{reason_number, refusal_at, answer_number}
use Rattle.refusal.specs.declared.Reason.TheVariants.{NoRoom, WrongTable, WrongRow}
use Rattle.policy.specs.Read.{read_of}
use Rattle.policy.specs.declared.Layout.{Layout}
use Rattle.tree.specs.Action.{tree_action_of}
use Rattle.table.specs.Table.{row_count, past, right_length, row_at, RightTable}
use Rattle.table.specs.Scan.{scan_of, scan_action, scan_tried}
use Rattle.hidden.specs.Hidden.{kept_of, table_kept}
use Rattle.priority.specs.Numbering.{priority}
use Rattle.compile.specs.Compile.{compiled_rows, answer_of, table_after}
use Rattle.show.specs.Text.{refusal}
use Rattle.show.specs.Sheet.{listing_room, rows_text}
use Rattle.text.specs.Listing.{right_input, blank, listing_of}

-- row i of a table
abbrev pub row_in : List ℕ → ℕ → Row Match Action
row_in ws i = slice_index_or (rows_in ws) i past

-- every packet in range that meets row i's match meets row j's
abbrev pub Inside : List ℕ → ℕ → ℕ → Type 0
Inside ws i j = LiesIn (row_in ws i).matching (row_in ws j).matching

-- "whose match lies wholly inside one earlier row's match": of the given table, whether that row goes or stays
pub record Hidden (ws : List ℕ) (i : ℕ) : Type 0 where
  pub earlier : ℕ
  pub before : earlier < i
  pub inside : Inside ws i earlier

-- "Add a pass over a table": of a right table so many rows stay, those at the places given, and t is what they are then
pub record Passed (ws : List ℕ) : Type 0 where
  pub count : ℕ
  pub places : List ℕ
  -- "and the new row count is answered."
  pub answer : kept_of ws ≡ Ok count
  pub many : length places ≡ count
  -- "that removes each row whose match lies wholly inside one earlier row's match,": those, and no other
  pub removes : (i : ℕ) → i < row_count ws → (has i places ≡ false) ↔ Hidden ws i
  pub of_table : (i : ℕ) → has i places ≡ true → i < row_count ws
  -- "and keeps the rest in order."
  pub order : (k : ℕ) → suc k < count → slice_index places k < slice_index places (suc k)
  -- "Rows hidden only by several rows together stay.": where no one earlier row holds it, a row stays
  pub several : (i : ℕ) → i < row_count ws → ((j : ℕ) → j < i → ¬ (Inside ws i j)) → has i places ≡ true
  -- "Words freed at the end become 0,": every word after the pass is one of a row that stays, or 0
  pub words : table_kept ws ≡ flat (row_at ws) places ++ zeros (length ws - count * row_length)
  -- the rows that stay, as a table
  pub table : RightTable (table_rows count (table_kept ws))
  pub rows : (k : ℕ) → k < count → row_in (table_rows count (table_kept ws)) k ≡ row_in ws (slice_index places k)
  -- "The scan's action is the same for every packet,": words that are no packet are refused alike
  pub action : (p : List ℕ) → let t : List ℕ = table_rows count (table_kept ws) in
      (answer_number (scan_of t p) ≡ answer_number (scan_of ws p))
      × (scan_action (scan_of t p) ≡ scan_action (scan_of ws p))
  -- "and no remaining row can be removed by the rule.": of the rows that stay none is hidden, so a second pass changes
  -- nothing
  pub none_left : (i : ℕ) → i < count → ¬ (Hidden (table_rows count (table_kept ws)) i)
  pub again : let t : List ℕ = table_rows count (table_kept ws) in (kept_of t ≡ Ok count) × (table_kept t ≡ t)
  -- "Rows tried are counted in the shorter table,"
  pub tried : (p : List ℕ) (i : ℕ) → right_packet_words p ≡ true → let t : List ℕ = table_rows count (table_kept ws) in
      FirstPlace (matches_at meets past (rows_in t) (packet_of p)) count i → scan_tried (scan_of t p) ≡ suc i
  pub tried_all : (p : List ℕ) → right_packet_words p ≡ true → let t : List ℕ = table_rows count (table_kept ws) in
      ((i : ℕ) → i < count → matches_at meets past (rows_in t) (packet_of p) i ≡ false)
      → scan_tried (scan_of t p) ≡ count

-- "Refusals: 15, then 16, the table unchanged."
pub record PassRefused : Type 0 where
  pub length_first : (ws : List ℕ) → right_length ws ≡ false
      → (kept_of ws ≡ Err (refusal_at WrongTable 0)) × (table_kept ws ≡ ws)
  pub then_rows : (ws : List ℕ) (i : ℕ) → right_length ws ≡ true
      → FirstPlace (λ j. not (right_row (row_at ws j))) (row_count ws) i
      → (kept_of ws ≡ Err (refusal_at WrongRow i)) × (table_kept ws ≡ ws)

pub record PassListed : Type 0 where
  -- "The listing runs it before numbering;": of the compiled rows those that stay are numbered and listed
  pub before_numbering : (b : List ℕ) (n k : ℕ) → right_input b ≡ true
      → answer_of (words_in b) blank blank ≡ Ok n
      → let ws : List ℕ = table_rows n (table_after (words_in b) blank blank) in
      kept_of ws ≡ Ok k → listing_of b ≡ rows_text k (table_rows k (table_kept ws))
  -- "and refusal 12 still speaks of the rows before the pass.": given where these outnumber the room, and nowhere else
  pub room : (b : List ℕ) (l : Layout) → right_input b ≡ true → read_of (words_in b) ≡ Ok l
      → listing_room < length (compiled_rows (words_in b) l) → listing_of b ≡ refusal (reason_number NoRoom) 0
  pub in_room : (b : List ℕ) (l : Layout) → right_input b ≡ true → read_of (words_in b) ≡ Ok l
      → length (compiled_rows (words_in b) l) ≤ listing_room
      → answer_of (words_in b) blank blank ≡ Ok (length (compiled_rows (words_in b) l))

-- WITH THE TABLE THAT FOLLOWS THE TREE AND THE SMALLEST NUMBERING: whatever row a switch obeys of those that stay, by
-- the priorities that they get, its action is the tree's
abbrev pub KeptObeysTree : Type 0
KeptObeysTree =
    (f t s ps cs p : List ℕ) (n k i : ℕ) → answer_of f t s ≡ Ok n
    → let ws : List ℕ = table_rows n (table_after f t s) in
    kept_of ws ≡ Ok k → k ≤ length ps → k ≤ length cs → right_packet_words p ≡ true
    → let vs : List ℕ = table_rows k (table_kept ws) in
    Obeyed meets past (rows_in vs) (priority vs ps cs) (packet_of p) i
    → tree_action_of f p ≡ Ok (row_in vs i).action

-- EVERY SENTENCE
pub record HiddenRows : Type 0 where
  pub passed : (ws : List ℕ) → RightTable ws → Passed ws
  pub refused : PassRefused
  pub listed : PassListed
  pub obeyed : KeptObeysTree
