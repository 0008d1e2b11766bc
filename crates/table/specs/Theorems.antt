-- What is proved of tables and the scan. A law of the same name in proofs/ proves each statement: check-exactly proves
-- CheckExactly.
--
--   CheckExactly               the check passes exactly the right tables
--   CheckFirst                 a wrong row is named by the first place that has one, also behind a matching row
--   TableRows, TableWords      the rows of a right table are right, and the words of right rows are a right table
--   RowsRead, RowsWritten      the words of rows are read as these rows, and the rows of a right table are written as
--                              its words
--   ScanFirst, ScanUnmatched   the scan's answer where row i is the first that matches, and where none does
--   ScanRefused                the order of the refusals: the packet, then the table
use Rattle.std.specs.Prelude.{ℕ, suc, ◌≤◌, ◌<◌, ◌≡◌, true, false, not, List, Ok, Err, ◌↔◌, length, slice_index_or}
use Rattle.words.specs.Records.{flat}
use Rattle.theory.specs.declared.Row.{Row}
use Rattle.theory.specs.Rows.{matches_at}
use Rattle.theory.specs.Number.{FirstPlace}
use Rattle.refusal.specs.Refusals.{refusal_at}
use Rattle.refusal.specs.declared.Reason.TheVariants.{WrongPacket, WrongRow}
use Rattle.refusal.specs.declared.Refusal.{Refusal}
use Rattle.flow.specs.Packet.{packet_of, right_packet_words}
use Rattle.flow.specs.Match.{meets}
use Rattle.flow.specs.declared.Match.{Match}
use Rattle.action.specs.declared.Action.{Action}
use Rattle.action.specs.declared.Action.TheVariants.{DontCare}
use Rattle.row.specs.Row.{most_rows, row_words, right_row, RightRow, rows_in}
use Rattle.table.specs.Table.{row_count, past, right_length, check_of, row_at, RightTable}
use Rattle.table.specs.Scan.{scan_of}
use Rattle.logic.specs.Lists.{All}

-- the check passes exactly the right tables, and answers how many rows they have
abbrev pub CheckExactly : Type 0
CheckExactly = (ws : List ℕ) (n : ℕ) → (check_of ws ≡ Ok n) ↔ (RightTable ws × (n ≡ row_count ws))

-- in a table of right length the first wrong row is named
abbrev pub CheckFirst : Type 0
CheckFirst =
    (ws : List ℕ) (i : ℕ) → right_length ws ≡ true → FirstPlace (λ j. not (right_row (row_at ws j))) (row_count ws) i
    → check_of ws ≡ Err (refusal_at WrongRow i)

-- each row of a right table is right
abbrev pub TableRows : Type 0
TableRows = (ws : List ℕ) → RightTable ws → All RightRow (rows_in ws)

-- the words of right rows, not too many, are a right table
abbrev pub TableWords : Type 0
TableWords = (N : List (Row Match Action)) → All RightRow N → length N ≤ most_rows → RightTable (flat row_words N)

-- rows that are written are read again
abbrev pub RowsRead : Type 0
RowsRead = (N : List (Row Match Action)) → rows_in (flat row_words N) ≡ N

-- a right table that is read is written again
abbrev pub RowsWritten : Type 0
RowsWritten = (ws : List ℕ) → RightTable ws → flat row_words (rows_in ws) ≡ ws

-- where row i is the first that matches: its action, and i + 1 rows tried
abbrev pub ScanFirst : Type 0
ScanFirst = (ws packet : List ℕ) (i : ℕ) → RightTable ws → right_packet_words packet ≡ true
    → FirstPlace (matches_at meets past (rows_in ws) (packet_of packet)) (row_count ws) i
    → scan_of ws packet ≡ Ok (record { action = (slice_index_or (rows_in ws) i past).action; tried = suc i })

-- where no row matches: don't care, and all rows tried
abbrev pub ScanUnmatched : Type 0
ScanUnmatched = (ws packet : List ℕ) → RightTable ws → right_packet_words packet ≡ true
    → ((i : ℕ) → i < row_count ws → matches_at meets past (rows_in ws) (packet_of packet) i ≡ false)
    → scan_of ws packet ≡ Ok (record { action = DontCare; tried = row_count ws })

-- words that are no packet are refused whatever the table is; else a table that is not right is refused as the check
-- has it
abbrev pub ScanRefused : Type 0
ScanRefused = (ws packet : List ℕ)
    → (right_packet_words packet ≡ false → scan_of ws packet ≡ Err (refusal_at WrongPacket 0))
    × (right_packet_words packet ≡ true → (f : Refusal) → check_of ws ≡ Err f → scan_of ws packet ≡ Err f)
