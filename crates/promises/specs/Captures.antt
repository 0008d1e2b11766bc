-- A capture at a time, sentence by sentence as it was asked for. It is said of the definitions that the contracts cite:
--
--   capture_of, answers_after   capture::scan_capture   of a table, the words of the packets and a buffer: the answer,
--                                                       and every word of the buffer after it
--   scan_of                     table::scan             of a table and one packet
--
-- and in these words:
--
--   single ws ps i      what a single scan answers of packet i
--   bad ws ps i         it refuses that packet with 11
--   Packets ps n        the words are n packets, and not too many
--   Good ws ps n        and none of them is bad
--   Needs ws ps room n  what a call needs that answers n packets
--   Leaves ws ps old n  what it leaves in the buffer
--   Answering           what is answered, and the words after it
--   Refusing            what is refused, in which order, and the words after it
--   capture_cases       worked cases: calls, and what they give
use Rattle.std.specs.Prelude.{ℕ, ◌+◌, ◌*◌, ◌%◌, ◌≤◌, ◌<◌, ◌≡◌, Bool, true, false, not, List, [], ◌∷◌, ◌++◌, Result, Ok, Err, ◌↔◌, length, take, drop, ◌==◌, slice_index}
use Rattle.theory.specs.Number.{FirstPlace}
use Rattle.action.specs.Action.{kind_of, rate_of}
use Rattle.row.specs.Row.{right_row}
use Rattle.refusal.specs.Refusals.{refusal_at, answer_number}
use Rattle.refusal.specs.declared.Reason.TheVariants.{WrongPacket, WrongTable, WrongRow, WrongCapture, ShortAnswers}
use Rattle.refusal.specs.declared.Refusal.{Refusal}
use Rattle.table.specs.Table.{row_count, right_length, check_of, row_at, RightTable}
use Rattle.table.specs.Scan.{scan_of, scan_action, scan_tried}
use Rattle.table.specs.declared.Found.{Found}
use Rattle.capture.specs.Capture.{capture_of, answers_after}
use Rattle.promises.specs.Cases.{Case, k, Hold}
use Rattle.promises.specs.Files.{fault}
use Rattle.promises.specs.Fields.{acted, packet}
use Rattle.promises.specs.Trees.{nines, at_port, scanned}

-- what a single scan answers of packet i, which is six words from word 6 i on
abbrev pub single : List ℕ → List ℕ → ℕ → Result Found Refusal
single ws ps i = scan_of ws (take 6 (drop (i * 6) ps))

-- it refuses that packet
abbrev pub bad : List ℕ → List ℕ → ℕ → Bool
bad ws ps i = answer_number (single ws ps i) == 11

-- "Take up to 4,096 of them in one call": the words are n packets, and not too many
pub record Packets (ps : List ℕ) (n : ℕ) : Type 0 where
  pub whole : length ps ≡ n * 6
  pub few : n ≤ 4096

-- and none of them is bad
pub record Good (ws ps : List ℕ) (n : ℕ) : Type 0 where
  pub packets : Packets ps n
  pub none : (i : ℕ) → i < n → bad ws ps i ≡ false

-- what a call needs that answers n packets
pub record Needs (ws ps : List ℕ) (room n : ℕ) : Type 0 where
  pub packets : Packets ps n
  -- "against one table."
  pub table : RightTable ws
  -- "The result equals single scans": none of these is refused
  pub scanned : (i : ℕ) → i < n → answer_number (single ws ps i) ≡ 0
  pub fits : n * 3 ≤ room

-- what it leaves in the buffer, whose words were `old`
pub record Leaves (ws ps old : List ℕ) (n : ℕ) : Type 0 where
  -- "For each, write kind, rate and rows tried into a lent buffer, three words a packet,": as the single scan of each
  -- has them, "in order;"
  pub kind : (i : ℕ) → i < n → slice_index (answers_after ws ps old) (i * 3) ≡ kind_of (scan_action (single ws ps i))
  pub rate : (i : ℕ) → i < n
      → slice_index (answers_after ws ps old) (i * 3 + 1) ≡ rate_of (scan_action (single ws ps i))
  pub tried : (i : ℕ) → i < n → slice_index (answers_after ws ps old) (i * 3 + 2) ≡ scan_tried (single ws ps i)
  -- "the rest unchanged."
  pub rest : (j : ℕ) → n * 3 ≤ j → slice_index (answers_after ws ps old) j ≡ slice_index old j
  pub long : length (answers_after ws ps old) ≡ length old

pub record Answering : Type 0 where
  -- what needs no more is answered, and nothing else
  pub exactly : (ws ps : List ℕ) (room n : ℕ) → (capture_of ws ps room ≡ Ok n) ↔ Needs ws ps room n
  pub words : (ws ps old : List ℕ) (n : ℕ) → capture_of ws ps (length old) ≡ Ok n → Leaves ws ps old n
  -- "no packets is a good call.": with any buffer, also an empty one; the table is asked as ever
  pub nothing : (ws old : List ℕ) → RightTable ws
      → (capture_of ws [] (length old) ≡ Ok 0) × (answers_after ws [] old ≡ old)
  pub nothing_refused : (ws : List ℕ) (room : ℕ) (f : Refusal) → check_of ws ≡ Err f → capture_of ws [] room ≡ Err f

pub record Refusing : Type 0 where
  -- "Refusals, in order: 19 packet words not a multiple of six, or too many;": whatever else is wrong
  pub part : (ws ps : List ℕ) (room : ℕ) → ¬ (length ps % 6 ≡ 0)
      → capture_of ws ps room ≡ Err (refusal_at WrongCapture 0)
  pub many : (ws ps : List ℕ) (room : ℕ) → 24576 < length ps → capture_of ws ps room ≡ Err (refusal_at WrongCapture 0)
  -- "One bad packet refuses the whole call.", "11 with the first bad packet's index;": exactly there, whatever the
  -- table and the buffer are
  pub packet : (ws ps : List ℕ) (room n i : ℕ) → Packets ps n
      → (capture_of ws ps room ≡ Err (refusal_at WrongPacket i)) ↔ FirstPlace (bad ws ps) n i
  -- "15;"
  pub table : (ws ps : List ℕ) (room n : ℕ) → Good ws ps n → right_length ws ≡ false
      → capture_of ws ps room ≡ Err (refusal_at WrongTable 0)
  -- "16;": at the first wrong row
  pub row : (ws ps : List ℕ) (room n i : ℕ) → Good ws ps n → right_length ws ≡ true
      → FirstPlace (λ j. not (right_row (row_at ws j))) (row_count ws) i
      → capture_of ws ps room ≡ Err (refusal_at WrongRow i)
  -- "20 answer buffer too short."
  pub buffer : (ws ps : List ℕ) (room n : ℕ) → Good ws ps n → RightTable ws → room < n * 3
      → capture_of ws ps room ≡ Err (refusal_at ShortAnswers 0)
  -- and no word is written then
  pub stays : (ws ps old : List ℕ) (f : Refusal) → capture_of ws ps (length old) ≡ Err f
      → answers_after ws ps old ≡ old

-- a packet by its in-port, and one whose last word is too large
abbrev pub from : ℕ → List ℕ
from in_port = in_port ∷ 0 ∷ 0 ∷ 0 ∷ 0 ∷ 0 ∷ []

abbrev pub too_large : List ℕ
too_large = 7 ∷ 0 ∷ 0 ∷ 0 ∷ 0 ∷ 65536 ∷ []

-- in-port 8 is denied, and in-port 7 gets a rate of 5
abbrev pub two_ports : List ℕ
two_ports = at_port 8 2 0 ++ at_port 7 3 5

-- from in-port 7, which the second row meets; from 9, which none does; from 8, which the first does
abbrev pub three_packets : List ℕ
three_packets = from 7 ++ from 9 ++ from 8

-- the second and the third packet are bad
abbrev pub two_bad : List ℕ
two_bad = from 7 ++ too_large ++ from 65536

-- 1: what is answered and written; 2: no packets; 3: what is refused, in order
abbrev pub capture_cases : List Case
capture_cases =
    k 1 (capture_of two_ports three_packets 9) (Ok 3)
    ∷ k 1 (answers_after two_ports three_packets (nines 10)) (3 ∷ 5 ∷ 2 ∷ 0 ∷ 0 ∷ 2 ∷ 2 ∷ 0 ∷ 1 ∷ 9 ∷ [])
    ∷ k 1 (answers_after scanned (packet ++ from 8 ++ from 0) (nines 11))
    (1 ∷ 0 ∷ 2 ∷ 2 ∷ 0 ∷ 1 ∷ 3 ∷ 5 ∷ 3 ∷ 9 ∷ 9 ∷ [])
    -- the same packet twice, and a table without rows
    ∷ k 1 (answers_after two_ports (from 8 ++ from 8) (nines 6)) (2 ∷ 0 ∷ 1 ∷ 2 ∷ 0 ∷ 1 ∷ [])
    ∷ k 1 (answers_after [] (from 7) (nines 4)) (0 ∷ 0 ∷ 0 ∷ 9 ∷ [])
    ∷ k 2 (capture_of two_ports [] 0) (Ok 0)
    ∷ k 2 (answers_after two_ports [] (nines 2)) (nines 2)
    ∷ k 2 (fault (capture_of (nines 12) [] 0)) (15, 0)
    ∷ k 2 (fault (capture_of (two_ports ++ acted 1 1) [] 0)) (16, 2)
    -- 19 before all others
    ∷ k 3 (fault (capture_of (nines 12) (two_bad ++ (7 ∷ [])) 0)) (19, 0)
    ∷ k 3 (fault (capture_of two_ports (7 ∷ 0 ∷ 0 ∷ 0 ∷ 0 ∷ []) 3)) (19, 0)
    ∷ k 3 (answers_after two_ports (from 7 ++ (7 ∷ [])) (nines 6)) (nines 6)
    -- 11 at the first bad packet, before 15 and 20; the answer for the packet before it is not written
    ∷ k 3 (fault (capture_of (nines 12) two_bad 0)) (11, 1)
    ∷ k 3 (fault (capture_of two_ports two_bad 9)) (11, 1)
    ∷ k 3 (answers_after two_ports two_bad (nines 9)) (nines 9)
    -- 15 and 16 before 20
    ∷ k 3 (fault (capture_of (nines 12) three_packets 0)) (15, 0)
    ∷ k 3 (fault (capture_of (two_ports ++ acted 1 1 ++ acted 1 1) three_packets 0)) (16, 2)
    ∷ k 3 (answers_after (two_ports ++ acted 1 1) three_packets (nines 9)) (nines 9)
    -- 20 for a word too few
    ∷ k 3 (fault (capture_of two_ports three_packets 8)) (20, 0)
    ∷ k 3 (answers_after two_ports three_packets (nines 8)) (nines 8)
    ∷ []

-- EVERY SENTENCE
pub record CaptureScans : Type 0 where
  pub answering : Answering
  pub refusing : Refusing
  pub cases : Hold capture_cases
