-- What is proved of captures. A law of the same name in proofs/ proves each statement: capture-tells proves
-- CaptureTells.
--
--   Captured ws ps old n   what an answer of n packets tells of the buffer that was `old`
--   CaptureTells           every answer of packets tells that
--   Takes ws ps room n     what a capture of n packets needs
--   CaptureTaken           what needs no more is answered
--   LengthFirst, ThenPackets, ThenTable, ThenBuffer
--                          the refusals, in their order
--   CaptureStays           a refusal leaves every word
use Rattle.std.specs.Prelude.{ℕ, ◌*◌, ◌≤◌, ◌<◌, ◌≡◌, true, false, not, List, Ok, Err, length, take, drop}
use Rattle.theory.specs.Number.{FirstPlace}
use Rattle.flow.specs.Packet.{packet_length, packet_of, right_packet_words}
use Rattle.row.specs.Row.{rows_in}
use Rattle.refusal.specs.Refusals.{refusal_at}
use Rattle.refusal.specs.declared.Reason.TheVariants.{WrongPacket, WrongCapture, ShortAnswers}
use Rattle.refusal.specs.declared.Refusal.{Refusal}
use Rattle.table.specs.Table.{check_of, RightTable}
use Rattle.table.specs.Scan.{found, scan_of}
use Rattle.capture.specs.Capture.{most_packets, found_length, found_words, packet_count, packet_at, right_capture, capture_of, answers_after}

-- what a capture of n packets needs: a right table, whole packets and not too many, each right, and room for what is
-- found
pub record Takes (ws ps : List ℕ) (room n : ℕ) : Type 0 where
  pub table : RightTable ws
  pub whole : length ps ≡ n * packet_length
  pub few : n ≤ most_packets
  pub packets : (i : ℕ) → i < n → right_packet_words (packet_at ps i) ≡ true
  pub fits : n * found_length ≤ room

-- what is answered so is what single scans answer, packet by packet; the words behind it stay
pub record Captured (ws ps old : List ℕ) (n : ℕ) : Type 0 where
  pub takes : Takes ws ps (length old) n
  pub scans : (i : ℕ) → i < n → scan_of ws (packet_at ps i) ≡ Ok (found 0 (rows_in ws) (packet_of (packet_at ps i)))
  pub words : (i : ℕ) → i < n → take found_length (drop (i * found_length) (answers_after ws ps old))
      ≡ found_words (found 0 (rows_in ws) (packet_of (packet_at ps i)))
  pub rest : drop (n * found_length) (answers_after ws ps old) ≡ drop (n * found_length) old
  pub long : length (answers_after ws ps old) ≡ length old

-- every answer of packets tells that
abbrev pub CaptureTells : Type 0
CaptureTells = (ws ps old : List ℕ) (n : ℕ) → capture_of ws ps (length old) ≡ Ok n → Captured ws ps old n

-- and what is as it has to be is answered
abbrev pub CaptureTaken : Type 0
CaptureTaken = (ws ps : List ℕ) (room n : ℕ) → Takes ws ps room n → capture_of ws ps room ≡ Ok n

-- words that are not whole packets, or too many, are refused whatever else is wrong
abbrev pub LengthFirst : Type 0
LengthFirst = (ws ps : List ℕ) (room : ℕ) → right_capture ps ≡ false
    → capture_of ws ps room ≡ Err (refusal_at WrongCapture 0)

-- then the first wrong packet, whatever the table is
abbrev pub ThenPackets : Type 0
ThenPackets = (ws ps : List ℕ) (room i : ℕ) → right_capture ps ≡ true
    → FirstPlace (λ j. not (right_packet_words (packet_at ps j))) (packet_count ps) i
    → capture_of ws ps room ≡ Err (refusal_at WrongPacket i)

-- then the table, also where there are no packets
abbrev pub ThenTable : Type 0
ThenTable = (ws ps : List ℕ) (room : ℕ) (f : Refusal) → right_capture ps ≡ true
    → ((i : ℕ) → i < packet_count ps → right_packet_words (packet_at ps i) ≡ true) → check_of ws ≡ Err f
    → capture_of ws ps room ≡ Err f

-- last the buffer
abbrev pub ThenBuffer : Type 0
ThenBuffer = (ws ps : List ℕ) (room : ℕ) → right_capture ps ≡ true
    → ((i : ℕ) → i < packet_count ps → right_packet_words (packet_at ps i) ≡ true) → RightTable ws
    → room < packet_count ps * found_length
    → capture_of ws ps room ≡ Err (refusal_at ShortAnswers 0)

-- a refusal leaves every word
abbrev pub CaptureStays : Type 0
CaptureStays = (ws ps old : List ℕ) (f : Refusal) → capture_of ws ps (length old) ≡ Err f
    → answers_after ws ps old ≡ old
