-- A capture: packets that stand one behind the other in a list of words, each scanned in one table; the answer, and
-- every word of the lent buffer after it. See docs/FORMAT.md, "Captures" and "Numbers a caller can get back".
--
--   most_packets               the most packets of a capture
--   found_length, found_words  how many words are written for a packet, and these
--   packet_count ps            how many packets the words hold
--   packet_at ps i             the words of packet i
--   packets_in ps              the packets
--   right_capture ps           the words are whole packets, and not too many
--   check_packets ps           the first wrong packet, or how many packets there are
--   by_tests x y n             the answer, by what the tests of the packets and of the table find
--   capture_of ws ps n         the answer, for a table, packets and a buffer of n words
--   words_for ws p             the words of what is found for a packet
--   captured_words ws ps       those for each packet, in order
--   answers_by ws ps old x     the buffer afterwards, by the answer
--   answers_after ws ps old    the buffer afterwards
use Rattle.std.specs.Prelude.{ℕ, ◌*◌, ◌/◌, ◌%◌, Bool, ◌&&◌, List, [], ◌∷◌, ◌++◌, Result, Ok, Err, length, take, drop, if◌then◌else◌, ◌==◌, nat_le}
use Rattle.words.specs.Records.{records, rows_of, flat}
use Rattle.flow.specs.Packet.{packet_length, packet_of, right_packet_words}
use Rattle.flow.specs.declared.Packet.{Packet}
use Rattle.action.specs.Action.{kind_of, rate_of}
use Rattle.row.specs.Row.{rows_in}
use Rattle.refusal.specs.Refusals.{refusal_at}
use Rattle.refusal.specs.declared.Reason.TheVariants.{WrongPacket, WrongCapture, ShortAnswers}
use Rattle.refusal.specs.declared.Refusal.{Refusal}
use Rattle.table.specs.Table.{first_wrong, check_of}
use Rattle.table.specs.Scan.{found}
use Rattle.table.specs.declared.Found.{Found}

-- the most packets of a capture
abbrev pub most_packets : ℕ
most_packets = 4096

-- how many words are written for a packet
abbrev pub found_length : ℕ
found_length = 3

-- what is found for a packet: the action's kind and rate, and how many rows were tried
abbrev pub found_words : Found → List ℕ
found_words f = kind_of f.action ∷ rate_of f.action ∷ f.tried ∷ []

-- how many packets the words hold
abbrev pub packet_count : List ℕ → ℕ
packet_count ps = length ps / packet_length

-- the words of packet i
abbrev pub packet_at : List ℕ → ℕ → List ℕ
packet_at ps i = take packet_length (drop (i * packet_length) ps)

-- the packets that the words hold
abbrev pub packets_in : List ℕ → List Packet
packets_in ps = rows_of packet_length packet_of ps

-- the words are whole packets, and not too many
unfoldable pub right_capture : List ℕ → Bool
right_capture ps = length ps % packet_length == 0 && nat_le (packet_count ps) most_packets

-- the packets by themselves: first the length, then each packet
unfoldable pub check_packets : List ℕ → Result ℕ Refusal
check_packets ps =
    if right_capture ps
    then first_wrong right_packet_words WrongPacket 0 (records (packet_count ps) packet_length ps)
    else Err (refusal_at WrongCapture 0)

-- the answer, by what the tests of the packets and of the table find, for a buffer of so many words
abbrev pub by_tests : Result ℕ Refusal → Result ℕ Refusal → ℕ → Result ℕ Refusal
by_tests (Err f) rows room = Err f
by_tests (Ok n) (Err f) room = Err f
by_tests (Ok n) (Ok k) room = if nat_le (n * found_length) room then Ok n else Err (refusal_at ShortAnswers 0)

-- THE ANSWER: first the packets, then the table, then the buffer; how many packets there are
unfoldable pub capture_of : List ℕ → List ℕ → ℕ → Result ℕ Refusal
capture_of ws ps room = by_tests (check_packets ps) (check_of ws) room

-- the words of what is found for a packet in a table
abbrev pub words_for : List ℕ → Packet → List ℕ
words_for ws p = found_words (found 0 (rows_in ws) p)

-- what is found for each packet, one behind the other
unfoldable pub captured_words : List ℕ → List ℕ → List ℕ
captured_words ws ps = flat (words_for ws) (packets_in ps)

-- the buffer afterwards, by the answer: what was found and then the words that were there, or what was there
abbrev pub answers_by : List ℕ → List ℕ → List ℕ → Result ℕ Refusal → List ℕ
answers_by ws ps old (Ok n) = captured_words ws ps ++ drop (length (captured_words ws ps)) old
answers_by ws ps old (Err f) = old

-- THE BUFFER afterwards
unfoldable pub answers_after : List ℕ → List ℕ → List ℕ → List ℕ
answers_after ws ps old = answers_by ws ps old (capture_of ws ps (length old))
