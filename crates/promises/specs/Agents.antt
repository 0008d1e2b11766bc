-- The agent's calls, sentence by sentence as they were asked for. It is said of the definitions that the contracts of
-- exports::agent_scan and exports::agent_number, and of the exports of the static library, cite:
--
--   scan_number, scan_answer             of a table, a packet and an answer buffer, all bytes: what is returned, and
--                                        the answer buffer after it
--   numbering_number, numbering_answer, priorities_left, chain_left
--                                        of a table, a priority, a chain and an answer buffer: the same
--
-- and in these words:
--
--   little_endian b j   the word of the bytes 4 j to 4 j + 3 of b
--   Spells b ws         the bytes b are the words ws, each of its four bytes, the lowest first
--   small b             each of b is a byte
--   Scanning            the scan, where the lengths are right
--   Numbering           the numbering, where the lengths are right
--   Lengths             what is refused first of all, and that nothing is written then
--   agent_cases         worked cases: calls, and what they give
use Rattle.std.specs.Prelude.{ℕ, ◌+◌, ◌*◌, ◌/◌, ◌%◌, ◌≤◌, ◌<◌, ◌≡◌, List, [], ◌∷◌, ◌++◌, Ok, Err, ◌↔◌, ◌⊎◌, length, slice_index, replicate}
use Rattle.action.specs.Action.{kind_of, rate_of}
use Rattle.refusal.specs.Refusals.{answer_number, answer_place}
use Rattle.refusal.specs.declared.Refusal.{Refusal}
use Rattle.table.specs.Table.{row_count}
use Rattle.table.specs.Scan.{scan_of, scan_action, scan_tried}
use Rattle.priority.specs.Numbering.{number_of, priorities_after, chain_after, answer_count}
use Rattle.exports.specs.Exports.{scan_number, scan_answer}
use Rattle.exports.specs.Exports.{numbering_number, numbering_answer, priorities_left, chain_left}
use Rattle.promises.specs.Cases.{Case, k, Hold, dotted}
use Rattle.promises.specs.Trees.{nines, at_port}
use Rattle.promises.specs.Told.{between}

-- "It wants to hand a table and a packet over as little-endian bytes.": the word at place j
abbrev pub little_endian : List ℕ → ℕ → ℕ
little_endian b j =
    slice_index b (j * 4) + 256 * slice_index b (j * 4 + 1) + 65536 * slice_index b (j * 4 + 2)
    + 16777216 * slice_index b (j * 4 + 3)

-- the bytes are these words, and no more
pub record Spells (b ws : List ℕ) : Type 0 where
  pub long : length b ≡ length ws * 4
  pub each : (j : ℕ) → j < length ws → little_endian b j ≡ slice_index ws j

-- each is a byte
abbrev pub small : List ℕ → Type 0
small b = (i : ℕ) → slice_index b i < 256

-- "Export the scan and the numbering to it, with buffers as byte slices;"
pub record Scanning (t p a ws ps : List ℕ) : Type 0 where
  -- "Each call returns 0 or the refusal number,": as the scan of the words has it
  pub returns : scan_number t p a ≡ answer_number (scan_of ws ps)
  -- "and fills a 16-byte answer with place (0 on success), then kind, rate and rows tried,"; "each answer equals the
  -- one on words,"
  pub fills : Spells (scan_answer t p a)
      (answer_place (scan_of ws ps) ∷ kind_of (scan_action (scan_of ws ps)) ∷ rate_of (scan_action (scan_of ws ps))
      ∷ scan_tried (scan_of ws ps) ∷ [])
  pub success : scan_number t p a ≡ 0 → little_endian (scan_answer t p a) 0 ≡ 0
  -- "a refusal has zeros after the place.", and the place is there
  pub refused : (r : Refusal) → scan_of ws ps ≡ Err r → Spells (scan_answer t p a) (r.place ∷ 0 ∷ 0 ∷ 0 ∷ [])
  -- what can be returned
  pub numbers : (scan_number t p a ≡ 0) ⊎ ((scan_number t p a ≡ 11) ⊎ between 15 16 (scan_number t p a))

pub record Numbering (t p c a ws ps cs : List ℕ) : Type 0 where
  pub returns : numbering_number t p c a ≡ answer_number (number_of ws (length ps) (length cs))
  -- ", or the priority count and two zeros;"
  pub fills : Spells (numbering_answer t p c a)
      (answer_place (number_of ws (length ps) (length cs)) ∷ answer_count (number_of ws (length ps) (length cs))
      ∷ 0 ∷ 0 ∷ [])
  pub success : numbering_number t p c a ≡ 0 → little_endian (numbering_answer t p c a) 0 ≡ 0
  pub refused : (r : Refusal) → number_of ws (length ps) (length cs) ≡ Err r
      → Spells (numbering_answer t p c a) (r.place ∷ 0 ∷ 0 ∷ 0 ∷ [])
  -- both buffers are those of the words
  pub priorities : Spells (priorities_left t p c a) (priorities_after ws ps cs)
  pub chain : Spells (chain_left t p c a) (chain_after ws ps cs)
  -- "and buffer words beyond the answer stay."
  pub behind_rows : (n j : ℕ) → number_of ws (length ps) (length cs) ≡ Ok n → row_count ws * 4 ≤ j
      → slice_index (priorities_left t p c a) j ≡ slice_index p j
  pub behind_chain : (n j : ℕ) → number_of ws (length ps) (length cs) ≡ Ok n → n * 4 ≤ j
      → slice_index (chain_left t p c a) j ≡ slice_index c j
  -- after a refusal every byte
  pub stay : (r : Refusal) → number_of ws (length ps) (length cs) ≡ Err r
      → (priorities_left t p c a ≡ p) × (chain_left t p c a ≡ c)
  -- what can be returned
  pub numbers : (numbering_number t p c a ≡ 0) ⊎ between 15 17 (numbering_number t p c a)

-- a length that is wrong
abbrev pub uneven : List ℕ → Type 0
uneven b = ¬ (length b % 4 ≡ 0)

abbrev pub other_answer : List ℕ → Type 0
other_answer a = ¬ (length a ≡ 16)

pub record Lengths : Type 0 where
  -- "Refusals: 21, first of all, any byte length that isn't a multiple of 4, or an answer buffer that isn't 16 bytes;":
  -- for that and for nothing else, whatever else is wrong
  pub scan : (t p a : List ℕ) → (scan_number t p a ≡ 21) ↔ (uneven t ⊎ (uneven p ⊎ other_answer a))
  pub numbering : (t p c a : List ℕ)
      → (numbering_number t p c a ≡ 21) ↔ (uneven t ⊎ (uneven p ⊎ (uneven c ⊎ other_answer a)))
  -- "then nothing is written."
  pub scan_stays : (t p a : List ℕ) → scan_number t p a ≡ 21 → scan_answer t p a ≡ a
  pub numbering_stays : (t p c a : List ℕ) → numbering_number t p c a ≡ 21
      → (numbering_answer t p c a ≡ a) × (priorities_left t p c a ≡ p) × (chain_left t p c a ≡ c)

-- a word's four bytes
abbrev pub four : ℕ → List ℕ
four w = w % 256 ∷ w / 256 % 256 ∷ w / 65536 % 256 ∷ w / 16777216 % 256 ∷ []

abbrev pub in_bytes : List ℕ → List ℕ
in_bytes [] = []
in_bytes (w ∷ ws) = four w ++ in_bytes ws

-- in-port 8 is denied, in-port 7 gets 40,000 kbit/s, in-port 300 is denied
abbrev pub three_ports : List ℕ
three_ports = in_bytes (at_port 8 2 0 ++ at_port 7 3 40000 ++ at_port 300 2 0)

-- a packet from an in-port, and one whose last value is too large
abbrev pub entering : ℕ → List ℕ
entering in_port = in_bytes (in_port ∷ dotted 10 1 2 3 ∷ dotted 10 7 3 9 ∷ 6 ∷ 1 ∷ 2 ∷ [])

abbrev pub bad_packet : List ℕ
bad_packet = in_bytes (7 ∷ 0 ∷ 0 ∷ 0 ∷ 0 ∷ 65536 ∷ [])

-- as many bytes, each 7
abbrev pub sevens : ℕ → List ℕ
sevens n = replicate n 7

-- the third row is wrong
abbrev pub third_wrong : List ℕ
third_wrong = in_bytes (at_port 8 2 0 ++ at_port 7 3 40000 ++ at_port 300 2 1)

-- 1: the scan; 2: the numbering; 3: refusals, with the place and zeros; 4: 21, before all others, with nothing written
abbrev pub agent_cases : List Case
agent_cases =
    k 1 (scan_number three_ports (entering 7) (sevens 16)) 0
    ∷ k 1 (scan_answer three_ports (entering 7) (sevens 16))
    (0 ∷ 0 ∷ 0 ∷ 0 ∷ 3 ∷ 0 ∷ 0 ∷ 0 ∷ 64 ∷ 156 ∷ 0 ∷ 0 ∷ 2 ∷ 0 ∷ 0 ∷ 0 ∷ [])
    -- 300 is 44 and 1 times 256: its row is the third
    ∷ k 1 (scan_answer three_ports (entering 300) (sevens 16))
    (0 ∷ 0 ∷ 0 ∷ 0 ∷ 2 ∷ 0 ∷ 0 ∷ 0 ∷ 0 ∷ 0 ∷ 0 ∷ 0 ∷ 3 ∷ 0 ∷ 0 ∷ 0 ∷ [])
    ∷ k 1 (scan_answer [] (entering 7) (sevens 16))
    (0 ∷ 0 ∷ 0 ∷ 0 ∷ 0 ∷ 0 ∷ 0 ∷ 0 ∷ 0 ∷ 0 ∷ 0 ∷ 0 ∷ 0 ∷ 0 ∷ 0 ∷ 0 ∷ [])
    ∷ k 2 (numbering_number three_ports (sevens 20) (sevens 16) (sevens 16)) 0
    ∷ k 2 (numbering_answer three_ports (sevens 20) (sevens 16) (sevens 16))
    (0 ∷ 0 ∷ 0 ∷ 0 ∷ 1 ∷ 0 ∷ 0 ∷ 0 ∷ 0 ∷ 0 ∷ 0 ∷ 0 ∷ 0 ∷ 0 ∷ 0 ∷ 0 ∷ [])
    ∷ k 2 (priorities_left three_ports (sevens 20) (sevens 16) (sevens 16))
    (1 ∷ 0 ∷ 0 ∷ 0 ∷ 1 ∷ 0 ∷ 0 ∷ 0 ∷ 1 ∷ 0 ∷ 0 ∷ 0 ∷ sevens 8)
    ∷ k 2 (chain_left three_ports (sevens 20) (sevens 16) (sevens 16)) (0 ∷ 0 ∷ 0 ∷ 0 ∷ sevens 12)
    ∷ k 2 (numbering_answer [] [] [] (sevens 16)) (replicate 16 0)
    -- 11 before 15; 15; 16 with its place; 17
    ∷ k 3 (scan_number (sevens 48) bad_packet (sevens 16)) 11
    ∷ k 3 (scan_number three_ports (sevens 28) (sevens 16)) 11
    ∷ k 3 (scan_answer three_ports bad_packet (sevens 16)) (replicate 16 0)
    ∷ k 3 (scan_number (sevens 48) (entering 7) (sevens 16)) 15
    ∷ k 3 (scan_number third_wrong (entering 7) (sevens 16)) 16
    ∷ k 3 (scan_answer third_wrong (entering 7) (sevens 16)) (2 ∷ replicate 15 0)
    ∷ k 3 (numbering_number third_wrong [] [] (sevens 16)) 16
    ∷ k 3 (numbering_answer third_wrong [] [] (sevens 16)) (2 ∷ replicate 15 0)
    ∷ k 3 (numbering_number three_ports (sevens 8) (sevens 20) (sevens 16)) 17
    ∷ k 3 (numbering_answer three_ports (sevens 12) (sevens 8) (sevens 16)) (replicate 16 0)
    ∷ k 3 (priorities_left three_ports (sevens 12) (sevens 8) (sevens 16)) (sevens 12)
    -- 21
    ∷ k 4 (scan_number (nines 47) bad_packet (sevens 16)) 21
    ∷ k 4 (scan_answer (nines 47) bad_packet (sevens 16)) (sevens 16)
    ∷ k 4 (scan_number three_ports (nines 23) (sevens 16)) 21
    ∷ k 4 (scan_number three_ports bad_packet (sevens 20)) 21
    ∷ k 4 (scan_answer three_ports bad_packet (sevens 20)) (sevens 20)
    ∷ k 4 (numbering_number (sevens 48) (nines 13) [] (sevens 16)) 21
    ∷ k 4 (numbering_number (sevens 48) [] (nines 1) (sevens 16)) 21
    ∷ k 4 (numbering_number three_ports (nines 12) (nines 12) (sevens 12)) 21
    ∷ k 4 (priorities_left three_ports (nines 12) (nines 12) (sevens 12)) (nines 12)
    ∷ []

-- EVERY SENTENCE
pub record AgentCalls : Type 0 where
  pub scanning : (t p a ws ps : List ℕ) → Spells t ws → Spells p ps → length a ≡ 16 → Scanning t p a ws ps
  pub numbering : (t p c a ws ps cs : List ℕ) → Spells t ws → Spells p ps → Spells c cs → length a ≡ 16
      → small p → small c → Numbering t p c a ws ps cs
  -- and each whole number of words is so many words
  pub spelled : (b : List ℕ) → length b % 4 ≡ 0 → (ws : List ℕ) × Spells b ws
  pub lengths : Lengths
  pub cases : Hold agent_cases
