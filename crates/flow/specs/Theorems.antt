-- What is proved of matches and packets. Each statement is proved in proofs/ under the name given behind it.
--
--   MeetsCommon, MeetsEmpty                               who meets the common match, and an empty one
--   PortsMet                                              who meets a match with a port
--   OverlapExactly, MeetsOverlap                          when matches overlap, right ones and all
--   MetExactly, EmptyExactly                              when some packet meets a right match, and when none does
--   CommonRight, CommonEmpty, CommonNone                  when the common match is right, when it is empty, and which
--                                                         of the empty ones it is then
--   InsideMeets, InsideTrans                              what lying inside gives, and that it goes on
--   InsideExactly                                         when a right match lies inside another
--   MatchWordsRead, MatchReadWords, MatchWrittenRead      the words of a match, read and written
--   PacketWordsRead, PacketReadWords, PacketWrittenRead   the words of a packet
use Rattle.std.specs.Prelude.{ℕ, ◌≤◌, ◌≡◌, true, false, not, ◌&&◌, List, ◌++◌, ◌↔◌, length, drop}
use Rattle.words.specs.Words.{copied}
use Rattle.flow.specs.Packet.{packet_length, packet_of, packet_words, right_packet}
use Rattle.flow.specs.Match.{match_length, match_of, match_words, port_flags, constrains, has_ports, is_empty}
use Rattle.flow.specs.Match.{right_match, meets, overlap, none, common, inside, SharedPacket, LiesIn}
use Rattle.flow.specs.declared.Match.{Match}
use Rattle.flow.specs.declared.Packet.{Packet}

-- a packet meets the common match exactly when it meets both, for all matches (meets-common)
abbrev pub MeetsCommon : Type 0
MeetsCommon = (a b : Match) (p : Packet) → meets (common a b) p ≡ (meets a p && meets b p)

-- no packet meets an empty match (meets-empty)
abbrev pub MeetsEmpty : Type 0
MeetsEmpty = (m : Match) (p : Packet) → is_empty m ≡ true → meets m p ≡ false

-- a packet that meets a match with a port has a protocol with ports, for all matches (ports-met)
abbrev pub PortsMet : Type 0
PortsMet = (m : Match) (p : Packet) → constrains port_flags m ≡ true → meets m p ≡ true → has_ports p.protocol ≡ true

-- right matches overlap exactly when some packet in range meets both (overlap-exactly)
abbrev pub OverlapExactly : Type 0
OverlapExactly = (a b : Match) → right_match a ≡ true → right_match b ≡ true → (overlap a b ≡ true) ↔ SharedPacket a b

-- where any packet meets two matches, right or not, they overlap (meets-overlap)
abbrev pub MeetsOverlap : Type 0
MeetsOverlap = (a b : Match) (p : Packet) → meets a p ≡ true → meets b p ≡ true → overlap a b ≡ true

-- a right match is not empty exactly when some packet in range meets it (met-exactly)
abbrev pub MetExactly : Type 0
MetExactly = (m : Match) → right_match m ≡ true → (is_empty m ≡ false) ↔ SharedPacket m m

-- a right match is empty exactly when no packet in range meets it (empty-exactly)
abbrev pub EmptyExactly : Type 0
EmptyExactly = (m : Match) → right_match m ≡ true
    → (is_empty m ≡ true) ↔ ((p : Packet) → right_packet p ≡ true → meets m p ≡ false)

-- the common match of right matches is right (common-right)
abbrev pub CommonRight : Type 0
CommonRight = (a b : Match) → right_match a ≡ true → right_match b ≡ true → right_match (common a b) ≡ true

-- the common match is empty exactly when the two do not overlap, for all matches (common-empty)
abbrev pub CommonEmpty : Type 0
CommonEmpty = (a b : Match) → is_empty (common a b) ≡ not (overlap a b)

-- where no packet in range meets two right matches both, their common match is flag 16 alone (common-none)
abbrev pub CommonNone : Type 0
CommonNone = (a b : Match) → right_match a ≡ true → right_match b ≡ true → ¬ SharedPacket a b → common a b ≡ none

-- where a lies inside b, a packet that meets a meets b, for all matches (inside-meets)
abbrev pub InsideMeets : Type 0
InsideMeets = (a b : Match) (p : Packet) → inside a b ≡ true → meets a p ≡ true → meets b p ≡ true

-- where a lies inside b and b inside c, a lies inside c, for all matches (inside-trans)
abbrev pub InsideTrans : Type 0
InsideTrans = (a b c : Match) → inside a b ≡ true → inside b c ≡ true → inside a c ≡ true

-- a right match lies inside another exactly when every packet in range that meets it meets the other (inside-exactly)
abbrev pub InsideExactly : Type 0
InsideExactly = (a b : Match) → right_match a ≡ true → right_match b ≡ true → (inside a b ≡ true) ↔ LiesIn a b

-- the words of a match are read as the match (match-words-read), and read words are its words (match-read-words)
abbrev pub MatchWordsRead : Type 0
MatchWordsRead = (m : Match) (l : List ℕ) → match_of (match_words m ++ l) ≡ m

abbrev pub MatchReadWords : Type 0
MatchReadWords = (l : List ℕ) → match_length ≤ length l → match_words (match_of l) ++ drop match_length l ≡ l

-- what was written is read, from a buffer with room for it (match-written-read)
abbrev pub MatchWrittenRead : Type 0
MatchWrittenRead = (m : Match) (l : List ℕ) → match_length ≤ length l → match_of (copied 0 (match_words m) l) ≡ m

-- the same of packets (packet-words-read, packet-read-words, packet-written-read)
abbrev pub PacketWordsRead : Type 0
PacketWordsRead = (p : Packet) (l : List ℕ) → packet_of (packet_words p ++ l) ≡ p

abbrev pub PacketReadWords : Type 0
PacketReadWords = (l : List ℕ) → packet_length ≤ length l → packet_words (packet_of l) ++ drop packet_length l ≡ l

abbrev pub PacketWrittenRead : Type 0
PacketWrittenRead = (p : Packet) (l : List ℕ) → packet_length ≤ length l → packet_of (copied 0 (packet_words p) l) ≡ p
