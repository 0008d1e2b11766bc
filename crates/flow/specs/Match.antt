-- A match: nine words, in this order: the six values of a packet, source prefix length, destination prefix length,
-- flags. The flags say which of in-port, protocol, source port and destination port are constrained; the addresses are
-- constrained by their prefixes. A port is met only by packets of a protocol that has ports. Flag 16 is an empty match.
-- See docs/FORMAT.md, "Matches".
--
--   match_of, match_words     the match that some words are, and its words
--   port_flags                the flags of the two ports
--   known_flags               the flags that may stand together
--   flagged asked flags       a flag that is asked for is among the flags; constrains asked m: among those of m
--   has_flags_of a b          a has every flag that b has
--   has_ports protocol        the protocol has ports
--   meets_ports on protocol   no port is constrained, or the protocol has ports
--   clash flags protocol      the flags ask for a port, and for the protocol, which has none; contradicts m: those of m
--   unmet flags protocol      no packet meets a match with these flags and this protocol
--   is_empty m                no packet meets m
--   none, is_none m           the empty match of flag 16 in its only right form, and that m's words are its words
--   is_plain m                m is right without flag 16
--   right_match m             the words are right: those of none, or of a plain match
--   fits m p                  p meets m if every packet is taken to have ports
--   meets m p                 the packet p meets the match m
--   agree a b                 no field of the two keeps a packet from meeting both
--   both a b                  the two together
--   overlap a b               some packet meets both
--   common a b                the match that exactly the packets meet that meet both
--   inside a b                every packet that meets a meets b
--   SharedPacket a b          a packet in range that meets both
--   LiesIn a b                every packet in range that meets a meets b
use Rattle.std.specs.Prelude.{ℕ, ◌+◌, ◌-◌, ◌≡◌, Bool, true, false, not, ◌&&◌, ◌||◌, List, [], ◌∷◌, ◌++◌, replicate, if◌then◌else◌, ◌==◌, slice_index}
use Rattle.std.specs.Int.Bits.{bit_and, bit_or}
use Rattle.field.specs.Prefix.{address_bits, in_prefix, right_prefix, prefixes_meet, covers}
use Rattle.field.specs.Longer.{longer}
use Rattle.field.specs.Value.{meets_value, values_meet, value_inside, common_value, right_value}
use Rattle.flow.specs.Packet.{port_limit, protocol_limit, right_packet}
use Rattle.flow.specs.declared.Match.{Match}
use Rattle.flow.specs.declared.Packet.{Packet}

-- how many words a match has
abbrev pub match_length : ℕ
match_length = 9

-- the in-port is constrained
abbrev pub in_port_flag : ℕ
in_port_flag = 1

-- the protocol is constrained
abbrev pub protocol_flag : ℕ
protocol_flag = 2

-- the source port is constrained
abbrev pub source_port_flag : ℕ
source_port_flag = 4

-- the destination port is constrained
abbrev pub destination_port_flag : ℕ
destination_port_flag = 8

-- a port is constrained
abbrev pub port_flags : ℕ
port_flags = source_port_flag + destination_port_flag

-- the flags that may stand together: a value is constrained
abbrev pub known_flags : ℕ
known_flags = in_port_flag + protocol_flag + port_flags

-- no packet meets the match; this flag stands alone
abbrev pub empty_flag : ℕ
empty_flag = 16

-- the match that the first nine words are; words that are missing count as 0
abbrev pub match_of : List ℕ → Match
match_of l = record {
  in_port = slice_index l 0;
  source = record { address = slice_index l 1; length = slice_index l 6 };
  destination = record { address = slice_index l 2; length = slice_index l 7 };
  protocol = slice_index l 3;
  source_port = slice_index l 4;
  destination_port = slice_index l 5;
  flags = slice_index l 8;
}

-- a match's nine words
abbrev pub match_words : Match → List ℕ
match_words m =
    m.in_port
    ∷ m.source.address
    ∷ m.destination.address
    ∷ m.protocol
    ∷ m.source_port
    ∷ m.destination_port
    ∷ m.source.length
    ∷ m.destination.length
    ∷ m.flags
    ∷ []

-- the empty match of flag 16: eight zeros, and the flag
abbrev pub none : Match
none = match_of (replicate (match_length - 1) 0 ++ empty_flag ∷ [])

-- a flag that is asked for is among the flags
abbrev pub flagged : ℕ → ℕ → Bool
flagged asked flags = not (bit_and flags asked == 0)

-- a flag that is asked for is among those of m
abbrev pub constrains : ℕ → Match → Bool
constrains asked m = flagged asked m.flags

-- a has a flag where b has it
abbrev pub has_flag_of : ℕ → Match → Match → Bool
has_flag_of asked a b = not (constrains asked b) || constrains asked a

-- a has every flag that b has
unfoldable pub has_flags_of : Match → Match → Bool
has_flags_of a b =
    has_flag_of in_port_flag a b
    && has_flag_of protocol_flag a b
    && has_flag_of source_port_flag a b
    && has_flag_of destination_port_flag a b
    && has_flag_of empty_flag a b

-- the protocols that have ports
abbrev pub tcp : ℕ
tcp = 6

abbrev pub udp : ℕ
udp = 17

abbrev pub has_ports : ℕ → Bool
has_ports protocol = protocol == tcp || protocol == udp

-- a packet of the protocol passes the ports of a match, whatever their values: none is constrained, or the protocol has
-- ports
unfoldable pub meets_ports : Bool → ℕ → Bool
meets_ports on protocol = not on || has_ports protocol

-- a match with these flags and this protocol constrains a port and a protocol without ports
unfoldable pub clash : ℕ → ℕ → Bool
clash flags protocol = flagged port_flags flags && flagged protocol_flag flags && not (has_ports protocol)

-- the match contradicts itself
unfoldable pub contradicts : Match → Bool
contradicts m = clash m.flags m.protocol

-- no packet meets a match with these flags and this protocol: it has flag 16, or the two clash
unfoldable pub unmet : ℕ → ℕ → Bool
unmet flags protocol = flagged empty_flag flags || clash flags protocol

-- no packet meets the match
unfoldable pub is_empty : Match → Bool
is_empty m = unmet m.flags m.protocol

-- the test t, and the words F are the words G one by one
abbrev pub same_words : Bool → List ℕ → List ℕ → Bool
same_words t [] [] = t
same_words t [] (y ∷ G) = false
same_words t (x ∷ F) [] = false
same_words t (x ∷ F) (y ∷ G) = same_words (t && x == y) F G

-- the words are those of none
unfoldable pub is_none : Match → Bool
is_none m = same_words true (match_words m) (match_words none)

-- any other right match: only known flags, values in a packet's ranges and 0 where unconstrained, right prefixes
unfoldable pub is_plain : Match → Bool
is_plain m =
    bit_and m.flags known_flags == m.flags
    && right_value (constrains in_port_flag m) port_limit m.in_port
    && right_value (constrains protocol_flag m) protocol_limit m.protocol
    && right_value (constrains source_port_flag m) port_limit m.source_port
    && right_value (constrains destination_port_flag m) port_limit m.destination_port
    && right_prefix address_bits m.source.address m.source.length
    && right_prefix address_bits m.destination.address m.destination.length

-- the words of a match are right
unfoldable pub right_match : Match → Bool
right_match m = is_none m || is_plain m

-- the packet p fits the match m field by field: m has not flag 16, each constrained value is p's, and p's addresses lie
-- in the prefixes
abbrev pub fits : Match → Packet → Bool
fits m p =
    not (constrains empty_flag m)
    && meets_value (constrains in_port_flag m) m.in_port p.in_port
    && meets_value (constrains protocol_flag m) m.protocol p.protocol
    && meets_value (constrains source_port_flag m) m.source_port p.source_port
    && meets_value (constrains destination_port_flag m) m.destination_port p.destination_port
    && in_prefix address_bits m.source.address m.source.length p.source
    && in_prefix address_bits m.destination.address m.destination.length p.destination

-- the packet p meets the match m: it fits in each field, and its protocol has ports where one is constrained
unfoldable pub meets : Match → Packet → Bool
meets m p = fits m p && meets_ports (constrains port_flags m) p.protocol

-- a and b agree in each field
abbrev pub agree : Match → Match → Bool
agree a b =
    values_meet (constrains in_port_flag a) a.in_port (constrains in_port_flag b) b.in_port
    && values_meet (constrains protocol_flag a) a.protocol (constrains protocol_flag b) b.protocol
    && values_meet (constrains source_port_flag a) a.source_port (constrains source_port_flag b) b.source_port
    && values_meet (constrains destination_port_flag a) a.destination_port (constrains destination_port_flag b)
    b.destination_port
    && prefixes_meet address_bits a.source.address a.source.length b.source.address b.source.length
    && prefixes_meet address_bits a.destination.address a.destination.length b.destination.address b.destination.length

-- both together: what either constrains, and the longer prefixes
unfoldable pub both : Match → Match → Match
both a b = record {
  in_port = common_value (constrains in_port_flag a) a.in_port b.in_port;
  source = longer a.source b.source;
  destination = longer a.destination b.destination;
  protocol = common_value (constrains protocol_flag a) a.protocol b.protocol;
  source_port = common_value (constrains source_port_flag a) a.source_port b.source_port;
  destination_port = common_value (constrains destination_port_flag a) a.destination_port b.destination_port;
  flags = bit_or a.flags b.flags;
}

-- a and b overlap: they agree in each field, and both together are not empty
unfoldable pub overlap : Match → Match → Bool
overlap a b = agree a b && not (is_empty (both a b))

-- the common match: both together where they overlap, else none
unfoldable pub common : Match → Match → Match
common a b = if overlap a b then both a b else none

-- a lies inside b, that is, b is met by every packet that meets a: a is empty, or b is not and holds a in each field
unfoldable pub inside : Match → Match → Bool
inside a b =
    is_empty a
    || (not (is_empty b)
    && value_inside (constrains in_port_flag a) a.in_port (constrains in_port_flag b) b.in_port
    && value_inside (constrains protocol_flag a) a.protocol (constrains protocol_flag b) b.protocol
    && value_inside (constrains source_port_flag a) a.source_port (constrains source_port_flag b) b.source_port
    && value_inside (constrains destination_port_flag a) a.destination_port (constrains destination_port_flag b)
    b.destination_port
    && covers address_bits b.source.address b.source.length a.source.address a.source.length
    && covers address_bits b.destination.address b.destination.length a.destination.address a.destination.length)

-- a packet in range that meets two matches
pub record SharedPacket (a b : Match) : Type 0 where
  pub packet : Packet
  pub in_range : right_packet packet ≡ true
  pub left : meets a packet ≡ true
  pub right : meets b packet ≡ true

-- every packet in range that meets a meets b
abbrev pub LiesIn : Match → Match → Type 0
LiesIn a b = (p : Packet) → right_packet p ≡ true → meets a p ≡ true → meets b p ≡ true
