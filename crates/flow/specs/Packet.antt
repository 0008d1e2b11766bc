-- A packet: six words, in this order: in-port, source address, destination address, protocol, source port, destination
-- port. See docs/FORMAT.md, "Packets".
--
--   packet_of, packet_words   the packet that some words are, and its words
--   right_packet              the values are in their ranges
--   right_packet_words        some words are a packet
--   packet_in                 the packet that some words are, if they are one
use Rattle.std.specs.Prelude.{ℕ, ◌^◌, Bool, ◌&&◌, List, [], ◌∷◌, Result, Ok, Err, length, if◌then◌else◌, ◌==◌, nat_lt, slice_index}
use Rattle.field.specs.Prefix.{address_bits}
use Rattle.flow.specs.declared.Packet.{Packet}
use Rattle.flow.specs.declared.packets.InvalidPacket.{InvalidPacket}

-- how many words a packet has
abbrev pub packet_length : ℕ
packet_length = 6

-- in-ports and ports are below this number
abbrev pub port_limit : ℕ
port_limit = 65536

-- protocols are below this number
abbrev pub protocol_limit : ℕ
protocol_limit = 256

-- the packet that the first six words are; words that are missing count as 0
abbrev pub packet_of : List ℕ → Packet
packet_of l = record {
  in_port = slice_index l 0;
  source = slice_index l 1;
  destination = slice_index l 2;
  protocol = slice_index l 3;
  source_port = slice_index l 4;
  destination_port = slice_index l 5;
}

-- a packet's six words
abbrev pub packet_words : Packet → List ℕ
packet_words p = p.in_port ∷ p.source ∷ p.destination ∷ p.protocol ∷ p.source_port ∷ p.destination_port ∷ []

-- the values are in their ranges; an address is any word
unfoldable pub right_packet : Packet → Bool
right_packet p =
    nat_lt p.source (2 ^ address_bits)
    && nat_lt p.destination (2 ^ address_bits)
    && nat_lt p.in_port port_limit
    && nat_lt p.protocol protocol_limit
    && nat_lt p.source_port port_limit
    && nat_lt p.destination_port port_limit

-- some words are a packet: exactly six, with values in their ranges
unfoldable pub right_packet_words : List ℕ → Bool
right_packet_words l = length l == packet_length && right_packet (packet_of l)

-- the packet that some words are, if they are one
unfoldable pub packet_in : List ℕ → Result Packet InvalidPacket
packet_in l = if right_packet_words l then Ok (packet_of l) else Err (record {})
