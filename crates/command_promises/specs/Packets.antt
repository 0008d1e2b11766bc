-- What is promised of packets in text: one that is read is in range, each packet in range has a text that is read as
-- the packet, and three texts with what is read of them.
use Rattle.std.specs.Prelude.{ℕ, ◌≡◌, List, true, codes, Ok, Err}
use Rattle.flow.specs.Packet.{right_packet}
use Rattle.flow.specs.declared.Packet.{Packet}
use Rattle.packet_text.specs.declared.Wanted.TheVariants as wanted
use Rattle.packet_text.specs.Reading.{fault_at, packet_read}
use Rattle.packet_text.specs.Text.{packet_text}

-- a packet that is read is in range
abbrev pub ReadInRange : Type 0
ReadInRange = (text : List ℕ) (p : Packet) → packet_read text ≡ Ok p → right_packet p ≡ true

-- the text of a packet in range is read as the packet
abbrev pub TextReadBack : Type 0
TextReadBack = (p : Packet) → right_packet p ≡ true → packet_read (packet_text p) ≡ Ok p

-- a packet to the server 10.7.3.9
abbrev pub request : Packet
request = record {
  in_port = 1;
  source = 167837953;
  destination = 168231689;
  protocol = 6;
  source_port = 40000;
  destination_port = 80;
}

-- its text and how it may be written, a word too many, and a port too large
pub record PacketCases : Type 0 where
  pub printed : packet_text request ≡ codes "1 10.1.1.1 10.7.3.9 tcp 40000 80"
  pub numbered : packet_read (codes "1 10.1.1.1/32 10.7.3.9 6\n40000 80 # a request") ≡ Ok request
  pub seventh : packet_read (codes "1 10.1.1.1 10.7.3.9 tcp 40000 80 7") ≡ Err (fault_at 33 wanted.End)
  pub too_large : packet_read (codes "1 10.1.1.1 10.7.3.9 17 65536 80") ≡ Err (fault_at 23 wanted.SourcePort)

-- what is promised of packets in text
abbrev pub PacketsRead : Type 0
PacketsRead = ReadInRange × TextReadBack × PacketCases
