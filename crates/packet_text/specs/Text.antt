-- The text of a packet: six words with blanks between them.
--
--   then_word w text   a word, and a text behind it and a blank
--   protocol_text      a protocol by its name, or its number
--   packet_text        the six words
use Rattle.std.specs.Prelude.{ℕ, List, ◌++◌, codes, if◌then◌else◌, ◌==◌}
use Rattle.std.specs.Fmt.{decimal}
use Rattle.values.specs.Grammar.{address_text}
use Rattle.flow.specs.declared.Packet.{Packet}

-- a word, and a text behind it and a blank
abbrev pub then_word : List ℕ → List ℕ → List ℕ
then_word w text = w ++ (codes " " ++ text)

-- a protocol by its name, if it has one
abbrev pub protocol_text : ℕ → List ℕ
protocol_text n =
    if n == 6 then codes "tcp" else (if n == 17 then codes "udp" else (if n == 1 then codes "icmp" else decimal n))

-- the six words of a packet
unfoldable pub packet_text : Packet → List ℕ
packet_text p =
    then_word (decimal p.in_port)
    (then_word (address_text p.source)
    (then_word (address_text p.destination)
    (then_word (protocol_text p.protocol) (then_word (decimal p.source_port) (decimal p.destination_port)))))
