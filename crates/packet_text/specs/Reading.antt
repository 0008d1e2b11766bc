-- A packet that is read from six words: in-port, source, destination, protocol, source port and destination port. A
-- reader is a function of the words that are left.
--
--   Read X                          a value and the words behind it, or a fault
--   r >>= f                         f goes on where r ended
--   fault_at place wanted           what was wanted at a place
--   some_or wanted                  a value of the first word, if it has one
--   gave                            what a function gave, with the words that are left behind it
--   port_at, address_at             a port, and an address, which is a prefix of its whole length
--   protocol_in, protocol_at        a protocol, by its name or its number
--   values_at                       the six values
--   packet_read text                the packet that a text is, or its first fault
use Rattle.std.specs.Prelude.{ℕ, List, Option, Some, None, Result, Ok, Err, if◌then◌else◌, ◌==◌}
use Rattle.field.specs.Prefix.{address_bits}
use Rattle.field.specs.declared.Prefix.{Prefix}
use Rattle.flow.specs.declared.Packet.{Packet}
use Rattle.tokens.specs.Tokens.{Token, tokens_of, word, at, next, ended}
use Rattle.values.specs.Numbers.{number_of, up_to}
use Rattle.values.specs.Prefixes.{prefix_of}
use Rattle.values.specs.Words.{protocol_of}
use Rattle.values.specs.declared.prefixes.NoPrefix.{NoPrefix}
use Rattle.notation.specs.Rules.{largest_port, largest_protocol}
use Rattle.packet_text.specs.declared.Fault.{Fault}
use Rattle.packet_text.specs.declared.Wanted.{Wanted}
use Rattle.packet_text.specs.declared.Wanted.TheVariants as wanted

-- a value and the words behind it, or a fault
abbrev pub Read : Type 0 → Type 0
Read X = Result (X × List Token) Fault

-- one reader after another
infixl 10 ◌>>=◌
abbrev pub ◌>>=◌ : {X Y : Type 0} → Result X Fault → (X → Result Y Fault) → Result Y Fault
(Ok x) >>= f = f x
(Err e) >>= f = Err e

-- what was wanted at a place
abbrev pub fault_at : ℕ → Wanted → Fault
fault_at place w = record { at = place; wanted = w }

-- a value that the first word may have
abbrev pub some_or : {X : Type 0} → Wanted → Option X → List Token → Read X
some_or w (Some x) ts = Ok (x, next ts)
some_or w None ts = Err (fault_at (at ts) w)

-- what a function gave, with the words that are left behind it
abbrev pub gave : {X : Type 0} → Result X Fault → List Token → Read X
gave (Ok x) ts = Ok (x, ts)
gave (Err f) ts = Err f

-- a port
unfoldable pub port_at : Wanted → List Token → Read ℕ
port_at w ts = some_or w (up_to largest_port (number_of (word ts))) ts

-- the address of a prefix of the whole length
abbrev pub address_in : Result Prefix NoPrefix → Option ℕ
address_in (Ok p) = if p.length == address_bits then Some p.address else None
address_in (Err e) = None

-- an address
unfoldable pub address_at : Wanted → List Token → Read ℕ
address_at w ts = some_or w (address_in (prefix_of (word ts))) ts

-- a number, or else another
abbrev pub or_else : Option ℕ → Option ℕ → Option ℕ
or_else (Some n) o = Some n
or_else None o = o

-- the protocol that a word is, by its name or its number
unfoldable pub protocol_in : List ℕ → Option ℕ
protocol_in w = or_else (protocol_of w) (up_to largest_protocol (number_of w))

-- a protocol that is read
unfoldable pub protocol_at : List Token → Read ℕ
protocol_at ts = some_or wanted.Protocol (protocol_in (word ts)) ts

-- the six values
unfoldable pub values_at : List Token → Read Packet
values_at ts = do
  i ← port_at wanted.InPort ts
  s ← address_at wanted.Source i.1
  d ← address_at wanted.Destination s.1
  q ← protocol_at d.1
  v ← port_at wanted.SourcePort q.1
  w ← port_at wanted.DestinationPort v.1
  Ok (
    record {
      in_port = i.0;
      source = s.0;
      destination = d.0;
      protocol = q.0;
      source_port = v.0;
      destination_port = w.0;
    },
    w.1,
  )

-- the packet that a text is: six values, and no word behind them
unfoldable pub packet_read : List ℕ → Result Packet Fault
packet_read text =
    values_at (tokens_of text) >>= λ p. if ended p.1 then Ok p.0 else Err (fault_at (at p.1) wanted.End)
