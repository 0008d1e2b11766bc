-- A packet that is read is in range.
use Rattle.std.proofs.Common.{ℕ, ◌<◌, ◌^◌, ◌≡◌, Bool, true, false, List, Option, Some, None, Result, Ok, Err, refl, sym, ap, subst, ◌∙◌, arith, lt-ltb}
use Rattle.std.specs.Prelude.{if◌then◌else◌, ◌==◌}
use Rattle.logic.proofs.Tests.{and_both}
use Rattle.field.specs.Prefix.{address_bits}
use Rattle.field.specs.declared.Prefix.{Prefix}
use Rattle.flow.specs.Packet.{protocol_limit, port_limit, right_packet}
use Rattle.flow.specs.declared.Packet.{Packet}
use Rattle.tokens.specs.Tokens.{Token, tokens_of, word, at, next, ended}
use Rattle.values.specs.Numbers.{number_of, up_to}
use Rattle.values.specs.Prefixes.{prefix_of}
use Rattle.values.specs.Words.{protocol_of}
use Rattle.values.specs.Grammar.{IsProtocol}
use Rattle.values.specs.Grammar as value
use Rattle.values.specs.declared.prefixes.NoPrefix.{NoPrefix}
use Rattle.values.proofs.AddressLaw.{limited}
use Rattle.values.proofs.PrefixLaw.{prefix-exactly}
use Rattle.values.proofs.WordLaws.{protocol-exactly}
use Rattle.notation.specs.Rules.{largest_port, largest_protocol}
use Rattle.packet_text.specs.declared.Fault.{Fault}
use Rattle.packet_text.specs.declared.Wanted.{Wanted}
use Rattle.packet_text.specs.declared.Wanted.TheVariants as wanted
use Rattle.packet_text.specs.Reading.{Read, ◌>>=◌, fault_at, some_or, port_at, address_in, address_at}
use Rattle.packet_text.specs.Reading.{or_else, protocol_in, protocol_at, values_at, packet_read}

-- a value was there, and what went on with it gave the answer
record Found {X Y : Type 0} (o : Option X) (ts : List Token) (f : X × List Token → Result Y Fault) (y : Y) : Type 0 where
  value : X
  is : o ≡ Some value
  rest : f (value, next ts) ≡ Ok y

found : {X Y : Type 0} (w : Wanted) (o : Option X) (ts : List Token) (f : X × List Token → Result Y Fault) (y : Y)
    → (some_or w o ts >>= f) ≡ Ok y → Found o ts f y
found w (Some x) ts f y e = record { value = x; is = refl; rest = e }
found w None ts f y e = absurd cc

-- a port is below its limit
port-below : (w : List ℕ) (n : ℕ) → up_to largest_port (number_of w) ≡ Some n → n < port_limit
port-below w n e = let h = limited largest_port (number_of w) n e in let l = h.0 in omega arith

-- the prefix whose address was taken
record Taken (r : Result Prefix NoPrefix) (n : ℕ) : Type 0 where
  prefix : Prefix
  is : r ≡ Ok prefix
  address : prefix.address ≡ n

taken : (r : Result Prefix NoPrefix) (n : ℕ) → address_in r ≡ Some n → Taken r n
taken (Ok p) n e =
    elim (p.length == address_bits) as (λ d. (if d then Some p.address else None) ≡ Some n → Taken (Ok p) n) [
      | true ↦ λ h. record { prefix = p; is = refl; address = cc }
      | false ↦ λ h. absurd cc
    ] e
taken (Err f) n e = absurd cc

-- an address is a word
address-below : (w : List ℕ) (n : ℕ) → address_in (prefix_of w) ≡ Some n → n < 2 ^ address_bits
address-below w n e =
    let t = taken (prefix_of w) n e in
    let h = ((prefix-exactly w t.prefix).0 t.is).spelled.below in
    subst (λ k. k < 2 ^ address_bits) t.address h

-- a protocol with a name is one of three
named-below : (w : List ℕ) (n : ℕ) → IsProtocol w n → n < protocol_limit
named-below w n value.tcp = omega arith
named-below w n value.udp = omega arith
named-below w n value.icmp = omega arith

-- a protocol is below its limit
protocol-below : (w : List ℕ) (n : ℕ) → protocol_in w ≡ Some n → n < protocol_limit
unfolding protocol_in
protocol-below w n e = go (protocol_of w) refl e
  where
    go : (o : Option ℕ) → protocol_of w ≡ o → or_else o (up_to largest_protocol (number_of w)) ≡ Some n → n < protocol_limit
    go (Some m) f g = let t : protocol_of w ≡ Some n = f ∙ g in named-below w n ((protocol-exactly w n).0 t)
    go None f g = let h = limited largest_protocol (number_of w) n g in let l = h.0 in omega arith

-- what stands behind the last value is the end
ending : (b : Bool) (x p : Packet) (f : Fault) → (if b then Ok x else Err f) ≡ Ok p → x ≡ p
ending true x p f e = cc
ending false x p f e = absurd cc

-- what was read before the end
record Whole (r : Read Packet) (p : Packet) : Type 0 where
  value : Packet × List Token
  is : r ≡ Ok value
  packet : value.0 ≡ p

whole : (r : Read Packet) (p : Packet) → (r >>= λ x. if ended x.1 then Ok x.0 else Err (fault_at (at x.1) wanted.End)) ≡ Ok p → Whole r p
whole (Ok v) p e = record { value = v; is = refl; packet = ending (ended v.1) v.0 p (fault_at (at v.1) wanted.End) e }
whole (Err f) p e = absurd cc

-- the packet of what was read
first : (x : Packet) (ts : List Token) (v : Packet × List Token) (r : Read Packet) → r ≡ Ok (x, ts) → r ≡ Ok v → x ≡ v.0
first x ts v r d e = let h : (x, ts) ≡ v = cc in ap (λ (t : Packet × List Token). t.0) h

-- a packet of values in their ranges
in-range : (x : Packet) → x.in_port < port_limit → x.source < 2 ^ address_bits → x.destination < 2 ^ address_bits → x.protocol < protocol_limit
    → x.source_port < port_limit → x.destination_port < port_limit → right_packet x ≡ true
unfolding right_packet
in-range x i s d q v w =
    and_both (and_both (and_both (and_both (and_both (lt-ltb _ _ s) (lt-ltb _ _ d)) (lt-ltb _ _ i)) (lt-ltb _ _ q)) (lt-ltb _ _ v)) (lt-ltb _ _ w)

-- the values of a packet that is read are in their ranges
values-right : (ts : List Token) (v : Packet × List Token) → values_at ts ≡ Ok v → right_packet v.0 ≡ true
unfolding values_at port_at address_at protocol_at
values-right ts v e =
    let i = found wanted.InPort (up_to largest_port (number_of (word ts))) ts _ v e in
    let ts₁ = next ts in
    let s = found wanted.Source (address_in (prefix_of (word ts₁))) ts₁ _ v i.rest in
    let ts₂ = next ts₁ in
    let d = found wanted.Destination (address_in (prefix_of (word ts₂))) ts₂ _ v s.rest in
    let ts₃ = next ts₂ in
    let q = found wanted.Protocol (protocol_in (word ts₃)) ts₃ _ v d.rest in
    let ts₄ = next ts₃ in
    let a = found wanted.SourcePort (up_to largest_port (number_of (word ts₄))) ts₄ _ v q.rest in
    let ts₅ = next ts₄ in
    let b = found wanted.DestinationPort (up_to largest_port (number_of (word ts₅))) ts₅ _ v a.rest in
    let x : Packet = record {
      in_port = i.value;
      source = s.value;
      destination = d.value;
      protocol = q.value;
      source_port = a.value;
      destination_port = b.value;
    } in
    let same : x ≡ v.0 = first x (next ts₅) v (Ok v) (sym b.rest) refl in
    subst (λ y. right_packet y ≡ true) same
    (in-range x (port-below (word ts) i.value i.is) (address-below (word ts₁) s.value s.is) (address-below (word ts₂) d.value d.is)
    (protocol-below (word ts₃) q.value q.is) (port-below (word ts₄) a.value a.is) (port-below (word ts₅) b.value b.is))

-- A PACKET THAT IS READ IS IN RANGE
pub read-right : (text : List ℕ) (p : Packet) → packet_read text ≡ Ok p → right_packet p ≡ true
unfolding packet_read
read-right text p e =
    let w = whole (values_at (tokens_of text)) p e in
    subst (λ y. right_packet y ≡ true) w.packet (values-right (tokens_of text) w.value w.is)
