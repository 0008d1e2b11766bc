-- A match that lies inside another. Where it does not, a packet in range shows it: the own packet of the one with one value changed; its
-- protocol is changed to the other that has ports. Assumes nothing.
use mathlib.Core.Path.{◌≡◌, refl, ap}
use mathlib.Core.Bool.{Bool, true, false, not}
use Prim.Native.Nat.{ℕ, ◌^◌, ◌<◌}
use native.Mathlib.Omega.{arith}
use borrow.Author.Tests.{lt-ltb, not-true}
use Rattle.field.specs.Prefix.{address_bits, in_prefix}
use Rattle.field.specs.Value.{meets_value}
use Rattle.field.proofs.Prefixes.{in-own, covers-exactly, covers-in, covers-trans}
use Rattle.field.proofs.Values.{meets-own-value, meets-free, value-meets, value-trans, value_on, value-told, value-inside-exactly}
use Rattle.flow.specs.Packet.{port_limit, protocol_limit, right_packet}
use Rattle.flow.specs.Match.{in_port_flag, protocol_flag, source_port_flag, destination_port_flag, port_flags, constrains, tcp, udp, meets_ports}
use Rattle.flow.specs.Match.{is_empty, right_match, inside, LiesIn}
use Rattle.flow.specs.Theorems.{InsideMeets, InsideTrans, InsideExactly}
use Rattle.flow.specs.declared.Match.{Match}
use Rattle.flow.specs.declared.Packet.{Packet}
use Rattle.flow.proofs.ByFlags.{port-on}
use Rattle.flow.proofs.Laws.{ranges, unflagged, own_protocol, own-protocol-met, own-protocol-ports, own-protocol-below}
use Rattle.flow.proofs.Parts.{Parts, parts, whole}
use Rattle.flow.proofs.Tests.{Tests, tests, tested, met-lives}
use Rattle.logic.proofs.Tests.{by-test, and_both}

-- an empty match lies inside every match
empty-inside : (a b : Match) → is_empty a ≡ true → inside a b ≡ true
unfolding inside
empty-inside a b e = rw e

-- a protocol that passes the ports of a match passes those of one that has no port where that has none
passes_on : (on on' : Bool) (q : ℕ) → (on' ≡ true → on ≡ true) → meets_ports on q ≡ true → meets_ports on' q ≡ true
unfolding meets_ports
passes_on on false q narrow e = refl
passes_on on true q narrow e = let f = rw (narrow refl) at e in f

-- A PACKET THAT MEETS A MATCH meets what that lies inside
pub inside-meets : InsideMeets
inside-meets a b p e f =
    let t : Tests a p = tests a p f in
    let h : Parts a b = parts a b (met-lives a p f) e in
    tested b p (record {
      unflagged = ap not (unflagged b (not-true (is_empty b) h.live));
      ports = passes_on _ _ p.protocol
          (port-on a b (value_on _ a.source_port _ b.source_port h.source_port)
          (value_on _ a.destination_port _ b.destination_port h.destination_port)) t.ports;
      in_port = value-meets _ a.in_port _ b.in_port p.in_port h.in_port t.in_port;
      protocol = value-meets _ a.protocol _ b.protocol p.protocol h.protocol t.protocol;
      source_port = value-meets _ a.source_port _ b.source_port p.source_port h.source_port t.source_port;
      destination_port = value-meets _ a.destination_port _ b.destination_port p.destination_port h.destination_port t.destination_port;
      source = covers-in address_bits b.source.address b.source.length a.source.address a.source.length p.source h.source t.source;
      destination =
          covers-in address_bits b.destination.address b.destination.length a.destination.address a.destination.length p.destination
          h.destination t.destination;
    })

-- LYING INSIDE GOES ON
pub inside-trans : InsideTrans
inside-trans a b c e f = by-test (is_empty a) (empty-inside a c) (λ l. whole a c (joined (parts a b l e)))
  where
    joined : Parts a b → Parts a c
    joined h =
        let k : Parts b c = parts b c (not-true (is_empty b) h.live) f in record {
          live = k.live;
          in_port = value-trans _ a.in_port _ b.in_port _ c.in_port h.in_port k.in_port;
          protocol = value-trans _ a.protocol _ b.protocol _ c.protocol h.protocol k.protocol;
          source_port = value-trans _ a.source_port _ b.source_port _ c.source_port h.source_port k.source_port;
          destination_port =
              value-trans _ a.destination_port _ b.destination_port _ c.destination_port h.destination_port k.destination_port;
          source =
              covers-trans address_bits c.source.address c.source.length b.source.address b.source.length a.source.address a.source.length
              k.source h.source;
          destination =
              covers-trans address_bits c.destination.address c.destination.length b.destination.address b.destination.length
              a.destination.address a.destination.length k.destination h.destination;
        }

-- a number below a limit that meets a value
record Chosen (limit : ℕ) (on : Bool) (v : ℕ) : Type 0 where
  number : ℕ
  below : number < limit
  met : meets_value on v number ≡ true

own_value : (limit : ℕ) (on : Bool) (v : ℕ) → v < limit → Chosen limit on v
own_value limit on v h = record { number = v; below = h; met = meets-own-value on v }

-- a protocol in range that meets a match's and passes its ports
record Spoken (m : Match) : Type 0 where
  number : ℕ
  below : number < protocol_limit
  met : meets_value (constrains protocol_flag m) m.protocol number ≡ true
  ports : meets_ports (constrains port_flags m) number ≡ true

-- an address in a prefix
record Picked (q n : ℕ) : Type 0 where
  address : ℕ
  within : address < 2 ^ address_bits
  met : in_prefix address_bits q n address ≡ true

own-address : (q n : ℕ) → q < 2 ^ address_bits → Picked q n
own-address q n h = record { address = q; within = h; met = in-own address_bits q n }

udp-passes : (on : Bool) → meets_ports on udp ≡ true
unfolding meets_ports
udp-passes true = refl
udp-passes false = refl

-- a match that is not empty lies inside another where every packet in range that meets it meets that: in each field the packets tell
-- that differ from its own there alone
module _ (a b : Match) (ra : right_match a ≡ true) (rb : right_match b ≡ true) (live : is_empty a ≡ false) (all : LiesIn a b) where
  -- its own values
  in_port : Chosen port_limit (constrains in_port_flag a) a.in_port
  in_port = own_value port_limit _ a.in_port (ranges a ra).in_port

  abbrev protocol : Spoken a
  protocol = record {
    number = own_protocol a;
    below = own-protocol-below a (ranges a ra).protocol;
    met = own-protocol-met a;
    ports = own-protocol-ports a live;
  }

  source_port : Chosen port_limit (constrains source_port_flag a) a.source_port
  source_port = own_value port_limit _ a.source_port (ranges a ra).source_port

  destination_port : Chosen port_limit (constrains destination_port_flag a) a.destination_port
  destination_port = own_value port_limit _ a.destination_port (ranges a ra).destination_port

  source : Picked a.source.address a.source.length
  source = own-address a.source.address _ (ranges a ra).source

  destination : Picked a.destination.address a.destination.length
  destination = own-address a.destination.address _ (ranges a ra).destination

  -- a packet of such values
  abbrev packet : Chosen port_limit (constrains in_port_flag a) a.in_port → Spoken a
      → Chosen port_limit (constrains source_port_flag a) a.source_port → Chosen port_limit (constrains destination_port_flag a) a.destination_port
      → Picked a.source.address a.source.length → Picked a.destination.address a.destination.length → Packet
  packet i q s d x y = record {
    in_port = i.number;
    source = x.address;
    destination = y.address;
    protocol = q.number;
    source_port = s.number;
    destination_port = d.number;
  }

  -- what the other asks of a packet of values that this one lets through
  asks : (i : Chosen port_limit (constrains in_port_flag a) a.in_port) (q : Spoken a)
      (s : Chosen port_limit (constrains source_port_flag a) a.source_port) (d : Chosen port_limit (constrains destination_port_flag a) a.destination_port)
      (x : Picked a.source.address a.source.length) (y : Picked a.destination.address a.destination.length) → Tests b (packet i q s d x y)
  unfolding right_packet
  asks i q s d x y =
      tests b (packet i q s d x y) (all (packet i q s d x y)
      (and_both (and_both (and_both (and_both (and_both (lt-ltb _ _ x.within) (lt-ltb _ _ y.within)) (lt-ltb _ _ i.below)) (lt-ltb _ _ q.below))
      (lt-ltb _ _ s.below)) (lt-ltb _ _ d.below))
      (tested a (packet i q s d x y) (record {
        unflagged = ap not (unflagged a live);
        ports = q.ports;
        in_port = i.met;
        protocol = q.met;
        source_port = s.met;
        destination_port = d.met;
        source = x.met;
        destination = y.met;
      })))

  -- where its protocol is not constrained, the other protocol with ports meets it too
  abbrev second : constrains protocol_flag a ≡ false → Spoken a
  second free = record {
    number = udp;
    below = omega arith;
    met = meets-free _ a.protocol udp free;
    ports = udp-passes (constrains port_flags a);
  }

  held : Parts a b
  held = record {
    live = ap not (met-lives b _ (tested b _ (asks in_port protocol source_port destination_port source destination)));
    in_port = (value-inside-exactly port_limit _ a.in_port _ b.in_port (omega arith) (ranges a ra).in_port).1
        (λ n h e. (asks (record { number = n; below = h; met = e }) protocol source_port destination_port source destination).in_port);
    protocol = value-told _ a.protocol _ b.protocol (own_protocol a) udp (λ on. rw on) (λ free e. let f : tcp ≡ udp = rw free at e in omega (arith, f))
        (asks in_port protocol source_port destination_port source destination).protocol
        (λ free. (asks in_port (second free) source_port destination_port source destination).protocol);
    source_port = (value-inside-exactly port_limit _ a.source_port _ b.source_port (omega arith) (ranges a ra).source_port).1
        (λ n h e. (asks in_port protocol (record { number = n; below = h; met = e }) destination_port source destination).source_port);
    destination_port = (value-inside-exactly port_limit _ a.destination_port _ b.destination_port (omega arith) (ranges a ra).destination_port).1
        (λ n h e. (asks in_port protocol source_port (record { number = n; below = h; met = e }) source destination).destination_port);
    source = (covers-exactly address_bits b.source.address b.source.length a.source.address a.source.length (ranges b rb).source_length (ranges a ra).source).1
        (λ n h e. (asks in_port protocol source_port destination_port (record { address = n; within = h; met = e }) destination).source);
    destination =
        (covers-exactly address_bits b.destination.address b.destination.length a.destination.address a.destination.length (ranges b rb).destination_length
        (ranges a ra).destination).1
        (λ n h e. (asks in_port protocol source_port destination_port source (record { address = n; within = h; met = e })).destination);
  }

-- A RIGHT MATCH LIES INSIDE ANOTHER exactly where every packet in range that meets it meets the other
pub inside-exactly : InsideExactly
inside-exactly a b ra rb = (
  λ e p r f. inside-meets a b p e f,
  λ all. by-test (is_empty a) (empty-inside a b) (λ live. whole a b (held a b ra rb live all)),
)
