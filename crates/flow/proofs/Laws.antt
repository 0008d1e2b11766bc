-- Laws of matches, field by field from the laws of prefixes and values: a conjunction of tests joins part by part. Assumes nothing.
use mathlib.Core.Path.{◌≡◌, refl, sym, ap, ◌∙◌}
use mathlib.Core.Bool.{Bool, true, false, cond, not, ◌&&◌, ◌||◌, and-eq-true_iff, and-true, or-true, false≢true}
use mathlib.Core.Logic.{⊎_elim}
use Prim.Native.Nat.{ℕ, ◌^◌, ◌≤◌, ◌<◌}
use native.Mathlib.Omega.{arith}
use lib.Bits.{bit_and}
use lib.Dec.{eqb}
use borrow.Author.Tests.{ltb-true, leb-true, eqb-true, lt-ltb, not-true, not-false}
use Rattle.field.specs.Prefix.{address_bits, right_prefix}
use Rattle.field.specs.Value.{meets_value, right_value}
use Rattle.field.proofs.Prefixes.{prefix-joins, in-own, longer-right, longer-within}
use Rattle.field.proofs.Values.{meets-own-value, meets-free, common-value-below}
use Rattle.flow.specs.Packet.{port_limit, protocol_limit, right_packet}
use Rattle.flow.specs.Match.{in_port_flag, protocol_flag, source_port_flag, destination_port_flag, port_flags, known_flags, empty_flag, flagged, constrains}
use Rattle.flow.specs.Match.{tcp, has_ports, meets_ports, clash, contradicts, unmet, is_empty, is_none, is_plain, right_match, meets, agree}
use Rattle.flow.specs.Match.{overlap, both, none, common, SharedPacket}
use Rattle.flow.specs.Theorems.{MeetsCommon, OverlapExactly, MeetsOverlap, MetExactly, EmptyExactly, CommonRight, CommonEmpty, CommonNone}
use Rattle.flow.specs.declared.Match.{Match}
use Rattle.flow.specs.declared.Packet.{Packet}
use Rattle.flow.proofs.Flags.{flag-or, unset-joins, ports-join, flagged-joins, flagged-right, known-right, unknown-unset}
use Rattle.flow.proofs.Tests.{tested, met-lives, meets-empty}
use Rattle.logic.specs.Tests.{Joins, Keeps}
use Rattle.logic.proofs.Tests.{by-test, and_left, and_right, and_both, and-under, or_split, same_test, joins-and, keeps-and}

-- a packet meets both matches exactly where they agree and it meets both together
meets-agree : (a b : Match) (p : Packet) → Joins (meets a p) (meets b p) (agree a b) (meets (both a b) p)
unfolding meets both
meets-agree a b p = record { eq = joined.eq ∙ ap (λ (t : Bool). t && meets (both a b) p) (and-true (agree a b)) }
  where
    joined : Joins (meets a p) (meets b p) (agree a b && true) (meets (both a b) p)
    joined =
        joins-and (joins-and (joins-and (joins-and (joins-and (joins-and (joins-and
        (unset-joins empty_flag a.flags b.flags)
        (flagged-joins in_port_flag a.flags b.flags a.in_port b.in_port p.in_port))
        (flagged-joins protocol_flag a.flags b.flags a.protocol b.protocol p.protocol))
        (flagged-joins source_port_flag a.flags b.flags a.source_port b.source_port p.source_port))
        (flagged-joins destination_port_flag a.flags b.flags a.destination_port b.destination_port p.destination_port))
        (prefix-joins address_bits a.source.address a.source.length b.source.address b.source.length p.source))
        (prefix-joins address_bits a.destination.address a.destination.length b.destination.address b.destination.length p.destination))
        (ports-join port_flags a.flags b.flags p.protocol)

-- where they overlap, since none meets both together if that is empty
meets-both : (a b : Match) (p : Packet) → Joins (meets a p) (meets b p) (overlap a b) (meets (both a b) p)
unfolding overlap
meets-both a b p = record { eq = (meets-agree a b p).eq ∙ go (agree a b) (is_empty (both a b)) (meets (both a b) p) (meets-empty (both a b) p) }
  where
    go : (f x t : Bool) → (x ≡ true → t ≡ false) → (f && t) ≡ ((f && not x) && t)
    go true true t h = h refl
    go true false t h = refl
    go false x t h = refl

meets-none : (p : Packet) → meets none p ≡ false
unfolding meets
meets-none p = refl

-- A PACKET MEETS THE COMMON MATCH exactly where it meets both
pub meets-common : MeetsCommon
unfolding common
meets-common a b p = go (overlap a b) ∙ sym (meets-both a b p).eq
  where
    go : (t : Bool) → meets (cond t (both a b) none) p ≡ (t && meets (both a b) p)
    go true = refl
    go false = meets-none p

pub meets-overlap : MeetsOverlap
meets-overlap a b p e f = and_left (overlap a b) (meets (both a b) p) (sym (meets-both a b p).eq ∙ and_both e f)

-- a match's own protocol: where it is not constrained, one that has ports
abbrev pub own_protocol : Match → ℕ
own_protocol m = cond (constrains protocol_flag m) m.protocol tcp

-- the packet of a match's own values
abbrev own_packet : Match → Packet
own_packet m = record {
  in_port = m.in_port;
  source = m.source.address;
  destination = m.destination.address;
  protocol = own_protocol m;
  source_port = m.source_port;
  destination_port = m.destination_port;
}

-- a match that is not empty has not flag 16
pub unflagged : (m : Match) → is_empty m ≡ false → constrains empty_flag m ≡ false
unfolding is_empty unmet
unflagged m live = go (constrains empty_flag m) _ live
  where
    go : (x y : Bool) → (x || y) ≡ false → x ≡ false
    go true y e = e
    go false y e = refl

-- its own protocol meets it, and passes its ports
pub own-protocol-met : (m : Match) → meets_value (constrains protocol_flag m) m.protocol (own_protocol m) ≡ true
own-protocol-met m = go (constrains protocol_flag m)
  where
    go : (on : Bool) → meets_value on m.protocol (cond on m.protocol tcp) ≡ true
    go true = meets-own-value true m.protocol
    go false = meets-free false m.protocol tcp refl

pub own-protocol-ports : (m : Match) → is_empty m ≡ false → meets_ports (constrains port_flags m) (own_protocol m) ≡ true
unfolding is_empty unmet clash meets_ports
own-protocol-ports m live = go (constrains empty_flag m) (constrains port_flags m) (constrains protocol_flag m) live
  where
    go : (x on c : Bool) → (x || (on && c && not (has_ports m.protocol))) ≡ false → (not on || has_ports (cond c m.protocol tcp)) ≡ true
    go x false c e = refl
    go x true false e = refl
    go true true true e = absurd (false≢true (sym e))
    go false true true e = not-false (has_ports m.protocol) e

-- the own packet meets the match, unless that is empty
meets-own : (m : Match) → is_empty m ≡ false → meets m (own_packet m) ≡ true
meets-own m live =
    tested m (own_packet m) (record {
      unflagged = ap not (unflagged m live);
      ports = own-protocol-ports m live;
      in_port = meets-own-value (constrains in_port_flag m) m.in_port;
      protocol = own-protocol-met m;
      source_port = meets-own-value (constrains source_port_flag m) m.source_port;
      destination_port = meets-own-value (constrains destination_port_flag m) m.destination_port;
      source = in-own address_bits m.source.address m.source.length;
      destination = in-own address_bits m.destination.address m.destination.length;
    })

-- the values of a right match are in a packet's ranges, its prefixes no longer than an address
pub record Ranges (m : Match) : Type 0 where
  pub source : m.source.address < 2 ^ address_bits
  pub destination : m.destination.address < 2 ^ address_bits
  pub in_port : m.in_port < port_limit
  pub protocol : m.protocol < protocol_limit
  pub source_port : m.source_port < port_limit
  pub destination_port : m.destination_port < port_limit
  pub source_length : m.source.length ≤ address_bits
  pub destination_length : m.destination.length ≤ address_bits

pub ranges : (m : Match) → right_match m ≡ true → Ranges m
unfolding right_match is_none is_plain right_value right_prefix
ranges m e =
    ⊎_elim
    (λ n. let h = simp and-eq-true_iff at n in omega (arith, eqb-true))
    (λ n. let h = simp and-eq-true_iff at n in omega (arith, ltb-true, leb-true))
    (or_split (is_none m) (is_plain m) e)

-- and so is the own protocol of a match whose protocol is in range
pub own-protocol-below : (m : Match) → m.protocol < protocol_limit → own_protocol m < protocol_limit
own-protocol-below m h = common-value-below (constrains protocol_flag m) protocol_limit m.protocol tcp h (omega arith)

-- the own packet of two right matches together is in range
own-right : (a b : Match) → Ranges a → Ranges b → right_packet (own_packet (both a b)) ≡ true
unfolding right_packet both
own-right a b r s =
    and_both (and_both (and_both (and_both (and_both
    (lt-ltb _ _ (longer-within address_bits a.source.address a.source.length b.source.address b.source.length r.source s.source))
    (lt-ltb _ _ (longer-within address_bits a.destination.address a.destination.length b.destination.address b.destination.length r.destination s.destination)))
    (lt-ltb _ _ (common-value-below (constrains in_port_flag a) port_limit a.in_port b.in_port r.in_port s.in_port)))
    (lt-ltb _ _
    (own-protocol-below (both a b) (common-value-below (constrains protocol_flag a) protocol_limit a.protocol b.protocol r.protocol s.protocol))))
    (lt-ltb _ _ (common-value-below (constrains source_port_flag a) port_limit a.source_port b.source_port r.source_port s.source_port)))
    (lt-ltb _ _
    (common-value-below (constrains destination_port_flag a) port_limit a.destination_port b.destination_port r.destination_port s.destination_port))

-- two matches that overlap are not empty together
both-lives : (a b : Match) → overlap a b ≡ true → is_empty (both a b) ≡ false
unfolding overlap
both-lives a b e = not-true (is_empty (both a b)) (and_right (agree a b) _ e)

-- RIGHT MATCHES OVERLAP exactly where a packet in range meets both: the own packet of both together does
pub overlap-exactly : OverlapExactly
overlap-exactly a b ra rb = (shown, λ s. meets-overlap a b s.packet s.left s.right)
  where
    shown : overlap a b ≡ true → SharedPacket a b
    shown e =
        let p : Packet = own_packet (both a b) in
        let m : (meets a p && meets b p) ≡ true = (meets-both a b p).eq ∙ and_both e (meets-own (both a b) (both-lives a b e)) in record {
          packet = p;
          in_range = own-right a b (ranges a ra) (ranges b rb);
          left = and_left (meets a p) (meets b p) m;
          right = and_right (meets a p) (meets b p) m;
        }

-- A RIGHT MATCH IS NOT EMPTY exactly where a packet in range meets it
pub met-exactly : MetExactly
met-exactly m r = (
  λ live. (overlap-exactly m m r r).0 (meets-overlap m m (own_packet m) (meets-own m live) (meets-own m live)),
  λ s. met-lives m s.packet s.left,
)

-- AND EMPTY exactly where none does
pub empty-exactly : EmptyExactly
empty-exactly m r = (λ e p h. meets-empty m p e, λ missed. by-test (is_empty m) (λ e. e) (λ live. absurd (met ((met-exactly m r).0 live) missed)))
  where
    met : SharedPacket m m → ((p : Packet) → right_packet p ≡ true → meets m p ≡ false) → ⊥
    met s missed = false≢true (sym (missed s.packet s.in_range) ∙ s.left)

-- a right match without flag 16 is plain
plain : (m : Match) → right_match m ≡ true → constrains empty_flag m ≡ false → is_plain m ≡ true
unfolding right_match is_none
plain m e u =
    ⊎_elim
    (λ n. let h = simp and-eq-true_iff at n in
    let t : constrains empty_flag m ≡ true = ap (flagged empty_flag) (eqb-true m.flags empty_flag h.1) in
    cc)
    (λ n. n)
    (or_split (is_none m) (is_plain m) e)

-- a plain match has not flag 16, so it is empty exactly if it contradicts itself
plain-empty : (m : Match) → is_plain m ≡ true → is_empty m ≡ contradicts m
unfolding is_plain is_empty unmet contradicts
plain-empty m e =
    ap (λ (t : Bool). t || contradicts m)
    (unknown-unset known_flags empty_flag m.flags (by-test (eqb (bit_and m.flags known_flags) m.flags) (λ t. t) (λ f. cc)) refl)

-- the right matches that are not empty are the plain ones that do not contradict themselves
pub plain-exactly : (m : Match) → (is_plain m && not (contradicts m)) ≡ (right_match m && not (is_empty m))
unfolding right_match
plain-exactly m =
    by-test (is_plain m) (λ e. ap (λ (t : Bool). is_plain m && not t) (sym (plain-empty m e))) (λ f. rw f)
    ∙ and-under (is_plain m) (right_match m) (not (is_empty m))
    (λ live. same_test (is_plain m) (right_match m)
    (λ e. ap (λ (t : Bool). is_none m || t) e ∙ or-true (is_none m))
    (λ e. plain m e (unflagged m (not-true (is_empty m) live))))

both-plain : (a b : Match) → Keeps (is_plain a) (is_plain b) (is_plain (both a b))
unfolding both is_plain
both-plain a b =
    keeps-and (keeps-and (keeps-and (keeps-and (keeps-and (keeps-and
    (known-right known_flags a.flags b.flags)
    (flagged-right in_port_flag a.flags b.flags port_limit a.in_port b.in_port))
    (flagged-right protocol_flag a.flags b.flags protocol_limit a.protocol b.protocol))
    (flagged-right source_port_flag a.flags b.flags port_limit a.source_port b.source_port))
    (flagged-right destination_port_flag a.flags b.flags port_limit a.destination_port b.destination_port))
    (longer-right address_bits a.source.address a.source.length b.source.address b.source.length))
    (longer-right address_bits a.destination.address a.destination.length b.destination.address b.destination.length)

-- two matches without flag 16 together have it neither
unflagged-both : (a b : Match) → constrains empty_flag (both a b) ≡ false → (constrains empty_flag a ≡ false) × (constrains empty_flag b ≡ false)
unfolding both
unflagged-both a b u = go (constrains empty_flag a) (constrains empty_flag b) (sym (flag-or empty_flag a.flags b.flags) ∙ u)
  where
    go : (x y : Bool) → (x || y) ≡ false → (x ≡ false) × (y ≡ false)
    go true y e = absurd (false≢true (sym e))
    go false y e = (refl, e)

-- THE COMMON MATCH OF RIGHT MATCHES IS RIGHT
pub common-right : CommonRight
unfolding common right_match is_none
common-right a b p q = go (overlap a b) refl
  where
    go : (t : Bool) → overlap a b ≡ t → right_match (cond t (both a b) none) ≡ true
    go true e =
        let u = unflagged-both a b (unflagged (both a b) (both-lives a b e)) in
        ap (λ (t : Bool). is_none (both a b) || t) ((both-plain a b).gives (plain a p u.0) (plain b q u.1)) ∙ or-true (is_none (both a b))
    go false e = refl

-- and empty exactly where the two do not overlap
pub common-empty : CommonEmpty
unfolding common is_empty unmet
common-empty a b = go (overlap a b) refl
  where
    go : (t : Bool) → overlap a b ≡ t → is_empty (cond t (both a b) none) ≡ not t
    go true e = both-lives a b e
    go false e = refl

-- then it is flag 16 alone
pub common-none : CommonNone
unfolding common
common-none a b p q apart = by-test (overlap a b) (λ e. absurd (apart ((overlap-exactly a b p q).0 e))) (λ e. rw e)
