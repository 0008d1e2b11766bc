-- What a packet must pass to meet a match, by name; so a packet that meets one with a port has a protocol with ports, and none meets an empty one.
-- Assumes nothing.
use mathlib.Core.Path.{◌≡◌, refl, ap, ◌∙◌}
use mathlib.Core.Bool.{Bool, true, false, not, ◌&&◌, ◌||◌, and-eq-true_iff, false≢true}
use Prim.Native.Nat.{ℕ}
use borrow.Author.Tests.{eqb-true}
use Rattle.field.specs.Prefix.{address_bits, in_prefix}
use Rattle.field.specs.Value.{meets_value}
use Rattle.flow.specs.Match.{in_port_flag, protocol_flag, source_port_flag, destination_port_flag, port_flags, empty_flag, constrains}
use Rattle.flow.specs.Match.{has_ports, meets_ports, clash, unmet, is_empty, meets}
use Rattle.flow.specs.Theorems.{MeetsEmpty, PortsMet}
use Rattle.flow.specs.declared.Match.{Match}
use Rattle.flow.specs.declared.Packet.{Packet}
use Rattle.logic.proofs.Tests.{by-test, and_both}

-- the tests that a packet passes which meets a match, by name
pub record Tests (m : Match) (p : Packet) : Type 0 where
  pub unflagged : not (constrains empty_flag m) ≡ true
  pub in_port : meets_value (constrains in_port_flag m) m.in_port p.in_port ≡ true
  pub protocol : meets_value (constrains protocol_flag m) m.protocol p.protocol ≡ true
  pub source_port : meets_value (constrains source_port_flag m) m.source_port p.source_port ≡ true
  pub destination_port : meets_value (constrains destination_port_flag m) m.destination_port p.destination_port ≡ true
  pub source : in_prefix address_bits m.source.address m.source.length p.source ≡ true
  pub destination : in_prefix address_bits m.destination.address m.destination.length p.destination ≡ true
  pub ports : meets_ports (constrains port_flags m) p.protocol ≡ true

pub tests : (m : Match) (p : Packet) → meets m p ≡ true → Tests m p
unfolding meets
tests m p e =
    let h = simp and-eq-true_iff at e in record {
      unflagged = h.0.0.0.0.0.0.0;
      in_port = h.0.0.0.0.0.0.1;
      protocol = h.0.0.0.0.0.1;
      source_port = h.0.0.0.0.1;
      destination_port = h.0.0.0.1;
      source = h.0.0.1;
      destination = h.0.1;
      ports = h.1;
    }

pub tested : (m : Match) (p : Packet) → Tests m p → meets m p ≡ true
unfolding meets
tested m p t =
    and_both (and_both (and_both (and_both (and_both (and_both (and_both t.unflagged t.in_port) t.protocol) t.source_port) t.destination_port)
    t.source) t.destination) t.ports

-- A PACKET THAT MEETS A MATCH WITH A PORT has a protocol with ports
pub ports-met : PortsMet
unfolding meets_ports
ports-met m p on e = let passed = (tests m p e).ports in rw on at passed

-- no protocol of a packet that meets a match goes against its ports
lives : (x on c : Bool) (q r : ℕ) → not x ≡ true → meets_ports on r ≡ true → meets_value c q r ≡ true → (x || (on && c && not (has_ports q))) ≡ false
unfolding meets_ports meets_value
lives true on c q r u o v = absurd (false≢true u)
lives false false c q r u o v = refl
lives false true false q r u o v = refl
lives false true true q r u o v = ap not (ap has_ports (eqb-true q r v) ∙ o)

-- a match that some packet meets is not empty
pub met-lives : (m : Match) (p : Packet) → meets m p ≡ true → is_empty m ≡ false
unfolding is_empty unmet clash
met-lives m p e =
    let t : Tests m p = tests m p e in
    lives (constrains empty_flag m) (constrains port_flags m) (constrains protocol_flag m) m.protocol p.protocol t.unflagged t.ports t.protocol

-- NO PACKET MEETS AN EMPTY MATCH
pub meets-empty : MeetsEmpty
meets-empty m p e = by-test (meets m p) (λ t. let live : is_empty m ≡ false = met-lives m p t in cc) (λ f. f)
