-- The packet of a match's constrained values: in range for a right match, and it meets the match unless that is empty. Assumes nothing.
use Prim.Native.Nat.{ℕ, ◌<◌}
use native.Mathlib.Omega.{arith}
use mathlib.Core.Path.{◌≡◌, refl, sym, ap}
use mathlib.Core.Bool.{Bool, true, false, cond, not, ◌&&◌, ◌||◌, false≢true}
use borrow.Author.Tests.{lt-ltb, not-false}
use Rattle.logic.proofs.Tests.{and_both}
use Rattle.field.specs.Prefix.{address_bits}
use Rattle.field.specs.Value.{meets_value}
use Rattle.field.proofs.Prefixes.{in-own}
use Rattle.field.proofs.Values.{meets-own-value, meets-free}
use Rattle.flow.specs.Packet.{port_limit, protocol_limit, right_packet}
use Rattle.flow.specs.Match.{in_port_flag, protocol_flag, source_port_flag, destination_port_flag, port_flags, empty_flag, constrains, tcp, has_ports}
use Rattle.flow.specs.Match.{meets_ports, clash, unmet, is_empty, right_match, meets}
use Rattle.flow.specs.declared.Match.{Match}
use Rattle.flow.proofs.Tests.{tested}
use Rattle.flow.proofs.Laws.{ranges, unflagged}
use Rattle.witness.specs.Witness.{sampled_protocol, sample}

-- a value that may be sampled stays below what it is below
below : (on : Bool) (limit v w : ℕ) → v < limit → w < limit → cond on v w < limit
below true limit v w p q = p
below false limit v w p q = q

-- the packet of a right match is in range
pub sample-right : (m : Match) → right_match m ≡ true → right_packet (sample m) ≡ true
unfolding right_packet sample
sample-right m right =
    let r = ranges m right in
    and_both (and_both (and_both (and_both (and_both
    (lt-ltb _ _ r.source)
    (lt-ltb _ _ r.destination))
    (lt-ltb _ _ (below (constrains in_port_flag m) port_limit m.in_port 0 r.in_port (omega arith))))
    (lt-ltb _ _
    (below (constrains protocol_flag m) protocol_limit m.protocol (cond (constrains port_flags m) tcp 0) r.protocol
    (below (constrains port_flags m) protocol_limit tcp 0 (omega arith) (omega arith)))))
    (lt-ltb _ _ (below (constrains source_port_flag m) port_limit m.source_port 0 r.source_port (omega arith))))
    (lt-ltb _ _ (below (constrains destination_port_flag m) port_limit m.destination_port 0 r.destination_port (omega arith)))

-- a value meets what is sampled of it
met : (on : Bool) (v w : ℕ) → meets_value on v (cond on v w) ≡ true
met true v w = meets-own-value true v
met false v w = meets-free false v w refl

-- the protocol that is sampled passes the ports
ports : (m : Match) → is_empty m ≡ false → meets_ports (constrains port_flags m) (sampled_protocol m) ≡ true
unfolding is_empty unmet clash meets_ports
ports m live = go (constrains empty_flag m) (constrains port_flags m) (constrains protocol_flag m) live
  where
    go : (x on c : Bool) → (x || (on && c && not (has_ports m.protocol))) ≡ false
        → (not on || has_ports (cond c m.protocol (cond on tcp 0))) ≡ true
    go x false c e = refl
    go x true false e = refl
    go true true true e = absurd (false≢true (sym e))
    go false true true e = not-false (has_ports m.protocol) e

-- the packet meets the match, unless that is empty
pub sample-meets : (m : Match) → is_empty m ≡ false → meets m (sample m) ≡ true
unfolding sample
sample-meets m live =
    tested m (sample m) (record {
      unflagged = ap not (unflagged m live);
      in_port = met (constrains in_port_flag m) m.in_port 0;
      protocol = met (constrains protocol_flag m) m.protocol (cond (constrains port_flags m) tcp 0);
      source_port = met (constrains source_port_flag m) m.source_port 0;
      destination_port = met (constrains destination_port_flag m) m.destination_port 0;
      source = in-own address_bits m.source.address m.source.length;
      destination = in-own address_bits m.destination.address m.destination.length;
      ports = ports m live;
    })
