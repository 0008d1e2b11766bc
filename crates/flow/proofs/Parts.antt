-- A match that lies inside another, field by field. Assumes nothing.
use mathlib.Core.Path.{◌≡◌, ap, ◌∙◌}
use mathlib.Core.Bool.{Bool, true, false, not, ◌||◌, and-eq-true_iff, or-true}
use Rattle.field.specs.Prefix.{address_bits, covers}
use Rattle.field.specs.Value.{value_inside}
use Rattle.flow.specs.Match.{in_port_flag, protocol_flag, source_port_flag, destination_port_flag, constrains, is_empty, inside}
use Rattle.flow.specs.declared.Match.{Match}
use Rattle.logic.proofs.Tests.{and_both}

-- how a match that is not empty lies inside another, by name
pub record Parts (a b : Match) : Type 0 where
  pub live : not (is_empty b) ≡ true
  pub in_port : value_inside (constrains in_port_flag a) a.in_port (constrains in_port_flag b) b.in_port ≡ true
  pub protocol : value_inside (constrains protocol_flag a) a.protocol (constrains protocol_flag b) b.protocol ≡ true
  pub source_port : value_inside (constrains source_port_flag a) a.source_port (constrains source_port_flag b) b.source_port ≡ true
  pub destination_port : value_inside (constrains destination_port_flag a) a.destination_port (constrains destination_port_flag b) b.destination_port ≡ true
  pub source : covers address_bits b.source.address b.source.length a.source.address a.source.length ≡ true
  pub destination : covers address_bits b.destination.address b.destination.length a.destination.address a.destination.length ≡ true

pub parts : (a b : Match) → is_empty a ≡ false → inside a b ≡ true → Parts a b
unfolding inside
parts a b l e =
    let f = rw l at e in
    let h = simp and-eq-true_iff at f in record {
      live = h.0.0.0.0.0.0;
      in_port = h.0.0.0.0.0.1;
      protocol = h.0.0.0.0.1;
      source_port = h.0.0.0.1;
      destination_port = h.0.0.1;
      source = h.0.1;
      destination = h.1;
    }

pub whole : (a b : Match) → Parts a b → inside a b ≡ true
unfolding inside
whole a b t =
    ap (λ (x : Bool). is_empty a || x)
    (and_both (and_both (and_both (and_both (and_both (and_both t.live t.in_port) t.protocol) t.source_port) t.destination_port) t.source)
    t.destination)
    ∙ or-true (is_empty a)
