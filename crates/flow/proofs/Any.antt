-- The match that constrains nothing is right and not empty, and every packet in range meets it. Assumes nothing.
use Prim.Native.Nat.{ℕ, ◌/◌, ◌^◌, ◌<◌}
use native.Mathlib.Omega.{arith}
use native.Mathlib.Nat.{zero-div, div-eq_of_lt}
use mathlib.Core.Path.{◌≡◌, refl, sym, ◌∙◌}
use mathlib.Core.Bool.{true, false, and-eq-true_iff}
use mathlib.Core.List.{[]}
use borrow.Author.Tests.{eq-eqb, ltb-true}
use Rattle.field.specs.Prefix.{address_bits, in_prefix, right_prefix, zero_beyond}
use Rattle.field.specs.Value.{right_value}
use Rattle.field.proofs.Values.{meets-free}
use Rattle.flow.specs.Packet.{right_packet}
use Rattle.flow.specs.Match.{match_of, constrains, protocol_flag, in_port_flag, source_port_flag, destination_port_flag, clash, unmet}
use Rattle.flow.specs.Match.{meets_ports, is_empty, is_none, is_plain, right_match, meets}
use Rattle.flow.specs.declared.Match.{Match}
use Rattle.flow.specs.declared.Packet.{Packet}
use Rattle.flow.proofs.Tests.{tested}

-- the match that constrains nothing
abbrev pub any : Match
any = match_of []

-- an address lies in the prefix of length 0
in-all : (x : ℕ) → x < 2 ^ address_bits → in_prefix address_bits 0 0 x ≡ true
unfolding in_prefix
in-all x h =
    let z : x / 2 ^ address_bits ≡ 0 = div-eq_of_lt h in
    eq-eqb (0 / 2 ^ address_bits) (x / 2 ^ address_bits) (zero-div (2 ^ address_bits) ∙ sym z)

-- it is right
pub any-right : right_match any ≡ true
unfolding right_match is_none is_plain right_value right_prefix zero_beyond
any-right = refl

-- it is not empty
pub any-lives : is_empty any ≡ false
unfolding is_empty unmet clash
any-lives = refl

-- every packet in range meets it
pub any-met : (p : Packet) → right_packet p ≡ true → meets any p ≡ true
unfolding right_packet meets_ports
any-met p e =
    let h = simp and-eq-true_iff at e in
    tested any p (record {
      unflagged = refl;
      in_port = meets-free (constrains in_port_flag any) 0 p.in_port refl;
      protocol = meets-free (constrains protocol_flag any) 0 p.protocol refl;
      source_port = meets-free (constrains source_port_flag any) 0 p.source_port refl;
      destination_port = meets-free (constrains destination_port_flag any) 0 p.destination_port refl;
      source = in-all p.source (omega (arith, ltb-true));
      destination = in-all p.destination (omega (arith, ltb-true));
      ports = refl;
    })
