-- A match lies inside another by flags first: it has every flag of the other, and its own values meet those that the other constrains. That
-- the other is not empty follows. Assumes nothing.
use mathlib.Core.Path.{◌≡◌, refl, sym, ap, ◌∙◌}
use mathlib.Core.Bool.{Bool, true, false, not, ◌&&◌, ◌||◌, and-eq-true_iff, or-true}
use mathlib.Core.Logic.{⊎_elim}
use Prim.Native.Nat.{ℕ}
use lib.Dec.{eqb}
use borrow.Author.Tests.{eqb-true, not-true}
use Rattle.field.specs.Prefix.{address_bits, covers}
use Rattle.field.specs.Value.{meets_value, value_inside}
use Rattle.flow.specs.Match.{in_port_flag, protocol_flag, source_port_flag, destination_port_flag, port_flags, empty_flag}
use Rattle.flow.specs.Match.{constrains, has_flag_of, has_flags_of, has_ports, clash, contradicts, unmet, is_empty, inside}
use Rattle.flow.specs.declared.Match.{Match}
use Rattle.flow.proofs.Flags.{flag-either}
use Rattle.flow.proofs.Laws.{unflagged}
use Rattle.flow.proofs.Parts.{parts, whole}
use Rattle.logic.proofs.Tests.{by-test, and_left, and_right, and_both, or_split, same_test}

-- a flag that is to be there is
flag-on : (k : ℕ) (a b : Match) → has_flag_of k a b ≡ true → constrains k b ≡ true → constrains k a ≡ true
flag-on k a b e on = let f = rw on at e in f

-- a match has a port where it has the ports of another that has one
pub port-on : (a b : Match) → (constrains source_port_flag b ≡ true → constrains source_port_flag a ≡ true)
    → (constrains destination_port_flag b ≡ true → constrains destination_port_flag a ≡ true)
    → constrains port_flags b ≡ true → constrains port_flags a ≡ true
port-on a b source destination e =
    flag-either source_port_flag destination_port_flag a.flags
    ∙ ⊎_elim (λ s. ap (λ (x : Bool). x || constrains destination_port_flag a) (source s))
    (λ d. ap (λ (x : Bool). constrains source_port_flag a || x) (destination d) ∙ or-true (constrains source_port_flag a))
    (or_split _ _ (sym (flag-either source_port_flag destination_port_flag b.flags) ∙ e))

-- a match is empty where it has the flags of another that is empty and, where that constrains the protocol, its protocol
empty-too : (a b : Match) → has_flags_of a b ≡ true → meets_value (constrains protocol_flag b) b.protocol a.protocol ≡ true
    → is_empty b ≡ true → is_empty a ≡ true
unfolding is_empty unmet clash contradicts has_flags_of meets_value
empty-too a b flags met e =
    let h = simp and-eq-true_iff at flags in
    ⊎_elim (λ f. ap (λ (x : Bool). x || contradicts a) (flag-on empty_flag a b h.1 f))
    (λ c.
    let t = simp and-eq-true_iff at c in
    let same = rw t.0.1 at met in
    ap (λ (x : Bool). constrains empty_flag a || x) (and_both (and_both
    (port-on a b (flag-on source_port_flag a b h.0.0.1) (flag-on destination_port_flag a b h.0.1) t.0.0)
    (flag-on protocol_flag a b h.0.0.0.1 t.0.1)) (ap (λ (q : ℕ). not (has_ports q)) (sym (eqb-true b.protocol a.protocol same)) ∙ t.1))
    ∙ or-true (constrains empty_flag a))
    (or_split _ _ e)

-- one value lies inside another where the flag of the other is there and its own value meets that
value-by-flag : (k : ℕ) (a b : Match) (v w : ℕ)
    → (has_flag_of k a b && meets_value (constrains k b) w v) ≡ value_inside (constrains k a) v (constrains k b) w
unfolding meets_value value_inside
value-by-flag k a b v w = go (constrains k a) (constrains k b) (eqb w v)
  where
    go : (on on' e : Bool) → ((not on' || on) && (not on' || e)) ≡ (not on' || (on && e))
    go on false e = refl
    go false true e = refl
    go true true e = refl

by-flag : (k : ℕ) (a b : Match) (v w : ℕ) → value_inside (constrains k a) v (constrains k b) w ≡ true
    → (has_flag_of k a b ≡ true) × (meets_value (constrains k b) w v ≡ true)
by-flag k a b v w e = let f = value-by-flag k a b v w ∙ e in (and_left (has_flag_of k a b) _ f, and_right _ (meets_value (constrains k b) w v) f)

-- the two tests of a match that is not empty are one, where the addresses pass
pub inside-by-flags : (a b : Match) → is_empty a ≡ false
    → covers address_bits b.destination.address b.destination.length a.destination.address a.destination.length ≡ true
    → covers address_bits b.source.address b.source.length a.source.address a.source.length ≡ true
    → (has_flags_of a b && meets_value (constrains in_port_flag b) b.in_port a.in_port
    && meets_value (constrains protocol_flag b) b.protocol a.protocol
    && meets_value (constrains source_port_flag b) b.source_port a.source_port
    && meets_value (constrains destination_port_flag b) b.destination_port a.destination_port) ≡ inside a b
unfolding has_flags_of
inside-by-flags a b live destination source =
    same_test _ _
    (λ e.
    let h = simp and-eq-true_iff at e in
    let flags = and_both (and_both (and_both (and_both h.0.0.0.0.0.0.0.0 h.0.0.0.0.0.0.0.1) h.0.0.0.0.0.0.1) h.0.0.0.0.0.1) h.0.0.0.0.1 in
    whole a b (record {
      live = by-test (is_empty b) (λ f. let t = empty-too a b flags h.0.0.1 f in cc) (ap not);
      in_port = sym (value-by-flag in_port_flag a b _ _) ∙ and_both h.0.0.0.0.0.0.0.0 h.0.0.0.1;
      protocol = sym (value-by-flag protocol_flag a b _ _) ∙ and_both h.0.0.0.0.0.0.0.1 h.0.0.1;
      source_port = sym (value-by-flag source_port_flag a b _ _) ∙ and_both h.0.0.0.0.0.0.1 h.0.1;
      destination_port = sym (value-by-flag destination_port_flag a b _ _) ∙ and_both h.0.0.0.0.0.1 h.1;
      source = source;
      destination = destination;
    }))
    (λ e.
    let t = parts a b live e in
    let i = by-flag in_port_flag a b _ _ t.in_port in
    let q = by-flag protocol_flag a b _ _ t.protocol in
    let s = by-flag source_port_flag a b _ _ t.source_port in
    let d = by-flag destination_port_flag a b _ _ t.destination_port in
    let n = ap (λ (x : Bool). not x || constrains empty_flag a) (unflagged b (not-true (is_empty b) t.live)) in
    and_both (and_both (and_both (and_both
    (and_both (and_both (and_both (and_both i.0 q.0) s.0) d.0) n) i.1) q.1) s.1) d.1)
