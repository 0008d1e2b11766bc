-- Flags of two matches joined by or: one of some flags is set where it is set in either, so the laws of one value carry over. Assumes nothing.
use mathlib.Core.Path.{◌≡◌, refl, sym, ap, ap₂, ◌∙◌}
use mathlib.Core.Bool.{Bool, true, false, not, ◌&&◌, ◌||◌, not-not}
use Prim.Native.Nat.{ℕ, zero, suc, ◌+◌, ◌-◌, ◌*◌, ◌/◌, ◌^◌, ◌<◌, min}
use native.Mathlib.Omega.{arith}
use lib.Arith.{bin_ind}
use lib.Bits.{bit_and, bit_or, and_step, and_shr, and_comm, and_le_r, or_step, or_shr, or_add_and}
use lib.Dec.{eqb}
use Rattle.std.specs.Int.{bit_at}
use Rattle.std.proofs.lemmas.Nat.{pow_pos}
use Rattle.std.proofs.lemmas.Nat.Bits.{and_pow, bit_at_and, bit_at-lt, bit_at_not}
use Rattle.std.proofs.Common.{w32}
use borrow.Author.Tests.{eqb-true, eq-eqb, ne_eqb}
use Rattle.field.specs.Value.{meets_value, values_meet, common_value, right_value}
use Rattle.field.proofs.Values.{value-joins, common-value-right}
use Rattle.flow.specs.Match.{flagged, known_flags, empty_flag, has_flags_of, has_ports, meets_ports}
use Rattle.flow.specs.declared.Match.{Match}
use Rattle.logic.specs.Tests.{Joins, Keeps}

-- some of the flags joined are some of the one and some of the other
and-or : (f g k : ℕ) → bit_and (bit_or f g) k ≡ bit_or (bit_and f k) (bit_and g k)
and-or =
    bin_ind (λ (f : ℕ). (g k : ℕ) → bit_and (bit_or f g) k ≡ bit_or (bit_and f k) (bit_and g k))
    (λ g k. refl)
    (λ f ih g k.
    and_step (bit_or f g) k
    ∙ ap₂ (λ (x y : ℕ). x * 2 + y)
    (ap (λ (x : ℕ). bit_and x (k / 2)) (or_shr f g 1) ∙ ih (g / 2) (k / 2) ∙ sym (ap₂ bit_or (and_shr f k 1) (and_shr g k 1)))
    (omega (arith, or_step f g, and_step f k, and_step g k))
    ∙ sym (or_step (bit_and f k) (bit_and g k)))

-- joined flags are 0 where both are
or-zero : (f g : ℕ) → not (eqb (bit_or f g) 0) ≡ (not (eqb f 0) || not (eqb g 0))
or-zero zero g = refl
or-zero (suc f) g =
    let sum = or_add_and (suc f) g in
    let less = and_le_r (suc f) g in
    ap not (ne_eqb (bit_or (suc f) g) 0 (λ z. omega (arith, sum, less, z)))
    ∙ sym (ap (λ (t : Bool). not t || not (eqb g 0)) (ne_eqb (suc f) 0 (λ z. omega arith)))

-- one of some flags is set in two words joined where it is set in either
pub flag-or : (k f g : ℕ) → flagged k (bit_or f g) ≡ (flagged k f || flagged k g)
flag-or k f g = ap (λ (x : ℕ). not (eqb x 0)) (and-or f g k) ∙ or-zero (bit_and f k) (bit_and g k)

-- one of two flags together is set where either is
pub flag-either : (k l f : ℕ) → flagged (bit_or k l) f ≡ (flagged k f || flagged l f)
flag-either k l f =
    ap (λ (x : ℕ). not (eqb x 0)) (and_comm f (bit_or k l) ∙ and-or k l f ∙ ap₂ bit_or (and_comm k f) (and_comm l f))
    ∙ or-zero (bit_and f k) (bit_and f l)

-- neither flag is set exactly where none is set in both joined
pub unset-joins : (k f g : ℕ) → Joins (not (flagged k f)) (not (flagged k g)) true (not (flagged k (bit_or f g)))
unset-joins k f g = record { eq = go (flagged k f) (flagged k g) ∙ ap not (sym (flag-or k f g)) }
  where
    go : (x y : Bool) → (not x && not y) ≡ not (x || y)
    go true y = refl
    go false y = refl

-- a protocol passes the ports of two matches exactly where it passes those of both joined
pub ports-join : (k f g q : ℕ) → Joins (meets_ports (flagged k f) q) (meets_ports (flagged k g) q) true (meets_ports (flagged k (bit_or f g)) q)
unfolding meets_ports
ports-join k f g q = record {
  eq = go (flagged k f) (flagged k g) (has_ports q) ∙ ap (λ (on : Bool). not on || has_ports q) (sym (flag-or k f g));
}
  where
    go : (x y t : Bool) → ((not x || t) && (not y || t)) ≡ (not (x || y) || t)
    go true true true = refl
    go true true false = refl
    go true false true = refl
    go true false false = refl
    go false y t = refl

-- values under a flag join, and stay right
pub flagged-joins : (k f g v v' x : ℕ)
    → Joins (meets_value (flagged k f) v x) (meets_value (flagged k g) v' x) (values_meet (flagged k f) v (flagged k g) v')
    (meets_value (flagged k (bit_or f g)) (common_value (flagged k f) v v') x)
flagged-joins k f g v v' x = rw (flag-or k f g) (value-joins (flagged k f) v (flagged k g) v' x)

pub flagged-right : (k f g limit v v' : ℕ)
    → Keeps (right_value (flagged k f) limit v) (right_value (flagged k g) limit v')
    (right_value (flagged k (bit_or f g)) limit (common_value (flagged k f) v v'))
flagged-right k f g limit v v' = rw (flag-or k f g) (common-value-right (flagged k f) (flagged k g) limit v v')

-- where only known flags are set, joining sets no others
pub known-right : (known f g : ℕ) → Keeps (eqb (bit_and f known) f) (eqb (bit_and g known) g) (eqb (bit_and (bit_or f g) known) (bit_or f g))
known-right known f g = record {
  gives = λ p q. eq-eqb _ _ (and-or f g known ∙ ap₂ bit_or (eqb-true (bit_and f known) f p) (eqb-true (bit_and g known) g q));
}

-- and a flag that is not known is not set
pub unknown-unset : (known k f : ℕ) → eqb (bit_and f known) f ≡ true → flagged k known ≡ false → flagged k f ≡ false
unknown-unset known k f e u =
    let inside = eqb-true (bit_and f known) f e in
    let joined : bit_or f known ≡ known = omega (arith, or_add_and f known, inside) in
    go (flagged k f) (flagged k known) u (sym (flag-or k f known) ∙ ap (flagged k) joined)
  where
    go : (x y : Bool) → y ≡ false → (x || y) ≡ y → x ≡ false
    go true y p q = q ∙ p
    go false y p q = refl

-- a power of 2 is set where its bit is 1
flag-bit : (j f : ℕ) → flagged (2 ^ j) f ≡ not (eqb (bit_at f j) 0)
flag-bit j f = rw (and_pow f j) (go (bit_at f j) (bit_at-lt f j))
  where
    go : (b : ℕ) → b < 2 → not (eqb (b * 2 ^ j) 0) ≡ not (eqb b 0)
    go zero h = ap not (eq-eqb (0 * 2 ^ j) 0 (omega arith))
    go (suc b) h = let e : b ≡ 0 = omega (arith, h) in rw e (ap not (ne_eqb (1 * 2 ^ j) 0 (λ z. omega (arith, z, pow_pos j))))

-- of the flags of the one that the other has not, one is set where the one has it and the other has not
kept : (j f g : ℕ) → j < 32 → g < 2 ^ 32 → not (flagged (2 ^ j) (bit_and f (4294967295 - g))) ≡ (not (flagged (2 ^ j) f) || flagged (2 ^ j) g)
kept j f g low word =
    ap not (flag-bit j (bit_and f (4294967295 - g))
    ∙ ap (λ (b : ℕ). not (eqb b 0)) (bit_at_and f (4294967295 - g) j ∙ ap (min (bit_at f j)) (bit_at_not w32 g j word low)))
    ∙ go (bit_at f j) (bit_at g j) (bit_at-lt f j) (bit_at-lt g j)
    ∙ sym (ap₂ (λ (x y : Bool). not x || y) (flag-bit j f) (flag-bit j g))
  where
    go : (x y : ℕ) → x < 2 → y < 2 → not (not (eqb (min x (1 - y)) 0)) ≡ (not (not (eqb x 0)) || not (eqb y 0))
    go zero y p q = let e : min 0 (1 - y) ≡ 0 = omega arith in rw e
    go (suc x) zero p q = let e : x ≡ 0 = omega (arith, p) in rw e
    go (suc x) (suc y) p q = let e : x ≡ 0 = omega (arith, p) in let d : y ≡ 0 = omega (arith, q) in rw (e, d)

-- of two flags together none is set where neither is
none-either : (k l f : ℕ) → not (flagged (bit_or k l) f) ≡ (not (flagged k f) && not (flagged l f))
none-either k l f = ap not (flag-either k l f) ∙ go (flagged k f) (flagged l f)
  where
    go : (x y : Bool) → not (x || y) ≡ (not x && not y)
    go true y = refl
    go false y = refl

-- a match has every flag of another exactly where the flags that it has not are none of the other's
pub has-flags : (a b : Match) → a.flags < 2 ^ 32 → eqb (bit_and (bit_and b.flags (4294967295 - a.flags)) (known_flags + empty_flag)) 0 ≡ has_flags_of a b
unfolding has_flags_of
has-flags a b word =
    let f = bit_and b.flags (4294967295 - a.flags) in
    sym (not-not (eqb (bit_and f 31) 0)) ∙ none-either 15 16 f
    ∙ ap₂ ◌&&◌ (none-either 7 8 f ∙ ap₂ ◌&&◌ (none-either 3 4 f ∙ ap₂ ◌&&◌ (none-either 1 2 f
    ∙ ap₂ ◌&&◌ (kept 0 b.flags a.flags (omega arith) word) (kept 1 b.flags a.flags (omega arith) word))
    (kept 2 b.flags a.flags (omega arith) word)) (kept 3 b.flags a.flags (omega arith) word)) (kept 4 b.flags a.flags (omega arith) word)
