-- What a right match is made of: values in range that are 0 where they are not constrained, right prefixes, and flags
-- that are the sum of those that are set.
use Rattle.std.proofs.Common.{ℕ, ◌+◌, ◌-◌, ◌<◌, ◌≤◌, ◌^◌, ◌%◌, ◌≡◌, Bool, true, false, List, [], ◌∷◌, refl, sym, ap, ◌∙◌, arith, ⊎_elim}
use Rattle.std.specs.Prelude.{◌&&◌, ◌||◌, ◌==◌, not, if◌then◌else◌, nat_lt}
use Rattle.std.specs.Int.Bits.{bit_and}
use Rattle.std.proofs.lemmas.Bool.{eqb-true, ltb-true, leb-true}
use Rattle.std.proofs.Math.Bool.{and-eq-true_iff}
use Rattle.std.proofs.lemmas.Nat.{and_le_r}
use Rattle.logic.proofs.Tests.{or_split}
use Rattle.field.specs.Prefix.{address_bits, zero_beyond, right_prefix}
use Rattle.field.specs.declared.Prefix.{Prefix}
use Rattle.field.specs.Value.{right_value}
use Rattle.flow.specs.Packet.{port_limit, protocol_limit}
use Rattle.flow.specs.declared.Match.{Match}
use Rattle.flow.specs.Match.{match_of, match_words, none, flagged, constrains, in_port_flag, protocol_flag, source_port_flag, destination_port_flag, empty_flag, known_flags, same_words, is_none, is_plain, right_match}
use Rattle.values.proofs.NumberLaw.{both}
use Rattle.canon.proofs.Small.{below}

-- words that are the same one by one
same-words : (t : Bool) (F G : List ℕ) → same_words t F G ≡ true → (t ≡ true) × (F ≡ G)
same-words t [] [] e = (e, refl)
same-words t [] (y ∷ G) e = absurd cc
same-words t (x ∷ F) [] e = absurd cc
same-words t (x ∷ F) (y ∷ G) e =
    let h = same-words (t && x == y) F G e in
    let b = both t (x == y) h.0 in
    (b.0, ap (λ (z : ℕ). z ∷ F) (eqb-true x y b.1) ∙ ap (λ (z : List ℕ). y ∷ z) h.1)

-- a match with the words of none is none
pub none-is : (m : Match) → is_none m ≡ true → m ≡ none
unfolding is_none
none-is m e = ap match_of (same-words true (match_words m) (match_words none) e).1

-- a flag, if it is set
abbrev pub flag_on : ℕ → ℕ → ℕ
flag_on flag flags = if flagged flag flags then flag else 0

-- the flags that are set, together
abbrev pub all_flags : ℕ → ℕ
all_flags f = flag_on in_port_flag f + flag_on protocol_flag f + flag_on source_port_flag f + flag_on destination_port_flag f

-- flags below 16 are those that are set
pub flags-are : (f : ℕ) → f < 16 → all_flags f ≡ f
flags-are f h = eqb-true (all_flags f) f (below (λ k. all_flags k == k) 16 refl f h)

-- and flag 16 is not
not-empty : (f : ℕ) → f < 16 → flagged empty_flag f ≡ false
not-empty f h =
    elim (flagged empty_flag f) as (λ d. not d ≡ true → d ≡ false) [
      | true ↦ λ e. absurd cc
      | false ↦ λ e. refl
    ] (below (λ k. not (flagged empty_flag k)) 16 refl f h)

-- the facts of a plain match
pub record Plain (m : Match) : Type 0 where
  pub flags : m.flags < 16
  pub in_port : right_value (constrains in_port_flag m) port_limit m.in_port ≡ true
  pub protocol : right_value (constrains protocol_flag m) protocol_limit m.protocol ≡ true
  pub source_port : right_value (constrains source_port_flag m) port_limit m.source_port ≡ true
  pub destination_port : right_value (constrains destination_port_flag m) port_limit m.destination_port ≡ true
  pub source : right_prefix address_bits m.source.address m.source.length ≡ true
  pub destination : right_prefix address_bits m.destination.address m.destination.length ≡ true

-- they are those of the test
plain-is : (m : Match) → is_plain m ≡ true → Plain m
unfolding is_plain
plain-is m e =
    let h = simp and-eq-true_iff at e in
    let f = eqb-true (bit_and m.flags known_flags) m.flags h.0.0.0.0.0.0 in
    record {
      flags = omega (arith, f, and_le_r m.flags known_flags);
      in_port = h.0.0.0.0.0.1;
      protocol = h.0.0.0.0.1;
      source_port = h.0.0.0.1;
      destination_port = h.0.0.1;
      source = h.0.1;
      destination = h.1;
    }

-- a right match without flag 16 is plain
pub plain : (m : Match) → right_match m ≡ true → constrains empty_flag m ≡ false → Plain m
unfolding right_match
plain m e u =
    ⊎_elim
    (λ n. absurd (let z : true ≡ false = sym (ap (λ (x : Match). constrains empty_flag x) (none-is m n)) ∙ u in cc))
    (λ p. plain-is m p)
    (or_split (is_none m) (is_plain m) e)

-- one with it is none
pub empty-is : (m : Match) → right_match m ≡ true → constrains empty_flag m ≡ true → m ≡ none
unfolding right_match
empty-is m e u =
    ⊎_elim
    (λ n. none-is m n)
    (λ p. absurd (let z : true ≡ false = sym u ∙ not-empty m.flags (plain-is m p).flags in cc))
    (or_split (is_none m) (is_plain m) e)

-- a right value is below its limit
pub value-below : (on : Bool) (limit v : ℕ) → right_value on limit v ≡ true → v < limit
unfolding right_value
value-below on limit v e = ltb-true _ _ (both (nat_lt v limit) (on || v == 0) e).0

-- and 0 where it is not constrained
pub value-free : (limit v : ℕ) → right_value false limit v ≡ true → v ≡ 0
unfolding right_value
value-free limit v e = eqb-true v 0 (both (nat_lt v limit) (v == 0) e).1

-- a right prefix: its address and its length are in range, and no bits stand beyond the length
pub record PrefixFacts (p : Prefix) : Type 0 where
  pub below : p.address < 2 ^ address_bits
  pub short : p.length ≤ address_bits
  pub zeros : zero_beyond address_bits p.address p.length ≡ true

-- they are those of the test
pub prefix-facts : (p : Prefix) → right_prefix address_bits p.address p.length ≡ true → PrefixFacts p
unfolding right_prefix
prefix-facts p e =
    let h = simp and-eq-true_iff at e in
    record { below = ltb-true _ _ h.0.0; short = leb-true _ _ h.0.1; zeros = h.1 }

-- a prefix by its parts
abbrev the-prefix : ℕ → ℕ → Prefix
the-prefix a n = record { address = a; length = n }

-- the right prefix of length 0 has the address 0
pub prefix-all : (p : Prefix) → right_prefix address_bits p.address p.length ≡ true → p.length ≡ 0 → p ≡ record { address = 0; length = 0 }
unfolding zero_beyond
prefix-all p e z =
    let f = prefix-facts p e in
    let t : p.address % 2 ^ (address_bits - p.length) ≡ 0 = eqb-true (p.address % 2 ^ (address_bits - p.length)) 0 f.zeros in
    let k : p.address % 2 ^ 32 ≡ 0 = ap (λ (n : ℕ). p.address % 2 ^ (32 - n)) (sym z) ∙ t in
    let low : p.address < 2 ^ 32 = f.below in
    let a : p.address ≡ 0 = omega arith in
    same p.address p.length a z
  where
    same : (a n : ℕ) → a ≡ 0 → n ≡ 0 → the-prefix a n ≡ the-prefix 0 0
    same a n e f = rw (e, f) refl
