-- A prefix is read exactly where one is written, and host bits are told exactly where one is written but for them.
use Rattle.std.proofs.Common.{◌≡◌, ℕ, Bool, true, false, List, ◌∷◌, ◌++◌, Option, Some, None, Result, Ok, Err, refl, sym, ap, subst, ◌∙◌, append_assoc, arith, inl, inr}
use Rattle.std.specs.Prelude.{if◌then◌else◌, codes}
use Rattle.std.specs.Fmt.{decimal}
use Rattle.field.specs.Prefix.{address_bits, zero_beyond}
use Rattle.field.specs.declared.Prefix.{Prefix}
use Rattle.values.specs.Numbers.{number_of}
use Rattle.values.specs.Prefixes.{slash, before, behind, holds, address_of, length_behind, length_of, prefix_from, prefix_of}
use Rattle.values.specs.declared.prefixes.NoPrefix.{NoPrefix}
use Rattle.values.specs.declared.prefixes.NoPrefix.TheVariants.{HostBits}
use Rattle.values.specs.Grammar.{address_text, IsPrefixText, PrefixExactly, HostBitsExactly}
use Rattle.values.proofs.NumberLaw.{number-written, number-read}
use Rattle.values.proofs.AddressLaw.{sides, all-before, before-first, behind-first, holds-first, limited, within, address-written, address-read, address-no_slash}

-- what a result says of the address, of the length and of the bits beyond it
abbrev made : ℕ → ℕ → Bool → Result Prefix NoPrefix
made a n zeros = if zeros then Ok (record { address = a; length = n }) else Err (HostBits (record { address = a; length = n }))

-- the parts of which something was made
record Parts (o q : Option ℕ) (p : Prefix) (zeros : Bool) : Type 0 where
  address : o ≡ Some p.address
  long : q ≡ Some p.length
  bits : zero_beyond address_bits p.address p.length ≡ zeros

-- the prefix that was made
is-ok : (a n : ℕ) (b : Bool) (p : Prefix) → made a n b ≡ Ok p → (b ≡ true) × (record { address = a; length = n } ≡ p)
is-ok a n true p e = (refl, cc)
is-ok a n false p e = absurd cc

-- the prefix that was refused
is-host_bits : (a n : ℕ) (b : Bool) (p : Prefix) → made a n b ≡ Err (HostBits p) → (b ≡ false) × (record { address = a; length = n } ≡ p)
is-host_bits a n true p e = absurd cc
is-host_bits a n false p e = (refl, cc)

-- the parts of a prefix that was made
ok-parts : (o q : Option ℕ) (p : Prefix) → prefix_from o q ≡ Ok p → Parts o q p true
ok-parts (Some a) (Some n) p e =
    let h = is-ok a n (zero_beyond address_bits a n) p e in
    subst (λ (r : Prefix). Parts (Some a) (Some n) r true) h.1 (record { address = refl; long = refl; bits = h.0 })
ok-parts None q p e = absurd cc
ok-parts (Some a) None p e = absurd cc

-- the parts of a prefix that was refused
host_bits-parts : (o q : Option ℕ) (p : Prefix) → prefix_from o q ≡ Err (HostBits p) → Parts o q p false
host_bits-parts (Some a) (Some n) p e =
    let h = is-host_bits a n (zero_beyond address_bits a n) p e in
    subst (λ (r : Prefix). Parts (Some a) (Some n) r false) h.1 (record { address = refl; long = refl; bits = h.0 })
host_bits-parts None q p e = absurd cc
host_bits-parts (Some a) None p e = absurd cc

-- the text of a prefix with its length, with the slash alone
text-is : (a : ℕ) (n : ℕ) → address_text a ++ (slash ∷ decimal n) ≡ address_text a ++ codes "/" ++ decimal n
text-is a n = simp append_assoc

-- an address and a length that are read are written so
spelled : (w : List ℕ) (p : Prefix) → address_of (before slash w) ≡ Some p.address → length_of w ≡ Some p.length → IsPrefixText w p
spelled w p ea en =
    let a = address-written (before slash w) p.address ea in
    elim (holds slash w) as (λ d. holds slash w ≡ d → length_behind d (behind slash w) ≡ Some p.length → IsPrefixText w p) [
      | true ↦ λ h k.
          let l = limited address_bits (number_of (behind slash w)) p.length k in
          let n = number-written (behind slash w) p.length l.1 in
          let t : w ≡ address_text p.address ++ (slash ∷ decimal p.length) =
          sides slash w h ∙ ap (λ (x : List ℕ). x ++ (slash ∷ behind slash w)) a.1 ∙ ap (λ (x : List ℕ). address_text p.address ++ (slash ∷ x)) n.1 in
          record { below = a.0; short = l.0; text = inl (t ∙ text-is p.address p.length) }
      | false ↦ λ h k.
          let n : address_bits ≡ p.length = cc in
          record { below = a.0; short = omega (arith, n); text = inr (sym n, sym (all-before slash w h) ∙ a.1) }
    ] refl en

-- an address and a length that are written are read
read : (w : List ℕ) (p : Prefix) → IsPrefixText w p → (address_of (before slash w) ≡ Some p.address) × (length_of w ≡ Some p.length)
read w p t =
    elim t.text [
      | inl e ↦
          let v : w ≡ address_text p.address ++ (slash ∷ decimal p.length) = e ∙ sym (text-is p.address p.length) in
          let none = address-no_slash p.address in
          let first : before slash w ≡ address_text p.address = ap (before slash) v ∙ before-first slash (address_text p.address) (decimal p.length) none in
          let second : behind slash w ≡ decimal p.length = ap (behind slash) v ∙ behind-first slash (address_text p.address) (decimal p.length) none in
          let there : holds slash w ≡ true = ap (holds slash) v ∙ holds-first slash (address_text p.address) (decimal p.length) in (
            ap address_of first ∙ address-read p.address t.below,
            rw (there, second, number-read p.length (let s = t.short in omega arith)) (within address_bits p.length t.short),
          )
      | inr e ↦
          let none : holds slash w ≡ false = ap (holds slash) e.1 ∙ address-no_slash p.address in (
            ap address_of (all-before slash w none ∙ e.1) ∙ address-read p.address t.below,
            rw (none, e.0) refl,
          )
    ]

-- what is made of them
pub prefix-exactly : PrefixExactly
unfolding prefix_of
prefix-exactly w p = (
  (λ e. let h = ok-parts (address_of (before slash w)) (length_of w) p e in record { spelled = spelled w p h.address h.long; zeros = h.bits }),
  (λ h. let r = read w p h.spelled in rw (r.0, r.1, h.zeros) refl),
)

-- the law of host bits
pub host-bits-exactly : HostBitsExactly
unfolding prefix_of
host-bits-exactly w p = (
  (λ e. let h = host_bits-parts (address_of (before slash w)) (length_of w) p e in (spelled w p h.address h.long, h.bits)),
  (λ h. let r = read w p h.0 in rw (r.0, r.1, h.1) refl),
)
