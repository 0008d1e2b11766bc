-- Names, numbers and prefixes are words.
use Rattle.std.proofs.Common.{ℕ, ◌≡◌, ◌<◌, ◌≤◌, ◌^◌, Bool, true, false, List, [], ◌∷◌, refl, sym, ap, ◌∙◌}
use Rattle.std.specs.Prelude.{◌==◌, All as Each, if◌then◌else◌}
use Rattle.std.specs.Fmt.{decimal}
use Rattle.std.proofs.lemmas.Bool.{eqb-true}
use Rattle.std.proofs.lemmas.List.Elements.{All-head, All-tail}
use Rattle.logic.specs.Lists.{All}
use Rattle.field.specs.declared.Prefix.{Prefix}
use Rattle.field.specs.Prefix.{address_bits}
use Rattle.tokens.specs.Tokens.{in_word}
use Rattle.values.specs.Numbers.{is_digit}
use Rattle.values.specs.Words.{is_name, in_name}
use Rattle.values.specs.Grammar.{in_prefix, address_text, prefix_text}
use Rattle.values.proofs.Bytes.{name-bytes, number-bytes, address-bytes, prefix-bytes}
use Rattle.canon.specs.Text.{written_prefix}
use Rattle.canon.proofs.Laid.{Word}

-- a byte that a test lets through is none that it does not
other : (test : ℕ → Bool) (k b : ℕ) → test k ≡ false → test b ≡ true → (b == k) ≡ false
other test k b f e =
    elim (b == k) as (λ d. (b == k) ≡ d → d ≡ false) [
      | true ↦ λ h. let g : test b ≡ test k = ap test (eqb-true b k h) in absurd (let z : true ≡ false = sym e ∙ g ∙ f in cc)
      | false ↦ λ h. refl
    ] refl

-- a test that lets no blank, no mark and no hash through lets only bytes of words through
only-words : (test : ℕ → Bool) → test 32 ≡ false → test 9 ≡ false → test 10 ≡ false → test 13 ≡ false → test 58 ≡ false → test 123 ≡ false
    → test 125 ≡ false → test 35 ≡ false → (b : ℕ) → test b ≡ true → in_word b ≡ true
only-words test s t n r c o e h b k =
    rw (
      other test 32 b s k,
      other test 9 b t k,
      other test 10 b n k,
      other test 13 b r k,
      other test 58 b c k,
      other test 123 b o k,
      other test 125 b e k,
      other test 35 b h k,
    ) refl

-- what each byte has, as all have it
all-bytes : (test : ℕ → Bool) → ((b : ℕ) → test b ≡ true → in_word b ≡ true) → (w : List ℕ) → Each (λ b. test b ≡ true) w → All (λ b. in_word b ≡ true) w
all-bytes test f [] e = tt
all-bytes test f (b ∷ w) e =
    (f b (All-head (λ b. test b ≡ true) b w e), all-bytes test f w (All-tail (λ b. test b ≡ true) b w e))

-- a name
pub name-word : (w : List ℕ) → is_name w ≡ true → Word w
name-word w e =
    let h = name-bytes w e in
    (h.0, all-bytes in_name (only-words in_name refl refl refl refl refl refl refl refl) w h.1)

-- a number
pub number-word : (n : ℕ) → n < 2 ^ 32 → Word (decimal n)
number-word n low =
    let h = number-bytes n low in
    (h.0, all-bytes is_digit (only-words is_digit refl refl refl refl refl refl refl refl) (decimal n) h.1)

-- a prefix
pub prefix-word : (p : Prefix) → p.length ≤ address_bits → Word (written_prefix p)
prefix-word p short =
    let f = only-words in_prefix refl refl refl refl refl refl refl refl in
    let a = address-bytes p.address in
    let b = prefix-bytes p short in
    elim (p.length == address_bits) as (λ d. Word (if d then address_text p.address else prefix_text p)) [
      | true ↦ (a.0, all-bytes in_prefix f (address_text p.address) a.1)
      | false ↦ (b.0, all-bytes in_prefix f (prefix_text p) b.1)
    ]
