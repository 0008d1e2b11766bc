-- The bytes of names, numbers, addresses and prefixes.
use Rattle.std.proofs.Common.{◌≡◌, ℕ, ◌/◌, ◌%◌, ◌^◌, ◌<◌, true, List, [], ◌∷◌, ◌++◌, length, All, refl, arith}
use Rattle.std.specs.Prelude.{◌&&◌, not, codes}
use Rattle.std.specs.Fmt.{decimal}
use Rattle.std.proofs.lemmas.List.{length-append}
use Rattle.std.proofs.lemmas.List.Elements.{All-nil, All-cons, All-append, All-weaker}
use Rattle.values.specs.Numbers.{is_digit, all_digits}
use Rattle.values.specs.Words.{begins_by_letter, in_name, all_in_name, is_own_word, is_name}
use Rattle.values.specs.Grammar.{address_text, in_prefix, NameBytes, NumberBytes, AddressBytes, PrefixBytes, NameNotOwn}
use Rattle.values.proofs.NumberLaw.{both, not_true, decimal-digits, decimal-long}

-- a test of each byte, as a statement of each byte
all-in_name : (w : List ℕ) → all_in_name w ≡ true → All (λ b. in_name b ≡ true) w
all-in_name [] e = All-nil (λ b. in_name b ≡ true)
all-in_name (b ∷ w) e = let h = both (in_name b) (all_in_name w) e in All-cons (λ b. in_name b ≡ true) b w h.0 (all-in_name w h.1)

-- the same of digits
all-digits : (w : List ℕ) → all_digits w ≡ true → All (λ b. is_digit b ≡ true) w
all-digits [] e = All-nil (λ b. is_digit b ≡ true)
all-digits (b ∷ w) e = let h = both (is_digit b) (all_digits w) e in All-cons (λ b. is_digit b ≡ true) b w h.0 (all-digits w h.1)

-- a word that begins by a letter is not empty
begins-long : (w : List ℕ) → begins_by_letter w ≡ true → 0 < length w
begins-long [] e = absurd cc
begins-long (b ∷ w) e = omega arith

-- the bytes of a name
pub name-bytes : NameBytes
unfolding is_name
name-bytes w e =
    let h = both (begins_by_letter w && all_in_name w) (not (is_own_word w)) e in
    let k = both (begins_by_letter w) (all_in_name w) h.0 in
    (begins-long w k.0, all-in_name w k.1)

-- no name is a word of the notation
pub name-not-own : NameNotOwn
unfolding is_name is_own_word
name-not-own w e = not_true (is_own_word w) (both (begins_by_letter w && all_in_name w) (not (is_own_word w)) e).1

-- the bytes of a number
pub number-bytes : NumberBytes
number-bytes n low = (decimal-long n low, all-digits (decimal n) (decimal-digits n low))

-- ---- prefixes

-- a byte of a prefix
abbrev InPrefix : ℕ → Type 0
InPrefix b = in_prefix b ≡ true

-- a digit is one
digit-in_prefix : (b : ℕ) → is_digit b ≡ true → in_prefix b ≡ true
digit-in_prefix b e = rw e refl

-- a number has only such bytes
decimal-in_prefix : (n : ℕ) → n < 2 ^ 32 → All InPrefix (decimal n)
decimal-in_prefix n low = All-weaker (λ b. is_digit b ≡ true) InPrefix digit-in_prefix (decimal n) (number-bytes n low).1

-- four parts with dots between them
four-in_prefix : (a b c d : List ℕ) → All InPrefix a → All InPrefix b → All InPrefix c → All InPrefix d
    → All InPrefix (a ++ codes "." ++ b ++ codes "." ++ c ++ codes "." ++ d)
four-in_prefix a b c d ha hb hc hd =
    let point : All InPrefix (codes ".") = All-cons InPrefix 46 [] refl (All-nil InPrefix) in
    let ad = All-append InPrefix a (codes ".") ha point in
    let ab = All-append InPrefix (a ++ codes ".") b ad hb in
    let bd = All-append InPrefix (a ++ codes "." ++ b) (codes ".") ab point in
    let bc = All-append InPrefix (a ++ codes "." ++ b ++ codes ".") c bd hc in
    let cd = All-append InPrefix (a ++ codes "." ++ b ++ codes "." ++ c) (codes ".") bc point in
    All-append InPrefix (a ++ codes "." ++ b ++ codes "." ++ c ++ codes ".") d cd hd

-- four parts are not empty if the last is not
four-long : (a b c d : List ℕ) → 0 < length d → 0 < length (a ++ codes "." ++ b ++ codes "." ++ c ++ codes "." ++ d)
four-long a b c d h = omega (arith, length-append (a ++ codes "." ++ b ++ codes "." ++ c ++ codes ".") d)

-- the bytes of an address
pub address-bytes : AddressBytes
address-bytes n = (
  four-long (decimal (n / 16777216 % 256)) (decimal (n / 65536 % 256)) (decimal (n / 256 % 256)) (decimal (n % 256)) (decimal-long (n % 256) (omega arith)),
  four-in_prefix (decimal (n / 16777216 % 256)) (decimal (n / 65536 % 256)) (decimal (n / 256 % 256)) (decimal (n % 256))
      (decimal-in_prefix (n / 16777216 % 256) (omega arith)) (decimal-in_prefix (n / 65536 % 256) (omega arith))
      (decimal-in_prefix (n / 256 % 256) (omega arith))
      (decimal-in_prefix (n % 256) (omega arith)),
)

-- the bytes of a prefix
pub prefix-bytes : PrefixBytes
prefix-bytes p short =
    let a = address-bytes p.address in
    let mark : All InPrefix (codes "/") = All-cons InPrefix 47 [] refl (All-nil InPrefix) in
    let front = All-append InPrefix (address_text p.address) (codes "/") a.1 mark in (
      omega (arith, length-append (address_text p.address ++ codes "/") (decimal p.length), decimal-long p.length (omega arith)),
      All-append InPrefix (address_text p.address ++ codes "/") (decimal p.length) front (decimal-in_prefix p.length (omega arith)),
    )
