-- Addresses and prefixes as they are written: 10.7.0.0/16, or 10.7.3.9 for the one address. See docs/NOTATION.md,
-- "Addresses".
--
--   before, behind     what stands before the first of a byte, and behind it; nothing is behind one that is not there
--   octet_of           a number below 256
--   address_of         the address of four octets, with dots between them
--   length_of          the length that is written behind a slash; 32 where there is no slash
--   octet_then, three_octets   an octet and its dot, and what stands behind; three of them, from left to right
--   NoPrefix           why a text is no prefix
--   prefix_of          the prefix of a text
use Rattle.std.specs.Prelude.{ℕ, ◌+◌, ◌*◌, Bool, true, false, List, [], ◌∷◌, Option, Some, None, Result, Ok, Err, if◌then◌else◌, ◌==◌, ◌-◌, nat_le}
use Rattle.field.specs.Prefix.{address_bits, zero_beyond}
use Rattle.field.specs.declared.Prefix.{Prefix}
use Rattle.values.specs.Numbers.{zero_digit, is_digit, number_of, up_to}
use Rattle.values.specs.declared.prefixes.NoPrefix.{NoPrefix}
use Rattle.values.specs.declared.prefixes.NoPrefix.TheVariants.{NotOne, HostBits}

abbrev pub dot : ℕ
dot = 46

abbrev pub slash : ℕ
slash = 47

-- what stands before the first c, or all
abbrev pub before : ℕ → List ℕ → List ℕ
before c [] = []
before c (b ∷ bs) = if b == c then [] else b ∷ before c bs

-- what stands behind the first c, or nothing
abbrev pub behind : ℕ → List ℕ → List ℕ
behind c [] = []
behind c (b ∷ bs) = if b == c then bs else behind c bs

-- there is a c
abbrev pub holds : ℕ → List ℕ → Bool
holds c [] = false
holds c (b ∷ bs) = if b == c then true else holds c bs

-- the address of four octets
abbrev pub address_value : Option ℕ → Option ℕ → Option ℕ → Option ℕ → Option ℕ
address_value (Some a) (Some b) (Some c) (Some d) = Some (16777216 * a + 65536 * b + 256 * c + d)
address_value a b c d = None

abbrev pub octet_of : List ℕ → Option ℕ
octet_of w = up_to 255 (number_of w)

-- the address of a text
unfoldable pub address_of : List ℕ → Option ℕ
address_of w =
    let second : List ℕ = behind dot w in
    let third : List ℕ = behind dot second in
    address_value (octet_of (before dot w)) (octet_of (before dot second)) (octet_of (before dot third))
    (octet_of (behind dot third))

-- a word begins by an octet that is not empty and has no zero before other digits
abbrev pub begins_octet : List ℕ → Bool
begins_octet [] = false
begins_octet (b ∷ []) = false
begins_octet (b ∷ c ∷ bs) = if b == dot then false else (if b == zero_digit then c == dot else true)

-- the digits up to a dot behind a number, as long as it stays below 256, and what stands behind the dot
unfoldable pub octet_from : ℕ → List ℕ → Option (ℕ × List ℕ)
octet_from n [] = None
octet_from n (b ∷ bs) =
    if b == dot then Some (n, bs)
    else (if is_digit b
    then (if nat_le (10 * n + (b - zero_digit)) 255 then octet_from (10 * n + (b - zero_digit)) bs else None)
    else None)

-- the octet up to a dot, and what stands behind the dot
unfoldable pub octet_then : List ℕ → Option (ℕ × List ℕ)
octet_then w = if begins_octet w then octet_from 0 w else None

-- what is read behind what was read
abbrev pub next : Option (ℕ × List ℕ) → (ℕ → List ℕ → Option (ℕ × List ℕ)) → Option (ℕ × List ℕ)
next None f = None
next (Some x) f = f x.0 x.1

-- what the first three octets of an address are worth, and what stands behind their dots
unfoldable pub three_octets : List ℕ → Option (ℕ × List ℕ)
three_octets w =
    next (octet_then w) (λ a r. next (octet_then r) (λ b s. next (octet_then s) (λ c t.
    Some (16777216 * a + 65536 * b + 256 * c, t))))

-- the length that is written, if one is
abbrev pub length_behind : Bool → List ℕ → Option ℕ
length_behind written w = if written then up_to address_bits (number_of w) else Some address_bits

-- the length behind a slash
abbrev pub length_of : List ℕ → Option ℕ
length_of w = length_behind (holds slash w) (behind slash w)

-- the prefix of an address and a length, which has no bits beyond its length
abbrev pub prefix_from : Option ℕ → Option ℕ → Result Prefix NoPrefix
prefix_from (Some a) (Some n) =
    let p : Prefix = record { address = a; length = n } in
    if zero_beyond address_bits a n then Ok p else Err (HostBits p)
prefix_from a n = Err NotOne

-- the prefix of a text
unfoldable pub prefix_of : List ℕ → Result Prefix NoPrefix
prefix_of w = prefix_from (address_of (before slash w)) (length_of w)
