-- What is written for a number and for a prefix, apart from how it is read. See docs/NOTATION.md, "Numbers" and
-- "Addresses". Each statement is proved in proofs/ under the name given behind it.
--
--   IsNumber w n              the word w is the number n
--   address_text a            the four octets of an address, with dots between them
--   prefix_text p             a prefix: its address, and its length behind a slash
--   IsPrefix w p              the word w is the prefix p
--   NumberExactly, PrefixExactly   what is read is what is written so
--   HostBitsExactly                a word is refused for host bits where it would be a prefix but for them
--   IsUnit, IsProtocol, IsCode     the words of units, of protocols and of cells, each with its number
--   UnitExactly, ProtocolExactly, CodeExactly   what such a word says is read exactly where it is written
--   in_prefix                      a byte of a prefix's text: a digit, a dot or a slash
--   NameBytes, NumberBytes, AddressBytes, PrefixBytes   what bytes names, numbers, addresses and prefixes are made of
--   NameNotOwn                     no name is a word of the notation
use Rattle.std.specs.Prelude.{ℕ, ◌/◌, ◌%◌, ◌^◌, ◌≤◌, ◌<◌, ◌≡◌, Bool, true, false, List, ◌++◌, Some, Ok, Err, ◌↔◌, ◌⊎◌, ◌||◌, ◌==◌, All, length, codes}
use Rattle.std.specs.Fmt.{decimal}
use Rattle.std.specs.Net.Text.{dotted_text}
use Rattle.field.specs.Prefix.{address_bits, zero_beyond}
use Rattle.field.specs.declared.Prefix.{Prefix}
use Rattle.values.specs.Numbers.{is_digit, number_of}
use Rattle.values.specs.Prefixes.{dot, slash, prefix_of}
use Rattle.values.specs.Words.{unit_of, protocol_of, code_of, own_words, one_of, in_name, is_name}
use Rattle.values.specs.declared.prefixes.NoPrefix.TheVariants.{HostBits}

-- a number below 2 ^ 32 in decimal digits, no zero before them
pub record IsNumber (w : List ℕ) (n : ℕ) : Type 0 where
  pub below : n < 2 ^ 32
  pub text : w ≡ decimal n

-- the text of an address
abbrev pub address_text : ℕ → List ℕ
address_text a = dotted_text (a / 16777216 % 256) (a / 65536 % 256) (a / 256 % 256) (a % 256)

-- the text of a prefix with its length
abbrev pub prefix_text : Prefix → List ℕ
prefix_text p = address_text p.address ++ codes "/" ++ decimal p.length

-- an address below 2 ^ 32 and a length of at most 32: both written, or the address alone for the length 32
pub record IsPrefixText (w : List ℕ) (p : Prefix) : Type 0 where
  pub below : p.address < 2 ^ address_bits
  pub short : p.length ≤ address_bits
  pub text : (w ≡ prefix_text p) ⊎ ((p.length ≡ address_bits) × (w ≡ address_text p.address))

-- the same, without bits beyond the length
pub record IsPrefix (w : List ℕ) (p : Prefix) : Type 0 where
  pub spelled : IsPrefixText w p
  pub zeros : zero_beyond address_bits p.address p.length ≡ true

-- a number is read exactly where one is written (number-exactly)
abbrev pub NumberExactly : Type 0
NumberExactly = (w : List ℕ) (n : ℕ) → (number_of w ≡ Some n) ↔ IsNumber w n

-- a prefix is read exactly where one is written (prefix-exactly)
abbrev pub PrefixExactly : Type 0
PrefixExactly = (w : List ℕ) (p : Prefix) → (prefix_of w ≡ Ok p) ↔ IsPrefix w p

-- host bits are told exactly where a prefix is written but for them (host-bits-exactly)
abbrev pub HostBitsExactly : Type 0
HostBitsExactly = (w : List ℕ) (p : Prefix)
    → (prefix_of w ≡ Err (HostBits p)) ↔ (IsPrefixText w p × (zero_beyond address_bits p.address p.length ≡ false))

-- the units of a rate, in kbit/s
pub data IsUnit : List ℕ → ℕ → Type 0 where
  kbit : IsUnit (codes "kbit/s") 1
  mbit : IsUnit (codes "Mbit/s") 1000
  gbit : IsUnit (codes "Gbit/s") 1000000

-- the protocols that have a name
pub data IsProtocol : List ℕ → ℕ → Type 0 where
  tcp : IsProtocol (codes "tcp") 6
  udp : IsProtocol (codes "udp") 17
  icmp : IsProtocol (codes "icmp") 1

-- the words of an operator's cells
pub data IsCode : List ℕ → ℕ → Type 0 where
  allow : IsCode (codes "allow") 1
  deny : IsCode (codes "deny") 2
  left : IsCode (codes "left") 3
  right : IsCode (codes "right") 4
  larger : IsCode (codes "larger") 5
  smaller : IsCode (codes "smaller") 6
  both : IsCode (codes "sum") 7

-- a unit is read exactly where its word is written (unit-exactly)
abbrev pub UnitExactly : Type 0
UnitExactly = (w : List ℕ) (n : ℕ) → (unit_of w ≡ Some n) ↔ IsUnit w n

-- a protocol is read exactly where its name is written (protocol-exactly)
abbrev pub ProtocolExactly : Type 0
ProtocolExactly = (w : List ℕ) (n : ℕ) → (protocol_of w ≡ Some n) ↔ IsProtocol w n

-- a cell's code is read exactly where its word is written (code-exactly)
abbrev pub CodeExactly : Type 0
CodeExactly = (w : List ℕ) (n : ℕ) → (code_of w ≡ Some n) ↔ IsCode w n

-- a byte of the text of a prefix
abbrev pub in_prefix : ℕ → Bool
in_prefix b = is_digit b || b == dot || b == slash

-- a name is letters, digits, - and _, one of them at least (name-bytes)
abbrev pub NameBytes : Type 0
NameBytes = (w : List ℕ) → is_name w ≡ true → (0 < length w) × All (λ b. in_name b ≡ true) w

-- a number is digits, one at least (number-bytes)
abbrev pub NumberBytes : Type 0
NumberBytes = (n : ℕ) → n < 2 ^ 32 → (0 < length (decimal n)) × All (λ b. is_digit b ≡ true) (decimal n)

-- an address is digits and dots (address-bytes)
abbrev pub AddressBytes : Type 0
AddressBytes = (a : ℕ) → (0 < length (address_text a)) × All (λ b. in_prefix b ≡ true) (address_text a)

-- a prefix is digits, dots and a slash (prefix-bytes)
abbrev pub PrefixBytes : Type 0
PrefixBytes = (p : Prefix) → p.length ≤ address_bits
    → (0 < length (prefix_text p)) × All (λ b. in_prefix b ≡ true) (prefix_text p)

-- no name is a word of the notation (name-not-own)
abbrev pub NameNotOwn : Type 0
NameNotOwn = (w : List ℕ) → is_name w ≡ true → one_of own_words w ≡ false
