-- A prefix whose address and length are in range is right where it has no bits beyond its length.
use Rattle.std.proofs.Common.{◌≡◌, ℕ, ◌^◌, ◌<◌, ◌≤◌, true, false, Some, Ok, Err, refl}
use Rattle.std.proofs.lemmas.Bool.{lt-ltb, le-leb}
use Rattle.field.specs.Prefix.{address_bits, zero_beyond, right_prefix}
use Rattle.values.specs.Prefixes.{prefix_from}
use Rattle.values.specs.declared.prefixes.NoPrefix.TheVariants.{HostBits}

-- only the bits beyond the length decide
pub right-is_zeros : (a n : ℕ) → a < 2 ^ 32 → n ≤ 32 → right_prefix address_bits a n ≡ zero_beyond address_bits a n
unfolding right_prefix
right-is_zeros a n low short = rw (lt-ltb a (2 ^ 32) low, le-leb n 32 short) refl

-- a prefix without such bits
pub ok-from : (a n : ℕ) → zero_beyond address_bits a n ≡ true → Ok (record { address = a; length = n }) ≡ prefix_from (Some a) (Some n)
ok-from a n e = rw e refl

-- a prefix with such bits
pub host_bits-from : (a n : ℕ) → zero_beyond address_bits a n ≡ false → Err (HostBits (record { address = a; length = n })) ≡ prefix_from (Some a) (Some n)
host_bits-from a n e = rw e refl
