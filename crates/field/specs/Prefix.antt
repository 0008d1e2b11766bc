-- Prefixes of addresses of w bits. The prefix p, n is the set of the addresses that agree with p in their first n bits:
-- length 0 is the paper's star, length w its constant. A length beyond w holds what length w holds; where two lengths
-- are compared, as in covers, they are compared as they are, so that a length beyond w covers nothing shorter. See
-- docs/FORMAT.md, "Matches".
--
--   leading w n x                   the number that the first n of w bits of x make
--   in_prefix w p n x               x lies in p, n
--   zero_beyond w p n               the bits of p beyond the length are 0
--   right_prefix w p n              an address of w bits, a length of at most w, and 0 beyond it
--   prefixes_meet w p m q n         p, m and q, n have an address in common
--   covers w p m q n                p, m is no longer than q, n, and holds all of it
--   longer_address, longer_length   the longer of two prefixes
use Rattle.std.specs.Prelude.{ℕ, ◌-◌, ◌/◌, ◌%◌, ◌^◌, Bool, ◌&&◌, if◌then◌else◌, ◌==◌, nat_le, nat_lt}

-- the width of an address
abbrev pub address_bits : ℕ
address_bits = 32

-- the number that the first n of w bits make
abbrev pub leading : ℕ → ℕ → ℕ → ℕ
leading w n x = x / 2 ^ (w - n)

-- x lies in the prefix p, n: the two agree in their first n bits
unfoldable pub in_prefix : ℕ → ℕ → ℕ → ℕ → Bool
in_prefix w p n x = leading w n p == leading w n x

-- the bits of p beyond the length are 0
unfoldable pub zero_beyond : ℕ → ℕ → ℕ → Bool
zero_beyond w p n = p % 2 ^ (w - n) == 0

-- a right prefix
unfoldable pub right_prefix : ℕ → ℕ → ℕ → Bool
right_prefix w p n = nat_lt p (2 ^ w) && nat_le n w && zero_beyond w p n

-- two prefixes meet: the shorter one holds the longer one's address
unfoldable pub prefixes_meet : ℕ → ℕ → ℕ → ℕ → ℕ → Bool
prefixes_meet w p m q n = if nat_le m n then in_prefix w p m q else in_prefix w q n p

-- p, m covers q, n: it is no longer, and holds q
unfoldable pub covers : ℕ → ℕ → ℕ → ℕ → ℕ → Bool
covers w p m q n = nat_le m n && in_prefix w p m q

-- the longer prefix's address
abbrev pub longer_address : ℕ → ℕ → ℕ → ℕ → ℕ
longer_address p m q n = if nat_le m n then q else p

-- the longer prefix's length
abbrev pub longer_length : ℕ → ℕ → ℕ
longer_length m n = if nat_le m n then n else m
