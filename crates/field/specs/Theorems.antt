-- What is proved of prefixes, over every width w, and of values. Each statement is proved in proofs/ under the name
-- given behind it.
--
--   InBoth                       an address lies in both prefixes exactly when they meet and it lies in the longer
--   SharedAddress, MeetExactly   an address in both prefixes; two meet exactly when there is one
--   Contains, CoversExactly      all addresses of one lie in the other; a prefix covers exactly those that it contains
--   ValueBoth                    a number meets both values exactly when they meet and it meets both together
--   ValueInsideExactly           one value lies inside another exactly when what meets the one meets the other
use Rattle.std.specs.Prelude.{ℕ, ◌^◌, ◌≤◌, ◌<◌, ◌≡◌, Bool, true, ◌&&◌, ◌||◌, ◌↔◌}
use Rattle.field.specs.Prefix.{in_prefix, prefixes_meet, covers, longer_address, longer_length}
use Rattle.field.specs.Value.{meets_value, values_meet, value_inside, common_value}

-- an address lies in both prefixes exactly when they meet and it lies in the longer (in-both)
abbrev pub InBoth : Type 0
InBoth =
    (w p m q n x : ℕ)
    → (in_prefix w p m x && in_prefix w q n x)
    ≡ (prefixes_meet w p m q n && in_prefix w (longer_address p m q n) (longer_length m n) x)

-- an address of w bits that lies in both prefixes
pub record SharedAddress (w p m q n : ℕ) : Type 0 where
  pub address : ℕ
  pub within : address < 2 ^ w
  pub left : in_prefix w p m address ≡ true
  pub right : in_prefix w q n address ≡ true

-- two prefixes of w bits meet exactly when some address of w bits lies in both (meet-exactly)
abbrev pub MeetExactly : Type 0
MeetExactly = (w p m q n : ℕ) → p < 2 ^ w → q < 2 ^ w → (prefixes_meet w p m q n ≡ true) ↔ SharedAddress w p m q n

-- every address of w bits in q, n lies in p, m
abbrev pub Contains : ℕ → ℕ → ℕ → ℕ → ℕ → Type 0
Contains w p m q n = (x : ℕ) → x < 2 ^ w → in_prefix w q n x ≡ true → in_prefix w p m x ≡ true

-- a prefix covers another exactly when it contains it (covers-exactly)
abbrev pub CoversExactly : Type 0
CoversExactly = (w p m q n : ℕ) → m ≤ w → q < 2 ^ w → (covers w p m q n ≡ true) ↔ Contains w p m q n

-- a number meets both values exactly when they meet and it meets both together (value-both)
abbrev pub ValueBoth : Type 0
ValueBoth =
    (on : Bool) (v : ℕ) (on' : Bool) (v' x : ℕ)
    → (meets_value on v x && meets_value on' v' x)
    ≡ (values_meet on v on' v' && meets_value (on || on') (common_value on v v') x)

-- below any limit of at least two that the first value is below: it lies inside the second exactly when every number
-- that meets it meets the second (value-inside-exactly)
abbrev pub ValueInsideExactly : Type 0
ValueInsideExactly =
    (limit : ℕ) (on : Bool) (v : ℕ) (on' : Bool) (v' : ℕ) → 2 ≤ limit → v < limit
    → (value_inside on v on' v' ≡ true)
    ↔ ((x : ℕ) → x < limit → meets_value on v x ≡ true → meets_value on' v' x ≡ true)
