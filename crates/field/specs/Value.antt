-- A value that may be constrained: `on` says whether it is. An unconstrained value is met by every number. See
-- docs/FORMAT.md, "Matches".
--
--   meets_value on value number   the number meets the value
--   values_meet                   some number meets both values
--   value_inside                  every number that meets the first value meets the second
--   common_value                  the value that two are together
--   right_value                   a right value: below its limit, and 0 where it is unconstrained
use Rattle.std.specs.Prelude.{ℕ, Bool, not, ◌&&◌, ◌||◌, if◌then◌else◌, ◌==◌, nat_lt}

-- the number meets the value: it is unconstrained, or the number equals it
unfoldable pub meets_value : Bool → ℕ → ℕ → Bool
meets_value on value number = not on || value == number

-- some number meets both values: the first is unconstrained, or it meets the second
unfoldable pub values_meet : Bool → ℕ → Bool → ℕ → Bool
values_meet on value on' value' = not on || meets_value on' value' value

-- every number that meets the first value meets the second: the second is unconstrained, or both are constrained and
-- equal
unfoldable pub value_inside : Bool → ℕ → Bool → ℕ → Bool
value_inside on value on' value' = not on' || (on && value' == value)

-- the value that two are together, where some number meets both
abbrev pub common_value : Bool → ℕ → ℕ → ℕ
common_value on value value' = if on then value else value'

-- a right value: below the limit, and 0 where it is unconstrained
unfoldable pub right_value : Bool → ℕ → ℕ → Bool
right_value on limit value = nat_lt value limit && (on || value == 0)
