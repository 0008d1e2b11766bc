-- What is proved of refusals. Each statement is proved in proofs/ under the name given behind it.
--
--   NumbersGiven   which numbers are given
use Rattle.std.specs.Prelude.{◌≤◌, ◌⊎◌}
use Rattle.refusal.specs.Refusals.{reason_number}
use Rattle.refusal.specs.declared.Reason.{Reason}

-- every reason has a number from 1 to 13 or from 15 to 21 (numbers-given)
abbrev pub NumbersGiven : Type 0
NumbersGiven = (why : Reason)
    → ((1 ≤ reason_number why) × (reason_number why ≤ 13)) ⊎ ((15 ≤ reason_number why) × (reason_number why ≤ 21))
