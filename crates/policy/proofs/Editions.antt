-- There is one edition, so that a match on it tells nothing, and what it would have told is shown here. Assumes nothing.
use mathlib.Core.Path.{◌≡◌, refl}
use Rattle.policy.specs.declared.Edition.{Edition}
use Rattle.policy.specs.declared.Edition.TheVariants.{First}

pub one_edition : (e : Edition) → e ≡ First
one_edition First = refl
