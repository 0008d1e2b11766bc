-- What makes the words of a row a spelling: how many they are, and that they are read back.
use Rattle.std.specs.Prelude.{◌<◌, ◌≡◌, refl, length}
use Rattle.std.proofs.Common.{ap, arith}
use Rattle.theory.specs.declared.Row.{Row}
use Rattle.flow.specs.declared.Match.{Match}
use Rattle.action.specs.declared.Action.{Action}
use Rattle.action.proofs.Words.{action-of-words}
use Rattle.row.specs.Row.{row_length, row_of, row_action, row_words}

-- a row has words
pub row-some : 0 < row_length
row-some = omega arith

-- it has its 11 words
pub row-long : (r : Row Match Action) → length (row_words r) ≡ row_length
row-long r = refl

-- what is written is read again
pub row_back : (r : Row Match Action) → row_of (row_words r) ≡ r
unfolding row_action
row_back r = ap (λ (a : Action). record { matching = r.matching; action = a }) (action-of-words r.action)
