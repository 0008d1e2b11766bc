-- The places so far are those of the idle atoms before the next one.
use Rattle.std.proofs.Common.{◌≡◌, not}
use Rattle.theory.specs.Hidden.{places_where}
use Rattle.row.specs.Row.{rows_in}
use Rattle.idle.specs.Idle.{decides}
use Rattle.idle.proofs.idle_atoms.Given as goal

abbrev pub invariant-loop-place : goal.invariant-loop-place
invariant-loop-place l = l.places.items ≡ places_where (λ j. not (decides l.file l.layout (rows_in l.rows) j)) l.place
