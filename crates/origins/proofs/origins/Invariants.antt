-- The places that were found are those of the atoms before the next one.
use Rattle.std.proofs.Common.{◌≡◌, get_or}
use Rattle.theory.specs.Hidden.{places_where}
use Rattle.row.specs.Row.{rows_in}
use Rattle.table.specs.Table.{past}
use Rattle.origins.specs.Origins.{holds}
use Rattle.origins.proofs.origins.Given as goal

abbrev pub invariant-loop-place : goal.invariant-loop-place
invariant-loop-place l = l.places.items ≡ places_where (λ i. holds (get_or (rows_in l.atoms) i past).matching l.matching) l.place
