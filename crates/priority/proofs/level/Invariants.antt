-- The level is the larger of best and what the rows still to come give, and fewer of them are left.
use Rattle.std.proofs.Common.{◌≡◌, ◌≤◌, List, ℕ, max}
use Rattle.theory.specs.Number.{above}
use Rattle.priority.specs.Numbering.{over}
use Rattle.priority.proofs.level.Given as goal

abbrev pub invariant-loop-j : goal.invariant-loop-j
invariant-loop-j g l =
    let ws : List ℕ = g.U.Unit.words l.table.units.now in
    let ls : List ℕ = g.U.Unit.words l.fn.levels in
    (l.j ≤ l.i) × (max l.best (above (over ws) ls l.i l.j) ≡ above (over ws) ls l.i l.i)

abbrev pub decreases-loop-j : goal.decreases-loop-j
decreases-loop-j g l = l.j
