-- The words before this one are priorities, and the others are still levels.
use Rattle.std.proofs.Common.{◌≡◌, ◌-◌, ◌++◌, List, ℕ, map, length, take, drop}
use Rattle.priority.proofs.put_priorities.Given as goal

abbrev pub invariant-loop-i : goal.invariant-loop-i
invariant-loop-i g l =
    let from : List ℕ = g.U.Unit.words l.initial.priorities in
    let ws : List ℕ = g.U.Unit.words l.priorities in
    (length ws ≡ length from) × (ws ≡ map (λ x. l.count - x) (take l.i from) ++ drop l.i from)
