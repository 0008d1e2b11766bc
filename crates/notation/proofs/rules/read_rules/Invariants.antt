use Rattle.std.proofs.Common.{◌≡◌, ◌≤◌, ◌-◌, [], length}
use Rattle.tokens.specs.Left.{left}
use Rattle.notation.specs.Rules.{rules_at}
use Rattle.notation.specs.Views.{rule_entries}
use Rattle.notation.proofs.rules.read_rules.Given as goal

-- what is read behind the rules so far is what is read behind none, and there is room for them
abbrev pub invariant-loop-alloc : goal.invariant-loop-alloc
invariant-loop-alloc l =
    (rules_at (l.room - length l.rules.items) (rule_entries l.rules.items) (left l.tokens) ≡ rules_at l.room [] (left l.fn.tokens))
    × (length l.rules.items ≤ l.room)

abbrev pub decreases-loop-alloc : goal.decreases-loop-alloc
decreases-loop-alloc l = l.room - length l.rules.items
