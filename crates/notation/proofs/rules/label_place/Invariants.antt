use Rattle.std.proofs.Common.{◌≡◌, drop}
use Rattle.notation.specs.Views.{rule_entries}
use Rattle.notation.specs.Rules.{label_place}
use Rattle.notation.proofs.rules.label_place.Given as goal

-- what is found behind the ones so far is what is found behind none
abbrev pub invariant-loop-rule : goal.invariant-loop-rule
invariant-loop-rule l = label_place l.label (rule_entries (drop l.rule-index l.rules)) ≡ label_place l.label (rule_entries l.rules)
