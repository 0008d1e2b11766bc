use Rattle.std.proofs.Common.{drop}
use Rattle.notation.specs.Views.{rule_entries}
use Rattle.canon.specs.Text.{rules_text}
use Rattle.canon.proofs.rules.put_rules.Given as goal

-- once the rules that are left are put, all are
abbrev pub invariant-loop-rule : goal.invariant-loop-rule
invariant-loop-rule g l =
    (s : _) → g.S.Sink.gives l.sink (rules_text l.depth (rule_entries (drop l.rule-index l.rules))) s
    → g.S.Sink.gives l.fn.sink (rules_text l.depth (rule_entries l.rules)) s
