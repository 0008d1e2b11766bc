use Rattle.std.proofs.Common.{◌≡◌, ◌++◌, map, drop}
use Rattle.policy.specs.Parts.{record_words}
use Rattle.notation.specs.Views.{rule_entries}
use Rattle.translate.specs.Words.{rule_words}
use Rattle.translate.proofs.file.put_rules.Given as goal

-- the words so far and those of the rules that are left are all
abbrev pub invariant-loop-rule : goal.invariant-loop-rule
invariant-loop-rule l =
    l.words.items ++ record_words (map rule_words (rule_entries (drop l.rule-index l.rules)))
    ≡ l.initial.words.items ++ record_words (map rule_words (rule_entries l.rules))
