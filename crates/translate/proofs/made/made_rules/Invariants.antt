use Rattle.std.proofs.Common.{◌≡◌, ◌+◌, ◌-◌, ◌*◌, ◌≤◌, ◌++◌, length}
use Rattle.words.specs.Records.{records}
use Rattle.row.specs.Row.{row_length}
use Rattle.notation.specs.Views.{rule_entries}
use Rattle.translate.specs.Names.{rules_from}
use Rattle.translate.proofs.made.made_rules.Given as goal

-- the rules so far, and those in the words that are left, are all
abbrev pub invariant-loop-i : goal.invariant-loop-i
invariant-loop-i l = record {
  made : rule_entries l.rules.items ++ rules_from (l.first + l.i) (records (l.count - l.i) row_length l.left)
      ≡ rules_from l.first (records l.count row_length l.words);
  there : row_length * (l.count - l.i) ≤ length l.left;
}
