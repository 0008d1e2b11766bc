use Rattle.std.proofs.Common.{◌≡◌, ◌-◌, ◌*◌, ◌≤◌, ◌++◌, length}
use Rattle.words.specs.Records.{records}
use Rattle.policy.specs.Numbers.{operator_length}
use Rattle.notation.specs.Views.{operator_entries}
use Rattle.translate.specs.Names.{operators_from}
use Rattle.translate.proofs.made.made_operators.Given as goal

-- the operators so far, and those in the words that are left, are all
abbrev pub invariant-loop-i : goal.invariant-loop-i
invariant-loop-i l = record {
  made : operator_entries l.operators.items ++ operators_from l.i (records (l.count - l.i) operator_length l.left)
      ≡ operators_from 0 (records l.count operator_length l.words);
  there : operator_length * (l.count - l.i) ≤ length l.left;
}
