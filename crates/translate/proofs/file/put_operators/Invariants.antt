use Rattle.std.proofs.Common.{◌≡◌, ◌++◌, map, drop}
use Rattle.policy.specs.Parts.{record_words}
use Rattle.notation.specs.Views.{operator_entries}
use Rattle.translate.proofs.file.put_operators.Given as goal

-- the words so far and those of the operators that are left are all
abbrev pub invariant-loop-operator : goal.invariant-loop-operator
invariant-loop-operator l =
    l.words.items ++ record_words (map (λ o. o.cells) (operator_entries (drop l.operator-index l.operators)))
    ≡ l.initial.words.items ++ record_words (map (λ o. o.cells) (operator_entries l.operators))
