use Rattle.std.proofs.Common.{◌≡◌, ◌++◌, map, drop}
use Rattle.policy.specs.Parts.{record_words}
use Rattle.notation.specs.Views.{node_entries}
use Rattle.translate.specs.Words.{all_rules, rule_words}
use Rattle.translate.proofs.file.put_atoms.Given as goal

-- the words so far and those of the rules of the nodes that are left are all
abbrev pub invariant-loop-node : goal.invariant-loop-node
invariant-loop-node l =
    l.words.items ++ record_words (map rule_words (all_rules (node_entries (drop l.node-index l.nodes))))
    ≡ l.initial.words.items ++ record_words (map rule_words (all_rules (node_entries l.nodes)))
