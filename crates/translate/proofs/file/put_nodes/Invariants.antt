use Rattle.std.proofs.Common.{◌≡◌, ◌++◌, map, drop}
use Rattle.policy.specs.Parts.{record_words}
use Rattle.depths.specs.Depths.{child_counts}
use Rattle.logic.specs.Lists.{All}
use Rattle.notation.specs.Views.{node_entries}
use Rattle.translate.specs.Words.{FitsWords, node_records}
use Rattle.translate.proofs.file.put_nodes.Given as goal

-- the words so far and those of the nodes that are left are all
abbrev pub invariant-loop-i : goal.invariant-loop-i
invariant-loop-i l = record {
  words : l.words.items
      ++ record_words (node_records (node_entries (drop l.i l.nodes)) (child_counts (map (λ n. n.depth) (node_entries (drop l.i l.nodes)))))
      ≡ l.initial.words.items ++ record_words (node_records (node_entries l.nodes) (child_counts (map (λ n. n.depth) (node_entries l.nodes))));
  fit : All FitsWords (node_entries (drop l.i l.nodes));
}
