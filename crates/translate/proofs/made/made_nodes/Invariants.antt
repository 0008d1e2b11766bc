use Rattle.std.proofs.Common.{◌≡◌, ◌+◌, ◌-◌, ◌*◌, ◌≤◌, ◌++◌, map, reverse, length}
use Rattle.words.specs.Records.{records}
use Rattle.row.specs.Row.{row_length}
use Rattle.policy.specs.Numbers.{node_length}
use Rattle.policy.specs.Sections.{children_of}
use Rattle.policy.specs.Whole.{own_atoms}
use Rattle.depths.specs.Depths.{depths_from, depths_of}
use Rattle.notation.specs.Views.{node_entries}
use Rattle.translate.specs.Names.{rules_from, nodes_from}
use Rattle.translate.proofs.made.made_nodes.Given as goal

-- the nodes so far, and those in the words that are left, are all; the words of those are there, and of their rules
abbrev pub invariant-loop-i : goal.invariant-loop-i
invariant-loop-i l = record {
  made : node_entries l.nodes.items
      ++ nodes_from l.i (records (l.count - l.i) node_length l.left)
      (depths_from (reverse l.waiting.items) (map children_of (records (l.count - l.i) node_length l.left)))
      (rules_from l.rule (records (own_atoms (records (l.count - l.i) node_length l.left)) row_length l.atoms_left))
      ≡ nodes_from 0 (records l.count node_length l.words) (depths_of (map children_of (records l.count node_length l.words)))
      (rules_from 0 (records (own_atoms (records l.count node_length l.words)) row_length l.atoms));
  there : node_length * (l.count - l.i) ≤ length l.left;
  rules_there : row_length * own_atoms (records (l.count - l.i) node_length l.left) ≤ length l.atoms_left;
  few : row_length * (l.rule + own_atoms (records (l.count - l.i) node_length l.left)) ≤ length l.atoms;
}
