-- The operators that are left come to what all operators come to.
use Rattle.std.proofs.Common.{◌≡◌}
use Rattle.words.proofs.Chunks.{left, whole}
use Rattle.policy.specs.Numbers.{operator_length_in}
use Rattle.policy.specs.Cells.{operator_rows}
use Rattle.policy.specs.Sections.{each}
use Rattle.policy.specs.Whole.{nodes_by_words, operator_fault, laws_fault}
use Rattle.policy.proofs.laws.laws_fault.Given as goal

abbrev pub invariant-loop-i : goal.invariant-loop-i
invariant-loop-i l = record {
  size : l.i-iterator.iter.size ≡ operator_length_in l.edition;
  same : each (operator_fault (nodes_by_words l.nodes)) l.i-iterator.count 1
      (operator_rows l.edition (left (operator_length_in l.edition) l.i-iterator.iter))
      ≡ laws_fault (nodes_by_words l.nodes)
      (operator_rows l.edition (whole (operator_length_in l.edition) l.operators));
}
