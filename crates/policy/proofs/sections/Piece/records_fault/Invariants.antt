-- The first fault of the records that the iterator still has to give is that of all.
use Rattle.std.proofs.Common.{◌≡◌, ◌+◌, ◌*◌}
use Rattle.words.proofs.Chunks.{whole, left, Going}
use Rattle.policy.specs.Sections.{each, record_fault}
use Rattle.policy.proofs.sections.Piece.records_fault.Given as goal

abbrev pub invariant-loop-i : goal.invariant-loop-i
invariant-loop-i l = record {
  going : Going l.step l.self.words.now l.i-iterator;
  same : each (record_fault l.section) (l.self.at + l.step * l.i-iterator.count) l.step (left l.step l.i-iterator.iter)
      ≡ each (record_fault l.section) l.self.at l.step (whole l.step l.self.words.now);
}
