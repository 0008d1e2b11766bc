-- The first fault of the cells that are left is that of the whole operator.
use Rattle.std.proofs.Common.{◌≡◌, drop}
use Rattle.policy.specs.Sections.{each, cell_fault, cells_fault}
use Rattle.policy.proofs.sections.Piece.cells_fault.Given as goal

abbrev pub invariant-loop-j : goal.invariant-loop-j
invariant-loop-j l = each (cell_fault l.edition l.self.at) l.j 1 (drop l.j l.self.words.now) ≡ cells_fault l.edition l.self.at l.self.words.now
