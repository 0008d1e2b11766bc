-- The bytes of a word are stored where the word lies.
use Rattle.std.proofs.Common.{◌∙◌, arith}
use Rattle.units.proofs.Lying.{byte-put, byte-out}
use Rattle.units.proofs.U8Unit.put.Goals as goal

pub returns-then-at-units : goal.returns-then-at-units
returns-then-at-units c =
    byte-put c.args.units.now _ c.args.at c.args.word (c.copy_from_slice.ensures.after ∙ c.to_le_bytes.ensures) (omega arith) (omega arith)

pub returns-else-at-units : goal.returns-else-at-units
returns-else-at-units c = byte-out c.args.units.now c.args.at c.args.word (omega arith)
