-- Chunks of four bytes are words.
use Rattle.units.proofs.Lying.{byte-words}
use Rattle.units.proofs.U8Unit.words.Goals as goal

pub returns : goal.returns
returns c = byte-words c.args.units.now _ c.as_chunks.ensures.front
