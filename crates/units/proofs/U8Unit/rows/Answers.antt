-- Chunks of 44 bytes are rows.
use Rattle.units.proofs.Lying.{byte-rows}
use Rattle.units.proofs.U8Unit.rows.Goals as goal

pub returns : goal.returns
returns c = byte-rows c.args.units.now _ c.as_chunks.ensures.front
