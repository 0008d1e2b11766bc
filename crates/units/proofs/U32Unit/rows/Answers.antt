-- Chunks of 11 words are rows.
use Rattle.std.proofs.Common.{◌∙◌, ◌/◌, length, map-id}
use Rattle.row.specs.Row.{row_length}
use Rattle.words.proofs.Bytes.{chunks-records}
use Rattle.units.proofs.U32Unit.rows.Goals as goal

pub returns : goal.returns
returns c =
    let ws = c.args.units.now in
    map-id c.as_chunks.result.0.now ∙ c.as_chunks.ensures.front ∙ chunks-records (length ws / row_length) row_length ws
