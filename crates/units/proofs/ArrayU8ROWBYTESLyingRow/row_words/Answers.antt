-- The words of 44 bytes fill the row.
use Rattle.std.proofs.Common.{◌∙◌, arith}
use Rattle.words.specs.Bytes.{words_in}
use Rattle.words.proofs.Bytes.{length-words}
use Rattle.units.proofs.Lying.{fills}
use Rattle.units.proofs.ArrayU8ROWBYTESLyingRow.row_words.Goals as goal

pub returns : goal.returns
returns c = c.from_bytes.ensures ∙ fills (words_in c.args.self.now) _ (omega (arith, length-words c.args.self.now))
