use Rattle.promises.proofs.SmallestNumbering.{smallest_numbering}
use Rattle.promises.proofs.smallest_numbering.Goals as goal

pub returns : goal.returns
returns c = smallest_numbering
