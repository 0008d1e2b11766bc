use Rattle.notation_promises.proofs.Promised.{texts-promised}
use Rattle.notation_promises.proofs.texts_promised.Goals as goal

pub returns : goal.returns
returns c = texts-promised
