use Rattle.notation_promises.proofs.Cases.{text-cases}
use Rattle.notation_promises.proofs.text_cases.Goals as goal

pub returns : goal.returns
returns c = text-cases
