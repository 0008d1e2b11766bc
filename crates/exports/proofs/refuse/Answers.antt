-- Four words fill an answer.
use Rattle.std.proofs.Common.{◌∙◌, [], ◌∷◌}
use Rattle.exports.proofs.Filled.{filled}
use Rattle.exports.proofs.refuse.Goals as goal

pub returns-clause-answer_after : goal.returns-clause-answer_after
returns-clause-answer_after c = c.to_bytes.ensures ∙ filled (c.args.refusal.place ∷ 0 ∷ 0 ∷ 0 ∷ []) _ c.requires.room
