-- The compile's answer for the file that the copies made, and what it is up to 12 atoms and for 13.
use Rattle.std.proofs.Common.{◌∙◌, ap, take, ◌+◌, ◌*◌}
use Rattle.words.specs.Words.{copied}
use Rattle.compile.specs.Compile.{answer_of}
use Rattle.doubling.specs.Doubling.{largest, behind, answer_for}
use Rattle.doubling.proofs.Filled.{filled}
use Rattle.doubling.proofs.Rows.{few, many}
use Rattle.doubling.proofs.answer.Goals as goal

pub returns-clause-answer : goal.returns-clause-answer
returns-clause-answer c =
    let k = c.args.atoms in
    let words = ap (take (11 + 11 * k + 6)) (c.copy-2.ensures ∙ ap (copied (11 + 11 * k) (behind k)) c.copy.ensures) in
    c.compile.ensures.answer ∙ ap (λ f. answer_of f largest largest) (words ∙ filled k c.requires)

pub returns-clause-rows : goal.returns-clause-rows
returns-clause-rows c = λ h. returns-clause-answer c ∙ few c.args.atoms h

pub returns-clause-no_room : goal.returns-clause-no_room
returns-clause-no_room c = λ e. returns-clause-answer c ∙ ap answer_for e ∙ many
