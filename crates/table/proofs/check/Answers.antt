-- By how many words there are, and then by the rows where they lie.
use Rattle.std.proofs.Common.{◌≡◌, ◌∙◌, refl, sym, ap, true, false}
use Rattle.row.specs.Row.{right_row}
use Rattle.refusal.specs.declared.Reason.TheVariants.{WrongRow}
use Rattle.table.specs.Table.{first_wrong, check_of, check_rows, right_length}
use Rattle.table.proofs.Lying.{right-many}
use Rattle.table.proofs.check.Goals as goal

pub returns-then-not-right_length : goal.returns-then-not-right_length
unfolding check_of
returns-then-not-right_length g c =
    let ws = g.U.Unit.words c.args.table.now in
    let wrong : right_length ws ≡ false =
    sym (right-many g.U.Word.LyingWord.word ws c.words.result.now c.words.ensures) ∙ sym c.right_length.ensures ∙ c.if-not-right_length.true in
    rw (c.at.ensures, wrong) refl

pub returns : goal.returns
unfolding check_of check_rows
returns g c =
    let ws = g.U.Unit.words c.args.table.now in
    let right : right_length ws ≡ true =
    sym (right-many g.U.Word.LyingWord.word ws c.words.result.now c.words.ensures) ∙ sym c.right_length.ensures ∙ c.if-not-right_length.false in
    rw right (c.check_rows.ensures ∙ ap (first_wrong right_row WrongRow 0) c.rows.ensures)
