-- The three cases of the word.
use Rattle.std.proofs.Common.{◌∙◌, sym}
use Rattle.std.proofs.lemmas.Bool.{eqb-true, eqb-false}
use Rattle.values.proofs.Digits.{empty-is_none, leading-is_none, plain-is_number}
use Rattle.values.proofs.numbers.number_of.Goals as goal

pub returns-then-is_empty : goal.returns-then-is_empty
returns-then-is_empty c = empty-is_none c.args.word.now (eqb-true _ _ (sym c.is_empty.ensures ∙ c.if-is_empty.true))

pub returns-then-leads_by_zero : goal.returns-then-leads_by_zero
returns-then-leads_by_zero c = leading-is_none c.args.word.now (sym c.leads_by_zero.ensures ∙ c.if-leads_by_zero.true)

pub returns : goal.returns
returns c =
    c.value_below.ensures
    ∙ plain-is_number c.args.word.now (eqb-false _ _ (sym c.is_empty.ensures ∙ c.if-is_empty.false)) (sym c.leads_by_zero.ensures ∙ c.if-leads_by_zero.false)
