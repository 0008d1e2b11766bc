-- As many calls as turns are answered.
use Rattle.answers.proofs.Turns.{Going}
use Rattle.answers.proofs.answer_all.Given as goal

abbrev pub invariant-loop : goal.invariant-loop
invariant-loop g l = Going g.R.Read.remaining g.W.Write.contents l.initial.input l.input l.initial.output l.output l.counter
