-- A turn answers one call more, or is the last.
use Rattle.std.proofs.Common.{arith}
use Rattle.answers.proofs.Turns.{going-none, going-more, going-last, going-all}
use Rattle.answers.proofs.answer_all.Goals as goal

pub loop-init : goal.loop-init
loop-init g c = going-none g.R.Read.remaining g.W.Write.contents _ _

pub loop-preserved : goal.loop-preserved
loop-preserved g c = going-more g.R.Read.remaining g.W.Write.contents _ _ _ _ _ _ _ c.loop.invariant c.if-not-answer_call.ensures

pub returns-then-not-answer_call : goal.returns-then-not-answer_call
returns-then-not-answer_call g c = going-last g.R.Read.remaining g.W.Write.contents _ _ _ _ _ _ _ c.loop.invariant c.if-not-answer_call.ensures

pub returns : goal.returns
returns g c = going-all g.R.Read.remaining g.W.Write.contents _ _ _ _ c.loop.counter c.loop.invariant (omega arith)
