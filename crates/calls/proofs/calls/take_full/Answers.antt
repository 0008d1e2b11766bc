-- The input has no more.
use Rattle.calls.proofs.Takes.{takes_short}
use Rattle.calls.proofs.calls.take_full.Goals as goal

pub returns-then-count-buf : goal.returns-then-count-buf
returns-then-count-buf g c = takes_short g.R.Read.remaining _ _ _ _ _ c.fill.ensures c.in_ok-count.was c.if-count-buf.true
