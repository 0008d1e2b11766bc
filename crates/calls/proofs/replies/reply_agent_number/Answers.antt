-- What the call answered, then the priorities, then the chain.
use Rattle.calls.specs.Replies.{agent_number_reply}
use Rattle.calls.proofs.replies.reply_agent_number.Goals as goal

pub returns-clause-given : goal.returns-clause-given
unfolding agent_number_reply
returns-clause-given g c =
    let e = c.agent_number.ensures in
    rw (← e.value, ← e.answer_after, ← e.priorities_after, ← e.chain_after)
    (g.met.S.Sink.then _ _ _ _ _ (g.met.S.Sink.then _ _ _ _ _ c.put_answered.ensures c.put_text.ensures) c.put_text-2.ensures)
