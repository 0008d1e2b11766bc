-- The rate is put behind the word.
use Rattle.canon.specs.Text.{action_text}
use Rattle.canon.proofs.rules.put_action.Goals as goal

pub returns-in-Gmb : goal.returns-in-Gmb
unfolding action_text
returns-in-Gmb g c = rw c.in-Gmb.is (g.met.S.Sink.then _ _ _ _ _ c.put-in-Gmb.ensures c.put_rate.ensures)
