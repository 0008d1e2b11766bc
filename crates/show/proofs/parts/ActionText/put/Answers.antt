-- The rate is put behind the word.
use Rattle.show.specs.Text.{action_text}
use Rattle.show.proofs.parts.ActionText.put.Goals as goal

pub returns-in-Gmb : goal.returns-in-Gmb
unfolding action_text
returns-in-Gmb g c = rw c.in-Gmb.is (g.met.S.Sink.then _ _ _ _ _ c.put-in-Gmb.ensures c.put_number.ensures)
