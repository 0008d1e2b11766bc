-- Proved in Found and Sessions.
use Rattle.calls.proofs.Found.{call_found, found_call}
use Rattle.calls.proofs.Sessions.{call-shorter, session-step}
use Rattle.calls.proofs.theorems.Goals as goal

pub returns : goal.returns
returns c = record {
  call_found = call_found;
  found_call = found_call;
  call_shorter = call-shorter;
  session_step = session-step;
}
