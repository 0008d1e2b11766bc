-- Cases by computation: what their calls compute with, and that a list holds where its two sides compute to the same.
use Rattle.std.proofs.Common.{◌≡◌, refl, ap, List, [], ◌∷◌}
use Rattle.std.specs.Prelude.{⊤}
use Rattle.flow.specs.Packet.{right_packet, right_packet_words}
use Rattle.flow.specs.Match.{meets_ports, meets}
use Rattle.tree.specs.Action as tree
use Rattle.table.specs.Scan.{scan_of}
use Rattle.capture.specs.Capture.{right_capture, check_packets, capture_of, captured_words, answers_after}
use Rattle.priority.specs.Numbering.{priorities_after, chain_after}
use Rattle.compile.specs.Compile.{scratch_after}
use Rattle.text.proofs.Examples as listing
use Rattle.promises.specs.Cases.{Case, Hold}
use Rattle.promises.specs.Ports.{port_cases}
use Rattle.promises.specs.Reservations.{reserved_cases}
use Rattle.promises.specs.Rates.{rate_cases}
use Rattle.promises.specs.Captures.{capture_cases}
use Rattle.promises.specs.Shuffles.{shuffle_cases}
use Rattle.promises.specs.Agents.{agent_cases}
use Rattle.exports.specs.Exports.{scan_number, scan_answer, numbering_number, numbering_answer, priorities_left, chain_left}

-- an `unfolding` of this one unfolds all that the calls compute with
unfoldable pub computed : ⊤
unfolding listing.computed right_packet right_packet_words meets_ports meets tree.accepted_action tree.tree_action_of scan_of priorities_after chain_after
    scratch_after right_capture check_packets capture_of captured_words answers_after scan_number scan_answer numbering_number numbering_answer priorities_left
    chain_left
computed = tt

-- the calls of a list, and what is said that they give
abbrev Answers : List Case → Type 0
Answers [] = ⊤
Answers (c ∷ cs) = c.Answer × Answers cs

abbrev pub calls : (cs : List Case) → Answers cs
calls [] = tt
calls (c ∷ cs) = (c.call, calls cs)

abbrev pub given : (cs : List Case) → Answers cs
given [] = tt
given (c ∷ cs) = (c.gives, given cs)

pub hold : (cs : List Case) → calls cs ≡ given cs → Hold cs
hold [] e = tt
hold (c ∷ cs) e = (ap (λ (x : c.Answer × Answers cs). x.0) e, hold cs (ap (λ (x : c.Answer × Answers cs). x.1) e))

pub port-cases : Hold port_cases
unfolding computed
port-cases = hold port_cases refl

pub reserved-cases : Hold reserved_cases
unfolding computed
reserved-cases = hold reserved_cases refl

pub rate-cases : Hold rate_cases
unfolding computed
rate-cases = hold rate_cases refl

pub capture-cases : Hold capture_cases
unfolding computed
capture-cases = hold capture_cases refl

pub shuffle-cases : Hold shuffle_cases
unfolding computed
shuffle-cases = hold shuffle_cases refl

pub agent-cases : Hold agent_cases
unfolding computed
agent-cases = hold agent_cases refl
