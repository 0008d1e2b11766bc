-- The call of the number is answered.
use Rattle.std.proofs.Common.{refl, ◌≡◌, ◌≢◌, arith, ℕ, List, None, ne_eqb}
use Rattle.calls.specs.Calls.{read_call, tree_action_call, compile_call, scan_call, number_call, list_call, hidden_call, capture_call}
use Rattle.calls.specs.Calls.{agent_scan_call, agent_number_call}
use Rattle.calls.specs.Taken.{body_in}
use Rattle.calls.proofs.Takes.{answers_number, answers_no_call}
use Rattle.calls.proofs.calls.Room.answer.Goals as goal

pub returns-in-1 : goal.returns-in-1
unfolding body_in
returns-in-1 g c =
    answers_number g.R.Read.remaining g.S.Sink.gives _ _ _ _ _ _ read_call _ c.in_ok-take_word.ensures c.in-1.is c.answer_read.ensures

pub returns-in-2 : goal.returns-in-2
unfolding body_in
returns-in-2 g c =
    answers_number g.R.Read.remaining g.S.Sink.gives _ _ _ _ _ _ tree_action_call _ c.in_ok-take_word.ensures c.in-2.is c.answer_tree_action.ensures

pub returns-in-3 : goal.returns-in-3
unfolding body_in
returns-in-3 g c =
    answers_number g.R.Read.remaining g.S.Sink.gives _ _ _ _ _ _ compile_call _ c.in_ok-take_word.ensures c.in-3.is c.answer_compile.ensures

pub returns-in-4 : goal.returns-in-4
unfolding body_in
returns-in-4 g c =
    answers_number g.R.Read.remaining g.S.Sink.gives _ _ _ _ _ _ scan_call _ c.in_ok-take_word.ensures c.in-4.is c.answer_scan.ensures

pub returns-in-5 : goal.returns-in-5
unfolding body_in
returns-in-5 g c =
    answers_number g.R.Read.remaining g.S.Sink.gives _ _ _ _ _ _ number_call _ c.in_ok-take_word.ensures c.in-5.is c.answer_number.ensures

pub returns-in-6 : goal.returns-in-6
unfolding body_in
returns-in-6 g c =
    answers_number g.R.Read.remaining g.S.Sink.gives _ _ _ _ _ _ list_call _ c.in_ok-take_word.ensures c.in-6.is c.answer_list.ensures

pub returns-in-7 : goal.returns-in-7
unfolding body_in
returns-in-7 g c =
    answers_number g.R.Read.remaining g.S.Sink.gives _ _ _ _ _ _ hidden_call _ c.in_ok-take_word.ensures c.in-7.is c.answer_hidden.ensures

pub returns-in-8 : goal.returns-in-8
unfolding body_in
returns-in-8 g c =
    answers_number g.R.Read.remaining g.S.Sink.gives _ _ _ _ _ _ capture_call _ c.in_ok-take_word.ensures c.in-8.is c.answer_capture.ensures

pub returns-in-9 : goal.returns-in-9
unfolding body_in
returns-in-9 g c =
    answers_number g.R.Read.remaining g.S.Sink.gives _ _ _ _ _ _ agent_scan_call _ c.in_ok-take_word.ensures c.in-9.is c.answer_agent_scan.ensures

pub returns-in-10 : goal.returns-in-10
unfolding body_in
returns-in-10 g c =
    answers_number g.R.Read.remaining g.S.Sink.gives _ _ _ _ _ _ agent_number_call _ c.in_ok-take_word.ensures c.in-10.is c.answer_agent_number.ensures

-- another number is that of no call
no_body : (w : ℕ) (body : List ℕ) → w ≢ read_call → w ≢ tree_action_call → w ≢ compile_call → w ≢ scan_call → w ≢ number_call → w ≢ list_call
    → w ≢ hidden_call → w ≢ capture_call → w ≢ agent_scan_call → w ≢ agent_number_call → body_in w body ≡ (None, body)
unfolding body_in
no_body w body a b c d e f g h i j =
    rw (
      ne_eqb w read_call a,
      ne_eqb w tree_action_call b,
      ne_eqb w compile_call c,
      ne_eqb w scan_call d,
      ne_eqb w number_call e,
      ne_eqb w list_call f,
      ne_eqb w hidden_call g,
      ne_eqb w capture_call h,
      ne_eqb w agent_scan_call i,
      ne_eqb w agent_number_call j,
    )
    refl

pub returns-in_default : goal.returns-in_default
returns-in_default g c =
    answers_no_call g.R.Read.remaining g.S.Sink.gives _ _ _ c.in_ok-take_word.field-0 _ (g.met.S.Sink.none _) refl c.in_ok-take_word.ensures
    (λ body.
    no_body c.in_ok-take_word.field-0 body (omega arith) (omega arith) (omega arith) (omega arith) (omega arith) (omega arith) (omega arith) (omega arith)
    (omega arith) (omega arith))
