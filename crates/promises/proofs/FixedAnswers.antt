-- Fixed answers by cases, each with its number and the words that it leaves.
use Rattle.std.proofs.Common.{ℕ, zero, suc, ◌*◌, ◌%◌, ◌-◌, ◌≤◌, ◌<◌, arith, ◌≡◌, refl, sym, ap, subst, Bool, true, false, not, ◌&&◌, List, [], ◌∷◌, ◌++◌, ◌⊎◌, inl, inr, eqb, leb, length}
use Rattle.std.proofs.Common.{eqb-true, Result, Ok, Err, Option, None}
use borrow.Author.Tests.{lt-leb, leb-true, eqb-false, not-false}
use Rattle.action.specs.declared.LawFailure.{LawFailure}
use Rattle.logic.proofs.Tests.{by-test, by_le, and_left, and_right}
use Rattle.words.specs.Records.{records}
use Rattle.theory.specs.declared.Row.{Row}
use Rattle.theory.specs.Number.{FirstPlace}
use Rattle.flow.specs.Packet.{packet_length, right_packet_words}
use Rattle.flow.specs.declared.Match.{Match}
use Rattle.action.specs.declared.Action.{Action}
use Rattle.action.specs.declared.Action.TheVariants.{DontCare}
use Rattle.row.specs.Row.{row_length, right_row, words_of}
use Rattle.action.specs.Laws.{Searched, law_search}
use Rattle.refusal.specs.Refusals.{law_broken, reason_number, failure_of, refusal_at, refusal_number}
use Rattle.refusal.specs.declared.Reason.TheVariants.{NoRoom, WrongRow, WrongPacket, WrongCapture, ShortAnswers}
use Rattle.refusal.specs.declared.Refusal.{Refusal}
use Rattle.policy.specs.Read.{read_of}
use Rattle.policy.proofs.Refused.{refused-plain}
use Rattle.policy.proofs.Order.{file-order}
use Rattle.tree.proofs.Eval.{action-eval, action-refused, action-packet}
use Rattle.table.specs.Table.{row_count, right_length, first_wrong, check_rows, check_of}
use Rattle.table.specs.Scan.{scan_of}
use Rattle.table.proofs.Tables.{check-exactly, check-first}
use Rattle.table.proofs.Scans.{scan-refused}
use Rattle.priority.specs.Numbering.{number_of, answer_count, count}
use Rattle.priority.proofs.After.{number-ready, words-stay, refused-stays}
use Rattle.words.specs.Words.{zeros}
use Rattle.hidden.specs.Hidden.{kept_of}
use Rattle.hidden.proofs.Laws as hidden
use Rattle.capture.specs.Capture.{most_packets, found_length, packet_count, packet_at, right_capture, capture_of}
use Rattle.capture.proofs.Laws.{capture-tells, capture-taken, length-first, then-packets, then-table, then-buffer, capture-stays}
use Rattle.compile.specs.Compile.{compiled_rows}
use Rattle.compile.proofs.Ordered.{answered-in-order, by-reading, by-order, no_value}
use Rattle.promises.specs.Told.{search_told, read_told, action_told, compile_told, capture_told, between, Fixed}
use Rattle.promises.proofs.Reasons.{due-lawless, plain-told}
use Rattle.promises.specs.Demands.{compile_numbers, capture_numbers, EveryInput, Order, WordsLeft, FixedAnswers}

-- the numbers of a refused file
pub file-number : (f : List ℕ) (r : Refusal) → read_of f ≡ Err r → between 1 10 (refusal_number r)
file-number f r e = by-test (eqb (refusal_number r) law_broken)
    (λ t. let z : refusal_number r ≡ law_broken = eqb-true _ _ t in (omega arith, omega arith))
    (λ t. let p = refused-plain f r e (eqb-false _ _ t) in (p.0, omega (arith, p.1)))

-- what is told of a success, of a refusal without a law, and of a refused file
module _ {numbers : ℕ → Type 0} where
  success : {a : Action} {k : ℕ} → Fixed numbers (record { number = 0; place = 0; failure = None; action = a; count = k })
  success = record { number = inl (refl, refl); value = λ n. absurd (n refl); law = λ n. refl }

  refused : {n i : ℕ} {x : Option LawFailure} → numbers n → x ≡ None
      → Fixed numbers (record { number = n; place = i; failure = x; action = DontCare; count = 0 })
  refused h p = record { number = inr h; value = λ n. (refl, refl); law = λ n. p }

  file-refused : (f : List ℕ) (r : Refusal) → read_of f ≡ Err r → ((n : ℕ) → between 1 10 n → numbers n)
      → Fixed numbers (record { number = refusal_number r; place = r.place; failure = failure_of r.reason; action = DontCare; count = 0 })
  file-refused f r e h = record {
    number = inr (h (refusal_number r) (file-number f r e));
    value = λ n. (refl, refl);
    law = λ n. (refused-plain f r e n).2;
  }

-- equal answers have equal refusals
pub same_refusal : {r r' : Refusal} → ◌≡◌ {A = Result ℕ Refusal} (Err r) (Err r') → r ≡ r'
same_refusal q = cc

-- a table is right, or wrong with 15 or 16
abbrev pub OfTable : Refusal → Type 0
OfTable r = between 15 16 (refusal_number r) × (failure_of r.reason ≡ None)

pub by-check : {X : Type 0} (ws : List ℕ) → ((n : ℕ) → check_of ws ≡ Ok n → X) → ((r : Refusal) → check_of ws ≡ Err r → OfTable r → X) → X
unfolding check_of check_rows
by-check {X} ws right wrong = go (check_of ws) refl
  where
    row : (i : ℕ) (rs : List (List ℕ)) (f : Refusal) → first_wrong right_row WrongRow i rs ≡ Err f → OfTable f
    row i [] f e = let z : ◌≡◌ {A = ℕ} 0 1 = cc in absurd (omega arith)
    row i (r ∷ rs) f e = by-test (right_row r)
        (λ t. row _ rs f (rw t at e))
        (λ t. subst OfTable (same_refusal (rw t at e)) ((omega arith, omega arith), refl))

    go : (x : Result ℕ Refusal) → check_of ws ≡ x → X
    go (Ok n) e = right n e
    go (Err f) e = wrong f e (by-test (right_length ws)
        (λ t. row 0 (records (row_count ws) row_length ws) f (rw t at e))
        (λ t. subst OfTable (same_refusal (rw t at e)) ((omega arith, omega arith), refl)))

-- a test passes at a first place below n, or at none
by-first : {X : Type 0} (test : ℕ → Bool) (n : ℕ) → ((i : ℕ) → FirstPlace test n i → X) → (((j : ℕ) → j < n → test j ≡ false) → X) → X
by-first test zero f g = g (λ j h. absurd (omega (arith, h)))
by-first test (suc n) f g =
    by-first test n
    (λ i p. f i (record { within = omega (arith, p.within); passes = p.passes; skips = p.skips }))
    (λ none. by-test (test n)
    (λ t. f n (record { within = omega arith; passes = t; skips = none }))
    (λ t. g (λ j h. by_le n j (λ k. let e : j ≡ n = omega (arith, h, k) in rw e t) (none j))))

-- a right capture's words are so many packets
pub right-packets : (ps : List ℕ) → right_capture ps ≡ true → (length ps ≡ packet_count ps * packet_length) × (packet_count ps ≤ most_packets)
unfolding right_capture
right-packets ps t =
    let whole : Bool = eqb (length ps % packet_length) 0 in
    let few : Bool = leb (packet_count ps) most_packets in
    (omega (arith, eqb-true (length ps % packet_length) 0 (and_left whole few t)), leb-true (packet_count ps) most_packets (and_right whole few t))

-- a capture by cases: its length, its first wrong packet, its table, its buffer
module _ (ws ps : List ℕ) (room : ℕ) (G : Result ℕ Refusal → Type 0) where
  pub by-capture : (right_capture ps ≡ false → G (Err (refusal_at WrongCapture 0)))
      → ((i : ℕ) → FirstPlace (λ j. not (right_packet_words (packet_at ps j))) (packet_count ps) i → G (Err (refusal_at WrongPacket i)))
      → ((r : Refusal) → OfTable r → G (Err r))
      → G (Err (refusal_at ShortAnswers 0))
      → G (Ok (packet_count ps))
      → G (capture_of ws ps room)
  by-capture long wrong table short taken =
      by-test (right_capture ps)
      (λ t. by-first (λ j. not (right_packet_words (packet_at ps j))) (packet_count ps)
      (λ i f. subst G (sym (then-packets ws ps room i t f)) (wrong i f))
      (λ none.
      let each : (i : ℕ) → i < packet_count ps → right_packet_words (packet_at ps i) ≡ true =
      λ i h. not-false (right_packet_words (packet_at ps i)) (none i h) in
      by-check ws
      (λ n e.
      let right = ((check-exactly ws n).0 e).0 in
      by_le (packet_count ps * found_length) room
      (λ h.
      let w = right-packets ps t in
      subst G
      (sym (capture-taken ws ps room (packet_count ps) (record { table = right; whole = w.0; few = w.1; packets = each; fits = h })))
      taken)
      (λ h. subst G (sym (then-buffer ws ps room t each right h)) short))
      (λ r e o. subst G (sym (then-table ws ps room r t each e)) (table r o))))
      (λ t. subst G (sym (length-first ws ps room t)) (long t))

search-fixed : (i : ℕ) (x : Searched) → Fixed (between 10 10) (search_told i x)
search-fixed i (Ok u) = success
search-fixed i (Err f) = record { number = inr (omega arith, omega arith); value = λ n. (refl, refl); law = λ n. absurd (n refl) }

every-input : EveryInput
unfolding scan_of number_of kept_of
every-input = record {
  search = λ o i. search-fixed i (law_search o);
  read = λ f. by-reading f
      (λ l e. subst (λ x. Fixed (between 1 10) (read_told x)) (sym e) success)
      (λ r e. subst (λ x. Fixed (between 1 10) (read_told x)) (sym e) (file-refused f r e (λ n h. h)));
  action = λ f p. by-reading f
      (λ l e. by-test (right_packet_words p)
      (λ t. subst (λ x. Fixed (between 1 11) (action_told x)) (sym (action-eval f p l e t)) success)
      (λ t. subst (λ x. Fixed (between 1 11) (action_told x)) (sym (action-packet f p l e t)) (refused (omega arith, omega arith) refl)))
      (λ r e. subst (λ x. Fixed (between 1 11) (action_told x)) (sym (action-refused f p r e)) (file-refused f r e (λ n h. (h.0, omega (arith, h.1)))));
  compile = λ f t s. by-order f t s (λ x t' s'. Fixed compile_numbers (compile_told x))
      (λ r e. file-refused f r e (λ n h. inl h))
      (λ l e h. refused (inr (omega arith, omega arith)) refl)
      (λ l e enough h. refused (inr (omega arith, omega arith)) refl)
      (λ l e enough fits. success);
  check = λ ws. by-check ws (λ n e. rw e success) (λ r e h. rw e (refused h.0 h.1));
  scan = λ ws p. by-test (right_packet_words p)
      (λ t. by-check ws (λ n e. rw (t, e) success) (λ r e h. rw (t, e) (refused (inr h.0) h.1)))
      (λ t. rw t (refused (inl refl) refl));
  number = λ ws p c. by-check ws
      (λ n e. by-test (leb n p && leb n c) (λ t. rw (e, t) success) (λ t. rw (e, t) (refused (omega arith, omega arith) refl)))
      (λ r e h. rw e (refused (h.0.0, omega (arith, h.0.1)) h.1));
  hidden = λ ws. by-check ws (λ n e. rw e success) (λ r e h. rw e (refused h.0 h.1));
  capture = λ ws ps room. by-capture ws ps room (λ x. Fixed capture_numbers (capture_told x))
      (λ t. refused (inr (inr (omega arith, omega arith))) refl)
      (λ i f. refused (inl refl) refl)
      (λ r h. refused (inr (inl h.0)) h.1)
      (refused (inr (inr (omega arith, omega arith))) refl)
      success;
}

-- a buffer shorter than the row count
short : (n p c : ℕ) → (p < n) ⊎ (c < n) → (leb n p && leb n c) ≡ false
short n p c (inl h) = rw (lt-leb n p h)
short n p c (inr h) = rw (lt-leb n c h) (and-false (leb n p))
  where
    and-false : (b : Bool) → (b && false) ≡ false
    and-false true = refl
    and-false false = refl

order : Order
unfolding number_of check_of
order = record {
  file = file-order;
  file_laws = due-lawless;
  plain = plain-told;
  action_file = action-refused;
  action_packet = action-packet;
  compile_file = λ f t s r e. sym ((answered-in-order f t s).file_refused r e).answer;
  compile_scratch = λ f t s l e h. sym ((answered-in-order f t s).scratch_short l e h).answer;
  table_length = λ ws t. rw t refl;
  table_row = check-first;
  scan_packet = λ ws p. (scan-refused ws p).0;
  scan_table = λ ws p f t e. (scan-refused ws p).1 t f e;
  number_table = λ ws p c f e. rw e refl;
  number_buffers = λ ws p c r h. rw ((check-exactly ws (row_count ws)).1 (r, refl), short (row_count ws) p c h) refl;
  hidden_table = λ ws f e. (hidden.refused-exactly ws f).1 e;
  capture_length = length-first;
  capture_packet = then-packets;
  capture_table = then-table;
  capture_buffer = then-buffer;
}

-- the number of a refusal
pub same_number : {r r' : Refusal} → ◌≡◌ {A = Result ℕ Refusal} (Err r) (Err r') → refusal_number r ≡ refusal_number r'
same_number q = ap refusal_number (same_refusal q)

words_left : WordsLeft
words_left = record {
  compile_stays = λ f t s r.
      by-order f t s (λ x t' s'. x ≡ Err r → ¬ (refusal_number r ≡ reason_number NoRoom) → (t' ≡ t) × (s' ≡ s))
      (λ r' e q n. (refl, refl))
      (λ l e h q n. (refl, refl))
      (λ l e enough h q n. absurd (n (sym (same_number q))))
      (λ l e enough fits q. no_value q);
  compile_zeros = λ f t s r.
      by-order f t s (λ x t' s'. x ≡ Err r → refusal_number r ≡ reason_number NoRoom → (t' ≡ zeros (length t)) × (s' ≡ zeros (length s)))
      (λ r' e q h. let n : between 1 10 (refusal_number r') = file-number f r' e in absurd (omega (arith, n.1, h, same_number q)))
      (λ l e g q h. absurd (omega (arith, h, same_number q)))
      (λ l e enough g q h. (refl, refl))
      (λ l e enough fits q. no_value q);
  compile_rows = λ f t s l n e.
      let N : List (Row Match Action) = compiled_rows f l in
      by-order f t s (λ x t' s'. x ≡ Ok n → (t' ≡ words_of N ++ zeros (length t - length (words_of N))) × (s' ≡ zeros (length s)))
      (λ r' e' q. no_value (sym q))
      (λ l' e' h q. no_value (sym q))
      (λ l' e' enough h q. no_value (sym q))
      (λ l' e' enough fits q. let same : l' ≡ l = cc in rw same (refl, refl));
  number_stays = refused-stays;
  number_beyond = λ ws ps cs n q.
      let w = words-stay ws ps cs (number-ready ws ps cs n q) in
      let c : count ws ps cs ≡ n = ap answer_count q in
      (w.2, rw c at w.3);
  hidden_stays = hidden.refused-stays;
  hidden_rows = λ ws n q. (hidden.kept-rows ws n q).words;
  capture_stays = capture-stays;
  capture_beyond = λ ws ps old n q. (capture-tells ws ps old n q).rest;
}

pub fixed_answers : FixedAnswers
fixed_answers = record { every_input = every-input; order = order; words_left = words_left }
