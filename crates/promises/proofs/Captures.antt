-- A capture at a time: what is answered and left is what single scans give, by the laws of captures; a single scan refuses a packet by 11 exactly where its
-- words are wrong, so the first bad packet is the one that is named. Assumes nothing.
use Rattle.std.proofs.Common.{ℕ, ◌+◌, ◌*◌, ◌%◌, ◌-◌, ◌≤◌, ◌<◌, arith, ◌≡◌, refl, sym, ap, ◌∙◌, Bool, true, false, not, List, [], eqb, length, get_or, drop}
use Rattle.std.proofs.Common.{get_or-take, subst, eqb-true, replicate, Ok, Err}
use lib.ListN.{length-replicate}
use Rattle.std.proofs.lemmas.List.{get_or-drop}
use borrow.Author.Tests.{not-false, eq-eqb, le-leb}
use Rattle.logic.proofs.Tests.{by-test, and_both}
use Rattle.theory.specs.Number.{FirstPlace}
use Rattle.flow.specs.Packet.{packet_length, packet_of, right_packet_words}
use Rattle.action.specs.Action.{kind_of, rate_of}
use Rattle.row.specs.Row.{rows_in}
use Rattle.refusal.specs.Refusals.{refusal_at, refusal_number, answer_number}
use Rattle.refusal.specs.declared.Reason.TheVariants.{WrongPacket, WrongTable, WrongRow}
use Rattle.refusal.specs.declared.Refusal.{Refusal}
use Rattle.table.specs.Scan.{found, scan_of, scan_action, scan_tried}
use Rattle.table.proofs.Tables.{check-exactly, check-first}
use Rattle.table.proofs.Scans.{scan-found, scan-refused}
use Rattle.capture.specs.Capture.{found_words, packet_count, packet_at, right_capture, capture_of, answers_after}
use Rattle.capture.specs.Theorems.{Captured}
use Rattle.capture.proofs.Laws.{capture-tells, capture-taken, length-first, then-packets, then-table, then-buffer, capture-stays}
use Rattle.promises.specs.Captures.{bad, Packets, Good, Needs, Leaves, Answering, Refusing, CaptureScans}
use Rattle.promises.proofs.Cases.{capture-cases}
use Rattle.compile.proofs.Ordered.{no_value}
use Rattle.promises.proofs.FixedAnswers.{same_refusal, same_number, by-check, by-capture, right-packets, fixed_answers}

-- a single scan refuses a packet by 11 exactly where its words are wrong, whatever the table is
bad-exactly : (ws p : List ℕ) → eqb (answer_number (scan_of ws p)) 11 ≡ not (right_packet_words p)
bad-exactly ws p =
    by-test (right_packet_words p)
    (λ t. by-check ws
    (λ n e. rw (scan-found ws p ((check-exactly ws n).0 e).0 t, t) refl)
    (λ r e h. rw ((scan-refused ws p).1 t r e, t) (other (refusal_number r) (h.0.0))))
    (λ t. rw ((scan-refused ws p).0 t, t) refl)
  where
    other : (n : ℕ) → 15 ≤ n → eqb n 11 ≡ false
    other n h = by-test (eqb n 11) (λ t. let e : n ≡ 11 = eqb-true n 11 t in absurd (omega (arith, h, e))) (λ t. t)

-- the words are right where a single scan does not refuse
scanned-right : (ws p : List ℕ) → answer_number (scan_of ws p) ≡ 0 → right_packet_words p ≡ true
scanned-right ws p e = not-false (right_packet_words p) (sym (bad-exactly ws p) ∙ ap (λ n. eqb n 11) e)

-- n packets are a right capture of n
module _ (ps : List ℕ) (n : ℕ) (p : Packets ps n) where
  count : n ≡ packet_count ps
  count = omega (arith, p.whole)

  right : right_capture ps ≡ true
  unfolding right_capture
  right =
      let rest : length ps % packet_length ≡ 0 = omega (arith, p.whole) in
      let few : packet_count ps ≤ 4096 = omega (arith, count, p.few) in
      and_both (eq-eqb _ _ rest) (le-leb _ _ few)

-- and those of a good one are right
each-right : (ws ps : List ℕ) (n : ℕ) → Good ws ps n → (i : ℕ) → i < packet_count ps → right_packet_words (packet_at ps i) ≡ true
each-right ws ps n g i h =
    not-false (right_packet_words (packet_at ps i)) (sym (bad-exactly ws (packet_at ps i)) ∙ g.none i (omega (arith, h, count ps n g.packets)))

-- what is needed is what the law of captures asks
taken : (ws ps : List ℕ) (room n : ℕ) → Needs ws ps room n → capture_of ws ps room ≡ Ok n
taken ws ps room n k =
    capture-taken ws ps room n (record {
      table = k.table;
      whole = k.packets.whole;
      few = k.packets.few;
      packets = λ i h. scanned-right ws (packet_at ps i) (k.scanned i h);
      fits = k.fits;
    })

needed : (ws ps : List ℕ) (room n : ℕ) → capture_of ws ps room ≡ Ok n → Needs ws ps room n
needed ws ps room n e =
    let long : length (replicate room 0) ≡ room = length-replicate {A = ℕ} room 0 in
    let t : Captured ws ps (replicate room 0) n = capture-tells ws ps (replicate room 0) n (ap (capture_of ws ps) long ∙ e) in
    record {
      packets = record { whole = t.takes.whole; few = t.takes.few };
      table = t.takes.table;
      scanned = λ i h. ap answer_number (t.scans i h);
      fits = omega (arith, t.takes.fits, long);
    }

-- the words that are left, one by one
module _ (ws ps old : List ℕ) (n : ℕ) (t : Captured ws ps old n) where
  abbrev after : List ℕ
  after = answers_after ws ps old

  word : (i j : ℕ) → i < n → j < 3 → get_or after (i * 3 + j) 0 ≡ get_or (found_words (found 0 (rows_in ws) (packet_of (packet_at ps i)))) j 0
  word i j h k =
      sym (get_or-drop (i * 3) after j 0) ∙ sym (get_or-take 3 (drop (i * 3) after) j 0 k) ∙ ap (λ (l : List ℕ). get_or l j 0) (t.words i h)

  behind : (j : ℕ) → n * 3 ≤ j → get_or after j 0 ≡ get_or old j 0
  behind j h =
      let e : j ≡ n * 3 + (j - n * 3) = omega (arith, h) in
      ap (λ (k : ℕ). get_or after k 0) e
      ∙ sym (get_or-drop (n * 3) after (j - n * 3) 0)
      ∙ ap (λ (l : List ℕ). get_or l (j - n * 3) 0) t.rest
      ∙ get_or-drop (n * 3) old (j - n * 3) 0
      ∙ ap (λ (k : ℕ). get_or old k 0) (sym e)

  leaves : Leaves ws ps old n
  leaves = record {
    kind = λ i h. let e : i * 3 ≡ i * 3 + 0 = omega arith in
        ap (λ (k : ℕ). get_or after k 0) e ∙ word i 0 h (omega arith) ∙ ap (λ x. kind_of (scan_action x)) (sym (t.scans i h));
    rate = λ i h. word i 1 h (omega arith) ∙ ap (λ x. rate_of (scan_action x)) (sym (t.scans i h));
    tried = λ i h. word i 2 h (omega arith) ∙ ap scan_tried (sym (t.scans i h));
    rest = behind;
    long = t.long;
  }

-- no packets are a right capture of none
none : Packets [] 0
none = record { whole = refl; few = omega arith }

answering : Answering
answering = record {
  exactly = λ ws ps room n. (needed ws ps room n, taken ws ps room n);
  words = λ ws ps old n e. leaves ws ps old n (capture-tells ws ps old n e);
  nothing = λ ws old right.
      let e : capture_of ws [] (length old) ≡ Ok 0 =
      taken ws [] (length old) 0 (record { packets = none; table = right; scanned = λ i h. absurd (omega (arith, h)); fits = omega arith }) in
      (e, (capture-tells ws [] old 0 e).rest);
  nothing_refused = λ ws room f e. then-table ws [] room f (right [] 0 none) (λ i h. absurd (omega (arith, h))) e;
}

-- words that cannot be a right capture
wrong : (ps : List ℕ) → ¬ (right_capture ps ≡ true) → right_capture ps ≡ false
wrong ps never = by-test (right_capture ps) (λ t. absurd (never t)) (λ t. t)

-- the first bad packet is the first whose words are wrong
module _ (ws ps : List ℕ) (room n i : ℕ) (p : Packets ps n) where
  abbrev wrong_at : ℕ → Bool
  wrong_at j = not (right_packet_words (packet_at ps j))

  named : FirstPlace (bad ws ps) n i → capture_of ws ps room ≡ Err (refusal_at WrongPacket i)
  named f =
      then-packets ws ps room i (right ps n p) (record {
        within = omega (arith, f.within, count ps n p);
        passes = sym (bad-exactly ws (packet_at ps i)) ∙ f.passes;
        skips = λ j h. sym (bad-exactly ws (packet_at ps j)) ∙ f.skips j h;
      })

  first : (j : ℕ) → FirstPlace wrong_at (packet_count ps) j → FirstPlace (bad ws ps) n j
  first j f = record {
    within = omega (arith, f.within, count ps n p);
    passes = bad-exactly ws (packet_at ps j) ∙ f.passes;
    skips = λ k h. bad-exactly ws (packet_at ps k) ∙ f.skips k h;
  }

  names : capture_of ws ps room ≡ Err (refusal_at WrongPacket i) → FirstPlace (bad ws ps) n i
  names =
      by-capture ws ps room (λ x. x ≡ Err (refusal_at WrongPacket i) → FirstPlace (bad ws ps) n i)
      (λ t q. absurd (omega (arith, same_number q)))
      (λ j f q. subst (FirstPlace (bad ws ps) n) (ap (λ (r : Refusal). r.place) (same_refusal q)) (first j f))
      (λ r o q. absurd (omega (arith, o.0.0, same_number q)))
      (λ q. absurd (omega (arith, same_number q)))
      (λ q. no_value q)

refusing : Refusing
refusing = record {
  part = λ ws ps room never. length-first ws ps room (wrong ps (λ t. never (omega (arith, (right-packets ps t).0))));
  many = λ ws ps room h. length-first ws ps room (wrong ps (λ t. let w = right-packets ps t in omega (arith, h, w.0, w.1)));
  packet = λ ws ps room n i p. (names ws ps room n i p, named ws ps room n i p);
  table = λ ws ps room n g t.
      then-table ws ps room (refusal_at WrongTable 0) (right ps n g.packets) (each-right ws ps n g) (fixed_answers.order.table_length ws t);
  row = λ ws ps room n i g t f.
      then-table ws ps room (refusal_at WrongRow i) (right ps n g.packets) (each-right ws ps n g) (check-first ws i t f);
  buffer = λ ws ps room n g t h.
      then-buffer ws ps room (right ps n g.packets) (each-right ws ps n g) t (omega (arith, h, count ps n g.packets));
  stays = capture-stays;
}

-- EVERY SENTENCE OF THE REQUEST
pub capture_scans : CaptureScans
capture_scans = record { answering = answering; refusing = refusing; cases = capture-cases }
