-- A capture by what the tests find: packets, table and buffer, in this order; a refusal leaves every word, and what is found fits. Assumes nothing.
use Prim.Native.Nat.{ℕ, ◌*◌, ◌%◌, ◌≤◌, ◌<◌}
use native.Mathlib.Omega.{arith}
use mathlib.Core.Path.{◌≡◌, refl, sym, ap, ◌∙◌}
use mathlib.Core.Bool.{Bool, true}
use mathlib.Core.List.{List, []}
use lib.Dec.{eqb, leb}
use lib.ListN.{length, get_or}
use borrow.Author.Tests.{eqb-true, leb-true, le-leb, lt-leb}
use Rattle.std.specs.Prelude.{Result, Ok, Err}
use Rattle.logic.proofs.Tests.{by-test, by_le, and_left, and_right}
use Rattle.words.specs.Records.{records}
use Rattle.words.specs.Words.{laid}
use Rattle.words.proofs.Laid.{laid-front}
use Rattle.words.proofs.RecordLaws.{length-records, records-at, length-flat}
use Rattle.flow.specs.Packet.{packet_length, right_packet_words}
use Rattle.refusal.specs.Refusals.{refusal_at}
use Rattle.refusal.specs.declared.Reason.TheVariants.{WrongPacket, WrongCapture, ShortAnswers}
use Rattle.refusal.specs.declared.Refusal.{Refusal}
use Rattle.table.specs.Table.{first_wrong, check_of}
use Rattle.table.proofs.Tables.{check-total, check-passed}
use Rattle.capture.specs.Capture.{most_packets, found_length, packet_count, packet_at, packets_in, right_capture, check_packets, by_tests, capture_of}
use Rattle.capture.specs.Capture.{words_for, captured_words, answers_by, answers_after}
use Rattle.capture.proofs.Turns.{length-packets}

-- an answer of n packets
abbrev pub counted : ℕ → Result ℕ Refusal
counted n = Ok n

-- what is found has three words for each packet
pub captured-long : (ws ps : List ℕ) → length (captured_words ws ps) ≡ packet_count ps * found_length
unfolding captured_words
captured-long ws ps = length-flat found_length (words_for ws) (λ p. refl) (packets_in ps) ∙ ap (λ n. n * found_length) (length-packets ps)

-- the words of each packet, as they are tested
module _ (ps : List ℕ) where
  abbrev pub each : List (List ℕ)
  each = records (packet_count ps) packet_length ps

  pub length-each : length each ≡ packet_count ps
  length-each = length-records (packet_count ps) packet_length ps

  pub each_at : (i : ℕ) → i < packet_count ps → get_or each i [] ≡ packet_at ps i
  each_at i h = records-at (packet_count ps) packet_length i ps h

  -- packets that pass are whole, not too many, all counted, and each right
  pub record Passes (n : ℕ) : Type 0 where
    pub right : right_capture ps ≡ true
    pub whole : length ps ≡ n * packet_length
    pub few : n ≤ most_packets
    pub count : n ≡ packet_count ps
    pub packets : (i : ℕ) → i < n → right_packet_words (packet_at ps i) ≡ true

  pub passes : (n : ℕ) → check_packets ps ≡ counted n → Passes n
  unfolding check_packets right_capture
  passes n e =
      let whole : Bool = eqb (length ps % packet_length) 0 in
      let few : Bool = leb (packet_count ps) most_packets in
      by-test (right_capture ps)
      (λ t.
      let tested : first_wrong right_packet_words WrongPacket 0 each ≡ counted n = rw t at e in
      let total = check-total right_packet_words WrongPacket 0 n each tested in
      let count : n ≡ packet_count ps = omega (arith, total, length-each) in
      record {
        right = t;
        whole = omega (arith, count, eqb-true (length ps % packet_length) 0 (and_left whole few t));
        few = omega (arith, count, leb-true (packet_count ps) most_packets (and_right whole few t));
        count = count;
        packets = λ i h.
            rw (← each_at i (omega (arith, count))) (check-passed right_packet_words WrongPacket 0 n each tested i (omega (arith, count, length-each)));
      })
      (λ t.
      let wrong : ◌≡◌ {A = Result ℕ Refusal} (Err (refusal_at WrongCapture 0)) (counted n) = rw t at e in
      let z : ◌≡◌ {A = ℕ} 0 1 = cc in
      absurd (omega arith))

module _ (ws ps : List ℕ) (room : ℕ) where
  pub packets-refused : {f : Refusal} → check_packets ps ≡ Err f → capture_of ws ps room ≡ Err f
  unfolding capture_of
  packets-refused e = rw e refl

  module _ {n : ℕ} (passed : check_packets ps ≡ counted n) where
    pub table-refused : {f : Refusal} → check_of ws ≡ Err f → capture_of ws ps room ≡ Err f
    unfolding capture_of
    table-refused e = rw (passed, e) refl

    module _ {k : ℕ} (right : check_of ws ≡ counted k) where
      pub buffer-refused : room < n * found_length → capture_of ws ps room ≡ Err (refusal_at ShortAnswers 0)
      unfolding capture_of
      buffer-refused h = rw (passed, right, lt-leb (n * found_length) room h) refl

      pub all-taken : n * found_length ≤ room → capture_of ws ps room ≡ counted n
      unfolding capture_of
      all-taken h = rw (passed, right, le-leb (n * found_length) room h) refl

  -- and what is answered passed all three
  pub record Passed (n : ℕ) : Type 0 where
    pub packets : check_packets ps ≡ counted n
    pub rows : ℕ
    pub table : check_of ws ≡ counted rows
    pub fits : n * found_length ≤ room

  pub answer-passed : (n : ℕ) → capture_of ws ps room ≡ counted n → Passed n
  unfolding capture_of
  answer-passed n = go (check_packets ps) (check_of ws) refl refl
    where
      go : (x y : Result ℕ Refusal) → check_packets ps ≡ x → check_of ws ≡ y → by_tests x y room ≡ counted n → Passed n
      go (Err f) y p q e = let z : ◌≡◌ {A = ℕ} 0 1 = cc in absurd (omega arith)
      go (Ok m) (Err f) p q e = let z : ◌≡◌ {A = ℕ} 0 1 = cc in absurd (omega arith)
      go (Ok m) (Ok k) p q e = by_le (m * found_length) room
          (λ h.
          let e' : counted m ≡ counted n = rw (le-leb (m * found_length) room h) at e in
          let same : m ≡ n = cc in
          record { packets = p ∙ ap counted same; rows = k; table = q; fits = omega (arith, same) })
          (λ h.
          let e' : ◌≡◌ {A = Result ℕ Refusal} (Err (refusal_at ShortAnswers 0)) (counted n) = rw (lt-leb (m * found_length) room h) at e in
          let z : ◌≡◌ {A = ℕ} 0 1 = cc in
          absurd (omega arith))

module _ (ws ps old : List ℕ) where
  -- a refusal leaves every word
  pub stays : {f : Refusal} → capture_of ws ps (length old) ≡ Err f → answers_after ws ps old ≡ old
  unfolding answers_after
  stays e = ap (answers_by ws ps old) e

  -- what is found, where it fits, stands at the start of the buffer
  pub stored : {n : ℕ} → capture_of ws ps (length old) ≡ counted n → answers_after ws ps old ≡ laid 0 (captured_words ws ps) old
  unfolding answers_after
  stored {n} e =
      let p = answer-passed ws ps (length old) n e in
      let fits : length (captured_words ws ps) ≤ length old = omega (arith, p.fits, captured-long ws ps, (passes ps n p.packets).count) in
      ap (answers_by ws ps old) e ∙ sym (laid-front (captured_words ws ps) old (length (captured_words ws ps)) refl fits)
