-- What an answer of a capture tells, what is answered, and the order of the refusals. Assumes nothing.
use Prim.Native.Nat.{ℕ, ◌+◌, ◌*◌, ◌%◌, ◌≤◌, ◌<◌}
use native.Mathlib.Omega.{arith}
use mathlib.Core.Path.{◌≡◌, refl, sym, ap, ◌∙◌}
use mathlib.Core.Bool.{true}
use mathlib.Core.List.{List, [], ◌++◌}
use lib.ListN.{length, get_or, take, drop, length-drop, get_or-map}
use Rattle.std.proofs.lemmas.List.{take-append-le, drop-append-le}
use borrow.Author.Tests.{eq-eqb, le-leb}
use Rattle.logic.proofs.Tests.{and_both}
use Rattle.words.specs.Records.{rows_of}
use Rattle.words.proofs.Laid.{length-laid, laid-front, drop-laid}
use Rattle.words.proofs.RecordLaws.{flat-at}
use Rattle.flow.specs.Packet.{packet_length, packet_of, right_packet_words}
use Rattle.refusal.specs.declared.Reason.TheVariants.{WrongPacket}
use Rattle.table.specs.Table.{row_count, RightTable}
use Rattle.table.proofs.Tables.{named, check-exactly, check-counts, check-names}
use Rattle.table.proofs.Scans.{scan-found}
use Rattle.capture.specs.Capture.{found_length, packet_count, packet_at, packets_in, right_capture, check_packets, words_for, captured_words}
use Rattle.capture.specs.Theorems.{CaptureTells, CaptureTaken, LengthFirst, ThenPackets, ThenTable, ThenBuffer, CaptureStays}
use Rattle.capture.proofs.Turns.{length-packets}
use Rattle.capture.proofs.Passed.{counted, captured-long, each, length-each, each_at, passes, packets-refused, table-refused, buffer-refused, all-taken, answer-passed, stays, stored}

-- packet i is read from its words
packet-at : (ps : List ℕ) (i : ℕ) → i < packet_count ps → get_or (packets_in ps) i (packet_of []) ≡ packet_of (packet_at ps i)
unfolding rows_of
packet-at ps i h = get_or-map packet_of (each ps) i [] ∙ ap packet_of (each_at ps i h)

-- what is found for packet i stands at its place
found-at : (ws ps : List ℕ) (i : ℕ) → i < packet_count ps
    → take found_length (drop (i * found_length) (captured_words ws ps)) ≡ words_for ws (packet_of (packet_at ps i))
unfolding captured_words
found-at ws ps i h =
    flat-at found_length (words_for ws) (λ p. refl) (packets_in ps) (packet_of []) i (omega (arith, h, length-packets ps))
    ∙ ap (words_for ws) (packet-at ps i h)

-- a part of words is a part of what they begin with, where it ends in that
front-at : (F R : List ℕ) (at n : ℕ) → at + n ≤ length F → take n (drop at (F ++ R)) ≡ take n (drop at F)
front-at F R at n h =
    ap (take n) (drop-append-le at F R (omega (arith, h))) ∙ take-append-le n (drop at F) R (omega (arith, h, length-drop at F))

-- whole packets that are all right pass
packets-pass : (ps : List ℕ) → right_capture ps ≡ true → ((i : ℕ) → i < packet_count ps → right_packet_words (packet_at ps i) ≡ true)
    → check_packets ps ≡ counted (packet_count ps)
unfolding check_packets
packets-pass ps t f =
    let e : 0 + length (each ps) ≡ packet_count ps = omega (arith, length-each ps) in
    rw t (check-counts right_packet_words WrongPacket 0 (each ps)
    (λ j h. let l : j < packet_count ps = omega (arith, length-each ps) in rw (each_at ps j l) (f j l))
    ∙ ap counted e)

pub capture-tells : CaptureTells
capture-tells ws ps old n e =
    let p = answer-passed ws ps (length old) n e in
    let q = passes ps n p.packets in
    let right : RightTable ws = ((check-exactly ws p.rows).0 p.table).0 in
    let after = stored ws ps old e in
    let long : length (captured_words ws ps) ≡ n * found_length = captured-long ws ps ∙ ap (λ m. m * found_length) (sym q.count) in
    record {
      takes = record { table = right; whole = q.whole; few = q.few; packets = q.packets; fits = p.fits };
      scans = λ i h. scan-found ws (packet_at ps i) right (q.packets i h);
      words = λ i h.
          ap (λ l. take found_length (drop (i * found_length) l)) (after ∙ laid-front (captured_words ws ps) old (n * found_length) long p.fits)
          ∙ front-at (captured_words ws ps) (drop (n * found_length) old) (i * found_length) found_length (omega (arith, h, long))
          ∙ found-at ws ps i (omega (arith, h, q.count));
      rest = ap (drop (n * found_length)) after ∙ drop-laid (captured_words ws ps) old (n * found_length) long p.fits;
      long = ap length after ∙ length-laid 0 (captured_words ws ps) old;
    }

pub capture-taken : CaptureTaken
unfolding right_capture
capture-taken ws ps room n t =
    let count : n ≡ packet_count ps = omega (arith, t.whole) in
    let rest : length ps % packet_length ≡ 0 = omega (arith, t.whole) in
    let few : packet_count ps ≤ 4096 = omega (arith, count, t.few) in
    let right : right_capture ps ≡ true = and_both (eq-eqb _ _ rest) (le-leb _ _ few) in
    let passed = packets-pass ps right (λ i h. t.packets i (omega (arith, count))) in
    all-taken ws ps room passed ((check-exactly ws (row_count ws)).1 (t.table, refl)) (omega (arith, count, t.fits)) ∙ ap counted (sym count)

pub length-first : LengthFirst
unfolding check_packets
length-first ws ps room t = packets-refused ws ps room (rw t refl)

pub then-packets : ThenPackets
unfolding check_packets
then-packets ws ps room i t f =
    let n : length (each ps) ≡ packet_count ps = length-each ps in
    let e : 0 + i ≡ i = omega arith in
    packets-refused ws ps room
    (rw t (check-names right_packet_words WrongPacket 0 i (each ps)
    (record {
      within = omega (arith, f.within, n);
      passes = rw (each_at ps i f.within) f.passes;
      skips = λ j h. rw (each_at ps j (omega (arith, f.within))) (f.skips j h);
    })
    ∙ ap (named WrongPacket) e))

pub then-table : ThenTable
then-table ws ps room f t each e = table-refused ws ps room (packets-pass ps t each) e

pub then-buffer : ThenBuffer
then-buffer ws ps room t each right h = buffer-refused ws ps room (packets-pass ps t each) ((check-exactly ws (row_count ws)).1 (right, refl)) h

pub capture-stays : CaptureStays
capture-stays ws ps old f e = stays ws ps old e
