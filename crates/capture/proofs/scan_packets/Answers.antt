-- The packets that are left at the start; at each turn what is found for one is stored behind what was found before.
use Rattle.std.proofs.Common.{refl, sym, ap, ◌∙◌, map, map-id, length, inl, arith}
use Rattle.words.specs.Records.{rows_of}
use Rattle.words.proofs.Laid.{length-laid}
use Rattle.row.specs.Row.{row_of}
use Rattle.table.specs.Scan.{found}
use Rattle.table.proofs.Lying.{rows-count}
use Rattle.capture.specs.Capture.{found_words, captured_words}
use Rattle.capture.specs.Left.{packets_left}
use Rattle.capture.proofs.Turns.{length-packets, found-put, found-stored, all-stored}
use Rattle.capture.proofs.scan_packets.Goals as goal

pub loop-i-init : goal.loop-i-init
unfolding captured_words
loop-i-init c =
    let none = ap (λ s. s.count) c.into_iter-i-iterator.ensures.into_iter_gives ∙ c.enumerate-i-items.ensures.count in
    let all =
    ap (λ s. packets_left s.iter) c.into_iter-i-iterator.ensures.into_iter_gives ∙ ap packets_left c.enumerate-i-items.ensures.source ∙ c.of.ensures in
    record { rest = rw (none, all) refl; all = rw (none, all) (omega (arith, length-packets c.args.packets.now)); long = refl }

pub loop-i-init-derived : goal.loop-i-init-derived
loop-i-init-derived c =
    let none = ap (λ s. s.count) c.into_iter-i-iterator.ensures.into_iter_gives ∙ c.enumerate-i-items.ensures.count in
    let all =
    ap (λ s. length (packets_left s.iter)) c.into_iter-i-iterator.ensures.into_iter_gives
    ∙ ap (λ s. length (packets_left s)) c.enumerate-i-items.ensures.source
    ∙ ap length c.of.ensures in
    ((tt, tt, inl (rw (none, all) (omega (arith, length-packets c.args.packets.now)))), tt)

pub loop-i-preserved : goal.loop-i-preserved
unfolding rows_of
loop-i-preserved c =
    let k = c.loop-i.invariant in
    let steps = c.in-Some.ensures.steps in
    let count = ap length steps.0 in
    let same = sym (map-id c.rows-rows.result.now) ∙ c.rows-rows.ensures in
    let found =
    c.copy_from_slice.ensures.after
    ∙ c.find-found.ensures
    ∙ ap (λ rs. found_words (found 0 (map row_of rs) c.in-Some.packet)) same in
    let put = found-put c.args.table.units.now c.in-Some.packet _ _ _ _ steps.1 found (omega (arith, k.all, k.long, count, c.requires)) in
    record {
      rest = found-stored c.args.table.units.now c.in-Some.packet _ _ _ _ _ _ _ k.rest steps.0 steps.2 put;
      all = omega (arith, k.all, count, steps.2);
      long = ap length put ∙ length-laid _ _ _ ∙ k.long;
    }

pub find-found-requires : goal.find-found-requires
find-found-requires c =
    omega (arith, rows-count (λ r. r) c.args.table.units.now c.rows-rows.result.now c.rows-rows.ensures, c.args.table.right.few)

pub returns : goal.returns
returns c = all-stored _ _ _ _ _ c.loop-i.invariant.rest c.in-None.ensures.steps.0.0
