-- A turn of the loop is one record, whatever the section.
use Rattle.std.proofs.Common.{◌≡◌, ◌+◌, ◌*◌, ◌∙◌, arith}
use Rattle.std.proofs.lemmas.Result.{err_from_is_err_and}
use Rattle.words.proofs.Chunks.{started, numbered}
use Rattle.policy.specs.Sections.{record_fault}
use Rattle.policy.proofs.Each.{hit, miss}
use Rattle.policy.proofs.Lengths.{record-some}
use Rattle.policy.proofs.sections.Piece.records_fault.Goals as goal

pub loop-i-init : goal.loop-i-init
loop-i-init c =
    let s = started c.record_words-step.result c.args.self.words.now _ _ _ c.chunks_exact.ensures.rest c.chunks_exact.ensures.size
    c.enumerate-i-items.ensures.source c.enumerate-i-items.ensures.count c.into_iter-i-iterator.ensures.into_iter_gives in
    let z : c.args.self.at + c.record_words-step.result * 0 ≡ c.args.self.at = omega arith in
    record { going = s.going; same = rw (s.none, s.left, z) }

pub loop-i-preserved : goal.loop-i-preserved
loop-i-preserved c =
    let k = c.record_words-step.result in
    let n = numbered k c.args.self.words.now c.loop-i.i-iterator c.next.new.self _ c.in-Some.words (record-some _ _ c.record_words-step.ensures)
    c.loop-i.invariant.going c.in-Some.ensures.steps in
    let z : c.args.self.at + k * (c.loop-i.i-iterator.count + 1) ≡ c.args.self.at + k * c.loop-i.i-iterator.count + k = omega arith in
    record {
      going = n.going;
      same = rw (n.next, z)
          (miss (record_fault c.args.section) _ k c.loop-i.invariant.same n.more (c.record_fault.ensures ∙ rw n.number) c.in_ok-record_fault.was);
    }

pub returns-in_err-record_fault : goal.returns-in_err-record_fault
returns-in_err-record_fault c =
    let k = c.record_words-step.result in
    let n = numbered k c.args.self.words.now c.loop-i.i-iterator c.next.new.self _ c.in-Some.words (record-some _ _ c.record_words-step.ensures)
    c.loop-i.invariant.going c.in-Some.ensures.steps in
    let p = err_from_is_err_and c.from_residual.result c.from_residual.ensures.1 in
    rw (p.1, p.2, ← c.in_err-record_fault.was, ← c.record_words-step.ensures)
    (hit (record_fault c.args.section) _ k c.loop-i.invariant.same n.more (c.record_fault.ensures ∙ rw n.number) c.in_err-record_fault.was)
