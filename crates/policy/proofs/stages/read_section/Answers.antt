-- A section that passes has a count within its limits, and all of its records.
use Rattle.std.proofs.Common.{◌+◌, refl, sym, ◌∙◌, arith}
use Rattle.policy.proofs.Records.{section-bounds}
use Rattle.policy.proofs.Lengths.{record-some}
use Rattle.words.proofs.Chunks.{whole-range}
use Rattle.policy.specs.Sections.{record_length}
use Rattle.policy.proofs.stages.read_section.Goals as goal

pub slice_bounds-result-end : goal.slice_bounds-result-end
slice_bounds-result-end c =
    let b = section-bounds _ _ _ _ c.fault.ensures c.in_ok-fault.was _ _ refl c.word-count.ensures in
    omega (arith, b, c.behind-end.ensures)

pub returns : goal.returns
returns c =
    let b = section-bounds _ _ _ _ c.fault.ensures c.in_ok-fault.was _ _ refl c.word-count.ensures in
    record {
      good = sym c.fault.ensures ∙ c.in_ok-fault.was;
      count = c.word-count.ensures;
      end = rw c.word-count.ensures at c.behind-end.ensures;
      records = whole-range (record_length c.args.section) c.word-count.result (c.args.at + 1) c.behind-end.result c.args.file.now
          (record-some c.args.section (record_length c.args.section) refl) c.behind-end.ensures (omega (arith, b, c.behind-end.ensures));
      few = b.0;
      within = omega (arith, b, c.behind-end.ensures);
    }
