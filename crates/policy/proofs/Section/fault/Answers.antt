-- Where the count passes and the whole section is there, its records are looked at.
use Rattle.std.proofs.Common.{◌∙◌, sym}
use Rattle.policy.proofs.Records.{section-records}
use Rattle.policy.proofs.Section.fault.Goals as goal

pub returns : goal.returns
returns c =
    c.records_fault.ensures
    ∙ section-records c.args.file.now c.args.at c.args.self _ _ c.word.ensures c.behind-end.ensures
    (sym c.count_fault.ensures ∙ c.in_ok-count_fault.was) (sym c.unless.ensures ∙ c.in_ok-unless.was)
