-- Three octets, and behind them the last one and the length.
use Rattle.std.proofs.Common.{ℕ, ◌∙◌, refl, sym, ap, Some, None}
use Rattle.std.specs.Net.Reader.{read_view}
use Rattle.values.specs.Prefixes.{octet_of, length_of}
use Rattle.values.proofs.Cuts.{length-as}
use Rattle.values.proofs.OctetReading.{none-read, some-read}
use Rattle.values.proofs.prefixes.prefix_of.Goals as goal

pub returns-in_default : goal.returns-in_default
returns-in_default c = none-read c.args.word.now (sym c.three_octets.ensures.value ∙ ap (read_view (λ (n : ℕ). n)) c.in_default.is)

pub returns-in_default-octet_of : goal.returns-in_default-octet_of
returns-in_default-octet_of c =
    some-read c.args.word.now c.in-Some.front c.in-Some.rest.now None (length_of c.in-Some.rest.now)
    (sym c.three_octets.ensures.value ∙ ap (read_view (λ (n : ℕ). n)) c.in-Some.is)
    (sym c.in_default-octet_of.is ∙ c.octet_of.ensures.value ∙ ap octet_of c.cut.ensures.before) refl

pub returns-in_default-length_of : goal.returns-in_default-length_of
returns-in_default-length_of c =
    some-read c.args.word.now c.in-Some.front c.in-Some.rest.now (Some c.in-Some-octet_of.last) None
    (sym c.three_octets.ensures.value ∙ ap (read_view (λ (n : ℕ). n)) c.in-Some.is)
    (sym c.in-Some-octet_of.is ∙ c.octet_of.ensures.value ∙ ap octet_of c.cut.ensures.before)
    (sym c.in_default-length_of.is ∙ c.length_of.ensures.value
    ∙ length-as c.in-Some.rest.now c.cut.result.0.now c.cut.result.1.now c.cut.ensures.before c.cut.ensures.behind)

pub returns : goal.returns
returns c =
    c.prefix_from.ensures
    ∙ some-read c.args.word.now c.in-Some.front c.in-Some.rest.now (Some c.in-Some-octet_of.last) (Some c.in-Some-length_of.length)
    (sym c.three_octets.ensures.value ∙ ap (read_view (λ (n : ℕ). n)) c.in-Some.is)
    (sym c.in-Some-octet_of.is ∙ c.octet_of.ensures.value ∙ ap octet_of c.cut.ensures.before)
    (sym c.in-Some-length_of.is ∙ c.length_of.ensures.value
    ∙ length-as c.in-Some.rest.now c.cut.result.0.now c.cut.result.1.now c.cut.ensures.before c.cut.ensures.behind)
