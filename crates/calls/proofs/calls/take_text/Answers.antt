-- The bytes that were read, and those behind them up to a whole word.
use Rattle.std.proofs.Common.{◌≡◌, ◌≤◌, ◌∙◌, ap, Some, None, ℕ, List, length, replicate, arith, Option, option_map, length-take-le, take_at}
use Rattle.words.specs.Bytes.{word_bytes}
use Rattle.calls.specs.Sent.{padding}
use Rattle.calls.specs.Taken.{found, then_in, bytes_in, count_in, text_in}
use Rattle.calls.proofs.Takes.{takes_none, takes_then, takes_found}
use Rattle.calls.proofs.calls.take_text.Goals as goal

-- what is found behind the bytes, and behind the count
abbrev last : ℕ → List ℕ → List ℕ → Option (List ℕ) × List ℕ
last n text behind = found (λ pad. text) (bytes_in (padding n) behind)

abbrev behind : ℕ → List ℕ → Option (List ℕ) × List ℕ
behind n rest = then_in (bytes_in n rest) (last n)

pub returns-in_err-take_full-clause-taken : goal.returns-in_err-take_full-clause-taken
unfolding text_in
returns-in_err-take_full-clause-taken g c =
    let n = c.in_ok-count.count in
    let within : n ≤ length c.args.bytes.now = omega (arith, c.requires, c.in_ok-count.ensures.within) in
    let e : length c.take_full.new.buf ≡ n = omega (arith, c.take_full.auto.buf, length-take-le n c.args.bytes.now within) in
    takes_then g.R.Read.remaining (count_in c.args.most) behind _ _ _ n _ c.in_ok-count.ensures.taken
    (takes_none g.R.Read.remaining (bytes_in n) (last n) _ _ _ (ap (option_map _) c.from_residual-in_err-take_full.ensures)
    (rw e at c.in_err-take_full.ensures))

pub returns-in_err-take_full-2-clause-taken : goal.returns-in_err-take_full-2-clause-taken
unfolding text_in
returns-in_err-take_full-2-clause-taken g c =
    let n = c.in_ok-count.count in
    let text = c.take_full.new.buf in
    let within : n ≤ length c.args.bytes.now = omega (arith, c.requires, c.in_ok-count.ensures.within) in
    let e : length text ≡ n = omega (arith, c.take_full.auto.buf, length-take-le n c.args.bytes.now within) in
    let f : length c.take_full-2.new.buf ≡ padding n =
    c.take_full-2.auto.buf ∙ length-take-le c.padding.result (replicate word_bytes 0) (omega (arith, c.padding.ensures)) ∙ c.padding.ensures in
    takes_then g.R.Read.remaining (count_in c.args.most) behind _ _ _ n _ c.in_ok-count.ensures.taken
    (takes_then g.R.Read.remaining (bytes_in n) (last n) _ _ _ text _ (rw e at c.in_ok-take_full.ensures)
    (takes_found g.R.Read.remaining (bytes_in (padding n)) (λ pad. text) _ _ None _ (ap (option_map _) c.from_residual-in_err-take_full-2.ensures)
    (rw f at c.in_err-take_full-2.ensures)))

pub returns-clause-taken : goal.returns-clause-taken
unfolding text_in
returns-clause-taken g c =
    let n = c.in_ok-count.count in
    let text = c.take_full.new.buf in
    let within : n ≤ length c.args.bytes.now = omega (arith, c.requires, c.in_ok-count.ensures.within) in
    let e : length text ≡ n = omega (arith, c.take_full.auto.buf, length-take-le n c.args.bytes.now within) in
    let f : length c.take_full-2.new.buf ≡ padding n =
    c.take_full-2.auto.buf ∙ length-take-le c.padding.result (replicate word_bytes 0) (omega (arith, c.padding.ensures)) ∙ c.padding.ensures in
    takes_then g.R.Read.remaining (count_in c.args.most) behind _ _ _ n _ c.in_ok-count.ensures.taken
    (takes_then g.R.Read.remaining (bytes_in n) (last n) _ _ _ text _ (rw e at c.in_ok-take_full.ensures)
    (takes_found g.R.Read.remaining (bytes_in (padding n)) (λ pad. text) _ _ (Some c.take_full-2.new.buf) _ (ap Some (take_at text _ n e))
    (rw f at c.in_ok-take_full-2.ensures)))
