-- The words of the bytes that were read.
use Rattle.std.proofs.Common.{◌≡◌, ap, Some, None, ℕ, ◌*◌, ◌≤◌, List, length, arith, Option, option_map}
use Rattle.words.specs.Bytes.{word_bytes, words_in}
use Rattle.calls.specs.Sent.{most_words}
use Rattle.calls.specs.Taken.{found, bytes_in, count_in, slice_in}
use Rattle.calls.proofs.Parts.{words_stored}
use Rattle.calls.proofs.Takes.{takes_then, takes_found}
use Rattle.calls.proofs.calls.take_slice.Goals as goal

-- what is found behind a count
abbrev behind : ℕ → List ℕ → Option (List ℕ) × List ℕ
behind n rest = found words_in (bytes_in (word_bytes * n) rest)

pub returns-in_err-take_full-clause-taken : goal.returns-in_err-take_full-clause-taken
unfolding slice_in
returns-in_err-take_full-clause-taken g c =
    let n = c.in_ok-count.count in
    let e : length c.take_full.new.buf ≡ word_bytes * n = omega (arith, c.take_full.auto.buf) in
    takes_then g.R.Read.remaining (count_in most_words) behind _ _ _ n _ c.in_ok-count.ensures.taken
    (takes_found g.R.Read.remaining (bytes_in (word_bytes * n)) words_in _ _ None _ (ap (option_map _) c.from_residual-in_err-take_full.ensures)
    (rw e at c.in_err-take_full.ensures))

pub returns-clause-taken : goal.returns-clause-taken
unfolding slice_in
returns-clause-taken g c =
    let n = c.in_ok-count.count in
    let e : length c.take_full.new.buf ≡ word_bytes * n = omega (arith, c.take_full.auto.buf) in
    let within : n ≤ length c.args.words.now = omega (arith, c.in_ok-count.ensures.within) in
    let w = words_stored c.take_full.new.buf c.args.words.now c.from_bytes.new.out n c.from_bytes.ensures e within in
    takes_then g.R.Read.remaining (count_in most_words) behind _ _ _ n _ c.in_ok-count.ensures.taken
    (takes_found g.R.Read.remaining (bytes_in (word_bytes * n)) words_in _ _ (Some c.take_full.new.buf) _ (ap Some w) (rw e at c.in_ok-take_full.ensures))
