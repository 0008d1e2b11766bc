-- The zeros are the first of a word's.
use Rattle.std.proofs.Common.{ℕ, ◌≡◌, replicate, take, arith, ap, ◌∙◌}
use Rattle.std.proofs.lemmas.List.{take-replicate}
use Rattle.words.specs.Bytes.{word_bytes}
use Rattle.calls.specs.Sent.{padding}
use Rattle.calls.proofs.put.put_padding.Goals as goal

pub returns : goal.returns
returns g c =
    let n = padding c.args.bytes in
    let zero : take {A = ℕ} c.padding.result (replicate word_bytes 0) ≡ replicate n 0 =
    ap (λ k. take {A = ℕ} k (replicate word_bytes 0)) c.padding.ensures ∙ take-replicate n word_bytes 0 (omega arith) in
    rw zero at c.put.ensures
