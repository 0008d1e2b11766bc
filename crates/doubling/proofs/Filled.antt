-- What the two copies make of a blank buffer: the file of k atoms. Assumes nothing.
use Rattle.std.proofs.Common.{◌≡◌, refl, sym, ap, ◌∙◌, arith, List, ◌++◌, append_assoc, ℕ, ◌+◌, ◌*◌, ◌≤◌, length, take, drop}
use Rattle.std.proofs.Math.Seq.{take-append-add}
use Rattle.std.proofs.lemmas.List.{length-append, length-replicate, take-replicate, drop-replicate}
use Rattle.words.specs.Words.{zeros, copied}
use Rattle.words.proofs.Laid.{copied-fits, laid-is, laid-front}
use Rattle.doubling.specs.Doubling.{before, behind, file}

length_begun : (k n : ℕ) → length (before k ++ zeros n) ≡ 11 + n
length_begun k n = length-append (before k) (zeros n) ∙ ap (λ i. 11 + i) (length-replicate {A = ℕ} n 0)

start_copied : (k : ℕ) → copied 0 (before k) (zeros 160) ≡ before k ++ zeros 149
start_copied k =
    copied-fits 0 (before k) (zeros 160) (rw (length-replicate {A = ℕ} 160 0) (omega arith))
    ∙ laid-front (before k) (zeros 160) 11 refl (rw (length-replicate {A = ℕ} 160 0) (omega arith))
    ∙ ap (λ l. before k ++ l) (drop-replicate 11 160 0)

pub filled : (k : ℕ) → k ≤ 13 → take (11 + 11 * k + 6) (copied (11 + 11 * k) (behind k) (copied 0 (before k) (zeros 160))) ≡ file k
unfolding file
filled k h =
    let m : List ℕ = before k ++ zeros 149 in
    let a : ℕ = 11 + 11 * k in
    let front : List ℕ = before k ++ zeros (11 * k) in
    let rest : List ℕ = drop (a + 6) m in
    let long : a + 6 ≤ length m = omega (arith, length_begun k 149) in
    let part : take a m ≡ front = take-append-add (before k) (zeros 149) (11 * k) ∙ ap (λ l. before k ++ l) (take-replicate (11 * k) 149 0 (omega arith)) in
    let size : length front ≡ a = length_begun k (11 * k) in
    ap (λ l. take (a + 6) (copied a (behind k) l)) (start_copied k)
    ∙ ap (take (a + 6)) (copied-fits a (behind k) m long ∙ laid-is a (behind k) m long ∙ ap (λ l. l ++ (behind k ++ rest)) part)
    ∙ ap (λ i. take (i + 6) (front ++ (behind k ++ rest))) (sym size)
    ∙ take-append-add front (behind k ++ rest) 6
    ∙ append_assoc (before k) (zeros (11 * k)) (behind k)
