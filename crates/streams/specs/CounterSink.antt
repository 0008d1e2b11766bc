-- What makes a counter a sink.
use Rattle.std.specs.Prelude.{ℕ, List, [], ◌++◌}
use Rattle.std.proofs.Common.{arith}
use Rattle.std.proofs.lemmas.List.{length-append}
use Rattle.streams.specs.Count.{Counts}

-- no bytes
pub counts-none : (n : ℕ) → Counts n [] n
counts-none n = omega arith

-- bytes behind others
pub counts-then : (k m n : ℕ) (xs ys : List ℕ) → Counts k xs m → Counts m ys n → Counts k (xs ++ ys) n
counts-then k m n xs ys p q = omega (arith, p, q, length-append xs ys)
