-- The end of a file: no words stand behind it exactly where its stage is passed. Assumes nothing.
use Rattle.std.proofs.Common.{ℕ, ◌≤◌, arith, ◌≡◌, List, length, Ok}
use Rattle.std.proofs.lemmas.Bool.Decides.{nat_tests}
use Rattle.policy.specs.Read.{extra_fault}

pub passed-extra : (f : List ℕ) (n : ℕ) → length f ≡ n → extra_fault f n ≡ Ok tt
passed-extra f n h = grind (arith, nat_tests)

pub extra-passed : (f : List ℕ) (n : ℕ) → extra_fault f n ≡ Ok tt → length f ≤ n
extra-passed f n h = grind (arith, nat_tests)
