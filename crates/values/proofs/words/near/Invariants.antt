-- The words are the same before the place, so that what is left decides.
use Rattle.std.proofs.Common.{◌≡◌, drop}
use Rattle.values.specs.Words.{near}
use Rattle.values.proofs.words.near.Given as goal

abbrev pub invariant-loop-place : goal.invariant-loop-place
invariant-loop-place l = near (drop l.place l.word) (drop l.place l.other) ≡ near l.word l.other
