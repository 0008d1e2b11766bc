-- The words that an iterator over records still has to read.
use Rattle.std.specs.Prelude.{List, ℕ}
use Rattle.words.specs.declared.spelling.Records.{Records}

-- the words of the records that are left
abbrev pub left : {R : Type 0} → Records R → List ℕ
left s = s.words.now
