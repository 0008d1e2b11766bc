-- What the moves over a lent buffer leave in it, word by word.
use Rattle.std.specs.Prelude.{ℕ, ◌+◌, ◌-◌, List, ◌++◌, length, take, replicate, if◌then◌else◌, nat_le}
use Rattle.std.proofs.lemmas.List.Edits.{sets}

-- the words F stored one by one in l from the place a on; the other words stay, and so does the length
unfoldable pub laid : ℕ → List ℕ → List ℕ → List ℕ
laid a F l = sets l a F

-- the same if all of F fits; else l
unfoldable pub copied : ℕ → List ℕ → List ℕ → List ℕ
copied a F l = if nat_le (a + length F) (length l) then laid a F l else l

-- so many zeros
abbrev pub zeros : ℕ → List ℕ
zeros n = replicate n 0

-- the words from the place a on are 0, those before it stay
unfoldable pub cleared : ℕ → List ℕ → List ℕ
cleared a l = take a l ++ zeros (length l - a)
