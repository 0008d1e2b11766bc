-- Records of one length that stand one behind the other in a list of words, and the rows that they are.
use Rattle.std.specs.Prelude.{ℕ, zero, suc, ◌/◌, List, [], ◌∷◌, ◌++◌, map, length, take, drop}

-- the first n records of k words each
abbrev pub records : ℕ → ℕ → List ℕ → List (List ℕ)
records zero k ws = []
records (suc n) k ws = take k ws ∷ records n k (drop k ws)

-- all the rows of k words that a list of words holds
unfoldable pub rows_of : {R : Type 0} → ℕ → (List ℕ → R) → List ℕ → List R
rows_of k read ws = map read (records (length ws / k) k ws)

-- the words of rows, one row behind the other
abbrev pub flat : {R : Type 0} → (R → List ℕ) → List R → List ℕ
flat words [] = []
flat words (r ∷ N) = words r ++ flat words N
