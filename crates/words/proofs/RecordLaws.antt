-- Records that stand k words apart: how many there are, and rows against their words. Assumes nothing.
use Prim.Native.Nat.{ℕ, zero, suc, ◌+◌, ◌*◌, ◌/◌, ◌≤◌, ◌<◌}
use native.Mathlib.Omega.{arith}
use native.Mathlib.Numerals.{add-one}
use native.Mathlib.Nat.{add-div_right, div-eq_of_lt}
use mathlib.Core.Path.{◌≡◌, refl, sym, ap, ap₂, ◌∙◌}
use mathlib.Core.List.{List, [], ◌∷◌, ◌++◌, append_assoc, map}
use lib.ListN.{length, get_or, take, drop, length-append, length-drop}
use lib.Seq.{drop-drop, take_at, drop_at, take-add, length-take-le}
use Rattle.words.specs.Records.{records, rows_of, flat}

-- there are as many as were asked for
pub length-records : (n k : ℕ) (f : List ℕ) → length (records n k f) ≡ n
length-records zero k f = refl
length-records (suc n) k f = ap suc (length-records n k (drop k f))

-- record i
pub records-at : (n k i : ℕ) (ws : List ℕ) → i < n → get_or (records n k ws) i [] ≡ take k (drop (i * k) ws)
records-at zero k i ws h = absurd (omega arith)
records-at (suc n) k zero ws h = let e : zero * k ≡ 0 = omega arith in rw e
records-at (suc n) k (suc i) ws h =
    let e : suc i * k ≡ k + i * k = omega arith in
    records-at n k i (drop k ws) (omega arith) ∙ rw (e, drop-drop (i * k) k ws)

pub flat_append : {R : Type 0} → (words : R → List ℕ) (N N' : List R) → flat words (N ++ N') ≡ flat words N ++ flat words N'
flat_append words [] N' = refl
flat_append words (r ∷ N) N' = ap (λ l. words r ++ l) (flat_append words N N') ∙ sym (append_assoc (words r) (flat words N) (flat words N'))

module _ {R : Type 0} (k : ℕ) (read : List ℕ → R) (pos : 0 < k) where
  -- the first row, and those behind it
  pub rows_more : (ws : List ℕ) → k ≤ length ws → rows_of k read ws ≡ read (take k ws) ∷ rows_of k read (drop k ws)
  unfolding rows_of
  rows_more ws h =
      let e : length ws / k ≡ suc (length (drop k ws) / k) =
      ap (λ n. n / k) (let q : length ws ≡ length (drop k ws) + k = rw length-drop (omega arith) in q) ∙ add-div_right (length (drop k ws)) pos ∙ add-one
      (length (drop k ws) / k) in
      ap (λ n. map read (records n k ws)) e

  pub rows_none : (ws : List ℕ) → length ws < k → rows_of k read ws ≡ []
  unfolding rows_of
  rows_none ws h = ap (λ n. map read (records n k ws)) (div-eq_of_lt h)

  -- the first c rows, and those behind them
  pub rows_drop : (c : ℕ) (ws : List ℕ) → c * k ≤ length ws → rows_of k read (drop (c * k) ws) ≡ drop c (rows_of k read ws)
  rows_drop zero ws h = let q : zero * k ≡ 0 = omega arith in rw q refl
  rows_drop (suc c) ws h =
      let q : suc c * k ≡ k + c * k = omega arith in
      let g : c * k ≤ length (drop k ws) = rw length-drop (omega arith) in
      ap (λ n. rows_of k read (drop n ws)) q
      ∙ ap (rows_of k read) (sym (drop-drop (c * k) k ws))
      ∙ rows_drop c (drop k ws) g
      ∙ ap (drop (suc c)) (sym (rows_more ws (omega arith)))

  pub rows_take : (c : ℕ) (ws : List ℕ) → c * k ≤ length ws → rows_of k read (take (c * k) ws) ≡ take c (rows_of k read ws)
  rows_take zero ws h = let q : zero * k ≡ 0 = omega arith in rw q (rows_none [] pos)
  rows_take (suc c) ws h =
      let q : suc c * k ≡ k + c * k = omega arith in
      let g : c * k ≤ length (drop k ws) = rw length-drop (omega arith) in
      let f : length (take k ws) ≡ k = length-take-le k ws (omega arith) in
      ap (λ n. rows_of k read (take n ws)) q
      ∙ ap (rows_of k read) (take-add k (c * k) ws)
      ∙ rows_more (take k ws ++ take (c * k) (drop k ws)) (rw length-append (omega arith))
      ∙ ap₂ (λ x l. read x ∷ rows_of k read l) (take_at (take k ws) (take (c * k) (drop k ws)) k f) (drop_at (take k ws) (take (c * k) (drop k ws)) k f)
      ∙ ap (λ l. read (take k ws) ∷ l) (rows_take c (drop k ws) g)
      ∙ ap (take (suc c)) (sym (rows_more ws (omega arith)))

  module _ (words : R → List ℕ) (long : (r : R) → length (words r) ≡ k) (back : (r : R) → read (words r) ≡ r) where
    -- the rows of the words of rows are those rows
    pub rows-flat : (N : List R) → rows_of k read (flat words N) ≡ N
    rows-flat [] = rows_none [] pos
    rows-flat (r ∷ N) =
        rows_more (words r ++ flat words N) (rw (length-append, long) (omega arith))
        ∙ ap₂ (λ x l. read x ∷ rows_of k read l) (take_at (words r) (flat words N) k (long r)) (drop_at (words r) (flat words N) k (long r))
        ∙ ap₂ (λ x l. x ∷ l) (back r) (rows-flat N)

-- the words of rows that have k words each: how many they are, and those of row i
module _ {R : Type 0} (k : ℕ) (words : R → List ℕ) (long : (r : R) → length (words r) ≡ k) where
  pub length-flat : (N : List R) → length (flat words N) ≡ length N * k
  length-flat [] = omega arith
  length-flat (r ∷ N) = length-append (words r) (flat words N) ∙ rw (long, length-flat N) (omega arith)

  pub flat-at : (N : List R) (d : R) (i : ℕ) → i < length N → take k (drop (i * k) (flat words N)) ≡ words (get_or N i d)
  flat-at [] d i h = absurd (omega arith)
  flat-at (r ∷ N) d zero h = let e : zero * k ≡ 0 = omega arith in rw e (take_at (words r) (flat words N) k (long r))
  flat-at (r ∷ N) d (suc i) h =
      let e : suc i * k ≡ k + i * k = omega arith in
      ap (λ n. take k (drop n (words r ++ flat words N))) e
      ∙ ap (take k) (sym (drop-drop (i * k) k (words r ++ flat words N)))
      ∙ ap (λ l. take k (drop (i * k) l)) (drop_at (words r) (flat words N) k (long r))
      ∙ flat-at N d i (omega arith)
