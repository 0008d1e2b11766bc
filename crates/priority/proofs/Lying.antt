-- Levels and rows where they lie, as words or as bytes: a level by its word, the search among them, and the words of a part of a buffer. Assumes nothing.
use Prim.Native.Nat.{ℕ, ◌*◌, ◌≤◌, ◌<◌}
use native.Mathlib.Omega.{arith}
use mathlib.Core.Path.{◌≡◌, refl, sym, ap, ap₂, ◌∙◌}
use mathlib.Core.Bool.{Bool}
use mathlib.Core.List.{List, [], ◌∷◌, ◌++◌, map}
use lib.Dec.{eqb}
use lib.ListN.{length, get_or, take, drop, length-map, get_or-map}
use lib.Seq.{length-take-le, drop_at}
use Rattle.std.specs.List.{position, zip}
use Rattle.std.specs.Option.{unwrap_or}
use Rattle.std.proofs.lemmas.List.{get_or_default, take-map, take-append-drop}
use Rattle.words.specs.Records.{records}
use Rattle.words.proofs.RecordLaws.{length-records}
use Rattle.theory.specs.Number.{first_of_level, step_back}
use Rattle.flow.specs.declared.Match.{Match}
use Rattle.table.specs.Table.{row_count, past}
use Rattle.table.proofs.Lying.{position-map}
use Rattle.priority.specs.Numbering.{over}
use Rattle.priority.proofs.Seeking.{first-position, pair-test, step-position}
use Rattle.row.specs.Row.{row_length, rows_in}

-- levels beside their rows where they lie, and the test of both
module _ {W R : Type 0} (word : W → ℕ) (words_of : R → List ℕ) where
  abbrev both : W × R → ℕ × List ℕ
  both p = (word p.0, words_of p.1)

  abbrev pub lying-test : Match → ℕ → W × R → Bool
  lying-test m l p = pair-test m l (both p)

  zip-map : (xs : List W) (ys : List R) → zip (map word xs) (map words_of ys) ≡ map both (zip xs ys)
  zip-map [] ys = refl
  zip-map (x ∷ xs) [] = refl
  zip-map (x ∷ xs) (y ∷ ys) = ap (λ ps. (word x, words_of y) ∷ ps) (zip-map xs ys)

-- words where they lie
module _ {W : Type 0} (word : W → ℕ) (ls : List ℕ) (lying : List W) (e : map word lying ≡ ls) where
  pub lying-many : length lying ≡ length ls
  lying-many = sym (length-map lying word) ∙ ap length e

  -- the word at a place
  pub lying-word : (i : ℕ) (w : W) → i < length lying → w ≡ get_or lying i w → word w ≡ get_or ls i 0
  lying-word i w h same =
      ap word same
      ∙ sym (get_or-map word lying i w)
      ∙ get_or_default (map word lying) i (word w) 0 (omega (arith, length-map lying word))
      ∙ ap (λ k. get_or k i 0) e

  -- the first of a level
  pub lying-level : (l : ℕ) → unwrap_or (position (λ w. eqb (word w) l) lying) (length lying) ≡ first_of_level ls l
  lying-level l =
      ap₂ unwrap_or (sym (position-map word (λ x. eqb x l) lying) ∙ ap (position (λ x. eqb x l)) e) lying-many
      ∙ first-position 0 (λ x. eqb x l) ls

  -- the first among the levels and rows before a row, as a step back searches them
  pub lying-step : {R : Type 0} (words_of : R → List ℕ) (ws : List ℕ) (rows : List R) (i l : ℕ) (m : Match)
      → m ≡ (get_or (rows_in ws) i past).matching → map words_of rows ≡ records (row_count ws) row_length ws → i ≤ length ls
      → length ls ≡ row_count ws
      → unwrap_or (position (lying-test word words_of m l) (zip (take i lying) (take i rows))) i ≡ step_back (over ws) ls i l
  lying-step {R} words_of ws rows i l m s d h n =
      let beside : List (W × R) = zip (take i lying) (take i rows) in
      let pairs : zip (take i ls) (take i (map words_of rows)) ≡ map (both word words_of) beside =
      ap (λ k. zip (take i k) (take i (map words_of rows))) (sym e)
      ∙ ap₂ zip (take-map word i lying) (take-map words_of i rows)
      ∙ zip-map word words_of (take i lying) (take i rows) in
      ap (λ o. unwrap_or o i) (sym (position-map (both word words_of) (pair-test m l) beside) ∙ ap (position (pair-test m l)) (sym pairs))
      ∙ step-position ws ls (map words_of rows) i l m s d h
      (omega (arith, n, length-map rows words_of, ap length d, length-records (row_count ws) row_length ws))

-- the words of a part that is whole words, and of what stands behind it
module _ {U : Type 0} (words : List U → List ℕ) (size : ℕ)
    (first : (n : ℕ) (l : List U) → n * size ≤ length l → words (take (n * size) l) ≡ take n (words l))
    (joined : (n : ℕ) (l m : List U) → length l ≡ n * size → words (l ++ m) ≡ words l ++ words m) (n : ℕ) (l : List U) (h : n * size ≤ length l) where
  pub part-joined : (part : List U) → length part ≡ n * size → n ≤ length (words l)
      → words (part ++ drop (n * size) l) ≡ words part ++ drop n (words l)
  part-joined part e k =
      let behind : List U = drop (n * size) l in
      let front : List U = take (n * size) l in
      let whole : words l ≡ take n (words l) ++ words behind =
      ap words (sym (take-append-drop (n * size) l)) ∙ joined n front behind (length-take-le (n * size) l h) ∙ ap (λ x. x ++ words behind) (first n l h) in
      joined n part behind e
      ∙ ap (λ x. words part ++ x) (sym (ap (drop n) whole ∙ drop_at (take n (words l)) (words behind) n (length-take-le n (words l) k)))
