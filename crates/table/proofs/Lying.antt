-- Rows where they lie, as words or as bytes: as many as the words are rows, and each by its words. Assumes nothing.
use Prim.Native.Nat.{ℕ, zero, suc, ◌+◌, ◌/◌, ◌%◌, ◌≤◌, ◌<◌}
use native.Mathlib.Omega.{arith}
use mathlib.Core.Path.{◌≡◌, refl, sym, ap, ◌∙◌}
use mathlib.Core.Bool.{Bool, false, not, cond, ◌&&◌}
use mathlib.Core.List.{List, [], ◌∷◌, map}
use lib.Dec.{ltb}
use lib.ListN.{length, get_or, length-map, get_or-map}
use borrow.Author.Tests.{ltb-false, not-false}
use Rattle.std.specs.Prelude.{Option, Some, None, Result, Ok, Err, ◌==◌, nat_le}
use Rattle.std.specs.List.{position, position_or_len}
use Rattle.std.proofs.lemmas.List.{get_or_default, get_or_past}
use Rattle.std.proofs.lemmas.Simd.{map-map}
use Rattle.std.proofs.lemmas.List.Quantifiers.{position-Some}
use Rattle.logic.proofs.Tests.{by-test}
use Rattle.words.specs.Records.{records, rows_of}
use Rattle.words.proofs.RecordLaws.{length-records}
use Rattle.flow.specs.Match.{match_of}
use Rattle.refusal.specs.Refusals.{refusal_at}
use Rattle.refusal.specs.declared.Reason.{Reason}
use Rattle.refusal.specs.declared.Refusal.{Refusal}
use Rattle.row.specs.Row.{row_length, most_rows, row_of, rows_in}
use Rattle.table.specs.Table.{row_count, past, right_length, first_wrong}
use Rattle.table.proofs.Tables.{match-read, check-counts, check-names}

-- where the search for one that passes finds none, none does
module _ {A : Type 0} (test : A → Bool) where
  unmet : (d : A) (xs : List A) → length xs ≤ position_or_len test xs → (j : ℕ) → j < length xs → test (get_or xs j d) ≡ false
  unmet d [] h j l = absurd (omega arith)
  unmet d (x ∷ xs) h zero l = by-test (test x) (λ t. let h' : suc (length xs) ≤ 0 = rw t at h in absurd (omega (arith, h'))) (λ t. t)
  unmet d (x ∷ xs) h (suc j) l =
      by-test (test x)
      (λ t. let h' : suc (length xs) ≤ 0 = rw t at h in absurd (omega (arith, h')))
      (λ t. let h' : suc (length xs) ≤ 1 + position_or_len test xs = rw t at h in unmet d xs (omega (arith, h')) j (omega (arith, l)))

  pub position-none : (d : A) (xs : List A) → position test xs ≡ None → (j : ℕ) → j < length xs → test (get_or xs j d) ≡ false
  position-none d xs e = by-test (ltb (position_or_len test xs) (length xs))
      (λ t. let z : ◌≡◌ {A = Option ℕ} (Some (position_or_len test xs)) None = rw t at e in cc)
      (λ t. unmet d xs (ltb-false (position_or_len test xs) (length xs) t))

-- what is found first by what each is read as
module _ {A B : Type 0} (f : A → B) (test : B → Bool) where
  prefix-map : (xs : List A) → position_or_len test (map f xs) ≡ position_or_len (λ x. test (f x)) xs
  prefix-map [] = refl
  prefix-map (x ∷ xs) = ap (λ n. cond (not (test (f x))) (1 + n) 0) (prefix-map xs)

  pub position-map : (xs : List A) → position test (map f xs) ≡ position (λ x. test (f x)) xs
  position-map xs = rw (prefix-map xs, length-map xs f) refl

-- the words of the row at a place
pub lying-at : {R : Type 0} (f : R → List ℕ) (rows : List R) (i : ℕ) (r : R) → i < length rows → r ≡ get_or rows i r → f r ≡ get_or (map f rows) i []
lying-at f rows i r h same =
    ap f same ∙ sym (get_or-map f rows i r) ∙ get_or_default (map f rows) i (f r) [] (omega (arith, length-map rows f))

-- how many words there are where they lie
module _ {W : Type 0} (f : W → ℕ) (ws : List ℕ) (lying : List W) (e : map f lying ≡ ws) where
  abbrev n : ℕ
  n = length lying

  pub right-many : (n % row_length == 0 && nat_le (n / row_length) most_rows) ≡ right_length ws
  unfolding right_length
  right-many = let same : n ≡ length ws = sym (length-map lying f) ∙ ap length e in rw same refl

-- where the rows lie in what is lent, read as these words
module _ {R : Type 0} (f : R → List ℕ) (ws : List ℕ) (rows : List R) (e : map f rows ≡ records (row_count ws) row_length ws) where
  pub rows-count : length rows ≡ row_count ws
  rows-count = sym (length-map rows f) ∙ ap length e ∙ length-records (row_count ws) row_length ws

  pub rows-are : map (λ r. row_of (f r)) rows ≡ rows_in ws
  unfolding rows_of
  rows-are = sym (map-map row_of f rows) ∙ ap (map row_of) e

  -- the match of the row at a place, as it is read
  pub lying-match : (i : ℕ) (r : R) → i < length rows → r ≡ get_or rows i r → match_of (f r) ≡ (get_or (rows_in ws) i past).matching
  lying-match i r h same = match-read ws (map f rows) i (f r) e (lying-at f rows i r h same)

  pub past-match : (i : ℕ) → length rows ≤ i → match_of [] ≡ (get_or (rows_in ws) i past).matching
  past-match i h = match-read ws (map f rows) i [] e (sym (get_or_past (map f rows) i [] (omega (arith, length-map rows f))))

-- the first wrong one of some records, as the search for it finds it
module _ {R : Type 0} (f : R → List ℕ) (right : List ℕ → Bool) (why : Reason) (rows : List R) where
  abbrev wrong : List ℕ → Bool
  wrong r = not (right r)

  abbrev found : ℕ → Result ℕ Refusal
  found i = Err (refusal_at why i)

  abbrev counted : ℕ → Result ℕ Refusal
  counted n = Ok n

  pub wrong-first : (i : ℕ) → position (λ r. wrong (f r)) rows ≡ Some i → Err (refusal_at why i) ≡ first_wrong right why 0 (map f rows)
  wrong-first i e =
      let p = position-Some wrong (map f rows) i [] (position-map f wrong rows ∙ e) in
      let z : 0 + i ≡ i = omega arith in
      sym (check-names right why 0 i (map f rows) (record { within = p.0; passes = p.1; skips = p.2 }) ∙ ap found z)

  pub wrong-none : position (λ r. wrong (f r)) rows ≡ None → Ok (length rows) ≡ first_wrong right why 0 (map f rows)
  wrong-none e =
      let each = position-none wrong [] (map f rows) (position-map f wrong rows ∙ e) in
      let z : 0 + length (map f rows) ≡ length rows = omega (arith, length-map rows f) in
      sym (check-counts right why 0 (map f rows) (λ j h. not-false (right (get_or (map f rows) j [])) (each j h)) ∙ ap counted z)
