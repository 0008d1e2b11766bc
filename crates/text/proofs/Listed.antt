-- The listing of an input, by the rows that the compile leaves, and by those of them that stay. Assumes nothing.
use Rattle.std.proofs.Common.{ℕ, ◌*◌, ◌/◌, ◌≤◌, arith, ◌≡◌, refl, sym, ap, ap₂, ◌∙◌, true, List, ◌++◌, length, take, length-append, leb-true, Result, Ok, Err}
use Rattle.std.proofs.Common.{IfOk}
use mathlib.Core.Bool.{and-eq-true_iff}
use Rattle.std.proofs.lemmas.List.{take-append-le}
use Rattle.words.specs.Words.{copied}
use Rattle.words.specs.Bytes.{word_bytes, words_in}
use Rattle.words.proofs.Laid.{copied-fits, length-copied, take-laid}
use Rattle.words.proofs.Bytes.{length-words}
use Rattle.row.specs.Row.{row_length, table_rows}
use Rattle.table.specs.Table.{check_of}
use Rattle.table.proofs.Tables.{rows-within}
use Rattle.hidden.specs.Hidden.{kept_of, table_kept}
use Rattle.hidden.proofs.Laws.{kept-rows}
use Rattle.policy.specs.Numbers.{longest_file}
use Rattle.refusal.specs.declared.Refusal.{Refusal}
use Rattle.compile.specs.Compile.{answer_of, table_after, Compiles}
use Rattle.show.specs.Sheet.{table_text}
use Rattle.text.specs.Listing.{longest_input, right_input, blank, kept_text, shown_text, compiled_text, file_text, listing_of}
use Rattle.text.proofs.Right.{table-right}

-- the words of an input, where it is right
module _ (b : List ℕ) (right : right_input b ≡ true) where
  pub input-fits : length b / word_bytes ≤ longest_file
  unfolding right_input
  input-fits =
      let h = simp and-eq-true_iff at right in
      omega (arith, leb-true (length b) longest_input h.1)

  pub input-words : (l l' : List ℕ) → length l ≡ longest_file → l' ≡ copied 0 (words_in b) l → take (length b / word_bytes) l' ≡ words_in b
  input-words l l' n e =
      let k : length (words_in b) ≡ length b / word_bytes = length-words b in
      let f : length b / word_bytes ≤ length l = omega (arith, input-fits) in
      ap (take (length b / word_bytes)) (e ∙ copied-fits 0 (words_in b) l (omega arith)) ∙ take-laid (words_in b) l (length b / word_bytes) k f

  pub input-within : (l l' : List ℕ) → length l ≡ longest_file → l' ≡ copied 0 (words_in b) l → length b / word_bytes ≤ length l'
  input-within l l' n e =
      let k : length l' ≡ length l = ap length e ∙ length-copied 0 (words_in b) l in
      omega (arith, input-fits)

  pub input-compiled : {f t s t' s' : List ℕ} {r : Result ℕ Refusal} → f ≡ words_in b → Compiles f t s t' s' r → t ≡ blank → s ≡ blank
      → listing_of b ≡ compiled_text t' r
  unfolding listing_of file_text
  input-compiled {f} {t} {s} {t'} {s'} {r} e c bt bs =
      let answer : r ≡ answer_of (words_in b) blank blank = c.answer ∙ ap (λ x. answer_of x t s) e ∙ ap₂ (answer_of (words_in b)) bt bs in
      let table : t' ≡ table_after (words_in b) blank blank = c.table ∙ ap (λ x. table_after x t s) e ∙ ap₂ (table_after (words_in b)) bt bs in
      rw right (sym (ap₂ compiled_text table answer))

-- the rows of a file, where the compile answers them, fit their table
pub file-within : {f t s t' s' : List ℕ} {r : Result ℕ Refusal} → Compiles f t s t' s' r → IfOk r (λ n. n * row_length ≤ length t')
file-within {f} {t} {s} {t'} {r = r} c = within r refl
  where
    within : (x : Result ℕ Refusal) → r ≡ x → IfOk x (λ n. n * row_length ≤ length t')
    within (Ok n) e = rows-within n t' (ap (λ x. check_of (table_rows n x)) c.table ∙ table-right f t s n (sym c.answer ∙ e))
    within (Err x) e = tt

-- the rows that stay, where the pass answers them, in a longer table
module _ (t : List ℕ) {t' : List ℕ} {r : Result ℕ Refusal} (e : r ≡ kept_of t) (w : t' ≡ table_kept t) (rest : List ℕ) where
  kept-fits : {n : ℕ} → r ≡ Ok n → n * row_length ≤ length t'
  kept-fits {n} q = rows-within n t' (ap (λ x. check_of (table_rows n x)) w ∙ (kept-rows t n (sym e ∙ q)).check)

  pub kept-listed : shown_text t ≡ kept_text (t' ++ rest) r
  unfolding shown_text
  kept-listed = ap₂ kept_text (sym w) (sym e) ∙ sym (alone r refl)
    where
      alone : (x : Result ℕ Refusal) → r ≡ x → kept_text (t' ++ rest) x ≡ kept_text t' x
      alone (Ok n) q = ap table_text (take-append-le (n * row_length) t' rest (kept-fits q))
      alone (Err f) q = refl

  pub kept-within : IfOk r (λ n. n * row_length ≤ length (t' ++ rest))
  kept-within = within r refl
    where
      within : (x : Result ℕ Refusal) → r ≡ x → IfOk x (λ n. n * row_length ≤ length (t' ++ rest))
      within (Ok n) q = omega (arith, length-append t' rest, kept-fits q)
      within (Err f) q = tt
