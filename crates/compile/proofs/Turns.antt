-- The turns of the loops over rows: the next row of those that are left, and then the others. Assumes nothing.
--
--   common-dropped, common-kept        the common row of two rows: none where their matches do not overlap
--   with_chunks                        the common rows of a row and the rows that some chunks are; with-all, with-next,
--                                      with-end
--   both_rows, both-next, both-end     those of the rows that are left and a table
use Rattle.std.proofs.Common.{ℕ, suc, ◌+◌, ◌/◌, ◌≤◌, ◌<◌, arith, add-one, ◌≡◌, sym, ap, ap₂, ◌∙◌, Bool, true, false, not, List, [], ◌∷◌, ◌++◌, map, length}
use Rattle.std.proofs.Common.{get_or, drop, drop_of_length-le, drop-cons}
use Rattle.std.specs.Simd.{first_chunks}
use Rattle.words.specs.Records.{rows_of}
use Rattle.words.proofs.RecordLaws.{flat_append}
use Rattle.words.proofs.Bytes.{chunks-records}
use Rattle.theory.specs.Rows.{kept, common_row, common_with, common_rows}
use Rattle.theory.specs.declared.Row.{Row}
use Rattle.flow.specs.Match.{is_empty, overlap, common, match_of}
use Rattle.flow.specs.declared.Match.{Match}
use Rattle.flow.proofs.Laws.{common-empty}
use Rattle.action.specs.Operator as operator
use Rattle.action.specs.declared.Action.{Action}
use Rattle.row.specs.Row.{row_length, row_of, row_action, row_words, rows_in, words_of}
use Rattle.compile.specs.Tables.{common_words, common_with_words, common_rows_words}

-- a row has words
pub some_words : 0 < row_length
some_words = omega arith

module _ (o : List ℕ) (r : Row Match Action) where
  -- the match n of s, and whether it overlaps that of r, as the code finds them
  module _ (s : List ℕ) {n : Match} {b : Bool} (read : n ≡ match_of s) (tested : b ≡ overlap r.matching n) where
    -- their common match is empty exactly where they do not
    empty : is_empty (common r.matching (match_of s)) ≡ not b
    empty = common-empty r.matching (match_of s) ∙ ap not (ap (overlap r.matching) (sym read) ∙ sym tested)

    -- then it makes no row
    pub common-dropped : b ≡ false → common_words o r s ≡ []
    unfolding common_words
    common-dropped t = let h : is_empty (common r.matching (match_of s)) ≡ true = empty ∙ ap not t in rw h

    -- any other makes one, with the joined action, left from r
    pub common-kept : b ≡ true → {m : Match} {x z : Action} {words : List ℕ} → m ≡ common r.matching n → x ≡ row_action s
        → z ≡ operator.join o r.action x → words ≡ row_words (record { matching = m; action = z }) → words ≡ common_words o r s
    unfolding common_words
    common-kept t {m} {x} {z} both p q w =
        let h : is_empty (common r.matching (match_of s)) ≡ false = empty ∙ ap not t in
        let h₁ : m ≡ common r.matching (match_of s) = cc in
        let h₂ : z ≡ operator.join o r.action (row_action s) = cc in
        w ∙ ap₂ (λ (m : Match) (a : Action). row_words (record { matching = m; action = a })) h₁ h₂ ∙ rw h

  -- the words of the common rows with the rows that some chunks are
  unfoldable pub with_chunks : List (List ℕ) → List ℕ
  with_chunks rs = words_of (common_with common is_empty (operator.join o) r (map row_of rs))

  pub with-all : {rs : List (List ℕ)} (ws : List ℕ) → rs ≡ first_chunks row_length (length ws / row_length) ws → with_chunks rs ≡ common_with_words o r ws
  unfolding with_chunks common_with_words rows_of
  with-all ws e = ap with_chunks (e ∙ chunks-records (length ws / row_length) row_length ws)

  -- the common row with row i, and then those with the rows behind it
  pub with-next : (rs : List (List ℕ)) (i : ℕ) → i < length rs → with_chunks (drop i rs) ≡ common_words o r (get_or rs i []) ++ with_chunks (drop (i + 1) rs)
  unfolding with_chunks common_words
  with-next rs i h =
      rw (add-one i)
      (ap with_chunks (drop-cons rs i [] h)
      ∙ flat_append row_words (kept is_empty (common_row common (operator.join o) r (row_of (get_or rs i []))))
      (common_with common is_empty (operator.join o) r (map row_of (drop (suc i) rs))))

  pub with-end : (rs : List (List ℕ)) (i : ℕ) → length rs ≤ i → with_chunks (drop i rs) ≡ []
  unfolding with_chunks
  with-end rs i h = ap with_chunks (drop_of_length-le rs h)

module _ (o right : List ℕ) where
  -- the words of the common rows of some rows and a table
  unfoldable pub both_rows : List (Row Match Action) → List ℕ
  both_rows N = words_of (common_rows common is_empty (operator.join o) N (rows_in right))

  pub both-all : {N : List (Row Match Action)} (left : List ℕ) → N ≡ rows_in left → both_rows N ≡ common_rows_words o left right
  unfolding both_rows common_rows_words
  both-all left e = ap both_rows e

  pub both-next : {N N' : List (Row Match Action)} {s : Row Match Action} → N ≡ s ∷ N' → both_rows N ≡ common_with_words o s right ++ both_rows N'
  unfolding both_rows common_with_words
  both-next {N} {N'} {s} e =
      ap both_rows e
      ∙ flat_append row_words (common_with common is_empty (operator.join o) s (rows_in right))
      (common_rows common is_empty (operator.join o) N' (rows_in right))

  pub both-end : {N : List (Row Match Action)} → N ≡ [] → both_rows N ≡ []
  unfolding both_rows
  both-end e = ap both_rows e
