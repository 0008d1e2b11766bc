-- The turns of the two loops over a table's rows. Assumes nothing.
use Prim.Native.Nat.{ℕ, ◌+◌, ◌*◌, ◌-◌, ◌/◌, ◌≤◌, ◌<◌}
use native.Mathlib.Numerals.{add-one}
use native.Mathlib.Omega.{arith}
use mathlib.Core.Path.{◌≡◌, refl, sym, ap, ◌∙◌}
use mathlib.Core.Bool.{Bool, true, false, cond}
use mathlib.Core.List.{List, [], ◌∷◌, ◌++◌, append-nil, append_assoc}
use lib.ListN.{length, get_or, take, drop, length-append, length-drop}
use lib.Seq.{drop-drop, take_all, length-take-le}
use Rattle.std.specs.List.{copy_within}
use Rattle.row.proofs.RowLaws.{words_back}
use Rattle.words.specs.Words.{laid}
use Rattle.words.proofs.Laid.{laid_none, length-laid, laid_then, laid-is, take-laid, drop-laid}
use Rattle.words.proofs.RecordLaws.{flat_append}
use Rattle.theory.specs.declared.Row.{Row}
use Rattle.theory.specs.Hidden.{inside_one, staying}
use Rattle.theory.proofs.HiddenLaws.{hidden-step}
use Rattle.flow.specs.Match.{match_of, inside}
use Rattle.flow.specs.declared.Match.{Match}
use Rattle.flow.proofs.Inside.{inside-trans}
use Rattle.action.specs.declared.Action.{Action}
use Rattle.row.specs.Row.{row_length, row_of, row_words, rows_in, words_of}
use Rattle.row.specs.Spelled.{row-long}
use Rattle.table.specs.Table.{row_count, past, row_at, RightTable}
use Rattle.table.proofs.Tables.{length-rows, row-at, rows-read, right-action}
use Rattle.hidden.specs.Hidden.{kept_words}

-- the words of row i, as a loop reads them
abbrev pub nth : List ℕ → ℕ → List ℕ
nth ws i = take (i * row_length + row_length - i * row_length) (drop (i * row_length) ws)

nth-row : (ws : List ℕ) (i : ℕ) → nth ws i ≡ take row_length (drop (i * row_length) ws)
nth-row ws i = let e : i * row_length + row_length - i * row_length ≡ row_length = omega arith in rw e

-- a row that is moved is laid where it goes
moved : (to from : ℕ) (l : List ℕ) → to + row_length ≤ length l → from + row_length ≤ length l
    → copy_within l from (from + row_length) to ≡ laid to (take (from + row_length - from) (drop from l)) l
moved to from l h g =
    let n : from + row_length - from ≡ row_length = omega arith in
    let row : List ℕ = take row_length (drop from l) in
    let long : length row ≡ row_length = length-take-le row_length (drop from l) (omega (arith, length-drop from l)) in
    let is : laid to row l ≡ take to l ++ (row ++ drop (to + row_length) l) =
    laid-is to row l (omega arith) ∙ ap (λ k. take to l ++ (row ++ drop (to + k) l)) long in
    rw n (append_assoc (take to l) row (drop (to + row_length) l) ∙ sym is)

-- of the first i rows, those that stay
abbrev stayed : List ℕ → ℕ → List (Row Match Action)
stayed ws i = staying inside (take i (rows_in ws))

-- where the loop that keeps rows stands: the rows before row i are done, and those of them that stay stand at the front
pub record Keeping (ws table : List ℕ) (i to : ℕ) : Type 0 where
  pub before : to ≤ i * row_length
  pub end : length (words_of (stayed ws i)) ≡ to
  pub is : table ≡ laid 0 (words_of (stayed ws i)) ws

pub keeping_start : (ws : List ℕ) → Keeping ws ws 0 0
keeping_start ws = record { before = omega arith; end = refl; is = sym (laid_none 0 ws) }

module _ {ws table : List ℕ} {i to : ℕ} (k : Keeping ws table i to) where
  -- the table keeps its length
  pub keeping-length : length table ≡ length ws
  keeping-length = ap length k.is ∙ length-laid 0 (words_of (stayed ws i)) ws

  module _ (h : i < length table / row_length) where
    one_more : i < row_count ws
    one_more = omega (arith, keeping-length)

    fits : to ≤ length ws
    fits = omega (arith, k.before, one_more)

    -- the rows at the front
    keeping-front : rows_in (take to table) ≡ stayed ws i
    keeping-front =
        ap (λ t. rows_in (take to t)) k.is ∙ ap rows_in (take-laid (words_of (stayed ws i)) ws to k.end fits) ∙ rows-read (stayed ws i)

    -- the words from the next row on are as they were
    keeping-rest : drop (i * row_length) table ≡ drop (i * row_length) ws
    keeping-rest =
        let from : ℕ = i * row_length in
        let e : to + (from - to) ≡ from = omega (arith, k.before) in
        ap (λ n. drop n table) (sym e)
        ∙ sym (drop-drop (from - to) to table)
        ∙ ap (λ t. drop (from - to) (drop to t)) k.is
        ∙ ap (drop (from - to)) (drop-laid (words_of (stayed ws i)) ws to k.end fits)
        ∙ drop-drop (from - to) to ws
        ∙ ap (λ n. drop n ws) e

    module _ (m : Match) (q : m ≡ match_of (nth table i)) (b : Bool) (e : b ≡ inside_one inside m (rows_in (take to table))) where
      -- the next row, one of the table's
      abbrev next : Row Match Action
      next = get_or (rows_in ws) i past

      next-words : row_of (nth table i) ≡ next
      next-words = ap row_of (nth-row table i ∙ ap (take row_length) keeping-rest) ∙ sym (row-at ws i one_more)

      -- the rows that stay with it
      with-next : stayed ws (i + 1) ≡ stayed ws i ++ cond b [] (next ∷ [])
      with-next =
          ap (stayed ws) (add-one i)
          ∙ hidden-step Action inside inside-trans past (rows_in ws) i (omega (arith, length-rows ws, one_more))
          ∙ ap (λ (t : Bool). stayed ws i ++ cond t [] (next ∷ [])) (sym asked)
        where
          asked : b ≡ inside_one inside next.matching (stayed ws i)
          asked = e ∙ ap (inside_one inside m) keeping-front ∙ ap (λ n. inside_one inside n (stayed ws i)) (q ∙ ap (λ r. r.matching) next-words)

      -- it goes
      pub keeping-goes : b ≡ true → Keeping ws table (i + 1) to
      keeping-goes t =
          let same : stayed ws (i + 1) ≡ stayed ws i = with-next ∙ rw t (append-nil (stayed ws i)) in
          record {
            before = omega (arith, k.before);
            end = ap (λ N. length (words_of N)) same ∙ k.end;
            is = k.is ∙ ap (λ N. laid 0 (words_of N) ws) (sym same);
          }

      -- it stays, and its words are moved behind those that do
      module _ (right : RightTable ws) (table' : List ℕ) (s : table' ≡ copy_within table (i * row_length) (i * row_length + row_length) to) where
        abbrev row : List ℕ
        row = nth table i

        row_next : row ≡ row_words next
        row_next =
            let long : length (row_at ws i) ≡ row_length =
            length-take-le row_length (drop (i * row_length) ws) (omega (arith, length-drop (i * row_length) ws, one_more)) in
            nth-row table i
            ∙ ap (take row_length) keeping-rest
            ∙ sym (words_back (row_at ws i) long (right-action (row_at ws i) (right.rows i one_more)))
            ∙ ap row_words (sym (row-at ws i one_more))

        pub keeping-stays : b ≡ false → Keeping ws table' (i + 1) (to + row_length)
        keeping-stays t =
            let more : stayed ws (i + 1) ≡ stayed ws i ++ (next ∷ []) = with-next ∙ rw t in
            let words : words_of (stayed ws (i + 1)) ≡ words_of (stayed ws i) ++ row =
            ap words_of more
            ∙ flat_append row_words (stayed ws i) (next ∷ [])
            ∙ ap (λ l. words_of (stayed ws i) ++ l) (append-nil (row_words next) ∙ sym row_next) in
            let long : length row ≡ row_length = ap length row_next ∙ row-long next in
            let start : to ≡ 0 + length (words_of (stayed ws i)) = omega (arith, k.end) in
            record {
              before = omega (arith, k.before);
              end = ap length words ∙ length-append (words_of (stayed ws i)) row ∙ omega (arith, k.end, long);
              is =
                  s
                  ∙ moved to (i * row_length) table (omega (arith, k.before)) (omega arith)
                  ∙ ap (laid to row) k.is
                  ∙ ap (λ n. laid n row (laid 0 (words_of (stayed ws i)) ws)) start
                  ∙ laid_then 0 (words_of (stayed ws i)) row ws
                  ∙ ap (λ l. laid 0 l ws) (sym words);
            }

  -- all rows are done
  module _ (h : length table / row_length ≤ i) where
    all_done : stayed ws i ≡ staying inside (rows_in ws)
    all_done = ap (staying inside) (take_all i (rows_in ws) (omega (arith, length-rows ws, keeping-length)))

    pub keeping-end : to ≡ length (kept_words ws)
    unfolding kept_words
    keeping-end = sym k.end ∙ ap (λ N. length (words_of N)) all_done

    pub keeping-table : table ≡ laid 0 (kept_words ws) ws
    unfolding kept_words
    keeping-table = k.is ∙ ap (λ N. laid 0 (words_of N) ws) all_done
