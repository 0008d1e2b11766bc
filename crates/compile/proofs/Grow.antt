-- Tables that grow in place: a table is replaced by its join with another, and where a part does not fit, nor does the whole. Assumes nothing.
--
--   join-parts                   what a join is made of
--   join-flat                    the join of the words of rows is the words of their join
--   join-length, join-none       how long a join is; without rows on the left it is the right
--   put-none, put_full, put_all  words put before a table: none, too many, and all
--   join-full, join-put          two tables one behind the other, joined: no room for the common rows, and the common rows put before them
--   joins                        two tables that were laid one behind the other, replaced by their join
use Rattle.std.proofs.Common.{ℕ, ◌+◌, ◌-◌, ◌≤◌, arith, ◌≡◌, refl, sym, ap, ap₂, ◌∙◌, List, [], ◌++◌, length, take, drop, length-append, length-drop}
use Rattle.std.proofs.Common.{length-take-le, take-add, drop-drop, Option, Some, None}
use Rattle.words.specs.Words.{laid}
use Rattle.words.proofs.Laid.{length-laid, laid_then}
use Rattle.words.proofs.RecordLaws.{flat_append, rows_none, rows-flat}
use Rattle.theory.specs.Rows.{common_rows}
use Rattle.theory.specs.declared.Row.{Row}
use Rattle.flow.specs.Match.{is_empty, common}
use Rattle.flow.specs.declared.Match.{Match}
use Rattle.action.specs.Operator as operator
use Rattle.action.specs.declared.Action.{Action}
use Rattle.row.specs.Row.{row_length, row_of, row_words, rows_in, words_of}
use Rattle.row.specs.Spelled.{row_back, row-long}
use Rattle.compile.specs.Lays.{made_of, Lays}
use Rattle.compile.specs.Tables.{common_rows_words, join_rows, join_words}
use Rattle.compile.specs.Places.{part}
use Rattle.compile.proofs.Laid.{laid-part, laid-over, laid-first, laid-second, laid_same}
use Rattle.compile.proofs.Going.{Fitted, made-words, lays-words, lays-same, too_long}
use Rattle.compile.proofs.Turns.{some_words}

-- a join is the common rows, then the left table, then the right
pub join-parts : (o left right : List ℕ) → join_words o left right ≡ common_rows_words o left right ++ (left ++ right)
unfolding join_words
join-parts o left right = refl

-- the join of the words of rows is the words of their join
pub join-flat : (o : List ℕ) (N N' : List (Row Match Action)) → join_words o (words_of N) (words_of N') ≡ words_of (join_rows o N N')
unfolding join_words common_rows_words
join-flat o N N' =
    ap₂ (λ x y. words_of (common_rows common is_empty (operator.join o) x y) ++ (words_of N ++ words_of N'))
    (rows-flat row_length row_of some_words row_words row-long row_back N)
    (rows-flat row_length row_of some_words row_words row-long row_back N')
    ∙ ap (λ x. words_of (common_rows common is_empty (operator.join o) N N') ++ x) (sym (flat_append row_words N N'))
    ∙ sym (flat_append row_words (common_rows common is_empty (operator.join o) N N') (N ++ N'))

-- a join has the words of the common rows and of both tables
pub join-length : (o A B : List ℕ) → length (join_words o A B) ≡ length (common_rows_words o A B) + (length A + length B)
join-length o A B = rw (join-parts o A B, length-append, length-append)

-- without rows on the left it is the table on the right
pub join-none : (o B : List ℕ) → join_words o [] B ≡ B
unfolding join_words common_rows_words
join-none o B =
    ap (λ x. words_of (common_rows common is_empty (operator.join o) x (rows_in B)) ++ B) (rows_none row_length row_of some_words [] some_words)

-- how long a part is
length_part : (a e : ℕ) (l : List ℕ) → a ≤ e → e ≤ length l → length (part a e l) ≡ e - a
length_part a e l h g = length-take-le (e - a) (drop a l) (rw length-drop (omega arith))

-- a part is its first words, and then the others
part-split : (a b e : ℕ) (l : List ℕ) → a ≤ b → b ≤ e → part a e l ≡ part a b l ++ part b e l
part-split a b e l h g =
    let q : e - a ≡ (b - a) + (e - b) = omega arith in
    let p : a + (b - a) ≡ b = omega arith in
    ap (λ n. take n (drop a l)) q ∙ take-add (b - a) (e - b) (drop a l)
    ∙ ap (λ x. part a b l ++ take (e - b) x) (drop-drop (b - a) a l ∙ ap (λ n. drop n l) p)

-- what was laid up to e is read back
pub laid-back : {a e : ℕ} {F old new : List ℕ} {r : Option ℕ} → Lays a F old new r → r ≡ Some e → part a e new ≡ F
laid-back {a} {e} {F} {old} {new} l q =
    let f : Fitted a F (length old) e = made-words a F (length old) e (sym q ∙ l.answer) in
    let n : e - a ≡ length F = omega (arith, f.end) in
    rw (n, l.words f.fits) (laid-part a F old f.fits)

-- words put before a table at a..e: those of s at a..m
module _ (a m e : ℕ) (s old : List ℕ) (h : a ≤ m) (g : a ≤ e) (f : m ≤ length old) (k : e ≤ length old) (same : length s ≡ length old) where
  -- both together
  both : length (part a m s ++ part a e old) ≡ (m - a) + (e - a)
  both = length-append (part a m s) (part a e old) ∙ ap₂ (λ x y. x + y) (length_part a m s h (omega arith)) (length_part a e old g k)

  -- there are none
  pub put-none : m ≡ a → Lays a (part a m s ++ part a e old) old old (Some e)
  put-none q =
      let z : m - a ≡ 0 = omega arith in
      let n : length (part a e old) ≡ e - a = length_part a e old g k in
      rw z (lays-words a (part a e old) old old e (omega arith) (omega arith) (sym (laid_same a (e - a) old (omega arith))))

  -- there is no room for them
  pub put_full : {s' new : List ℕ} {r : Option ℕ} → Lays m (part a e old) s s' r → r ≡ None → Lays a (part a m s ++ part a e old) old new None
  put_full {s'} {new} l q =
      let n : length (part a e old) ≡ e - a = length_part a e old g k in
      let b : length (part a m s ++ part a e old) ≡ (m - a) + (e - a) = both in
      too_long new l q same (omega arith)

  -- the table is stored behind them, and all is put back
  pub put_all : {s' new : List ℕ} {r : Option ℕ} {n : ℕ} → Lays m (part a e old) s s' r → r ≡ Some n → new ≡ laid a (part a n s') old
      → Lays a (part a m s ++ part a e old) old new (Some n)
  put_all {s'} {new} {r} {n} l q w =
      let P : List ℕ = part a m s in
      let G : List ℕ = part a e old in
      let i : Fitted m G (length s) n = made-words m G (length s) n (sym q ∙ l.answer) in
      let c : length P ≡ m - a = length_part a m s h (omega arith) in
      let d : a + length P ≡ m = omega arith in
      let t : length (P ++ G) ≡ length P + length G = length-append P G in
      let u : s' ≡ laid a (P ++ G) s =
      l.words i.fits
      ∙ ap₂ (λ x y. laid x G y) (sym d) (sym (laid_same a (m - a) s (omega arith)))
      ∙ laid_then a P G s in
      let v : n - a ≡ length (P ++ G) = omega (arith, i.end) in
      let y : part a n s' ≡ P ++ G = rw (v, u) (laid-part a (P ++ G) s (omega (arith, i.fits))) in
      lays-words a (P ++ G) old new n (omega (arith, i.fits)) (omega (arith, i.end))
      (w ∙ ap (λ x. laid a x old) y)

-- two tables one behind the other, at a..b and b..e, with their common rows made in s
module _ (o : List ℕ) {a b e : ℕ} {old s s' : List ℕ} {r : Option ℕ} (h : a ≤ b) (g : b ≤ e) (same : length s ≡ length old)
    (l : Lays a (common_rows_words o (part a b old) (part b e old)) s s' r) where
  -- there is no room for the common rows
  pub join-full : (new : List ℕ) → r ≡ None → Lays a (join_words o (part a b old) (part b e old)) old new None
  join-full new q = too_long new l q same (omega (arith, join-length o (part a b old) (part b e old)))

  -- the common rows are put before the two
  pub join-put : {m : ℕ} {new : List ℕ} {r' : Option ℕ} → r ≡ Some m → Lays a (part a m s' ++ part a e old) old new r'
      → Lays a (join_words o (part a b old) (part b e old)) old new r'
  join-put q k =
      lays-same (ap₂ (λ x y. x ++ y) (laid-back l q) (part-split a b e old h g) ∙ sym (join-parts o (part a b old) (part b e old))) k

-- two tables, laid one behind the other, are replaced by their join
pub joins : {a b e : ℕ} {C D : List ℕ} {old mid here new : List ℕ} {m : Option ℕ} (o : List ℕ)
    → Lays a C old mid (Some b) → Lays b D mid here (Some e)
    → Lays a (join_words o (part a b here) (part b e here)) here new m → Lays a (join_words o C D) old new m
joins {a} {b} {e} {C} {D} {old} {mid} {here} {new} {m} o l₁ l₂ k =
    let f₁ : Fitted a C (length old) b = made-words a C (length old) b l₁.answer in
    let f₂ : Fitted b D (length mid) e = made-words b D (length mid) e l₂.answer in
    let q : b ≡ a + length C = f₁.end in
    let w₁ : mid ≡ laid a C old = l₁.words f₁.fits in
    let w : here ≡ laid a (C ++ D) old = l₂.words f₂.fits ∙ ap₂ (λ x y. laid x D y) q w₁ ∙ laid_then a C D old in
    let n : length mid ≡ length old = ap length w₁ ∙ length-laid a C old in
    let n' : length here ≡ length old = ap length w ∙ length-laid a (C ++ D) old in
    let room : a + length C + length D ≤ length old = omega (arith, f₂.fits) in
    let n₁ : b - a ≡ length C = omega arith in
    let n₂ : e - b ≡ length D = omega (arith, f₂.end) in
    let u₁ : part a b here ≡ C = rw (n₁, w) (laid-first a C D old room) in
    let u₂ : part b e here ≡ D = rw (n₂, w, q) (laid-second a C D old room) in
    let J : List ℕ = join_words o C D in
    let k' : Lays a J here new m = lays-same (ap₂ (join_words o) u₁ u₂) k in
    let s : length J ≡ length (common_rows_words o C D) + (length C + length D) = join-length o C D in
    let t : length (C ++ D) ≡ length C + length D = length-append C D in
    record {
      answer = k'.answer ∙ ap (made_of a J) n';
      words = λ g. k'.words (omega arith) ∙ ap (laid a J) w ∙ laid-over a J (C ++ D) old (omega arith) (omega arith);
    }
