-- A node's own table grows by one atom at a time, from the last: the atom's row is joined with the table that stands there. Assumes nothing.
use Rattle.std.proofs.Common.{ℕ, ◌+◌, ◌-◌, ◌≤◌, ◌<◌, arith, ◌≡◌, refl, sym, ap, ap₂, subst, ◌∙◌, Bool, true, false, cond, List, [], ◌∷◌, ◌++◌, append_assoc}
use Rattle.std.proofs.Common.{append-nil, leb, length, take, drop, length-append, length-drop, drop_of_length-le, take_all, Option, Some, None}
use Rattle.words.specs.Words.{laid}
use Rattle.words.proofs.Laid.{length-laid, laid_then, put-laid}
use Rattle.words.proofs.RecordLaws.{rows-flat}
use Rattle.theory.specs.declared.Row.{Row}
use Rattle.theory.specs.Rows.{kept, common_with, common_rows}
use Rattle.flow.specs.Match.{is_empty, common}
use Rattle.action.specs.Operator as operator
use Rattle.flow.specs.declared.Match.{Match}
use Rattle.action.specs.declared.Action.{Action}
use Rattle.row.specs.Row.{row_length, row_of, row_words, rows_in, words_of}
use Rattle.row.specs.Spelled.{row_back, row-long}
use Rattle.compile.specs.Lays.{made_of, Lays}
use Rattle.compile.specs.Tables.{common_with_words, common_rows_words, own_rows, join_words, atom_words, own_words}
use Rattle.compile.specs.Places.{part, PutUpTo, Grows}
use Rattle.compile.proofs.Turns.{some_words}
use Rattle.compile.proofs.Going.{Fitted, made-words, made-full, lays-full, lays-same, too_long}
use Rattle.compile.proofs.Grow.{join-parts, join-flat, join-length, join-none, laid-back}
use Rattle.compile.proofs.Laid.{laid-over, laid-front}

-- two parts laid one behind the other
pub lays-then : {a b : ℕ} {C D old mid new : List ℕ} {r : Option ℕ} → Lays a C old mid (Some b) → Lays b D mid new r → Lays a (C ++ D) old new r
unfolding made_of
lays-then {a} {b} {C} {D} {old} {mid} {new} {r} l k =
    let f : Fitted a C (length old) b = made-words a C (length old) b l.answer in
    let w : mid ≡ laid a C old = l.words f.fits in
    let same : length mid ≡ length old = ap length w ∙ length-laid a C old in
    let n : b + length D ≡ a + length (C ++ D) = omega (arith, f.end, length-append C D) in
    record {
      answer = k.answer ∙ ap₂ (λ x y. cond (leb x y) (Some x) None) n same;
      words = λ h. k.words (omega arith) ∙ ap₂ (λ x y. laid x D y) f.end w ∙ laid_then a C D old;
    }

-- the first part does not fit
pub lays-first-full : {a : ℕ} {C old mid : List ℕ} (D new : List ℕ) {r : Option ℕ} → Lays a C old mid r → r ≡ None → Lays a (C ++ D) old new None
lays-first-full {a} {C} D new l q = too_long new l q refl (omega (arith, length-append C D))

-- all words from a place on
all_from : (p : ℕ) (s : List ℕ) → take (length s - p) (drop p s) ≡ drop p s
all_from p s = take_all (length s - p) (drop p s) (rw length-drop (omega arith))

-- a table stands at the end of a buffer, and nothing was made for it
stands_at : (a : ℕ) (F old s : List ℕ) (p : ℕ) → a ≤ p → p ≤ length s → drop p s ≡ F → Grows a F old old s (Some p)
stands_at a F old s p h k e = record {
  stands = record {
    full = λ q. let z : ◌≡◌ {A = ℕ} 0 1 = cc in absurd (omega arith);
    words = λ first q.
        let f : first ≡ p = cc in
        (omega arith, omega arith, ap (λ x. drop x s) f ∙ e);
  };
  hidden = λ first q W d c. refl;
}

-- there is no room for it
no_room : (a : ℕ) (F old new s : List ℕ) → length s < a + length F → Grows a F old new s None
no_room a F old new s h = record {
  stands = record {
    full = λ q. h;
    words = λ first q. let z : ◌≡◌ {A = ℕ} 0 1 = cc in absurd (omega arith);
  };
  hidden = λ first q W d c. let z : ◌≡◌ {A = ℕ} 0 1 = cc in absurd (omega arith);
}

-- words put before a place: there is no room for them, and they stand before the words from there on
pub put-up-full : (a p : ℕ) (F old : List ℕ) → a ≤ p → p ≤ length old → p - a < length F → PutUpTo a (F ++ drop p old) old None
put-up-full a p F old h g k = record {
  full = λ q. rw (length-append, length-drop) (omega arith);
  words = λ first q. let z : ◌≡◌ {A = ℕ} 0 1 = cc in absurd (omega arith);
}

pub put-up-words : (a p : ℕ) (F old : List ℕ) {new : List ℕ} → new ≡ laid (p - length F) F old → a ≤ p → p ≤ length old → length F ≤ p - a
    → PutUpTo a (F ++ drop p old) new (Some (p - length F))
put-up-words a p F old {new} w h g k =
    let n : ℕ = p - length F in
    let fits : n + length F ≤ length old = omega arith in
    let same : length new ≡ length old = ap length w ∙ length-laid n F old in
    let q : n + length F ≡ p = omega arith in
    let d : drop n new ≡ F ++ drop p old = ap (drop n) w ∙ laid-front n F old fits ∙ ap (λ x. F ++ drop x old) q in
    record {
      full = λ q. let z : ◌≡◌ {A = ℕ} 0 1 = cc in absurd (omega arith);
      words = λ first q.
          let e : first ≡ n = cc in
          (omega arith, omega arith, ap (λ x. drop x new) e ∙ d);
    }

-- the common rows of one row and a table
one-row : (o : List ℕ) (x : Row Match Action) (B : List ℕ) → common_rows_words o (row_words x) B ≡ common_with_words o x B
unfolding common_rows_words common_with_words
one-row o x B =
    let e : rows_in (row_words x) ≡ x ∷ [] =
    ap rows_in (sym (append-nil (row_words x))) ∙ rows-flat row_length row_of some_words row_words row-long row_back (x ∷ []) in
    ap (λ N. words_of (common_rows common is_empty (operator.join o) N (rows_in B))) e
    ∙ ap words_of (append-nil (common_with common is_empty (operator.join o) x (rows_in B)))

-- an atom x, and whether its match is empty, as the code finds it
module _ (o : List ℕ) {a p : ℕ} {old : List ℕ} (s : List ℕ) (x : Row Match Action) {t : Bool} (q : t ≡ is_empty x.matching) where
  -- one whose match is empty leaves the table as it is
  pub atom-none : t ≡ true → a ≤ p → p ≤ length s → Grows a (join_words o (atom_words x) (drop p s)) old old s (Some p)
  unfolding atom_words
  atom-none h g k =
      let none : atom_words x ≡ [] = ap (λ b. words_of (cond b [] (x ∷ []))) (sym q ∙ h) in
      let j : drop p s ≡ join_words o (atom_words x) (drop p s) = sym (ap (λ A. join_words o A (drop p s)) none ∙ join-none o (drop p s)) in
      stands_at a (join_words o (atom_words x) (drop p s)) old s p g k j

-- another is one row
module _ (o : List ℕ) {a : ℕ} (p : ℕ) {old mid : List ℕ} (s : List ℕ) (x : Row Match Action) {t : Bool} {r : Option ℕ}
    (q : t ≡ is_empty x.matching) (h : t ≡ false)
    (l : Lays a (common_with_words o x (take (length s - p) (drop p s)) ++ row_words x) old mid r) where
  is_row : atom_words x ≡ row_words x
  unfolding atom_words
  is_row = ap (λ b. words_of (cond b [] (x ∷ []))) (sym q ∙ h) ∙ append-nil (row_words x)

  -- the common rows, and then the row
  abbrev added : List ℕ
  added = common_with_words o x (take (length s - p) (drop p s)) ++ row_words x

  -- they and the table are the join
  whole : added ++ drop p s ≡ join_words o (atom_words x) (drop p s)
  whole =
      ap (λ B. (common_with_words o x B ++ row_words x) ++ drop p s) (all_from p s)
      ∙ append_assoc (common_with_words o x (drop p s)) (row_words x) (drop p s)
      ∙ ap (λ c. c ++ (row_words x ++ drop p s)) (sym (one-row o x (drop p s)))
      ∙ sym (join-parts o (row_words x) (drop p s))
      ∙ ap (λ A. join_words o A (drop p s)) (sym is_row)

  whole_long : length (join_words o (atom_words x) (drop p s)) ≡ length added + length (drop p s)
  whole_long = ap length (sym whole) ∙ length-append added (drop p s)

  pub atom-full : (new : List ℕ) → length s ≡ length old → r ≡ None → Grows a (join_words o (atom_words x) (drop p s)) old new s None
  atom-full new same g =
      let f : length old < a + length added = made-full a added (length old) (sym g ∙ l.answer) in
      let n : length (join_words o (atom_words x) (drop p s)) ≡ length added + length (drop p s) = whole_long in
      no_room a (join_words o (atom_words x) (drop p s)) old new s (omega arith)

  pub atom-joined : {n : ℕ} {s' : List ℕ} {z : Option ℕ} → r ≡ Some n → PutUpTo a (part a n mid ++ drop p s) s' z
      → Grows a (join_words o (atom_words x) (drop p s)) old mid s' z
  atom-joined {n} {s'} {z} g k =
      let f : Fitted a added (length old) n = made-words a added (length old) n (sym g ∙ l.answer) in
      let v : mid ≡ laid a added old = l.words f.fits in
      let j : length (join_words o (atom_words x) (drop p s)) ≡ length added + length (drop p s) = whole_long in
      record {
        stands = subst (λ F. PutUpTo a F s' z) (ap (λ c. c ++ drop p s) (laid-back l g) ∙ whole) k;
        hidden = λ first i W d c. ap (laid a W) v ∙ laid-over a W added old c (omega arith);
      }

-- the table of some atoms, in words
abbrev pub gone_words : List ℕ → List (Row Match Action) → List ℕ
gone_words o gone = words_of (own_rows o gone)

-- with one more before them, of none, and with others before them
own-more : (o : List ℕ) (x : Row Match Action) (gone : List (Row Match Action)) → gone_words o (x ∷ gone) ≡ join_words o (atom_words x) (gone_words o gone)
unfolding atom_words
own-more o x gone = sym (join-flat o (kept is_empty x) (own_rows o gone))

pub own-start : (o : List ℕ) {a : ℕ} {old s : List ℕ} → a ≤ length s → Grows a (gone_words o []) old old s (Some (length s))
own-start o {a} {old} {s} h = stands_at a (gone_words o []) old s (length s) h (omega arith) (drop_of_length-le s {i = length s} (omega arith))

-- where the table of the last atoms does not fit, nor does the whole
own-hold : (o : List ℕ) (rest gone : List (Row Match Action)) → length (gone_words o gone) ≤ length (gone_words o (rest ++ gone))
own-hold o [] gone = omega arith
own-hold o (x ∷ rest) gone =
    omega
    (arith, ap length (own-more o x (rest ++ gone)), own-hold o rest gone, join-length o (atom_words x) (gone_words o (rest ++ gone)))

-- equal answers tell the same
pub grows-case : {a : ℕ} {F old new s : List ℕ} {m n : Option ℕ} → m ≡ n → Grows a F old new s m → Grows a F old new s n
grows-case {a} {F} {old} {new} {s} q g = subst (Grows a F old new s) q g

-- Of the atoms, `rest` are left, and scratch from a place on is the table of those behind them, made over the place a.
pub record Behind (o : List ℕ) (atoms rest : List (Row Match Action)) (a e : ℕ) (old here s : List ℕ) : Type 0 where
  pub gone : List (Row Match Action)
  pub parts : rest ++ gone ≡ atoms
  pub start : a ≤ e
  pub first : e ≤ length s
  pub table : length here ≡ length old
  pub scratch : length s ≡ length old
  pub grown : Grows a (gone_words o gone) old here s (Some e)

pub behind-start : (o : List ℕ) (atoms rest : List (Row Match Action)) {a : ℕ} {old s : List ℕ} → rest ≡ atoms → a ≤ length old → length s ≡ length old
    → Behind o atoms rest a (length s) old old s
behind-start o atoms rest {a} {old} {s} e h n = record {
  gone = [];
  parts = append-nil rest ∙ e;
  start = omega arith;
  first = omega arith;
  table = refl;
  scratch = n;
  grown = own-start o (omega arith);
}

-- the steps: one more atom, no room for it, and all atoms joined
module _ (o : List ℕ) (x : Row Match Action) (left : List (Row Match Action)) {atoms rest : List (Row Match Action)} {a e : ℕ}
    {old here new s s' : List ℕ} {m : Option ℕ}
    (b : Behind o atoms rest a e old here s) (parts : rest ≡ left ++ (x ∷ []))
    (j : Grows a (join_words o (atom_words x) (drop e s)) here new s' m) where
  with_atom : Grows a (gone_words o (x ∷ b.gone)) old new s' m
  with_atom =
      let A : List ℕ = atom_words x in
      let B : List ℕ = gone_words o b.gone in
      let W : List ℕ = gone_words o (x ∷ b.gone) in
      let t : W ≡ join_words o A B = own-more o x b.gone in
      let n : length W ≡ length (join_words o A B) = ap length t in
      let z : join_words o A (drop e s) ≡ W = ap (join_words o A) (b.grown.stands.words e refl).2 ∙ sym t in
      let j' : Grows a W here new s' m = subst (λ F. Grows a F here new s' m) z j in
      record {
        stands = j'.stands;
        hidden = λ first r F d c. j'.hidden first r F d (omega (arith, b.table)) ∙ b.grown.hidden e refl F (omega (arith, join-length o A B)) c;
      }

  all_parts : left ++ (x ∷ b.gone) ≡ atoms
  all_parts = sym (append_assoc left (x ∷ []) b.gone) ∙ ap (λ l. l ++ b.gone) (sym parts) ∙ b.parts

  pub behind-step : (e' : ℕ) → m ≡ Some e' → length new ≡ length here → length s' ≡ length s → Behind o atoms left a e' old new s'
  behind-step e' q n n' =
      let g : Grows a (gone_words o (x ∷ b.gone)) old new s' (Some e') = grows-case q with_atom in
      let w : (a ≤ e') × (e' ≤ length s') × (drop e' s' ≡ gone_words o (x ∷ b.gone)) = g.stands.words e' refl in
      record { gone = x ∷ b.gone; parts = all_parts; start = w.0; first = w.1; table = n ∙ b.table; scratch = n' ∙ b.scratch; grown = g }

  pub behind-full : (words last : List ℕ) → rows_in words ≡ atoms → m ≡ None → length s' ≡ length s → Lays a (own_words o words) old last None
  unfolding own_words
  behind-full words last same q n =
      let f : length s' < a + length (gone_words o (x ∷ b.gone)) = with_atom.stands.full q in
      let l : length (gone_words o (left ++ (x ∷ b.gone))) ≡ length (gone_words o (rows_in words)) =
      ap (λ k. length (gone_words o k)) (all_parts ∙ sym same) in
      lays-full a (gone_words o (rows_in words)) old last (omega (arith, own-hold o left (x ∷ b.gone), b.scratch))

pub behind-end : (o words : List ℕ) {rest : List (Row Match Action)} {a e : ℕ} {old here new s : List ℕ} {m : Option ℕ}
    → Behind o (rows_in words) rest a e old here s
    → rest ≡ [] → Lays a (take (length s - e) (drop e s)) here new m → Lays a (own_words o words) old new m
unfolding own_words
behind-end o words {rest} {a} {e} {old} {here} {new} {s} {m} b none l =
    let all : b.gone ≡ rows_in words = ap (λ r. r ++ b.gone) (sym none) ∙ b.parts in
    let t : take (length s - e) (drop e s) ≡ gone_words o b.gone = all_from e s ∙ (b.grown.stands.words e refl).2 in
    let l' : Lays a (gone_words o b.gone) here new m = lays-same t l in
    lays-same (ap (gone_words o) all) (record {
      answer = l'.answer ∙ ap (made_of a (gone_words o b.gone)) b.table;
      words = λ c. l'.words (omega (arith, b.table)) ∙ b.grown.hidden e refl (gone_words o b.gone) (omega arith) c;
    })

-- the rows up to one are put, or do not fit
pub ruleset put_up = (put-laid, put-up-full, put-up-words)
