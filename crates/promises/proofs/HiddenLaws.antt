-- Hidden rows out: lying inside is by meaning for right rows, so which rows the pass keeps, by place, is what was asked for; the rest is the scan's, the
-- numbering's and the listing's own laws, over the rows that stay. Assumes nothing.
use Rattle.std.proofs.Common.{ℕ, zero, suc, ◌*◌, ◌-◌, ◌≤◌, ◌<◌, arith, ◌≡◌, refl, sym, ap, ap₂, ◌∙◌, Bool, true, false, not, List, [], ◌∷◌, ◌++◌, map}
use Rattle.std.proofs.Common.{append-nil, ltb, length, get_or, take, get_or-take, length-take-le, lt-ltb, ltb-true, Ok, Err}
use mathlib.Core.Bool.{false≢true}
use lib.ListN.{length-map, length-replicate}
use borrow.Author.Tests.{not-false}
use Rattle.logic.specs.Lists.{All}
use Rattle.logic.proofs.Lists.{all_append, all_then}
use Rattle.logic.proofs.Tests.{by-test, and_left}
use Rattle.words.specs.Words.{zeros}
use Rattle.words.specs.Records.{flat}
use Rattle.words.specs.Bytes.{words_in}
use Rattle.theory.specs.Number.{has}
use Rattle.theory.specs.Hidden.{staying, inside_earlier, places_where, InsideSome}
use Rattle.theory.proofs.Where.{has-where, where-rises}
use Rattle.theory.proofs.HiddenLaws.{hidden-exactly, none_hidden, hidden-again, one-exactly}
use Rattle.flow.specs.Match.{inside}
use Rattle.flow.proofs.Inside.{inside-exactly}
use Rattle.action.specs.declared.Action.{Action}
use Rattle.row.specs.Row.{row_length, row_words, rows_in, words_of, table_rows}
use Rattle.refusal.specs.Refusals.{refusal_at}
use Rattle.refusal.specs.declared.Reason.TheVariants.{NoRoom, WrongTable, WrongRow}
use Rattle.table.specs.Table.{row_count, past, right_length, check_of, row_at, RightTable}
use Rattle.table.specs.Scan.{scan_tried}
use Rattle.words.proofs.RecordLaws.{flat-at}
use Rattle.row.specs.Spelled.{row-long}
use Rattle.table.proofs.Tables.{length-rows, right-row-at, rows_written, check-exactly, check-first}
use Rattle.table.proofs.Scans.{scan-first, scan-unmatched}
use Rattle.hidden.specs.Hidden.{kept_rows, kept_of, table_kept, kept_count}
use Rattle.hidden.specs.Theorems.{KeptTells}
use Rattle.hidden.proofs.Passed.{counted}
use Rattle.hidden.proofs.Laws.{kept-rows, right_kept, refused-exactly, refused-stays, same-action}
use Rattle.priority.specs.Numbering.{Ready}
use Rattle.compile.specs.Compile.{room, table_after}
use Rattle.row.proofs.RowLaws.{words_count}
use Rattle.show.specs.Sheet.{listing_room, rows_text}
use Rattle.text.specs.Listing.{blank, listing_of}
use Rattle.text.proofs.Lists.{lists-rows, lists-refused}
use Rattle.promises.specs.Hidden.{row_in, Inside, Hidden, Passed, PassRefused, PassListed, KeptObeysTree, HiddenRows}
use Rattle.promises.proofs.Scanned.{gives}
use Rattle.promises.proofs.FixedAnswers.{fixed_answers}
use Rattle.promises.proofs.TableFollowsTree.{table_follows_tree}
use Rattle.promises.proofs.SmallestNumbering.{smallest_numbering}

-- the places that pass a test lie below the bound
where_below : (test : ℕ → Bool) (n m : ℕ) → n ≤ m → All (λ i. i < m) (places_where test n)
where_below test zero m h = tt
where_below test (suc n) m h =
    all_append (λ i. i < m) (places_where test n) _ (where_below test n m (omega arith))
    (by-test (test n) (λ t. rw t (omega arith, tt)) (λ t. rw t tt))

-- words that are the same for each
flat-same : {X Y : Type 0} (f : Y → List ℕ) (k : X → Y) (g : X → List ℕ) (xs : List X) → All (λ x. f (k x) ≡ g x) xs → flat f (map k xs) ≡ flat g xs
flat-same f k g [] h = refl
flat-same f k g (x ∷ xs) h = ap₂ (λ a b. a ++ b) h.0 (flat-same f k g xs h.1)

-- a member of mapped values
get_d_map : {X Y : Type 0} (f : X → Y) (xs : List X) (k : ℕ) (d : Y) (e : X) → k < length xs → get_or (map f xs) k d ≡ f (get_or xs k e)
get_d_map f [] k d e h = absurd (omega arith)
get_d_map f (x ∷ xs) zero d e h = refl
get_d_map f (x ∷ xs) (suc k) d e h = get_d_map f xs k d e (omega arith)

module _ (ws : List ℕ) (right : RightTable ws) where
  -- the words of a row, from the row
  row_words-at : (i : ℕ) → i < row_count ws → row_words (row_in ws i) ≡ row_at ws i
  row_words-at i h =
      sym (flat-at row_length row_words row-long (rows_in ws) past i (omega (arith, length-rows ws)))
      ∙ ap (λ l. row_at l i) (rows_written ws right)

  -- for rows of the table lying inside is by meaning
  by-meaning : (i j : ℕ) → i < row_count ws → j < row_count ws → (inside (row_in ws i).matching (row_in ws j).matching ≡ true → Inside ws i j)
      × (Inside ws i j → inside (row_in ws i).matching (row_in ws j).matching ≡ true)
  by-meaning i j h g = inside-exactly (row_in ws i).matching (row_in ws j).matching (right-row-at ws right i h).matching (right-row-at ws right j g).matching

  -- a row lies inside an earlier one exactly where it is hidden
  module _ (i : ℕ) (h : i < row_count ws) where
    before : length (take i (rows_in ws)) ≡ i
    before = length-take-le i (rows_in ws) (omega (arith, length-rows ws))

    hidden_found : inside_earlier inside past (rows_in ws) i ≡ true → Hidden ws i
    hidden_found e =
        let s : InsideSome inside past (row_in ws i).matching (take i (rows_in ws)) =
        (one-exactly Action inside past (row_in ws i).matching (take i (rows_in ws))).0 e in
        let b : s.place < i = omega (arith, s.within, before) in record {
          earlier = s.place;
          before = b;
          inside = (by-meaning i s.place h (omega arith)).0
              (ap (λ r. inside (row_in ws i).matching r.matching) (sym (get_or-take i (rows_in ws) s.place past b)) ∙ s.lies);
        }

    hidden-shown : Hidden ws i → inside_earlier inside past (rows_in ws) i ≡ true
    hidden-shown s =
        (one-exactly Action inside past (row_in ws i).matching (take i (rows_in ws))).1 (record {
          place = s.earlier;
          within = omega (arith, s.before, before);
          lies =
              ap (λ r. inside (row_in ws i).matching r.matching) (get_or-take i (rows_in ws) s.earlier past s.before)
              ∙ (by-meaning i s.earlier h (omega (arith, s.before))).1 s.inside;
        })

  -- the test by which rows stay, and their places
  abbrev test : ℕ → Bool
  test i = not (inside_earlier inside past (rows_in ws) i)

  abbrev stayers : List ℕ
  stayers = places_where test (row_count ws)

  -- the rows that stay are those at the places
  at_places : kept_rows ws ≡ map (λ i. row_in ws i) stayers
  at_places = hidden-exactly Action inside past (rows_in ws) ∙ ap (λ n. map (λ i. row_in ws i) (places_where test n)) (length-rows ws)

  abbrev kept : ℕ
  kept = length (kept_rows ws)

  told : KeptTells ws kept
  told = kept-rows ws kept (right_kept ws right)

  -- what they are as a table
  abbrev after : List ℕ
  after = table_rows kept (table_kept ws)

  after-right : RightTable after × (kept ≡ row_count after)
  after-right = (check-exactly after kept).0 told.check

  many : length stayers ≡ kept
  many = sym (length-map stayers (λ i. row_in ws i)) ∙ ap length (sym at_places)

  -- whether a place is had
  had : (i : ℕ) → i < row_count ws → has i stayers ≡ test i
  had i h = has-where test (row_count ws) i ∙ rw (lt-ltb i (row_count ws) h)

  removes-found : (i : ℕ) → i < row_count ws → has i stayers ≡ false → Hidden ws i
  removes-found i h e = hidden_found i h (not-false (inside_earlier inside past (rows_in ws) i) (sym (had i h) ∙ e))

  kept-words : words_of (kept_rows ws) ≡ flat (row_at ws) stayers
  kept-words =
      ap words_of at_places
      ∙ flat-same row_words (λ i. row_in ws i) (row_at ws) stayers
      (all_then (λ i. i < row_count ws) (λ i. row_words (row_in ws i) ≡ row_at ws i) row_words-at stayers
      (where_below test (row_count ws) (row_count ws) (omega arith)))

  kept-long : length (words_of (kept_rows ws)) ≡ kept * row_length
  kept-long = words_count (kept_rows ws)

  -- row k of what stays
  after-row : (k : ℕ) → k < kept → row_in after k ≡ row_in ws (get_or stayers k 0)
  after-row k h = ap (λ N. get_or N k past) (told.rows ∙ at_places) ∙ get_d_map (λ i. row_in ws i) stayers k past 0 (omega (arith, many))

  -- of what stays none lies inside an earlier row
  none_left : (i : ℕ) → i < kept → ¬ (Hidden after i)
  none_left i h s =
      let r : RightTable after = after-right.0 in
      let g : i < row_count after = omega (arith, after-right.1) in
      let b : s.earlier < row_count after = omega (arith, s.before) in
      let yes : inside (row_in after i).matching (row_in after s.earlier).matching ≡ true =
      (inside-exactly (row_in after i).matching (row_in after s.earlier).matching (right-row-at after r i g).matching
      (right-row-at after r s.earlier b).matching).1
      s.inside in
      let no : inside (row_in after i).matching (row_in after s.earlier).matching ≡ false =
      ap (λ N. inside (get_or N i past).matching (get_or N s.earlier past).matching) told.rows
      ∙ none_hidden Action inside past (rows_in ws) s.earlier i s.before h in
      false≢true (sym no ∙ yes)

  -- so a second pass changes nothing
  all_stay : kept_rows after ≡ rows_in after
  all_stay = ap (staying inside) told.rows ∙ hidden-again Action inside (rows_in ws) ∙ sym told.rows

  again : (kept_of after ≡ Ok kept) × (table_kept after ≡ after)
  again =
      let r : RightTable after = after-right.0 in
      let n : length (kept_rows after) ≡ kept = ap length (all_stay ∙ told.rows) in
      let answer : kept_of after ≡ Ok (length (kept_rows after)) = right_kept after r in
      let same : words_of (kept_rows after) ≡ after = ap words_of all_stay ∙ rows_written after r in
      let none : length after - length after ≡ 0 = omega arith in (
        answer ∙ ap counted n,
        (kept-rows after (length (kept_rows after)) answer).words ∙ ap (λ l. l ++ zeros (length after - length l)) same
            ∙ ap (λ m. after ++ zeros m) none
            ∙ append-nil after,
      )

  pub passed : Passed ws
  passed = record {
    count = kept;
    places = stayers;
    answer = right_kept ws right;
    many = many;
    removes = λ i h. (removes-found i h, λ s. had i h ∙ ap not (hidden-shown i h s));
    of_table = λ i e. ltb-true i (row_count ws) (and_left (ltb i (row_count ws)) (test i) (sym (has-where test (row_count ws) i) ∙ e));
    order = λ k h. where-rises test (row_count ws) k (omega (arith, many));
    several = λ i h none. by-test (has i stayers)
        (λ t. t)
        (λ t. let s : Hidden ws i = removes-found i h t in absurd (none s.earlier s.before s.inside));
    words = told.words ∙ ap₂ (λ l n. l ++ zeros (length ws - n)) kept-words kept-long;
    table = after-right.0;
    rows = after-row;
    action = λ p. same-action ws p kept (right_kept ws right);
    none_left = none_left;
    again = again;
    tried = λ p i t f. ap scan_tried (scan-first after p i after-right.0 t (rw (← after-right.1) f));
    tried_all = λ p t f. ap scan_tried (scan-unmatched after p after-right.0 t (λ i h. f i (omega (arith, after-right.1)))) ∙ sym after-right.1;
  }

-- 15, then 16 at the first wrong row, and nothing moves
pass-refused : PassRefused
pass-refused = record {
  length_first = λ ws h. let e = (refused-exactly ws (refusal_at WrongTable 0)).1 (wrong-length ws h) in (e, refused-stays ws (refusal_at WrongTable 0) e);
  then_rows = λ ws i h f. let e = (refused-exactly ws (refusal_at WrongRow i)).1 (check-first ws i h f) in (e, refused-stays ws (refusal_at WrongRow i) e);
}
  where
    wrong-length : (ws : List ℕ) → right_length ws ≡ false → check_of ws ≡ Err (refusal_at WrongTable 0)
    wrong-length ws h = fixed_answers.order.table_length ws h

-- the listing's buffers suffice for as many rows as it has room for
blank-room : room (length blank) ≡ listing_room
blank-room = let k : length blank ≡ row_length * listing_room = length-replicate {A = ℕ} (row_length * listing_room) 0 in omega arith

pass-listed : PassListed
unfolding listing_of
pass-listed = record {
  before_numbering = λ b n k t e q.
      let l = lists-rows (words_in b) n e in
      let same : l.count ≡ k = ap kept_count (sym l.stay ∙ q) in
      rw t (l.listed.text ∙ ap (λ m. rows_text m (table_rows m (table_kept (table_rows n (table_after (words_in b) blank blank))))) same);
  room = λ b l t e h. rw t (lists-refused (words_in b) (refusal_at NoRoom 0)
      ((table_follows_tree.for_room (words_in b) blank blank l e (omega (arith, blank-room))).1 (omega (arith, blank-room))));
  in_room = λ b l t e h. table_follows_tree.compiles (words_in b) blank blank l e (omega (arith, blank-room)) (omega (arith, blank-room));
}

kept-obeys-tree : KeptObeysTree
kept-obeys-tree f t s ps cs p n k i q e h g right o =
    let ws : List ℕ = table_rows n (table_after f t s) in
    let vs : List ℕ = table_rows k (table_kept ws) in
    let c : RightTable vs × (k ≡ row_count vs) = (check-exactly vs k).0 (kept-rows ws k e).check in
    let r : Ready vs ps cs = record { right = c.0; priorities = omega (arith, c.1); chain = omega (arith, c.1) } in
    (table_follows_tree.scan f t s p n q right).1
    ∙ ap gives (sym ((smallest_numbering vs ps cs r).switch p i right o ∙ (same-action ws p k e).1))

-- EVERY SENTENCE OF THE REQUEST
pub hidden_rows : HiddenRows
hidden_rows = record { passed = passed; refused = pass-refused; listed = pass-listed; obeyed = kept-obeys-tree }
