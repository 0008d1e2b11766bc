-- No line is longer than its bound: each part has at most so many bytes, a number and its mark 65, or 21 where it is short. So no listing is longer: its rows
-- are right, so their numbers are short, and there are no more of them than it has room for. Assumes nothing.
use Rattle.std.proofs.Common.{ℕ, zero, suc, ◌+◌, ◌-◌, ◌*◌, ◌/◌, ◌%◌, ◌^◌, ◌≤◌, ◌<◌, arith, ◌≡◌, refl, Bool, true, false, List, [], ◌∷◌, ◌++◌, length, eqb}
use Rattle.std.proofs.Common.{length-append, Result, Ok, Err}
use lib.ListN.{length-replicate}
use Rattle.std.specs.Prelude.{codes, decimal}
use Rattle.std.specs.Fmt.{digits, digits_onto, digit_glyph}
use Rattle.std.proofs.lemmas.Fmt.{length-decimal-le_wide}
use Rattle.logic.specs.Lists.{All}
use Rattle.logic.proofs.Lists.{all_then, all_from, all_mapped}
use Rattle.logic.proofs.Tests.{by-test}
use Rattle.words.specs.Bytes.{words_in}
use Rattle.theory.specs.declared.Row.{Row}
use Rattle.theory.specs.Number.{level_count}
use Rattle.flow.specs.declared.Match.{Match}
use Rattle.flow.proofs.Laws.{Ranges, ranges}
use Rattle.action.specs.Action.{rate_of, in_range}
use Rattle.action.specs.declared.Action.{Action}
use Rattle.action.specs.declared.Action.TheVariants.{DontCare, Allow, Deny, Gmb}
use Rattle.action.proofs.Ranged.{rate-in}
use Rattle.row.specs.Row.{row_length, rows_in, table_rows, RightRow}
use Rattle.table.specs.Table.{row_count, RightTable}
use Rattle.table.proofs.Tables.{check-exactly, table-rows}
use Rattle.hidden.specs.Hidden.{table_kept}
use Rattle.hidden.specs.Theorems.{KeptTells}
use Rattle.hidden.proofs.Laws.{kept-rows}
use Rattle.refusal.specs.Refusals.{reason_number, refusal_number}
use Rattle.refusal.specs.declared.Reason.TheVariants.{WrongInput}
use Rattle.refusal.specs.declared.Refusal.{Refusal}
use Rattle.compile.specs.Compile.{answer_of, table_after}
use Rattle.compile.proofs.Answered.{answers-rows}
use Rattle.priority.specs.Numbering.{levels_of, priorities_of}
use Rattle.priority.proofs.Whole.{levels-few}
use Rattle.show.specs.Text.{number, value_text, value, address, match_text, action_text, line, head, refusal}
use Rattle.show.specs.Sheet.{listing_room, lines}
use Rattle.text.specs.Listing.{right_input, blank, file_text, listing_of, ListedKept}
use Rattle.text.proofs.Right.{table-right}
use Rattle.text.proofs.Lists.{lists-rows, lists-refused}
use Rattle.promises.specs.Lengths.{longest_line, longest_listing, Short, ShortRow, LineWithin, HeadWithin, RefusalWithin, NeverCut, ListingLengths}

-- a text of at most so many bytes
record Within (F : List ℕ) (n : ℕ) : Type 0 where
  is : length F ≤ n

-- text behind text
infixl 40 ◌behind◌
◌behind◌ : {F G : List ℕ} {m n : ℕ} → Within F m → Within G n → Within (F ++ G) (m + n)
◌behind◌ {F} {G} p q = record { is = omega (arith, length-append F G, p.is, q.is) }

quoted : (F : List ℕ) → Within F (length F)
quoted F = record { is = omega arith }

-- a number has at most 64 digits, one each turn
digits-long : (k n : ℕ) (acc : List ℕ) → length (digits_onto k 10 false n acc) ≤ k + length acc
digits-long zero n acc = omega arith
digits-long (suc k) n acc = by-test (eqb (n / 10) 0)
    (λ t. rw t (omega arith))
    (λ t. rw t (omega (arith, digits-long k (n / 10) (digit_glyph false (n % 10) ∷ acc))))

decimal-long : (n : ℕ) → Within (decimal n) 64
unfolding digits
decimal-long n = record { is = omega (arith, digits-long 64 n []) }

number-long : (n mark : ℕ) → Within (number n mark) 65
unfolding number
number-long n mark = decimal-long n behind quoted (mark ∷ [])

-- fewer, where it is below a power of 10
number-below : (k n mark : ℕ) → 0 < k → n < 10 ^ k → n < 10 ^ 64 → Within (number n mark) (k + 1)
unfolding number
number-below k n mark some h g =
    let d : Within (decimal n) k = record { is = length-decimal-le_wide k n some h g } in
    d behind quoted (mark ∷ [])

number-short : (n mark : ℕ) → Short n → Within (number n mark) 21
number-short n mark h = number-below 20 n mark (omega arith) h (omega arith)

number-byte : (a mark : ℕ) → Within (number (a % 256) mark) 4
number-byte a mark = number-below 3 (a % 256) mark (omega arith) (omega arith) (omega arith)

-- the bounds, part by part
value-short : (c : Bool) (v : ℕ) → Short v → Within (value c v) 21
unfolding value_text
value-short true v h = number-short v 32 h
value-short false v h = record { is = omega arith }

address-short : (a n : ℕ) → Short n → Within (address a n) 98
unfolding address
address-short a n h =
    number-long (a / 16777216) 46
    behind number-byte (a / 65536) 46
    behind number-byte (a / 256) 46
    behind number-byte a 47
    behind number-short n 32 h

match-short : (r : Row Match Action) → ShortRow r → Within (match_text r.matching) 280
unfolding match_text
match-short r s =
    value-short _ _ s.in_port
    behind address-short _ _ s.source_length
    behind address-short _ _ s.destination_length
    behind value-short _ _ s.protocol
    behind value-short _ _ s.source_port
    behind value-short _ _ s.destination_port

action-short : (a : Action) → Short (rate_of a) → Within (action_text a) 25
unfolding action_text
action-short DontCare h = record { is = omega arith }
action-short Allow h = record { is = omega arith }
action-short Deny h = record { is = omega arith }
action-short (Gmb n) h = quoted (codes "gmb ") behind number-short n 10 h

line-within : LineWithin
unfolding line
line-within p r h s =
    let b : Within (line p r) 326 = number-short p 32 h behind match-short r s behind action-short r.action s.rate in
    omega (arith, b.is)

head-within : HeadWithin
unfolding head
head-within n l =
    let b : Within (head n l) 146 = quoted (codes "rows ") behind number-long n 32 behind quoted (codes "priorities ") behind number-long l 10 in
    omega (arith, b.is)

refusal-within : RefusalWithin
unfolding refusal
refusal-within n i =
    let b : Within (refusal n i) 138 = quoted (codes "refused ") behind number-long n 32 behind number-long i 10 in
    omega (arith, b.is)

-- the numbers of a right row are short
rate-short : (a : Action) → in_range a ≡ true → Short (rate_of a)
unfolding in_range
rate-short DontCare e = omega arith
rate-short Allow e = omega arith
rate-short Deny e = omega arith
rate-short (Gmb n) e = omega (arith, (rate-in n e).1)

row-short : (r : Row Match Action) → RightRow r → ShortRow r
row-short r h =
    let m : Ranges r.matching = ranges r.matching h.matching in
    record {
      in_port = omega (arith, m.in_port);
      source_length = omega (arith, m.source_length);
      destination_length = omega (arith, m.destination_length);
      protocol = omega (arith, m.protocol);
      source_port = omega (arith, m.source_port);
      destination_port = omega (arith, m.destination_port);
      rate = rate-short r.action h.action;
    }

-- as many lines as rows, at most
lines-within : (ps : List ℕ) (rs : List (Row Match Action)) → All Short ps → All ShortRow rs → length (lines ps rs) ≤ longest_line * length rs
lines-within [] rs h s = omega arith
lines-within (p ∷ ps) [] h s = omega arith
lines-within (p ∷ ps) (r ∷ rs) h s =
    omega (arith, length-append (line p r) (lines ps rs), line-within p r h.0 s.0, lines-within ps rs h.1 s.1)

-- the rows that are listed of a file, where the compile answers rows
module _ (f : List ℕ) (n : ℕ) (e : answer_of f blank blank ≡ Ok n) where
  -- the compiled rows, and those of them that stay
  abbrev compiled : List ℕ
  compiled = table_rows n (table_after f blank blank)

  kept : ListedKept f compiled
  kept = lists-rows f n e

  abbrev shown : List ℕ
  shown = table_rows kept.count (table_kept compiled)

  told : KeptTells compiled kept.count
  told = kept-rows compiled kept.count kept.stay

  few : kept.count ≤ listing_room
  few =
      let k : length blank ≡ row_length * listing_room = length-replicate {A = ℕ} (row_length * listing_room) 0 in
      omega (arith, (answers-rows f blank blank n e).fits, ((check-exactly compiled n).0 (table-right f blank blank n e)).1, told.fewer)

  right : RightTable shown × (kept.count ≡ row_count shown)
  right = (check-exactly shown kept.count).0 told.check

  rows-short : All ShortRow (rows_in shown)
  rows-short = all_then RightRow ShortRow row-short (rows_in shown) (table-rows shown right.0)

  priorities-short : All Short (priorities_of shown)
  priorities-short =
      let l : ℕ = level_count (levels_of shown) in
      let below : l ≤ listing_room = omega (arith, levels-few shown, right.1, few) in
      all_mapped Short (λ k. l - k) (levels_of shown) (all_from (λ k. Short (l - k)) 0 (levels_of shown) (λ i h. omega arith))

  pub rows-within : length (file_text f) ≤ longest_listing
  rows-within =
      let h : length (head kept.count (level_count (levels_of shown))) ≤ longest_line = head-within _ _ in
      let i : length (lines (priorities_of shown) (rows_in shown)) ≤ longest_line * length (rows_in shown) =
      lines-within (priorities_of shown) (rows_in shown) priorities-short rows-short in
      rw (kept.listed.text, length-append) (omega (arith, few, kept.listed.rows))

file-within : (f : List ℕ) → length (file_text f) ≤ longest_listing
file-within f = by_answer (answer_of f blank blank) refl
  where
    by_answer : (x : Result ℕ Refusal) → answer_of f blank blank ≡ x → length (file_text f) ≤ longest_listing
    by_answer (Ok n) e = rows-within f n e
    by_answer (Err r) e = rw (lists-refused f r e) (omega (arith, refusal-within (refusal_number r) r.place))

never-cut : NeverCut
unfolding listing_of
never-cut b = by-test (right_input b)
    (λ t. rw t (file-within (words_in b)))
    (λ t. rw t (omega (arith, refusal-within (reason_number WrongInput) 0)))

pub listing_lengths : ListingLengths
listing_lengths = record {
  line_within = line-within;
  head_within = head-within;
  refusal_within = refusal-within;
  never_cut = never-cut;
}
