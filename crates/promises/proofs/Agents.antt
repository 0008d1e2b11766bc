-- The agent's calls: the words that bytes spell are those that are read of them, so what is returned and filled is what the scan and the numbering of those
-- words give, and bytes behind are those of words behind. Assumes nothing.
use Prim.Native.Nat.{ℕ, zero, suc, ◌+◌, ◌*◌, ◌-◌, ◌/◌, ◌%◌, ◌≤◌, ◌<◌}
use native.Mathlib.Omega.{arith}
use mathlib.Core.Path.{◌≡◌, refl, sym, ap, ◌∙◌}
use mathlib.Core.Bool.{Bool, true, false, ◌&&◌}
use mathlib.Core.Logic.{◌⊎◌, inl, inr}
use mathlib.Core.List.{List, [], ◌∷◌}
use lib.ListN.{length, get_or, take, drop, get_or-map}
use lib.Seq.{ext_get_or, get_or-drop, get_or-take}
use borrow.Author.Tests.{eqb-true, eqb-false, eq-eqb, ne_eqb}
use Rattle.std.specs.Prelude.{Result, Ok, Err}
use Rattle.logic.proofs.Tests.{by-test, and_both}
use Rattle.words.specs.Records.{records, rows_of, flat}
use Rattle.words.specs.Bytes.{word_bytes, word_of, words_in, bytes_of}
use Rattle.words.proofs.RecordLaws.{records-at}
use Rattle.words.proofs.Bytes.{length-words, length-bytes, words-read, bytes_read}
use Rattle.action.specs.Action.{kind_of, rate_of}
use Rattle.refusal.specs.Refusals.{answer_number, answer_place}
use Rattle.refusal.specs.declared.Refusal.{Refusal}
use Rattle.refusal.proofs.Numbers.{numbers-given}
use Rattle.table.specs.Table.{row_count}
use Rattle.table.specs.Scan.{scan_of, scan_action, scan_tried}
use Rattle.table.specs.declared.Found.{Found}
use Rattle.priority.specs.Numbering.{number_of, priorities_after, chain_after, answer_count}
use Rattle.priority.proofs.After.{refused-stays}
use Rattle.exports.specs.Exports.{whole_words, answer_sized, answer_of_scan, answer_of_numbering}
use Rattle.exports.specs.Exports.{scan_right, scan_number, scan_answer}
use Rattle.exports.specs.Exports.{numbering_right, numbering_number, numbering_answer, priorities_left, chain_left}
use Rattle.exports.proofs.Filled.{every_byte}
use Rattle.promises.specs.Told.{between}
use Rattle.promises.specs.Agents.{little_endian, Spells, small, Scanning, Numbering, uneven, other_answer, AgentCalls}
use Rattle.promises.proofs.Cases.{agent-cases}
use Rattle.promises.proofs.FixedAnswers.{fixed_answers}

-- the word at a place is the one that is read there
little-word : (b : List ℕ) (j : ℕ) → j < length b / word_bytes → little_endian b j ≡ get_or (words_in b) j 0
unfolding rows_of
little-word b j h =
    let rs : List (List ℕ) = records (length b / word_bytes) word_bytes b in
    let part : List ℕ = take word_bytes (drop (j * word_bytes) b) in
    let at : (i : ℕ) → i < word_bytes → get_or part i 0 ≡ get_or b (j * word_bytes + i) 0 = λ i l.
    get_or-take word_bytes (drop (j * word_bytes) b) i 0 l ∙ get_or-drop (j * word_bytes) b i 0 in
    let z : j * word_bytes + 0 ≡ j * word_bytes = omega arith in
    let first : get_or part 0 0 ≡ get_or b (j * word_bytes) 0 = at 0 (omega arith) ∙ ap (λ (i : ℕ). get_or b i 0) z in
    let is : word_of part ≡ little_endian b j = rw (first, at 1 (omega arith), at 2 (omega arith), at 3 (omega arith)) refl in
    sym is ∙ ap word_of (sym (records-at (length b / word_bytes) word_bytes j b h)) ∙ sym (get_or-map word_of rs j [])

-- the words that bytes spell are those that are read of them
spelled-words : (b ws : List ℕ) → Spells b ws → words_in b ≡ ws
spelled-words b ws s =
    let n : length (words_in b) ≡ length ws = omega (arith, length-words b, s.long) in
    ext_get_or 0 (words_in b) ws n
    (λ j h. sym (little-word b j (omega (arith, h, length-words b))) ∙ s.each j (omega (arith, h, n)))

-- and words are spelled by their bytes
spelled-bytes : (ws : List ℕ) → Spells (flat bytes_of ws) ws
spelled-bytes ws =
    let n : length (flat bytes_of ws) ≡ word_bytes * length ws = length-bytes ws in
    record {
      long = omega (arith, n);
      each = λ j h.
          little-word (flat bytes_of ws) j (omega (arith, h, n)) ∙ ap (λ (l : List ℕ). get_or l j 0) (words-read ws);
    }

even-spelled : (b : List ℕ) → length b % 4 ≡ 0 → Spells b (words_in b)
even-spelled b e =
    record {
      long = omega (arith, length-words b, e);
      each = λ j h. little-word b j (omega (arith, h, length-words b));
    }

whole : (b ws : List ℕ) → Spells b ws → whole_words b ≡ true
whole b ws s = eq-eqb (length b % word_bytes) 0 (omega (arith, s.long))

-- bytes are those of the words that they spell
back : (b ws : List ℕ) → Spells b ws → small b → flat bytes_of ws ≡ b
back b ws s h =
    ap (flat bytes_of) (sym (spelled-words b ws s)) ∙ bytes_read b (every_byte b h) (omega (arith, s.long))

-- bytes behind the first n words
drop-bytes : (n : ℕ) (ws : List ℕ) → drop (n * 4) (flat bytes_of ws) ≡ flat bytes_of (drop n ws)
drop-bytes zero ws = refl
drop-bytes (suc n) [] = let q : suc n * 4 ≡ suc (n * 4 + 3) = omega arith in rw q refl
drop-bytes (suc n) (w ∷ ws) =
    let q : suc n * 4 ≡ suc (suc (suc (suc (n * 4)))) = omega arith in
    ap (λ k. drop k (flat bytes_of (w ∷ ws))) q ∙ drop-bytes n ws

bytes-behind : (n j : ℕ) (ps qs : List ℕ) → drop n ps ≡ drop n qs → n * 4 ≤ j → get_or (flat bytes_of ps) j 0 ≡ get_or (flat bytes_of qs) j 0
bytes-behind n j ps qs e h =
    let k : j ≡ n * 4 + (j - n * 4) = omega (arith, h) in
    let from : (l : List ℕ) → get_or (flat bytes_of l) j 0 ≡ get_or (flat bytes_of (drop n l)) (j - n * 4) 0 = λ l.
    ap (λ (i : ℕ). get_or (flat bytes_of l) i 0) k
    ∙ sym (get_or-drop (n * 4) (flat bytes_of l) (j - n * 4) 0)
    ∙ ap (λ (b : List ℕ). get_or b (j - n * 4) 0) (drop-bytes n l) in
    from ps ∙ ap (λ (l : List ℕ). get_or (flat bytes_of l) (j - n * 4) 0) e ∙ sym (from qs)

-- a scan's four words, and a numbering's
scanned : (x : Result Found Refusal)
    → answer_of_scan x ≡ answer_place x ∷ kind_of (scan_action x) ∷ rate_of (scan_action x) ∷ scan_tried x ∷ []
scanned (Ok s) = refl
scanned (Err r) = refl

numbered : (x : Result ℕ Refusal) → answer_of_numbering x ≡ answer_place x ∷ answer_count x ∷ 0 ∷ 0 ∷ []
numbered (Ok n) = refl
numbered (Err r) = refl

-- a refusal has a number, and a success place 0
placed : {X : Type 0} (x : Result X Refusal) → answer_number x ≡ 0 → answer_place x ≡ 0
placed (Ok v) e = refl
placed (Err r) e = absurd (positive (numbers-given r.reason) e)
  where
    positive : {n : ℕ} → ((1 ≤ n) × (n ≤ 13)) ⊎ ((15 ≤ n) × (n ≤ 21)) → n ≡ 0 → ⊥
    positive (inl h) z = omega (arith, h.0, z)
    positive (inr h) z = omega (arith, h.0, z)

narrow : {K : Type 0} {n at : ℕ} → ((n ≡ 0) × (at ≡ 0)) ⊎ K → (n ≡ 0) ⊎ K
narrow (inl e) = inl e.0
narrow (inr k) = inr k

module _ (t p a ws ps : List ℕ) (st : Spells t ws) (sp : Spells p ps) (sa : length a ≡ 16) where
  right : scan_right t p a ≡ true
  right = and_both (and_both (whole t ws st) (whole p ps sp)) (eq-eqb (length a) 16 sa)

  gave : scan_number t p a ≡ answer_number (scan_of ws ps)
  unfolding scan_number
  gave = rw (right, spelled-words t ws st, spelled-words p ps sp) refl

  filled : scan_answer t p a ≡ flat bytes_of (answer_of_scan (scan_of ws ps))
  unfolding scan_answer
  filled = rw (right, spelled-words t ws st, spelled-words p ps sp) refl

  spelled : Spells (scan_answer t p a) (answer_of_scan (scan_of ws ps))
  spelled = rw filled (spelled-bytes (answer_of_scan (scan_of ws ps)))

  fills : Spells (scan_answer t p a)
      (answer_place (scan_of ws ps) ∷ kind_of (scan_action (scan_of ws ps)) ∷ rate_of (scan_action (scan_of ws ps)) ∷ scan_tried (scan_of ws ps) ∷ [])
  fills = rw (← scanned (scan_of ws ps)) spelled

  numbers : (scan_number t p a ≡ 0) ⊎ ((scan_number t p a ≡ 11) ⊎ between 15 16 (scan_number t p a))
  numbers = rw gave (narrow (fixed_answers.every_input.scan ws ps).number)

  scanning : Scanning t p a ws ps
  scanning = record {
    returns = gave;
    fills = fills;
    success = λ e. fills.each 0 (omega arith) ∙ placed (scan_of ws ps) (sym gave ∙ e);
    refused = λ r e. rw e at spelled;
    numbers = numbers;
  }

module _ (t p c a ws ps cs : List ℕ) (st : Spells t ws) (sp : Spells p ps) (sc : Spells c cs) (sa : length a ≡ 16) where
  abbrev answer : Result ℕ Refusal
  answer = number_of ws (length ps) (length cs)

  right4 : numbering_right t p c a ≡ true
  right4 = and_both (and_both (and_both (whole t ws st) (whole p ps sp)) (whole c cs sc)) (eq-eqb (length a) 16 sa)

  gave4 : numbering_number t p c a ≡ answer_number answer
  unfolding numbering_number
  gave4 = rw (right4, spelled-words t ws st, spelled-words p ps sp, spelled-words c cs sc) refl

  filled4 : numbering_answer t p c a ≡ flat bytes_of (answer_of_numbering answer)
  unfolding numbering_answer
  filled4 = rw (right4, spelled-words t ws st, spelled-words p ps sp, spelled-words c cs sc) refl

  spelled4 : Spells (numbering_answer t p c a) (answer_of_numbering answer)
  spelled4 = rw filled4 (spelled-bytes (answer_of_numbering answer))

  fills4 : Spells (numbering_answer t p c a) (answer_place answer ∷ answer_count answer ∷ 0 ∷ 0 ∷ [])
  fills4 = rw (← numbered answer) spelled4

  left : priorities_left t p c a ≡ flat bytes_of (priorities_after ws ps cs)
  unfolding priorities_left
  left = rw (right4, spelled-words t ws st, spelled-words p ps sp, spelled-words c cs sc) refl

  linked : chain_left t p c a ≡ flat bytes_of (chain_after ws ps cs)
  unfolding chain_left
  linked = rw (right4, spelled-words t ws st, spelled-words p ps sp, spelled-words c cs sc) refl

  numbers4 : (numbering_number t p c a ≡ 0) ⊎ between 15 17 (numbering_number t p c a)
  numbers4 = rw gave4 (narrow (fixed_answers.every_input.number ws (length ps) (length cs)).number)

  numbering : small p → small c → Numbering t p c a ws ps cs
  numbering hp hc = record {
    returns = gave4;
    fills = fills4;
    success = λ e. fills4.each 0 (omega arith) ∙ placed answer (sym gave4 ∙ e);
    refused = λ r e. rw e at spelled4;
    priorities = rw left (spelled-bytes (priorities_after ws ps cs));
    chain = rw linked (spelled-bytes (chain_after ws ps cs));
    behind_rows = λ n j e h.
        ap (λ (b : List ℕ). get_or b j 0) left
        ∙ bytes-behind (row_count ws) j (priorities_after ws ps cs) ps (fixed_answers.words_left.number_beyond ws ps cs n e).0 h
        ∙ ap (λ (b : List ℕ). get_or b j 0) (back p ps sp hp);
    behind_chain = λ n j e h.
        ap (λ (b : List ℕ). get_or b j 0) linked
        ∙ bytes-behind n j (chain_after ws ps cs) cs (fixed_answers.words_left.number_beyond ws ps cs n e).1 h
        ∙ ap (λ (b : List ℕ). get_or b j 0) (back c cs sc hc);
    stay = λ r e.
        let s = refused-stays ws ps cs r e in (
          left ∙ ap (flat bytes_of) s.0 ∙ back p ps sp hp,
          linked ∙ ap (flat bytes_of) s.1 ∙ back c cs sc hc,
        );
    numbers = numbers4;
  }

-- where a length is wrong, they are not all right
no-and : (x : Bool) → (x && false) ≡ false
no-and x = by-test x (λ t. rw t refl) (λ t. rw t refl)

not-whole : (b : List ℕ) → uneven b → whole_words b ≡ false
not-whole b u = ne_eqb (length b % word_bytes) 0 u

module _ (t p a : List ℕ) where
  wrong : uneven t ⊎ (uneven p ⊎ other_answer a) → scan_right t p a ≡ false
  wrong (inl u) = rw (not-whole t u) refl
  wrong (inr (inl u)) = rw (not-whole p u, no-and (whole_words t)) refl
  wrong (inr (inr u)) = rw (ne_eqb (length a) 16 u) (no-and (whole_words t && whole_words p))

  not-right : scan_number t p a ≡ 21 → uneven t ⊎ (uneven p ⊎ other_answer a)
  not-right e =
      by-test (whole_words t)
      (λ wt. by-test (whole_words p)
      (λ wp. by-test (answer_sized a)
      (λ ra.
      let even : (b : List ℕ) → whole_words b ≡ true → Spells b (words_in b) = λ b w. even-spelled b (eqb-true (length b % word_bytes) 0 w) in
      absurd (other (numbers t p a (words_in t) (words_in p) (even t wt) (even p wp) (eqb-true (length a) 16 ra)) e))
      (λ ra. inr (inr (eqb-false (length a) 16 ra))))
      (λ wp. inr (inl (eqb-false (length p % word_bytes) 0 wp))))
      (λ wt. inl (eqb-false (length t % word_bytes) 0 wt))
    where
      other : {n : ℕ} → (n ≡ 0) ⊎ ((n ≡ 11) ⊎ ((15 ≤ n) × (n ≤ 16))) → n ≡ 21 → ⊥
      other (inl h) z = omega (arith, h, z)
      other (inr (inl h)) z = omega (arith, h, z)
      other (inr (inr h)) z = omega (arith, h.1, z)

  refuses : uneven t ⊎ (uneven p ⊎ other_answer a) → scan_number t p a ≡ 21
  unfolding scan_number
  refuses u = rw (wrong u) refl

  keeps : scan_number t p a ≡ 21 → scan_answer t p a ≡ a
  unfolding scan_answer
  keeps e = rw (wrong (not-right e)) refl

module _ (t p c a : List ℕ) where
  wrong4 : uneven t ⊎ (uneven p ⊎ (uneven c ⊎ other_answer a)) → numbering_right t p c a ≡ false
  wrong4 (inl u) = rw (not-whole t u) refl
  wrong4 (inr (inl u)) = rw (not-whole p u, no-and (whole_words t)) refl
  wrong4 (inr (inr (inl u))) = rw (not-whole c u, no-and (whole_words t && whole_words p)) refl
  wrong4 (inr (inr (inr u))) = rw (ne_eqb (length a) 16 u) (no-and (whole_words t && whole_words p && whole_words c))

  not-right4 : numbering_number t p c a ≡ 21 → uneven t ⊎ (uneven p ⊎ (uneven c ⊎ other_answer a))
  not-right4 e =
      by-test (whole_words t)
      (λ wt. by-test (whole_words p)
      (λ wp. by-test (whole_words c)
      (λ wc. by-test (answer_sized a)
      (λ ra.
      let even : (b : List ℕ) → whole_words b ≡ true → Spells b (words_in b) = λ b w. even-spelled b (eqb-true (length b % word_bytes) 0 w) in
      absurd
      (other
      (numbers4 t p c a (words_in t) (words_in p) (words_in c) (even t wt) (even p wp) (even c wc) (eqb-true (length a) 16 ra)) e))
      (λ ra. inr (inr (inr (eqb-false (length a) 16 ra)))))
      (λ wc. inr (inr (inl (eqb-false (length c % word_bytes) 0 wc)))))
      (λ wp. inr (inl (eqb-false (length p % word_bytes) 0 wp))))
      (λ wt. inl (eqb-false (length t % word_bytes) 0 wt))
    where
      other : {n : ℕ} → (n ≡ 0) ⊎ ((15 ≤ n) × (n ≤ 17)) → n ≡ 21 → ⊥
      other (inl h) z = omega (arith, h, z)
      other (inr h) z = omega (arith, h.1, z)

  refuses4 : uneven t ⊎ (uneven p ⊎ (uneven c ⊎ other_answer a)) → numbering_number t p c a ≡ 21
  unfolding numbering_number
  refuses4 u = rw (wrong4 u) refl

  keeps4 : numbering_number t p c a ≡ 21 → (numbering_answer t p c a ≡ a) × (priorities_left t p c a ≡ p) × (chain_left t p c a ≡ c)
  unfolding numbering_answer priorities_left chain_left
  keeps4 e = let w : numbering_right t p c a ≡ false = wrong4 (not-right4 e) in (rw w refl, rw w refl, rw w refl)

pub agent_calls : AgentCalls
agent_calls = record {
  scanning = scanning;
  numbering = numbering;
  spelled = λ b e. (words_in b, even-spelled b e);
  lengths = record {
    scan = λ t p a. (not-right t p a, refuses t p a);
    numbering = λ t p c a. (not-right4 t p c a, refuses4 t p c a);
    scan_stays = keeps;
    numbering_stays = keeps4;
  };
  cases = agent-cases;
}
