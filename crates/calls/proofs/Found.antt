-- What is found in bytes against what is sent: each part that was sent is found, and each that is found was sent. Assumes nothing.
use Rattle.std.proofs.Common.{◌≡◌, refl, sym, ap, ◌∙◌, subst, arith, ℕ, ◌*◌, ◌%◌, ◌≤◌, Bool, true, false, cond, eqb, leb, List, [], ◌∷◌, ◌++◌, append_assoc}
use Rattle.std.proofs.Common.{length, take, Some, None, length-append, take-append-drop, length-take-le, Option, le-leb, leb-true, eqb-true, take_at, drop_at}
use Rattle.std.proofs.lemmas.Option.{none-some, same_Some, cond_some}
use Rattle.words.specs.Records.{flat}
use Rattle.words.specs.Bytes.{word_bytes, word_of, words_in, bytes_of}
use Rattle.words.specs.Theorems.{EveryByte}
use Rattle.words.proofs.Bytes.{length-bytes, length-words, words-read, bytes-of, bytes_read}
use Rattle.calls.specs.Sent.{most_words, most_bytes, most_lent, slice_bytes, padding, counted, TextSent}
use Rattle.calls.specs.Calls.{Call, read, tree_action, compile, scan, number, list, hidden, capture, agent_scan, agent_number, Within, Sent, IsCall}
use Rattle.calls.specs.Calls.{read_call, tree_action_call, compile_call, scan_call, number_call, list_call, hidden_call, capture_call}
use Rattle.calls.specs.Calls.{agent_scan_call, agent_number_call}
use Rattle.calls.specs.Taken.{found, then_in, bytes_in, word_in, at_most, count_in, slice_in, two_in, three_in, text_in, body_in, call_in}
use Rattle.calls.specs.Taken.{two_lent_in, three_lent_in, four_lent_in}
use Rattle.calls.specs.Theorems.{CallFound, FoundCall}

-- a test decides
chosen : {X Z : Type 0} (t : Bool) (x y v : X) → cond t x y ≡ v → (t ≡ true → x ≡ v → Z) → (t ≡ false → y ≡ v → Z) → Z
chosen true x y v e f g = f refl e
chosen false x y v e f g = g refl e

-- what was found and what is left, of two answers that are one
pub halves : {A : Type 0} (p q : Option A × List ℕ) → p ≡ q → (p.0 ≡ q.0) × (p.1 ≡ q.1)
halves {A} p q e = (ap (λ (r : Option A × List ℕ). r.0) e, ap (λ (r : Option A × List ℕ). r.1) e)

-- what was found was found by its parts
pub found_of : {A B : Type 0} (f : A → B) (o : Option A × List ℕ) (y : B) (rest : List ℕ) → found f o ≡ (Some y, rest)
    → (x : A) × (o ≡ (Some x, rest)) × (f x ≡ y)
found_of f (None, r) y rest e = absurd (none-some y (halves _ _ e).0)
found_of {A} f (Some x, r) y rest e =
    let p = halves _ _ e in
    let pair : List ℕ → Option A × List ℕ = λ l. (Some x, l) in
    (x, ap pair p.1, same_Some (f x) y p.0)

pub then_of : {A B : Type 0} (o : Option A × List ℕ) (f : A → List ℕ → Option B × List ℕ) (y : B) (rest : List ℕ) → then_in o f ≡ (Some y, rest)
    → (x : A) × (mid : List ℕ) × (o ≡ (Some x, mid)) × (f x mid ≡ (Some y, rest))
then_of (None, r) f y rest e = absurd (none-some y (halves _ _ e).0)
then_of (Some x, mid) f y rest e = (x, mid, refl, e)

-- bytes that stand behind others are bytes
every-left : (x y : List ℕ) → EveryByte (x ++ y) → EveryByte x
every-left [] y h = tt
every-left (b ∷ x) y h = (h.0, every-left x y h.1)

every-right : (x y : List ℕ) → EveryByte (x ++ y) → EveryByte y
every-right [] y h = h
every-right (b ∷ x) y h = every-right x y h.1

-- a part s of bytes, with what is left behind it
record Part (bytes s rest : List ℕ) : Type 0 where
  parts : bytes ≡ s ++ rest
  part : EveryByte s
  left : EveryByte rest

part_of : (bytes s rest : List ℕ) → EveryByte bytes → bytes ≡ s ++ rest → Part bytes s rest
part_of bytes s rest h e =
    let g : EveryByte (s ++ rest) = subst EveryByte e h in
    record { parts = e; part = every-left s rest g; left = every-right s rest g }

-- a part behind a part
part_then : (bytes s mid t rest : List ℕ) → Part bytes s mid → Part mid t rest → EveryByte bytes → Part bytes (s ++ t) rest
part_then bytes s mid t rest p q h = part_of bytes (s ++ t) rest h (p.parts ∙ ap (λ l. s ++ l) q.parts ∙ sym (append_assoc s t rest))

-- so many bytes
bytes-found : (n : ℕ) (x rest : List ℕ) → length x ≡ n → bytes_in n (x ++ rest) ≡ (Some x, rest)
unfolding bytes_in
bytes-found n x rest e =
    let h : n ≤ length (x ++ rest) = omega (arith, length-append x rest) in
    rw (le-leb n (length (x ++ rest)) h, take_at x rest n e, drop_at x rest n e)

pub found_bytes : (n : ℕ) (b x rest : List ℕ) → bytes_in n b ≡ (Some x, rest) → (b ≡ x ++ rest) × (length x ≡ n)
unfolding bytes_in
found_bytes n b x rest e =
    let p = halves _ _ e in
    let q = cond_some (leb n (length b)) (take n b) x p.0 in
    (rw (← q.1, ← p.1) (sym (take-append-drop n b)), rw (← q.1) (length-take-le n b (leb-true n (length b) q.0)))

-- a word
word-found : (w : ℕ) (rest : List ℕ) → word_in (bytes_of w ++ rest) ≡ (Some w, rest)
unfolding word_in
word-found w rest =
    let e : word_of (bytes_of w) ≡ w = omega arith in
    ap (found word_of) (bytes-found word_bytes (bytes_of w) rest refl) ∙ ap (λ v. (Some v, rest)) e

word-back : (b : List ℕ) → EveryByte b → length b ≡ word_bytes → bytes_of (word_of b) ≡ b
word-back [] h e = absurd (omega arith)
word-back (p ∷ []) h e = absurd (omega arith)
word-back (p ∷ q ∷ []) h e = absurd (omega arith)
word-back (p ∷ q ∷ r ∷ []) h e = absurd (omega arith)
word-back (p ∷ q ∷ r ∷ s ∷ []) h e = bytes-of p q r s (word_of (p ∷ q ∷ r ∷ s ∷ [])) h.0 h.1.0 h.1.1.0 h.1.1.1.0 refl
word-back (p ∷ q ∷ r ∷ s ∷ t ∷ b) h e = absurd (omega arith)

found_word : (b rest : List ℕ) (w : ℕ) → EveryByte b → word_in b ≡ (Some w, rest) → Part b (bytes_of w) rest
unfolding word_in
found_word b rest w h e =
    let p = found_of word_of (bytes_in word_bytes b) w rest e in
    let q = found_bytes word_bytes b p.0 rest p.1 in
    let x = part_of b p.0 rest h q.0 in
    let f : p.0 ≡ bytes_of w = sym (word-back p.0 x.part q.1) ∙ ap bytes_of p.2 in
    part_of b (bytes_of w) rest h (q.0 ∙ ap (λ s. s ++ rest) f)

-- a count
count-found : (most n : ℕ) (rest : List ℕ) → n ≤ most → count_in most (bytes_of n ++ rest) ≡ (Some n, rest)
unfolding count_in
count-found most n rest h = ap (λ o. then_in o (at_most most)) (word-found n rest) ∙ rw (le-leb n most h)

found_count : (most n : ℕ) (b rest : List ℕ) → EveryByte b → count_in most b ≡ (Some n, rest) → Part b (bytes_of n) rest × (n ≤ most)
unfolding count_in
found_count most n b rest h e =
    let p = then_of (word_in b) (at_most most) n rest e in
    let q = found_word b p.1 p.0 h p.2 in
    let r = halves _ _ p.3 in
    let s = cond_some (leb p.0 most) p.0 n r.0 in (
      subst (λ (m : ℕ). Part b (bytes_of m) rest) s.1 (subst (λ (l : List ℕ). Part b (bytes_of p.0) l) r.1 q),
      subst (λ (m : ℕ). m ≤ most) s.1 (leb-true p.0 most s.0),
    )

-- a slice of words
slice-found : (ws rest : List ℕ) → length ws ≤ most_words → slice_in (slice_bytes ws ++ rest) ≡ (Some ws, rest)
unfolding slice_in
slice-found ws rest h =
    ap (λ o. then_in o (λ n behind. found words_in (bytes_in (word_bytes * n) behind))) (count-found most_words (length ws) (flat bytes_of ws ++ rest) h)
    ∙ ap (found words_in) (bytes-found (word_bytes * length ws) (flat bytes_of ws) rest (length-bytes ws))
    ∙ ap (λ v. (Some v, rest)) (words-read ws)

found_slice : (b ws rest : List ℕ) → EveryByte b → slice_in b ≡ (Some ws, rest) → Part b (slice_bytes ws) rest × (length ws ≤ most_words)
unfolding slice_in
found_slice b ws rest h e =
    let p = then_of (count_in most_words b) (λ n behind. found words_in (bytes_in (word_bytes * n) behind)) ws rest e in
    let n = found_count most_words p.0 b p.1 h p.2 in
    let q = found_of words_in (bytes_in (word_bytes * p.0) p.1) ws rest p.3 in
    let x = found_bytes (word_bytes * p.0) p.1 q.0 rest q.1 in
    let y = part_of p.1 q.0 rest n.0.left x.0 in
    let whole : length q.0 % word_bytes ≡ 0 = omega arith in
    let f : flat bytes_of ws ≡ q.0 = ap (flat bytes_of) (sym q.2) ∙ bytes_read q.0 y.part whole in
    let l : length ws ≡ p.0 = ap length (sym q.2) ∙ length-words q.0 ∙ omega arith in (
      part_of b (slice_bytes ws) rest h
          (n.0.parts ∙ ap (λ k. bytes_of k ++ p.1) (sym l) ∙ ap (λ s. bytes_of (length ws) ++ s) (x.0 ∙ ap (λ s. s ++ rest) (sym f))
          ∙ sym (append_assoc (bytes_of (length ws)) (flat bytes_of ws) rest)),
      rw l n.1,
    )

-- two and three slices
two-found : (x y rest : List ℕ) → length x ≤ most_words → length y ≤ most_words → two_in ((slice_bytes x ++ slice_bytes y) ++ rest) ≡ (Some (x, y), rest)
unfolding two_in
two-found x y rest h k =
    ap (λ b. then_in (slice_in b) (λ x behind. found (λ y. (x, y)) (slice_in behind))) (append_assoc (slice_bytes x) (slice_bytes y) rest)
    ∙ ap (λ o. then_in o (λ x behind. found (λ y. (x, y)) (slice_in behind))) (slice-found x (slice_bytes y ++ rest) h)
    ∙ ap (found (λ y. (x, y))) (slice-found y rest k)

found_two : (b rest : List ℕ) (x : List ℕ × List ℕ) → EveryByte b → two_in b ≡ (Some x, rest)
    → Part b (slice_bytes x.0 ++ slice_bytes x.1) rest × (length x.0 ≤ most_words) × (length x.1 ≤ most_words)
unfolding two_in
found_two b rest x h e =
    let p = then_of (slice_in b) (λ x behind. found (λ y. (x, y)) (slice_in behind)) x rest e in
    let q = found_slice b p.0 p.1 h p.2 in
    let r = found_of (λ y. (p.0, y)) (slice_in p.1) x rest p.3 in
    let s = found_slice p.1 r.0 rest q.0.left r.1 in
    rw (← r.2) (part_then b (slice_bytes p.0) p.1 (slice_bytes r.0) rest q.0 s.0 h, q.1, s.1)

three-found : (x y z rest : List ℕ) → length x ≤ most_words → length y ≤ most_words → length z ≤ most_words
    → three_in (((slice_bytes x ++ slice_bytes y) ++ slice_bytes z) ++ rest) ≡ (Some (x, y, z), rest)
unfolding three_in
three-found x y z rest h k l =
    ap (λ b. then_in (two_in b) (λ x behind. found (λ z. (x.0, x.1, z)) (slice_in behind))) (append_assoc (slice_bytes x ++ slice_bytes y) (slice_bytes z) rest)
    ∙ ap (λ o. then_in o (λ x behind. found (λ z. (x.0, x.1, z)) (slice_in behind))) (two-found x y (slice_bytes z ++ rest) h k)
    ∙ ap (found (λ z. (x, y, z))) (slice-found z rest l)

found_three : (b rest : List ℕ) (x : List ℕ × List ℕ × List ℕ) → EveryByte b → three_in b ≡ (Some x, rest)
    → Part b ((slice_bytes x.0 ++ slice_bytes x.1) ++ slice_bytes x.2) rest × (length x.0 ≤ most_words) × (length x.1 ≤ most_words) × (length x.2 ≤ most_words)
unfolding three_in
found_three b rest x h e =
    let p = then_of (two_in b) (λ x behind. found (λ z. (x.0, x.1, z)) (slice_in behind)) x rest e in
    let q = found_two b p.1 p.0 h p.2 in
    let r = found_of (λ z. (p.0.0, p.0.1, z)) (slice_in p.1) x rest p.3 in
    let s = found_slice p.1 r.0 rest q.0.left r.1 in
    rw (← r.2) (part_then b (slice_bytes p.0.0 ++ slice_bytes p.0.1) p.1 (slice_bytes r.0) rest q.0 s.0 h, q.1, q.2, s.1)

-- a text
counted-found : (most : ℕ) (t pad rest : List ℕ) → length t ≤ most → length pad ≡ padding (length t)
    → text_in most (counted (length t) t pad ++ rest) ≡ (Some t, rest)
unfolding text_in
counted-found most t pad rest h e =
    ap (λ o. then_in o (λ n mid. then_in (bytes_in n mid) (λ text behind. found (λ pad. text) (bytes_in (padding n) behind))))
    (count-found most (length t) ((t ++ pad) ++ rest) h)
    ∙ ap (λ l. then_in (bytes_in (length t) l) (λ text behind. found (λ pad. text) (bytes_in (padding (length t)) behind))) (append_assoc t pad rest)
    ∙ ap (λ o. then_in o (λ text behind. found (λ pad. text) (bytes_in (padding (length t)) behind))) (bytes-found (length t) t (pad ++ rest) refl)
    ∙ ap (found (λ pad. t)) (bytes-found (padding (length t)) pad rest e)

text-found : (most : ℕ) (t s rest : List ℕ) → length t ≤ most → TextSent t s → text_in most (s ++ rest) ≡ (Some t, rest)
text-found most t s rest h x = ap (λ l. text_in most (l ++ rest)) x.2 ∙ counted-found most t x.0 rest h x.1

text_part : (b mid behind rest t pad : List ℕ) (n : ℕ) → EveryByte b → b ≡ bytes_of n ++ mid → mid ≡ t ++ behind → length t ≡ n → behind ≡ pad ++ rest
    → length pad ≡ padding n → (s : List ℕ) × TextSent t s × Part b s rest
text_part b mid behind rest t pad n h p q l r k = (
  counted (length t) t pad,
  (pad, k ∙ ap padding (sym l), refl),
  part_of b (counted (length t) t pad) rest h
      (p ∙ ap (λ k. bytes_of k ++ mid) (sym l) ∙ ap (λ s. bytes_of (length t) ++ s) (q ∙ ap (λ s. t ++ s) r ∙ sym (append_assoc t pad rest))
      ∙ sym (append_assoc (bytes_of (length t)) (t ++ pad) rest)),
)

found_text : (most : ℕ) (b t rest : List ℕ) → EveryByte b → text_in most b ≡ (Some t, rest)
    → (s : List ℕ) × TextSent t s × Part b s rest × (length t ≤ most)
unfolding text_in
found_text most b t rest h e =
    let p = then_of (count_in most b) (λ n mid. then_in (bytes_in n mid) (λ text behind. found (λ pad. text) (bytes_in (padding n) behind))) t rest e in
    let n = found_count most p.0 b p.1 h p.2 in
    let q = then_of (bytes_in p.0 p.1) (λ text behind. found (λ pad. text) (bytes_in (padding p.0) behind)) t rest p.3 in
    let x = found_bytes p.0 p.1 q.0 q.1 q.2 in
    let r = found_of (λ pad. q.0) (bytes_in (padding p.0) q.1) t rest q.3 in
    let y = found_bytes (padding p.0) q.1 r.0 rest r.1 in
    let l : length t ≡ p.0 = ap length (sym r.2) ∙ x.1 in
    let w = text_part b p.1 q.1 rest t r.0 p.0 h n.0.parts (x.0 ∙ ap (λ s. s ++ q.1) r.2) l y.0 y.1 in
    (w.0, w.1, w.2, rw l n.1)

-- two, three and four buffers of bytes
two_lent-found : (t p x y rest : List ℕ) → length t ≤ most_lent → length p ≤ most_lent → TextSent t x → TextSent p y
    → two_lent_in ((x ++ y) ++ rest) ≡ (Some (t, p), rest)
unfolding two_lent_in
two_lent-found t p x y rest h k s u =
    ap (λ b. then_in (text_in most_lent b) (λ t behind. found (λ p. (t, p)) (text_in most_lent behind))) (append_assoc x y rest)
    ∙ ap (λ o. then_in o (λ t behind. found (λ p. (t, p)) (text_in most_lent behind))) (text-found most_lent t x (y ++ rest) h s)
    ∙ ap (found (λ p. (t, p))) (text-found most_lent p y rest k u)

found_two_lent : (b rest : List ℕ) (x : List ℕ × List ℕ) → EveryByte b → two_lent_in b ≡ (Some x, rest)
    → (s : List ℕ) × (u : List ℕ) × TextSent x.0 s × TextSent x.1 u × Part b (s ++ u) rest × (length x.0 ≤ most_lent) × (length x.1 ≤ most_lent)
unfolding two_lent_in
found_two_lent b rest x h e =
    let p = then_of (text_in most_lent b) (λ t behind. found (λ p. (t, p)) (text_in most_lent behind)) x rest e in
    let q = found_text most_lent b p.0 p.1 h p.2 in
    let r = found_of (λ y. (p.0, y)) (text_in most_lent p.1) x rest p.3 in
    let s = found_text most_lent p.1 r.0 rest q.2.left r.1 in
    rw (← r.2) (q.0, s.0, q.1, s.1, part_then b q.0 p.1 s.0 rest q.2 s.2 h, q.3, s.3)

three_lent-found : (t p a x y z rest : List ℕ) → length t ≤ most_lent → length p ≤ most_lent → length a ≤ most_lent
    → TextSent t x → TextSent p y → TextSent a z → three_lent_in (((x ++ y) ++ z) ++ rest) ≡ (Some (t, p, a), rest)
unfolding three_lent_in
three_lent-found t p a x y z rest h k l s u v =
    ap (λ b. then_in (two_lent_in b) (λ x behind. found (λ z. (x.0, x.1, z)) (text_in most_lent behind))) (append_assoc (x ++ y) z rest)
    ∙ ap (λ o. then_in o (λ x behind. found (λ z. (x.0, x.1, z)) (text_in most_lent behind))) (two_lent-found t p x y (z ++ rest) h k s u)
    ∙ ap (found (λ z. (t, p, z))) (text-found most_lent a z rest l v)

found_three_lent : (b rest : List ℕ) (x : List ℕ × List ℕ × List ℕ) → EveryByte b → three_lent_in b ≡ (Some x, rest)
    → (s : List ℕ) × (u : List ℕ) × (v : List ℕ) × TextSent x.0 s × TextSent x.1 u × TextSent x.2 v × Part b ((s ++ u) ++ v) rest
    × (length x.0 ≤ most_lent) × (length x.1 ≤ most_lent) × (length x.2 ≤ most_lent)
unfolding three_lent_in
found_three_lent b rest x h e =
    let p = then_of (two_lent_in b) (λ x behind. found (λ z. (x.0, x.1, z)) (text_in most_lent behind)) x rest e in
    let q = found_two_lent b p.1 p.0 h p.2 in
    let r = found_of (λ z. (p.0.0, p.0.1, z)) (text_in most_lent p.1) x rest p.3 in
    let s = found_text most_lent p.1 r.0 rest q.4.left r.1 in
    rw (← r.2) (q.0, q.1, s.0, q.2, q.3, s.1, part_then b (q.0 ++ q.1) p.1 s.0 rest q.4 s.2 h, q.5, q.6, s.3)

four_lent-found : (t p c a x y z w rest : List ℕ) → length t ≤ most_lent → length p ≤ most_lent → length c ≤ most_lent → length a ≤ most_lent
    → TextSent t x → TextSent p y → TextSent c z → TextSent a w → four_lent_in ((((x ++ y) ++ z) ++ w) ++ rest) ≡ (Some (t, p, c, a), rest)
unfolding four_lent_in
four_lent-found t p c a x y z w rest h k l m s u v o =
    ap (λ b. then_in (three_lent_in b) (λ x behind. found (λ w. (x.0, x.1, x.2, w)) (text_in most_lent behind))) (append_assoc ((x ++ y) ++ z) w rest)
    ∙ ap (λ f. then_in f (λ x behind. found (λ w. (x.0, x.1, x.2, w)) (text_in most_lent behind)))
    (three_lent-found t p c x y z (w ++ rest) h k l s u v)
    ∙ ap (found (λ w. (t, p, c, w))) (text-found most_lent a w rest m o)

found_four_lent : (b rest : List ℕ) (x : List ℕ × List ℕ × List ℕ × List ℕ) → EveryByte b → four_lent_in b ≡ (Some x, rest)
    → (s : List ℕ) × (u : List ℕ) × (v : List ℕ) × (w : List ℕ) × TextSent x.0 s × TextSent x.1 u × TextSent x.2 v × TextSent x.3 w
    × Part b (((s ++ u) ++ v) ++ w) rest
    × (length x.0 ≤ most_lent) × (length x.1 ≤ most_lent) × (length x.2 ≤ most_lent) × (length x.3 ≤ most_lent)
unfolding four_lent_in
found_four_lent b rest x h e =
    let p = then_of (three_lent_in b) (λ x behind. found (λ w. (x.0, x.1, x.2, w)) (text_in most_lent behind)) x rest e in
    let q = found_three_lent b p.1 p.0 h p.2 in
    let r = found_of (λ w. (p.0.0, p.0.1, p.0.2, w)) (text_in most_lent p.1) x rest p.3 in
    let s = found_text most_lent p.1 r.0 rest q.6.left r.1 in
    rw (← r.2) (q.0, q.1, q.2, s.0, q.3, q.4, q.5, s.1, part_then b ((q.0 ++ q.1) ++ q.2) p.1 s.0 rest q.6 s.2 h, q.7, q.8, q.9, s.3)

-- THE CALL: what stands behind its number, found
behind : (n : ℕ) (body : List ℕ) → call_in (bytes_of n ++ body) ≡ body_in n body
unfolding call_in
behind n body = ap (λ o. then_in o body_in) (word-found n body)

sent : (n : ℕ) (s body rest : List ℕ) → s ≡ bytes_of n ++ body → call_in (s ++ rest) ≡ body_in n (body ++ rest)
sent n s body rest e = ap (λ b. call_in (b ++ rest)) e ∙ behind n (body ++ rest)

pub call_found : CallFound
unfolding body_in
call_found (read f) s rest c = sent read_call s (slice_bytes f) rest c.sent ∙ ap (found (λ x. read x)) (slice-found f rest c.within)
call_found (tree_action f p) s rest c =
    sent tree_action_call s (slice_bytes f ++ slice_bytes p) rest c.sent
    ∙ ap (found (λ x. tree_action x.0 x.1)) (two-found f p rest c.within.0 c.within.1)
call_found (compile f t x) s rest c =
    sent compile_call s ((slice_bytes f ++ slice_bytes t) ++ slice_bytes x) rest c.sent
    ∙ ap (found (λ x. compile x.0 x.1 x.2)) (three-found f t x rest c.within.0 c.within.1 c.within.2)
call_found (scan t p) s rest c =
    sent scan_call s (slice_bytes t ++ slice_bytes p) rest c.sent
    ∙ ap (found (λ x. scan x.0 x.1)) (two-found t p rest c.within.0 c.within.1)
call_found (number t ps cs) s rest c =
    sent number_call s ((slice_bytes t ++ slice_bytes ps) ++ slice_bytes cs) rest c.sent
    ∙ ap (found (λ x. number x.0 x.1 x.2)) (three-found t ps cs rest c.within.0 c.within.1 c.within.2)
call_found (list b) s rest c =
    sent list_call s c.sent.0 rest c.sent.2 ∙ ap (found (λ x. list x)) (text-found most_bytes b c.sent.0 rest c.within c.sent.1)
call_found (hidden t) s rest c = sent hidden_call s (slice_bytes t) rest c.sent ∙ ap (found (λ x. hidden x)) (slice-found t rest c.within)
call_found (capture t ps xs) s rest c =
    sent capture_call s ((slice_bytes t ++ slice_bytes ps) ++ slice_bytes xs) rest c.sent
    ∙ ap (found (λ x. capture x.0 x.1 x.2)) (three-found t ps xs rest c.within.0 c.within.1 c.within.2)
call_found (agent_scan t p a) s rest c =
    let d = c.sent in
    let h = c.within in
    sent agent_scan_call s ((d.0 ++ d.1) ++ d.2) rest d.6
    ∙ ap (found (λ x. agent_scan x.0 x.1 x.2)) (three_lent-found t p a d.0 d.1 d.2 rest h.0 h.1 h.2 d.3 d.4 d.5)
call_found (agent_number t ps cs a) s rest c =
    let d = c.sent in
    let h = c.within in
    sent agent_number_call s (((d.0 ++ d.1) ++ d.2) ++ d.3) rest d.8
    ∙ ap (found (λ x. agent_number x.0 x.1 x.2 x.3)) (four_lent-found t ps cs a d.0 d.1 d.2 d.3 rest h.0 h.1 h.2 h.3 d.4 d.5 d.6 d.7)

-- and what was found was sent
Called : (b rest : List ℕ) → Call → Type 0
Called b rest call = (s : List ℕ) × IsCall call s × (b ≡ s ++ rest)

called : (n k : ℕ) (b mid rest : List ℕ) (call c : Call) (body : List ℕ) → eqb n k ≡ true → Part b (bytes_of n) mid → mid ≡ body ++ rest → c ≡ call
    → Within c → Sent c (bytes_of k ++ body) → Called b rest call
unfolding Called
called n k b mid rest call c body t w e d within sent = (
  bytes_of k ++ body,
  subst (λ (x : Call). IsCall x (bytes_of k ++ body)) d (record { within = within; sent = sent }),
  w.parts ∙ ap (λ m. bytes_of m ++ mid) (eqb-true n k t) ∙ ap (λ s. bytes_of k ++ s) e ∙ sym (append_assoc (bytes_of k) body rest),
)

number_sent : (t ps cs a x y z w : List ℕ) → TextSent t x → TextSent ps y → TextSent cs z → TextSent a w
    → Sent (agent_number t ps cs a) (bytes_of agent_number_call ++ (((x ++ y) ++ z) ++ w))
number_sent t ps cs a x y z w s u v o = (x, y, z, w, s, u, v, o, refl)

by_number : (b rest : List ℕ) (call : Call) (n : ℕ) (mid : List ℕ) → Part b (bytes_of n) mid → body_in n mid ≡ (Some call, rest) → Called b rest call
unfolding body_in
by_number b rest call n mid w e =
    let h = w.left in
    chosen (eqb n read_call) _ _ _ e
    (λ t d.
    let r = found_of (λ f. read f) (slice_in mid) call rest d in
    let s = found_slice mid r.0 rest h r.1 in
    called n read_call b mid rest call (read r.0) (slice_bytes r.0) t w s.0.parts r.2 s.1 refl)
    (λ _ e. chosen (eqb n tree_action_call) _ _ _ e
    (λ t d.
    let r = found_of (λ x. tree_action x.0 x.1) (two_in mid) call rest d in
    let s = found_two mid rest r.0 h r.1 in
    called n tree_action_call b mid rest call (tree_action r.0.0 r.0.1) (slice_bytes r.0.0 ++ slice_bytes r.0.1) t w s.0.parts r.2 (s.1, s.2) refl)
    (λ _ e. chosen (eqb n compile_call) _ _ _ e
    (λ t d.
    let r = found_of (λ x. compile x.0 x.1 x.2) (three_in mid) call rest d in
    let s = found_three mid rest r.0 h r.1 in
    called n compile_call b mid rest call (compile r.0.0 r.0.1 r.0.2) ((slice_bytes r.0.0 ++ slice_bytes r.0.1) ++ slice_bytes r.0.2) t w s.0.parts r.2
    (s.1, s.2, s.3) refl)
    (λ _ e. chosen (eqb n scan_call) _ _ _ e
    (λ t d.
    let r = found_of (λ x. scan x.0 x.1) (two_in mid) call rest d in
    let s = found_two mid rest r.0 h r.1 in
    called n scan_call b mid rest call (scan r.0.0 r.0.1) (slice_bytes r.0.0 ++ slice_bytes r.0.1) t w s.0.parts r.2 (s.1, s.2) refl)
    (λ _ e. chosen (eqb n number_call) _ _ _ e
    (λ t d.
    let r = found_of (λ x. number x.0 x.1 x.2) (three_in mid) call rest d in
    let s = found_three mid rest r.0 h r.1 in
    called n number_call b mid rest call (number r.0.0 r.0.1 r.0.2) ((slice_bytes r.0.0 ++ slice_bytes r.0.1) ++ slice_bytes r.0.2) t w s.0.parts r.2
    (s.1, s.2, s.3) refl)
    (λ _ e. chosen (eqb n list_call) _ _ _ e
    (λ t d.
    let r = found_of (λ x. list x) (text_in most_bytes mid) call rest d in
    let s = found_text most_bytes mid r.0 rest h r.1 in
    called n list_call b mid rest call (list r.0) s.0 t w s.2.parts r.2 s.3 (s.0, s.1, refl))
    (λ _ e. chosen (eqb n hidden_call) _ _ _ e
    (λ t d.
    let r = found_of (λ x. hidden x) (slice_in mid) call rest d in
    let s = found_slice mid r.0 rest h r.1 in
    called n hidden_call b mid rest call (hidden r.0) (slice_bytes r.0) t w s.0.parts r.2 s.1 refl)
    (λ _ e. chosen (eqb n capture_call) _ _ _ e
    (λ t d.
    let r = found_of (λ x. capture x.0 x.1 x.2) (three_in mid) call rest d in
    let s = found_three mid rest r.0 h r.1 in
    called n capture_call b mid rest call (capture r.0.0 r.0.1 r.0.2) ((slice_bytes r.0.0 ++ slice_bytes r.0.1) ++ slice_bytes r.0.2) t w s.0.parts r.2
    (s.1, s.2, s.3) refl)
    (λ _ e. chosen (eqb n agent_scan_call) _ _ _ e
    (λ t d.
    let r = found_of (λ x. agent_scan x.0 x.1 x.2) (three_lent_in mid) call rest d in
    let s = found_three_lent mid rest r.0 h r.1 in
    called n agent_scan_call b mid rest call (agent_scan r.0.0 r.0.1 r.0.2) ((s.0 ++ s.1) ++ s.2) t w s.6.parts r.2 (s.7, s.8, s.9)
    (s.0, s.1, s.2, s.3, s.4, s.5, refl))
    (λ _ e. chosen (eqb n agent_number_call) _ _ _ e
    (λ t d.
    let r = found_of (λ x. agent_number x.0 x.1 x.2 x.3) (four_lent_in mid) call rest d in
    let s = found_four_lent mid rest r.0 h r.1 in
    called n agent_number_call b mid rest call (agent_number r.0.0 r.0.1 r.0.2 r.0.3) (((s.0 ++ s.1) ++ s.2) ++ s.3) t w s.8.parts r.2
    (s.9, s.10, s.11, s.12) (number_sent _ _ _ _ s.0 s.1 s.2 s.3 s.4 s.5 s.6 s.7))
    (λ _ e. absurd (none-some call (halves _ _ e).0)))))))))))

pub found_call : FoundCall
unfolding call_in Called
found_call b rest call h e =
    let p = then_of (word_in b) body_in call rest e in
    by_number b rest call p.0 p.1 (found_word b p.1 p.0 h p.2) p.3
