-- Files of words as texts.
use Rattle.std.proofs.Common.{◌≡◌, ℕ, zero, suc, ◌<◌, ◌≤◌, ◌+◌, ◌^◌, Bool, true, false, List, [], ◌∷◌, ◌++◌, length, map, take, drop, Result, Ok, Err, Option, Some, None, refl, sym, ap, subst, ◌∙◌, append_assoc, append-nil, length-drop, arith}
use Rattle.std.specs.Prelude.{codes, bytes_eq, is_some, if◌then◌else◌, ◌==◌}
use Rattle.std.specs.Fmt.{decimal, digits}
use Rattle.std.proofs.lemmas.List.{map-append, take-append-drop}
use Rattle.std.proofs.lemmas.Bool.{ne_eqb}
use Rattle.std.proofs.lemmas.Slice.Eq.{bytes_eq-Decides}
use Rattle.logic.specs.Lists.{All}
use Rattle.logic.proofs.Lists.{all_take, all_drop, all_split}
use Rattle.policy.specs.declared.TheConstants.{OPERATOR_WORDS, ATOM_WORDS, NODE_WORDS}
use Rattle.tokens.specs.Tokens.{Token, tokens_of, word}
use Rattle.tokens.specs.Theorems.{OneEnd}
use Rattle.tokens.proofs.Cuts.{cut-exactly}
use Rattle.tokens.proofs.Spans.{tokens-within, words-nonempty}
use Rattle.values.specs.Numbers.{number_of}
use Rattle.values.proofs.NumberLaw.{number-written, number-read}
use Rattle.theory.specs.Tree.{Tree}
use Rattle.notation.specs.Policy.{OperatorEntry}
use Rattle.notation.specs.Grammar.{IsOperator, IsOperators, IsHeader, IsNode, Block}
use Rattle.notation.proofs.ReadSound.{read-sound}
use Rattle.canon.proofs.Laid.{Loose, Tight, Opens, word as word-tight, nothing, nothing-opens, loose-loose, loose-tight, tight-end, tight-tight, begins-opens, blank-loose, line_end-loose, whole}
use Rattle.canon.proofs.Bytes.{number-word}
use Rattle.decimals.specs.Read.{behind, numbers_of, read_of, begins_digit}
use Rattle.decimals.specs.Text.{behind_text, line_text, lines_from, lines_text, records_length, parting, section_text, section_rest, rest_text, words_text}
use Rattle.command_promises.specs.Decimals.{Low, ReadExactly, WordsBack, FaultsTold, NotationApart, DecimalsRead, DecimalCases}

-- ---- a number before others

-- numbers are one value
abbrev done : List ℕ → Result (List ℕ) ℕ
done ns = Ok ns

done_is : (ns ms : List ℕ) → done ns ≡ done ms → ns ≡ ms
done_is ns ms e = cc

-- what is read where a word before others is read
record Before (o : Option ℕ) (r : Result (List ℕ) ℕ) (ns : List ℕ) : Type 0 where
  n : ℕ
  ms : List ℕ
  number : o ≡ Some n
  others : r ≡ Ok ms
  all : ns ≡ n ∷ ms

before : (o : Option ℕ) (place : ℕ) (r : Result (List ℕ) ℕ) (ns : List ℕ) → behind o place r ≡ Ok ns → Before o r ns
before None place r ns e = absurd (cc)
before (Some n) place (Err other) ns e = absurd (cc)
before (Some n) place (Ok ms) ns e =
    record { n = n; ms = ms; number = refl; others = refl; all = done_is ns (n ∷ ms) (sym e) }

-- a word is not the end
not-end : (w : List ℕ) → 0 < length w → bytes_eq w [] ≡ false
not-end [] h = absurd (omega (arith, h))
not-end (b ∷ w) h = refl

-- ---- what is read are the decimal words of numbers

read-words : (n : ℕ) (ts : List Token) (ns : List ℕ) → OneEnd n ts → numbers_of ts ≡ Ok ns → (map (λ t. t.word) ts ≡ map decimal ns ++ [] ∷ []) × Low ns
read-words n [] ns h e = absurd h
read-words n (t ∷ []) ns h e =
    let g : ns ≡ [] = done_is ns [] (sym (rw ((bytes_eq-Decides t.word []).1 h.1) at e)) in
    rw (g, h.1) (refl, tt)
read-words n (t ∷ u ∷ ts) ns h e =
    let b = before (number_of t.word) t.at (numbers_of (u ∷ ts)) ns (rw (not-end t.word h.0) at e) in
    let w = number-written t.word b.n b.number in
    let r = read-words n (u ∷ ts) b.ms h.1 b.others in (
      ap (λ (v : List ℕ). v ∷ map (λ t. t.word) (u ∷ ts)) w.1 ∙ ap (λ (ws : List (List ℕ)). decimal b.n ∷ ws) r.0
          ∙ sym (ap (λ (ms : List ℕ). map decimal ms ++ [] ∷ []) b.all),
      subst Low (sym b.all) (w.0, r.1),
    )

-- and decimal words are read
words-read : (ns : List ℕ) (ts : List Token) → Low ns → map (λ t. t.word) ts ≡ map decimal ns ++ [] ∷ [] → numbers_of ts ≡ Ok ns
words-read [] [] low e = absurd (omega (arith, ap length e))
words-read [] (t ∷ ts) low e = let w : t.word ≡ [] = cc in rw ((bytes_eq-Decides t.word []).1 w) refl
words-read (n ∷ ns) [] low e = absurd (omega (arith, ap length e))
words-read (n ∷ ns) (t ∷ ts) low e =
    let w : t.word ≡ decimal n = cc in
    let g : map (λ t. t.word) ts ≡ map decimal ns ++ [] ∷ [] = cc in
    rw (w, not-end (decimal n) (number-word n low.0).0, number-read n low.0, words-read ns ts low.1 g) refl

exactly : ReadExactly
unfolding read_of
exactly text ns = (
  (λ e. let r = read-words (length text) (tokens_of text) ns (words-nonempty text) e in ((cut-exactly text (map decimal ns)).1 r.0, r.1)),
  (λ h. words-read ns (tokens_of text) h.1 ((cut-exactly text (map decimal ns)).0 h.0)),
)

-- ---- the text of words is made of their decimal words

-- the words of two parts
parts : (k : ℕ) (ws : List ℕ) → map decimal (take k ws) ++ map decimal (drop k ws) ≡ map decimal ws
parts k ws = sym (map-append decimal (take k ws) (drop k ws)) ∙ ap (map decimal) (take-append-drop k ws)

-- no text is made of no words
none-loose : Loose [] []
none-loose = record { laid = λ rest us c. c }

-- words behind blanks
behind-opens : (ws : List ℕ) → Opens (behind_text ws)
behind-opens [] = nothing-opens
behind-opens (w ∷ ws) = begins-opens 32 (decimal w ++ behind_text ws) refl

behind-tight : (ws : List ℕ) → Low ws → Tight (behind_text ws) (map decimal ws)
behind-tight [] low = nothing
behind-tight (w ∷ ws) low =
    loose-tight blank-loose (tight-tight (word-tight (decimal w) (number-word w low.0)) (behind-opens ws) (behind-tight ws low.1))

-- a line
line-loose : (ws : List ℕ) → Low ws → Loose (line_text ws) (map decimal ws)
line-loose [] low = line_end-loose
line-loose (w ∷ ws) low =
    subst (λ (t : List ℕ). Loose t (map decimal (w ∷ ws))) (append_assoc (decimal w) (behind_text ws) (codes "\n"))
    (tight-end (tight-tight (word-tight (decimal w) (number-word w low.0)) (behind-opens ws) (behind-tight ws low.1)))

-- lines
lines-loose : (k size : ℕ) (ws : List ℕ) → 0 < size → length ws ≤ k → Low ws → Loose (lines_from k size ws) (map decimal ws)
lines-loose zero size [] pos h low = none-loose
lines-loose zero size (w ∷ ws) pos h low = absurd (omega (arith, h))
lines-loose (suc k) size [] pos h low = none-loose
lines-loose (suc k) size (w ∷ ws) pos h low =
    subst (Loose (lines_from (suc k) size (w ∷ ws))) (parts size (w ∷ ws))
    (loose-loose (line-loose (take size (w ∷ ws)) (all_take (λ n. n < 2 ^ 32) size (w ∷ ws) low))
    (lines-loose k size (drop size (w ∷ ws)) pos (omega (arith, length-drop size (w ∷ ws), h, pos)) (all_drop (λ n. n < 2 ^ 32) size (w ∷ ws) low)))

-- an empty line
parting-loose : (ws : List ℕ) → Loose (parting ws) []
parting-loose ws = elim (length ws == 0) as (λ d. Loose (if d then [] else codes "\n") []) [ true ↦ none-loose | false ↦ line_end-loose ]

-- the words behind all sections
rest-loose : (ws : List ℕ) → Low ws → Loose (rest_text ws) (map decimal ws)
rest-loose [] low = none-loose
rest-loose (w ∷ ws) low = let e : (suc (length ws) == 0) ≡ false = ne_eqb (suc (length ws)) 0 (λ z. omega (arith, z)) in rw e (line-loose (w ∷ ws) low)

-- a section, and what stands behind it
section-then : (size : ℕ) (ws t : List ℕ) → 0 < size → Low ws → Loose t (map decimal (section_rest size ws))
    → Loose (section_text size ws ++ t) (map decimal ws)
unfolding lines_text
section-then size [] t pos low q = q
section-then size (n ∷ ws) t pos low q =
    let k : ℕ = records_length size n (length ws) in
    let rs : List ℕ = take k ws in
    let e : (map decimal rs ++ []) ++ map decimal (drop k ws) ≡ map decimal ws =
    ap (λ (vs : List (List ℕ)). vs ++ map decimal (drop k ws)) (append-nil (map decimal rs)) ∙ parts k ws in
    subst (Loose (section_text size (n ∷ ws) ++ t)) (ap (λ (vs : List (List ℕ)). decimal n ∷ vs) e)
    (loose-loose (loose-loose (line-loose (n ∷ []) (low.0, tt)) (loose-loose
    (lines-loose (length rs) size rs pos (omega arith) (all_take (λ n. n < 2 ^ 32) k ws low.1)) (parting-loose (drop k ws)))) q)

-- the words behind a section are low
rest-low : (size : ℕ) (ws : List ℕ) → Low ws → Low (section_rest size ws)
rest-low size [] low = tt
rest-low size (n ∷ ws) low = all_drop (λ n. n < 2 ^ 32) (records_length size n (length ws)) ws low.1

-- all words
words-loose : (ws : List ℕ) → Low ws → Loose (words_text ws) (map decimal ws)
unfolding words_text
words-loose ws low =
    let atoms : List ℕ = section_rest OPERATOR_WORDS ws in
    let nodes : List ℕ = section_rest ATOM_WORDS atoms in
    let atoms_low = rest-low OPERATOR_WORDS ws low in
    let nodes_low = rest-low ATOM_WORDS atoms atoms_low in
    section-then OPERATOR_WORDS ws _ (omega arith) low (section-then ATOM_WORDS atoms _ (omega arith) atoms_low
    (section-then NODE_WORDS nodes _ (omega arith) nodes_low (rest-loose (section_rest NODE_WORDS nodes) (rest-low NODE_WORDS nodes nodes_low))))

back : WordsBack
back ws low = (exactly (words_text ws) ws).1 (whole (words-loose ws low), low)

-- ---- the place that is told

record Told (ts : List Token) (place : ℕ) : Type 0 where
  before : List Token
  fault : Token
  behind : List Token
  words : ts ≡ before ++ fault ∷ behind
  numbers : All (λ t. is_some (number_of t.word) ≡ true) before
  none : number_of fault.word ≡ None
  at : fault.at ≡ place
  some : bytes_eq fault.word [] ≡ false

-- numbers are no fault, and a fault is one value
no-fault : (ns : List ℕ) (place : ℕ) → done ns ≡ Err place → ⊥
no-fault ns place e = absurd (cc)

abbrev fault_at : ℕ → Result (List ℕ) ℕ
fault_at place = Err place

fault_is : (place other : ℕ) → fault_at place ≡ fault_at other → place ≡ other
fault_is place other e = cc

-- by whether the first word is the end, whether it is a number, and what is read behind it
told-case : (t : Token) (ts : List Token) (place : ℕ) (b : Bool) (o : Option ℕ) (r : Result (List ℕ) ℕ) → bytes_eq t.word [] ≡ b
    → number_of t.word ≡ o → numbers_of ts ≡ r → ((p : ℕ) → numbers_of ts ≡ fault_at p → Told ts p)
    → (if b then done [] else behind o t.at r) ≡ fault_at place → Told (t ∷ ts) place
told-case t ts place true o r x y z f e = absurd (no-fault [] place e)
told-case t ts place false None r x y z f e =
    record { before = []; fault = t; behind = ts; words = refl; numbers = tt; none = y; at = fault_is t.at place e; some = x }
told-case t ts place false (Some n) (Ok ns) x y z f e = absurd (no-fault (n ∷ ns) place e)
told-case t ts place false (Some n) (Err other) x y z f e =
    let r = f place (z ∙ e) in
    record {
      before = t ∷ r.before;
      fault = r.fault;
      behind = r.behind;
      words = ap (λ (us : List Token). t ∷ us) r.words;
      numbers = (ap is_some y, r.numbers);
      none = r.none;
      at = r.at;
      some = r.some;
    }

told : (ts : List Token) (place : ℕ) → numbers_of ts ≡ fault_at place → Told ts place
told [] place e = absurd (no-fault [] place e)
told (t ∷ ts) place e =
    told-case t ts place (bytes_eq t.word []) (number_of t.word) (numbers_of ts) refl refl refl (λ p h. told ts p h) e

-- a word that is not the end has a byte
some-bytes : (w : List ℕ) → bytes_eq w [] ≡ false → 0 < length w
some-bytes [] e = absurd (cc)
some-bytes (b ∷ w) e = omega arith

faults : FaultsTold
unfolding read_of
faults text place e =
    let r = told (tokens_of text) place e in
    let T : Token → Type 0 = λ t. t.at + length t.word ≤ length text in
    let within = all_split T r.before (r.fault ∷ r.behind) (subst (All T) r.words (tokens-within text)) in
    record {
      before = r.before;
      fault = r.fault;
      behind = r.behind;
      words = r.words;
      numbers = r.numbers;
      none = r.none;
      at = r.at;
      some = some-bytes r.fault.word r.some;
      within = subst (λ (n : ℕ). n + length r.fault.word ≤ length text) r.at within.1.0;
    }

-- ---- no text in the notation begins with a digit

-- the first of some words does not
NoDigit : List (List ℕ) → Type 0
NoDigit [] = ⊥
NoDigit (w ∷ ws) = begins_digit w ≡ false

node-apart : {ws : List (List ℕ)} {t : Tree Block} → IsNode ws t → NoDigit ws
unfolding NoDigit
node-apart (IsNode.node (IsHeader.header n a b c) r k) = refl

operators-apart : {ws : List (List ℕ)} {os : List OperatorEntry} (vs : List (List ℕ)) → IsOperators ws os → NoDigit vs → NoDigit (ws ++ vs)
unfolding NoDigit
operators-apart vs IsOperators.none h = h
operators-apart vs (IsOperators.more (IsOperator.builtin e) r) h = refl
operators-apart vs (IsOperators.more (IsOperator.written e f g) r) h = refl

first-word : (ts : List Token) (ws vs : List (List ℕ)) → map (λ t. t.word) ts ≡ ws ++ vs → NoDigit ws → begins_digit (word ts) ≡ false
unfolding NoDigit
first-word ts [] vs e h = absurd h
first-word [] (w ∷ ws) vs e h = absurd (omega (arith, ap length e))
first-word (t ∷ ts) (w ∷ ws) vs e h = let g : t.word ≡ w = cc in rw g h

apart : NotationApart
apart text p e =
    let t = read-sound text p e in
    let q = t.policy in
    first-word (tokens_of text) t.words ([] ∷ []) ((cut-exactly text t.words).0 t.cut)
    (subst NoDigit (sym q.words) (operators-apart q.node_words q.declared (node-apart q.nodes)))

-- ---- all of it
pub decimals_read : DecimalsRead
decimals_read = record { exactly = exactly; back = back; faults = faults; apart = apart }

-- the texts and words in literals
pub decimal_cases : DecimalCases
unfolding digits words_text lines_text read_of number_of
decimal_cases = record {
  sections = refl;
  two_records = refl;
  nothing = refl;
  comment = refl;
  highest = refl;
  above = refl;
  zero_before = refl;
  digit = refl;
  letter = refl;
}
