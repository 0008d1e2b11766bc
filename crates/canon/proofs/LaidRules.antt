-- The text of a rule is made of its words.
use Rattle.std.proofs.Common.{ℕ, ◌<◌, ◌≤◌, ◌^◌, ◌*◌, ◌/◌, ◌%◌, ◌≡◌, Bool, true, false, List, [], ◌∷◌, ◌++◌, refl, arith}
use Rattle.std.specs.Prelude.{◌&&◌, ◌==◌, not, codes, if◌then◌else◌, nat_le}
use Rattle.std.specs.Fmt.{decimal}
use Rattle.std.proofs.lemmas.Bool.{leb-true}
use Rattle.field.specs.Prefix.{address_bits}
use Rattle.field.specs.declared.Prefix.{Prefix}
use Rattle.flow.specs.Match.{constrains, in_port_flag, protocol_flag, source_port_flag, destination_port_flag, empty_flag, right_match}
use Rattle.flow.specs.declared.Match.{Match}
use Rattle.flow.proofs.Laws.{Ranges, ranges}
use Rattle.action.specs.Action.{largest_rate, in_range}
use Rattle.action.specs.declared.Action.{Action}
use Rattle.action.specs.declared.Action.TheVariants.{DontCare, Allow, Deny, Gmb}
use Rattle.logic.specs.Lists.{All}
use Rattle.values.proofs.NumberLaw.{both}
use Rattle.notation.specs.Policy.{RuleEntry}
use Rattle.notation.specs.Words.{allow_word, deny_word, reserve_word, none_word, any_word, never_word, in_word, protocol_word, from_word, to_word, port_word, colon_mark}
use Rattle.notation.specs.Right.{RightRule}
use Rattle.canon.specs.Text.{rate_text, action_text, behind_word, value_text, protocol_text, written_prefix, some_prefix, side_text, parts_text, is_any, match_text, rule_text, rules_text}
use Rattle.canon.specs.Pieces.{rate_words, action_words, value_words, protocol_words, side_words, parts_words, match_words, rule_words, rules_words}
use Rattle.canon.proofs.Laid.{Loose, Tight, Opens, Word, all-word, blank, mark, word, nothing, loose-loose, loose-tight, tight-loose, tight-end, tight-tight, opens-opens, opens-parts, nothing-opens, begins-parts, begins-opens, spaces-loose, blank-loose, spaced}
use Rattle.canon.proofs.Bytes.{name-word, number-word, prefix-word}

-- ---- actions

-- a rate
rate-tight : (n : ℕ) → n < 2 ^ 32 → Tight (rate_text n) (rate_words n)
unfolding rate_text
rate-tight n low =
    elim (n % 1000000 == 0) as (λ d. Tight (if d then decimal (n / 1000000) ++ codes " Gbit/s" else small_text)
    (if d then decimal (n / 1000000) ∷ codes "Gbit/s" ∷ [] else small_words)) [
      | true ↦ unit (n / 1000000) (codes "Gbit/s") (omega arith) (omega arith, all-word (codes "Gbit/s") refl)
      | false ↦
          elim (n % 1000 == 0) as (λ d. Tight (if d then decimal (n / 1000) ++ codes " Mbit/s" else decimal n ++ codes " kbit/s")
          (if d then decimal (n / 1000) ∷ codes "Mbit/s" ∷ [] else decimal n ∷ codes "kbit/s" ∷ [])) [
            | true ↦ unit (n / 1000) (codes "Mbit/s") (omega arith) (omega arith, all-word (codes "Mbit/s") refl)
            | false ↦ unit n (codes "kbit/s") low (omega arith, all-word (codes "kbit/s") refl)
          ]
    ]
  where
    -- the text in smaller units
    small_text : List ℕ
    small_text = if n % 1000 == 0 then decimal (n / 1000) ++ codes " Mbit/s" else decimal n ++ codes " kbit/s"

    -- its words
    small_words : List (List ℕ)
    small_words = if n % 1000 == 0 then decimal (n / 1000) ∷ codes "Mbit/s" ∷ [] else decimal n ∷ codes "kbit/s" ∷ []

    -- a number and a unit
    unit : (k : ℕ) (u : List ℕ) → k < 2 ^ 32 → Word u → Tight (decimal k ++ (codes " " ++ u)) (decimal k ∷ u ∷ [])
    unit k u h w = tight-tight (word (decimal k) (number-word k h)) (begins-opens 32 u refl) (loose-tight blank-loose (word u w))

-- an action
pub action-tight : (a : Action) → in_range a ≡ true → Tight (action_text a) (action_words a)
unfolding action_text in_range
action-tight DontCare e = word none_word (omega arith, all-word none_word refl)
action-tight Allow e = word allow_word (omega arith, all-word allow_word refl)
action-tight Deny e = word deny_word (omega arith, all-word deny_word refl)
action-tight (Gmb n) e =
    let h = both (nat_le 1 n) (nat_le n largest_rate) e in
    let high : n ≤ largest_rate = leb-true _ _ h.1 in
    loose-tight (spaced reserve_word 0 (omega arith, all-word reserve_word refl)) (rate-tight n (omega arith))

-- ---- matches

-- a text that is laid out and opens
pub record Part (t : List ℕ) (ws : List (List ℕ)) : Type 0 where
  pub tight : Tight t ws
  pub opens : Opens t

-- nothing
pub no-part : Part [] []
no-part = record { tight = nothing; opens = nothing-opens }

-- parts one behind the other
pub joined : {a t : List ℕ} {ws vs : List (List ℕ)} → Part a ws → Part t vs → Part (a ++ t) (ws ++ vs)
joined p q = record { tight = tight-tight p.tight q.opens q.tight; opens = opens-opens p.opens q.opens }

-- a word behind a blank
one : (w : List ℕ) → Word w → Part (codes " " ++ w) (w ∷ [])
one w h = record { tight = loose-tight blank-loose (word w h); opens = begins-opens 32 w refl }

-- a word and another behind it
pub two : (w v : List ℕ) → Word w → Word v → Part (behind_word w v) (w ∷ v ∷ [])
two w v h k = joined (one w h) (one v k)

-- a value
value-part : (w : List ℕ) (on : Bool) (n : ℕ) → Word w → n < 2 ^ 32 → Part (value_text w on n) (value_words w on n)
unfolding value_text
value-part w true n h low = two w (decimal n) h (number-word n low)
value-part w false n h low = no-part

-- a protocol
protocol-part : (on : Bool) (n : ℕ) → n < 2 ^ 32 → Part (protocol_text on n) (protocol_words on n)
unfolding protocol_text
protocol-part false n low = no-part
protocol-part true n low =
    chosen (n == 6) (one (codes "tcp") (omega arith, all-word (codes "tcp") refl))
    (chosen (n == 17) (one (codes "udp") (omega arith, all-word (codes "udp") refl))
    (chosen (n == 1) (one (codes "icmp") (omega arith, all-word (codes "icmp") refl))
    (two protocol_word (decimal n) (omega arith, all-word protocol_word refl) (number-word n low))))
  where
    chosen : {a t : List ℕ} {ws vs : List (List ℕ)} (d : Bool) → Part a ws → Part t vs → Part (if d then a else t) (if d then ws else vs)
    chosen true p q = p
    chosen false p q = q

-- a prefix, unless it is that of all addresses
prefix-part : (p : Prefix) → p.length ≤ address_bits → Part (some_prefix p) (if p.length == 0 then [] else written_prefix p ∷ [])
prefix-part p short =
    elim (p.length == 0) as (λ d. Part (if d then [] else codes " " ++ written_prefix p) (if d then [] else written_prefix p ∷ [])) [
      | true ↦ no-part
      | false ↦ one (written_prefix p) (prefix-word p short)
    ]

-- a side
side-part : (w : List ℕ) (p : Prefix) (on : Bool) (n : ℕ) → Word w → p.length ≤ address_bits → n < 2 ^ 32 → Part (side_text w p on n) (side_words w p on n)
unfolding side_text
side-part w p on n h short low =
    elim (p.length == 0 && not on) as (λ d. Part (if d then [] else codes " " ++ (w ++ (some_prefix p ++ value_text port_word on n)))
    (if d then [] else (w ∷ ((if p.length == 0 then [] else written_prefix p ∷ []) ++ value_words port_word on n)))) [
      | true ↦ no-part
      | false ↦ joined (one w h) (joined (prefix-part p short) (value-part port_word on n (omega arith, all-word port_word refl) low))
    ]

-- the words before sides
from-is : Word from_word
from-is = (omega arith, all-word from_word refl)

-- the second
to-is : Word to_word
to-is = (omega arith, all-word to_word refl)

-- the parts of a match
parts-part : (m : Match) → Ranges m → Part (parts_text m) (parts_words m)
unfolding parts_text
parts-part m r =
    joined (value-part in_word (constrains in_port_flag m) m.in_port (omega arith, all-word in_word refl) (omega (arith, r.in_port)))
    (joined (protocol-part (constrains protocol_flag m) m.protocol (omega (arith, r.protocol)))
    (joined (side-part from_word m.source (constrains source_port_flag m) m.source_port from-is r.source_length (omega (arith, r.source_port)))
    (side-part to_word m.destination (constrains destination_port_flag m) m.destination_port to-is r.destination_length
    (omega (arith, r.destination_port)))))

-- a match
match-part : (m : Match) → right_match m ≡ true → Part (match_text m) (match_words m)
unfolding match_text
match-part m e =
    elim (constrains empty_flag m) as (λ d. Part (if d then codes " never" else (if is_any m then codes " any" else parts_text m))
    (if d then never_word ∷ [] else (if is_any m then any_word ∷ [] else parts_words m))) [
      | true ↦ one never_word (omega arith, all-word never_word refl)
      | false ↦
          elim (is_any m) as (λ d. Part (if d then codes " any" else parts_text m) (if d then any_word ∷ [] else parts_words m)) [
            | true ↦ one any_word (omega arith, all-word any_word refl)
            | false ↦ parts-part m (ranges m e)
          ]
    ]

-- ---- rules

-- a rule
pub rule-loose : (d : ℕ) (r : RuleEntry) → RightRule r → Loose (rule_text d r) (rule_words r)
unfolding rule_text
rule-loose d r h =
    let m = match-part r.row.matching h.matching in
    loose-loose (spaces-loose (4 * d)) (tight-loose (word r.label (name-word r.label h.label)) (record { breaks = λ rest. refl })
    (loose-loose colon-loose (tight-loose (action-tight r.row.action h.action) (opens-parts m.opens (begins-parts 10 [] refl))
    (tight-end m.tight))))
  where
    colon-loose : Loose (codes ": ") (colon_mark ∷ [])
    colon-loose = record { laid = λ rest us c. mark 58 refl (blank 32 refl c) }

-- rules one behind the other
pub rules-loose : (d : ℕ) (rs : List RuleEntry) → All RightRule rs → Loose (rules_text d rs) (rules_words rs)
rules-loose d [] h = record { laid = λ rest us c. c }
rules-loose d (r ∷ rs) h = loose-loose (rule-loose d r h.0) (rules-loose d rs h.1)
