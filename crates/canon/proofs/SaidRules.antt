-- The words of rules are in the grammar, and stand for these rules.
use Rattle.std.proofs.Common.{ℕ, ◌+◌, ◌*◌, ◌/◌, ◌%◌, ◌^◌, ◌<◌, ◌≤◌, ◌≡◌, Bool, true, false, List, [], ◌∷◌, ◌++◌, Option, Some, None, length, refl, sym, ap, subst, ◌∙◌, inl, inr, arith}
use Rattle.std.specs.Prelude.{◌&&◌, ◌==◌, not, codes, if◌then◌else◌, unwrap_or}
use Rattle.std.specs.Fmt.{decimal}
use Rattle.std.proofs.lemmas.List.{length-append}
use Rattle.std.proofs.lemmas.Bool.{eqb-true, eq-eqb}
use Rattle.logic.specs.Lists.{All}
use Rattle.logic.proofs.Tests.{by-test, by_le}
use Rattle.field.specs.Prefix.{address_bits, right_prefix}
use Rattle.field.specs.declared.Prefix.{Prefix}
use Rattle.field.specs.Value.{right_value}
use Rattle.flow.specs.Packet.{port_limit, protocol_limit}
use Rattle.flow.specs.declared.Match.{Match}
use Rattle.flow.specs.Match.{flagged, constrains, in_port_flag, protocol_flag, source_port_flag, destination_port_flag, empty_flag, right_match}
use Rattle.action.specs.Action.{right_rate, largest_rate, in_range}
use Rattle.action.specs.declared.Action.{Action}
use Rattle.action.specs.declared.Action.TheVariants.{DontCare, Allow, Deny, Gmb}
use Rattle.values.specs.Words.{unit_of}
use Rattle.values.specs.Grammar.{IsPrefix, IsUnit, IsProtocol, address_text, prefix_text}
use Rattle.values.proofs.NumberLaw.{both}
use Rattle.values.proofs.WordLaws.{unit-exactly, protocol-exactly}
use Rattle.notation.specs.Policy.{RuleEntry}
use Rattle.notation.specs.Words.{reserve_word, any_word, never_word, in_word, protocol_word, from_word, to_word, port_word}
use Rattle.notation.specs.Rules.{all, any_match, match_from, flag_if}
use Rattle.notation.specs.Grammar.{IsAction, IsOptionalPort, IsProtocolPart, IsSide, IsMatch, IsRule, IsRules}
use Rattle.notation.specs.Right.{RightRule, bare_rule}
use Rattle.std.specs.Prelude.{map, nat_le}
use Rattle.std.proofs.lemmas.Bool.{leb-true}
use Rattle.canon.specs.Text.{is_any, written_prefix}
use Rattle.canon.specs.Pieces.{rate_words, action_words, value_words, protocol_words, side_words, parts_words, match_words, rule_words, rules_words}
use Rattle.canon.proofs.RightMatches.{flags-are, Plain, plain, empty-is, value-below, value-free, PrefixFacts, prefix-facts, prefix-all}

-- ---- actions

-- a number with its unit
united : (n k f : ℕ) (u : List ℕ) → k * f ≡ n → k < 2 ^ 32 → unit_of u ≡ Some f → right_rate n ≡ true → IsAction (reserve_word ∷ decimal k ∷ u ∷ []) (Gmb n)
united n k f u e low is r =
    subst (λ (x : ℕ). IsAction (reserve_word ∷ decimal k ∷ u ∷ []) (Gmb x)) e
    (IsAction.reserve (record { below = low; text = refl }) is (subst (λ (x : ℕ). right_rate x ≡ true) (sym e) r))

-- a rate
is-rate : (n : ℕ) → right_rate n ≡ true → IsAction (reserve_word ∷ rate_words n) (Gmb n)
is-rate n r =
    let high : n ≤ largest_rate = leb-true _ _ (both (nat_le 1 n) (nat_le n largest_rate) r).1 in
    elim (n % 1000000 == 0) as (λ d. (n % 1000000 == 0) ≡ d → IsAction (reserve_word ∷ (if d then decimal (n / 1000000) ∷ codes "Gbit/s" ∷ []
    else (if n % 1000 == 0 then decimal (n / 1000) ∷ codes "Mbit/s" ∷ [] else decimal n ∷ codes "kbit/s" ∷ []))) (Gmb n)) [
      | true ↦ λ e. let z : n % 1000000 ≡ 0 = eqb-true (n % 1000000) 0 e in
          united n (n / 1000000) 1000000 (codes "Gbit/s") (omega arith) (omega arith) ((unit-exactly (codes "Gbit/s") 1000000).1 IsUnit.gbit) r
      | false ↦ λ _.
          elim (n % 1000 == 0) as (λ d. (n % 1000 == 0) ≡ d → IsAction (reserve_word ∷ (if d then decimal (n / 1000) ∷ codes "Mbit/s" ∷ []
          else decimal n ∷ codes "kbit/s" ∷ [])) (Gmb n)) [
            | true ↦ λ e. let z : n % 1000 ≡ 0 = eqb-true (n % 1000) 0 e in
                united n (n / 1000) 1000 (codes "Mbit/s") (omega arith) (omega arith) ((unit-exactly (codes "Mbit/s") 1000).1 IsUnit.mbit) r
            | false ↦ λ e. united n n 1 (codes "kbit/s") (omega arith) (omega arith) ((unit-exactly (codes "kbit/s") 1).1 IsUnit.kbit) r
          ] refl
    ] refl

-- AN ACTION
pub is-action : (a : Action) → in_range a ≡ true → IsAction (action_words a) a
unfolding in_range
is-action DontCare e = IsAction.none
is-action Allow e = IsAction.allow
is-action Deny e = IsAction.deny
is-action (Gmb n) e = is-rate n e

-- ---- parts of a match

-- a value, if it is constrained
abbrev pub if_on : Bool → ℕ → Option ℕ
if_on on n = if on then Some n else None

-- A PORT BEHIND A WORD
pub is-port : (w : List ℕ) (on : Bool) (n : ℕ) → n < port_limit → IsOptionalPort w (value_words w on n) (if_on on n)
is-port w true n low = IsOptionalPort.said (record { below = omega arith; text = refl }) (omega arith)
is-port w false n low = IsOptionalPort.missing

-- a protocol that has a name
named : (w : List ℕ) (k n : ℕ) → IsProtocol w k → (n == k) ≡ true → IsProtocolPart (w ∷ []) (Some n)
named w k n is e = IsProtocolPart.named ((protocol-exactly w k).1 is ∙ ap (λ (x : ℕ). Some x) (sym (eqb-true n k e)))

-- A PROTOCOL
pub is-protocol : (on : Bool) (n : ℕ) → n < protocol_limit → IsProtocolPart (protocol_words on n) (if_on on n)
is-protocol false n low = IsProtocolPart.missing
is-protocol true n low =
    chosen (n == 6) (named (codes "tcp") 6 n IsProtocol.tcp) (chosen (n == 17) (named (codes "udp") 17 n IsProtocol.udp)
    (chosen (n == 1) (named (codes "icmp") 1 n IsProtocol.icmp) (IsProtocolPart.numbered (record { below = omega arith; text = refl }) (omega arith))))
  where
    chosen : {v w : List (List ℕ)} (d : Bool) → (d ≡ true → IsProtocolPart v (Some n)) → IsProtocolPart w (Some n)
        → IsProtocolPart (if d then v else w) (Some n)
    chosen true p q = p refl
    chosen false p q = q

-- A PREFIX
pub is-prefix : (p : Prefix) → PrefixFacts p → IsPrefix (written_prefix p) p
is-prefix p f =
    elim (p.length == address_bits) as (λ d. (p.length == address_bits) ≡ d → IsPrefix (if d then address_text p.address else prefix_text p) p) [
      | true ↦ λ e. record {
        spelled = record { below = f.below; short = f.short; text = inr (eqb-true p.length address_bits e, refl) };
        zeros = f.zeros;
      }
      | false ↦ λ e. record { spelled = record { below = f.below; short = f.short; text = inl refl }; zeros = f.zeros }
    ] refl

-- of all addresses
side-of_all : (w : List ℕ) (on : Bool) (n : ℕ) → n < port_limit
    → IsSide w (if not on then [] else (w ∷ value_words port_word on n)) (record { prefix = all; port = if_on on n })
side-of_all w true n low = IsSide.port (record { below = omega arith; text = refl }) (omega arith)
side-of_all w false n low = IsSide.missing

-- A SIDE
pub is-side : (w : List ℕ) (p : Prefix) (on : Bool) (n : ℕ) → right_prefix address_bits p.address p.length ≡ true → n < port_limit
    → IsSide w (side_words w p on n) (record { prefix = p; port = if_on on n })
is-side w p on n r low =
    elim (p.length == 0) as (λ d. (p.length == 0) ≡ d → IsSide w (if d && not on then []
    else (w ∷ ((if d then [] else written_prefix p ∷ []) ++ value_words port_word on n))) (record { prefix = p; port = if_on on n })) [
      | true ↦ λ e. subst (λ (x : Prefix). IsSide w (if not on then [] else (w ∷ value_words port_word on n)) (record { prefix = x; port = if_on on n }))
          (sym (prefix-all p r (eqb-true p.length 0 e))) (side-of_all w on n low)
      | false ↦ λ e. IsSide.prefix (is-prefix p (prefix-facts p r)) (is-port port_word on n low)
    ] refl

-- ---- matches

-- a right value is what is said of it
said-value : (on : Bool) (limit n : ℕ) → right_value on limit n ≡ true → unwrap_or (if_on on n) 0 ≡ n
said-value true limit n r = refl
said-value false limit n r = sym (value-free limit n r)

-- its flag is set where something is said
said-flag : (on : Bool) (flag n : ℕ) → flag_if flag (if_on on n) ≡ (if on then flag else 0)
said-flag true flag n = refl
said-flag false flag n = refl

-- the match of the parts that flags and values say
abbrev from_flags : ℕ → Match → Match
from_flags f m =
    match_from (if_on (flagged in_port_flag f) m.in_port) (if_on (flagged protocol_flag f) m.protocol)
    (record { prefix = m.source; port = if_on (flagged source_port_flag f) m.source_port })
    (record { prefix = m.destination; port = if_on (flagged destination_port_flag f) m.destination_port })

-- a match by its fields
abbrev by_fields : ℕ → Prefix → Prefix → ℕ → ℕ → ℕ → ℕ → Match
by_fields i s d p sp dp f =
    record { in_port = i; source = s; destination = d; protocol = p; source_port = sp; destination_port = dp; flags = f }

-- matches with the same fields
same-fields : (i j : ℕ) (s d : Prefix) (p q sp sq dp dq f g : ℕ) → i ≡ j → p ≡ q → sp ≡ sq → dp ≡ dq → f ≡ g
    → by_fields i s d p sp dp f ≡ by_fields j s d q sq dq g
same-fields i j s d p q sp sq dp dq f g a b c e h = rw (a, b, c, e, h) refl

-- a plain match is the match of its parts
from-parts : (m : Match) → Plain m → from_flags m.flags m ≡ m
from-parts m p =
    let ci = constrains in_port_flag m in
    let cp = constrains protocol_flag m in
    let cs = constrains source_port_flag m in
    let cd = constrains destination_port_flag m in
    let fi = said-flag ci in_port_flag m.in_port in
    let fp = said-flag cp protocol_flag m.protocol in
    let fs = said-flag cs source_port_flag m.source_port in
    let fd = said-flag cd destination_port_flag m.destination_port in
    let flags : flag_if in_port_flag (if_on ci m.in_port) + flag_if protocol_flag (if_on cp m.protocol)
    + flag_if source_port_flag (if_on cs m.source_port) + flag_if destination_port_flag (if_on cd m.destination_port) ≡ m.flags =
    rw (fi, fp, fs, fd) (flags-are m.flags p.flags) in
    same-fields _ _ m.source m.destination _ _ _ _ _ _ _ _ (said-value ci port_limit m.in_port p.in_port) (said-value cp protocol_limit m.protocol p.protocol)
    (said-value cs port_limit m.source_port p.source_port) (said-value cd port_limit m.destination_port p.destination_port) flags

-- the parts of two sides
abbrev of_sides : Prefix → Prefix → Match
of_sides s d = match_from None None (record { prefix = s; port = None }) (record { prefix = d; port = None })

-- a plain match that constrains nothing
is-any : (m : Match) → Plain m → is_any m ≡ true → any_match ≡ m
is-any m p e =
    let h = both (m.flags == 0 && m.source.length == 0) (m.destination.length == 0) e in
    let k = both (m.flags == 0) (m.source.length == 0) h.0 in
    let s = prefix-all m.source p.source (eqb-true m.source.length 0 k.1) in
    let d = prefix-all m.destination p.destination (eqb-true m.destination.length 0 h.1) in
    let g : of_sides m.source m.destination ≡ m = subst (λ (f : ℕ). from_flags f m ≡ m) (eqb-true m.flags 0 k.0) (from-parts m p) in
    subst (λ (x : Prefix). of_sides all x ≡ m) d (subst (λ (x : Prefix). of_sides x m.destination ≡ m) s g)

-- what is not true
unless : (b : Bool) → (b ≡ true → ⊥) → b ≡ false
unless true f = absurd (f refl)
unless false f = refl

-- a value that is constrained has a word
value-long : (w : List ℕ) (on : Bool) (n : ℕ) → on ≡ true → 0 < length (value_words w on n)
value-long w true n e = omega arith
value-long w false n e = absurd cc

-- so has a protocol
protocol-long : (on : Bool) (n : ℕ) → on ≡ true → 0 < length (protocol_words on n)
protocol-long false n e = absurd cc
protocol-long true n e =
    chosen (n == 6) (codes "tcp" ∷ []) _ (omega arith) (chosen (n == 17) (codes "udp" ∷ []) _ (omega arith)
    (chosen (n == 1) (codes "icmp" ∷ []) (protocol_word ∷ decimal n ∷ []) (omega arith) (omega arith)))
  where
    chosen : (d : Bool) (v w : List (List ℕ)) → 0 < length v → 0 < length w → 0 < length (if d then v else w)
    chosen true v w p q = p
    chosen false v w p q = q

-- and a side that constrains something
side-long : (w : List ℕ) (p : Prefix) (on : Bool) (n : ℕ) → (p.length == 0 && not on) ≡ false → 0 < length (side_words w p on n)
side-long w p on n e = rw e (omega arith)

-- a side with a port does
side-on : (p : Prefix) (on : Bool) → on ≡ true → (p.length == 0 && not on) ≡ false
side-on p on e = elim (p.length == 0) as (λ d. (d && not on) ≡ false) [ true ↦ ap not e | false ↦ refl ]

-- and one with a prefix
side-some : (p : Prefix) (on : Bool) → (p.length == 0) ≡ false → (p.length == 0 && not on) ≡ false
side-some p on e = ap (λ (d : Bool). d && not on) e

-- a plain match that constrains something has a part
some-part : (m : Match) → Plain m → is_any m ≡ false → 0 < length (parts_words m)
some-part m p e =
    let ci = constrains in_port_flag m in
    let cp = constrains protocol_flag m in
    let cs = constrains source_port_flag m in
    let cd = constrains destination_port_flag m in
    let a : List (List ℕ) = value_words in_word ci m.in_port in
    let b : List (List ℕ) = protocol_words cp m.protocol in
    let c : List (List ℕ) = side_words from_word m.source cs m.source_port in
    let d : List (List ℕ) = side_words to_word m.destination cd m.destination_port in
    let by-d = side-long to_word m.destination cd m.destination_port in
    let n1 : length (a ++ (b ++ (c ++ d))) ≡ length a + (length b + (length c + length d)) =
    length-append a (b ++ (c ++ d)) ∙ ap (λ (k : ℕ). length a + k) (length-append b (c ++ d) ∙ ap (λ (k : ℕ). length b + k) (length-append c d)) in
    by_le 1 (length (a ++ (b ++ (c ++ d)))) (λ h. h) (λ short.
    let i : ci ≡ false = unless ci (λ z. let l : 0 < length a = value-long in_word ci m.in_port z in omega (arith, n1)) in
    let q : cp ≡ false = unless cp (λ z. let l : 0 < length b = protocol-long cp m.protocol z in omega (arith, n1)) in
    let s : cs ≡ false = unless cs (λ z. let l : 0 < length c = side-long from_word m.source cs m.source_port (side-on m.source cs z) in omega (arith, n1)) in
    let t : cd ≡ false = unless cd (λ z. let l : 0 < length d = by-d (side-on m.destination cd z) in omega (arith, n1)) in
    let u : m.flags ≡ 0 = sym (flags-are m.flags p.flags) ∙ no-flags ci cp cs cd i q s t in
    let v : (m.source.length == 0) ≡ true = by-test (m.source.length == 0) (λ z. z)
    (λ z. absurd (let l : 0 < length c = side-long from_word m.source cs m.source_port (side-some m.source cs z) in omega (arith, n1))) in
    let w : (m.destination.length == 0) ≡ true = by-test (m.destination.length == 0) (λ z. z)
    (λ z. absurd (let l : 0 < length d = by-d (side-some m.destination cd z) in omega (arith, n1))) in
    let x : is_any m ≡ true = rw (eq-eqb m.flags 0 u, v, w) refl in
    absurd (let y : true ≡ false = sym x ∙ e in cc))
  where
    no-flags : (i q s t : Bool) → i ≡ false → q ≡ false → s ≡ false → t ≡ false
        → (if i then in_port_flag else 0) + (if q then protocol_flag else 0) + (if s then source_port_flag else 0)
        + (if t then destination_port_flag else 0) ≡ 0
    no-flags i q s t ei eq es et = rw (ei, eq, es, et) refl

-- A MATCH
pub is-match : (m : Match) → right_match m ≡ true → IsMatch (match_words m) m
is-match m r =
    elim (constrains empty_flag m) as (λ d. constrains empty_flag m ≡ d
    → IsMatch (if d then never_word ∷ [] else (if is_any m then any_word ∷ [] else parts_words m)) m) [
      | true ↦ λ e. subst (IsMatch (never_word ∷ [])) (sym (empty-is m r e)) IsMatch.never
      | false ↦ λ e. others (plain m r e)
    ] refl
  where
    others : Plain m → IsMatch (if is_any m then any_word ∷ [] else parts_words m) m
    others p =
        elim (is_any m) as (λ d. is_any m ≡ d → IsMatch (if d then any_word ∷ [] else parts_words m) m) [
          | true ↦ λ e. subst (IsMatch (any_word ∷ [])) (is-any m p e) IsMatch.any
          | false ↦ λ e. subst (IsMatch (parts_words m)) (from-parts m p)
              (IsMatch.parts
              (is-port in_word (constrains in_port_flag m) m.in_port (value-below _ port_limit m.in_port p.in_port))
              (is-protocol (constrains protocol_flag m) m.protocol (value-below _ protocol_limit m.protocol p.protocol))
              (is-side from_word m.source (constrains source_port_flag m) m.source_port p.source (value-below _ port_limit m.source_port p.source_port))
              (is-side to_word m.destination (constrains destination_port_flag m) m.destination_port p.destination
              (value-below _ port_limit m.destination_port p.destination_port))
              (some-part m p e))
        ] refl

-- ---- rules

-- A RULE
pub is-rule : (r : RuleEntry) → RightRule r → IsRule (rule_words r) (bare_rule r)
is-rule r h = IsRule.rule h.label (is-action r.row.action h.action) (is-match r.row.matching h.matching)

-- RULES
pub is-rules : (rs : List RuleEntry) → All RightRule rs → IsRules (rules_words rs) (map bare_rule rs)
is-rules [] h = IsRules.none
is-rules (r ∷ rs) h = IsRules.more (is-rule r h.0) (is-rules rs h.1)
