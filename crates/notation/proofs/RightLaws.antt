-- What the grammar lets stand for a rule or an operator is a right one.
use Rattle.std.proofs.Common.{◌≡◌, ℕ, zero, suc, ◌+◌, ◌<◌, ◌≤◌, Bool, true, false, List, [], ◌∷◌, Option, Some}
use Rattle.std.proofs.Common.{None, length, map, get_or, refl, subst, ◌∙◌, arith}
use Rattle.std.specs.Prelude.{if◌then◌else◌, unwrap_or, is_some, bytes_eq, ◌||◌, ◌==◌, ⊤}
use Rattle.std.proofs.lemmas.Bool.{lt-ltb, le-leb}
use Rattle.std.specs.Int.Bits.{bit_and}
use Rattle.logic.specs.Lists.{All}
use Rattle.field.specs.Prefix.{address_bits, zero_beyond, right_prefix}
use Rattle.field.specs.Value.{right_value}
use Rattle.field.specs.declared.Prefix.{Prefix}
use Rattle.flow.specs.declared.Match.{Match}
use Rattle.flow.specs.Match.{right_match, is_none, is_plain, known_flags, flagged, in_port_flag, protocol_flag, source_port_flag, destination_port_flag}
use Rattle.flow.specs.Match as match
use Rattle.flow.specs.Packet.{port_limit, protocol_limit}
use Rattle.action.specs.Action.{in_range}
use Rattle.action.specs.declared.Action.{Action}
use Rattle.values.specs.Grammar.{IsPrefix, IsProtocol, IsCode}
use Rattle.values.specs.Grammar as value
use Rattle.values.proofs.WordLaws.{protocol-exactly, code-exactly}
use Rattle.values.proofs.Right.{right-is_zeros}
use Rattle.action.specs.Operator.{sibling, parent, cell_count, right_cell, largest_in, rate_cells, RightCodes}
use Rattle.values.specs.Words.{code_of}
use Rattle.notation.specs.Operators.{builtin_of}
use Rattle.notation.proofs.OperatorLaws.{builtin-name}
use Rattle.notation.specs.declared.rules.Side.{Side}
use Rattle.notation.specs.Words.{in_word, from_word, to_word, port_word, sibling_word, parent_word}
use Rattle.notation.specs.Policy.{RuleEntry, OperatorEntry}
use Rattle.notation.specs.Rules.{flag_if, match_from, open_side}
use Rattle.notation.specs.Right.{RightRule, RightOperator, bare_rule, bare_operator}
use Rattle.notation.specs.Grammar.{IsAction, IsOptionalPort, IsProtocolPart, IsSide, IsMatch, IsRule, IsRules, IsTable, IsOperator, IsOperators}
use Rattle.notation.specs.Grammar as grammar

-- an action that is written is in range
pub action-right : (ws : List (List ℕ)) (x : Action) → IsAction ws x → in_range x ≡ true
unfolding in_range
action-right ws x grammar.allow = refl
action-right ws x grammar.deny = refl
action-right ws x grammar.none = refl
action-right ws x (grammar.reserve i s r) = r

-- ---- matches

-- a value, if there is one, is below a limit
abbrev Within : ℕ → Option ℕ → Type 0
Within limit None = ⊤
Within limit (Some n) = n < limit

-- the flags of four values
abbrev flags_of : Option ℕ → Option ℕ → Option ℕ → Option ℕ → ℕ
flags_of i p s d = flag_if in_port_flag i + flag_if protocol_flag p + flag_if source_port_flag s + flag_if destination_port_flag d

-- they are known, and say which values there are
record Flags (f : ℕ) (i p s d : Bool) : Type 0 where
  known : (bit_and f known_flags == f) ≡ true
  in_port : flagged in_port_flag f ≡ i
  protocol : flagged protocol_flag f ≡ p
  source : flagged source_port_flag f ≡ s
  destination : flagged destination_port_flag f ≡ d

-- so are the flags of any four values
flags : (i p s d : Option ℕ) → Flags (flags_of i p s d) (is_some i) (is_some p) (is_some s) (is_some d)
flags None None None None = record { known = refl; in_port = refl; protocol = refl; source = refl; destination = refl }
flags None None None (Some d) = record { known = refl; in_port = refl; protocol = refl; source = refl; destination = refl }
flags None None (Some s) None = record { known = refl; in_port = refl; protocol = refl; source = refl; destination = refl }
flags None None (Some s) (Some d) = record { known = refl; in_port = refl; protocol = refl; source = refl; destination = refl }
flags None (Some p) None None = record { known = refl; in_port = refl; protocol = refl; source = refl; destination = refl }
flags None (Some p) None (Some d) = record { known = refl; in_port = refl; protocol = refl; source = refl; destination = refl }
flags None (Some p) (Some s) None = record { known = refl; in_port = refl; protocol = refl; source = refl; destination = refl }
flags None (Some p) (Some s) (Some d) = record { known = refl; in_port = refl; protocol = refl; source = refl; destination = refl }
flags (Some i) None None None = record { known = refl; in_port = refl; protocol = refl; source = refl; destination = refl }
flags (Some i) None None (Some d) = record { known = refl; in_port = refl; protocol = refl; source = refl; destination = refl }
flags (Some i) None (Some s) None = record { known = refl; in_port = refl; protocol = refl; source = refl; destination = refl }
flags (Some i) None (Some s) (Some d) = record { known = refl; in_port = refl; protocol = refl; source = refl; destination = refl }
flags (Some i) (Some p) None None = record { known = refl; in_port = refl; protocol = refl; source = refl; destination = refl }
flags (Some i) (Some p) None (Some d) = record { known = refl; in_port = refl; protocol = refl; source = refl; destination = refl }
flags (Some i) (Some p) (Some s) None = record { known = refl; in_port = refl; protocol = refl; source = refl; destination = refl }
flags (Some i) (Some p) (Some s) (Some d) = record { known = refl; in_port = refl; protocol = refl; source = refl; destination = refl }

-- a value that is there, or 0, is right
value-right : (limit : ℕ) (o : Option ℕ) → 0 < limit → Within limit o → right_value (is_some o) limit (unwrap_or o 0) ≡ true
unfolding right_value
value-right limit None some w = rw (lt-ltb 0 limit some) refl
value-right limit (Some n) some w = rw (lt-ltb n limit w) refl

-- a prefix that is written is right, and so is that of all addresses
prefix-right : (w : List ℕ) (p : Prefix) → IsPrefix w p → right_prefix address_bits p.address p.length ≡ true
prefix-right w p i = right-is_zeros p.address p.length i.spelled.below i.spelled.short ∙ i.zeros

-- the prefix of all addresses
all-right : right_prefix address_bits 0 0 ≡ true
unfolding right_prefix zero_beyond
all-right = refl

-- a right side
record RightSide (s : Side) : Type 0 where
  prefix : right_prefix address_bits s.prefix.address s.prefix.length ≡ true
  port : Within port_limit s.port

-- the match of right parts is right
parts-right : (i p : Option ℕ) (s t : Side) → Within port_limit i → Within protocol_limit p → RightSide s → RightSide t
    → right_match (match_from i p s t) ≡ true
unfolding right_match is_plain
parts-right i p s t wi wp rs rt =
    let f = flags i p s.port t.port in
    let vi = value-right port_limit i (omega arith) wi in
    let vp = value-right protocol_limit p (omega arith) wp in
    let vs = value-right port_limit s.port (omega arith) rs.port in
    let vt = value-right port_limit t.port (omega arith) rt.port in
    let all : is_plain (match_from i p s t) ≡ true =
    rw (f.known, f.in_port, f.protocol, f.source, f.destination, vi, vp, vs, vt, rs.prefix, rt.prefix) refl in
    or-right (is_none (match_from i p s t)) all
  where
    or-right : (a : Bool) {b : Bool} → b ≡ true → (a || b) ≡ true
    or-right true e = refl
    or-right false e = e

-- a port is below its limit
port-within : (k : List ℕ) (ws : List (List ℕ)) (x : Option ℕ) → IsOptionalPort k ws x → Within port_limit x
port-within k ws x grammar.IsOptionalPort.missing = tt
port-within k ws x (grammar.IsOptionalPort.said i h) = omega arith

-- so is a protocol that has a name
named-within : (w : List ℕ) (m : ℕ) → IsProtocol w m → m < protocol_limit
named-within w m value.tcp = omega arith
named-within w m value.udp = omega arith
named-within w m value.icmp = omega arith

-- so is any protocol
protocol-within : (ws : List (List ℕ)) (x : Option ℕ) → IsProtocolPart ws x → Within protocol_limit x
protocol-within ws x grammar.IsProtocolPart.missing = tt
protocol-within ws x (grammar.named {w} {n} e) = named-within w n ((protocol-exactly w n).0 e)
protocol-within ws x (grammar.numbered i h) = omega arith

-- a side that is written is right
side-right : (k : List ℕ) (ws : List (List ℕ)) (x : Side) → IsSide k ws x → RightSide x
side-right k ws x grammar.IsSide.missing = record { prefix = all-right; port = tt }
side-right k ws x (grammar.prefix {w} {p} {ws = vs} {q} i s) = record { prefix = prefix-right w p i; port = port-within port_word vs q s }
side-right k ws x (grammar.port i h) = record { prefix = all-right; port = omega arith }

-- the match that no packet meets is right
none-right : right_match match.none ≡ true
unfolding right_match is_none
none-right = refl

-- a match that is written is right
pub match-right : (ws : List (List ℕ)) (x : Match) → IsMatch ws x → right_match x ≡ true
match-right ws x grammar.any =
    parts-right None None open_side open_side tt tt (record { prefix = all-right; port = tt }) (record { prefix = all-right; port = tt })
match-right ws x grammar.never = none-right
match-right ws x (grammar.parts {a} {b} {c} {d} {i} {p} {s} {t} ia ib ic id long) =
    parts-right i p s t (port-within in_word a i ia) (protocol-within b p ib) (side-right from_word c s ic) (side-right to_word d t id)

-- ---- rules

-- a rule that is written is right
pub rule-right : (ws : List (List ℕ)) (r : RuleEntry) → IsRule ws r → RightRule r
rule-right ws r (grammar.rule {l} {a} {m} {x} {y} i ia im) = record { label = i; matching = match-right m y im; action = action-right a x ia }

-- so is one with its place
pub bare-rule-right : (r : RuleEntry) → RightRule (bare_rule r) → RightRule r
bare-rule-right r h = record { label = h.label; matching = h.matching; action = h.action }

-- and so are rules
pub rules-right : (ws : List (List ℕ)) (rs : List RuleEntry) → IsRules ws rs → All RightRule rs
rules-right ws rs grammar.IsRules.none = tt
rules-right ws rs (grammar.IsRules.more {w} {ws = vs} {r} {rs = qs} i s) = (rule-right w r i, rules-right vs qs s)

-- and so are rules with their places
pub bare-rules-right : (rs : List RuleEntry) → All RightRule (map bare_rule rs) → All RightRule rs
bare-rules-right [] h = tt
bare-rules-right (r ∷ rs) h = (bare-rule-right r h.0, bare-rules-right rs h.1)

-- ---- operators

-- the code of a word is 1 at least
listed-code : (w : List ℕ) (x : ℕ) → IsCode w x → 1 ≤ x
listed-code w x value.allow = omega arith
listed-code w x value.deny = omega arith
listed-code w x value.left = omega arith
listed-code w x value.right = omega arith
listed-code w x value.larger = omega arith
listed-code w x value.smaller = omega arith
listed-code w x value.both = omega arith

-- so is one that is read
code-some : (w : List ℕ) (x : ℕ) → code_of w ≡ Some x → 1 ≤ x
code-some w x e = listed-code w x ((code-exactly w x).0 e)

-- cells that are right from some place on
abbrev CellsFrom : ℕ → List ℕ → Type 0
CellsFrom i [] = ⊤
CellsFrom i (x ∷ xs) = (right_cell i x ≡ true) × CellsFrom (suc i) xs

-- cells that are right from the first place on are right at each
cells-at : (i : ℕ) (xs : List ℕ) → CellsFrom i xs → (k : ℕ) → k < length xs → right_cell (i + k) (get_or xs k 0) ≡ true
cells-at i [] c k h = absurd (omega arith)
cells-at i (x ∷ xs) c zero h = let e : i + 0 ≡ i = omega arith in rw e c.0
cells-at i (x ∷ xs) c (suc k) h =
    let e : i + suc k ≡ suc i + k = omega arith in
    rw e (cells-at (suc i) xs c.1 k (omega arith))

-- a code of at most the largest is right
cell-right : (i x : ℕ) → i < cell_count → 1 ≤ x → x ≤ largest_in rate_cells i → right_cell i x ≡ true
unfolding right_cell
cell-right i x h s m = rw (lt-ltb i cell_count h, le-leb 1 x s, le-leb x (largest_in rate_cells i) m) refl

-- nine right cells
nine-right : (xs : List ℕ) → length xs ≡ cell_count → CellsFrom 0 xs → RightCodes xs
nine-right xs nine r =
    (nine, λ k l. let z : 0 + k ≡ k = omega arith in subst (λ (m : ℕ). right_cell m (get_or xs k 0) ≡ true) z (cells-at 0 xs r k (omega arith)))

-- three right cells before others
three-right : (i x y z : ℕ) (xs : List ℕ) → i + 2 < cell_count → 1 ≤ x → x ≤ largest_in rate_cells i → 1 ≤ y → y ≤ largest_in rate_cells (suc i)
    → 1 ≤ z → z ≤ largest_in rate_cells (suc (suc i)) → CellsFrom (suc (suc (suc i))) xs → CellsFrom i (x ∷ y ∷ z ∷ xs)
three-right i x y z xs h sx mx sy my sz mz c =
    (cell-right i x (omega arith) sx mx, (cell-right (suc i) y (omega arith) sy my, (cell-right (suc (suc i)) z (omega arith) sz mz, c)))

-- the cells of a table are right
pub table-right : (ws : List (List ℕ)) (xs : List ℕ) → IsTable ws xs → RightCodes xs
table-right w xs (grammar.table (grammar.line a ha b hb c hc) (grammar.line {x = r} {y = s} {z = t} d hd e he f hf) (grammar.line {x} {y} {z} g hg h hh i hi)) =
    let s1 = code-some _ _ a in
    let s2 = code-some _ _ b in
    let s3 = code-some _ _ c in
    let s4 = code-some _ _ d in
    let s5 = code-some _ _ e in
    let s6 = code-some _ _ f in
    let s7 = code-some _ _ g in
    let s8 = code-some _ _ h in
    let s9 = code-some _ _ i in
    nine-right xs refl
    (three-right 0 _ _ _ (r ∷ s ∷ t ∷ x ∷ y ∷ z ∷ []) (omega arith) s1 ha s2 hb s3 hc
    (three-right 3 _ _ _ (x ∷ y ∷ z ∷ []) (omega arith) s4 hd s5 he s6 hf
    (three-right 6 _ _ _ [] (omega arith) s7 hg s8 hh s9 hi tt)))

-- and so are those of the operators that are there from the start
sibling-right : RightCodes sibling
unfolding right_cell
sibling-right = nine-right sibling refl (refl, (refl, (refl, (refl, (refl, (refl, (refl, (refl, (refl, tt)))))))))

-- the cells of the other one
parent-right : RightCodes parent
unfolding right_cell
parent-right = nine-right parent refl (refl, (refl, (refl, (refl, (refl, (refl, (refl, (refl, (refl, tt)))))))))

-- so what is there from the start has right cells
builtin-right : (w cells : List ℕ) → builtin_of w ≡ Some cells → RightCodes cells
unfolding builtin_of
builtin-right w cells e =
    of-tests (bytes_eq w sibling_word) (bytes_eq w parent_word) e
  where
    of-tests : (a b : Bool) → (if a then Some sibling else (if b then Some parent else None)) ≡ Some cells → RightCodes cells
    of-tests true b h = let s : sibling ≡ cells = cc in subst RightCodes s sibling-right
    of-tests false true h = let s : parent ≡ cells = cc in subst RightCodes s parent-right
    of-tests false false h = absurd cc

-- an operator that is written is right
pub operator-right : (ws : List (List ℕ)) (o : OperatorEntry) → IsOperator ws o → RightOperator o
operator-right ws o (grammar.builtin {w} {cells} b) =
    record { name = builtin-name w cells b; cells = builtin-right w cells b; own = rw b refl }
operator-right ws o (grammar.written {w} {cells} {t} i b it) =
    record { name = i; cells = table-right t cells it; own = rw b tt }

-- so is one with its place
pub bare-operator-right : (o : OperatorEntry) → RightOperator (bare_operator o) → RightOperator o
bare-operator-right o h = record { name = h.name; cells = h.cells; own = h.own }

-- and so are operators
pub operators-right : (ws : List (List ℕ)) (os : List OperatorEntry) → IsOperators ws os → All RightOperator os
operators-right ws os grammar.IsOperators.none = tt
operators-right ws os (grammar.IsOperators.more {w} {ws = vs} {o} {os = qs} i s) = (operator-right w o i, operators-right vs qs s)

-- and so are operators with their places
pub bare-operators-right : (os : List OperatorEntry) → All RightOperator (map bare_operator os) → All RightOperator os
bare-operators-right [] h = tt
bare-operators-right (o ∷ os) h = (bare-operator-right o h.0, bare-operators-right os h.1)
