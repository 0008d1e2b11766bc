-- The words of a policy's canonical text. See docs/NOTATION.md, "Canonical text".
--
--   table_words, operator_words      an operator
--   action_words, match_words ..     an action, and a match by its parts
--   rule_words, rules_words          a rule, and rules
--   clause_words, header_words       what stands before a node's rules
--   nodes_words                      all nodes, with their ends
--   canonical_words                  the words of the text of a policy
use Rattle.std.specs.Prelude.{ℕ, ◌+◌, ◌/◌, ◌%◌, Bool, not, ◌&&◌, List, [], ◌∷◌, ◌++◌, Option, Some, None, codes, replicate, if◌then◌else◌, ◌==◌, slice_index, slice_index_or, bytes_eq}
use Rattle.std.specs.Fmt.{decimal}
use Rattle.field.specs.declared.Prefix.{Prefix}
use Rattle.flow.specs.Match.{constrains, empty_flag, in_port_flag, protocol_flag, source_port_flag, destination_port_flag}
use Rattle.flow.specs.declared.Match.{Match}
use Rattle.action.specs.declared.Action.{Action}
use Rattle.action.specs.declared.Action.TheVariants.{DontCare, Allow, Deny, Gmb}
use Rattle.notation.specs.Words.{operator_word, node_word, inside_word, between_word, below_word, allow_word, deny_word, reserve_word, none_word, any_word, never_word, in_word, protocol_word, from_word, to_word, port_word, sibling_word, parent_word, colon_mark, open_mark, close_mark}
use Rattle.notation.specs.Policy.{OperatorEntry, RuleEntry, NodeEntry, Entries}
use Rattle.notation.specs.Operators.{builtin_of}
use Rattle.depths.specs.Depths.{closings}
use Rattle.canon.specs.Text.{cell_word, is_any, written_prefix}

-- three cells from place i on, behind their word
abbrev pub line_words : List ℕ → List ℕ → ℕ → List (List ℕ)
line_words kind cells i =
    kind
    ∷ cell_word (slice_index cells i)
    ∷ cell_word (slice_index cells (i + 1))
    ∷ cell_word (slice_index cells (i + 2))
    ∷ []

abbrev pub table_words : List ℕ → List (List ℕ)
table_words cells =
    open_mark ∷ allow_word ∷ deny_word ∷ reserve_word
    ∷ (line_words allow_word cells 0
    ++ (line_words deny_word cells 3 ++ (line_words reserve_word cells 6 ++ close_mark ∷ [])))

abbrev pub cells_words : Option (List ℕ) → List ℕ → List (List ℕ)
cells_words (Some own) cells = []
cells_words None cells = table_words cells

-- an operator
abbrev pub operator_words : OperatorEntry → List (List ℕ)
operator_words o = operator_word ∷ o.name ∷ cells_words (builtin_of o.name) o.cells

abbrev pub operators_words : List OperatorEntry → List (List ℕ)
operators_words [] = []
operators_words (o ∷ os) = operator_words o ++ operators_words os

-- a rate by the largest unit of which it is so many
abbrev pub rate_words : ℕ → List (List ℕ)
rate_words n =
    if n % 1000000 == 0 then decimal (n / 1000000) ∷ codes "Gbit/s" ∷ []
    else (if n % 1000 == 0 then decimal (n / 1000) ∷ codes "Mbit/s" ∷ [] else decimal n ∷ codes "kbit/s" ∷ [])

-- an action
abbrev pub action_words : Action → List (List ℕ)
action_words DontCare = none_word ∷ []
action_words Allow = allow_word ∷ []
action_words Deny = deny_word ∷ []
action_words (Gmb n) = reserve_word ∷ rate_words n

-- a value behind a word
abbrev pub value_words : List ℕ → Bool → ℕ → List (List ℕ)
value_words w on n = if on then w ∷ decimal n ∷ [] else []

-- a protocol
abbrev pub protocol_words : Bool → ℕ → List (List ℕ)
protocol_words on n =
    if on
    then (if n == 6 then codes "tcp" ∷ []
    else (if n == 17 then codes "udp" ∷ []
    else (if n == 1 then codes "icmp" ∷ [] else protocol_word ∷ decimal n ∷ [])))
    else []

-- a side behind a word
abbrev pub side_words : List ℕ → Prefix → Bool → ℕ → List (List ℕ)
side_words w p on n =
    if p.length == 0 && not on
    then []
    else w ∷ ((if p.length == 0 then [] else written_prefix p ∷ []) ++ value_words port_word on n)

-- the parts of a match
abbrev pub parts_words : Match → List (List ℕ)
parts_words m =
    value_words in_word (constrains in_port_flag m) m.in_port
    ++ (protocol_words (constrains protocol_flag m) m.protocol
    ++ (side_words from_word m.source (constrains source_port_flag m) m.source_port
    ++ side_words to_word m.destination (constrains destination_port_flag m) m.destination_port))

-- a match
abbrev pub match_words : Match → List (List ℕ)
match_words m =
    if constrains empty_flag m then never_word ∷ [] else (if is_any m then any_word ∷ [] else parts_words m)

-- a rule
abbrev pub rule_words : RuleEntry → List (List ℕ)
rule_words r = r.label ∷ colon_mark ∷ (action_words r.row.action ++ match_words r.row.matching)

abbrev pub rules_words : List RuleEntry → List (List ℕ)
rules_words [] = []
rules_words (r ∷ rs) = rule_words r ++ rules_words rs

-- an operator that a node names
abbrev pub clause_words : List ℕ → List ℕ → List OperatorEntry → ℕ → List (List ℕ)
clause_words w other os i =
    let name : List ℕ = (slice_index_or os i (record { name = []; at = 0; cells = [] })).name in
    if bytes_eq name other then [] else w ∷ name ∷ []

-- what stands before a node's rules
abbrev pub header_words : List OperatorEntry → NodeEntry → List (List ℕ)
header_words os n =
    node_word ∷ n.name
    ∷ (clause_words inside_word sibling_word os n.inner
    ++ (clause_words between_word sibling_word os n.sibling
    ++ (clause_words below_word parent_word os n.parent ++ open_mark ∷ [])))

-- the depth of the first of some nodes, 0 if there is none
abbrev pub next_depth : List NodeEntry → ℕ
next_depth [] = 0
next_depth (n ∷ ns) = n.depth

-- nodes one behind the other, with their ends
abbrev pub nodes_words : List OperatorEntry → List NodeEntry → List (List ℕ)
nodes_words os [] = []
nodes_words os (n ∷ ns) =
    header_words os n
    ++ (rules_words n.rules ++ (replicate (closings n.depth (next_depth ns)) close_mark ++ nodes_words os ns))

-- the words of the text of a policy
abbrev pub canonical_words : Entries → List (List ℕ)
canonical_words p = operators_words p.operators ++ nodes_words p.operators p.nodes
