-- The canonical text of a policy: each policy has one. See docs/NOTATION.md, "Canonical text".
--
--   spaces, indent, padded          blanks; those of a depth; a word with blanks behind it
--   cell_word, cell_line            the word of a cell's code, and a line of cells
--   operator_text, operators_text   an operator, and all of them with an empty line behind
--   rate_text, action_text          a rate's number and unit, and an action
--   value_text, protocol_text       a value behind a word, and a protocol
--   side_text, match_text           a side, and a match
--   rule_text                       the line of a rule
--   name_at                         the name of the operator at an index
--   clause_text, node_text          an operator that a node names, and a node's line with its rules
--   ends_text                       the lines of closing braces
--   between_text, after_text        what stands between two nodes, and behind a node
--   nodes_text                      all nodes
--   canonical                       the text of a policy
use Rattle.std.specs.Prelude.{ℕ, zero, suc, ◌+◌, ◌-◌, ◌*◌, ◌/◌, ◌%◌, Bool, not, ◌&&◌, List, [], ◌∷◌, ◌++◌, Option, Some, None, codes, length, replicate, if◌then◌else◌, ◌==◌, slice_index, slice_index_or, bytes_eq}
use Rattle.std.specs.Fmt.{decimal}
use Rattle.field.specs.Prefix.{address_bits}
use Rattle.field.specs.declared.Prefix.{Prefix}
use Rattle.flow.specs.Match.{constrains, empty_flag, in_port_flag, protocol_flag, source_port_flag, destination_port_flag}
use Rattle.flow.specs.declared.Match.{Match}
use Rattle.action.specs.declared.Action.{Action}
use Rattle.action.specs.declared.Action.TheVariants.{DontCare, Allow, Deny, Gmb}
use Rattle.values.specs.Grammar.{address_text, prefix_text}
use Rattle.notation.specs.Words.{sibling_word, parent_word, inside_word, between_word, below_word, in_word, protocol_word, from_word, to_word, port_word}
use Rattle.notation.specs.Policy.{OperatorEntry, RuleEntry, NodeEntry, Entries}
use Rattle.notation.specs.Operators.{builtin_of}
use Rattle.depths.specs.Depths.{closings}

-- so many blanks
abbrev pub spaces : ℕ → List ℕ
spaces n = replicate n 32

-- four for each depth
abbrev pub indent : ℕ → List ℕ
indent d = spaces (4 * d)

abbrev pub line_end : List ℕ
line_end = 10 ∷ []

-- the width of a column of cells
abbrev pub column : ℕ
column = 10

-- a word, and blanks up to the next column
abbrev pub padded : List ℕ → List ℕ
padded w = w ++ spaces (column - length w)

-- the words of cells, by their codes
abbrev pub cell_words : List (List ℕ)
cell_words =
    []
    ∷ codes "allow"
    ∷ codes "deny"
    ∷ codes "left"
    ∷ codes "right"
    ∷ codes "larger"
    ∷ codes "smaller"
    ∷ codes "sum"
    ∷ []

abbrev pub cell_word : ℕ → List ℕ
cell_word c = slice_index_or cell_words c []

-- the line of a left action's kind: the three cells from place i on
abbrev pub cell_line : List ℕ → List ℕ → ℕ → List ℕ
cell_line kind cells i =
    indent 1
    ++ (padded kind
    ++ (padded (cell_word (slice_index cells i))
    ++ (padded (cell_word (slice_index cells (i + 1))) ++ (cell_word (slice_index cells (i + 2)) ++ line_end))))

-- the cells of an operator in their braces
abbrev pub table_text : List ℕ → List ℕ
table_text cells =
    codes " {\n"
    ++ (indent 1
    ++ (spaces column
    ++ (padded (codes "allow")
    ++ (padded (codes "deny")
    ++ (codes "reserve\n"
    ++ (cell_line (codes "allow") cells 0
    ++ (cell_line (codes "deny") cells 3 ++ (cell_line (codes "reserve") cells 6 ++ codes "}\n"))))))))

-- an operator that is there from the start has no cells
abbrev pub cells_text : Option (List ℕ) → List ℕ → List ℕ
cells_text (Some own) cells = line_end
cells_text None cells = table_text cells

-- an operator
unfoldable pub operator_text : OperatorEntry → List ℕ
operator_text o = codes "operator " ++ (o.name ++ cells_text (builtin_of o.name) o.cells)

-- operators, each with what stands behind it, and an empty line behind the last
abbrev pub operators_text : List OperatorEntry → List ℕ
operators_text [] = line_end
operators_text (o ∷ os) = operator_text o ++ operators_text os

-- a rate by the largest unit of which it is so many
unfoldable pub rate_text : ℕ → List ℕ
rate_text n =
    if n % 1000000 == 0 then decimal (n / 1000000) ++ codes " Gbit/s"
    else (if n % 1000 == 0 then decimal (n / 1000) ++ codes " Mbit/s" else decimal n ++ codes " kbit/s")

-- an action
unfoldable pub action_text : Action → List ℕ
action_text DontCare = codes "none"
action_text Allow = codes "allow"
action_text Deny = codes "deny"
action_text (Gmb n) = codes "reserve " ++ rate_text n

-- a word that the text names, and what stands behind it, both behind a blank
abbrev pub behind_word : List ℕ → List ℕ → List ℕ
behind_word w text = codes " " ++ (w ++ (codes " " ++ text))

-- a value behind a word, if it is constrained
unfoldable pub value_text : List ℕ → Bool → ℕ → List ℕ
value_text w on n = if on then behind_word w (decimal n) else []

-- a protocol: by its name, if it has one
abbrev pub protocol_name : ℕ → List ℕ
protocol_name n =
    if n == 6 then codes " tcp"
    else (if n == 17 then codes " udp" else (if n == 1 then codes " icmp" else behind_word protocol_word (decimal n)))

unfoldable pub protocol_text : Bool → ℕ → List ℕ
protocol_text on n = if on then protocol_name n else []

-- a prefix: an address alone for the length of an address, nothing for all addresses
abbrev pub written_prefix : Prefix → List ℕ
written_prefix p = if p.length == address_bits then address_text p.address else prefix_text p

abbrev pub some_prefix : Prefix → List ℕ
some_prefix p = if p.length == 0 then [] else codes " " ++ written_prefix p

-- a side behind a word, if it constrains something
unfoldable pub side_text : List ℕ → Prefix → Bool → ℕ → List ℕ
side_text w p on n =
    if p.length == 0 && not on then [] else codes " " ++ (w ++ (some_prefix p ++ value_text port_word on n))

-- the parts of a match
unfoldable pub parts_text : Match → List ℕ
parts_text m =
    value_text in_word (constrains in_port_flag m) m.in_port
    ++ (protocol_text (constrains protocol_flag m) m.protocol
    ++ (side_text from_word m.source (constrains source_port_flag m) m.source_port
    ++ side_text to_word m.destination (constrains destination_port_flag m) m.destination_port))

-- a match that constrains nothing
abbrev pub is_any : Match → Bool
is_any m = m.flags == 0 && m.source.length == 0 && m.destination.length == 0

-- a match
unfoldable pub match_text : Match → List ℕ
match_text m =
    if constrains empty_flag m then codes " never" else (if is_any m then codes " any" else parts_text m)

-- the line of a rule of a node of a depth
unfoldable pub rule_text : ℕ → RuleEntry → List ℕ
rule_text d r =
    indent d ++ (r.label ++ (codes ": " ++ (action_text r.row.action ++ (match_text r.row.matching ++ line_end))))

-- rules one behind the other
abbrev pub rules_text : ℕ → List RuleEntry → List ℕ
rules_text d [] = []
rules_text d (r ∷ rs) = rule_text d r ++ rules_text d rs

-- the name of the operator at an index
abbrev pub name_at : List OperatorEntry → ℕ → List ℕ
name_at os i = (slice_index_or os i (record { name = []; at = 0; cells = [] })).name

-- the operator at an index behind a word, unless it is the one that stands for neither
unfoldable pub clause_text : List ℕ → List ℕ → List OperatorEntry → ℕ → List ℕ
clause_text w other os i =
    let name : List ℕ = (slice_index_or os i (record { name = []; at = 0; cells = [] })).name in
    if bytes_eq name other then [] else behind_word w name

-- a node's line, and its rules
unfoldable pub node_text : List OperatorEntry → NodeEntry → List ℕ
node_text os n =
    indent (n.depth - 1)
    ++ (codes "node "
    ++ (n.name
    ++ (clause_text inside_word sibling_word os n.inner
    ++ (clause_text between_word sibling_word os n.sibling
    ++ (clause_text below_word parent_word os n.parent ++ (codes " {\n" ++ rules_text n.depth n.rules))))))

-- the lines of so many closing braces, the first that of a node of a depth
abbrev pub ends_text : ℕ → ℕ → List ℕ
ends_text zero d = []
ends_text (suc k) d = indent (d - 1) ++ (codes "}\n" ++ ends_text k (d - 1))

-- an empty line before a node, but not right behind the line of the node that it stands in
abbrev pub between_nodes : NodeEntry → NodeEntry → List ℕ
between_nodes n m = if suc n.depth == m.depth && length n.rules == 0 then [] else line_end

-- the ends between two nodes, and the empty line
abbrev pub between_text : NodeEntry → NodeEntry → List ℕ
between_text n m = ends_text (closings n.depth m.depth) n.depth ++ between_nodes n m

-- what stands between a node's rules and the nodes behind it
abbrev pub after_text : NodeEntry → List NodeEntry → List ℕ
after_text n [] = ends_text (closings n.depth 0) n.depth
after_text n (m ∷ ns) = between_text n m

-- nodes one behind the other, each with its end where no node inside it follows
abbrev pub nodes_text : List OperatorEntry → List NodeEntry → List ℕ
nodes_text os [] = []
nodes_text os (n ∷ []) = node_text os n ++ ends_text (closings n.depth 0) n.depth
nodes_text os (n ∷ m ∷ ns) =
    node_text os n
    ++ (ends_text (closings n.depth m.depth) n.depth ++ (between_nodes n m ++ nodes_text os (m ∷ ns)))

-- THE TEXT OF A POLICY
abbrev pub canonical : Entries → List ℕ
canonical p = operators_text p.operators ++ nodes_text p.operators p.nodes
