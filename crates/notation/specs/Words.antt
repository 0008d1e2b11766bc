-- The words that the notation is made of, each named once. See docs/NOTATION.md, "Grammar".
use Rattle.std.specs.Prelude.{ℕ, List, codes}

-- before an operator
abbrev pub operator_word : List ℕ
operator_word = codes "operator"

-- before a node
abbrev pub node_word : List ℕ
node_word = codes "node"

-- before a node's inner operator
abbrev pub inside_word : List ℕ
inside_word = codes "inside"

-- before its sibling operator
abbrev pub between_word : List ℕ
between_word = codes "between"

-- before its parent operator
abbrev pub below_word : List ℕ
below_word = codes "below"

-- the action allow, and its line and column of an operator's cells
abbrev pub allow_word : List ℕ
allow_word = codes "allow"

-- the action deny, and its line and column
abbrev pub deny_word : List ℕ
deny_word = codes "deny"

-- the action with a rate, and its line and column
abbrev pub reserve_word : List ℕ
reserve_word = codes "reserve"

-- the action of a rule that does not care
abbrev pub none_word : List ℕ
none_word = codes "none"

-- the match of all packets
abbrev pub any_word : List ℕ
any_word = codes "any"

-- the match of none
abbrev pub never_word : List ℕ
never_word = codes "never"

-- before the port where a packet comes in
abbrev pub in_word : List ℕ
in_word = codes "in"

-- before the number of a protocol
abbrev pub protocol_word : List ℕ
protocol_word = codes "protocol"

-- before the source
abbrev pub from_word : List ℕ
from_word = codes "from"

-- before the destination
abbrev pub to_word : List ℕ
to_word = codes "to"

-- before a port of a side
abbrev pub port_word : List ℕ
port_word = codes "port"

-- the operator that stands for a missing inner or sibling operator
abbrev pub sibling_word : List ℕ
sibling_word = codes "sibling"

-- the one that stands for a missing parent operator
abbrev pub parent_word : List ℕ
parent_word = codes "parent"

-- the marks
abbrev pub colon_mark : List ℕ
colon_mark = codes ":"

-- the brace before a node's rules and an operator's cells
abbrev pub open_mark : List ℕ
open_mark = codes "{"

-- the brace behind them
abbrev pub close_mark : List ℕ
close_mark = codes "}"
