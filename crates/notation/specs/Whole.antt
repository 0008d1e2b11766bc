-- A policy's struct, and a node's header, without where they lie in memory.
use Rattle.std.specs.Prelude.{List}
use Rattle.notation.specs.declared.whole.Policy.{Policy}
use Rattle.notation.specs.declared.nodes.Header as read
use Rattle.notation.specs.Nodes.{Header}
use Rattle.notation.specs.Policy.{OperatorEntry, Entries}
use Rattle.notation.specs.Views.{entries}

-- a policy
abbrev pub entries_of : Policy → Entries
entries_of p = entries p.operators.items p.nodes.items

-- a header, with the operators behind it
abbrev pub header_of : List OperatorEntry → read.Header → Header
header_of os h = record { name = h.name.now; inner = h.inner; sibling = h.sibling; parent = h.parent; operators = os }
