-- The entries of a policy's structs, without where they lie in memory.
use denote.Ref.{Bor}
use Rattle.std.specs.Prelude.{ℕ, List, [], ◌∷◌, Result, Ok, Err, map}
use Rattle.notation.specs.declared.entries.NamedOperator.{NamedOperator}
use Rattle.notation.specs.declared.entries.Rule.{Rule}
use Rattle.notation.specs.declared.entries.NamedNode.{NamedNode}
use Rattle.notation.specs.declared.fault.Fault.{Fault}
use Rattle.action.specs.declared.Operator.{Operator}
use Rattle.notation.specs.Policy.{OperatorEntry, RuleEntry, NodeEntry, Entries}

-- an operator
abbrev pub operator_entry : NamedOperator → OperatorEntry
operator_entry o = record { name = o.name.items; at = o.at; cells = o.operator.cells }

-- a rule
abbrev pub rule_entry : Rule → RuleEntry
rule_entry r = record { label = r.label.items; at = r.at; row = r.row }

-- rules
abbrev pub rule_entries : List Rule → List RuleEntry
rule_entries rs = map rule_entry rs

-- a node
abbrev pub node_entry : NamedNode → NodeEntry
node_entry n = record {
  name = n.name.items;
  at = n.at;
  depth = n.depth;
  inner = n.inner;
  sibling = n.sibling;
  parent = n.parent;
  rules = rule_entries n.rules.items;
}

-- operators
abbrev pub operator_entries : List NamedOperator → List OperatorEntry
operator_entries os = map operator_entry os

-- nodes
abbrev pub node_entries : List NamedNode → List NodeEntry
node_entries ns = map node_entry ns

-- a policy of some operators and nodes
abbrev pub entries : List NamedOperator → List NamedNode → Entries
entries os ns = record { operators = operator_entries os; nodes = node_entries ns }

-- the bytes that were read, or a fault
abbrev pub slice_of : Result (Bor (List ℕ)) Fault → Result (List ℕ) Fault
slice_of (Ok x) = Ok x.now
slice_of (Err f) = Err f

-- the three cells of a line that were read, or a fault
abbrev pub line_read : Result (ℕ × ℕ × ℕ) Fault → Result (List ℕ) Fault
line_read (Ok x) = Ok (x.0 ∷ x.1 ∷ x.2 ∷ [])
line_read (Err f) = Err f

-- the cells that were read, or a fault
abbrev pub cells_read : Result Operator Fault → Result (List ℕ) Fault
cells_read (Ok o) = Ok o.cells
cells_read (Err f) = Err f
