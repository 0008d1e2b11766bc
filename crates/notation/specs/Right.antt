-- Policies that a text can give: names that are names and differ, right cells, matches and actions, nodes that are one
-- tree, and the limits of a file. See docs/NOTATION.md.
--
--   Distinct           no entry of a list stands in it twice
--   RightOperator      an operator's name and cells; the two that are there from the start have their own cells
--   RightRule          a rule's label, match and action
--   RightNode          a node's name, operators and rules, among so many operators
--   RightEntries       a policy that a text can give
--   bare               a policy without places
use Rattle.std.specs.Prelude.{ℕ, ◌<◌, ◌≤◌, ◌≡◌, true, List, [], ◌∷◌, IfSome, length, map, ⊤}
use Rattle.logic.specs.Lists.{All}
use Rattle.flow.specs.Match.{right_match}
use Rattle.action.specs.Action.{in_range}
use Rattle.action.specs.Operator.{RightCodes}
use Rattle.policy.specs.Numbers.{most_operators, most_atoms, most_nodes}
use Rattle.depths.specs.Depths.{Nested}
use Rattle.values.specs.Words.{is_name}
use Rattle.notation.specs.Policy.{OperatorEntry, RuleEntry, NodeEntry, Entries}
use Rattle.notation.specs.Operators.{builtin_of}
use Rattle.notation.specs.Nodes.{rule_count}

-- no entry stands twice
abbrev pub Distinct : {X : Type 0} → List X → Type 0
Distinct [] = ⊤
Distinct (x ∷ xs) = All (λ y. ¬ (y ≡ x)) xs × Distinct xs

-- a right operator
pub record RightOperator (o : OperatorEntry) : Type 0 where
  pub name : is_name o.name ≡ true
  pub cells : RightCodes o.cells
  pub own : IfSome (builtin_of o.name) (λ cells. o.cells ≡ cells)

-- a right rule
pub record RightRule (r : RuleEntry) : Type 0 where
  pub label : is_name r.label ≡ true
  pub matching : right_match r.row.matching ≡ true
  pub action : in_range r.row.action ≡ true

-- a right node among n operators
pub record RightNode (n : ℕ) (x : NodeEntry) : Type 0 where
  pub name : is_name x.name ≡ true
  pub inner : x.inner < n
  pub sibling : x.sibling < n
  pub parent : x.parent < n
  pub rules : All RightRule x.rules
  pub labels : Distinct (map (λ r. r.label) x.rules)

-- a policy that a text can give
pub record RightEntries (p : Entries) : Type 0 where
  pub few_operators : length p.operators ≤ most_operators
  pub operators : All RightOperator p.operators
  pub operator_names : Distinct (map (λ o. o.name) p.operators)
  pub few_nodes : length p.nodes ≤ most_nodes
  pub nodes : All (RightNode (length p.operators)) p.nodes
  pub node_names : Distinct (map (λ n. n.name) p.nodes)
  pub nested : Nested (map (λ n. n.depth) p.nodes)
  pub few_rules : rule_count p.nodes ≤ most_atoms

-- without places
abbrev pub bare_operator : OperatorEntry → OperatorEntry
bare_operator o = record { name = o.name; at = 0; cells = o.cells }

-- a rule without its place
abbrev pub bare_rule : RuleEntry → RuleEntry
bare_rule r = record { label = r.label; at = 0; row = r.row }

-- a node without places
abbrev pub bare_node : NodeEntry → NodeEntry
bare_node n = record {
  name = n.name;
  at = 0;
  depth = n.depth;
  inner = n.inner;
  sibling = n.sibling;
  parent = n.parent;
  rules = map bare_rule n.rules;
}

-- a policy without places
abbrev pub bare : Entries → Entries
bare p = record { operators = map bare_operator p.operators; nodes = map bare_node p.nodes }
