-- A policy as a text gives it: operators, nodes and rules by name, each with the byte of the text where its name
-- starts. See docs/NOTATION.md, "What a text gives".
--
--   OperatorEntry, RuleEntry, NodeEntry   an operator, a rule and a node with its rules
--   Entries                               a policy: its operators, and its nodes, parent first
use Rattle.std.specs.Prelude.{ℕ, List}
use Rattle.theory.specs.declared.Row.{Row}
use Rattle.flow.specs.declared.Match.{Match}
use Rattle.action.specs.declared.Action.{Action}

-- an operator: its name, where that stands, and its cells
pub record OperatorEntry : Type 0 where
  pub name : List ℕ
  pub at : ℕ
  pub cells : List ℕ

-- a rule: its label, where that stands, and its match and action
pub record RuleEntry : Type 0 where
  pub label : List ℕ
  pub at : ℕ
  pub row : Row Match Action

-- a node: its name, where that stands, how deep it is (the root has depth 1), its operators by index, and its rules
pub record NodeEntry : Type 0 where
  pub name : List ℕ
  pub at : ℕ
  pub depth : ℕ
  pub inner : ℕ
  pub sibling : ℕ
  pub parent : ℕ
  pub rules : List RuleEntry

-- a policy
pub record Entries : Type 0 where
  pub operators : List OperatorEntry
  pub nodes : List NodeEntry
