-- What the walk answers: the steps of a file's tree, and for the walk's own contracts what each part of it puts.
--
--   rule_step                       the step of one rule before the others of its node
--   RulesSettled                    the steps of a node's own rules are put behind others
--   TreeSettled, ChildrenSettled    those of the tree at a place, and of some children
--   AllSettled                      the steps are those of a tree
--   IsTrace                         the steps of a file's tree, or the refusal that the file gets
use Rattle.std.specs.Prelude.{ℕ, ◌≡◌, Bool, List, ◌++◌, Result, Ok, Err, if◌then◌else◌}
use Rattle.words.specs.Records.{rows_of}
use Rattle.theory.specs.Tree.{own, eval, evals}
use Rattle.theory.specs.declared.Row.{Row}
use Rattle.row.specs.Row.{row_length, row_of}
use Rattle.flow.specs.declared.Match.{Match}
use Rattle.action.specs.Operator.{join}
use Rattle.action.specs.declared.Action.{Action}
use Rattle.action.specs.declared.Action.TheVariants.{DontCare}
use Rattle.policy.specs.Read.{read_of}
use Rattle.policy.specs.File.{PolicyTree, tree_of}
use Rattle.policy.specs.declared.Layout.{Layout}
use Rattle.nodes.specs.Nodes.{cells_at}
use Rattle.nodes.specs.Walk.{tree_at, children_at, AfterTree, AfterChildren}
use Rattle.nodes.specs.declared.Spot.{Spot}
use Rattle.trace.specs.Steps.{rule_steps, tree_rules, forest_rules, node_step, below_steps, child_steps, tree_steps}
use Rattle.trace.specs.declared.walk.RuleStep.{RuleStep}
use Rattle.trace.specs.declared.walk.NodeStep.{NodeStep}
use Rattle.trace.specs.declared.walk.Steps.{Steps}
use Rattle.trace.specs.declared.walk.StepsError.{StepsError}
use Rattle.trace.specs.declared.walk.StepsError.TheVariants.{Memory, Refused}

module _ {Q : Type 0} (meets : Match → Q → Bool) (q : Q) where
  -- one rule before the others
  unfoldable pub rule_step : List ℕ → Row Match Action → Action → RuleStep
  rule_step inner x rest = record {
    met = meets x.matching q;
    rest = rest;
    made = if meets x.matching q then join inner x.action rest else rest;
  }

  -- the action is that of the rules of some words, and their steps are put behind others
  pub record RulesSettled (inner words : List ℕ) (before after : List RuleStep) (action : Action) : Type 0 where
    pub given : action ≡ own meets DontCare join inner (rows_of row_length row_of words) q
    pub put : after ≡ before ++ rule_steps meets q inner (rows_of row_length row_of words)

  -- the step is that of the tree at a place, were it alone, and those of its rules and of the nodes below are put
  pub record TreeSettled (f : List ℕ) (s : Spot) (before after : Steps) (next : Spot) (step : NodeStep) : Type 0 where
    pub given : step ≡ node_step meets q (tree_at f s) DontCare (eval meets DontCare join (tree_at f s) q)
    pub rules : after.rules.items ≡ before.rules.items ++ tree_rules meets q (tree_at f s)
    pub nodes : after.nodes.items ≡ before.nodes.items ++ below_steps meets q (tree_at f s)
    pub behind : AfterTree f s next

  -- the action is that of k children from a place on under a sibling operator, and their steps are put
  pub record ChildrenSettled (f : List ℕ) (s : Spot) (sibling k : ℕ) (before after : Steps) (next : Spot)
      (action : Action) : Type 0 where
    pub given : action ≡ evals meets DontCare join (children_at f s k) (cells_at f sibling) q
    pub rules : after.rules.items ≡ before.rules.items ++ forest_rules meets q (children_at f s k)
    pub nodes : after.nodes.items
        ≡ before.nodes.items ++ child_steps meets q (cells_at f sibling) (children_at f s k)
    pub behind : AfterChildren f s k next

  -- the steps of a tree
  pub record AllSettled (t : PolicyTree) (s : Steps) : Type 0 where
    pub rules : s.rules.items ≡ tree_rules meets q t
    pub nodes : s.nodes.items ≡ tree_steps meets q t

  -- THE STEPS OF A FILE'S TREE, or the refusal that the file gets; memory may run out
  abbrev pub IsTrace : List ℕ → Result Steps StepsError → Type 0
  IsTrace f (Ok s) = (l : Layout) × (read_of f ≡ Ok l) × AllSettled (tree_of f l) s
  IsTrace f (Err Memory) = Unit {0}
  IsTrace f (Err (Refused r)) = read_of f ≡ Err r
