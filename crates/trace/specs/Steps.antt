-- The steps in which a policy tree settles what it says: eval of Figure 1, rule by rule and node by node, in file
-- order.
--
--   rule_steps                  the steps of some rules of one node
--   tree_rules, forest_rules    the steps of all rules of a tree, and of some trees
--   node_step                   the step of a tree's root, with what its siblings came to and what it and these did
--   below_steps, child_steps    the steps of the nodes below a tree's root, and of some children and all below them
--   tree_steps                  the steps of all nodes of a tree
use Rattle.std.specs.Prelude.{ℕ, Bool, List, [], ◌∷◌, ◌++◌}
use Rattle.theory.specs.declared.Row.{Row}
use Rattle.theory.specs.Tree.{Forest, node, bare, ◌▸◌, own, eval, evals}
use Rattle.flow.specs.declared.Match.{Match}
use Rattle.action.specs.Operator.{join}
use Rattle.action.specs.declared.Action.{Action}
use Rattle.action.specs.declared.Action.TheVariants.{DontCare}
use Rattle.policy.specs.File.{PolicyNode, PolicyTree}
use Rattle.trace.specs.declared.walk.RuleStep.{RuleStep}
use Rattle.trace.specs.declared.walk.NodeStep.{NodeStep}

module _ {Q : Type 0} (meets : Match → Q → Bool) (q : Q) where
  -- each rule: whether it is met, what the rules behind it came to, and what it and these did
  abbrev pub rule_steps : List ℕ → List (Row Match Action) → List RuleStep
  rule_steps inner [] = []
  rule_steps inner (x ∷ xs) =
      record {
        met = meets x.matching q;
        rest = own meets DontCare join inner xs q;
        made = own meets DontCare join inner (x ∷ xs) q;
      }
      ∷ rule_steps inner xs

  abbrev mutual
    -- a node's rules, then those of its children
    pub tree_rules : PolicyTree → List RuleStep
    tree_rules (node n ts) = rule_steps n.inner n.atoms ++ forest_rules ts

    -- those of each tree in order
    pub forest_rules : Forest PolicyNode → List RuleStep
    forest_rules bare = []
    forest_rules (t ▸ ts) = tree_rules t ++ forest_rules ts

  -- the root of a tree: its own rules, its children, and both; its siblings, and what it and these came to
  abbrev pub node_step : PolicyTree → Action → Action → NodeStep
  node_step (node n ts) rest joined = record {
    own = own meets DontCare join n.inner n.atoms q;
    below = evals meets DontCare join ts n.sibling q;
    made = eval meets DontCare join (node n ts) q;
    rest = rest;
    joined = joined;
  }

  abbrev mutual
    -- the nodes below the root of a tree
    pub below_steps : PolicyTree → List NodeStep
    below_steps (node n ts) = child_steps n.sibling ts

    -- each child under a sibling operator with those behind it, and the nodes below it
    pub child_steps : List ℕ → Forest PolicyNode → List NodeStep
    child_steps sibling bare = []
    child_steps sibling (t ▸ ts) =
        node_step t (evals meets DontCare join ts sibling q) (evals meets DontCare join (t ▸ ts) sibling q)
        ∷ below_steps t ++ child_steps sibling ts

  -- THE STEPS OF A TREE: its root, which has no siblings, and the nodes below it
  abbrev pub tree_steps : PolicyTree → List NodeStep
  tree_steps t = node_step t DontCare (eval meets DontCare join t q) ∷ below_steps t
