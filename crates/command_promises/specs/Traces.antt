-- What is promised of the steps of a trace: there is one for each atom and each node of the file, in file order, and
-- each settles with the step behind it, under the operator that its node has for this. Nothing here speaks of eval, but
-- for the end: what the root came to is the tree's action.
--
--   first_made, first_joined       what the first of some steps came to, don't care where there is none
--   RulesSettle                    the steps of one node's rules
--   NodeSettles                    a node's own rules and its children, under its parent operator
--   AmongSiblings                  a node and the siblings behind it, under the sibling operator of the node above
--   TreeSettles, ChildrenSettle    all steps of a tree, and of some children
--   TraceSettles                   the trace of an accepted file
--   RootMade                       what the root came to
--   TracesSettle                   all traces, of packets and of matches
use Rattle.std.specs.Prelude.{ℕ, ◌≡◌, ⊤, Bool, true, List, [], ◌∷◌, ◌++◌, Ok, length, map, if◌then◌else◌}
use Rattle.theory.specs.declared.Row.{Row}
use Rattle.theory.specs.Tree.{Forest, node, bare, ◌▸◌}
use Rattle.flow.specs.Packet.{packet_of, right_packet_words}
use Rattle.flow.specs.Match.{meets}
use Rattle.flow.specs.declared.Match.{Match}
use Rattle.flow.specs.declared.Packet.{Packet}
use Rattle.action.specs.Operator.{join}
use Rattle.action.specs.declared.Action.{Action}
use Rattle.action.specs.declared.Action.TheVariants.{DontCare}
use Rattle.policy.specs.Read.{read_of}
use Rattle.policy.specs.File.{PolicyNode, PolicyTree, atoms_of, tree_of}
use Rattle.policy.specs.declared.Layout.{Layout}
use Rattle.tree.specs.Action.{tree_action_of}
use Rattle.origins.specs.Origins.{holds, action_inside}
use Rattle.trace.specs.declared.walk.RuleStep.{RuleStep}
use Rattle.trace.specs.declared.walk.NodeStep.{NodeStep}
use Rattle.trace.specs.declared.walk.Steps.{Steps}
use Rattle.trace.specs.Settled.{IsTrace}

-- what the first of some rules and those behind it came to
abbrev pub first_made : List RuleStep → Action
first_made [] = DontCare
first_made (s ∷ ss) = s.made

-- what the first of some siblings and those behind it came to
abbrev pub first_joined : List NodeStep → Action
first_joined [] = DontCare
first_joined (s ∷ ss) = s.joined

-- a node settles what its own rules and the steps below it came to
pub record NodeSettles (n : PolicyNode) (s : NodeStep) (rules : List RuleStep) (steps : List NodeStep) : Type 0 where
  pub own : s.own ≡ first_made rules
  pub below : s.below ≡ first_joined steps
  pub made : s.made ≡ join n.parent s.own s.below

-- and what it and the siblings behind it came to, under the sibling operator of the node above
pub record AmongSiblings (sibling : List ℕ) (s : NodeStep) (others : List NodeStep) : Type 0 where
  pub rest : s.rest ≡ first_joined others
  pub joined : s.joined ≡ join sibling s.made s.rest

module _ {Q : Type 0} (meets : Match → Q → Bool) (q : Q) where
  -- a rule settles with those behind it: where it is met, under the inner operator of its node, else they stand alone
  pub record RuleSettles (inner : List ℕ) (x : Row Match Action) (s : RuleStep) (others : List RuleStep) : Type 0 where
    pub met : s.met ≡ meets x.matching q
    pub rest : s.rest ≡ first_made others
    pub made : s.made ≡ (if s.met then join inner x.action s.rest else s.rest)

  -- each rule of a node does
  abbrev pub RulesSettle : List ℕ → List (Row Match Action) → List RuleStep → Type 0
  RulesSettle inner [] [] = ⊤
  RulesSettle inner [] (s ∷ ss) = ⊥
  RulesSettle inner (x ∷ xs) [] = ⊥
  RulesSettle inner (x ∷ xs) (s ∷ ss) = RuleSettles inner x s ss × RulesSettle inner xs ss

  abbrev mutual
    -- a tree: the step of its root, those of all its rules, and those of the nodes below the root
    pub TreeSettles : PolicyTree → NodeStep → List RuleStep → List NodeStep → Type 0
    TreeSettles (node n ts) s rules below =
        (own : List RuleStep) × (others : List RuleStep) × (rules ≡ own ++ others) × RulesSettle n.inner n.atoms own
        × NodeSettles n s own below
        × ChildrenSettle n.sibling ts others below

    -- children under a sibling operator: the first with those behind it, and each of them
    pub ChildrenSettle : List ℕ → Forest PolicyNode → List RuleStep → List NodeStep → Type 0
    ChildrenSettle sibling bare rules steps = (rules ≡ []) × (steps ≡ [])
    ChildrenSettle sibling (t ▸ ts) rules steps =
        (s : NodeStep) × (below : List NodeStep) × (others : List NodeStep) × (steps ≡ s ∷ (below ++ others))
        × (own_rules : List RuleStep) × (other_rules : List RuleStep) × (rules ≡ own_rules ++ other_rules)
        × AmongSiblings sibling s others
        × TreeSettles t s own_rules below
        × ChildrenSettle sibling ts other_rules others

  -- THE TRACE OF AN ACCEPTED FILE: a step for each atom and each node, met where the atom is, all of them settled; the
  -- root has no siblings
  pub record TraceSettles (f : List ℕ) (l : Layout) (s : Steps) : Type 0 where
    pub rule_count : length s.rules.items ≡ l.atoms
    pub node_count : length s.nodes.items ≡ l.nodes
    pub met : map (λ r. r.met) s.rules.items ≡ map (λ x. meets x.matching q) (atoms_of f l)
    pub root : NodeStep
    pub below : List NodeStep
    pub steps : s.nodes.items ≡ root ∷ below
    pub settles : TreeSettles (tree_of f l) root s.rules.items below
    pub no_siblings : root.rest ≡ DontCare
    pub alone : root.joined ≡ root.made

-- what the root came to, which is the first node
abbrev pub RootMade : Steps → Action → Type 0
RootMade s a = (root : NodeStep) × (below : List NodeStep) × (s.nodes.items ≡ root ∷ below) × (root.made ≡ a)

-- WHAT IS PROMISED OF TRACES, whatever is asked; at the end stands the tree's action, and that of the tree over the
-- atoms alone that a match lies inside
pub record TracesSettle : Type 0 where
  pub packets : (f : List ℕ) (l : Layout) (p : Packet) (s : Steps) → read_of f ≡ Ok l → IsTrace meets p f (Ok s)
      → TraceSettles meets p f l s
  pub matches : (f : List ℕ) (l : Layout) (q : Match) (s : Steps) → read_of f ≡ Ok l → IsTrace holds q f (Ok s)
      → TraceSettles holds q f l s
  pub ends : (f p : List ℕ) (l : Layout) (s : Steps) → read_of f ≡ Ok l → right_packet_words p ≡ true
      → IsTrace meets (packet_of p) f (Ok s) → (a : Action) × (tree_action_of f p ≡ Ok a) × RootMade s a
  pub ends_inside : (f : List ℕ) (l : Layout) (q : Match) (s : Steps) → read_of f ≡ Ok l
      → IsTrace holds q f (Ok s) → RootMade s (action_inside (tree_of f l) q)
