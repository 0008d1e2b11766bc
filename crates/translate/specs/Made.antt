-- What reading a policy file as a policy gives.
--
--   IsMade        the policy that a file is, or the refusal that the file gets
--   node_made     a node of a file with its depth and rules
--   Waits         the innermost node that waits for a child is taken off a stack, or none waits
use Rattle.std.specs.Prelude.{ℕ, ◌<◌, ◌≡◌, List, [], ◌∷◌, Option, Some, None, Result, Ok, Err, codes}
use Rattle.policy.specs.declared.Layout.{Layout}
use Rattle.policy.specs.declared.nodes.Node.{Node}
use Rattle.policy.specs.Read.{read_of}
use Rattle.notation.specs.Policy.{RuleEntry, NodeEntry}
use Rattle.notation.specs.declared.whole.Policy.{Policy}
use Rattle.translate.specs.declared.made.FromError.{FromError}
use Rattle.translate.specs.declared.made.FromError.TheVariants.{Memory, Refused}
use Rattle.notation.specs.Whole.{entries_of}
use Rattle.translate.specs.Names.{numbered, policy_of}

-- the policy that a file is, or the refusal that the file gets
abbrev pub IsMade : List ℕ → Result Policy FromError → Type 0
IsMade f (Ok p) = (l : Layout) × (read_of f ≡ Ok l) × (entries_of p ≡ policy_of f l)
IsMade f (Err Memory) = Unit {0}
IsMade f (Err (Refused r)) = read_of f ≡ Err r

-- a node of a file with its depth and rules
abbrev pub node_made : ℕ → ℕ → Node → List RuleEntry → NodeEntry
node_made i depth n rules = record {
  name = numbered (codes "node") i;
  at = 0;
  depth = depth;
  inner = n.inner;
  sibling = n.sibling;
  parent = n.parent;
  rules = rules;
}

-- the innermost node that waits for a child is taken off the waiting nodes, or none waits
abbrev pub Waits : List ℕ → List ℕ → Option ℕ → Type 0
Waits waiting new (Some n) = (0 < n) × (waiting ≡ n ∷ new)
Waits waiting new None = (waiting ≡ []) × (new ≡ [])
