-- That a policy is right is a fact: it has one proof at most, as the field of a struct must.
use Rattle.std.specs.Prelude.{ℕ, ◌≡◌, ◌≤◌, Bool, List, [], ◌∷◌, Some, None, Option, IfSome, length}
use Rattle.std.specs.Coded.{×_prop, Unit-prop, le_prop, Coded-set, coded_bool, coded_ℕ, coded_list}
use Rattle.logic.specs.Lists.{All}
use Rattle.depths.specs.Depths.{Below, Nested}
use Rattle.notation.specs.Policy.{OperatorEntry, RuleEntry, NodeEntry, Entries}
use Rattle.notation.specs.Operators.{builtin_of}
use Rattle.notation.specs.Right.{Distinct, RightOperator, RightRule, RightNode, RightEntries}

-- that two values are equal, and that a number is no more than another
pub same-prop : (a b : Bool) → IsProp (a ≡ b)
same-prop a b = Coded-set coded_bool a b

-- that two numbers are equal
pub equal-prop : (m n : ℕ) → IsProp (m ≡ n)
equal-prop m n = Coded-set coded_ℕ m n

-- that two lists are equal
pub list-prop : (xs ys : List ℕ) → IsProp (xs ≡ ys)
list-prop xs ys = Coded-set (coded_list coded_ℕ) xs ys

-- that a number is no more than another
pub most-prop : (m n : ℕ) → IsProp (m ≤ n)
most-prop m n = le_prop

-- of all entries of a list
pub all-prop : {X : Type 0} (P : X → Type 0) (one : (x : X) → IsProp (P x)) (xs : List X) → IsProp (All P xs)
all-prop P one [] = Unit-prop
all-prop P one (x ∷ xs) = ×_prop (one x) (all-prop P one xs)

-- of entries that differ
pub distinct-prop : {X : Type 0} (xs : List X) → IsProp (Distinct xs)
distinct-prop [] = Unit-prop
distinct-prop (x ∷ xs) = ×_prop (all-prop _ (λ y. hlevel) xs) (distinct-prop xs)

-- of depths
pub below-prop : (d : ℕ) (ds : List ℕ) → IsProp (Below d ds)
below-prop d [] = Unit-prop
below-prop d (e ∷ es) = hlevel (most-prop, below-prop e es)

-- that depths are nested
pub nested-prop : (ds : List ℕ) → IsProp (Nested ds)
nested-prop [] = hlevel
nested-prop (d ∷ ds) = hlevel (equal-prop, below-prop d ds)

-- of an operator, a rule and a node
pub own-prop : (c : Option (List ℕ)) (cells : List ℕ) → IsProp (IfSome c (λ own. cells ≡ own))
own-prop None cells = Unit-prop
own-prop (Some own) cells = list-prop cells own

-- of an operator
pub operator-prop : (o : OperatorEntry) → IsProp (RightOperator o)
operator-prop o = hlevel (same-prop, equal-prop, list-prop, own-prop (builtin_of o.name) o.cells)

-- of a rule
pub rule-prop : (r : RuleEntry) → IsProp (RightRule r)
rule-prop r = hlevel same-prop

-- of a node
pub node-prop : (n : ℕ) (x : NodeEntry) → IsProp (RightNode n x)
node-prop n x = hlevel (same-prop, most-prop, all-prop RightRule rule-prop x.rules, distinct-prop)

-- of a policy
pub right-prop : (p : Entries) → IsProp (RightEntries p)
right-prop p = hlevel (
  most-prop,
  all-prop RightOperator operator-prop p.operators,
  all-prop (RightNode (length p.operators)) (node-prop (length p.operators)) p.nodes,
  distinct-prop,
  nested-prop,
)
