-- What a file is refused with once its sections are good, by its nodes and operators: the tree, the own-atom counts and
-- the laws. See docs/FORMAT.md, "The policy file" and "Numbers a caller can get back".
--
--   nodes_by_words         the nodes that a list of words holds, each by its words
--   shape_fault            the nodes are one tree, no deeper than allowed (8)
--   own_atoms, sum_fault   the own-atom counts add up to the atoms (9)
--   names, named           a node, or some node, names an operator as inner or sibling
--   laws_fault             the operators that some node names so keep the laws (10)
--   Innermost              the innermost node that waits is taken off a stack
use Rattle.std.specs.Prelude.{ℕ, zero, suc, ◌+◌, ◌/◌, ◌<◌, ◌≡◌, pred, Bool, false, ◌&&◌, ◌||◌, List, [], ◌∷◌, Option, Some, None, Ok, Err, map, reverse, length, if◌then◌else◌, ◌==◌, nat_le}
use Rattle.action.specs.Operator.{cells_of}
use Rattle.action.specs.Laws.{Searched, law_search}
use Rattle.words.specs.Records.{records}
use Rattle.refusal.specs.Refusals.{refusal_at}
use Rattle.refusal.specs.declared.Reason.TheVariants.{NoTree, WrongSum, LawBroken}
use Rattle.policy.specs.Numbers.{node_length, deepest}
use Rattle.policy.specs.Sections.{Test, unless, each, inner_of, sibling_of, own_of, children_of}

-- the nodes that a list of words holds, each by its words
abbrev pub nodes_by_words : List ℕ → List (List ℕ)
nodes_by_words ws = records (length ws / node_length) node_length ws

-- of the children still to come of each open node, the innermost first: those that wait for one
abbrev pub waiting_nodes : List ℕ → List ℕ
waiting_nodes [] = []
waiting_nodes (zero ∷ st) = waiting_nodes st
waiting_nodes (suc n ∷ st) = suc n ∷ st

-- the innermost waits for one child less
abbrev pub one_less : List ℕ → List ℕ
one_less [] = []
one_less (n ∷ st) = pred n ∷ st

-- nodes in order, by their child counts: first whether the tree had already ended, then depth; at the end, whether
-- children are missing
abbrev pub shape : List ℕ → List ℕ → ℕ → Test
shape [] st i = unless (length (waiting_nodes st) == 0) NoTree i
shape (k ∷ ks) st i =
    if nat_le 1 (length (waiting_nodes st)) && nat_le (length (waiting_nodes st)) deepest
    then shape ks (k ∷ one_less (waiting_nodes st)) (suc i)
    else Err (refusal_at NoTree i)

-- the nodes are one tree, no deeper than allowed: one node is awaited, the root
unfoldable pub shape_fault : List (List ℕ) → Test
shape_fault ns = shape (map children_of ns) (1 ∷ []) 0

-- the sum of the own-atom counts
abbrev pub own_atoms : List (List ℕ) → ℕ
own_atoms [] = 0
own_atoms (r ∷ rs) = own_of r + own_atoms rs

-- it is the number of atoms
unfoldable pub sum_fault : List (List ℕ) → ℕ → Test
sum_fault ns b = unless (own_atoms ns == b) WrongSum 0

-- a node names the operator i as inner or sibling
abbrev pub names : ℕ → List ℕ → Bool
names i r = inner_of r == i || sibling_of r == i

-- some node does
abbrev pub named : ℕ → List (List ℕ) → Bool
named i [] = false
named i (r ∷ rs) = names i r || named i rs

-- the refusal for the operator i where the search found a broken law
abbrev pub broken : ℕ → Searched → Test
broken i (Ok u) = Ok tt
broken i (Err f) = Err (refusal_at (LawBroken f) i)

-- the operator i keeps the laws, if some node names it
unfoldable pub operator_fault : List (List ℕ) → ℕ → List ℕ → Test
operator_fault ns i o = if named i ns then broken i (law_search (cells_of o)) else Ok tt

-- all operators, by index
unfoldable pub laws_fault : List (List ℕ) → List (List ℕ) → Test
laws_fault ns os = each (operator_fault ns) 0 1 os

-- of a stack whose last is on top, the innermost that waits for a child is taken off with those above it, or none waits
abbrev pub Innermost : List ℕ → List ℕ → Option ℕ → Type 0
Innermost old new (Some n) = (0 < n) × (waiting_nodes (reverse old) ≡ n ∷ reverse new)
Innermost old new None = waiting_nodes (reverse old) ≡ []
