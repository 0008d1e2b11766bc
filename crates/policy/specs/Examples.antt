-- Files of the worked examples. See docs/FORMAT.md, "A file, word by word".
--
--   tenant_atoms, tenant   the tenant of the worked example, by its atoms and as a file
--   tenant_with i          the same with the operator i inside its root
--   lone o                 one operator, no atoms, one node
--   lopsided               an operator that is commutative and not associative
use Rattle.std.specs.Prelude.{ℕ, List, [], ◌∷◌, ◌++◌}
use Rattle.action.specs.Operator.{sibling, parent}

-- a studio denies 10.7.0.0/16, and its region team reserves 40,000 kbit/s to 10.7.3.9 inside it
abbrev pub tenant_atoms : List ℕ
tenant_atoms =
    2 ∷ 0 ∷ 0 ∷ 168230912 ∷ 0 ∷ 0 ∷ 0 ∷ 0 ∷ 16 ∷ 0 ∷ 2 ∷ 0 ∷ 0 ∷ 0 ∷ 168231689 ∷ 0 ∷ 0 ∷ 0 ∷ 0 ∷ 32 ∷ 0 ∷ 3 ∷ 40000 ∷ []

-- that file, whose root uses the operator at an index inside
abbrev pub tenant_with : ℕ → List ℕ
tenant_with inner = (2 ∷ sibling) ++ parent ++ tenant_atoms ++ (2 ∷ inner ∷ 1 ∷ 0 ∷ 1 ∷ 1 ∷ 0 ∷ 1 ∷ 0 ∷ 1 ∷ 0 ∷ [])

-- the tenant's file
abbrev pub tenant : List ℕ
tenant = tenant_with 0

-- one operator, no atoms, one node of five zeros
abbrev pub lone : List ℕ → List ℕ
lone cells = (1 ∷ cells) ++ (0 ∷ 1 ∷ 0 ∷ 0 ∷ 0 ∷ 0 ∷ 0 ∷ [])

-- an operator that is commutative and not associative
abbrev pub lopsided : List ℕ
lopsided = 1 ∷ 1 ∷ 4 ∷ 1 ∷ 2 ∷ 2 ∷ 3 ∷ 2 ∷ 5 ∷ []
