-- The search for a failure by what the pairs give, which is how the code goes: of a triple two joins are left, and of a
-- triple and the one read backwards the first alone is tried. Assumes nothing.
--
--   joins o a                what an action gives with each of the list; joined o what each of the list gives
--   second_by o a r          the first pair of a, which gives r, and some second that breaks commutativity
--   pair_by o t              the first pair that does, where t is what each gives
--   later i xs               what stands after the entry i
--   third_by o i a b x r     the first triple of a and b, which give x, and some third after the entry i that breaks
--                            associativity, where r is what b gives
--   second_pair_by o i a r t the first triple of a, which is the entry i and gives r, and some pair that does
--   triple_by o t            the first triple that does
use Rattle.std.specs.Prelude.{ℕ, List, map, drop}
use Rattle.std.specs.List.{zip, enumerate_from}
use Rattle.action.specs.Operator.{join}
use Rattle.action.specs.Laws.{Searched, same, told, shown, along}
use Rattle.action.specs.declared.Action.{Action}
use Rattle.action.specs.declared.LawFailure.TheVariants.{Commutativity, Associativity}

-- an action joined with each of the list, and each of the list joined so
unfoldable pub joins : List ℕ → Action → List Action
joins o a = map (join o a) shown

unfoldable pub joined : List ℕ → List (List Action)
joined o = map (joins o) shown

-- commutativity: each second action beside what the first gives with it
unfoldable pub second_by : List ℕ → Action → List Action → Searched
second_by o a r = along (λ p. told (same p.1 (join o p.0 a)) (Commutativity a p.0)) (zip shown r)

unfoldable pub pair_by : List ℕ → List (List Action) → Searched
pair_by o t = along (λ p. second_by o p.0 p.1) (zip shown t)

-- what stands after an entry
abbrev pub later : {X : Type 0} → ℕ → List X → List X
later i xs = drop 1 (drop i xs)

-- associativity: each third action beside what the second gives with it
unfoldable pub third_by : List ℕ → ℕ → Action → Action → Action → List Action → Searched
third_by o i a b x r =
    along (λ p. told (same (join o x p.0) (join o a p.1)) (Associativity a b p.0)) (later i (zip shown r))

-- each second action beside what the first gives with it, and beside its own joins
unfoldable pub second_pair_by : List ℕ → ℕ → Action → List Action → List (List Action) → Searched
second_pair_by o i a r t = along (λ p. third_by o i a p.0.0 p.0.1 p.1) (zip (zip shown r) t)

unfoldable pub triple_by : List ℕ → List (List Action) → Searched
triple_by o t = along (λ p. second_pair_by o p.0 p.1.0 p.1.1 t) (enumerate_from 0 (zip shown t))
