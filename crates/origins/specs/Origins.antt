-- Which atoms a row comes from, and what the tree over these alone has for an action. See docs/FORMAT.md, "Where a row
-- comes from".
--
--   holds m q             the match q lies inside m: `meets`, with a match in the place of a packet
--   origins_of N q        the places of the atoms N that q lies inside
--   action_inside t q     the action of the tree over these atoms alone: eval of Figure 1, with q in the place of a
--                         packet
use Rattle.std.specs.Prelude.{ℕ, Bool, List, length, slice_index_or}
use Rattle.theory.specs.declared.Row.{Row}
use Rattle.theory.specs.Hidden.{places_where}
use Rattle.theory.specs.Tree.{eval}
use Rattle.flow.specs.Match.{inside}
use Rattle.flow.specs.declared.Match.{Match}
use Rattle.action.specs.Operator.{join}
use Rattle.action.specs.declared.Action.{Action}
use Rattle.action.specs.declared.Action.TheVariants.{DontCare}
use Rattle.policy.specs.File.{PolicyTree}
use Rattle.table.specs.Table.{past}

-- the match q lies inside the match m
abbrev pub holds : Match → Match → Bool
holds m q = inside q m

-- the places of the atoms whose matches q lies inside, in order
abbrev pub origins_of : List (Row Match Action) → Match → List ℕ
origins_of N q = places_where (λ i. holds (slice_index_or N i past).matching q) (length N)

-- the action of the tree over the atoms alone that q lies inside
abbrev pub action_inside : PolicyTree → Match → Action
action_inside t q = eval holds DontCare join t q
