-- What is proved of actions, operators and the search: a statement each.
--
--   SearchExact        the search finds nothing exactly where both laws hold over all actions in range
--   SearchShows        the actions that it names come from the list and break the law that it names
--   ShownInRange       the actions of the list are in range
--   JoinInRange        joining actions in range never makes one outside it
--   Identity           don't care is the identity of every operator, on both sides
--   ActionOfWords      an action is what its two words say
--   WordsOfAction      two right words are the words of the action that they say
--   RightWords         an action has right words exactly where it is in range
use Rattle.std.specs.Prelude.{ℕ, ◌≡◌, ◌↔◌, true, List, Ok, Err}
use Rattle.action.specs.Action.{kind_of, rate_of, action_of, right_action, in_range}
use Rattle.action.specs.Operator.{join, RightCodes}
use Rattle.action.specs.Laws.{Commutative, Associative, ◌among◌, shown, law_search, Shows}
use Rattle.action.specs.declared.Action.{Action}
use Rattle.action.specs.declared.Action.TheVariants.{DontCare}
use Rattle.action.specs.declared.LawFailure.{LawFailure}

-- the search refuses exactly the operators that break a law at any allowed rates
abbrev pub SearchExact : Type 0
SearchExact = (o : List ℕ) → RightCodes o → (law_search o ≡ Ok tt) ↔ (Commutative o × Associative o)

-- what the search names are actions of the list, and they break the law that it names, whatever the operator's codes
abbrev pub SearchShows : Type 0
SearchShows = (o : List ℕ) (f : LawFailure) → law_search o ≡ Err f → Shows o f

-- the actions of the list are in range
abbrev pub ShownInRange : Type 0
ShownInRange = (a : Action) → a among shown → in_range a ≡ true

-- joining actions in range under right codes never makes one outside it
abbrev pub JoinInRange : Type 0
JoinInRange =
    (o : List ℕ) → RightCodes o → (a b : Action) → in_range a ≡ true → in_range b ≡ true → in_range (join o a b) ≡ true

-- don't care is the identity of every operator, whatever its codes
abbrev pub Identity : Type 0
Identity = (o : List ℕ) (a : Action) → (join o DontCare a ≡ a) × (join o a DontCare ≡ a)

-- an action's words say the action
abbrev pub ActionOfWords : Type 0
ActionOfWords = (a : Action) → action_of (kind_of a) (rate_of a) ≡ a

-- right words are those of the action that they say
abbrev pub WordsOfAction : Type 0
WordsOfAction = (k n : ℕ) → right_action k n ≡ true → (kind_of (action_of k n) ≡ k) × (rate_of (action_of k n) ≡ n)

-- an action has right words exactly where it is in range
abbrev pub RightWords : Type 0
RightWords = (a : Action) → right_action (kind_of a) (rate_of a) ≡ in_range a
