-- Rates that stay in their range, sentence by sentence as it was asked for. It is said of the definitions that the
-- contracts cite.
--
--   RateInRange a         an action whose rate, where it has one, is in range
--   Joining               what joining makes of such actions, in an accepted file too
--   Refusing              which numbers are given, and in which order the compile gives them
--   rate_cases            worked cases: calls, and what they give
use Rattle.std.specs.Prelude.{ℕ, ◌<◌, ◌≡◌, List, [], ◌∷◌, length, Ok, slice_index, ⊤}
use Rattle.logic.specs.Lists.{All}
use Rattle.action.specs.Operator.{join}
use Rattle.action.specs.declared.Action.{Action}
use Rattle.action.specs.declared.Action.TheVariants.{DontCare, Allow, Deny, Gmb}
use Rattle.row.specs.Row.{table_rows}
use Rattle.refusal.specs.Theorems.{NumbersGiven}
use Rattle.policy.specs.Read.{read_of}
use Rattle.policy.specs.declared.Layout.{Layout}
use Rattle.tree.specs.Action.{tree_action_of}
use Rattle.table.specs.Table.{check_of}
use Rattle.compile.specs.Compile.{compiled_rows, answer_of, table_after}
use Rattle.compile.specs.Theorems.{AnsweredInOrder}
use Rattle.promises.specs.Cases.{Case, k, Hold, to}
use Rattle.promises.specs.Trees.{left_in, nines}
use Rattle.promises.specs.Reservations.{RightRate, Allowed, thrice}

-- an action without a rate, or with one in range
abbrev pub RateInRange : Action → Type 0
RateInRange DontCare = ⊤
RateInRange Allow = ⊤
RateInRange Deny = ⊤
RateInRange (Gmb m) = RightRate m

pub record Joining : Type 0 where
  -- "Show that joining rates already in range, under codes 1 to 7, never makes one outside it.": 1 to 4 in each cell,
  -- and up to 7 in the ninth
  pub joined : (o : List ℕ) → length o ≡ 9 → ((i : ℕ) → i < 9 → Allowed i (slice_index o i))
      → (a b : Action) → RateInRange a → RateInRange b → RateInRange (join o a b)
  -- so the rate of each row of an accepted file is in range, and that of each action of its tree
  pub rows : (f : List ℕ) (l : Layout) → read_of f ≡ Ok l → All (λ r. RateInRange r.action) (compiled_rows f l)
  pub actions : (f p : List ℕ) (a : Action) → tree_action_of f p ≡ Ok a → RateInRange a
  -- and no compiled row is wrong: the table's check passes as many as were answered
  pub checked : (f t s : List ℕ) (n : ℕ) → answer_of f t s ≡ Ok n → check_of (table_rows n (table_after f t s)) ≡ Ok n

pub record Refusing : Type 0 where
  -- "the number isn't given out again.": whatever is refused has a number from 1 to 13 or from 15 to 21
  pub given : NumbersGiven
  -- "Refusals: the compile's order becomes 1..10, 13, 12.": what reading refuses, which is 1..10 by `EveryInput`, then
  -- these two, and behind them nothing
  pub order : AnsweredInOrder

-- an operator by its ninth cell, that of two rates
abbrev pub ninth : ℕ → List ℕ
ninth code = 1 ∷ 2 ∷ 4 ∷ 2 ∷ 2 ∷ 2 ∷ 3 ∷ 2 ∷ code ∷ []

-- Cases are numbered by the code of two rates, 0 for what is made of a file
abbrev pub rate_cases : List Case
rate_cases =
    -- the least and the largest rate under each code
    k 1 (join (ninth 1) (Gmb 1) (Gmb 100000000)) Allow
    ∷ k 2 (join (ninth 2) (Gmb 1) (Gmb 100000000)) Deny
    ∷ k 3 (join (ninth 3) (Gmb 1) (Gmb 100000000)) (Gmb 1)
    ∷ k 4 (join (ninth 4) (Gmb 1) (Gmb 100000000)) (Gmb 100000000)
    ∷ k 5 (join (ninth 5) (Gmb 1) (Gmb 100000000)) (Gmb 100000000)
    ∷ k 6 (join (ninth 6) (Gmb 1) (Gmb 100000000)) (Gmb 1)
    ∷ k 7 (join (ninth 7) (Gmb 1) (Gmb 100000000)) (Gmb 100000000)
    -- three atoms of one node at the largest rate, added up: seven rows, all of them right
    ∷ k 0 (answer_of (thrice 100000000) (nines 77) (nines 77)) (Ok 7)
    ∷ k 0 (check_of (left_in 7 (thrice 100000000))) (Ok 7)
    ∷ k 0 (tree_action_of (thrice 100000000) (to 0)) (Ok (Gmb 100000000))
    ∷ []

-- EVERY SENTENCE
pub record RatesStayInRange : Type 0 where
  pub joining : Joining
  pub refusing : Refusing
  pub cases : Hold rate_cases
