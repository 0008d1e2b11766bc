-- What a caller is told: the scope's number, place, law and actions, and the value, of each answer. Where an answer has
-- cases, each of them has these.
--
--   Told                a refusal's number and place, the law and the actions that show it broken, and the action and
--                       the count that are given; told x a n of an answer x
--   search_told         of the search for a broken law
--   read_told           of reading a file
--   action_told         of the tree's action
--   compile_told        of the compile
--   check_told          of the check of a table
--   scan_told           of the scan
--   number_told         of the numbering
--   kept_told           of the pass that takes hidden rows out
--   capture_told        of a capture
--   between a b         the numbers from a to b
--   Fixed numbers t     what is told has one of the numbers, and its other values where it has no use for them
use Rattle.std.specs.Prelude.{ℕ, ◌≤◌, ◌≡◌, Result, Ok, Err, Option, Some, None, ◌⊎◌}
use Rattle.action.specs.declared.Action.{Action}
use Rattle.action.specs.declared.Action.TheVariants.{DontCare}
use Rattle.action.specs.Laws.{Searched}
use Rattle.action.specs.declared.LawFailure.{LawFailure}
use Rattle.refusal.specs.Refusals.{law_broken, answer_number, answer_place, answer_failure}
use Rattle.refusal.specs.declared.Refusal.{Refusal}
use Rattle.policy.specs.declared.Layout.{Layout}
use Rattle.tree.specs.Action as tree
use Rattle.table.specs.Scan.{scan_action, scan_tried}
use Rattle.table.specs.declared.Found.{Found}
use Rattle.priority.specs.Numbering.{answer_count}
use Rattle.hidden.specs.Hidden.{kept_count}
use Rattle.compile.specs.Compile as compile

-- a success has the number 0
pub record Told : Type 0 where
  pub number : ℕ
  pub place : ℕ
  pub failure : Option LawFailure
  pub action : Action
  pub count : ℕ

-- what an answer tells beside the action and the count that it gives
abbrev pub told : {X : Type 0} → Result X Refusal → Action → ℕ → Told
told x a n =
    record { number = answer_number x; place = answer_place x; failure = answer_failure x; action = a; count = n }

-- the search for a broken law in the operator i
abbrev pub search_told : ℕ → Searched → Told
search_told i (Ok u) = record { number = 0; place = 0; failure = None; action = DontCare; count = 0 }
search_told i (Err f) = record { number = law_broken; place = i; failure = Some f; action = DontCare; count = 0 }

-- a file that is accepted, or its refusal
abbrev pub read_told : Result Layout Refusal → Told
read_told x = told x DontCare 0

-- the tree's action
abbrev pub action_told : Result Action Refusal → Told
action_told x = told x (tree.given x) 0

-- the row count
abbrev pub compile_told : Result ℕ Refusal → Told
compile_told x = told x DontCare (compile.compile_count x)

-- how many rows a right table has
abbrev pub check_told : Result ℕ Refusal → Told
check_told (Ok n) = told {X = ℕ} (Ok n) DontCare n
check_told (Err f) = told {X = ℕ} (Err f) DontCare 0

-- the first matching row's action, and how many rows were tried
abbrev pub scan_told : Result Found Refusal → Told
scan_told x = told x (scan_action x) (scan_tried x)

-- how many priorities there are
abbrev pub number_told : Result ℕ Refusal → Told
number_told x = told x DontCare (answer_count x)

-- how many rows stay
abbrev pub kept_told : Result ℕ Refusal → Told
kept_told x = told x DontCare (kept_count x)

-- how many packets a capture has
abbrev pub capture_told : Result ℕ Refusal → Told
capture_told (Ok n) = told {X = ℕ} (Ok n) DontCare n
capture_told (Err f) = told {X = ℕ} (Err f) DontCare 0

-- a number from a to b
abbrev pub between : ℕ → ℕ → ℕ → Type 0
between a b n = (a ≤ n) × (n ≤ b)

-- what is told
pub record Fixed (numbers : ℕ → Type 0) (t : Told) : Type 0 where
  -- a success, with place 0, or one of the numbers
  pub number : ((t.number ≡ 0) × (t.place ≡ 0)) ⊎ numbers t.number
  -- a refusal has don't care and count 0 for its value
  pub value : ¬ (t.number ≡ 0) → (t.action ≡ DontCare) × (t.count ≡ 0)
  -- every answer but 10 names no law
  pub law : ¬ (t.number ≡ law_broken) → t.failure ≡ None
