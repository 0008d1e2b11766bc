-- What is fixed of those functions of the command that need memory: what is said of two results that are not for want
-- of memory fits no second value.
--
--   numbers_told   what reading a text of words tells: the numbers, or the place of its fault; nothing if memory ran out
--   places_told    the same of the rules that are idle: their places, or the refusal of the file
--   steps_told     and of a trace: the steps of the rules and of the nodes, or the refusal of the file
--   OneValues      what is said of these fits no second value
use Rattle.std.specs.Prelude.{ℕ, Bool, List, Option, Some, None, Result, Ok, Err}
use Rattle.flow.specs.declared.Match.{Match}
use Rattle.refusal.specs.declared.Refusal.{Refusal}
use Rattle.decimals.specs.declared.numbers.ReadError.{ReadError}
use Rattle.decimals.specs.declared.numbers.ReadError.TheVariants as reading
use Rattle.decimals.specs.Read.{Reads}
use Rattle.idle.specs.declared.IdleError.{IdleError}
use Rattle.idle.specs.declared.IdleError.TheVariants as idling
use Rattle.idle.specs.Idle.{IsIdle}
use Rattle.trace.specs.declared.walk.RuleStep.{RuleStep}
use Rattle.trace.specs.declared.walk.NodeStep.{NodeStep}
use Rattle.trace.specs.declared.walk.Steps.{Steps}
use Rattle.trace.specs.declared.walk.StepsError.{StepsError}
use Rattle.trace.specs.declared.walk.StepsError.TheVariants as tracing
use Rattle.trace.specs.Settled.{IsTrace}
use Rattle.notation_promises.specs.OneValue.{Agree}

-- the numbers of a text, seen by items, or the place of its fault
abbrev pub numbers_told : {V : Type 0} → (V → List ℕ) → Result V ReadError → Option (Result (List ℕ) ℕ)
numbers_told items (Ok numbers) = Some (Ok (items numbers))
numbers_told items (Err reading.Memory) = None
numbers_told items (Err (reading.Fault place)) = Some (Err place)

-- the places of the idle rules, seen by items, or the refusal of their file
abbrev pub places_told : {V : Type 0} → (V → List ℕ) → Result V IdleError → Option (Result (List ℕ) Refusal)
places_told items (Ok places) = Some (Ok (items places))
places_told items (Err idling.Memory) = None
places_told items (Err (idling.Refused r)) = Some (Err r)

-- the steps of a trace, or the refusal of its file
abbrev pub steps_told : Result Steps StepsError → Option (Result (List RuleStep × List NodeStep) Refusal)
steps_told (Ok s) = Some (Ok (s.rules.items, s.nodes.items))
steps_told (Err tracing.Memory) = None
steps_told (Err (tracing.Refused r)) = Some (Err r)

-- what is said of the results fits no second value, whatever numbers and places are held in, and whatever is asked
pub record OneValues (V Q : Type 0) : Type 0 where
  pub of_numbers : (items : V → List ℕ) (read : Result (List ℕ) ℕ) (r₁ r₂ : Result V ReadError)
      → Reads items r₁ read → Reads items r₂ read → Agree (numbers_told items r₁) (numbers_told items r₂)
  pub of_places : (items : V → List ℕ) (f ws : List ℕ) (r₁ r₂ : Result V IdleError)
      → IsIdle items f ws r₁ → IsIdle items f ws r₂ → Agree (places_told items r₁) (places_told items r₂)
  pub of_steps : (meets : Match → Q → Bool) (q : Q) (f : List ℕ) (r₁ r₂ : Result Steps StepsError)
      → IsTrace meets q f r₁ → IsTrace meets q f r₂ → Agree (steps_told r₁) (steps_told r₂)
