-- Where memory does not run out, what is said of the numbers of a text, of idle rules and of a trace fits no second value.
use Rattle.std.proofs.Common.{ℕ, Bool, sym, ◌∙◌, List, Result, Ok, Err}
use native.Mathlib.Omega.{arith}
use Rattle.flow.specs.declared.Match.{Match}
use Rattle.decimals.specs.declared.numbers.ReadError.{ReadError}
use Rattle.decimals.specs.declared.numbers.ReadError.TheVariants as reading
use Rattle.decimals.specs.Read.{Reads}
use Rattle.idle.specs.declared.IdleError.{IdleError}
use Rattle.idle.specs.declared.IdleError.TheVariants as idling
use Rattle.idle.specs.Idle.{IsIdle}
use Rattle.trace.specs.declared.walk.Steps.{Steps}
use Rattle.trace.specs.declared.walk.StepsError.{StepsError}
use Rattle.trace.specs.declared.walk.StepsError.TheVariants as tracing
use Rattle.trace.specs.Settled.{IsTrace}
use Rattle.notation_promises.specs.OneValue.{Agree}
use Rattle.command_promises.specs.OneValue.{numbers_told, places_told, steps_told, OneValues}

-- what was read of a text
pub of-numbers : {V : Type 0} (items : V → List ℕ) (read : Result (List ℕ) ℕ) (r₁ r₂ : Result V ReadError)
    → Reads items r₁ read → Reads items r₂ read → Agree (numbers_told items r₁) (numbers_told items r₂)
of-numbers items read (Ok v) (Ok w) a b = sym a ∙ b
of-numbers items read (Ok v) (Err reading.Memory) a b = tt
of-numbers items read (Ok v) (Err (reading.Fault place)) a b = sym a ∙ b
of-numbers items read (Err reading.Memory) r a b = tt
of-numbers items read (Err (reading.Fault place)) (Ok w) a b = sym a ∙ b
of-numbers items read (Err (reading.Fault place)) (Err reading.Memory) a b = tt
of-numbers items read (Err (reading.Fault place)) (Err (reading.Fault other)) a b = sym a ∙ b

-- the idle rules of a file
pub of-places : {V : Type 0} (items : V → List ℕ) (f ws : List ℕ) (r₁ r₂ : Result V IdleError)
    → IsIdle items f ws r₁ → IsIdle items f ws r₂ → Agree (places_told items r₁) (places_told items r₂)
of-places items f ws (Ok v) (Ok w) (l, a, b) (m, c, d) = grind arith
of-places items f ws (Ok v) (Err idling.Memory) a b = tt
of-places items f ws (Ok v) (Err (idling.Refused r)) (l, a, b) c = grind arith
of-places items f ws (Err idling.Memory) r a b = tt
of-places items f ws (Err (idling.Refused r)) (Ok w) a (l, b, c) = grind arith
of-places items f ws (Err (idling.Refused r)) (Err idling.Memory) a b = tt
of-places items f ws (Err (idling.Refused r)) (Err (idling.Refused s)) a b = grind arith

-- the steps of a file
pub of-steps : {Q : Type 0} (meets : Match → Q → Bool) (q : Q) (f : List ℕ) (r₁ r₂ : Result Steps StepsError)
    → IsTrace meets q f r₁ → IsTrace meets q f r₂ → Agree (steps_told r₁) (steps_told r₂)
of-steps meets q f (Ok s) (Ok t) (l, a, b) (m, c, d) =
    let rules = b.rules in let nodes = b.nodes in let same_rules = d.rules in let same_nodes = d.nodes in grind arith
of-steps meets q f (Ok s) (Err tracing.Memory) a b = tt
of-steps meets q f (Ok s) (Err (tracing.Refused r)) (l, a, b) c = grind arith
of-steps meets q f (Err tracing.Memory) r a b = tt
of-steps meets q f (Err (tracing.Refused r)) (Ok t) a (l, b, c) = grind arith
of-steps meets q f (Err (tracing.Refused r)) (Err tracing.Memory) a b = tt
of-steps meets q f (Err (tracing.Refused r)) (Err (tracing.Refused s)) a b = grind arith

-- all of them
pub one_values : {V Q : Type 0} → OneValues V Q
one_values = record { of_numbers = of-numbers; of_places = of-places; of_steps = of-steps }
