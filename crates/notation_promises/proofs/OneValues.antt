-- Where memory does not run out, what is said of a text's and of a file's results fits no second value.
use Rattle.std.proofs.Common.{ℕ, ◌≡◌, sym, ◌∙◌, List, Result, Ok, Err, IfOk}
use native.Mathlib.Omega.{arith}
use Rattle.notation.specs.declared.fault.ReadError.{ReadError}
use Rattle.notation.specs.declared.fault.ReadError.TheVariants as errors
use Rattle.notation.specs.declared.whole.Policy.{Policy}
use Rattle.notation.specs.Whole.{entries_of}
use Rattle.notation.specs.Reads.{Gives}
use Rattle.notation.specs.Nodes.{read_of}
use Rattle.translate.specs.declared.made.FromError.{FromError}
use Rattle.translate.specs.declared.made.FromError.TheVariants.{Memory, Refused}
use Rattle.translate.specs.Made.{IsMade}
use Rattle.notation_promises.specs.OneValue.{Agree, text_told, file_told, items_told, OneValues}

-- what was read of a text
pub of-text : (text : List ℕ) (r₁ r₂ : Result Policy ReadError) → Gives entries_of r₁ (read_of text) → Gives entries_of r₂ (read_of text)
    → Agree (text_told r₁) (text_told r₂)
of-text text (Ok p) (Ok q) a b = sym a ∙ b
of-text text (Ok p) (Err errors.Memory) a b = tt
of-text text (Ok p) (Err (errors.Fault f)) a b = sym a ∙ b
of-text text (Err errors.Memory) r a b = tt
of-text text (Err (errors.Fault f)) (Ok q) a b = sym a ∙ b
of-text text (Err (errors.Fault f)) (Err errors.Memory) a b = tt
of-text text (Err (errors.Fault f)) (Err (errors.Fault g)) a b = sym a ∙ b

-- what was made of a file
pub of-file : (f : List ℕ) (r₁ r₂ : Result Policy FromError) → IsMade f r₁ → IsMade f r₂ → Agree (file_told r₁) (file_told r₂)
of-file f (Ok p) (Ok q) (l, a, b) (m, c, d) = grind arith
of-file f (Ok p) (Err Memory) a b = tt
of-file f (Ok p) (Err (Refused r)) (l, a, b) c = grind arith
of-file f (Err Memory) r a b = tt
of-file f (Err (Refused r)) (Ok q) a (l, b, c) = grind arith
of-file f (Err (Refused r)) (Err Memory) a b = tt
of-file f (Err (Refused r)) (Err (Refused s)) a b = grind arith

-- what was put together, where its view is x
pub of-items : {V E X : Type 0} (view : V → X) (x : X) (r₁ r₂ : Result V E) → IfOk r₁ (λ v. view v ≡ x) → IfOk r₂ (λ v. view v ≡ x)
    → Agree (items_told view r₁) (items_told view r₂)
of-items view x (Ok v) (Ok w) a b = a ∙ sym b
of-items view x (Ok v) (Err e) a b = tt
of-items view x (Err e) r a b = tt

-- both
pub one_values : OneValues
one_values = record { of_text = of-text; of_file = of-file }
