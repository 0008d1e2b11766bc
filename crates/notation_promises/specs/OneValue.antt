-- What is fixed of functions that need memory, which may run out: two results that are not for want of memory are the
-- same.
--
--   Agree                  two results are the same, or there is none of one of them
--   OneValue               a contract asks nothing, and no second value fits it
--   text_told, file_told   what reading a text tells, and what reading a file tells: nothing if memory ran out
--   items_told             the same of what is put together from a policy
--   OneValues              what is said of a text's and of a file's results fits no second value
use Rattle.std.specs.Prelude.{ℕ, ◌≡◌, List, Option, Some, None, Result, Ok, Err}
use Rattle.refusal.specs.declared.Refusal.{Refusal}
use Rattle.notation.specs.declared.fault.Fault.{Fault}
use Rattle.notation.specs.declared.fault.ReadError.{ReadError}
use Rattle.notation.specs.declared.fault.ReadError.TheVariants as errors
use Rattle.notation.specs.declared.whole.Policy.{Policy}
use Rattle.notation.specs.Policy.{Entries}
use Rattle.notation.specs.Whole.{entries_of}
use Rattle.notation.specs.Reads.{Gives}
use Rattle.notation.specs.Nodes.{read_of}
use Rattle.translate.specs.declared.made.FromError.{FromError}
use Rattle.translate.specs.declared.made.FromError.TheVariants.{Memory, Refused}
use Rattle.translate.specs.Made.{IsMade}

-- two values are the same, if there are two
abbrev pub Agree : {X : Type 0} → Option X → Option X → Type 0
Agree None y = Unit {0}
Agree (Some x) None = Unit {0}
Agree (Some x) (Some y) = x ≡ y

-- Of a contract, that it asks nothing of its caller and that no second value fits it; told is what the caller is told
-- by the result r and the lent buffers at the end, s, and none if memory ran out.
pub record OneValue {K : Type 0} {A R S : K → Type 0} {X : Type 0} (Pre : (κ : K) → A κ → Type 0)
    (Post : (κ : K) → A κ → R κ → S κ → Type 0) (told : (κ : K) → R κ → S κ → Option X) : Type 0 where
  pub asks_nothing : (κ : K) (a : A κ) → Pre κ a
  pub no_second : (κ : K) (a : A κ) (r₁ r₂ : R κ) (s₁ s₂ : S κ) → Post κ a r₁ s₁ → Post κ a r₂ s₂
      → Agree (told κ r₁ s₁) (told κ r₂ s₂)

-- the policy that was read, or its fault
abbrev pub text_told : Result Policy ReadError → Option (Result Entries Fault)
text_told (Ok p) = Some (Ok (entries_of p))
text_told (Err errors.Memory) = None
text_told (Err (errors.Fault f)) = Some (Err f)

-- the policy that was made, or the refusal of its file
abbrev pub file_told : Result Policy FromError → Option (Result Entries Refusal)
file_told (Ok p) = Some (Ok (entries_of p))
file_told (Err Memory) = None
file_told (Err (Refused r)) = Some (Err r)

-- the bytes or the words that were put together, seen by view
abbrev pub items_told : {V E X : Type 0} → (V → X) → Result V E → Option X
items_told view (Ok v) = Some (view v)
items_told view (Err e) = None

-- what is said of the results of a text, and of a file, fits no second value
pub record OneValues : Type 0 where
  pub of_text : (text : List ℕ) (r₁ r₂ : Result Policy ReadError) → Gives entries_of r₁ (read_of text)
      → Gives entries_of r₂ (read_of text) → Agree (text_told r₁) (text_told r₂)
  pub of_file : (f : List ℕ) (r₁ r₂ : Result Policy FromError) → IsMade f r₁ → IsMade f r₂
      → Agree (file_told r₁) (file_told r₂)
