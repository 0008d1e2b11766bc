-- What a sink in memory has kept: all bytes that were put in, unless memory ran out.
use Rattle.std.specs.Prelude.{ℕ, ◌≡◌, List, [], ◌++◌, Option, Some, None, Result, Ok, Err}
use Rattle.std.specs.declared.alloc.AllocError.{AllocError}
use Rattle.std.proofs.Common.{sym, ap, ◌∙◌, append_assoc, append-nil}

-- where nothing has failed after some bytes, nothing had before, and they stand behind what was kept
abbrev pub Keeps : Option AllocError → List ℕ → List ℕ → Option AllocError → List ℕ → Type 0
Keeps failed kept bytes failed' kept' = failed' ≡ None → (failed ≡ None) × (kept' ≡ kept ++ bytes)

-- no bytes
pub keeps-none : (f : Option AllocError) (k : List ℕ) → Keeps f k [] f k
keeps-none f k e = (e, sym (append-nil k))

-- bytes behind others
pub keeps-then : (f g h : Option AllocError) (k l m xs ys : List ℕ) → Keeps f k xs g l → Keeps g l ys h m
    → Keeps f k (xs ++ ys) h m
keeps-then f g h k l m xs ys p q e =
    let b = q e in
    let a = p b.0 in
    (a.0, b.1 ∙ ap (λ z. z ++ ys) a.1 ∙ append_assoc k xs ys)

-- what was kept, or why it was not
abbrev pub kept_or : {X : Type 0} → Option AllocError → X → Result X AllocError
kept_or None kept = Ok kept
kept_or (Some failure) kept = Err failure
