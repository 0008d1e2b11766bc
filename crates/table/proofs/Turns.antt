-- The turns of a loop that tests records, of which the record `x` and those behind it, `xs`, are left. Assumes nothing.
use Prim.Native.Nat.{ℕ, ◌+◌}
use native.Mathlib.Numerals.{add-one}
use mathlib.Core.Path.{◌≡◌, sym, ◌∙◌}
use mathlib.Core.Bool.{Bool, true, false}
use mathlib.Core.List.{List, [], ◌∷◌}
use Rattle.std.specs.Prelude.{Result, Ok, Err}
use Rattle.refusal.specs.Refusals.{refusal_at}
use Rattle.refusal.specs.declared.Reason.{Reason}
use Rattle.refusal.specs.declared.Refusal.{Refusal}
use Rattle.table.specs.Table.{first_wrong}

-- a wrong one, a right one, and the end
module _ (right : List ℕ → Bool) (why : Reason) (i : ℕ) (ys : List (List ℕ)) (w : Result ℕ Refusal) (inv : first_wrong right why i ys ≡ w) where
  pub wrong-found : (x : List ℕ) (xs : List (List ℕ)) → ys ≡ x ∷ xs → right x ≡ false → Err (refusal_at why i) ≡ w
  wrong-found x xs e t = sym (rw (e, t)) ∙ inv

  pub wrong-later : (x : List ℕ) (xs : List (List ℕ)) → ys ≡ x ∷ xs → right x ≡ true → first_wrong right why (i + 1) xs ≡ w
  wrong-later x xs e t = sym (rw (e, t, add-one i)) ∙ inv

  pub wrong-none : ys ≡ [] → Ok i ≡ w
  wrong-none e = rw e at inv
