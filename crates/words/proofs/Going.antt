-- The records that some words hold: none, the next and those behind it, the last and those before it. Assumes nothing.
use Prim.Native.Nat.{ℕ, zero, suc, ◌+◌, ◌*◌, ◌-◌, ◌/◌, ◌%◌, ◌≤◌, ◌<◌}
use native.Mathlib.Omega.{arith}
use native.Mathlib.Nat.{mod-lt}
use mathlib.Core.Path.{◌≡◌, refl, sym, ap, ap₂, ◌∙◌}
use mathlib.Core.List.{List, [], ◌∷◌, ◌++◌, append_assoc, map}
use lib.ListN.{length, length-append}
use lib.Seq.{take_at, drop_at}
use Rattle.std.proofs.lemmas.List.{take-append-drop}
use Rattle.std.proofs.lemmas.Nat.{div-add-mod'}
use Rattle.words.specs.Records.{rows_of}
use Rattle.words.proofs.Chunks.{whole-none, whole-next}
use Rattle.words.proofs.RecordLaws.{rows_take, rows_drop}

-- one record at least is whole
some_whole : (k q m n : ℕ) → q * k + m ≡ n → m < k → k ≤ n → (c : ℕ) × (c * k + k ≡ q * k)
some_whole k zero m n e h l = absurd (omega arith)
some_whole k (suc c) m n e h l = (c, omega arith)

module _ {R : Type 0} (k : ℕ) (read : List ℕ → R) where
  pub rows_of-none : (ws : List ℕ) → length ws < k → rows_of k read ws ≡ []
  unfolding rows_of
  rows_of-none ws h = ap (map read) (whole-none k ws h)

  pub rows_of-next : (ws x r : List ℕ) → 0 < k → ws ≡ x ++ r → length x ≡ k → rows_of k read ws ≡ read x ∷ rows_of k read r
  unfolding rows_of
  rows_of-next ws x r pos e l = ap (rows_of k read) e ∙ ap (map read) (whole-next k x r pos l)

  -- f is c whole records, x is the last, and r is less than one
  last : (ws f x r : List ℕ) (c : ℕ) → 0 < k → ws ≡ f ++ (x ++ r) → length f ≡ c * k → length x ≡ k → length r < k
      → rows_of k read ws ≡ rows_of k read f ++ (read x ∷ [])
  last ws f x r c pos e n l h =
      let fits : c * k ≤ length (f ++ (x ++ r)) = omega (arith, length-append f (x ++ r)) in
      ap (rows_of k read) e
      ∙ sym (take-append-drop c (rows_of k read (f ++ (x ++ r))))
      ∙ ap₂ (λ a b. a ++ b)
      (sym (rows_take k read pos c (f ++ (x ++ r)) fits) ∙ ap (rows_of k read) (take_at f (x ++ r) (c * k) n))
      (sym (rows_drop k read pos c (f ++ (x ++ r)) fits)
      ∙ ap (rows_of k read) (drop_at f (x ++ r) (c * k) n)
      ∙ rows_of-next (x ++ r) x r pos refl l
      ∙ ap (λ b. read x ∷ b) (rows_of-none r h))

  -- the whole records are w, of which x is the last
  pub rows_of-last : (ws w f x r : List ℕ) → 0 < k → k ≤ length ws → ws ≡ w ++ r → length w ≡ length ws - length ws % k → w ≡ f ++ x
      → length x + (length w - k) ≡ length w → rows_of k read ws ≡ rows_of k read f ++ (read x ∷ [])
  rows_of-last ws w f x r pos h e n d l =
      let parts : length ws / k * k + length ws % k ≡ length ws = div-add-mod' (length ws) k in
      let less : length ws % k < k = mod-lt (length ws) pos in
      let some = some_whole k (length ws / k) (length ws % k) (length ws) parts less h in
      let whole : some.0 * k + k ≡ length w = omega (arith, some.1) in
      let long : length x ≡ k = omega arith in
      last ws f x r some.0 pos (e ∙ ap (λ v. v ++ r) d ∙ append_assoc f x r)
      (omega (arith, ap length d, length-append f x))
      long
      (omega (arith, ap length e, length-append w r))
