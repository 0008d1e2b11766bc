-- The compile's answers and what it leaves, in the order of its refusals, from their definition. Assumes nothing.
use Rattle.std.proofs.Common.{ℕ, ◌*◌, ◌-◌, ◌≤◌, ◌<◌, arith, ◌≡◌, refl, true, false, List, ◌++◌, ltb, length, lt-ltb, le-ltb, Result, Ok, Err}
use Rattle.logic.proofs.Tests.{by_le}
use Rattle.row.specs.Row.{row_length, words_of}
use Rattle.refusal.specs.Refusals.{refusal_at}
use Rattle.refusal.specs.declared.Reason.TheVariants.{NoRoom, NoScratch}
use Rattle.refusal.specs.declared.Refusal.{Refusal}
use Rattle.policy.specs.Read.{read_of}
use Rattle.policy.specs.declared.Layout.{Layout}
use Rattle.words.specs.Words.{zeros}
use Rattle.compile.specs.Compile.{room, compiled_rows, answer_of, table_after, scratch_after, Compiled, Compiles}
use Rattle.compile.specs.Theorems.{AnsweredInOrder}

pub answered-in-order : AnsweredInOrder
unfolding answer_of table_after scratch_after
answered-in-order f t s = record {
  file_refused = λ r e. record { answer = rw e refl; table = rw e refl; scratch = rw e refl };
  scratch_short = λ l e h.
      let yes-13 : ltb (length s) (row_length * room (length t)) ≡ true = lt-ltb _ _ h in
      record { answer = rw (e, yes-13) refl; table = rw (e, yes-13) refl; scratch = rw (e, yes-13) refl };
  room_short = λ l e h g.
      let no-13 : ltb (length s) (row_length * room (length t)) ≡ false = le-ltb _ _ h in
      let yes-12 : ltb (room (length t)) (length (compiled_rows f l)) ≡ true = lt-ltb _ _ g in
      record { answer = rw (e, no-13, yes-12) refl; table = rw (e, no-13, yes-12) refl; scratch = rw (e, no-13, yes-12) refl };
  rows_answered = λ l e h g.
      let no-13 : ltb (length s) (row_length * room (length t)) ≡ false = le-ltb _ _ h in
      let no-12 : ltb (room (length t)) (length (compiled_rows f l)) ≡ false = le-ltb _ _ g in
      record { answer = rw (e, no-13, no-12) refl; table = rw (e, no-13, no-12) refl; scratch = rw (e, no-13, no-12) refl };
}

-- a file is accepted or refused
pub by-reading : {X : Type 0} (f : List ℕ) → ((l : Layout) → read_of f ≡ Ok l → X) → ((r : Refusal) → read_of f ≡ Err r → X) → X
by-reading {X} f accepted refused = go (read_of f) refl
  where
    go : (x : Result Layout Refusal) → read_of f ≡ x → X
    go (Ok l) e = accepted l e
    go (Err r) e = refused r e

-- a value is no refusal
pub no_value : {A X : Type 0} {x : A} {r : Refusal} → Ok x ≡ Err r → X
no_value q = let z : ◌≡◌ {A = ℕ} 0 1 = cc in absurd (omega arith)

-- THE COMPILE BY ITS CASES: what each answer has, with what it leaves and where it is given, the compile's has
module _ (f t s : List ℕ) (P : Compiled → List ℕ → List ℕ → Type 0) where
  of-compiles : {t' s' : List ℕ} {r : Compiled} → Compiles f t s t' s' r → P r t' s' → P (answer_of f t s) (table_after f t s) (scratch_after f t s)
  of-compiles k p = rw (k.answer, k.table, k.scratch) at p

  pub by-order : ((r : Refusal) → read_of f ≡ Err r → P (Err r) t s)
      → ((l : Layout) → read_of f ≡ Ok l → length s < row_length * room (length t) → P (Err (refusal_at NoScratch 0)) t s)
      → ((l : Layout) → read_of f ≡ Ok l → row_length * room (length t) ≤ length s → room (length t) < length (compiled_rows f l)
      → P (Err (refusal_at NoRoom 0)) (zeros (length t)) (zeros (length s)))
      → ((l : Layout) → read_of f ≡ Ok l → row_length * room (length t) ≤ length s → length (compiled_rows f l) ≤ room (length t)
      → P (Ok (length (compiled_rows f l))) (words_of (compiled_rows f l) ++ zeros (length t - length (words_of (compiled_rows f l)))) (zeros (length s)))
      → P (answer_of f t s) (table_after f t s) (scratch_after f t s)
  by-order refused short full rows =
      let k = answered-in-order f t s in
      by-reading f
      (λ l e. by_le (row_length * room (length t)) (length s)
      (λ enough. by_le (length (compiled_rows f l)) (room (length t))
      (λ fits. of-compiles (k.rows_answered l e enough fits) (rows l e enough fits))
      (λ h. of-compiles (k.room_short l e enough h) (full l e enough h)))
      (λ h. of-compiles (k.scratch_short l e h) (short l e h)))
      (λ r e. of-compiles (k.file_refused r e) (refused r e))
