-- The answer of the compile, from what was built: the rows that were laid are the file's, and the buffers are cleared behind them. Assumes nothing.
use Rattle.std.proofs.Common.{ℕ, ◌+◌, ◌*◌, ◌-◌, ◌/◌, ◌≤◌, ◌<◌, arith, ◌≡◌, sym, ap, ap₂, ◌∙◌, List, ◌++◌, append_assoc, length, take, drop, length-append}
use Rattle.std.proofs.Common.{length-drop, take_at, length-take-le, Ok, Err, Option, Some, None}
use Rattle.words.specs.Words.{laid, cleared, zeros}
use Rattle.words.proofs.Laid.{laid-is}
use Rattle.row.specs.Row.{row_length, words_of}
use Rattle.row.proofs.RowLaws.{words_count}
use Rattle.refusal.specs.Refusals.{refusal_at}
use Rattle.refusal.specs.declared.Reason.TheVariants.{NoRoom}
use Rattle.refusal.specs.declared.Refusal.{Refusal}
use Rattle.policy.specs.Read.{read_of}
use Rattle.policy.specs.File.{PolicyTree}
use Rattle.policy.specs.declared.Layout.{Layout}
use Rattle.nodes.specs.Nodes.{root_spot}
use Rattle.nodes.specs.declared.Spot.{Spot}
use Rattle.nodes.proofs.Walk.{root-tree}
use Rattle.compile.specs.Build.{compile_tree, tree_words, TreeBuilt}
use Rattle.compile.specs.declared.build.BuiltTable.{BuiltTable}
use Rattle.compile.proofs.Going.{Fitted, made-words, made-full}
use Rattle.compile.specs.Compile.{room, compiled_rows, Compiled, Compiles}
use Rattle.compile.proofs.Ordered.{answered-in-order}

-- what the contract says, of an answer and buffers that are these
pub compiles-as : {f t s t₁ s₁ t₂ s₂ : List ℕ} {r₁ r₂ : Compiled} → Compiles f t s t₁ s₁ r₁ → r₂ ≡ r₁ → t₂ ≡ t₁ → s₂ ≡ s₁ → Compiles f t s t₂ s₂ r₂
compiles-as k r t s = record { answer = r ∙ k.answer; table = t ∙ k.table; scratch = s ∙ k.scratch }

-- the tree that the walk starts at is the file's
root-words : (f : List ℕ) (l : Layout) → read_of f ≡ Ok l → (at : Spot) → at ≡ root_spot l → tree_words f at ≡ words_of (compiled_rows f l)
unfolding tree_words compiled_rows
root-words f l e at start = ap (λ (t : PolicyTree). words_of (compile_tree t)) (root-tree f l e at start)

-- all is cleared from the first word on
cleared-all : (l : List ℕ) → cleared 0 l ≡ zeros (length l)
unfolding cleared
cleared-all l = let q : length l - 0 ≡ length l = omega arith in ap zeros q

-- the words that were laid from the first word on, and what is behind them
laid-first-words : (F X E : List ℕ) → 0 + length F ≤ length X → take (0 + length F) (laid 0 F X ++ E) ≡ F
laid-first-words F X E h =
    ap (λ x. take (0 + length F) (x ++ E)) (laid-is 0 F X h)
    ∙ ap (take (0 + length F)) (append_assoc F (drop (0 + length F) X) E)
    ∙ take_at F (drop (0 + length F) X ++ E) (0 + length F) (omega arith)

-- a buffer whose first words were built anew is as long
as-long : (k : ℕ) (new old : List ℕ) → k ≤ length old → length new ≡ length (take k old) → length (new ++ drop k old) ≡ length old
as-long k new old h same = length-append new (drop k old) ∙ omega (arith, h, same, length-take-le k old h, length-drop k old)

-- an accepted file, scratch enough, and what was built in the room of both buffers
module _ (f : List ℕ) (l : Layout) (e : read_of f ≡ Ok l) (root : Spot) (start : root ≡ root_spot l) (t s : List ℕ) (n : ℕ)
    (rooms : n ≡ room (length t)) (enough : row_length * n ≤ length s)
    (new used : List ℕ) (same : length new ≡ length (take (row_length * n) t)) (alike : length used ≡ length (take (row_length * n) s)) where
  abbrev F : List ℕ
  F = tree_words f root

  abbrev mid : List ℕ
  mid = new ++ drop (row_length * n) t

  are-rows : F ≡ words_of (compiled_rows f l)
  are-rows = root-words f l e root start

  count : length F ≡ length (compiled_rows f l) * row_length
  count = ap length are-rows ∙ words_count (compiled_rows f l)

  -- the room in words is within the table
  long : row_length * n ≤ length t
  long = omega (arith, rooms)

  wide : length (take (row_length * n) t) ≡ row_length * n
  wide = length-take-le (row_length * n) t long

  whole : length mid ≡ length t
  whole = as-long (row_length * n) new t long same

  -- the scratch is zero
  wiped : {s' : List ℕ} → s' ≡ cleared 0 (used ++ drop (row_length * n) s) → s' ≡ zeros (length s)
  wiped d = d ∙ cleared-all (used ++ drop (row_length * n) s) ∙ ap zeros (as-long (row_length * n) used s enough alike)

  -- there was no room
  pub room-missed : {b : Option BuiltTable} {t' s' : List ℕ} {r : Refusal} → TreeBuilt f root 0 (take (row_length * n) t) new b → b ≡ None
      → r ≡ refusal_at NoRoom 0 → t' ≡ cleared 0 (new ++ drop (row_length * n) t) → s' ≡ cleared 0 (used ++ drop (row_length * n) s)
      → Compiles f t s t' s' (Err r)
  room-missed {b} k none a c d =
      let built : TreeBuilt f root 0 (take (row_length * n) t) new None = rw none at k in
      let m : length (take (row_length * n) t) < 0 + length F = made-full 0 F (length (take (row_length * n) t)) built.is.answer in
      compiles-as ((answered-in-order f t s).room_short l e (omega (arith, rooms, enough)) (omega (arith, rooms, wide, count, m)))
      (ap Err a) (c ∙ cleared-all mid ∙ ap zeros whole) (wiped d)

  -- the rows stand there
  pub rows-stand : {b : Option BuiltTable} {p : BuiltTable} {t' s' : List ℕ} → TreeBuilt f root 0 (take (row_length * n) t) new b → b ≡ Some p
      → t' ≡ cleared p.end (new ++ drop (row_length * n) t) → s' ≡ cleared 0 (used ++ drop (row_length * n) s)
      → Compiles f t s t' s' (Ok (p.end / row_length))
  unfolding cleared
  rows-stand {b} {p} k some c d =
      let built : TreeBuilt f root 0 (take (row_length * n) t) new (Some p) = rw some at k in
      let m : Fitted 0 F (length (take (row_length * n) t)) p.end = made-words 0 F (length (take (row_length * n) t)) p.end built.is.0.answer in
      let front : take p.end mid ≡ words_of (compiled_rows f l) =
      ap₂ take m.end (ap (λ x. x ++ drop (row_length * n) t) (built.is.0.words m.fits))
      ∙ laid-first-words F (take (row_length * n) t) (drop (row_length * n) t) m.fits ∙ are-rows in
      let many : p.end / row_length ≡ length (compiled_rows f l) = omega (arith, m.end, count) in
      let last : length mid - p.end ≡ length t - length (words_of (compiled_rows f l)) = omega (arith, whole, m.end, ap length are-rows) in
      compiles-as ((answered-in-order f t s).rows_answered l e (omega (arith, rooms, enough)) (omega (arith, rooms, wide, count, m.fits)))
      (ap (λ (k : ℕ). Ok k) many) (c ∙ ap₂ (λ y x. y ++ zeros x) front last) (wiped d)

-- the first words of two buffers are as many
pub takes-alike : (n : ℕ) (a b : List ℕ) → n ≤ length a → n ≤ length b → length (take n a) ≡ length (take n b)
takes-alike n a b h k = length-take-le n a h ∙ sym (length-take-le n b k)
