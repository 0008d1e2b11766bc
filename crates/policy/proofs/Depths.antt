-- The places of a tree: the stack by which `shape` goes is empty where the tree has ended, and else is as high as the next node is deep. Assumes nothing.
use Rattle.std.proofs.Common.{ℕ, zero, suc, ◌+◌, ◌≤◌, ◌<◌, pred, arith, ◌≡◌, refl, sym, ap, ◌∙◌, true, false, cond, ◌&&◌, List, [], ◌∷◌, ◌⊎◌, inl, inr, eqb}
use Rattle.std.proofs.Common.{leb, length, take, leb-true, le-leb, ne_eqb, Err}
use Rattle.refusal.specs.Refusals.{refusal_at}
use Rattle.refusal.specs.declared.Reason.TheVariants.{NoTree}
use Rattle.policy.specs.Numbers.{deepest}
use Rattle.policy.specs.Sections.{unless}
use Rattle.policy.specs.Whole.{waiting_nodes, one_less, shape}
use Rattle.policy.specs.Due.{FirstWrong}
use Rattle.policy.specs.Meaning.{lacking, ended, nodes_above, HasPlace}
use Rattle.logic.proofs.Tests.{by-test, by_le, and_left, and_right}

-- how many nodes the entries of a stack lack together
abbrev total : List ℕ → ℕ
total [] = 0
total (n ∷ st) = n + total st

-- a node with k children enters a settled stack; the stack of a tree that has ended stays empty
abbrev enter : ℕ → List ℕ → List ℕ
enter k [] = []
enter k (n ∷ st) = k ∷ pred n ∷ st

-- the settled stack behind some nodes
abbrev run : List ℕ → List ℕ → List ℕ
run st [] = waiting_nodes st
run st (k ∷ ks) = run (enter k (waiting_nodes st)) ks

-- 1 where some of n nodes are still lacking behind some
abbrev some : ℕ → List ℕ → ℕ
some n ks = cond (eqb (lacking n ks) 0) 0 1

-- how many entries of a stack, above which s nodes are lacking, are left behind some nodes
abbrev kept : ℕ → List ℕ → List ℕ → ℕ
kept s [] ks = 0
kept s (n ∷ st) ks = some (s + n) ks + kept (s + n) st ks

kept_next : (n k : ℕ) (st ks : List ℕ) → kept (suc n) st (k ∷ ks) ≡ kept (n + k) st ks
kept_next n k [] ks = refl
kept_next n k (m ∷ st) ks =
    let p : suc n + m ≡ suc (n + m) = omega arith in
    let q : n + k + m ≡ n + m + k = omega arith in
    rw (p, q, kept_next (n + m) k st ks)

kept-all : (s : ℕ) (st : List ℕ) → kept (suc s) st [] ≡ length st
kept-all s [] = refl
kept-all s (m ∷ st) =
    let p : suc s + m ≡ suc (s + m) = omega arith in
    let q : eqb (suc (s + m)) 0 ≡ false = ne_eqb (suc (s + m)) 0 (λ e. omega arith) in
    rw (p, q, kept-all (s + m) st) (omega arith)

lacking-none : (ks : List ℕ) → lacking 0 ks ≡ 0
lacking-none [] = refl
lacking-none (k ∷ ks) = refl

-- the height of the stack behind some nodes
abbrev High : List ℕ → List ℕ → Type 0
High ks st = length (run st ks) ≡ cond (eqb (lacking (total st) ks) 0) 0 (kept 0 st ks + nodes_above ks)

high-none : (st : List ℕ) → High [] st
high-none [] = refl
high-none (zero ∷ st) =
    let z : 0 + total st ≡ total st = omega arith in
    let y : 0 + kept 0 st [] ≡ kept 0 st [] = omega arith in
    rw (z, y) (high-none st)
high-none (suc n ∷ st) =
    let z : suc n + total st ≡ suc (n + total st) = omega arith in
    let y : 0 + suc n ≡ suc n = omega arith in
    rw (z, y, kept-all n st, ne_eqb (suc (n + total st)) 0 (λ e. omega arith), ne_eqb (suc n) 0 (λ e. omega arith)) (omega arith)

high-more : (k : ℕ) (ks : List ℕ) → ((st : List ℕ) → High ks st) → (st : List ℕ) → High (k ∷ ks) st
high-more k ks ih [] = ih [] ∙ rw (lacking-none ks)
high-more k ks ih (zero ∷ st) =
    let z : 0 + total st ≡ total st = omega arith in
    let y : 0 + kept 0 st (k ∷ ks) ≡ kept 0 st (k ∷ ks) = omega arith in
    rw (z, y) (high-more k ks ih st)
high-more k ks ih (suc n ∷ st) =
    let z : suc n + total st ≡ suc (n + total st) = omega arith in
    let y : 0 + suc n ≡ suc n = omega arith in
    let x : k + (n + total st) ≡ n + total st + k = omega arith in
    let w : 0 + k + n ≡ n + k = omega arith in
    let l : ℕ = kept (n + k) st ks in
    let e : some (0 + k) ks + (some (n + k) ks + l) + nodes_above ks ≡ some (n + k) ks + l + (some (0 + k) ks + nodes_above ks) = omega arith in
    rw (z, y, kept_next n k st ks, ← e) (rw (x, w) at (ih (k ∷ n ∷ st)))

high : (ks st : List ℕ) → High ks st
high [] st = high-none st
high (k ∷ ks) st = high-more k ks (high ks) st

-- the depth of the next node, where the tree has not ended
height : (ks : List ℕ) → length (run (1 ∷ []) ks) ≡ cond (ended ks) 0 (suc (nodes_above ks))
height ks = by-test (ended ks)
    (λ t. high ks (1 ∷ []) ∙ rw t)
    (λ t. high ks (1 ∷ []) ∙ rw t (omega arith))

-- a stack of such a height has a place for the next node
record Fits (n : ℕ) : Type 0 where
  waits : 1 ≤ n
  few : n ≤ deepest

enter-less : (k : ℕ) (st : List ℕ) → 1 ≤ length st → enter k st ≡ k ∷ one_less st
enter-less k [] h = absurd (omega arith)
enter-less k (n ∷ st) h = refl

-- the first node without a place is named
shape_at : (ks st : List ℕ) (i m : ℕ) → m < length ks → ((j : ℕ) → j < m → Fits (length (run st (take j ks)))) → ¬ Fits (length (run st (take m ks)))
    → shape ks st i ≡ Err (refusal_at NoTree (i + m))
shape_at [] st i m h b w = absurd (omega arith)
shape_at (k ∷ ks) st i zero h b w =
    let n : ℕ = length (waiting_nodes st) in
    let z : i + 0 ≡ i = omega arith in
    by-test (leb 1 n && leb n deepest)
    (λ t. absurd (w (record { waits = leb-true 1 n (and_left (leb 1 n) (leb n deepest) t); few = leb-true n deepest (and_right (leb 1 n) (leb n deepest) t) })))
    (λ t. rw (t, z))
shape_at (k ∷ ks) st i (suc m) h b w =
    let s : List ℕ = waiting_nodes st in
    let f : Fits (length s) = b 0 (omega arith) in
    let z : i + suc m ≡ suc i + m = omega arith in
    rw (le-leb 1 (length s) f.waits, le-leb (length s) deepest f.few, ← enter-less k s f.waits, z)
    (shape_at ks (enter k s) (suc i) m (omega arith) (λ j l. b (suc j) (omega arith)) w)

-- where every node has a place the end decides
shape-end : (ks st : List ℕ) (i : ℕ) → ((j : ℕ) → j < length ks → Fits (length (run st (take j ks))))
    → shape ks st i ≡ unless (eqb (length (run st ks)) 0) NoTree (i + length ks)
shape-end [] st i b = let z : i + 0 ≡ i = omega arith in rw z
shape-end (k ∷ ks) st i b =
    let s : List ℕ = waiting_nodes st in
    let f : Fits (length s) = b 0 (omega arith) in
    let z : i + suc (length ks) ≡ suc i + length ks = omega arith in
    rw (le-leb 1 (length s) f.waits, le-leb (length s) deepest f.few, ← enter-less k s f.waits, z)
    (shape-end ks (enter k s) (suc i) (λ j l. b (suc j) (omega arith)))

module _ (ks : List ℕ) where
  place-fits : (i : ℕ) → HasPlace ks i → Fits (length (run (1 ∷ []) (take i ks)))
  place-fits i p =
      let e : length (run (1 ∷ []) (take i ks)) ≡ suc (nodes_above (take i ks)) = height (take i ks) ∙ rw p.awaited in
      record { waits = omega arith; few = omega (arith, p.shallow) }

  fits-place : (i : ℕ) → Fits (length (run (1 ∷ []) (take i ks))) → HasPlace ks i
  fits-place i f = by-test (ended (take i ks))
      (λ t. absurd (let e : length (run (1 ∷ []) (take i ks)) ≡ 0 = height (take i ks) ∙ rw t in omega (arith, f.waits)))
      (λ t.
      let e : length (run (1 ∷ []) (take i ks)) ≡ suc (nodes_above (take i ks)) = height (take i ks) ∙ rw t in
      record { awaited = t; shallow = omega (arith, f.few) })

  -- THE FIRST NODE WITHOUT A PLACE is what the shape test names
  pub shape-first : (i : ℕ) → FirstWrong (HasPlace ks) (length ks) i → shape ks (1 ∷ []) 0 ≡ Err (refusal_at NoTree i)
  shape-first i w =
      let z : 0 + i ≡ i = omega arith in
      shape_at ks (1 ∷ []) 0 i w.within (λ j l. place-fits j (w.before j l)) (λ f. w.wrong (fits-place i f)) ∙ rw z

  -- AND WHERE EVERY NODE HAS ONE it asks whether the tree has ended
  pub shape-places : ((i : ℕ) → i < length ks → HasPlace ks i) → shape ks (1 ∷ []) 0 ≡ unless (ended ks) NoTree (length ks)
  shape-places p =
      let z : 0 + length ks ≡ length ks = omega arith in
      let e : eqb (length (run (1 ∷ []) ks)) 0 ≡ ended ks =
      ap (λ n. eqb n 0) (height ks) ∙ by-test (ended ks) (λ t. rw t) (λ t. rw t (ne_eqb (suc (nodes_above ks)) 0 (λ q. omega arith))) in
      shape-end ks (1 ∷ []) 0 (λ j l. place-fits j (p j l)) ∙ rw (e, z)

  pub has-place : (i : ℕ) → HasPlace ks i ⊎ (¬ HasPlace ks i)
  has-place i = by-test (ended (take i ks))
      (λ t. inr (λ p. let z : true ≡ false = sym t ∙ p.awaited in let y : ◌≡◌ {A = ℕ} 0 1 = cc in omega arith))
      (λ t. by_le (suc (nodes_above (take i ks))) deepest (λ l. inl (record { awaited = t; shallow = l })) (λ l. inr (λ p. omega (arith, p.shallow))))
