-- The first fault along members that stand k apart, records, cells or operators alike: a loop's turn, all pass exactly when each does, and the first that
-- fails is the answer, with its place. Assumes nothing.
use Rattle.std.proofs.Common.{ℕ, zero, suc, ◌+◌, ◌*◌, ◌<◌, arith, ◌≡◌, refl, sym, ◌∙◌, List, [], ◌∷◌, ◌⊎◌, inl, inr, ⊎_elim, get_or, length, Ok, Err}
use Rattle.refusal.specs.declared.Refusal.{Refusal}
use Rattle.policy.specs.Sections.{Test, ◌else◌, each}

-- both of two tests pass
pub else-both : (x y : Test) → ◌else◌ x y ≡ Ok tt → (x ≡ Ok tt) × (y ≡ Ok tt)
else-both (Ok u) y e = (refl, e)
else-both (Err r) y e = (e, cc)

-- the first of two tests fails, or it passes and the second fails
else-cases : (x y : Test) (r : Refusal) → ◌else◌ x y ≡ Err r → (x ≡ Err r) ⊎ ((x ≡ Ok tt) × (y ≡ Err r))
else-cases (Ok u) y r e = inr (refl, e)
else-cases (Err s) y r e = inl e

-- A LOOP'S TURN: the members ms are still to come, and their first fault is the whole search's answer w
module _ {X : Type 0} (t : ℕ → X → Test) (at k : ℕ) {ms : List X} {w : Test} (inv : each t at k ms ≡ w) where
  module _ {x : X} {xs : List X} (s : ms ≡ x ∷ xs) {y : Test} (e : y ≡ t at x) where
    next : w ≡ ◌else◌ y (each t (at + k) k xs)
    next = sym inv ∙ rw (s, e)

    -- a fault that is found is the answer
    pub hit : {r : Refusal} → y ≡ Err r → y ≡ w
    hit g = cc next

    -- and where none is, the search goes on
    pub miss : y ≡ Ok tt → each t (at + k) k xs ≡ w
    miss g = cc next

-- BY PLACE, with d for a member that is not there
module _ {X : Type 0} (d : X) (t : ℕ → X → Test) (k : ℕ) where
  -- what the member i comes to, where it stands
  abbrev pub Comes : ℕ → List X → ℕ → Test → Type 0
  Comes at xs i y = (p : ℕ) → p ≡ at + k * i → t p (get_or xs i d) ≡ y

  here : (at : ℕ) (x : X) (xs : List X) (y : Test) → t at x ≡ y → Comes at (x ∷ xs) 0 y
  here at x xs y e p q = let z : p ≡ at = omega arith in rw z e

  later : (at : ℕ) (x : X) (xs : List X) (i : ℕ) (y : Test) → Comes (at + k) xs i y → Comes at (x ∷ xs) (suc i) y
  later at x xs i y h p q = let g : k * suc i ≡ k + k * i = omega arith in h p (omega arith)

  sooner : (at : ℕ) (x : X) (xs : List X) (i : ℕ) (y : Test) → Comes at (x ∷ xs) (suc i) y → Comes (at + k) xs i y
  sooner at x xs i y h p q = let g : k * suc i ≡ k + k * i = omega arith in h p (omega arith)

  -- all pass exactly when each does
  pub each-passed : (at : ℕ) (xs : List X) → each t at k xs ≡ Ok tt → (i : ℕ) → i < length xs → Comes at xs i (Ok tt)
  each-passed at [] e i h = absurd (omega arith)
  each-passed at (x ∷ xs) e zero h = here at x xs (Ok tt) (else-both (t at x) (each t (at + k) k xs) e).0
  each-passed at (x ∷ xs) e (suc i) h =
      later at x xs i (Ok tt) (each-passed (at + k) xs (else-both (t at x) (each t (at + k) k xs) e).1 i (omega arith))

  pub passed-each : (at : ℕ) (xs : List X) → ((i : ℕ) → i < length xs → Comes at xs i (Ok tt)) → each t at k xs ≡ Ok tt
  passed-each at [] h = refl
  passed-each at (x ∷ xs) h =
      rw (h 0 (omega arith) at (omega arith)) (passed-each (at + k) xs (λ i l. sooner at x xs i (Ok tt) (h (suc i) (omega arith))))

  -- the member i is the first that fails, with r
  pub record FirstFault (at : ℕ) (xs : List X) (i : ℕ) (r : Refusal) : Type 0 where
    pub within : i < length xs
    pub before : (j : ℕ) → j < i → Comes at xs j (Ok tt)
    pub fails : Comes at xs i (Err r)

  -- THE FIRST THAT FAILS IS THE ANSWER
  pub first-each : (at : ℕ) (xs : List X) (i : ℕ) (r : Refusal) → FirstFault at xs i r → each t at k xs ≡ Err r
  first-each at [] i r f = absurd (omega (arith, f.within))
  first-each at (x ∷ xs) zero r f = rw (f.fails at (omega arith))
  first-each at (x ∷ xs) (suc i) r f =
      rw (f.before 0 (omega arith) at (omega arith))
      (first-each (at + k) xs i r (record {
        within = omega (arith, f.within);
        before = λ j l. sooner at x xs j (Ok tt) (f.before (suc j) (omega arith));
        fails = sooner at x xs i (Err r) f.fails;
      }))

  pub each_first : (at : ℕ) (xs : List X) (r : Refusal) → each t at k xs ≡ Err r → (i : ℕ) × FirstFault at xs i r
  each_first at [] r e = let z : ◌≡◌ {A = ℕ} 0 1 = cc in absurd (omega arith)
  each_first at (x ∷ xs) r e = ⊎_elim
      (λ h. (0, record { within = omega arith; before = λ j l. absurd (omega arith); fails = here at x xs (Err r) h }))
      (λ h. let f = each_first (at + k) xs r h.1 in (
        suc f.0,
        record {
          within = omega (arith, f.1.within);
          before = earlier at x xs f.0 h.0 f.1.before;
          fails = later at x xs f.0 (Err r) f.1.fails;
        },
      ))
      (else-cases (t at x) (each t (at + k) k xs) r e)
    where
      earlier : (at : ℕ) (x : X) (xs : List X) (i : ℕ) → t at x ≡ Ok tt → ((j : ℕ) → j < i → Comes (at + k) xs j (Ok tt))
          → (j : ℕ) → j < suc i → Comes at (x ∷ xs) j (Ok tt)
      earlier at x xs i e h zero l = here at x xs (Ok tt) e
      earlier at x xs i e h (suc j) l = later at x xs j (Ok tt) (h j (omega arith))
