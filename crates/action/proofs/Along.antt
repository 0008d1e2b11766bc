-- A search along a list: what its answer says of the entries, and a chain that searches; by the answer that an entry gives.
use Prim.Native.Nat.{ℕ}
use native.Mathlib.Omega.{arith}
use mathlib.Core.Path.{◌≡◌, refl, sym, ap, ap₂, subst, ◌∙◌}
use denote.Param.Members.{Mut}
use Rattle.std.specs.Fn.{Called}
use Rattle.std.specs.List.{FoldsTo}
use Rattle.std.specs.Iterator.{Yields, YieldsThen, AlwaysYields, TryForEachTurn}
use Rattle.std.specs.Option.{MatchOption}
use Rattle.std.specs.Result.{IsErr, IsErrAnd, result_from_control_flow}
use Rattle.std.specs.declared.ops.ControlFlow.TheVariants.{Continue, Break}
use Rattle.std.proofs.lemmas.Result.{err_from_is_err_and}
use Rattle.std.proofs.lemmas.Iterator.{YieldsList}
use Rattle.std.specs.Prelude.{Option, Some, None, drop}
use Rattle.std.proofs.lemmas.List.{drop-map}
use mathlib.Core.Logic.{⊎_elim}
use mathlib.Core.Bool.{Bool, true, ◌&&◌}
use mathlib.Core.List.Memᴰ
use mathlib.Core.List.{List, [], ◌∷◌, ◌++◌, map, foldr}
use Rattle.logic.proofs.Tests.{and_left, and_right}
use Rattle.std.specs.Prelude.{Ok, Err}
use Rattle.action.specs.Laws.{◌else◌, ◌among◌, Searched, along, product}
use Rattle.action.specs.Search.{later}
use Rattle.action.specs.declared.LawFailure.{LawFailure}

-- searches along a joined list, and along a list's images
else-assoc : (x y z : Searched) → ◌else◌ x (◌else◌ y z) ≡ ◌else◌ (◌else◌ x y) z
else-assoc (Ok u) y z = refl
else-assoc (Err f) y z = refl

pub along-append : {X : Type 0} (t : X → Searched) (xs ys : List X) → along t (xs ++ ys) ≡ ◌else◌ (along t xs) (along t ys)
along-append t [] ys = refl
along-append t (x ∷ xs) ys = ap (λ z. ◌else◌ (t x) z) (along-append t xs ys) ∙ else-assoc (t x) (along t xs) (along t ys)

pub along-map : {X Y : Type 0} (t : Y → Searched) (f : X → Y) (xs : List X) → along t (map f xs) ≡ along (λ x. t (f x)) xs
along-map t f [] = refl
along-map t f (x ∷ xs) = ap (λ z. ◌else◌ (t (f x)) z) (along-map t f xs)

-- what stands after an entry, of a list's images
pub later-map : {X Y : Type 0} (f : X → Y) (i : ℕ) (xs : List X) → later i (map f xs) ≡ map f (later i xs)
later-map f i xs = ap (drop 1) (drop-map f i xs) ∙ drop-map f 1 (drop i xs)

-- searches that find the same at each entry find the same, and the second of two answers counts only where the first is nothing
pub along-same : {X : Type 0} (t u : X → Searched) (xs : List X) → ((x : X) → x among xs → t x ≡ u x) → along t xs ≡ along u xs
along-same t u [] f = refl
along-same t u (x ∷ xs) f =
    ap₂ (λ (y z : Searched). ◌else◌ y z) (f x (Memᴰ.head refl)) (along-same t u xs (λ y m. f y (Memᴰ.tail m)))

pub else-same : (x x' y y' : Searched) → x ≡ x' → (x ≡ Ok tt → y ≡ y') → ◌else◌ x y ≡ ◌else◌ x' y'
else-same (Ok u) x' y y' e f = rw (← e) (f refl)
else-same (Err g) x' y y' e f = rw (← e) refl

-- a search along all pairs is one along the first list, of searches along the second
pub along-product : {X Y : Type 0} (t : X × Y → Searched) (xs : List X) (ys : List Y) → along t (product xs ys) ≡ along (λ x. along (λ y. t (x, y)) ys) xs
along-product t [] ys = refl
along-product t (x ∷ xs) ys =
    along-append t (map (λ y. (x, y)) ys) (product xs ys)
    ∙ ap₂ (λ (y z : Searched). ◌else◌ y z) (along-map t (λ y. (x, y)) ys) (along-product t xs ys)

-- a search finds nothing exactly where no entry shows anything
pub else-left : (x y : Searched) → ◌else◌ x y ≡ Ok tt → x ≡ Ok tt
else-left (Ok u) y e = refl
else-left (Err f) y e = e

pub else-right : (x y : Searched) → ◌else◌ x y ≡ Ok tt → y ≡ Ok tt
else-right (Ok u) y e = e
else-right (Err f) y e = cc

pub along-ok : {X : Type 0} (t : X → Searched) (xs : List X) → along t xs ≡ Ok tt → (x : X) → x among xs → t x ≡ Ok tt
along-ok t [] e x m = absurd (Memᴰ.not-nil m)
along-ok t (y ∷ ys) e x m =
    ⊎_elim
    (λ p. rw p (else-left (t y) (along t ys) e))
    (λ n. along-ok t ys (else-right (t y) (along t ys) e) x n)
    (Memᴰ.cases_cons m)

pub ok-along : {X : Type 0} (t : X → Searched) (xs : List X) → ((x : X) → x among xs → t x ≡ Ok tt) → along t xs ≡ Ok tt
ok-along t [] f = refl
ok-along t (x ∷ xs) f = rw (f x (Memᴰ.head refl)) (ok-along t xs (λ y m. f y (Memᴰ.tail m)))

-- what a search finds some entry shows
pub else-failure : {P : Type 0} (x y : Searched) (f : LawFailure) → (x ≡ Err f → P) → (y ≡ Err f → P) → ◌else◌ x y ≡ Err f → P
else-failure (Ok u) y f g h e = h e
else-failure (Err f') y f g h e = g e

pub along-failure : {P X : Type 0} (t : X → Searched) (xs : List X) (f : LawFailure) → ((x : X) → x among xs → t x ≡ Err f → P) → along t xs ≡ Err f → P
along-failure t [] f g e = let z : ◌≡◌ {A = ℕ} 0 1 = cc in absurd (omega arith)
along-failure t (x ∷ xs) f g e = else-failure (t x) (along t xs) f (g x (Memᴰ.head refl)) (along-failure t xs f (λ y m. g y (Memᴰ.tail m))) e

-- a test that holds along a list holds of each entry
pub all_among : {X : Type 0} (t : X → Bool) (xs : List X) → foldr (λ x b. t x && b) true xs ≡ true → (x : X) → x among xs → t x ≡ true
all_among t [] e x m = absurd (Memᴰ.not-nil m)
all_among t (y ∷ ys) e x m =
    ⊎_elim (λ p. rw p (and_left (t y) _ e)) (λ n. all_among t ys (and_right (t y) _ e) x n) (Memᴰ.cases_cons m)

-- what the first of two answers makes of both
passes : (x y : Searched) → x ≡ Ok tt → y ≡ ◌else◌ x y
passes x y e = rw e

fails : (f : LawFailure) (x y : Searched) → x ≡ Err f → Err f ≡ ◌else◌ x y
fails f x y e = rw e

-- what a chain of searches answers, where o is the item at which it broke off
abbrev Stops : {A F : Type 0} → Mut F (A × Unit {0}) Searched → Searched → F → Option A → Type 0
Stops {A} {F} g r j o = MatchOption o (r ≡ result_from_control_flow (Continue tt)) (λ x. (w : Searched) × (h : F) × (e : _) × Called g j (x, tt) w h
    × (w ≡ result_from_control_flow (Break e)) × (IsErr r × IsErrAnd r (λ y. y ≡ e.0)))

-- a chain that tries a search at each of a list and hands on the first failure is a search along the list
module _ {S A X F : Type 0} (steps : S → Option A → S → Type 0) (v : A → X) (g : Mut F (A × Unit {0}) Searched) (t : X → Searched) (f : F)
    (answers : (x : A) (w : Searched) (q : F) → Called g f (x, tt) w q → (q ≡ f) × (w ≡ t (v x))) where
  tries : (xs : List A) (all : List X) (s k u : S) (j : F) (o : Option A) (r : Searched) → AlwaysYields steps v s all → Yields steps s xs k
      → FoldsTo (TryForEachTurn g (λ w b. w ≡ result_from_control_flow b)) f xs j → steps k o u → Stops g r j o → r ≡ along t all
  tries [] [] s k u j None r e y c p m = m
  tries [] [] s k u j (Some x) r e y c p m = absurd (e x u (subst (λ z. steps z (Some x) u) (sym y) p))
  tries [] (z ∷ all) s k u j None r e y c p m = absurd (e.0 u (subst (λ z. steps z None u) (sym y) p))
  tries [] (z ∷ all) s k u j (Some x) r e y c p m =
      let a = (e.1 x u (subst (λ z. steps z (Some x) u) (sym y) p)).0 in
      let b = answers x m.0 m.1 (subst (λ q. Called g q (x, tt) m.0 m.1) (sym c) m.3) in
      let q = err_from_is_err_and r m.5.1 in
      q.1 ∙ ap Err q.2 ∙ fails m.2.0 (t z) (along t all) (ap t (sym a) ∙ sym b.1 ∙ m.4)
  tries (x ∷ xs) [] s k u j o r e y c p m = absurd (e x y.0 y.1)
  tries (x ∷ xs) (z ∷ all) s k u j o r e y c p m =
      let a = e.1 x y.0 y.1 in
      let b = answers x c.1.0 c.0 c.1.1 in
      tries xs all y.0 k u j o r a.1 y.2 (subst (λ q. FoldsTo (TryForEachTurn g (λ w b. w ≡ result_from_control_flow b)) q xs j) b.0 c.2) p m
      ∙ passes (t z) (along t all) (ap t (sym a.0) ∙ sym b.1 ∙ c.1.2)

pub tried : {S A X F : Type 0} {steps : S → Option A → S → Type 0} {v : A → X} {g : Mut F (A × Unit {0}) Searched} {s : S} {all : List X}
    (t : X → Searched) (u : S) (f : F) (r : Searched)
    → (xs : List A) × (o : Option A) × (j : F) × YieldsThen steps s xs o u
    × FoldsTo (TryForEachTurn g (λ w b. w ≡ result_from_control_flow b)) f xs j × Stops g r j o
    → YieldsList steps v s all
    → ((x : A) (w : Searched) (q : F) → Called g f (x, tt) w q → (q ≡ f) × (w ≡ t (v x)))
    → r ≡ along t all
tried {steps = steps} {v = v} {g = g} {s = s} {all = all} t u f r d e answers =
    tries steps v g t f answers d.0 all s d.3.0 u d.2 d.1 r e.runs d.3.1 d.4 d.3.2 d.5
