-- Hidden rows: by induction over the rows, with those before them at hand; a row inside one that goes lies inside one that stays. Assumes nothing.
use Rattle.std.proofs.Common.{ℕ, zero, suc, ◌≤◌, ◌<◌, arith, ◌≡◌, refl, sym, ap, ◌∙◌, Bool, true, false, cond, not, ◌||◌, List, [], ◌∷◌, ◌++◌, map}
use Rattle.std.proofs.Common.{append_assoc, append-nil, get_or, length, take, take-suc}
use mathlib.Core.Bool.{false≢true, or-true, or-false, or_assoc}
use mathlib.Core.List.{map-append}
use lib.Seq.{take-length}
use Rattle.logic.proofs.Tests.{by-test}
use Rattle.logic.specs.Lists.{All}
use Rattle.theory.specs.declared.Row.{Row}
use Rattle.theory.specs.Rows.{scan}
use Rattle.theory.specs.Hidden.{inside_one, staying_after, staying, inside_earlier, places_where, InsideSome, Enclosing, Nesting}
use Rattle.theory.specs.Theorems.{ScanHidden, HiddenExactly, OneExactly, NoneHidden, HiddenAgain, HiddenStep, HiddenLess, HiddenEvery}

-- Both halves of a disjunction that fails.
or-none : (a b : Bool) → (a || b) ≡ false → (a ≡ false) × (b ≡ false)
or-none true b e = absurd (false≢true (sym e))
or-none false b e = (refl, e)

module _ {M A : Type 0} (inside : M → M → Bool) where
  one-append : (m : M) (N N' : List (Row M A)) → inside_one inside m (N ++ N') ≡ (inside_one inside m N || inside_one inside m N')
  one-append m [] N' = refl
  one-append m (r ∷ N) N' = rw (one-append m N N') (sym (or_assoc (inside m r.matching) (inside_one inside m N) (inside_one inside m N')))

  one-snoc : (m : M) (N : List (Row M A)) (r : Row M A) → inside_one inside m (N ++ (r ∷ [])) ≡ (inside_one inside m N || inside m r.matching)
  one-snoc m N r = one-append m N (r ∷ []) ∙ ap (λ (b : Bool). inside_one inside m N || b) (or-false (inside m r.matching))

  -- Rows behind rows.
  staying-append : (E N N' : List (Row M A)) → staying_after inside E (N ++ N') ≡ staying_after inside E N ++ staying_after inside (E ++ N) N'
  staying-append E [] N' = rw append-nil
  staying-append E (r ∷ N) N' =
      let rest : staying_after inside (E ++ (r ∷ [])) (N ++ N') ≡ staying_after inside (E ++ (r ∷ [])) N ++ staying_after inside (E ++ (r ∷ N)) N' =
      staying-append (E ++ (r ∷ [])) N N' ∙ ap (λ F. staying_after inside (E ++ (r ∷ [])) N ++ staying_after inside F N') (append_assoc E (r ∷ []) N) in
      by-test (inside_one inside r.matching E) (λ t. rw t rest) (λ t. rw t (ap (λ K. r ∷ K) rest))

  -- One row more at the end.
  staying-snoc : (N : List (Row M A)) (r : Row M A) → staying inside (N ++ (r ∷ [])) ≡ staying inside N ++ cond (inside_one inside r.matching N) [] (r ∷ [])
  staying-snoc N r = staying-append [] N (r ∷ [])

module _ {M : Type 0} (A : Type 0) (inside : M → M → Bool) where
  -- The first k rows.
  exactly-take : (d : Row M A) (N : List (Row M A)) (k : ℕ) → k ≤ length N
      → staying inside (take k N) ≡ map (λ i. get_or N i d) (places_where (λ i. not (inside_earlier inside d N i)) k)
  exactly-take d N zero h = refl
  exactly-take d N (suc k) h =
      let ps : List ℕ = places_where (λ i. not (inside_earlier inside d N i)) k in
      rw (
        take-suc N k d h,
        staying-snoc inside (take k N) (get_or N k d),
        exactly-take d N k (omega arith),
      )
      (by-test (inside_earlier inside d N k)
      (λ t. rw t (sym (map-append (λ i. get_or N i d) ps [])))
      (λ t. rw t (sym (map-append (λ i. get_or N i d) ps (k ∷ [])))))

  pub hidden-exactly : HiddenExactly A inside
  hidden-exactly d N = ap (staying inside) (sym (take-length N)) ∙ exactly-take d N (length N) (omega arith)

  -- What stays behind some rows lies inside none of them.
  after-clear : (d : Row M A) (E N : List (Row M A)) (i : ℕ) → i < length (staying_after inside E N)
      → inside_one inside (get_or (staying_after inside E N) i d).matching E ≡ false
  after-clear d E [] i h = absurd (omega arith)
  after-clear d E (r ∷ N) i h =
      let K : List (Row M A) = staying_after inside (E ++ (r ∷ [])) N in
      let rest : (k : ℕ) → k < length K → inside_one inside (get_or K k d).matching E ≡ false =
      λ k b. (or-none (inside_one inside (get_or K k d).matching E) (inside (get_or K k d).matching r.matching)
      (sym (one-snoc inside (get_or K k d).matching E r) ∙ after-clear d (E ++ (r ∷ [])) N k b)).0 in
      by-test (inside_one inside r.matching E)
      (λ t. rw t (rest i (rw t at h)))
      (λ t. rw t (kept-clear d E r K t rest i (rw t at h)))
    where
      kept-clear : (d : Row M A) (E : List (Row M A)) (r : Row M A) (K : List (Row M A)) → inside_one inside r.matching E ≡ false
          → ((k : ℕ) → k < length K → inside_one inside (get_or K k d).matching E ≡ false)
          → (i : ℕ) → i < length (r ∷ K) → inside_one inside (get_or (r ∷ K) i d).matching E ≡ false
      kept-clear d E r K t f zero h = t
      kept-clear d E r K t f (suc i) h = f i (omega arith)

  after_none : (d : Row M A) (E N : List (Row M A)) (j i : ℕ) → j < i → i < length (staying_after inside E N)
      → inside (get_or (staying_after inside E N) i d).matching (get_or (staying_after inside E N) j d).matching ≡ false
  after_none d E [] j i l h = absurd (omega arith)
  after_none d E (r ∷ N) j i l h =
      let K : List (Row M A) = staying_after inside (E ++ (r ∷ [])) N in
      let first : (k : ℕ) → k < length K → inside (get_or K k d).matching r.matching ≡ false =
      λ k b. (or-none (inside_one inside (get_or K k d).matching E) (inside (get_or K k d).matching r.matching)
      (sym (one-snoc inside (get_or K k d).matching E r) ∙ after-clear d (E ++ (r ∷ [])) N k b)).1 in
      by-test (inside_one inside r.matching E)
      (λ t. rw t (after_none d (E ++ (r ∷ [])) N j i l (rw t at h)))
      (λ t. rw t (kept-none d r K first (after_none d (E ++ (r ∷ [])) N) j i l (rw t at h)))
    where
      kept-none : (d r : Row M A) (K : List (Row M A)) → ((k : ℕ) → k < length K → inside (get_or K k d).matching r.matching ≡ false)
          → ((j i : ℕ) → j < i → i < length K → inside (get_or K i d).matching (get_or K j d).matching ≡ false)
          → (j i : ℕ) → j < i → i < length (r ∷ K) → inside (get_or (r ∷ K) i d).matching (get_or (r ∷ K) j d).matching ≡ false
      kept-none d r K f g j zero l h = absurd (omega arith)
      kept-none d r K f g zero (suc i) l h = f i (omega arith)
      kept-none d r K f g (suc j) (suc i) l h = g j i (omega arith) (omega arith)

  pub none_hidden : NoneHidden A inside
  none_hidden d N = after_none d [] N

  -- Where no row lies inside an earlier one, all stay.
  all_stay : (d : Row M A) (E K : List (Row M A)) → ((i : ℕ) → i < length K → inside_one inside (get_or K i d).matching E ≡ false)
      → ((j i : ℕ) → j < i → i < length K → inside (get_or K i d).matching (get_or K j d).matching ≡ false) → staying_after inside E K ≡ K
  all_stay d E [] f g = refl
  all_stay d E (r ∷ K) f g =
      rw (f 0 (omega arith))
      (ap (λ L. r ∷ L)
      (all_stay d (E ++ (r ∷ [])) K
      (λ i h. one-snoc inside (get_or K i d).matching E r ∙ rw (f (suc i) (omega arith)) (g 0 (suc i) (omega arith) (omega arith)))
      (λ j i l h. g (suc j) (suc i) (omega arith) (omega arith))))

  pub hidden-again : HiddenAgain A inside
  hidden-again [] = refl
  hidden-again (r ∷ N) = all_stay r [] (staying inside (r ∷ N)) (λ i h. refl) (none_hidden r (r ∷ N))

  after_less : (E N : List (Row M A)) → length (staying_after inside E N) ≤ length N
  after_less E [] = omega arith
  after_less E (r ∷ N) =
      by-test (inside_one inside r.matching E)
      (λ t. rw t (omega (arith, after_less (E ++ (r ∷ [])) N)))
      (λ t. rw t (omega (arith, after_less (E ++ (r ∷ [])) N)))

  pub hidden-less : HiddenLess A inside
  hidden-less N = after_less [] N

  after-every : (T : Row M A → Type 0) (E N : List (Row M A)) → All T N → All T (staying_after inside E N)
  after-every T E [] f = tt
  after-every T E (r ∷ N) f =
      by-test (inside_one inside r.matching E)
      (λ t. rw t (after-every T (E ++ (r ∷ [])) N f.1))
      (λ t. rw t (f.0, after-every T (E ++ (r ∷ [])) N f.1))

  pub hidden-every : HiddenEvery A inside
  hidden-every T N f = after-every T [] N f

module _ {M P A : Type 0} (meets : M → P → Bool) (dont_care : A) (inside : M → M → Bool) where
  -- No match inside one of the rows is met.
  abbrev Unmet : List (Row M A) → P → Type 0
  Unmet E p = (m : M) → inside_one inside m E ≡ true → meets m p ≡ false

  unmet-snoc : Enclosing meets inside → (E : List (Row M A)) (r : Row M A) (p : P) → Unmet E p → meets r.matching p ≡ false → Unmet (E ++ (r ∷ [])) p
  unmet-snoc meets-inside E r p u e m h =
      let o : (inside_one inside m E || inside m r.matching) ≡ true = sym (one-snoc inside m E r) ∙ h in
      by-test (inside_one inside m E)
      (λ t. u m t)
      (λ t. by-test (meets m p)
      (λ k. absurd (false≢true (sym e ∙ meets-inside m r.matching p (rw t at o) k)))
      (λ k. k))

  scan-after : Enclosing meets inside → (E N : List (Row M A)) (p : P) → Unmet E p
      → scan meets dont_care (staying_after inside E N) p ≡ scan meets dont_care N p
  scan-after meets-inside E [] p u = refl
  scan-after meets-inside E (r ∷ N) p u =
      by-test (meets r.matching p)
      (λ e. by-test (inside_one inside r.matching E) (λ t. absurd (false≢true (sym (u r.matching t) ∙ e))) (λ t. rw (t, e)))
      (λ e.
      let rest : scan meets dont_care (staying_after inside (E ++ (r ∷ [])) N) p ≡ scan meets dont_care N p =
      scan-after meets-inside (E ++ (r ∷ [])) N p (unmet-snoc meets-inside E r p u e) in
      by-test (inside_one inside r.matching E) (λ t. rw (t, e) rest) (λ t. rw (t, e) rest))

  pub scan-hidden : ScanHidden meets dont_care inside
  scan-hidden meets-inside N p = scan-after meets-inside [] N p (λ m h. absurd (false≢true h))

module _ {M : Type 0} (A : Type 0) (inside : M → M → Bool) where
  -- Inside a row that lies inside one of the rows is inside one of them.
  one-trans : Nesting inside → (m : M) (r : Row M A) (N : List (Row M A))
      → inside m r.matching ≡ true → inside_one inside r.matching N ≡ true → inside_one inside m N ≡ true
  one-trans trans m r [] e h = h
  one-trans trans m r (s ∷ N) e h =
      by-test (inside r.matching s.matching)
      (λ t. rw (trans m r.matching s.matching e t))
      (λ t. rw (one-trans trans m r N e (rw t at h)) (or-true (inside m s.matching)))

  -- One row more.
  enough-snoc : Nesting inside → (m : M) (N : List (Row M A)) (r : Row M A) → inside_one inside m (staying inside N) ≡ inside_one inside m N
      → inside_one inside m (staying inside (N ++ (r ∷ []))) ≡ inside_one inside m (N ++ (r ∷ []))
  enough-snoc trans m N r e =
      rw (staying-snoc inside N r, one-snoc inside m N r)
      (by-test (inside_one inside r.matching N)
      (λ t. rw (t, append-nil, e)
      (by-test (inside m r.matching)
      (λ k. rw (one-trans trans m r N k t))
      (λ k. rw k (sym (or-false (inside_one inside m N))))))
      (λ t. rw (t, one-snoc inside m (staying inside N) r, e)))

  -- To ask only the rows that stay is to ask all rows.
  enough-take : Nesting inside → (m : M) (d : Row M A) (N : List (Row M A)) (k : ℕ) → k ≤ length N
      → inside_one inside m (staying inside (take k N)) ≡ inside_one inside m (take k N)
  enough-take trans m d N zero h = refl
  enough-take trans m d N (suc k) h = rw (take-suc N k d h) (enough-snoc trans m (take k N) (get_or N k d) (enough-take trans m d N k (omega arith)))

  pub hidden-step : HiddenStep A inside
  hidden-step trans d N i h =
      rw (take-suc N i d h, staying-snoc inside (take i N) (get_or N i d), enough-take trans (get_or N i d).matching d N i (omega arith))

  -- Where a match lies inside one of some rows there is a first such row, and where there is one it lies inside it.
  one_found : (d : Row M A) (m : M) (N : List (Row M A)) → inside_one inside m N ≡ true → InsideSome inside d m N
  one_found d m [] e = absurd (false≢true e)
  one_found d m (r ∷ N) e =
      by-test (inside m r.matching)
      (λ t. record { place = 0; within = omega arith; lies = t })
      (λ t.
      let later : InsideSome inside d m N = one_found d m N (rw t at e) in
      record { place = suc later.place; within = omega (arith, later.within); lies = later.lies })

  one_at : (d : Row M A) (m : M) (N : List (Row M A)) (i : ℕ) → i < length N → inside m (get_or N i d).matching ≡ true → inside_one inside m N ≡ true
  one_at d m [] i h e = absurd (omega arith)
  one_at d m (r ∷ N) zero h e = rw e
  one_at d m (r ∷ N) (suc i) h e = rw (one_at d m N i (omega arith) e) (or-true (inside m r.matching))

  pub one-exactly : OneExactly A inside
  one-exactly d m N = (one_found d m N, λ s. one_at d m N s.place s.within s.lies)
