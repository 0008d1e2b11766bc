-- The rows of a compiled tree are as many as there are non-empty sets of atoms, told apart by place, that some packet in range meets all of: the sets are
-- listed, in as many steps as their sum is made of. Assumes nothing.
use Rattle.std.proofs.Common.{suc, ◌+◌, ◌<◌, arith, ◌≡◌, refl, sym, ap, ap₂, ◌∙◌, Bool, true, false, cond, ◌&&◌, ⊎_elim, List, [], ◌∷◌, ◌++◌, map}
use Rattle.std.proofs.Common.{length, length-append, get_or, Contains, AllPairs}
use Rattle.std.specs.List.{All as Each}
use Rattle.std.proofs.lemmas.List.{length-map, get_or-map, get_or_default}
use Rattle.std.proofs.lemmas.List.Elements.{Contains-get_or, Contains-append_left, Contains-append_right, Contains-append_cases}
use Rattle.std.proofs.lemmas.List.Elements.{Contains-push_cases, All-append}
use Rattle.std.proofs.lemmas.List.Kept.{AllPairs-cons}
use mathlib.Core.Bool.{false≢true}
use Rattle.logic.specs.Lists.{All}
use Rattle.logic.proofs.Tests.{by-test, and_left, and_right, and_both}
use Rattle.theory.specs.declared.Row.{Row}
use Rattle.theory.specs.Tree.{compile}
use Rattle.theory.specs.Nodes.{list_tree, all_atoms}
use Rattle.theory.specs.Shuffle.{chosen, non_empty, CountLaws, SharedBy, RowsCounted}
use Rattle.theory.proofs.Count.{over_sets, live, Rights, atoms-listed, rows-over_sets}

-- No entry stands twice in a list.
abbrev Once : {X : Type 0} → List X → Type 0
Once xs = AllPairs (λ s t. ¬ (s ≡ t)) xs

module _ {X : Type 0} where
  none-empty : (s : X) → Contains [] s → ⊥
  none-empty s m = omega (arith, m.1)

  only-one : (s t : X) → Contains (t ∷ []) s → s ≡ t
  only-one s t m = ⊎_elim (λ n. absurd (none-empty s n)) sym (Contains-push_cases [] t s m)

  once-none : Once {X = X} []
  once-none i j d lt within = absurd (omega arith)

  once-single : (x : X) → Once (x ∷ [])
  once-single x i j d lt within = absurd (omega arith)

  once-append : (k l : List X) → Once k → Once l → ((s : X) → Contains k s → Contains l s → ⊥) → Once (k ++ l)
  once-append [] l o p apart = p
  once-append (s ∷ k) l o p apart =
      let first : Each (λ t. ¬ (s ≡ t)) (k ++ l) =
      All-append (λ t. ¬ (s ≡ t)) k l
      (λ i d within. o 0 (suc i) d (omega arith) (omega arith))
      (λ i d within e. apart s (0, omega arith, refl) (i, within, get_or_default l i s d within ∙ sym e)) in
      AllPairs-cons (λ s t. ¬ (s ≡ t)) s (k ++ l) first
      (once-append k l (λ i j d lt within. o (suc i) (suc j) d (omega arith) (omega arith)) p (λ t m n. apart t (suc m.0, omega (arith, m.1), m.2) n))

-- Lists with one more entry in front, among others.
module _ {X : Type 0} (b : X) where
  abbrev Fronted : List (List X) → List (List X)
  Fronted l = map (λ t. b ∷ t) l

  among-front : (s : List X) (l : List (List X)) → Contains l s → Contains (Fronted l) (b ∷ s)
  among-front s l m =
      let within : m.0 < length l = m.1 in
      (m.0, omega (arith, length-map l (λ t. b ∷ t)), get_or-map (λ t. b ∷ t) l m.0 s (b ∷ s) within ∙ ap (λ t. b ∷ t) m.2)

  record Front (s : List X) (l : List (List X)) : Type 0 where
    rest : List X
    is : s ≡ b ∷ rest
    among : Contains l rest

  front-among : (s : List X) (l : List (List X)) → Contains (Fronted l) s → Front s l
  front-among s l m =
      let within : m.0 < length l = omega (arith, m.1, length-map l (λ t. b ∷ t)) in
      record {
        rest = get_or l m.0 s;
        is = sym m.2 ∙ get_or-map (λ t. b ∷ t) l m.0 s s within;
        among = Contains-get_or l m.0 s within;
      }

  once-front : (l : List (List X)) → Once l → Once (Fronted l)
  once-front l o i j d lt within =
      let j-within : j < length l = omega (arith, within, length-map l (λ t. b ∷ t)) in
      let i-within : i < length l = omega arith in
      λ e. o i j d lt j-within
      (ap tail_of (sym (get_or-map (λ t. b ∷ t) l i d d i-within) ∙ e ∙ get_or-map (λ t. b ∷ t) l j d d j-within))
    where
      tail_of : List X → List X
      tail_of [] = []
      tail_of (x ∷ xs) = xs

abbrev head_of : List Bool → Bool
head_of [] = false
head_of (b ∷ s) = b

-- Sets of one place more: those without it, and those with it.
abbrev without_and_with : List (List Bool) → List (List Bool) → List (List Bool)
without_and_with k l = Fronted false k ++ Fronted true l

length-both : (k l : List (List Bool)) → length (without_and_with k l) ≡ length k + length l
length-both k l = rw (length-append (Fronted false k) (Fronted true l), length-map k (λ s. false ∷ s), length-map l (λ s. true ∷ s))

once-both : (k l : List (List Bool)) → Once k → Once l → Once (without_and_with k l)
once-both k l o p =
    once-append (Fronted false k) (Fronted true l) (once-front false k o) (once-front true l p) (λ s m n.
    let f : Front false s k = front-among false s k m in
    let g : Front true s l = front-among true s l n in
    false≢true (ap head_of (sym f.is ∙ g.is)))

among-without : (s : List Bool) (k l : List (List Bool)) → Contains k s → Contains (without_and_with k l) (false ∷ s)
among-without s k l m = Contains-append_left (Fronted false k) (Fronted true l) (false ∷ s) (among-front false s k m)

among-with : (s : List Bool) (k l : List (List Bool)) → Contains l s → Contains (without_and_with k l) (true ∷ s)
among-with s k l m = Contains-append_right (Fronted false k) (Fronted true l) (true ∷ s) (among-front true s l m)

-- What all of them have, where those without and those with the place have it.
both-among : (T : List Bool → Type 0) (k l : List (List Bool)) → ((s : List Bool) → Contains k s → T (false ∷ s))
    → ((s : List Bool) → Contains l s → T (true ∷ s)) → (s : List Bool) → Contains (without_and_with k l) s → T s
both-among T k l f g s m =
    ⊎_elim
    (λ n. let h : Front false s k = front-among false s k n in rw h.is (f h.rest h.among))
    (λ n. let h : Front true s l = front-among true s l n in rw h.is (g h.rest h.among))
    (Contains-append_cases (Fronted false k) (Fronted true l) s m)

module _ {M P : Type 0} {meets : M → P → Bool} {common : M → M → M} {empty : M → Bool} {top : M} {IsRight : M → Type 0} {InRange : P → Type 0}
    (laws : CountLaws meets common empty top IsRight InRange) {A : Type 0} where
  -- The common match of a match and those of some atoms.
  abbrev whole : M → List (Row M A) → M
  whole m [] = m
  whole m (x ∷ xs) = whole (common m x.matching) xs

  abbrev MeetsAll : List (Row M A) → P → Type 0
  MeetsAll xs p = All (λ x. meets x.matching p ≡ true) xs

  meets-whole : (m : M) (xs : List (Row M A)) (p : P) → meets (whole m xs) p ≡ true → (meets m p ≡ true) × MeetsAll xs p
  meets-whole m [] p e = (e, tt)
  meets-whole m (x ∷ xs) p e =
      let h = meets-whole (common m x.matching) xs p e in
      let b : (meets m p && meets x.matching p) ≡ true = sym (laws.meets_common m x.matching p) ∙ h.0 in
      (and_left (meets m p) (meets x.matching p) b, (and_right (meets m p) (meets x.matching p) b, h.1))

  whole-meets : (m : M) (xs : List (Row M A)) (p : P) → meets m p ≡ true → MeetsAll xs p → meets (whole m xs) p ≡ true
  whole-meets m [] p e a = e
  whole-meets m (x ∷ xs) p e a = whole-meets (common m x.matching) xs p (laws.meets_common m x.matching p ∙ and_both e a.0) a.1

  -- The sets of atoms whose matches have a common match with m that is not empty; and those of them that have a place.
  abbrev live_sets : M → List (Row M A) → List (List Bool)
  live_sets m [] = cond (empty m) [] ([] ∷ [])
  live_sets m (x ∷ xs) = without_and_with (live_sets m xs) (live_sets (common m x.matching) xs)

  abbrev some_sets : M → List (Row M A) → List (List Bool)
  some_sets m [] = []
  some_sets m (x ∷ xs) = without_and_with (some_sets m xs) (live_sets (common m x.matching) xs)

  live-count : (m : M) (xs : List (Row M A)) → length (live_sets m xs) ≡ over_sets common (live laws) m xs
  live-count m [] = by-test (empty m) (λ t. rw t) (λ t. rw t)
  live-count m (x ∷ xs) =
      length-both (live_sets m xs) (live_sets (common m x.matching) xs) ∙ ap₂ ◌+◌ (live-count m xs) (live-count (common m x.matching) xs)

  some-count : (m : M) (xs : List (Row M A)) → empty m ≡ false → suc (length (some_sets m xs)) ≡ length (live_sets m xs)
  some-count m [] e = rw e
  some-count m (x ∷ xs) e =
      omega (
        arith,
        length-both (some_sets m xs) (live_sets (common m x.matching) xs),
        length-both (live_sets m xs) (live_sets (common m x.matching) xs),
        some-count m xs e,
      )

  -- A set of the places of some atoms that m and their matches, all met, make.
  abbrev Living : M → List (Row M A) → List Bool → Type 0
  Living m xs s = (length s ≡ length xs) × (empty (whole m (chosen s xs)) ≡ false)

  live-each : (m : M) (xs : List (Row M A)) (s : List Bool) → Contains (live_sets m xs) s → Living m xs s
  live-each m [] s i =
      by-test (empty m)
      (λ t. absurd (none-empty s (rw t at i)))
      (λ t. rw (only-one s [] (rw t at i)) (refl, t))
  live-each m (x ∷ xs) s i =
      both-among (Living m (x ∷ xs)) (live_sets m xs) (live_sets (common m x.matching) xs)
      (λ s i. let h = live-each m xs s i in (ap suc h.0, h.1))
      (λ s i. let h = live-each (common m x.matching) xs s i in (ap suc h.0, h.1))
      s i

  live-every : (m : M) (xs : List (Row M A)) (s : List Bool) → length s ≡ length xs → empty (whole m (chosen s xs)) ≡ false → Contains (live_sets m xs) s
  live-every m [] [] l e = rw e (0, omega arith, refl)
  live-every m [] (b ∷ s) l e = absurd (omega (arith, l))
  live-every m (x ∷ xs) [] l e = absurd (omega (arith, l))
  live-every m (x ∷ xs) (false ∷ s) l e = among-without s (live_sets m xs) (live_sets (common m x.matching) xs) (live-every m xs s (omega (arith, l)) e)
  live-every m (x ∷ xs) (true ∷ s) l e =
      among-with s (live_sets m xs) (live_sets (common m x.matching) xs) (live-every (common m x.matching) xs s (omega (arith, l)) e)

  live-once : (m : M) (xs : List (Row M A)) → Once (live_sets m xs)
  live-once m [] = by-test (empty m) (λ t. rw t once-none) (λ t. rw t (once-single []))
  live-once m (x ∷ xs) = once-both (live_sets m xs) (live_sets (common m x.matching) xs) (live-once m xs) (live-once (common m x.matching) xs)

  abbrev SomeLiving : M → List (Row M A) → List Bool → Type 0
  SomeLiving m xs s = (length s ≡ length xs) × (non_empty s ≡ true) × (empty (whole m (chosen s xs)) ≡ false)

  some-each : (m : M) (xs : List (Row M A)) (s : List Bool) → Contains (some_sets m xs) s → SomeLiving m xs s
  some-each m [] s i = absurd (none-empty s i)
  some-each m (x ∷ xs) s i =
      both-among (SomeLiving m (x ∷ xs)) (some_sets m xs) (live_sets (common m x.matching) xs)
      (λ s i. let h = some-each m xs s i in (ap suc h.0, h.1, h.2))
      (λ s i. let h = live-each (common m x.matching) xs s i in (ap suc h.0, refl, h.1))
      s i

  some-every : (m : M) (xs : List (Row M A)) (s : List Bool) → length s ≡ length xs → non_empty s ≡ true → empty (whole m (chosen s xs)) ≡ false
      → Contains (some_sets m xs) s
  some-every m [] [] l p e = absurd (false≢true p)
  some-every m [] (b ∷ s) l p e = absurd (omega (arith, l))
  some-every m (x ∷ xs) [] l p e = absurd (omega (arith, l))
  some-every m (x ∷ xs) (false ∷ s) l p e = among-without s (some_sets m xs) (live_sets (common m x.matching) xs) (some-every m xs s (omega (arith, l)) p e)
  some-every m (x ∷ xs) (true ∷ s) l p e =
      among-with s (some_sets m xs) (live_sets (common m x.matching) xs) (live-every (common m x.matching) xs s (omega (arith, l)) e)

  some-once : (m : M) (xs : List (Row M A)) → Once (some_sets m xs)
  some-once m [] = once-none
  some-once m (x ∷ xs) = once-both (some_sets m xs) (live_sets (common m x.matching) xs) (some-once m xs) (live-once (common m x.matching) xs)

  right-whole : (m : M) (xs : List (Row M A)) → IsRight m → Rights laws xs → IsRight (whole m xs)
  right-whole m [] f g = f
  right-whole m (x ∷ xs) f g = right-whole (common m x.matching) xs (laws.common_right m x.matching f g.0) g.1

  right-chosen : (s : List Bool) (xs : List (Row M A)) → Rights laws xs → Rights laws (chosen s xs)
  right-chosen [] xs g = tt
  right-chosen (b ∷ s) [] g = tt
  right-chosen (true ∷ s) (x ∷ xs) g = (g.0, right-chosen s xs g.1)
  right-chosen (false ∷ s) (x ∷ xs) g = right-chosen s xs g.1

  -- Some packet in range meets all of some atoms exactly where their matches, all met, are not empty.
  lives-shared : (xs : List (Row M A)) → Rights laws xs → empty (whole top xs) ≡ false → SharedBy meets InRange xs
  lives-shared xs g e =
      let (p, (r, t)) = laws.met_in_range (whole top xs) (right-whole top xs laws.top_right g) e in
      record { packet = p; in_range = r; meets_all = (meets-whole top xs p t).1 }

  shared-lives : (xs : List (Row M A)) → SharedBy meets InRange xs → empty (whole top xs) ≡ false
  shared-lives xs s =
      by-test (empty (whole top xs))
      (λ t.
      let a : meets (whole top xs) s.packet ≡ true = whole-meets top xs s.packet (laws.top_met s.packet s.in_range) s.meets_all in
      absurd (false≢true (sym (laws.meets_empty (whole top xs) s.packet t) ∙ a)))
      (λ t. t)

module _ {M P A O : Type 0} (meets : M → P → Bool) (common : M → M → M) (empty : M → Bool) (top : M) (joined : O → A → A → A) where
  -- THE ROWS ARE COUNTED: the sets are those that are listed, and the empty one is left out of their sum
  pub rows-counted : RowsCounted meets common empty top joined
  rows-counted IsRight InRange laws t a =
      let xs : List (Row M A) = all_atoms (list_tree t) in
      let count : suc (length (compile common empty joined t)) ≡ over_sets common (live laws) top xs =
      rows-over_sets laws joined t (rw (← atoms-listed t) a) ∙ ap (over_sets common (live laws) top) (sym (atoms-listed t)) in
      record {
        sets = some_sets laws top xs;
        exactly = λ s. (
          λ i. let h = some-each laws top xs s i in record { places = h.0; some = h.1; has = lives-shared laws (chosen s xs) (right-chosen laws s xs a) h.2 },
          λ h. some-every laws top xs s h.places h.some (shared-lives laws (chosen s xs) h.has),
        );
        once = some-once laws top xs;
        many = omega (arith, some-count laws top xs laws.top_lives, live-count laws top xs, count);
      }
