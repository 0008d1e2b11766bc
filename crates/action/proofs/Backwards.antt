-- The search by what the pairs give is the search: where the pairs commute, a triple breaks the law only if it does when read backwards, so that of two such
-- triples the first is enough, and none is needed that reads the same; by recursion on the first actions.
use Prim.Native.Nat.{ℕ, ◌+◌, ◌≤◌}
use native.Mathlib.Omega.{arith}
use mathlib.Core.Path.{◌≡◌, refl, sym, ap, subst, ◌∙◌}
use mathlib.Core.Logic.{⊎_elim}
use mathlib.Core.List.Memᴰ
use mathlib.Core.List.{List, [], ◌∷◌, ◌++◌, map}
use Rattle.std.specs.Prelude.{Ok, length, drop}
use Rattle.std.specs.List.{zip, enumerate_from}
use Rattle.std.proofs.Math.Seq.{drop-append_seam}
use Rattle.std.proofs.lemmas.List.{append_assoc, length-append}
use Rattle.action.specs.Action.{rate_of, largest_rate}
use Rattle.action.specs.Operator.{join}
use Rattle.action.specs.Laws.{◌else◌, ◌among◌, Searched, along, same, told, shown, commutes, associates}
use Rattle.action.specs.Laws.{first_pair, with_second, first_triple, with_pair, with_third}
use Rattle.action.specs.Search.{joins, joined, later, second_by, pair_by, third_by, second_pair_by, triple_by}
use Rattle.action.specs.declared.Action.{Action}
use Rattle.action.specs.declared.LawFailure.TheVariants.{Commutativity, Associativity}
use Rattle.action.proofs.Along.{along-append, along-map, along-ok, ok-along, along-same, else-same, later-map}
use Rattle.action.proofs.Product.{pairs_by-first, triples_by-first, triples_by-second}
use Rattle.action.proofs.Same.{same-eq}
use Rattle.action.proofs.Commuting.{tested, kept, commutes-bounded, join-bound, shown-bound}

-- lists beside their images, and with their places
zip-images : {X Y Z : Type 0} (f : X → Y) (g : X → Z) (xs : List X) → zip (map f xs) (map g xs) ≡ map (λ x. (f x, g x)) xs
zip-images f g [] = refl
zip-images f g (x ∷ xs) = ap (λ r. (f x, g x) ∷ r) (zip-images f g xs)

zip-image : {X Y : Type 0} (f : X → Y) (xs : List X) → zip xs (map f xs) ≡ map (λ x. (x, f x)) xs
zip-image f [] = refl
zip-image f (x ∷ xs) = ap (λ r. (x, f x) ∷ r) (zip-image f xs)

enumerate-map : {X Y : Type 0} (f : X → Y) (i : ℕ) (xs : List X) → enumerate_from i (map f xs) ≡ map (λ p. (p.0, f p.1)) (enumerate_from i xs)
enumerate-map f i [] = refl
enumerate-map f i (x ∷ xs) = ap (λ r. (i, f x) ∷ r) (enumerate-map f (i + 1) xs)

-- a search along all triples of a first entry, and along those of them whose third entry stands after it
abbrev Whole : {X : Type 0} → (X → X → X → Searched) → List X → X → Searched
Whole t all a = along (λ b. along (t a b) all) all

abbrev After : {X : Type 0} → (X → X → X → Searched) → List X → ℕ × X → Searched
After t all p = along (λ b. along (t p.1 b) (later p.0 all)) all

module _ {X : Type 0} (t : X → X → X → Searched) (all : List X)
    (backwards : (a b c : X) → a among all → b among all → c among all → t c b a ≡ Ok tt → t a b c ≡ Ok tt)
    (palindrome : (a b : X) → a among all → b among all → t a b a ≡ Ok tt) where
  -- of the first entries before, all triples are kept
  abbrev Kept : List X → Type 0
  Kept pre = (x b c : X) → x among pre → b among all → c among all → t x b c ≡ Ok tt

  split : (pre post : List X) (a b : X) → all ≡ pre ++ (a ∷ post) → Kept pre → b among all → along (t a b) all ≡ along (t a b) post
  split pre post a b e k m =
      let whole : (c : X) → c among pre ++ (a ∷ post) → c among all = λ c n. subst (λ l. c among l) (sym e) n in
      let first : a among all = whole a (Memᴰ.append_right pre (Memᴰ.head refl)) in
      let before : along (t a b) pre ≡ Ok tt =
      ok-along (t a b) pre (λ c n. backwards a b c first m (whole c (Memᴰ.append_left (a ∷ post) n)) (k c b a n m first)) in
      ap (along (t a b)) e
      ∙ along-append (t a b) pre (a ∷ post)
      ∙ ap (λ s. ◌else◌ s (along (t a b) (a ∷ post))) before
      ∙ ap (λ s. ◌else◌ s (along (t a b) post)) (palindrome a b first m)

  pub halved : (pre post : List X) → all ≡ pre ++ post → Kept pre
      → along (Whole t all) post ≡ along (After t all) (enumerate_from (length pre) post)
  halved pre [] e k = refl
  halved pre (a ∷ post) e k =
      else-same (Whole t all a) (After t all (length pre, a)) _ _
      (along-same (λ b. along (t a b) all) (λ b. along (t a b) (later (length pre) all)) all
      (λ b m. split pre post a b e k m ∙ ap (along (t a b)) (sym (rest-of e))))
      (λ q.
      subst (λ n. along (Whole t all) post ≡ along (After t all) (enumerate_from n post)) (omega (arith, length-append pre (a ∷ [])))
      (halved (pre ++ (a ∷ [])) post (e ∙ sym (append_assoc pre (a ∷ []) post))
      (λ x b c m n l.
      ⊎_elim
      (λ h. k x b c h n l)
      (λ h. let same : x ≡ a = only h in
      rw same (along-ok (t a b) all (along-ok (λ b. along (t a b) all) all q b n) c l))
      (Memᴰ.append_cases pre m))))
    where
      rest-of : all ≡ pre ++ (a ∷ post) → later (length pre) all ≡ post
      rest-of e = ap (later (length pre)) e ∙ ap (drop 1) (drop-append_seam pre (a ∷ post))

      only : {x : X} → x among (a ∷ []) → x ≡ a
      only h = ⊎_elim (λ p. p) (λ n. absurd (Memᴰ.not-nil n)) (Memᴰ.cases_cons h)

-- WHAT THE PAIRS GIVE IS WHAT THE ACTIONS GIVE: the search by them is the search
module _ (o : List ℕ) where
  triple : Action → Action → Action → Searched
  triple a b c = associates o (a, (b, c))

  pair-beside : (a : Action) → second_by o a (joins o a) ≡ with_second o a
  unfolding second_by joins with_second commutes
  pair-beside a =
      ap (along _) (zip-image (join o a) shown)
      ∙ along-map (λ p. told (same p.1 (join o p.0 a)) (Commutativity a p.0)) (λ b. (b, join o a b)) shown

  pub pairs-beside : pair_by o (joined o) ≡ first_pair o
  unfolding pair_by joined
  pairs-beside =
      ap (along _) (zip-image (joins o) shown)
      ∙ along-map (λ p. second_by o p.0 p.1) (λ a. (a, joins o a)) shown
      ∙ along-same (λ a. second_by o a (joins o a)) (with_second o) shown (λ a m. pair-beside a)
      ∙ pairs_by-first o

  third-beside : (i : ℕ) (a b : Action) → third_by o i a b (join o a b) (joins o b) ≡ along (triple a b) (later i shown)
  unfolding third_by joins associates triple
  third-beside i a b =
      let beside : Action → Action × Action = λ c. (c, join o b c) in
      let kept : Action × Action → Searched = λ p. told (same (join o (join o a b) p.0) (join o a p.1)) (Associativity a b p.0) in
      ap (λ l. along kept (later i l)) (zip-image (join o b) shown)
      ∙ ap (along kept) (later-map beside i shown)
      ∙ along-map kept beside (later i shown)

  second-beside : (i : ℕ) (a : Action) → second_pair_by o i a (joins o a) (joined o) ≡ After triple shown (i, a)
  unfolding second_pair_by joined joins
  second-beside i a =
      let third : (Action × Action) × List Action → Searched = λ p. third_by o i a p.0.0 p.0.1 p.1 in
      ap (λ l. along third (zip l (map (joins o) shown))) (zip-image (join o a) shown)
      ∙ ap (along third) (zip-images (λ b. (b, join o a b)) (joins o) shown)
      ∙ along-map third (λ b. ((b, join o a b), joins o b)) shown
      ∙ along-same (λ b. third_by o i a b (join o a b) (joins o b)) (λ b. along (triple a b) (later i shown)) shown (λ b m. third-beside i a b)

  after : triple_by o (joined o) ≡ along (After triple shown) (enumerate_from 0 shown)
  unfolding triple_by joined
  after =
      let second : ℕ × (Action × List Action) → Searched = λ p. second_pair_by o p.0 p.1.0 p.1.1 (joined o) in
      ap (λ l. along second (enumerate_from 0 l)) (zip-image (joins o) shown)
      ∙ ap (along second) (enumerate-map (λ a. (a, joins o a)) 0 shown)
      ∙ along-map second (λ p. (p.0, (p.1, joins o p.1))) (enumerate_from 0 shown)
      ∙ along-same (λ p. second_pair_by o p.0 p.1 (joins o p.1) (joined o)) (After triple shown) (enumerate_from 0 shown) (λ p m. second-beside p.0 p.1)

  whole : along (Whole triple shown) shown ≡ first_triple o
  unfolding triple with_third
  whole = along-same (Whole triple shown) (with_pair o) shown (λ a m. triples_by-second o a) ∙ triples_by-first o

  module _ (quiet : first_pair o ≡ Ok tt) where
    either : (a b : Action) → rate_of a ≤ largest_rate → rate_of b ≤ largest_rate → join o a b ≡ join o b a
    either = commutes-bounded o quiet

    backwards : (a b c : Action) → a among shown → b among shown → c among shown → triple c b a ≡ Ok tt → triple a b c ≡ Ok tt
    unfolding triple associates
    backwards a b c m n k h =
        let p = shown-bound a m in
        let q = shown-bound b n in
        let r = shown-bound c k in
        let back : join o (join o c b) a ≡ join o c (join o b a) = same-eq _ _ (tested _ _ h) in
        kept _ _ (Associativity a b c)
        (either (join o a b) c (join-bound o a b p q) r
        ∙ ap (join o c) (either a b p q)
        ∙ sym back
        ∙ ap (λ x. join o x a) (either c b r q)
        ∙ either (join o b c) a (join-bound o b c q r) p)

    palindrome : (a b : Action) → a among shown → b among shown → triple a b a ≡ Ok tt
    unfolding triple associates
    palindrome a b m n =
        let p = shown-bound a m in
        let q = shown-bound b n in
        kept _ _ (Associativity a b a)
        (either (join o a b) a (join-bound o a b p q) p ∙ ap (join o a) (either a b p q))

    pub triples-beside : triple_by o (joined o) ≡ first_triple o
    triples-beside =
        after
        ∙ sym (halved triple shown backwards palindrome [] shown refl (λ x b c m. absurd (Memᴰ.not-nil m)))
        ∙ whole
