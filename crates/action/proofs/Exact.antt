-- The finite search refuses exactly the operators that break a law, at any rates: what holds along the list carries over by a change of rates, by another one
-- where the ninth cell adds.
use Prim.Native.Nat.{ℕ, ◌<◌}
use native.Mathlib.Omega.{arith}
use mathlib.Core.Path.{◌≡◌, refl}
use Rattle.std.specs.Prelude.{Ok, Err}
use mathlib.Core.List.{List}
use lib.ListN.{get_or}
use Rattle.logic.proofs.Tests.{by-test, by_le}
use Rattle.action.specs.Action.{rate_of, in_range}
use Rattle.action.specs.Operator.{rate_cell, join, RightCodes}
use Rattle.action.specs.Laws.{◌among◌, Commutative, Associative, same, shown, pairs, triples, commutes, associates, first_pair, first_triple, law_search}
use Rattle.action.specs.Laws.{Searched, told, Shows}
use Rattle.action.specs.Theorems.{SearchExact, SearchShows, ShownInRange}
use Rattle.action.specs.declared.Action.{Action}
use Rattle.action.specs.declared.Action.TheVariants.{DontCare}
use Rattle.action.specs.declared.LawFailure.{LawFailure}
use Rattle.action.specs.declared.LawFailure.TheVariants.{Commutativity, Associativity}
use Rattle.action.proofs.Along.{else-left, else-right, along-ok, ok-along, else-failure, along-failure, all_among}
use Rattle.action.proofs.Product.{among-product, product-among}
use Rattle.action.proofs.Joined.{identity}
use Rattle.action.proofs.Same.{same-eq, unequal}
use Rattle.action.proofs.Codes.{adding, by-care, rate-code}
use Rattle.action.proofs.Commuting.{tested, kept, commutes-listed}
use Rattle.action.proofs.Rates.{Ninth, Shown, Spread, spread, shown_of, one-shown, two-shown, four-shown, rising-follows, commutes-rerate, associates-rerate}
use Rattle.action.proofs.Sums.{sums, rated-join, adding-follows, one-two, two-one, two-four, both-four, one-both}

-- where nothing is found, the laws hold at the actions of the list
module _ (o : List ℕ) (quiet : law_search o ≡ Ok tt) where
  commutes-shown : (u v : Action) → u among shown → v among shown → join o u v ≡ join o v u
  unfolding law_search
  commutes-shown = commutes-listed o (else-left (first_pair o) (first_triple o) quiet)

  associates-shown : (u v w : Action) → u among shown → v among shown → w among shown → join o (join o u v) w ≡ join o u (join o v w)
  unfolding associates pairs triples first_triple law_search
  associates-shown u v w m n k =
      same-eq (join o (join o u v) w) (join o u (join o v w))
      (tested _ _
      (along-ok (associates o) triples (else-right (first_pair o) (first_triple o) quiet) (u, (v, w))
      (among-product (u, (v, w)) shown pairs m (among-product (v, w) shown shown n k))))

-- the ninth cell adds, or has another code
by-sum : {X : Type 0} (o : List ℕ) → RightCodes o → (get_or o rate_cell 0 ≡ adding → X) → (get_or o rate_cell 0 < adding → X) → X
by-sum o r f g =
    by_le adding (get_or o rate_cell 0)
    (λ h. let w = rate-code rate_cell (get_or o rate_cell 0) (r.1 rate_cell (omega arith)) (omega (arith, h)) in f (omega (arith, w.1, h)))
    g

-- THE SEARCH IS ENOUGH: where nothing is found the laws hold, at all rates. Of actions other than don't care by the ninth cell's code
module _ (o : List ℕ) (r : RightCodes o) (quiet : law_search o ≡ Ok tt) where
  module _ (x y : Action) (nx : ¬ (x ≡ DontCare)) (ny : ¬ (y ≡ DontCare)) where
    commutative-sum : get_or o rate_cell 0 ≡ adding → join o x y ≡ join o y x
    commutative-sum adds =
        let a = rate_of x in
        let b = rate_of y in
        let f : ℕ → ℕ = sums a b 0 in
        let u : Shown f 1 x = shown_of f 1 x nx one-shown refl in
        let v : Shown f 2 y = shown_of f 2 y ny two-shown refl in
        commutes-rerate o r f u.from v.from x y
        (adding-follows o r adds u.from v.from u.at v.at f (one-two a b 0))
        (adding-follows o r adds v.from u.from v.at u.at f (two-one a b 0))
        u.becomes v.becomes
        (commutes-shown o quiet u.from v.from u.listed v.listed)

    commutative-other : get_or o rate_cell 0 < adding → join o x y ≡ join o y x
    commutative-other other =
        let s : Spread (rate_of x) (rate_of y) 0 = spread (rate_of x) (rate_of y) 0 in
        let u : Shown s.f s.first.from x = shown_of s.f s.first.from x nx s.first.listed s.first.becomes in
        let v : Shown s.f s.second.from y = shown_of s.f s.second.from y ny s.second.listed s.second.becomes in
        let all : (a b : Action) → Ninth o s.f a b = λ a b m n d e. rising-follows s.f s.rising (get_or o rate_cell 0) m n other in
        commutes-rerate o r s.f u.from v.from x y (all _ _) (all _ _) u.becomes v.becomes
        (commutes-shown o quiet u.from v.from u.listed v.listed)

    module _ (z : Action) (nz : ¬ (z ≡ DontCare)) where
      associative-sum : get_or o rate_cell 0 ≡ adding → join o (join o x y) z ≡ join o x (join o y z)
      associative-sum adds =
          let a = rate_of x in
          let b = rate_of y in
          let c = rate_of z in
          let f : ℕ → ℕ = sums a b c in
          let u : Shown f 1 x = shown_of f 1 x nx one-shown refl in
          let v : Shown f 2 y = shown_of f 2 y ny two-shown refl in
          let w : Shown f 4 z = shown_of f 4 z nz four-shown refl in
          associates-rerate o r f u.from v.from w.from x y z
          (adding-follows o r adds u.from v.from u.at v.at f (one-two a b c))
          (adding-follows o r adds (join o u.from v.from) w.from (rated-join o r adds u.from v.from u.at v.at) w.at f (both-four a b c))
          (adding-follows o r adds v.from w.from v.at w.at f (two-four a b c))
          (adding-follows o r adds u.from (join o v.from w.from) u.at (rated-join o r adds v.from w.from v.at w.at) f (one-both a b c))
          u.becomes v.becomes w.becomes
          (associates-shown o quiet u.from v.from w.from u.listed v.listed w.listed)

      associative-other : get_or o rate_cell 0 < adding → join o (join o x y) z ≡ join o x (join o y z)
      associative-other other =
          let s : Spread (rate_of x) (rate_of y) (rate_of z) = spread (rate_of x) (rate_of y) (rate_of z) in
          let u : Shown s.f s.first.from x = shown_of s.f s.first.from x nx s.first.listed s.first.becomes in
          let v : Shown s.f s.second.from y = shown_of s.f s.second.from y ny s.second.listed s.second.becomes in
          let w : Shown s.f s.third.from z = shown_of s.f s.third.from z nz s.third.listed s.third.becomes in
          let all : (a b : Action) → Ninth o s.f a b = λ a b m n d e. rising-follows s.f s.rising (get_or o rate_cell 0) m n other in
          associates-rerate o r s.f u.from v.from w.from x y z (all _ _) (all _ _) (all _ _) (all _ _) u.becomes v.becomes w.becomes
          (associates-shown o quiet u.from v.from w.from u.listed v.listed w.listed)

  pub quiet-commutative : (a b : Action) → join o a b ≡ join o b a
  quiet-commutative a b =
      by-care a
      (λ e. rw (e, (identity o b).0, (identity o b).1))
      (λ na. by-care b
      (λ e. rw (e, (identity o a).0, (identity o a).1))
      (λ nb. by-sum o r (commutative-sum a b na nb) (commutative-other a b na nb)))

  pub quiet-associative : (a b c : Action) → join o (join o a b) c ≡ join o a (join o b c)
  quiet-associative a b c =
      by-care a
      (λ e. rw (e, (identity o b).0, (identity o (join o b c)).0))
      (λ na. by-care b
      (λ e. rw (e, (identity o a).1, (identity o c).0))
      (λ nb. by-care c
      (λ e. rw (e, (identity o b).1, (identity o (join o a b)).1))
      (λ nc. by-sum o r (associative-sum a b na nb c nc) (associative-other a b na nb c nc))))

-- and no more than enough: the actions of the list are in range, so where the laws hold there nothing is found
pub shown-in-range : ShownInRange
unfolding shown in_range
shown-in-range = all_among in_range shown refl

pub lawful-quiet : (o : List ℕ) → Commutative o → Associative o → law_search o ≡ Ok tt
unfolding commutes associates pairs triples first_pair first_triple law_search
lawful-quiet o commutative associative = rw (ok-along (commutes o) pairs pair) (ok-along (associates o) triples triple)
  where
    pair : (p : Action × Action) → p among pairs → commutes o p ≡ Ok tt
    pair p m =
        let h = product-among p shown shown m in
        kept _ _ _ (commutative p.0 p.1 (shown-in-range _ h.0) (shown-in-range _ h.1))

    triple : (t : Action × (Action × Action)) → t among triples → associates o t ≡ Ok tt
    triple t m =
        let h = product-among t shown pairs m in
        let k = product-among t.1 shown shown h.1 in
        kept _ _ _
        (associative t.0 t.1.0 t.1.1 (shown-in-range _ h.0) (shown-in-range _ k.0) (shown-in-range _ k.1))

-- both together
pub search-exact : SearchExact
search-exact o right = (
  λ quiet. (λ a b h k. quiet-commutative o right quiet a b, λ a b c h k g. quiet-associative o right quiet a b c),
  λ lawful. lawful-quiet o lawful.0 lawful.1,
)

-- what the search names breaks the law: by the entry that shows it
broken : (P : LawFailure → Type 0) (x y : Action) (g : LawFailure) {f : LawFailure} → (¬ (x ≡ y) → P g) → told (same x y) g ≡ Err f → P f
broken P x y g {f} p e =
    by-test (same x y)
    (λ t. let z : ◌≡◌ {A = Searched} (Ok tt) (Err f) = rw t at e in let n : ◌≡◌ {A = ℕ} 0 1 = cc in absurd (omega arith))
    (λ t.
    let z : ◌≡◌ {A = Searched} (Err g) (Err f) = rw t at e in
    let q : g ≡ f = cc in
    rw (← q) (p (unequal x y t)))

pub search-shows : SearchShows
unfolding commutes associates pairs triples first_pair first_triple law_search
search-shows o f e =
    else-failure (first_pair o) (first_triple o) f
    (along-failure (commutes o) pairs f pair)
    (along-failure (associates o) triples f triple)
    e
  where
    pair : (p : Action × Action) → p among pairs → commutes o p ≡ Err f → Shows o f
    pair p m =
        let (u, v) = p in
        let h = product-among p shown shown m in
        broken (Shows o) (join o u v) (join o v u) (Commutativity u v) (λ n. (h.0, h.1, n))

    triple : (t : Action × (Action × Action)) → t among triples → associates o t ≡ Err f → Shows o f
    triple t m =
        let (u, p) = t in
        let (v, w) = p in
        let h = product-among t shown pairs m in
        let k = product-among p shown shown h.1 in
        broken (Shows o) (join o (join o u v) w) (join o u (join o v w)) (Associativity u v w) (λ n. (h.0, k.0, k.1, n))
