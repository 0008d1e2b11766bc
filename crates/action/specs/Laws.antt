-- The laws of an operator, and the finite search for a failure. Assumes nothing. See docs/FORMAT.md, "Laws".
--
--   Commutative o, Associative o   the laws, over all actions in range
--   same a b                       equal actions
--   Searched                       what a search finds: nothing, or a failure
--   actions_of f                   the actions that show a failure, three for either law
--   told kept f                    nothing where a law is kept, else its failure
--   commutes o (a, b)              nothing, or the failure that a pair shows; associates o (a, (b, c)) for a triple
--   shown, pairs, triples          the showing actions, and what the search tries, in order
--   product xs ys                  each entry of xs with each of ys, those of xs slowest
--   x else y, along t xs           the first failure of two answers, and along a list
--   first_pair o, first_triple o   the first pair, and the first triple, that shows a failure
--   with_second o a                the first pair of a and some second
--   with_pair o a                  the first triple of a and some pair; with_third o a b that of a, b and some third
--   law_search o                   the search: pairs, then triples
--   x among xs                     an entry of a list
--   Shows o f                      the actions that f names are of the list, and show that its law is broken
use Rattle.std.specs.Prelude.{ℕ, ◌≡◌, Bool, true, ◌&&◌, Result, Ok, Err, if◌then◌else◌, ◌==◌, ⊤}
use mathlib.Core.List.{List, [], ◌∷◌, ◌++◌, map, Memᴰ}
use Rattle.action.specs.Action.{kind_of, rate_of, in_range}
use Rattle.action.specs.Operator.{join}
use Rattle.action.specs.declared.Action.{Action}
use Rattle.action.specs.declared.Action.TheVariants.{DontCare, Allow, Deny, Gmb}
use Rattle.action.specs.declared.LawFailure.{LawFailure}
use Rattle.action.specs.declared.LawFailure.TheVariants.{Commutativity, Associativity}

-- commutative over all actions in range
abbrev pub Commutative : List ℕ → Type 0
Commutative o = (a b : Action) → in_range a ≡ true → in_range b ≡ true → join o a b ≡ join o b a

-- associative over all actions in range
abbrev pub Associative : List ℕ → Type 0
Associative o =
    (a b c : Action) → in_range a ≡ true → in_range b ≡ true → in_range c ≡ true
    → join o (join o a b) c ≡ join o a (join o b c)

-- equal actions
abbrev pub same : Action → Action → Bool
same a b = kind_of a == kind_of b && rate_of a == rate_of b

-- what a search finds: nothing, or a failure
abbrev pub Searched : Type 0
Searched = Result ⊤ LawFailure

-- the actions that show a failure: don't care is the third where two show it
abbrev pub actions_of : LawFailure → List Action
actions_of (Commutativity a b) = a ∷ b ∷ DontCare ∷ []
actions_of (Associativity a b c) = a ∷ b ∷ c ∷ []

-- nothing where a law is kept, else its failure
abbrev pub told : Bool → LawFailure → Searched
told kept f = if kept then Ok tt else Err f

-- nothing, or the failure of commutativity that a pair shows
unfoldable pub commutes : List ℕ → Action × Action → Searched
commutes o p =
    let (a, b) = p in
    told (same (join o a b) (join o b a)) (Commutativity a b)

-- nothing, or the failure of associativity that a triple shows
unfoldable pub associates : List ℕ → Action × (Action × Action) → Searched
associates o t =
    let (a, p) = t in
    let (b, c) = p in
    told (same (join o (join o a b) c) (join o a (join o b c))) (Associativity a b c)

-- the showing actions
unfoldable pub shown : List Action
shown = Allow ∷ Deny ∷ Gmb 1 ∷ Gmb 2 ∷ Gmb 4 ∷ []

-- each entry of one list with each of another, the first slowest
abbrev pub product : {X Y : Type 0} → List X → List Y → List (X × Y)
product [] ys = []
product (x ∷ xs) ys = map (λ y. (x, y)) ys ++ product xs ys

-- all pairs of showing actions
unfoldable pub pairs : List (Action × Action)
pairs = product shown shown

-- all triples of showing actions
unfoldable pub triples : List (Action × (Action × Action))
triples = product shown pairs

-- the first of two answers that is a failure
infixr 20 ◌else◌
abbrev pub ◌else◌ : Searched → Searched → Searched
◌else◌ (Ok u) y = y
◌else◌ (Err f) y = Err f

-- the first failure along a list
abbrev pub along : {X : Type 0} → (X → Searched) → List X → Searched
along t [] = Ok tt
along t (x ∷ xs) = t x else along t xs

-- the first pair that breaks commutativity
unfoldable pub first_pair : List ℕ → Searched
first_pair o = along (commutes o) pairs

-- the first triple that breaks associativity
unfoldable pub first_triple : List ℕ → Searched
first_triple o = along (associates o) triples

-- the first pair of an action and some second that breaks commutativity
unfoldable pub with_second : List ℕ → Action → Searched
with_second o a = along (λ b. commutes o (a, b)) shown

-- the first triple of an action and some pair that breaks associativity
unfoldable pub with_pair : List ℕ → Action → Searched
with_pair o a = along (λ p. associates o (a, p)) pairs

-- the first triple of two actions and some third that breaks it
unfoldable pub with_third : List ℕ → Action → Action → Searched
with_third o a b = along (λ c. associates o (a, (b, c))) shown

-- the search
unfoldable pub law_search : List ℕ → Searched
law_search o = first_pair o else first_triple o

-- an entry of a list
infixl 10 ◌among◌
abbrev pub ◌among◌ : {X : Type 0} → X → List X → Type 0
x among xs = Memᴰ x xs

-- the actions of the list that show that a law is broken
abbrev pub Shows : List ℕ → LawFailure → Type 0
Shows o (Commutativity a b) = (a among shown) × (b among shown) × ¬ (join o a b ≡ join o b a)
Shows o (Associativity a b c) =
    (a among shown) × (b among shown) × (c among shown) × ¬ (join o (join o a b) c ≡ join o a (join o b c))
