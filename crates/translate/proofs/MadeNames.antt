-- Made-up names are names, and differ. Assumes nothing.
use Rattle.std.proofs.Common.{ℕ, zero, suc, ◌^◌, ◌<◌, arith, ◌≡◌, refl, sym, ap, ◌∙◌, subst, Bool, true, false, List, [], ◌∷◌, ◌++◌, get_or}
use Rattle.std.specs.Prelude.{◌||◌, ◌==◌, codes, bytes_eq}
use Rattle.std.specs.Fmt.{decimal}
use Rattle.std.proofs.lemmas.Fmt.{decimal_injective}
use Rattle.std.proofs.lemmas.Bool.{ne_eqb}
use Rattle.std.proofs.lemmas.List.{append_cancel_left}
use Rattle.std.proofs.lemmas.Slice.Eq.{bytes_eq-Decides}
use Rattle.logic.proofs.Tests.{by-test}
use Rattle.action.specs.Operator.{sibling, parent, RightCodes}
use Rattle.values.specs.Numbers.{is_digit, all_digits}
use Rattle.values.specs.Words.{is_letter, in_name, all_in_name, is_name, is_own_word}
use Rattle.values.proofs.NumberLaw.{both, decimal-digits}
use Rattle.notation.specs.Words.{sibling_word, parent_word}
use Rattle.notation.specs.Operators.{builtin_of}
use Rattle.notation.specs.Right.{RightOperator}
use Rattle.translate.specs.Names.{numbered, operator_name}

-- a digit stands in a name
or-second : (a c d : Bool) → (((a || true) || c) || d) ≡ true
or-second true c d = refl
or-second false c d = refl

digit-in_name : (b : ℕ) → is_digit b ≡ true → in_name b ≡ true
digit-in_name b e = rw e (or-second (is_letter b) (b == 45) (b == 95))

digits-in_name : (w : List ℕ) → all_digits w ≡ true → all_in_name w ≡ true
digits-in_name [] e = refl
digits-in_name (b ∷ w) e =
    let h = both (is_digit b) (all_digits w) e in
    rw (digit-in_name b h.0, digits-in_name w h.1) refl

-- names of operators, nodes and rules
number-in_name : (i : ℕ) → i < 2 ^ 32 → all_in_name (decimal i) ≡ true
number-in_name i h = digits-in_name (decimal i) (decimal-digits i h)

operator-is_name : (i : ℕ) → i < 2 ^ 32 → is_name (numbered (codes "operator") i) ≡ true
unfolding is_name is_own_word
operator-is_name i h = rw (number-in_name i h) refl

pub node-is_name : (i : ℕ) → i < 2 ^ 32 → is_name (numbered (codes "node") i) ≡ true
unfolding is_name is_own_word
node-is_name i h = rw (number-in_name i h) refl

pub rule-is_name : (i : ℕ) → i < 2 ^ 32 → is_name (numbered (codes "rule") i) ≡ true
unfolding is_name is_own_word
rule-is_name i h = rw (number-in_name i h) refl

-- different numbers, different names
pub numbered-same : (stem : List ℕ) (i j : ℕ) → i < 2 ^ 32 → j < 2 ^ 32 → numbered stem i ≡ numbered stem j → i ≡ j
numbered-same stem i j h k e =
    decimal_injective i j (omega arith) (omega arith)
    (append_cancel_left (codes "-") (decimal i) (decimal j) (append_cancel_left stem (codes "-" ++ decimal i) (codes "-" ++ decimal j) e))

-- the three ways to name an operator
data NamedAs (i : ℕ) (o w : List ℕ) : Type 0 where
  first : i ≡ 0 → o ≡ sibling → w ≡ sibling_word → NamedAs i o w
  second : i ≡ 1 → o ≡ parent → w ≡ parent_word → NamedAs i o w
  other : w ≡ numbered (codes "operator") i → NamedAs i o w

named-as : (i : ℕ) (o : List ℕ) → NamedAs i o (operator_name i o)
named-as zero o =
    by-test (bytes_eq o sibling)
    (λ e. first refl ((bytes_eq-Decides o sibling).0 e) (rw e refl))
    (λ e. other (rw e refl))
named-as (suc zero) o =
    by-test (bytes_eq o parent)
    (λ e. second refl ((bytes_eq-Decides o parent).0 e) (rw e refl))
    (λ e. other (rw e refl))
named-as (suc (suc i)) o = other (rw (ne_eqb (suc (suc i)) 0 (λ q. omega arith), ne_eqb (suc (suc i)) 1 (λ q. omega arith)) refl)

-- an operator of right cells with such a name
operator-right : (i : ℕ) (o w : List ℕ) → i < 2 ^ 32 → RightCodes o → NamedAs i o w → RightOperator (record { name = w; at = 0; cells = o })
unfolding builtin_of is_name is_own_word
operator-right i o w h c (first p q e) = rw e (record { name = refl; cells = c; own = q })
operator-right i o w h c (second p q e) = rw e (record { name = refl; cells = c; own = q })
operator-right i o w h c (other e) = rw e (record { name = operator-is_name i h; cells = c; own = tt })

pub named-right : (i : ℕ) (o : List ℕ) → i < 2 ^ 32 → RightCodes o → RightOperator (record { name = operator_name i o; at = 0; cells = o })
named-right i o h c = operator-right i o (operator_name i o) h c (named-as i o)

-- the first byte of a name
head : List ℕ → ℕ
head w = get_or w 0 0

-- operators of one name have one index
one-index : (i j : ℕ) (o o' w : List ℕ) → i < 2 ^ 32 → j < 2 ^ 32 → NamedAs i o w → NamedAs j o' w → i ≡ j
unfolding head
one-index i j o o' w h k (first p q e) (first p' q' e') = p ∙ sym p'
one-index i j o o' w h k (first p q e) (second p' q' e') = let z : ◌≡◌ {A = ℕ} 115 112 = ap head (sym e ∙ e') in absurd (omega arith)
one-index i j o o' w h k (first p q e) (other e') = let z : ◌≡◌ {A = ℕ} 115 111 = ap head (sym e ∙ e') in absurd (omega arith)
one-index i j o o' w h k (second p q e) (first p' q' e') = let z : ◌≡◌ {A = ℕ} 112 115 = ap head (sym e ∙ e') in absurd (omega arith)
one-index i j o o' w h k (second p q e) (second p' q' e') = p ∙ sym p'
one-index i j o o' w h k (second p q e) (other e') = let z : ◌≡◌ {A = ℕ} 112 111 = ap head (sym e ∙ e') in absurd (omega arith)
one-index i j o o' w h k (other e) (first p' q' e') = let z : ◌≡◌ {A = ℕ} 111 115 = ap head (sym e ∙ e') in absurd (omega arith)
one-index i j o o' w h k (other e) (second p' q' e') = let z : ◌≡◌ {A = ℕ} 111 112 = ap head (sym e ∙ e') in absurd (omega arith)
one-index i j o o' w h k (other e) (other e') = numbered-same (codes "operator") i j h k (sym e ∙ e')

pub names-same : (i j : ℕ) (o o' : List ℕ) → i < 2 ^ 32 → j < 2 ^ 32 → operator_name i o ≡ operator_name j o' → i ≡ j
names-same i j o o' h k e = one-index i j o o' (operator_name i o) h k (named-as i o) (subst (λ w. NamedAs j o' w) (sym e) (named-as j o'))
