-- One step of each loop that reads rules, operators and nodes.
use Rattle.std.proofs.Common.{◌≡◌, ℕ, zero, suc, true, false, List, [], ◌∷◌, ◌++◌, Ok, refl, ◌∙◌, arith}
use Rattle.tokens.specs.Tokens.{Token, is, next}
use Rattle.notation.specs.declared.fault.ReadError.{ReadError}
use Rattle.notation.specs.declared.fault.ReadError.TheVariants as errors
use Rattle.notation.specs.declared.fault.Reason.TheVariants.{TooManyRules, TooManyOperators}
use Rattle.notation.specs.Policy.{RuleEntry, OperatorEntry}
use Rattle.notation.specs.Reads.{◌>>=◌, fails, Fails}
use Rattle.notation.specs.Words.{operator_word}
use Rattle.notation.specs.Rules.{ends_rules, rule_at, rules_at}
use Rattle.notation.specs.Operators.{operator_at, operators_at}

-- no rule comes
pub rules_end : (m : ℕ) (rs : List RuleEntry) (ts : List Token) → ends_rules ts ≡ true → rules_at m rs ts ≡ Ok (rs, ts)
unfolding rules_at
rules_end zero rs ts e = rw e refl
rules_end (suc m) rs ts e = rw e refl

-- there is no room for the rule that comes
pub rules_full : (m : ℕ) (rs : List RuleEntry) (ts : List Token) → m ≡ 0 → ends_rules ts ≡ false
    → rules_at m rs ts ≡ fails TooManyRules ts
unfolding rules_at
rules_full zero rs ts z e = rw e refl
rules_full (suc m) rs ts z e = absurd (omega (arith, z))

-- a rule, and then the others
rules_on : (m k : ℕ) (rs : List RuleEntry) (ts : List Token) → m ≡ suc k → ends_rules ts ≡ false
    → rules_at m rs ts ≡ (rule_at rs ts >>= λ r. rules_at k (rs ++ r.0 ∷ []) r.1)
unfolding rules_at
rules_on m k rs ts z e = rw (z, e) refl

-- a rule was read
pub rules_step : (m k : ℕ) (rs : List RuleEntry) (ts : List Token) (r : RuleEntry) (rest : List Token) → m ≡ suc k
    → ends_rules ts ≡ false → rule_at rs ts ≡ Ok (r, rest) → rules_at m rs ts ≡ rules_at k (rs ++ r ∷ []) rest
rules_step m k rs ts r rest z e h = rules_on m k rs ts z e ∙ rw h refl

-- a rule was not read
pub rules_stop : (error : ReadError) (m k : ℕ) (rs : List RuleEntry) (ts : List Token) → m ≡ suc k
    → ends_rules ts ≡ false → Fails error (rule_at rs ts) → Fails error (rules_at m rs ts)
rules_stop errors.Memory m k rs ts z e h = tt
rules_stop (errors.Fault f) m k rs ts z e h = rules_on m k rs ts z e ∙ rw h refl

-- no operator comes
pub operators_end : (m : ℕ) (os : List OperatorEntry) (ts : List Token) → is operator_word ts ≡ false
    → operators_at m os ts ≡ Ok (os, ts)
unfolding operators_at
operators_end zero os ts e = rw e refl
operators_end (suc m) os ts e = rw e refl

-- there is no room for the operator that comes
pub operators_full : (m : ℕ) (os : List OperatorEntry) (ts : List Token) → m ≡ 0 → is operator_word ts ≡ true
    → operators_at m os ts ≡ fails TooManyOperators ts
unfolding operators_at
operators_full zero os ts z e = rw e refl
operators_full (suc m) os ts z e = absurd (omega (arith, z))

-- an operator, and then the others
operators_on : (m k : ℕ) (os : List OperatorEntry) (ts : List Token) → m ≡ suc k → is operator_word ts ≡ true
    → operators_at m os ts ≡ (operator_at os (next ts) >>= λ o. operators_at k (os ++ o.0 ∷ []) o.1)
unfolding operators_at
operators_on m k os ts z e = rw (z, e) refl

-- an operator was read
pub operators_step : (m k : ℕ) (os : List OperatorEntry) (ts : List Token) (o : OperatorEntry) (rest : List Token)
    → m ≡ suc k → is operator_word ts ≡ true → operator_at os (next ts) ≡ Ok (o, rest)
    → operators_at m os ts ≡ operators_at k (os ++ o ∷ []) rest
operators_step m k os ts o rest z e h = operators_on m k os ts z e ∙ rw h refl

-- an operator was not read
pub operators_stop : (error : ReadError) (m k : ℕ) (os : List OperatorEntry) (ts : List Token) → m ≡ suc k
    → is operator_word ts ≡ true → Fails error (operator_at os (next ts)) → Fails error (operators_at m os ts)
operators_stop errors.Memory m k os ts z e h = tt
operators_stop (errors.Fault f) m k os ts z e h = operators_on m k os ts z e ∙ rw h refl
