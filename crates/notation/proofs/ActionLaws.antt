-- Actions are read exactly where they are written.
use Rattle.std.proofs.Common.{◌≡◌, ℕ, ◌*◌, true, List, [], ◌∷◌, ◌++◌, Some, None, Ok, refl, subst, arith}
use Rattle.tokens.specs.Tokens.{Token, word, next, is}
use Rattle.tokens.specs.Theorems.{OneEnd}
use Rattle.action.specs.Action.{right_rate}
use Rattle.action.specs.declared.Action.{Action}
use Rattle.action.specs.declared.Action.TheVariants.{DontCare, Allow, Deny, Gmb}
use Rattle.values.specs.Numbers.{number_of}
use Rattle.values.specs.Words.{unit_of}
use Rattle.values.specs.Grammar.{IsNumber}
use Rattle.values.proofs.NumberLaw.{number-exactly}
use Rattle.notation.specs.declared.fault.Wanted.TheVariants as wanted
use Rattle.notation.specs.Words.{allow_word, deny_word, reserve_word, none_word}
use Rattle.notation.specs.Rules.{rate_at, action_at}
use Rattle.notation.specs.Grammar.{IsAction}
use Rattle.notation.specs.Grammar as grammar
use Rattle.notation.proofs.Bind.{bound, passed, either, same-read}
use Rattle.notation.proofs.Took.{Took, took-word, took-then, Left, left-first, left-next}
use Rattle.notation.proofs.Taken.{Takes, Gets, some-takes, some-again, no-number, word-takes}

-- the empty word is no unit
no-unit : unit_of [] ≡ None
unfolding unit_of
no-unit = refl

-- a rate is taken as a number and a unit
record Rate (n : ℕ) (ts rest : List Token) (x : Action) : Type 0 where
  number : List ℕ
  unit : List ℕ
  count : ℕ
  each : ℕ
  took : Took n ts rest (number ∷ unit ∷ [])
  counts : IsNumber number count
  measures : unit_of unit ≡ Some each
  right : right_rate (count * each) ≡ true
  value : Gmb (count * each) ≡ x

-- what is read as a rate is one
rate-takes : (n : ℕ) (ts rest : List Token) (x : Action) → OneEnd n ts → rate_at ts ≡ Ok (x, rest) → Rate n ts rest x
unfolding rate_at
rate-takes n ts rest x e g =
    let b = bound _ _ _ g in
    let c = bound _ _ _ b.2 in
    let p = passed _ _ _ _ c.2 in
    let s = some-takes n number_of wanted.Rate ts b.0.1 b.0.0 no-number e b.1 in
    let t = some-takes n unit_of wanted.Unit b.0.1 c.0.1 c.0.0 no-unit s.1.ends c.1 in
    let v = same-read _ _ _ _ p.1 in
    record {
      number = word ts;
      unit = word b.0.1;
      count = b.0.0;
      each = c.0.0;
      took = subst (λ (r : List Token). Took n ts r (word ts ∷ word b.0.1 ∷ [])) v.1 (took-then n ts b.0.1 c.0.1 _ _ s.1 t.1);
      counts = (number-exactly _ _).0 s.0;
      measures = t.0;
      right = p.0;
      value = v.0;
    }

-- what is read as an action is one
pub action-takes : (n : ℕ) (ts rest : List Token) (x : Action) → OneEnd n ts → action_at ts ≡ Ok (x, rest) → Takes n ts rest (λ ws. IsAction ws x)
unfolding action_at
action-takes n ts rest x e g =
    either _ (is allow_word ts) _ _ _ g (λ h k. word-takes IsAction n allow_word ts rest x Allow grammar.allow (omega arith) e h k)
    (λ _ g1. either _ (is deny_word ts) _ _ _ g1 (λ h k. word-takes IsAction n deny_word ts rest x Deny grammar.deny (omega arith) e h k)
    (λ _ g2. either _ (is none_word ts) _ _ _ g2 (λ h k. word-takes IsAction n none_word ts rest x DontCare grammar.none (omega arith) e h k)
    (λ _ g3. let p = passed (is reserve_word ts) (rate_at (next ts)) _ _ g3 in
    let t = took-word n reserve_word ts e (omega arith) p.0 in
    let r = rate-takes n (next ts) rest x t.ends p.1 in
    record {
      words = reserve_word ∷ r.number ∷ r.unit ∷ [];
      took = took-then n ts (next ts) rest _ _ t r.took;
      is = subst (λ (y : Action). IsAction (reserve_word ∷ r.number ∷ r.unit ∷ []) y) r.value (grammar.reserve r.counts r.measures r.right);
    })))

-- a rate that is written is read
rate-again : (n : ℕ) (ts : List Token) (w u : List ℕ) (more : List (List ℕ)) (m k : ℕ) → IsNumber w m → unit_of u ≡ Some k
    → right_rate (m * k) ≡ true → Left n ts (w ∷ u ∷ more) → Gets Action n (rate_at ts) (Gmb (m * k)) more
unfolding rate_at
rate-again n ts w u more m k i s r l =
    let a = some-again n number_of wanted.Rate ts w (u ∷ more) m no-number ((number-exactly w m).1 i) l in
    let b = some-again n unit_of wanted.Unit (next ts) u more k no-unit s a.1 in
    record { rest = next (next ts); gives = rw (a.0, b.0, r) refl; left = b.1 }

-- an action that is written is read
pub action-again : (n : ℕ) (ts : List Token) (ws more : List (List ℕ)) (x : Action) → IsAction ws x → Left n ts (ws ++ more)
    → Gets Action n (action_at ts) x more
unfolding action_at
action-again n ts ws more x grammar.allow l =
    record { rest = next ts; gives = rw (left-first n ts _ l) refl; left = left-next n ts allow_word more l (omega arith) }
action-again n ts ws more x grammar.deny l =
    record { rest = next ts; gives = rw (left-first n ts _ l) refl; left = left-next n ts deny_word more l (omega arith) }
action-again n ts ws more x grammar.none l =
    record { rest = next ts; gives = rw (left-first n ts _ l) refl; left = left-next n ts none_word more l (omega arith) }
action-again n ts ws more x (grammar.reserve {w} {u} i s r) l =
    let a = rate-again n (next ts) w u more _ _ i s r (left-next n ts reserve_word (w ∷ u ∷ more) l (omega arith)) in
    record { rest = a.rest; gives = rw (left-first n ts _ l) a.gives; left = a.left }
