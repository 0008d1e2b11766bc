-- Operators are read exactly where they are written.
use Rattle.std.proofs.Common.{◌≡◌, ℕ, zero, suc, ◌<◌, ◌≤◌, true, false, List, [], ◌∷◌, ◌++◌, Option, Some, None, Ok}
use Rattle.std.proofs.Common.{length, map, refl, sym, ap, subst, ◌∙◌, append_assoc, arith}
use Rattle.std.proofs.lemmas.Slice.Eq.{bytes_eq-Decides}
use Rattle.std.proofs.lemmas.List.{append-nil}
use Rattle.std.specs.Prelude.{bytes_eq}
use Rattle.notation.specs.Policy.{OperatorEntry}
use Rattle.notation.specs.Right.{Distinct, bare_operator}
use Rattle.notation.proofs.Names.{New, distinct-more, distinct-new, place_in, nowhere-new, new-nowhere}
use Rattle.notation.proofs.RuleLaws.{name-long}
use Rattle.notation.proofs.TableLaws.{table-takes, table-again}
use Rattle.tokens.specs.Tokens.{Token, word, at, next, is}
use Rattle.tokens.specs.Theorems.{OneEnd}
use Rattle.values.specs.Words.{is_name, is_own_word}
use Rattle.notation.specs.declared.fault.Wanted.{Wanted}
use Rattle.notation.specs.declared.fault.Wanted.TheVariants as wanted
use Rattle.notation.specs.Words.{operator_word, sibling_word, parent_word}
use Rattle.notation.specs.Operators.{builtin_of, operator_place, unseen, new_name, cells_or, operator_at, operators_at}
use Rattle.notation.specs.Grammar.{IsLine, IsTable, IsOperator, IsOperators}
use Rattle.notation.specs.Grammar as grammar
use Rattle.notation.proofs.Bind.{bound, passed, either, given, same-read}
use Rattle.notation.proofs.Took.{Took, took-none, took-one, took-word, took-then, Left, left-first, left-next}
use Rattle.notation.proofs.Taken.{Takes, GetsBare, takes-same, left-is, Other, left-other}

-- ---- an operator

-- the word of an operator is not empty
long-operator : 0 < length operator_word
long-operator = omega arith

-- the operators that are there from the start have names
sibling-name : is_name sibling_word ≡ true
unfolding is_name is_own_word
sibling-name = refl

-- the other one
parent-name : is_name parent_word ≡ true
unfolding is_name is_own_word
parent-name = refl

-- what has cells from the start is a name
pub builtin-name : (w cells : List ℕ) → builtin_of w ≡ Some cells → is_name w ≡ true
unfolding builtin_of
builtin-name w cells e =
    either _ (bytes_eq w sibling_word) _ _ _ e (λ h _. ap is_name ((bytes_eq-Decides w sibling_word).0 h) ∙ sibling-name)
    (λ _ g. either _ (bytes_eq w parent_word) _ _ _ g (λ h _. ap is_name ((bytes_eq-Decides w parent_word).0 h) ∙ parent-name)
    (λ _ f. absurd cc))

-- a name that was not given before
pub record NameTaken (n : ℕ) (seen : Option ℕ) (ts rest : List Token) (w : List ℕ) : Type 0 where
  pub none : seen ≡ None
  pub name : is_name w ≡ true
  pub here : word ts ≡ w
  pub took : Took n ts rest (w ∷ [])

-- it was not there
unseen-given : (seen : Option ℕ) (ts rest : List Token) (w : List ℕ) → unseen seen ts ≡ Ok (w, rest)
    → (seen ≡ None) × (given (word ts) (next ts) ≡ given w rest)
unseen-given None ts rest w e = (refl, e)
unseen-given (Some place) ts rest w e = absurd cc

-- what is read as a new name is one
pub name-takes : (n : ℕ) (wanted : Wanted) (seen : Option ℕ) (ts rest : List Token) (w : List ℕ) → OneEnd n ts → new_name wanted seen ts ≡ Ok (w, rest)
    → NameTaken n seen ts rest w
unfolding new_name
name-takes n wanted seen ts rest w e g =
    let p = passed (is_name (word ts)) (unseen seen ts) _ _ g in
    let u = unseen-given seen ts rest w p.1 in
    let s = same-read (word ts) w (next ts) rest u.1 in
    let t = took-one n ts e (name-long (word ts) p.0) in
    record {
      none = u.0;
      name = subst (λ (x : List ℕ). is_name x ≡ true) s.0 p.0;
      here = s.0;
      took = subst (λ (r : List Token). Took n ts r (w ∷ [])) s.1 (subst (λ (x : List ℕ). Took n ts (next ts) (x ∷ [])) s.0 t);
    }

-- a new name is read again
pub name-again : (n : ℕ) (wanted : Wanted) (seen : Option ℕ) (ts : List Token) (w : List ℕ) (more : List (List ℕ)) → seen ≡ None → is_name w ≡ true
    → Left n ts (w ∷ more) → (new_name wanted seen ts ≡ Ok (word ts, next ts)) × Left n (next ts) more
unfolding new_name
name-again n wanted seen ts w more none i l =
    let h : is_name (word ts) ≡ true = ap is_name (left-first n ts (w ∷ more) l) ∙ i in
    (rw (h, none) refl, left-next n ts w more l (name-long w i))

-- an operator that was read behind its word and behind others, which have none of its name
pub record OperatorTaken (n : ℕ) (os : List OperatorEntry) (ts rest : List Token) (o : OperatorEntry) : Type 0 where
  pub takes : Takes n ts rest (λ ws. IsOperator (operator_word ∷ ws) (bare_operator o))
  pub fresh : operator_place o.name os ≡ None

-- its cells
cells-take : (n : ℕ) (w : List ℕ) (b : Option (List ℕ)) (ts rest : List Token) (cells : List ℕ) → builtin_of w ≡ b → is_name w ≡ true → OneEnd n ts
    → cells_or b ts ≡ Ok (cells, rest) → Takes n ts rest (λ ws. IsOperator (operator_word ∷ w ∷ ws) (record { name = w; at = 0; cells = cells }))
cells-take n w (Some own) ts rest cells b i e g =
    takes-same (λ ws x. IsOperator (operator_word ∷ w ∷ ws) (record { name = w; at = 0; cells = x })) n ts ts rest cells own
    (record { words = []; took = took-none n ts e; is = grammar.builtin b }) g
cells-take n w None ts rest cells b i e g =
    let t = table-takes n ts rest cells e g in
    record { words = t.words; took = t.took; is = grammar.written i b t.is }

-- what is read as an operator is one, and its name is new
pub operator-takes : (n : ℕ) (os : List OperatorEntry) (ts rest : List Token) (o : OperatorEntry) → OneEnd n ts → operator_at os ts ≡ Ok (o, rest)
    → OperatorTaken n os ts rest o
unfolding operator_at
operator-takes n os ts rest o e g =
    let b = bound _ _ _ g in
    let c = bound _ _ _ b.2 in
    let w = name-takes n wanted.OperatorName (operator_place (word ts) os) ts b.0.1 b.0.0 e b.1 in
    let t = cells-take n b.0.0 (builtin_of b.0.0) b.0.1 c.0.1 c.0.0 refl w.name w.took.ends c.1 in
    let s = same-read _ _ _ _ c.2 in
    let named : word ts ≡ o.name = w.here ∙ ap (λ (x : OperatorEntry). x.name) s.0 in
    record {
      takes = takes-same (λ ws x. IsOperator (operator_word ∷ ws) (bare_operator x)) n ts c.0.1 rest o _
          (record { words = b.0.0 ∷ t.words; took = took-then n ts b.0.1 c.0.1 _ _ w.took t.took; is = t.is }) c.2;
      fresh = subst (λ (x : List ℕ). operator_place x os ≡ None) named w.none;
    }

-- an operator of a new name is read again
pub operator-again : (n : ℕ) (os : List OperatorEntry) (ts : List Token) (ws more : List (List ℕ)) (o : OperatorEntry) → IsOperator ws o
    → operator_place o.name os ≡ None → Left n ts (ws ++ more)
    → (is operator_word ts ≡ true) × GetsBare OperatorEntry bare_operator n (operator_at os (next ts)) o more
unfolding operator_at
operator-again n os ts ws more o (grammar.builtin {w} {cells} b) none l =
    let l1 = left-next n ts operator_word (w ∷ more) l long-operator in
    let f = left-first n (next ts) (w ∷ more) l1 in
    let hn : operator_place (word (next ts)) os ≡ None = ap (λ (z : List ℕ). operator_place z os) f ∙ none in
    let a = name-again n wanted.OperatorName (operator_place (word (next ts)) os) (next ts) w more hn (builtin-name w cells b) l1 in
    let hb : builtin_of (word (next ts)) ≡ Some cells = ap builtin_of f ∙ b in (
      left-is n ts operator_word (w ∷ more) l,
      record {
        value = record { name = word (next ts); at = at (next ts); cells = cells };
        rest = next (next ts);
        gives = rw (a.0, hb) refl;
        same = ap (λ (z : List ℕ). record { name = z; at = 0; cells = cells }) f;
        left = a.1;
      },
    )
operator-again n os ts ws more o (grammar.written {w} {cells} {t} i b it) none l =
    let l1 = left-next n ts operator_word (w ∷ (t ++ more)) l long-operator in
    let f = left-first n (next ts) (w ∷ (t ++ more)) l1 in
    let hn : operator_place (word (next ts)) os ≡ None = ap (λ (z : List ℕ). operator_place z os) f ∙ none in
    let a = name-again n wanted.OperatorName (operator_place (word (next ts)) os) (next ts) w (t ++ more) hn i l1 in
    let hb : builtin_of (word (next ts)) ≡ None = ap builtin_of f ∙ b in
    let c = table-again n (next (next ts)) t more cells it a.1 in (
      left-is n ts operator_word (w ∷ (t ++ more)) l,
      record {
        value = record { name = word (next ts); at = at (next ts); cells = cells };
        rest = c.rest;
        gives = rw (a.0, hb, c.gives) refl;
        same = ap (λ (z : List ℕ). record { name = z; at = 0; cells = cells }) f;
        left = c.left;
      },
    )

-- ---- operators

-- operators that were read behind others
pub record OperatorsTaken (n room : ℕ) (os : List OperatorEntry) (ts rest : List Token) (xs : List OperatorEntry) : Type 0 where
  pub new : List OperatorEntry
  pub all : os ++ new ≡ xs
  pub takes : Takes n ts rest (λ ws. IsOperators ws (map bare_operator new))
  pub few : length new ≤ room
  pub names : Distinct (map (λ o. o.name) os) → Distinct (map (λ o. o.name) xs)
  pub ends : is operator_word rest ≡ false

-- where none comes
operators-none : (n room : ℕ) (os : List OperatorEntry) (ts rest : List Token) (xs : List OperatorEntry) → OneEnd n ts → is operator_word ts ≡ false
    → given os ts ≡ given xs rest → OperatorsTaken n room os ts rest xs
operators-none n room os ts rest xs e h g =
    let s = same-read os xs ts rest g in
    record {
      new = [];
      all = append-nil os ∙ s.0;
      takes = record { words = []; took = subst (λ (r : List Token). Took n ts r []) s.1 (took-none n ts e); is = grammar.IsOperators.none };
      few = omega arith;
      names = λ d. subst (λ (ys : List OperatorEntry). Distinct (map (λ r. r.name) ys)) s.0 d;
      ends = subst (λ (r : List Token). is operator_word r ≡ false) s.1 h;
    }

-- names are those of the operators before, and that of the last
names-more : (os : List OperatorEntry) (o : OperatorEntry) → map (λ x. x.name) (os ++ o ∷ []) ≡ map (λ x. x.name) os ++ o.name ∷ []
names-more [] o = refl
names-more (x ∷ os) o = ap (λ (ls : List (List ℕ)). x.name ∷ ls) (names-more os o)

-- where a name stands
place-same : (w : List ℕ) (os : List OperatorEntry) → operator_place w os ≡ place_in (λ x. x.name) (λ x. x.at) w os
place-same w [] = refl
place-same w (o ∷ os) = rw (place-same w os) refl

-- a name that stands nowhere is new
name-new : (w : List ℕ) (os : List OperatorEntry) → operator_place w os ≡ None → New w (map (λ x. x.name) os)
name-new w os h = nowhere-new (λ x. x.name) (λ x. x.at) w os (sym (place-same w os) ∙ h)

-- what is read as operators are some, no more than there is room for, with names of their own
pub operators-take : (n room : ℕ) (os : List OperatorEntry) (ts rest : List Token) (xs : List OperatorEntry) → OneEnd n ts
    → operators_at room os ts ≡ Ok (xs, rest) → OperatorsTaken n room os ts rest xs
unfolding operators_at
operators-take n zero os ts rest xs e g =
    either _ (is operator_word ts) _ _ _ g (λ h f. absurd cc) (λ h f. operators-none n 0 os ts rest xs e h f)
operators-take n (suc room) os ts rest xs e g =
    either _ (is operator_word ts) _ _ _ g
    (λ h f.
    let b = bound _ _ _ f in
    let w = took-word n operator_word ts e long-operator h in
    let r = operator-takes n os (next ts) b.0.1 b.0.0 w.ends b.1 in
    let t = operators-take n room (os ++ b.0.0 ∷ []) b.0.1 rest xs r.takes.took.ends b.2 in
    record {
      new = b.0.0 ∷ t.new;
      all = sym (append_assoc os (b.0.0 ∷ []) t.new) ∙ t.all;
      takes = record {
        words = (operator_word ∷ r.takes.words) ++ t.takes.words;
        took = took-then n ts b.0.1 rest _ _ (took-then n ts (next ts) b.0.1 _ _ w r.takes.took) t.takes.took;
        is = grammar.IsOperators.more r.takes.is t.takes.is;
      };
      few = let u = t.few in omega arith;
      names = λ d. t.names (subst Distinct (sym (names-more os b.0.0)) (distinct-more (map (λ x. x.name) os) b.0.0.name d (name-new b.0.0.name os r.fresh)));
      ends = t.ends;
    })
    (λ h f. operators-none n (suc room) os ts rest xs e h f)

-- operators that are read again behind others
pub record OperatorsAgain (n room : ℕ) (os : List OperatorEntry) (ts : List Token) (xs : List OperatorEntry) (more : List (List ℕ)) : Type 0 where
  pub new : List OperatorEntry
  pub rest : List Token
  pub gives : operators_at room os ts ≡ Ok (os ++ new, rest)
  pub same : map bare_operator new ≡ xs
  pub left : Left n rest more

-- none come
operators-end : (room : ℕ) (os : List OperatorEntry) (ts : List Token) → is operator_word ts ≡ false → operators_at room os ts ≡ Ok (os ++ [], ts)
unfolding operators_at
operators-end zero os ts e = rw e (ap (λ (xs : List OperatorEntry). given xs ts) (sym (append-nil os)))
operators-end (suc room) os ts e = rw e (ap (λ (xs : List OperatorEntry). given xs ts) (sym (append-nil os)))

-- one comes, and others behind it
operators-step : (room : ℕ) (os new : List OperatorEntry) (o : OperatorEntry) (ts us rest : List Token) → is operator_word ts ≡ true
    → operator_at os (next ts) ≡ Ok (o, us) → operators_at room (os ++ o ∷ []) us ≡ Ok ((os ++ o ∷ []) ++ new, rest)
    → operators_at (suc room) os ts ≡ Ok (os ++ o ∷ new, rest)
unfolding operators_at
operators-step room os new o ts us rest e f g =
    rw (e, f) (g ∙ ap (λ (xs : List OperatorEntry). given xs rest) (append_assoc os (o ∷ []) new))

-- one more operator without its place
more-same : (x o : OperatorEntry) (new ys : List OperatorEntry) → bare_operator x ≡ o → map bare_operator new ≡ ys → map bare_operator (x ∷ new) ≡ o ∷ ys
more-same x o new ys e f = rw (e, f) refl

-- operators are read again, where there is room for them, their names differ from each other and from those before, and
-- no operator stands behind them
pub operators-again : (n room : ℕ) (os : List OperatorEntry) (ts : List Token) (ws more : List (List ℕ)) (xs : List OperatorEntry) → IsOperators ws xs
    → length xs ≤ room → Distinct (map (λ o. o.name) os ++ map (λ o. o.name) xs) → Other operator_word more → Left n ts (ws ++ more)
    → OperatorsAgain n room os ts xs more
operators-again n room os ts ws more xs grammar.IsOperators.none few d e l =
    record { new = []; rest = ts; gives = operators-end room os ts (left-other n ts operator_word more l e); same = refl; left = l }
operators-again n zero os ts ws more xs (grammar.IsOperators.more i s) few d e l = absurd (omega arith)
operators-again n (suc room) os ts ws more xs (grammar.IsOperators.more {w} {ws = vs} {o} {os = ys} i s) few d e l =
    let l1 : Left n ts (w ++ (vs ++ more)) = subst (λ (v : List (List ℕ)). Left n ts v) (append_assoc w vs more) l in
    let fresh : operator_place o.name os ≡ None =
    place-same o.name os ∙ new-nowhere (λ x. x.name) (λ x. x.at) o.name os (distinct-new (map (λ x. x.name) os) (map (λ x. x.name) ys) o.name d) in
    let b = operator-again n os ts w (vs ++ more) o i fresh l1 in
    let a = b.1 in
    let named : a.value.name ≡ o.name = ap (λ (x : OperatorEntry). x.name) a.same in
    let d0 : Distinct (map (λ x. x.name) os ++ (a.value.name ∷ map (λ x. x.name) ys)) =
    subst (λ (z : List ℕ). Distinct (map (λ x. x.name) os ++ (z ∷ map (λ x. x.name) ys))) (sym named) d in
    let d1 : Distinct ((map (λ x. x.name) os ++ (a.value.name ∷ [])) ++ map (λ x. x.name) ys) =
    subst Distinct (sym (append_assoc (map (λ x. x.name) os) (a.value.name ∷ []) (map (λ x. x.name) ys))) d0 in
    let d2 : Distinct (map (λ x. x.name) (os ++ a.value ∷ []) ++ map (λ x. x.name) ys) =
    subst (λ (z : List (List ℕ)). Distinct (z ++ map (λ x. x.name) ys)) (sym (names-more os a.value)) d1 in
    let t = operators-again n room (os ++ a.value ∷ []) a.rest vs more ys s (omega arith) d2 e a.left in
    record {
      new = a.value ∷ t.new;
      rest = t.rest;
      gives = operators-step room os t.new a.value ts a.rest t.rest b.0 a.gives t.gives;
      same = more-same a.value o t.new ys a.same t.same;
      left = t.left;
    }
