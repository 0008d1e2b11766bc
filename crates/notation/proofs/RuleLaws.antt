-- Rules are read exactly where they are written.
use Rattle.std.proofs.Common.{◌≡◌, ℕ, zero, suc, ◌<◌, ◌≤◌, Bool, true, false, List, [], ◌∷◌, ◌++◌, Option, Some, None, Ok}
use Rattle.std.proofs.Common.{length, map, refl, sym, ap, subst, ◌∙◌, append_assoc, arith}
use Rattle.std.specs.Prelude.{bytes_eq, ◌||◌}
use Rattle.std.proofs.lemmas.List.{append-nil}
use Rattle.std.proofs.lemmas.Slice.Eq.{bytes_eq-Decides}
use Rattle.tokens.specs.Tokens.{Token, word, at, next}
use Rattle.tokens.specs.Theorems.{OneEnd}
use Rattle.values.specs.Words.{is_name, is_own_word}
use Rattle.values.proofs.NumberLaw.{both}
use Rattle.notation.specs.Words.{node_word, colon_mark, close_mark}
use Rattle.notation.specs.Policy.{RuleEntry}
use Rattle.notation.specs.Rules.{label_place, labelled, body_at, unless_twice, rule_at, ends_rules, rules_at}
use Rattle.notation.specs.Right.{Distinct, bare_rule}
use Rattle.notation.specs.Grammar.{IsAction, IsMatch, IsRule, IsRules}
use Rattle.notation.specs.Grammar as grammar
use Rattle.notation.proofs.Bind.{bound, passed, either, given, same-read}
use Rattle.notation.proofs.Took.{Took, took-none, took-one, took-word, took-then, Left, first, left-first, left-next}
use Rattle.notation.proofs.Taken.{Takes, GetsBare, left-is}
use Rattle.notation.proofs.Names.{New, distinct-more, distinct-new, place_in, nowhere-new, new-nowhere}
use Rattle.notation.proofs.ActionLaws.{action-takes, action-again}
use Rattle.notation.proofs.MatchLaws.{match-takes, match-again, Quiet, quiet-close, quiet-node, quiet-end, quiet-name, name-other}

-- the empty word is no name
no-name : is_name [] ≡ false
unfolding is_name
no-name = refl

-- a name is not empty
pub name-long : (w : List ℕ) → is_name w ≡ true → 0 < length w
name-long [] e = absurd (let f = sym no-name ∙ e in cc)
name-long (b ∷ w) e = omega arith

-- a colon is not empty
long-colon : 0 < length colon_mark
long-colon = omega arith

-- a rule that was read behind others, which have no rule of its label
pub record RuleTaken (n : ℕ) (rs : List RuleEntry) (ts rest : List Token) (r : RuleEntry) : Type 0 where
  pub takes : Takes n ts rest (λ ws. IsRule ws (bare_rule r))
  pub fresh : label_place r.label rs ≡ None

-- the body of a rule
body-takes : (n : ℕ) (ts rest : List Token) (r : RuleEntry) → OneEnd n ts → labelled ts ≡ true → body_at ts ≡ Ok (r, rest)
    → Takes n ts rest (λ ws. IsRule ws (bare_rule r)) × (word ts ≡ r.label)
unfolding body_at
body-takes n ts rest r e h g =
    let l = both _ _ h in
    let b = bound _ _ _ g in
    let c = bound _ _ _ b.2 in
    let t = took-one n ts e (name-long (word ts) l.0) in
    let u = took-word n colon_mark (next ts) t.ends long-colon l.1 in
    let a = action-takes n (next (next ts)) b.0.1 b.0.0 u.ends b.1 in
    let m = match-takes n b.0.1 c.0.1 c.0.0 a.took.ends c.1 in
    let s = same-read _ _ _ _ c.2 in
    let all : Took n ts c.0.1 (word ts ∷ colon_mark ∷ (a.words ++ m.words)) =
    took-then n ts (next ts) c.0.1 _ _ t (took-then n (next ts) (next (next ts)) c.0.1 _ _ u (took-then n (next (next ts)) b.0.1 c.0.1 _ _ a.took m.took)) in (
      record {
        words = word ts ∷ colon_mark ∷ (a.words ++ m.words);
        took = subst (λ (x : List Token). Took n ts x (word ts ∷ colon_mark ∷ (a.words ++ m.words))) s.1 all;
        is = subst (λ (x : RuleEntry). IsRule (word ts ∷ colon_mark ∷ (a.words ++ m.words)) (bare_rule x)) s.0 (grammar.rule l.0 a.is m.is);
      },
      ap (λ (x : RuleEntry). x.label) s.0,
    )

-- a label that was not there
unless-twice-given : (o : Option ℕ) (ts rest : List Token) (r : RuleEntry) → unless_twice o ts ≡ Ok (r, rest) → (o ≡ None) × (body_at ts ≡ Ok (r, rest))
unless-twice-given None ts rest r e = (refl, e)
unless-twice-given (Some place) ts rest r e = absurd cc

-- what is read as a rule is one, and its label is new
pub rule-takes : (n : ℕ) (rs : List RuleEntry) (ts rest : List Token) (r : RuleEntry) → OneEnd n ts → rule_at rs ts ≡ Ok (r, rest) → RuleTaken n rs ts rest r
unfolding rule_at
rule-takes n rs ts rest r e g =
    let p = passed (labelled ts) (unless_twice (label_place (word ts) rs) ts) _ _ g in
    let u = unless-twice-given (label_place (word ts) rs) ts rest r p.1 in
    let b = body-takes n ts rest r e p.0 u.1 in
    record { takes = b.0; fresh = subst (λ (w : List ℕ). label_place w rs ≡ None) b.1 u.0 }

-- a rule of a new label is read again, where what stands behind it does not go on with its match
pub rule-again : (n : ℕ) (rs : List RuleEntry) (ts : List Token) (ws more : List (List ℕ)) (r : RuleEntry) → IsRule ws r → label_place r.label rs ≡ None
    → Quiet (first more) → Left n ts (ws ++ more) → GetsBare RuleEntry bare_rule n (rule_at rs ts) r more
unfolding rule_at body_at
rule-again n rs ts ws more r (grammar.rule {l} {a} {m} {x} {y} i ia im) none q f =
    let e : (a ++ m) ++ more ≡ a ++ (m ++ more) = append_assoc a m more in
    let f0 : Left n ts (l ∷ colon_mark ∷ (a ++ (m ++ more))) = subst (λ (v : List (List ℕ)). Left n ts (l ∷ colon_mark ∷ v)) e f in
    let f1 = left-next n ts l _ f0 (name-long l i) in
    let f2 = left-next n (next ts) colon_mark _ f1 long-colon in
    let ga = action-again n (next (next ts)) a (m ++ more) x ia f2 in
    let gm = match-again n ga.rest m more y im q ga.left in
    let w = left-first n ts _ f0 in
    let hi : is_name (word ts) ≡ true = ap is_name w ∙ i in
    let hn : label_place (word ts) rs ≡ None = ap (λ (z : List ℕ). label_place z rs) w ∙ none in
    record {
      value = record { label = word ts; at = at ts; row = record { matching = y; action = x } };
      rest = gm.rest;
      gives = rw (hi, left-is n (next ts) colon_mark _ f1, hn, ga.gives, gm.gives) refl;
      same = ap (λ (z : List ℕ). record { label = z; at = 0; row = record { matching = y; action = x } }) w;
      left = gm.left;
    }

-- ---- rules

-- no rule comes where the word w does
abbrev pub Ends : List ℕ → Type 0
Ends w = (bytes_eq w close_mark || bytes_eq w node_word || bytes_eq w []) ≡ true

-- such a word goes on with no match
pub ends-quiet : (w : List ℕ) → Ends w → Quiet w
ends-quiet w e =
    by-word (bytes_eq w close_mark) (bytes_eq w node_word) (bytes_eq w []) e
    (λ h. subst Quiet (sym ((bytes_eq-Decides w close_mark).0 h)) quiet-close)
    (λ h. subst Quiet (sym ((bytes_eq-Decides w node_word).0 h)) quiet-node)
    (λ h. subst Quiet (sym ((bytes_eq-Decides w []).0 h)) quiet-end)
  where
    by-word : (a b c : Bool) → (a || b || c) ≡ true → (a ≡ true → Quiet w) → (b ≡ true → Quiet w) → (c ≡ true → Quiet w) → Quiet w
    by-word true b c h f g k = f refl
    by-word false true c h f g k = g refl
    by-word false false true h f g k = k refl
    by-word false false false h f g k = absurd cc

-- the marks and the words of the notation are no names
no-names : (is_name close_mark ≡ false) × (is_name node_word ≡ false)
unfolding is_name is_own_word
no-names = (refl, refl)

-- no rule comes
left-ends : (n : ℕ) (ts : List Token) (more : List (List ℕ)) → Left n ts more → Ends (first more) → ends_rules ts ≡ true
unfolding ends_rules
left-ends n ts more l e = rw (left-first n ts more l) e

-- a rule comes
name-starts : (n : ℕ) (ts : List Token) (w : List ℕ) (more : List (List ℕ)) → Left n ts (w ∷ more) → is_name w ≡ true → ends_rules ts ≡ false
unfolding ends_rules
name-starts n ts w more l i =
    rw (left-first n ts (w ∷ more) l, name-other w close_mark i no-names.0, name-other w node_word i no-names.1, name-other w [] i no-name) refl

-- rules start by a name, or what stands behind them goes on with no match
rules-quiet : (ws more : List (List ℕ)) (rs : List RuleEntry) → IsRules ws rs → Quiet (first more) → Quiet (first (ws ++ more))
rules-quiet ws more rs grammar.IsRules.none q = q
rules-quiet ws more rs (grammar.IsRules.more (grammar.rule {l} i ia im) s) q = quiet-name l i

-- rules that were read behind others
pub record RulesTaken (n room : ℕ) (rs : List RuleEntry) (ts rest : List Token) (xs : List RuleEntry) : Type 0 where
  pub new : List RuleEntry
  pub all : rs ++ new ≡ xs
  pub takes : Takes n ts rest (λ ws. IsRules ws (map bare_rule new))
  pub few : length new ≤ room
  pub labels : Distinct (map (λ r. r.label) rs) → Distinct (map (λ r. r.label) xs)
  pub ends : ends_rules rest ≡ true

-- where none comes
rules-none : (n room : ℕ) (rs : List RuleEntry) (ts rest : List Token) (xs : List RuleEntry) → OneEnd n ts → ends_rules ts ≡ true → given rs ts ≡ given xs rest
    → RulesTaken n room rs ts rest xs
rules-none n room rs ts rest xs e h g =
    let s = same-read rs xs ts rest g in
    record {
      new = [];
      all = append-nil rs ∙ s.0;
      takes = record { words = []; took = subst (λ (r : List Token). Took n ts r []) s.1 (took-none n ts e); is = grammar.IsRules.none };
      few = omega arith;
      labels = λ d. subst (λ (ys : List RuleEntry). Distinct (map (λ r. r.label) ys)) s.0 d;
      ends = subst (λ (r : List Token). ends_rules r ≡ true) s.1 h;
    }

-- labels are those of the rules before, and that of the last
labels-more : (rs : List RuleEntry) (r : RuleEntry) → map (λ x. x.label) (rs ++ r ∷ []) ≡ map (λ x. x.label) rs ++ r.label ∷ []
labels-more [] r = refl
labels-more (x ∷ rs) r = ap (λ (ls : List (List ℕ)). x.label ∷ ls) (labels-more rs r)

-- where a label stands
place-same : (w : List ℕ) (rs : List RuleEntry) → label_place w rs ≡ place_in (λ x. x.label) (λ x. x.at) w rs
place-same w [] = refl
place-same w (r ∷ rs) = rw (place-same w rs) refl

-- a label that stands nowhere is new
label-new : (w : List ℕ) (rs : List RuleEntry) → label_place w rs ≡ None → New w (map (λ x. x.label) rs)
label-new w rs h = nowhere-new (λ x. x.label) (λ x. x.at) w rs (sym (place-same w rs) ∙ h)

-- what is read as rules are some, no more than there is room for, with labels of their own
pub rules-takes : (n room : ℕ) (rs : List RuleEntry) (ts rest : List Token) (xs : List RuleEntry) → OneEnd n ts → rules_at room rs ts ≡ Ok (xs, rest)
    → RulesTaken n room rs ts rest xs
unfolding rules_at
rules-takes n zero rs ts rest xs e g =
    let p = passed (ends_rules ts) (given rs ts) _ _ g in
    rules-none n 0 rs ts rest xs e p.0 p.1
rules-takes n (suc room) rs ts rest xs e g =
    either _ (ends_rules ts) _ _ _ g (λ h f. rules-none n (suc room) rs ts rest xs e h f)
    (λ h f.
    let b = bound _ _ _ f in
    let r = rule-takes n rs ts b.0.1 b.0.0 e b.1 in
    let t = rules-takes n room (rs ++ b.0.0 ∷ []) b.0.1 rest xs r.takes.took.ends b.2 in
    record {
      new = b.0.0 ∷ t.new;
      all = sym (append_assoc rs (b.0.0 ∷ []) t.new) ∙ t.all;
      takes = record {
        words = r.takes.words ++ t.takes.words;
        took = took-then n ts b.0.1 rest _ _ r.takes.took t.takes.took;
        is = grammar.IsRules.more r.takes.is t.takes.is;
      };
      few = let u = t.few in omega arith;
      labels = λ d. t.labels (subst Distinct (sym (labels-more rs b.0.0))
          (distinct-more (map (λ x. x.label) rs) b.0.0.label d (label-new b.0.0.label rs r.fresh)));
      ends = t.ends;
    })

-- rules that are read again behind others
pub record RulesAgain (n room : ℕ) (rs : List RuleEntry) (ts : List Token) (xs : List RuleEntry) (more : List (List ℕ)) : Type 0 where
  pub new : List RuleEntry
  pub rest : List Token
  pub gives : rules_at room rs ts ≡ Ok (rs ++ new, rest)
  pub same : map bare_rule new ≡ xs
  pub left : Left n rest more

-- none come
rules-end : (room : ℕ) (rs : List RuleEntry) (ts : List Token) → ends_rules ts ≡ true → rules_at room rs ts ≡ Ok (rs ++ [], ts)
unfolding rules_at
rules-end zero rs ts e = rw e (ap (λ (xs : List RuleEntry). given xs ts) (sym (append-nil rs)))
rules-end (suc room) rs ts e = rw e (ap (λ (xs : List RuleEntry). given xs ts) (sym (append-nil rs)))

-- one comes, and others behind it
rules-step : (room : ℕ) (rs new : List RuleEntry) (r : RuleEntry) (ts us rest : List Token) → ends_rules ts ≡ false → rule_at rs ts ≡ Ok (r, us)
    → rules_at room (rs ++ r ∷ []) us ≡ Ok ((rs ++ r ∷ []) ++ new, rest) → rules_at (suc room) rs ts ≡ Ok (rs ++ r ∷ new, rest)
unfolding rules_at
rules-step room rs new r ts us rest e f g =
    rw (e, f) (g ∙ ap (λ (xs : List RuleEntry). given xs rest) (append_assoc rs (r ∷ []) new))

-- a rule starts by its label
rule-starts : (n : ℕ) (ts : List Token) (ws more : List (List ℕ)) (r : RuleEntry) → IsRule ws r → Left n ts (ws ++ more) → ends_rules ts ≡ false
rule-starts n ts ws more r (grammar.rule {l} i ia im) f = name-starts n ts l _ f i

-- one more rule without its place
more-same : (x r : RuleEntry) (new ys : List RuleEntry) → bare_rule x ≡ r → map bare_rule new ≡ ys → map bare_rule (x ∷ new) ≡ r ∷ ys
more-same x r new ys e f = rw (e, f) refl

-- rules are read again, where there is room for them, their labels differ from each other and from those before, and
-- no rule comes behind them
pub rules-again : (n room : ℕ) (rs : List RuleEntry) (ts : List Token) (ws more : List (List ℕ)) (xs : List RuleEntry) → IsRules ws xs → length xs ≤ room
    → Distinct (map (λ r. r.label) rs ++ map (λ r. r.label) xs) → Ends (first more) → Left n ts (ws ++ more) → RulesAgain n room rs ts xs more
rules-again n room rs ts ws more xs grammar.IsRules.none few d e l =
    record { new = []; rest = ts; gives = rules-end room rs ts (left-ends n ts more l e); same = refl; left = l }
rules-again n zero rs ts ws more xs (grammar.IsRules.more i s) few d e l = absurd (omega arith)
rules-again n (suc room) rs ts ws more xs (grammar.IsRules.more {w} {ws = vs} {r} {rs = ys} i s) few d e l =
    let l1 : Left n ts (w ++ (vs ++ more)) = subst (λ (v : List (List ℕ)). Left n ts v) (append_assoc w vs more) l in
    let fresh : label_place r.label rs ≡ None =
    place-same r.label rs ∙ new-nowhere (λ x. x.label) (λ x. x.at) r.label rs (distinct-new (map (λ x. x.label) rs) (map (λ x. x.label) ys) r.label d) in
    let a = rule-again n rs ts w (vs ++ more) r i fresh (rules-quiet vs more ys s (ends-quiet (first more) e)) l1 in
    let named : a.value.label ≡ r.label = ap (λ (x : RuleEntry). x.label) a.same in
    let d0 : Distinct (map (λ x. x.label) rs ++ (a.value.label ∷ map (λ x. x.label) ys)) =
    subst (λ (z : List ℕ). Distinct (map (λ x. x.label) rs ++ (z ∷ map (λ x. x.label) ys))) (sym named) d in
    let d1 : Distinct ((map (λ x. x.label) rs ++ (a.value.label ∷ [])) ++ map (λ x. x.label) ys) =
    subst Distinct (sym (append_assoc (map (λ x. x.label) rs) (a.value.label ∷ []) (map (λ x. x.label) ys))) d0 in
    let d2 : Distinct (map (λ x. x.label) (rs ++ a.value ∷ []) ++ map (λ x. x.label) ys) =
    subst (λ (z : List (List ℕ)). Distinct (z ++ map (λ x. x.label) ys)) (sym (labels-more rs a.value)) d1 in
    let t = rules-again n room (rs ++ a.value ∷ []) a.rest vs more ys s (omega arith) d2 e a.left in
    record {
      new = a.value ∷ t.new;
      rest = t.rest;
      gives = rules-step room rs t.new a.value ts a.rest t.rest (rule-starts n ts w (vs ++ more) r i l1) a.gives t.gives;
      same = more-same a.value r t.new ys a.same t.same;
      left = t.left;
    }
