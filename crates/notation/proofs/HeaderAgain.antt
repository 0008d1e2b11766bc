-- The header of a node is read again: the operators that it names are found among those that are there, or are put
-- behind them.
--
--   UsedAgain, ClauseAgain, HeaderAgain   an operator, one behind its word, and a header are read again; final are the
--                                         operators behind the last node, names those that are named from there on
use Rattle.std.proofs.Common.{◌≡◌, ℕ, suc, ◌<◌, ◌≤◌, Bool, true, false, List, [], ◌∷◌, ◌++◌, Option, Some, None, Result, Ok, length, map, refl}
use Rattle.std.proofs.Common.{sym, ap, subst, ◌∙◌, append_assoc, arith}
use Rattle.std.specs.Prelude.{if◌then◌else◌, bytes_eq, option_map, nat_lt}
use Rattle.std.proofs.lemmas.List.{length-append}
use Rattle.std.proofs.lemmas.Bool.{lt-ltb}
use Rattle.std.proofs.lemmas.Slice.Eq.{bytes_eq-Decides}
use Rattle.policy.specs.Numbers.{most_operators, deepest}
use Rattle.tokens.specs.Tokens.{Token, word, at, next, is}
use Rattle.values.specs.Words.{is_name}
use Rattle.notation.specs.declared.fault.Fault.{Fault}
use Rattle.notation.specs.declared.fault.Wanted.TheVariants as wanted
use Rattle.notation.specs.Reads.{Read, taken}
use Rattle.notation.specs.Words.{node_word, inside_word, between_word, below_word, sibling_word, parent_word, open_mark}
use Rattle.notation.specs.Policy.{OperatorEntry, NodeEntry}
use Rattle.notation.specs.Operators.{builtin_of, new_name}
use Rattle.notation.specs.Nodes.{operator_index, Used, operator_for, clause_at, node_place, Header, header_at}
use Rattle.notation.specs.Right.{bare_operator}
use Rattle.notation.specs.Meaning.{put_behind, added_by, all_added}
use Rattle.notation.specs.Grammar.{IsClause, IsHeader}
use Rattle.notation.proofs.Took.{Left, left-first, left-next}
use Rattle.notation.proofs.Taken.{left-is, left-other, taken-again, differ, Other}
use Rattle.notation.proofs.RuleLaws.{name-long}
use Rattle.notation.proofs.UsedLaws.{index-bare}

-- ---- the index of an operator among more operators

-- the index that is there, or another one
abbrev or_index : Option ℕ → Option ℕ → Option ℕ
or_index (Some i) o = Some i
or_index None o = o

-- one behind another
suc-or : (a : Option ℕ) (b : Bool) (n : ℕ)
    → option_map suc (or_index a (if b then Some n else None)) ≡ or_index (option_map suc a) (if b then Some (suc n) else None)
suc-or (Some i) b n = refl
suc-or None true n = refl
suc-or None false n = refl

-- where there is one operator more
index-append : (w : List ℕ) (os : List OperatorEntry) (o : OperatorEntry)
    → operator_index w (os ++ o ∷ []) ≡ or_index (operator_index w os) (if bytes_eq o.name w then Some (length os) else None)
index-append w [] o = refl
index-append w (p ∷ os) o =
    elim (bytes_eq p.name w) as (λ d. (if d then Some 0 else option_map suc (operator_index w (os ++ o ∷ [])))
    ≡ or_index (if d then Some 0 else option_map suc (operator_index w os)) (if bytes_eq o.name w then Some (suc (length os)) else None)) [
      | true ↦ refl
      | false ↦ ap (option_map suc) (index-append w os o) ∙ suc-or (operator_index w os) (bytes_eq o.name w) (length os)
    ]

-- an operator that is there keeps its index
put-stays : (o : Option ℕ) (c : Option (List ℕ)) (v w : List ℕ) (os : List OperatorEntry) (i : ℕ) → operator_index w os ≡ Some i
    → operator_index w (put_behind o c v os) ≡ Some i
put-stays (Some j) c v w os i e = e
put-stays None None v w os i e = e
put-stays None (Some cells) v w os i e = index-append w os (record { name = v; at = 0; cells = cells }) ∙ rw e refl

-- the same with the operators that some names add
all-stays : (names : List (List ℕ)) (w : List ℕ) (os : List OperatorEntry) (i : ℕ) → operator_index w os ≡ Some i
    → operator_index w (all_added names os) ≡ Some i
all-stays [] w os i e = e
all-stays (v ∷ names) w os i e = all-stays names w (added_by v os) i (put-stays (operator_index v os) (builtin_of v) v w os i e)

-- one that is not there from the start is not put there
put-none : (o : Option ℕ) (c : Option (List ℕ)) (v w : List ℕ) (os : List OperatorEntry) → builtin_of v ≡ c → builtin_of w ≡ None → operator_index w os ≡ None
    → operator_index w (put_behind o c v os) ≡ None
put-none (Some j) c v w os b n e = e
put-none None None v w os b n e = e
put-none None (Some cells) v w os b n e =
    let d : bytes_eq v w ≡ false = differ builtin_of v w (λ h. let f = sym b ∙ h ∙ n in absurd cc) in
    index-append w os (record { name = v; at = 0; cells = cells }) ∙ rw (e, d) refl

-- nor by any name that is added
all-none : (names : List (List ℕ)) (w : List ℕ) (os : List OperatorEntry) → builtin_of w ≡ None → operator_index w os ≡ None
    → operator_index w (all_added names os) ≡ None
all-none [] w os n e = e
all-none (v ∷ names) w os n e = all-none names w (added_by v os) n (put-none (operator_index v os) (builtin_of v) v w os refl n e)

-- there are no fewer
put-length : (o : Option ℕ) (c : Option (List ℕ)) (v : List ℕ) (os : List OperatorEntry) → length os ≤ length (put_behind o c v os)
put-length (Some j) c v os = omega arith
put-length None None v os = omega arith
put-length None (Some cells) v os = omega (arith, length-append os (record { name = v; at = 0; cells = cells } ∷ []))

-- nor with all that are added
pub all-length : (names : List (List ℕ)) (os : List OperatorEntry) → length os ≤ length (all_added names os)
all-length [] os = omega arith
all-length (v ∷ names) os = omega (arith, put-length (operator_index v os) (builtin_of v) v os, all-length names (added_by v os))

-- ---- without places

-- one more operator, without places
bare-append : (os : List OperatorEntry) (o : OperatorEntry) → map bare_operator (os ++ o ∷ []) ≡ map bare_operator os ++ bare_operator o ∷ []
bare-append [] o = refl
bare-append (p ∷ os) o = ap (λ (ps : List OperatorEntry). bare_operator p ∷ ps) (bare-append os o)

-- there are as many operators without places
bare-length : (os : List OperatorEntry) → length (map bare_operator os) ≡ length os
bare-length [] = refl
bare-length (o ∷ os) = ap suc (bare-length os)

-- ---- an operator that is used

-- an operator is found again, or put behind the others
record UsedAgain (read : Result Used Fault) (final : List OperatorEntry) (names : List (List ℕ)) (i : ℕ) : Type 0 where
  used : Used
  gives : read ≡ Ok used
  index : used.index ≡ i
  others : final ≡ all_added names (map bare_operator used.operators)

-- by cases: the operator is there, or is one that is there from the start
found-again : (w : List ℕ) (place : ℕ) (os final : List OperatorEntry) (names : List (List ℕ)) (i : ℕ) (o : Option ℕ) (c : Option (List ℕ))
    → operator_index w os ≡ o → builtin_of w ≡ c → final ≡ all_added names (put_behind o c w (map bare_operator os)) → operator_index w final ≡ Some i
    → length final ≤ most_operators → UsedAgain (operator_for w place os) final names i
unfolding operator_for
found-again w place os final names i (Some j) c eo ec e h few =
    let s = all-stays names w (map bare_operator os) j (index-bare w os ∙ eo) in
    let t : Some j ≡ Some i = sym s ∙ ap (operator_index w) (sym e) ∙ h in
    record { used = record { index = j; operators = os }; gives = rw eo refl; index = cc; others = e }
found-again w place os final names i None None eo ec e h few =
    let s = all-none names w (map bare_operator os) ec (index-bare w os ∙ eo) in
    let t : None ≡ Some i = sym s ∙ ap (operator_index w) (sym e) ∙ h in
    absurd cc
found-again w place os final names i None (Some cells) eo ec e h few =
    let o : OperatorEntry = record { name = w; at = 0; cells = cells } in
    let a : operator_index w (map bare_operator os ++ o ∷ []) ≡ Some (length (map bare_operator os)) =
    index-append w (map bare_operator os) o ∙ rw (index-bare w os, eo, (bytes_eq-Decides w w).1 refl) refl in
    let s = all-stays names w (map bare_operator os ++ o ∷ []) _ a in
    let t : Some (length (map bare_operator os)) ≡ Some i = sym s ∙ ap (operator_index w) (sym e) ∙ h in
    let u : length (map bare_operator os) ≡ i = cc in
    let room : length os < most_operators =
    omega (arith, ap length e, all-length names (map bare_operator os ++ o ∷ []), length-append (map bare_operator os) (o ∷ []), bare-length os) in
    record {
      used = record { index = length os; operators = os ++ record { name = w; at = place; cells = cells } ∷ [] };
      gives = rw (eo, ec, lt-ltb (length os) most_operators room) refl;
      index = sym (bare-length os) ∙ u;
      others = e ∙ ap (all_added names) (sym (bare-append os (record { name = w; at = place; cells = cells })));
    }

-- the operator that a name adds is found again among the last ones
used-again : (w : List ℕ) (place : ℕ) (os final : List OperatorEntry) (names : List (List ℕ)) (i : ℕ) → final ≡ all_added (w ∷ names) (map bare_operator os)
    → operator_index w final ≡ Some i → length final ≤ most_operators → UsedAgain (operator_for w place os) final names i
used-again w place os final names i e h few =
    found-again w place os final names i (operator_index w os) (builtin_of w) refl refl
    (subst (λ (o : Option ℕ). final ≡ all_added names (put_behind o (builtin_of w) w (map bare_operator os))) (index-bare w os) e) h few

-- ---- an operator behind its word

-- behind a word others are left, where there are some
pub left-others : (n : ℕ) (ts : List Token) (w : List ℕ) (ws : List (List ℕ)) → Left n ts (w ∷ ws) → 0 < length ws → Left n (next ts) ws
left-others n [] w ws l h = absurd l.ends
left-others n (t ∷ []) w ws l h = absurd (omega (arith, ap length l.spells))
left-others n (t ∷ u ∷ ts) w ws l h = record { ends = (l.ends).1; spells = cc (l.spells) }

-- an operator that is read again behind its word, with the words behind it
record ClauseAgain (n : ℕ) (read : Read Used) (final : List OperatorEntry) (names : List (List ℕ)) (i : ℕ) (more : List (List ℕ)) : Type 0 where
  used : Used
  rest : List Token
  gives : read ≡ Ok (used, rest)
  index : used.index ≡ i
  others : final ≡ all_added names (map bare_operator used.operators)
  left : Left n rest more

-- an operator behind its word is read again, and so is the one that stands for a missing one
clause-again : (n : ℕ) (k other : List ℕ) (place : ℕ) (os : List OperatorEntry) (ts : List Token) (a more : List (List ℕ)) (w : List ℕ)
    (final : List OperatorEntry) (names : List (List ℕ)) (i : ℕ) → 0 < length k → IsClause k other a w → Other k more → 0 < length more
    → final ≡ all_added (w ∷ names) (map bare_operator os)
    → operator_index w final ≡ Some i → length final ≤ most_operators → Left n ts (a ++ more) → ClauseAgain n (clause_at k other place os ts) final names i more
unfolding clause_at
clause-again n k other place os ts a more w final names i long IsClause.missing o some e h few l =
    let u = used-again w place os final names i e h few in
    record { used = u.used; rest = ts; gives = rw (left-other n ts k more l o, u.gives) refl; index = u.index; others = u.others; left = l }
clause-again n k other place os ts a more w final names i long IsClause.said o some e h few l =
    let l1 = left-next n ts k (w ∷ more) l long in
    let u = used-again w (at (next ts)) os final names i e h few in
    record {
      used = u.used;
      rest = next (next ts);
      gives = rw (left-is n ts k (w ∷ more) l, left-first n (next ts) (w ∷ more) l1, u.gives) refl;
      index = u.index;
      others = u.others;
      left = left-others n (next ts) w more l1 some;
    }

-- a word that neither starts a clause nor stands behind it does not come
clause-other : (j k other : List ℕ) (a more : List (List ℕ)) (w : List ℕ) → IsClause k other a w → bytes_eq k j ≡ false → Other j more → Other j (a ++ more)
clause-other j k other a more w IsClause.missing b o = o
clause-other j k other a more w IsClause.said b o = b

-- ---- a header

-- what stands before a node's rules is read again
pub record HeaderAgain (n : ℕ) (read : Read Header) (name : List ℕ) (i s p : ℕ) (final : List OperatorEntry)
    (names : List (List ℕ)) (more : List (List ℕ)) : Type 0 where
  pub header : Header
  pub rest : List Token
  pub gives : read ≡ Ok (header, rest)
  pub called : header.name ≡ name
  pub inner : header.inner ≡ i
  pub sibling : header.sibling ≡ s
  pub parent : header.parent ≡ p
  pub others : final ≡ all_added names (map bare_operator header.operators)
  pub left : Left n rest more

-- a header from what its readers give
header-gives : (os : List OperatorEntry) (ns : List NodeEntry) (u : ℕ) (ts a b c d : List Token) (x y z : Used) → is_name (word ts) ≡ true
    → node_place (word ts) ns ≡ None → nat_lt u deepest ≡ true → clause_at inside_word sibling_word (at ts) os (next ts) ≡ Ok (x, a)
    → clause_at between_word sibling_word (at ts) x.operators a ≡ Ok (y, b) → clause_at below_word parent_word (at ts) y.operators b ≡ Ok (z, c)
    → taken open_mark wanted.Block c ≡ Ok d
    → header_at os ns u ts ≡ Ok (record { name = word ts; inner = x.index; sibling = y.index; parent = z.index; operators = z.operators }, d)
unfolding header_at new_name
header-gives os ns u ts a b c d x y z good new deep ex ey ez et = rw (good, new, deep, ex, ey, ez, et) refl

-- a header is read again behind the word of its node, where its name is new, it is not too deep, and its operators are
-- among the last ones
pub header-again : (n : ℕ) (os : List OperatorEntry) (ns : List NodeEntry) (u : ℕ) (ts : List Token) (h more : List (List ℕ))
    (name inner sibling parent : List ℕ) (final : List OperatorEntry) (names : List (List ℕ)) (i s p : ℕ)
    → IsHeader h name inner sibling parent → node_place name ns ≡ None → u < deepest
    → final ≡ all_added (inner ∷ sibling ∷ parent ∷ names) (map bare_operator os) → length final ≤ most_operators
    → operator_index inner final ≡ Some i → operator_index sibling final ≡ Some s → operator_index parent final ≡ Some p → Left n ts (h ++ more)
    → HeaderAgain n (header_at os ns u (next ts)) name i s p final names more × (is node_word ts ≡ true)
header-again n os ns u ts h more name inner sibling parent final names i s p (IsHeader.header {a} {b} {c} good ia ib ic) new deep e few hi hs hp l =
    let g : (a ++ (b ++ (c ++ open_mark ∷ []))) ++ more ≡ a ++ (b ++ (c ++ (open_mark ∷ more))) = simp append_assoc in
    let l0 = subst (λ (v : List (List ℕ)). Left n ts (node_word ∷ name ∷ v)) g l in
    let l1 = left-next n ts node_word _ l0 (omega arith) in
    let w = left-first n (next ts) _ l1 in
    let l2 = left-next n (next ts) name _ l1 (name-long name good) in
    let place : ℕ = at (next ts) in
    let rest_c : List (List ℕ) = open_mark ∷ more in
    let rest_b : List (List ℕ) = c ++ rest_c in
    let rest_a : List (List ℕ) = b ++ rest_b in
    let some_b : 0 < length rest_b = omega (arith, length-append c rest_c) in
    let some_a : 0 < length rest_a = omega (arith, length-append b rest_b) in
    let oc = clause-other between_word below_word parent_word c rest_c parent ic refl refl in
    let oa = clause-other inside_word between_word sibling_word b rest_b sibling ib refl
    (clause-other inside_word below_word parent_word c rest_c parent ic refl refl) in
    let x = clause-again n inside_word sibling_word place os (next (next ts)) a rest_a inner final (sibling ∷ parent ∷ names) i
    (omega arith) ia oa some_a e hi few l2 in
    let y = clause-again n between_word sibling_word place x.used.operators x.rest b rest_b sibling final (parent ∷ names) s
    (omega arith) ib oc some_b x.others hs few x.left in
    let z = clause-again n below_word parent_word place y.used.operators y.rest c rest_c parent final names p
    (omega arith) ic refl (omega arith) y.others hp few y.left in
    let t = taken-again n open_mark wanted.Block z.rest more (omega arith) z.left in (
      record {
        header = record { name = word (next ts); inner = x.used.index; sibling = y.used.index; parent = z.used.index; operators = z.used.operators };
        rest = next z.rest;
        gives = header-gives os ns u (next ts) x.rest y.rest z.rest (next z.rest) x.used y.used z.used (ap is_name w ∙ good)
            (ap (λ (v : List ℕ). node_place v ns) w ∙ new) (lt-ltb u deepest deep) x.gives y.gives z.gives t.0;
        called = w;
        inner = x.index;
        sibling = y.index;
        parent = z.index;
        others = z.others;
        left = t.1;
      },
      left-is n ts node_word _ l0,
    )
