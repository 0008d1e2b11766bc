-- What is read as a node is its header and its rules, and the node and the operators behind it are right.
use Rattle.std.proofs.Common.{◌≡◌, ℕ, suc, ◌<◌, ◌≤◌, true, List, [], ◌∷◌, ◌++◌, Some, None, Ok, length, map, refl, sym, ap, subst, ◌∙◌, append_assoc, arith}
use Rattle.std.specs.Prelude.{nat_lt}
use Rattle.std.proofs.lemmas.Bool.{ltb-true}
use Rattle.policy.specs.Numbers.{deepest}
use Rattle.tokens.specs.Tokens.{Token, word, at, next, is}
use Rattle.tokens.specs.Theorems.{OneEnd}
use Rattle.values.specs.Words.{is_name}
use Rattle.notation.specs.declared.fault.Reason.TheVariants.{TooDeep}
use Rattle.notation.specs.declared.fault.Wanted.TheVariants as wanted
use Rattle.notation.specs.Reads.{fault_at}
use Rattle.notation.specs.Words.{node_word, inside_word, between_word, below_word, sibling_word, parent_word, open_mark}
use Rattle.notation.specs.Policy.{OperatorEntry, NodeEntry}
use Rattle.notation.specs.Nodes.{operator_index, Used, clause_at, node_place, Header, header_at, Opened, node_at}
use Rattle.notation.specs.Right.{RightNode, bare_rule, bare_operator, bare_node}
use Rattle.notation.specs.Grammar.{Block, IsClause, IsHeader, IsRules}
use Rattle.notation.specs.Grammar as grammar
use Rattle.notation.specs.Meaning.{added_by, NodeOf}
use Rattle.notation.proofs.Bind.{bound, passed, either, same-read}
use Rattle.notation.proofs.Took.{Took, took-none, took-one, took-word, took-then}
use Rattle.notation.proofs.Taken.{Takes, taken-takes}
use Rattle.notation.proofs.RuleLaws.{name-long, rules-takes}
use Rattle.notation.proofs.RightLaws.{rules-right, bare-rules-right}
use Rattle.notation.proofs.OperatorLaws.{name-takes}
use Rattle.notation.proofs.TableLaws.{long-open}
use Rattle.notation.proofs.UsedLaws.{RightOperators, Uses, operator-used, index-below, index-append, index-bare}

-- ---- a clause

-- an operator that was read behind its word, or another one
pub record ClauseTaken (n : ℕ) (k other : List ℕ) (os : List OperatorEntry) (ts rest : List Token) (u : Used) : Type 0 where
  pub name : List ℕ
  pub takes : Takes n ts rest (λ ws. IsClause k other ws name)
  pub used : Uses os name u

-- what is read as a clause is one
pub clause-takes : (n : ℕ) (k other : List ℕ) (place : ℕ) (os : List OperatorEntry) (ts rest : List Token) (u : Used) → 0 < length k → OneEnd n ts
    → RightOperators os → clause_at k other place os ts ≡ Ok (u, rest) → ClauseTaken n k other os ts rest u
unfolding clause_at
clause-takes n k other place os ts rest u long e r g =
    either _ (is k ts) _ _ _ g
    (λ h f.
    let b = bound _ _ _ f in
    let s = same-read _ _ _ _ b.2 in
    let x = operator-used (word (next ts)) (at (next ts)) os b.0 r b.1 in
    let t = took-word n k ts e long h in
    let v = took-one n (next ts) t.ends (name-long (word (next ts)) x.name) in
    record {
      name = word (next ts);
      takes = record {
        words = k ∷ word (next ts) ∷ [];
        took = subst (λ (z : List Token). Took n ts z (k ∷ word (next ts) ∷ [])) s.1
            (took-then n ts (next ts) (next (next ts)) (k ∷ []) (word (next ts) ∷ []) t v);
        is = grammar.said;
      };
      used = subst (Uses os (word (next ts))) s.0 x;
    })
    (λ h f.
    let b = bound _ _ _ f in
    let s = same-read _ _ _ _ b.2 in
    record {
      name = other;
      takes = record { words = []; took = subst (λ (z : List Token). Took n ts z []) s.1 (took-none n ts e); is = grammar.IsClause.missing };
      used = subst (Uses os other) s.0 (operator-used other place os b.0 r b.1);
    })

-- ---- a header

-- a header that was read behind others, of which none has its name
pub record HeaderTaken (n : ℕ) (os : List OperatorEntry) (ns : List NodeEntry) (unclosed : ℕ) (ts rest : List Token) (h : Header) : Type 0 where
  pub inner : List ℕ
  pub sibling : List ℕ
  pub parent : List ℕ
  pub takes : Takes n ts rest (λ ws. IsHeader (node_word ∷ ws) h.name inner sibling parent)
  pub name : is_name h.name ≡ true
  pub fresh : node_place h.name ns ≡ None
  pub shallow : unclosed < deepest
  pub right : RightOperators h.operators
  pub more : List OperatorEntry
  pub grown : os ++ more ≡ h.operators
  pub bare : map bare_operator h.operators ≡ added_by parent (added_by sibling (added_by inner (map bare_operator os)))
  pub inner_is : operator_index inner h.operators ≡ Some h.inner
  pub sibling_is : operator_index sibling h.operators ≡ Some h.sibling
  pub parent_is : operator_index parent h.operators ≡ Some h.parent

-- an index is that of the name, with others behind too
later : (w : List ℕ) (os more us : List OperatorEntry) (i : ℕ) → os ++ more ≡ us → operator_index w os ≡ Some i → operator_index w us ≡ Some i
later w os more us i g e = subst (λ (v : List OperatorEntry). operator_index w v ≡ Some i) g (index-append w os more i e)

-- the word inside is not empty
long-inside : 0 < length inside_word
long-inside = omega arith

-- nor is between
long-between : 0 < length between_word
long-between = omega arith

-- nor is below
long-below : 0 < length below_word
long-below = omega arith

-- what is read as a header is one
pub header-takes : (n : ℕ) (os : List OperatorEntry) (ns : List NodeEntry) (unclosed : ℕ) (ts rest : List Token) (h : Header) → OneEnd n ts
    → RightOperators os → header_at os ns unclosed ts ≡ Ok (h, rest) → HeaderTaken n os ns unclosed ts rest h
unfolding header_at
header-takes n os ns unclosed ts rest h e r g =
    let b = bound _ _ _ g in
    let a = bound _ _ _ b.2 in
    let i = bound _ _ _ a.2 in
    let s = bound _ _ _ i.2 in
    let p = bound _ _ _ s.2 in
    let o = bound _ _ _ p.2 in
    let w = name-takes n wanted.NodeName (node_place (word ts) ns) ts b.0.1 b.0.0 e b.1 in
    let q = passed (nat_lt unclosed deepest) (Ok tt) (fault_at (at ts) TooDeep) a.0 a.1 in
    let ci = clause-takes n inside_word sibling_word (at ts) os b.0.1 i.0.1 i.0.0 long-inside w.took.ends r i.1 in
    let cs = clause-takes n between_word sibling_word (at ts) i.0.0.operators i.0.1 s.0.1 s.0.0 long-between ci.takes.took.ends ci.used.right s.1 in
    let cp = clause-takes n below_word parent_word (at ts) s.0.0.operators s.0.1 p.0.1 p.0.0 long-below cs.takes.took.ends cs.used.right p.1 in
    let m = taken-takes n open_mark wanted.Block p.0.1 o.0 long-open cp.takes.took.ends o.1 in
    let y = same-read _ _ _ _ o.2 in
    let tp = took-then n s.0.1 p.0.1 o.0 cp.takes.words (open_mark ∷ []) cp.takes.took m in
    let tb = took-then n i.0.1 s.0.1 o.0 cs.takes.words (cp.takes.words ++ open_mark ∷ []) cs.takes.took tp in
    let ti = took-then n b.0.1 i.0.1 o.0 ci.takes.words (cs.takes.words ++ (cp.takes.words ++ open_mark ∷ [])) ci.takes.took tb in
    let ws : List (List ℕ) = b.0.0 ∷ (ci.takes.words ++ (cs.takes.words ++ (cp.takes.words ++ open_mark ∷ []))) in
    let all : Took n ts o.0 ws = took-then n ts b.0.1 o.0 (b.0.0 ∷ []) (ci.takes.words ++ (cs.takes.words ++ (cp.takes.words ++ open_mark ∷ []))) w.took ti in
    let named : word ts ≡ b.0.0 = w.here in
    let x : Header = record { name = b.0.0; inner = i.0.0.index; sibling = s.0.0.index; parent = p.0.0.index; operators = p.0.0.operators } in
    let z : HeaderTaken n os ns unclosed ts o.0 x = record {
      inner = ci.name;
      sibling = cs.name;
      parent = cp.name;
      takes = record { words = ws; took = all; is = grammar.header w.name ci.takes.is cs.takes.is cp.takes.is };
      name = w.name;
      fresh = subst (λ (v : List ℕ). node_place v ns ≡ None) named w.none;
      shallow = ltb-true unclosed deepest q.0;
      right = cp.used.right;
      more = ci.used.more ++ (cs.used.more ++ cp.used.more);
      grown = sym (append_assoc os ci.used.more (cs.used.more ++ cp.used.more))
          ∙ ap (λ (v : List OperatorEntry). v ++ (cs.used.more ++ cp.used.more)) ci.used.grown
          ∙ sym (append_assoc i.0.0.operators cs.used.more cp.used.more)
          ∙ ap (λ (v : List OperatorEntry). v ++ cp.used.more) cs.used.grown
          ∙ cp.used.grown;
      bare = cp.used.bare ∙ ap (added_by cp.name) (cs.used.bare ∙ ap (added_by cs.name) ci.used.bare);
      inner_is = later ci.name s.0.0.operators cp.used.more p.0.0.operators i.0.0.index cp.used.grown
          (later ci.name i.0.0.operators cs.used.more s.0.0.operators i.0.0.index cs.used.grown ci.used.index);
      sibling_is = later cs.name s.0.0.operators cp.used.more p.0.0.operators s.0.0.index cp.used.grown cs.used.index;
      parent_is = cp.used.index;
    } in
    subst (λ (v : Header). HeaderTaken n os ns unclosed ts rest v) y.0
    (subst (λ (v : List Token). HeaderTaken n os ns unclosed ts v x) y.1 z)

-- ---- a node

-- a node that was read behind its word and behind others, of which none has its name
pub record NodeTaken (n room : ℕ) (os : List OperatorEntry) (ns : List NodeEntry) (unclosed : ℕ) (ts rest : List Token) (x : Opened) : Type 0 where
  pub block : Block
  pub head : List (List ℕ)
  pub rules : List (List ℕ)
  pub is_header : IsHeader (node_word ∷ head) block.name block.inner block.sibling block.parent
  pub is_rules : IsRules rules block.rules
  pub took : Took n ts rest (head ++ rules)
  pub fresh : node_place x.node.name ns ≡ None
  pub shallow : unclosed < deepest
  pub depth : x.node.depth ≡ suc unclosed
  pub few : length x.node.rules ≤ room
  pub right : RightOperators x.operators
  pub right_node : RightNode (length x.operators) x.node
  pub more : List OperatorEntry
  pub grown : os ++ more ≡ x.operators
  pub bare : map bare_operator x.operators ≡ added_by block.parent (added_by block.sibling (added_by block.inner (map bare_operator os)))
  pub of : NodeOf (map bare_operator x.operators) (record { depth = suc unclosed; what = block }) (bare_node x.node)

-- what is read as a node is one
pub node-takes : (n room : ℕ) (os : List OperatorEntry) (ns : List NodeEntry) (unclosed : ℕ) (ts rest : List Token) (x : Opened) → OneEnd n ts
    → RightOperators os → node_at room os ns unclosed ts ≡ Ok (x, rest) → NodeTaken n room os ns unclosed ts rest x
unfolding node_at
node-takes n room os ns unclosed ts rest x e r g =
    let h = bound _ _ _ g in
    let c = bound _ _ _ h.2 in
    let y = same-read _ _ _ _ c.2 in
    let a = header-takes n os ns unclosed ts h.0.1 h.0.0 e r h.1 in
    let t = rules-takes n room [] h.0.1 c.0.1 c.0.0 a.takes.took.ends c.1 in
    let new : map bare_rule t.new ≡ map bare_rule c.0.0 = ap (map bare_rule) t.all in
    let is_rules : IsRules t.takes.words (map bare_rule c.0.0) = subst (IsRules t.takes.words) new t.takes.is in
    let node : NodeEntry = record {
      name = h.0.0.name;
      at = at ts;
      depth = suc unclosed;
      inner = h.0.0.inner;
      sibling = h.0.0.sibling;
      parent = h.0.0.parent;
      rules = c.0.0;
    } in
    let z : NodeTaken n room os ns unclosed ts c.0.1 (record { node = node; operators = h.0.0.operators }) = record {
      block = record { name = h.0.0.name; inner = a.inner; sibling = a.sibling; parent = a.parent; rules = map bare_rule c.0.0 };
      head = a.takes.words;
      rules = t.takes.words;
      is_header = a.takes.is;
      is_rules = is_rules;
      took = took-then n ts h.0.1 c.0.1 a.takes.words t.takes.words a.takes.took t.takes.took;
      fresh = a.fresh;
      shallow = a.shallow;
      depth = refl;
      few = omega (arith, ap length t.all, t.few);
      right = a.right;
      right_node = record {
        name = a.name;
        inner = index-below a.inner h.0.0.operators h.0.0.inner a.inner_is;
        sibling = index-below a.sibling h.0.0.operators h.0.0.sibling a.sibling_is;
        parent = index-below a.parent h.0.0.operators h.0.0.parent a.parent_is;
        rules = bare-rules-right c.0.0 (rules-right t.takes.words (map bare_rule c.0.0) is_rules);
        labels = t.labels tt;
      };
      more = a.more;
      grown = a.grown;
      bare = a.bare;
      of = record {
        name = refl;
        at = refl;
        depth = refl;
        inner = index-bare a.inner h.0.0.operators ∙ a.inner_is;
        sibling = index-bare a.sibling h.0.0.operators ∙ a.sibling_is;
        parent = index-bare a.parent h.0.0.operators ∙ a.parent_is;
        rules = refl;
      };
    } in
    subst (λ (v : Opened). NodeTaken n room os ns unclosed ts rest v) y.0
    (subst (λ (v : List Token). NodeTaken n room os ns unclosed ts v (record { node = node; operators = h.0.0.operators })) y.1 z)
