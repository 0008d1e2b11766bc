-- What is read as nodes is nodes by their depths, and with the operators before it a right policy.
use Rattle.std.proofs.Common.{◌≡◌, ℕ, zero, suc, ◌+◌, ◌-◌, ◌<◌, ◌≤◌, Bool, true, false, List, []}
use Rattle.std.proofs.Common.{◌∷◌, ◌++◌, Some, None, Ok, length, map, refl, sym, ap, subst, ◌∙◌, append_assoc, arith}
use Rattle.std.specs.Prelude.{◌==◌, if◌then◌else◌, replicate}
use Rattle.std.proofs.lemmas.Bool.{eqb-true, eqb-false}
use Rattle.std.proofs.lemmas.List.{length-append, map-append}
use Rattle.logic.specs.Lists.{All}
use Rattle.logic.proofs.Lists.{all_append, all_then}
use Rattle.policy.specs.Numbers.{most_atoms, most_nodes, deepest}
use Rattle.depths.specs.Depths.{Deep, Below, Nested, closings, first_depth}
use Rattle.tokens.specs.Tokens.{Token, next, is, ended}
use Rattle.tokens.specs.Theorems.{OneEnd}
use Rattle.tokens.proofs.Spans.{next-ends}
use Rattle.notation.specs.Words.{node_word, close_mark}
use Rattle.notation.specs.Policy.{OperatorEntry, NodeEntry, Entries}
use Rattle.notation.specs.Nodes.{operator_index, node_place, Opened, closed, rule_count, no_node, nodes_at}
use Rattle.notation.specs.Right.{Distinct, RightNode, RightEntries, bare_operator, bare_node}
use Rattle.notation.specs.Grammar.{Block}
use Rattle.notation.specs.Meaning.{uses, all_added, NodeOf, NodesOf}
use Rattle.notation.specs.Meaning as meaning
use Rattle.notation.proofs.Bind.{bound, either, same-read}
use Rattle.notation.proofs.Took.{Took, took-none, took-word, took-then}
use Rattle.notation.proofs.Taken.{Takes}
use Rattle.notation.proofs.Names.{New, distinct-more, place_in, nowhere-new}
use Rattle.notation.proofs.Flat.{IsFlat}
use Rattle.notation.proofs.Flat as flat
use Rattle.notation.proofs.NodeLoop.{rule_count-more}
use Rattle.notation.proofs.UsedLaws.{RightOperators, index-append}
use Rattle.notation.proofs.TableLaws.{long-close}
use Rattle.notation.proofs.HeaderLaws.{NodeTaken, node-takes}

-- ---- closing braces

-- as many closing braces were taken as nodes were closed
record ClosedTaken (n unclosed : ℕ) (ts rest : List Token) (still : ℕ) : Type 0 where
  took : Took n ts rest (replicate (unclosed - still) close_mark)
  few : still ≤ unclosed

-- the word of a node is not empty
long-node : 0 < length node_word
long-node = omega arith

-- one closing brace more, or none
closed-case : (n u : ℕ) (ts : List Token) (c : Bool) (p : ℕ × List Token) → is close_mark ts ≡ c → OneEnd n ts → ClosedTaken n u (next ts) p.1 p.0
    → (q : ℕ × List Token) → (if c then p else (suc u, ts)) ≡ q → ClosedTaken n (suc u) ts q.1 q.0
closed-case n u ts true p h e t q s =
    let w = took-then n ts (next ts) p.1 (close_mark ∷ []) (replicate (u - p.0) close_mark) (took-word n close_mark ts e long-close h) t.took in
    let m = t.few in
    let k : suc (u - p.0) ≡ suc u - p.0 = omega arith in
    subst (λ (v : ℕ × List Token). ClosedTaken n (suc u) ts v.1 v.0) s
    (record { took = subst (λ (j : ℕ). Took n ts p.1 (replicate j close_mark)) k w; few = omega arith })
closed-case n u ts false p h e t q s =
    let k : 0 ≡ suc u - suc u = omega arith in
    subst (λ (v : ℕ × List Token). ClosedTaken n (suc u) ts v.1 v.0) s
    (record { took = subst (λ (j : ℕ). Took n ts ts (replicate j close_mark)) k (took-none n ts e); few = omega arith })

-- closing braces are read as many as were taken
closed-takes : (n u : ℕ) (ts : List Token) → OneEnd n ts → ClosedTaken n u ts (closed u ts).1 (closed u ts).0
closed-takes n zero ts e = record { took = took-none n ts e; few = omega arith }
closed-takes n (suc u) ts e =
    closed-case n u ts (is close_mark ts) (closed u (next ts)) refl e (closed-takes n u (next ts) (next-ends n ts e)) (closed (suc u) ts) refl

-- ---- depths

-- one more depth behind the last
below-more : (c : ℕ) (ds : List ℕ) (d e : ℕ) → Below c (ds ++ d ∷ []) → 2 ≤ e → e ≤ suc d → e ≤ deepest → Below c ((ds ++ d ∷ []) ++ e ∷ [])
below-more c [] d e b two step few = (b.0, b.1, b.2, (two, step, few, tt))
below-more c (x ∷ ds) d e b two step few = (b.0, b.1, b.2, below-more x ds d e b.3 two step few)

-- depths stay nested with one more behind the last
nested-more : (ds : List ℕ) (d e : ℕ) → Nested (ds ++ d ∷ []) → 2 ≤ e → e ≤ suc d → e ≤ deepest → Nested ((ds ++ d ∷ []) ++ e ∷ [])
nested-more [] d e b two step few = (b.0, (two, step, few, tt))
nested-more (x ∷ ds) d e b two step few = (b.0, below-more x ds d e b.1 two step few)

-- ---- names

-- where a node stands
place-same : (w : List ℕ) (ns : List NodeEntry) → node_place w ns ≡ place_in (λ x. x.name) (λ x. x.at) w ns
place-same w [] = refl
place-same w (n ∷ ns) = rw (place-same w ns) refl

-- a name that stands nowhere is new
node-new : (w : List ℕ) (ns : List NodeEntry) → node_place w ns ≡ None → New w (map (λ x. x.name) ns)
node-new w ns h = nowhere-new (λ x. x.name) (λ x. x.at) w ns (sym (place-same w ns) ∙ h)

-- ---- nodes so far

-- what was read is right so far, where there is room for so many more nodes, and so many are open
pub record SoFar (room : ℕ) (os : List OperatorEntry) (ns : List NodeEntry) (unclosed : ℕ) : Type 0 where
  pub operators : RightOperators os
  pub nodes : All (RightNode (length os)) ns
  pub names : Distinct (map (λ x. x.name) ns)
  pub nested : unclosed < deepest → Nested (map (λ x. x.depth) ns ++ suc unclosed ∷ [])
  pub rules : rule_count ns ≤ most_atoms
  pub count : length ns + room ≤ most_nodes

-- a right node is one among more operators
node-among : (m k : ℕ) → m ≤ k → (x : NodeEntry) → RightNode m x → RightNode k x
node-among m k l x r =
    let i = r.inner in
    let s = r.sibling in
    let p = r.parent in
    record { name = r.name; inner = omega arith; sibling = omega arith; parent = omega arith; rules = r.rules; labels = r.labels }

-- the depths with that of a node more
depths-more : (ns : List NodeEntry) (x : NodeEntry) (d : ℕ) → x.depth ≡ d → map (λ y. y.depth) ns ++ d ∷ [] ≡ map (λ y. y.depth) (ns ++ x ∷ [])
depths-more ns x d e = ap (λ (k : ℕ). map (λ y. y.depth) ns ++ k ∷ []) (sym e) ∙ sym (map-append (λ y. y.depth) ns (x ∷ []))

-- with a node more it is a right policy
with-node : (n room : ℕ) (os : List OperatorEntry) (ns : List NodeEntry) (u : ℕ) (ts rest : List Token) (x : Opened) → SoFar (suc room) os ns u
    → NodeTaken n (most_atoms - rule_count ns) os ns u ts rest x → RightEntries (record { operators = x.operators; nodes = ns ++ x.node ∷ [] })
with-node n room os ns u ts rest x s t =
    let c = s.count in
    let f = t.few in
    let r = s.rules in
    let g : length os ≤ length x.operators = omega (arith, ap length t.grown, length-append os t.more) in
    record {
      few_operators = t.right.few;
      operators = t.right.all;
      operator_names = t.right.names;
      few_nodes = omega (arith, length-append ns (x.node ∷ []));
      nodes = all_append (RightNode (length x.operators)) ns (x.node ∷ [])
          (all_then (RightNode (length os)) (RightNode (length x.operators)) (node-among (length os) (length x.operators) g) ns s.nodes) (t.right_node, tt);
      node_names = subst Distinct (sym (map-append (λ y. y.name) ns (x.node ∷ [])))
          (distinct-more (map (λ y. y.name) ns) x.node.name s.names (node-new x.node.name ns t.fresh));
      nested = subst Nested (depths-more ns x.node (suc u) t.depth) (s.nested t.shallow);
      few_rules = omega (arith, rule_count-more ns x.node);
    }

-- and right so far
so-more : (n room : ℕ) (os : List OperatorEntry) (ns : List NodeEntry) (u : ℕ) (ts rest : List Token) (x : Opened) → SoFar (suc room) os ns u
    → NodeTaken n (most_atoms - rule_count ns) os ns u ts rest x → (v : ℕ) → 0 < v → v ≤ suc u → SoFar room x.operators (ns ++ x.node ∷ []) v
so-more n room os ns u ts rest x s t v some few =
    let r = with-node n room os ns u ts rest x s t in
    let c = s.count in
    record {
      operators = t.right;
      nodes = r.nodes;
      names = r.node_names;
      nested = λ l. subst (λ (ds : List ℕ). Nested (ds ++ suc v ∷ [])) (depths-more ns x.node (suc u) t.depth)
          (nested-more (map (λ y. y.depth) ns) (suc u) (suc v) (s.nested t.shallow) (omega arith) (omega arith) (omega arith));
      rules = r.few_rules;
      count = omega (arith, length-append ns (x.node ∷ []));
    }

-- ---- nodes

-- nodes that were read behind others
pub record NodesTaken (n : ℕ) (os : List OperatorEntry) (ns : List NodeEntry) (unclosed : ℕ) (ts rest : List Token) (p : Entries) : Type 0 where
  pub blocks : List (Deep Block)
  pub takes : Takes n ts rest (λ ws. IsFlat ws blocks)
  pub first : first_depth blocks ≡ suc unclosed
  pub more : List OperatorEntry
  pub grown : os ++ more ≡ p.operators
  pub used : map bare_operator p.operators ≡ all_added (uses blocks) (map bare_operator os)
  pub new : List NodeEntry
  pub all : ns ++ new ≡ p.nodes
  pub held : NodesOf (map bare_operator p.operators) blocks (map bare_node new)
  pub right : RightEntries p

-- without a node no policy is read
no-policy : {P : Type 0} (u : ℕ) (ns : List NodeEntry) (ts : List Token) (x : Entries × List Token) → no_node u ns ts ≡ Ok x → P
unfolding no_node
no-policy zero ns ts x e = absurd cc
no-policy (suc u) ns ts x e = either _ (ended ts) _ _ _ e (λ h f. absurd cc) (λ h f. absurd cc)

-- the words of a node and those behind it
node-took : (n : ℕ) (ts a b rest : List Token) (head rules ws : List (List ℕ)) → Took n ts a (node_word ∷ []) → Took n a b (head ++ rules) → Took n b rest ws
    → Took n ts rest ((node_word ∷ head) ++ (rules ++ ws))
node-took n ts a b rest head rules ws t u v =
    subst (λ (x : List (List ℕ)). Took n ts rest (node_word ∷ x)) (append_assoc head rules ws)
    (took-then n ts a rest (node_word ∷ []) ((head ++ rules) ++ ws) t (took-then n a b rest (head ++ rules) ws u v))

-- a node is the same among more operators
node-later : (os us more : List OperatorEntry) (x : Deep Block) (e : NodeEntry) → os ++ more ≡ us
    → NodeOf (map bare_operator os) x e → NodeOf (map bare_operator us) x e
node-later os us more x e g h =
    let s : map bare_operator os ++ map bare_operator more ≡ map bare_operator us = sym (map-append bare_operator os more) ∙ ap (map bare_operator) g in
    let later : (w : List ℕ) (i : ℕ) → operator_index w (map bare_operator os) ≡ Some i → operator_index w (map bare_operator us) ≡ Some i =
    λ w i f. subst (λ (v : List OperatorEntry). operator_index w v ≡ Some i) s (index-append w (map bare_operator os) (map bare_operator more) i f) in
    record {
      name = h.name;
      at = h.at;
      depth = h.depth;
      inner = later x.what.inner e.inner h.inner;
      sibling = later x.what.sibling e.sibling h.sibling;
      parent = later x.what.parent e.parent h.parent;
      rules = h.rules;
    }

-- the last node, behind which all are closed
last-node : (n room : ℕ) (os : List OperatorEntry) (ns : List NodeEntry) (u : ℕ) (ts a rest : List Token) (x : Opened) (still : ℕ) → SoFar (suc room) os ns u
    → Took n ts (next ts) (node_word ∷ []) → NodeTaken n (most_atoms - rule_count ns) os ns u (next ts) a x → ClosedTaken n (suc u) a rest still → still ≡ 0
    → NodesTaken n os ns u ts rest (record { operators = x.operators; nodes = ns ++ x.node ∷ [] })
last-node n room os ns u ts a rest x still s w t c z =
    let k : suc u - still ≡ suc u = omega (arith, z) in
    let d = subst (λ (j : ℕ). Took n a rest (replicate j close_mark)) k c.took in
    let f = took-then n a rest rest (replicate (suc u) close_mark) [] d (took-none n rest d.ends) in
    record {
      blocks = record { depth = suc u; what = t.block } ∷ [];
      takes = record {
        words = (node_word ∷ t.head) ++ (t.rules ++ (replicate (suc u) close_mark ++ []));
        took = node-took n ts (next ts) a rest t.head t.rules (replicate (suc u) close_mark ++ []) w t.took f;
        is = flat.more t.is_header t.is_rules flat.none;
      };
      first = refl;
      more = t.more;
      grown = t.grown;
      used = t.bare;
      new = x.node ∷ [];
      all = refl;
      held = meaning.more t.of meaning.NodesOf.none;
      right = with-node n room os ns u (next ts) a x s t;
    }

-- a node, and others behind it
next-node : (n room : ℕ) (os : List OperatorEntry) (ns : List NodeEntry) (u : ℕ) (ts a b rest : List Token) (x : Opened) (still : ℕ) (p : Entries)
    → Took n ts (next ts) (node_word ∷ []) → NodeTaken n room os ns u (next ts) a x → ClosedTaken n (suc u) a b still
    → NodesTaken n x.operators (ns ++ x.node ∷ []) still b rest p → NodesTaken n os ns u ts rest p
next-node n room os ns u ts a b rest x still p w t c r =
    let k : suc u - still ≡ closings (suc u) (first_depth r.blocks) =
    omega (arith, c.few) ∙ sym (ap (closings (suc u)) r.first) in
    let d = subst (λ (j : ℕ). Took n a b (replicate j close_mark)) k c.took in
    let f = took-then n a b rest (replicate (closings (suc u) (first_depth r.blocks)) close_mark) r.takes.words d r.takes.took in
    record {
      blocks = record { depth = suc u; what = t.block } ∷ r.blocks;
      takes = record {
        words = (node_word ∷ t.head) ++ (t.rules ++ (replicate (closings (suc u) (first_depth r.blocks)) close_mark ++ r.takes.words));
        took = node-took n ts (next ts) a rest t.head t.rules (replicate (closings (suc u) (first_depth r.blocks)) close_mark ++ r.takes.words) w t.took f;
        is = flat.more t.is_header t.is_rules r.takes.is;
      };
      first = refl;
      more = t.more ++ r.more;
      grown = sym (append_assoc os t.more r.more) ∙ ap (λ (v : List OperatorEntry). v ++ r.more) t.grown ∙ r.grown;
      used = r.used ∙ ap (all_added (uses r.blocks)) t.bare;
      new = x.node ∷ r.new;
      all = sym (append_assoc ns (x.node ∷ []) r.new) ∙ r.all;
      held = meaning.more (node-later x.operators p.operators r.more (record { depth = suc u; what = t.block }) (bare_node x.node) r.grown t.of) r.held;
      right = r.right;
    }

-- what is read as nodes is nodes
pub nodes-take : (n room : ℕ) (os : List OperatorEntry) (ns : List NodeEntry) (u : ℕ) (ts rest : List Token) (p : Entries) → OneEnd n ts → SoFar room os ns u
    → nodes_at room os ns u ts ≡ Ok (p, rest) → NodesTaken n os ns u ts rest p
unfolding nodes_at
nodes-take n zero os ns u ts rest p e s g =
    either _ (is node_word ts) _ _ _ g (λ h f. absurd cc) (λ h f. no-policy u ns ts (p, rest) f)
nodes-take n (suc room) os ns u ts rest p e s g =
    either _ (is node_word ts) _ _ _ g
    (λ h f.
    let b = bound _ _ _ f in
    let w = took-word n node_word ts e long-node h in
    let t = node-takes n (most_atoms - rule_count ns) os ns u (next ts) b.0.1 b.0.0 w.ends s.operators b.1 in
    let c = closed-takes n (suc u) b.0.1 t.took.ends in
    either _ ((closed (suc u) b.0.1).0 == 0) _ _ _ b.2
    (λ k j.
    let y = same-read _ _ _ _ j in
    let z = last-node n room os ns u ts b.0.1 (closed (suc u) b.0.1).1 b.0.0 (closed (suc u) b.0.1).0 s w t c (eqb-true _ _ k) in
    subst (λ (v : Entries). NodesTaken n os ns u ts rest v) y.0
    (subst (λ (v : List Token). NodesTaken n os ns u ts v (record { operators = b.0.0.operators; nodes = ns ++ b.0.0.node ∷ [] })) y.1 z))
    (λ k j.
    let m = eqb-false _ _ k in
    let q = so-more n room os ns u (next ts) b.0.1 b.0.0 s t (closed (suc u) b.0.1).0 (omega (arith, m)) c.few in
    let r = nodes-take n room b.0.0.operators (ns ++ b.0.0.node ∷ []) (closed (suc u) b.0.1).0 (closed (suc u) b.0.1).1 rest p c.took.ends q j in
    next-node n (most_atoms - rule_count ns) os ns u ts b.0.1 (closed (suc u) b.0.1).1 rest b.0.0 (closed (suc u) b.0.1).0 p w t c r))
    (λ h f. no-policy u ns ts (p, rest) f)
