-- Nodes that are written by their depths are read again.
--
--   NodeAgain, NodesAgain   a node, and nodes, are read again; final are the operators behind the last node
--   Fits                    what is asked of nodes that are to be read: their depths, operators, names and limits
use Rattle.std.proofs.Common.{◌≡◌, ℕ, zero, suc, ◌+◌, ◌-◌, ◌<◌, ◌≤◌, true, List, [], ◌∷◌, ◌++◌, None, Ok, length, map}
use Rattle.std.proofs.Common.{refl, sym, ap, subst, ◌∙◌, append_assoc, arith}
use Rattle.std.specs.Prelude.{replicate}
use Rattle.std.proofs.lemmas.Bool.{ne_eqb}
use Rattle.logic.specs.Lists.{All}
use Rattle.policy.specs.Numbers.{most_operators, most_atoms, deepest}
use Rattle.tokens.specs.Tokens.{Token, at, next, is}
use Rattle.depths.specs.Depths.{Deep, Below, closings, first_depth}
use Rattle.notation.specs.Reads.{Read}
use Rattle.notation.specs.Words.{node_word, close_mark}
use Rattle.notation.specs.Policy.{OperatorEntry, RuleEntry, NodeEntry, Entries}
use Rattle.notation.specs.Rules.{rules_at}
use Rattle.notation.specs.Nodes.{node_place, Header, header_at, Opened, node_at, closed, rule_count, nodes_at}
use Rattle.notation.specs.Right.{Distinct, bare_operator, bare_rule, bare_node}
use Rattle.notation.specs.Meaning.{all_added, uses, NodeOf, NodesOf}
use Rattle.notation.specs.Grammar.{Block, IsHeader, IsRules}
use Rattle.notation.proofs.Flat.{IsFlat}
use Rattle.notation.proofs.Took.{Left, first, left-next}
use Rattle.notation.proofs.Taken.{left-is, left-other, Other}
use Rattle.notation.proofs.Names.{place_in, new-nowhere, distinct-new}
use Rattle.notation.proofs.RuleLaws.{Ends, rules-again}
use Rattle.notation.proofs.NodeLoop.{nodes_last, nodes_step, rule_count-more}
use Rattle.notation.proofs.HeaderAgain.{header-again}
use Rattle.notation.proofs.Trees.{Head, head-of}

-- ---- what is asked of nodes

-- the node x and the nodes xs behind it are the entries y and ys, and these can be read behind the entries ns, where u
-- nodes are open and there is room for m more
pub record Fits (final : List OperatorEntry) (m u : ℕ) (os : List OperatorEntry) (ns : List NodeEntry) (x : Deep Block) (xs : List (Deep Block)) (y : NodeEntry)
    (ys : List NodeEntry) : Type 0 where
  pub depth : x.depth ≡ suc u
  pub deep : u < deepest
  pub below : Below x.depth (map (λ z. z.depth) xs)
  pub first : NodeOf final x y
  pub others : NodesOf final xs ys
  pub operators : final ≡ all_added (uses (x ∷ xs)) (map bare_operator os)
  pub few_operators : length final ≤ most_operators
  pub few_nodes : suc (length ys) ≤ m
  pub few_rules : rule_count ns + rule_count (y ∷ ys) ≤ most_atoms
  pub names : Distinct (map (λ z. z.name) ns ++ map (λ z. z.name) (y ∷ ys))
  pub labels : All (λ z. Distinct (map (λ r. r.label) z.rules)) (y ∷ ys)

-- there are as many entries as nodes
pub of-length : (final : List OperatorEntry) (xs : List (Deep Block)) (ys : List NodeEntry) → NodesOf final xs ys → length xs ≡ length ys
of-length final xs ys NodesOf.none = refl
of-length final xs ys (NodesOf.more {x} {n} {xs = zs} {ns} i is) = ap suc (of-length final zs ns is)

-- the first entry is the first node
pub of-first : (final : List OperatorEntry) (x : Deep Block) (xs : List (Deep Block)) (y : NodeEntry) (ys : List NodeEntry) → NodesOf final (x ∷ xs) (y ∷ ys)
    → NodeOf final x y × NodesOf final xs ys
of-first final x xs y ys (NodesOf.more i is) = (i, is)

-- names are those of the nodes before, and that of the last
names-more : (ns : List NodeEntry) (n : NodeEntry) → map (λ z. z.name) (ns ++ n ∷ []) ≡ map (λ z. z.name) ns ++ n.name ∷ []
names-more [] n = refl
names-more (m ∷ ns) n = ap (λ (ws : List (List ℕ)). m.name ∷ ws) (names-more ns n)

-- where a name stands
place-same : (w : List ℕ) (ns : List NodeEntry) → node_place w ns ≡ place_in (λ z. z.name) (λ z. z.at) w ns
place-same w [] = refl
place-same w (n ∷ ns) = rw (place-same w ns) refl

-- there are as many rules without their places
bare-rules-length : (rs : List RuleEntry) → length (map bare_rule rs) ≡ length rs
bare-rules-length [] = refl
bare-rules-length (r ∷ rs) = ap suc (bare-rules-length rs)

-- ---- a node

-- a node is read again
record NodeAgain (n : ℕ) (read : Read Opened) (final : List OperatorEntry) (names : List (List ℕ)) (y : NodeEntry) (more : List (List ℕ)) : Type 0 where
  opened : Opened
  rest : List Token
  gives : read ≡ Ok (opened, rest)
  same : bare_node opened.node ≡ y
  others : final ≡ all_added names (map bare_operator opened.operators)
  left : Left n rest more

-- the node of a header and its rules
abbrev opened_of : List Token → ℕ → Header → List RuleEntry → Opened
opened_of ts u h rs = record {
  node = record { name = h.name; at = at ts; depth = suc u; inner = h.inner; sibling = h.sibling; parent = h.parent; rules = rs };
  operators = h.operators;
}

-- a node is what its header and its rules give
node-gives : (room : ℕ) (os : List OperatorEntry) (ns : List NodeEntry) (u : ℕ) (ts a b : List Token) (h : Header) (rs : List RuleEntry)
    → header_at os ns u ts ≡ Ok (h, a) → rules_at room [] a ≡ Ok (rs, b) → node_at room os ns u ts ≡ Ok (opened_of ts u h rs, b)
unfolding node_at
node-gives room os ns u ts a b h rs e f = rw (e, f) refl

-- an entry is its parts
same-parts : (name : List ℕ) (place depth inner sibling parent : ℕ) (rules : List RuleEntry) (y : NodeEntry) → name ≡ y.name → place ≡ y.at → depth ≡ y.depth
    → inner ≡ y.inner → sibling ≡ y.sibling → parent ≡ y.parent → rules ≡ y.rules
    → record { name = name; at = place; depth = depth; inner = inner; sibling = sibling; parent = parent; rules = rules } ≡ y
same-parts name place depth inner sibling parent rules y a b c d e f g = rw (a, b, c, d, e, f, g) refl

-- the node that comes is read again
node-again : (n m u : ℕ) (final os : List OperatorEntry) (ns : List NodeEntry) (ts : List Token) (x : Deep Block) (xs : List (Deep Block)) (y : NodeEntry)
    (ys : List NodeEntry) (h r more : List (List ℕ)) → Fits final m u os ns x xs y ys → IsHeader h x.what.name x.what.inner x.what.sibling x.what.parent
    → IsRules r x.what.rules → Ends (first more) → Left n ts (h ++ (r ++ more))
    → NodeAgain n (node_at (most_atoms - rule_count ns) os ns u (next ts)) final (uses xs) y more × (is node_word ts ≡ true)
node-again n m u final os ns ts x xs y ys h r more f ih ir e l =
    let i = f.first in
    let named : x.what.name ≡ y.name = sym i.name in
    let new : node_place x.what.name ns ≡ None = ap (λ (w : List ℕ). node_place w ns) named ∙ place-same y.name ns
    ∙ new-nowhere (λ z. z.name) (λ z. z.at) y.name ns (distinct-new (map (λ z. z.name) ns) (map (λ z. z.name) ys) y.name f.names) in
    let a = header-again n os ns u ts h (r ++ more) x.what.name x.what.inner x.what.sibling x.what.parent final (uses xs)
    y.inner y.sibling y.parent ih new f.deep f.operators f.few_operators i.inner i.sibling i.parent l in
    let g = a.0 in
    let room : length x.what.rules ≤ most_atoms - rule_count ns = let k = f.few_rules in omega (arith, ap length i.rules) in
    let labels : Distinct (map (λ q. q.label) x.what.rules) = subst (λ (rs : List RuleEntry). Distinct (map (λ q. q.label) rs)) i.rules (f.labels).0 in
    let b = rules-again n (most_atoms - rule_count ns) [] g.rest r more x.what.rules ir room labels e g.left in (
      record {
        opened = opened_of (next ts) u g.header b.new;
        rest = b.rest;
        gives = node-gives (most_atoms - rule_count ns) os ns u (next ts) g.rest b.rest g.header b.new g.gives b.gives;
        same = same-parts g.header.name 0 (suc u) g.header.inner g.header.sibling g.header.parent (map bare_rule b.new) y (g.called ∙ named) (sym i.at)
            (sym (i.depth ∙ f.depth)) g.inner g.sibling g.parent (b.same ∙ sym i.rules);
        others = g.others;
        left = b.left;
      },
      a.1,
    )

-- ---- closing braces

-- k closing braces close as many nodes, where no other one stands behind them unless all nodes are closed
closed-again : (n k v u : ℕ) (ts : List Token) (more : List (List ℕ)) → u ≡ k + v → (0 < v → Other close_mark more) → Left n ts (replicate k close_mark ++ more)
    → (rest : List Token) × (closed u ts ≡ (v, rest)) × Left n rest more
closed-again n zero v zero ts more e o l = let d : 0 ≡ v = omega arith in (ts, ap (λ (w : ℕ). (w, ts)) d, l)
closed-again n zero v (suc u) ts more e o l =
    let d : suc u ≡ v = omega arith in
    (ts, rw (left-other n ts close_mark more l (o (omega arith))) (ap (λ (w : ℕ). (w, ts)) d), l)
closed-again n (suc k) v zero ts more e o l = absurd (omega arith)
closed-again n (suc k) v (suc u) ts more e o l =
    let r = closed-again n k v u (next ts) more (omega arith) o (left-next n ts close_mark (replicate k close_mark ++ more) l (omega arith)) in
    (r.0, rw (left-is n ts close_mark (replicate k close_mark ++ more) l) r.1, r.2)

-- behind the closing braces as many are open as stand above the next node
closings-open : (d e : ℕ) → 2 ≤ e → e ≤ suc d → d ≡ closings d e + (e - 1)
closings-open d zero h k = absurd (omega arith)
closings-open d (suc e) h k = omega arith

-- no rule comes where a node is closed, nor where another one starts
ends-closing : (k : ℕ) (more : List (List ℕ)) → Ends (first more) → Ends (first (replicate k close_mark ++ more))
ends-closing zero more e = e
ends-closing (suc k) more e = refl

-- no rule comes where nodes are closed
ends-closed : (k : ℕ) (more : List (List ℕ)) → 0 < k → Ends (first (replicate k close_mark ++ more))
ends-closed zero more h = absurd (omega arith)
ends-closed (suc k) more h = refl

-- nodes start by their word
pub flat-first : (us more : List (List ℕ)) (x : Deep Block) (xs : List (Deep Block)) → IsFlat us (x ∷ xs) → first (us ++ more) ≡ node_word
flat-first us more x xs (IsFlat.more (IsHeader.header good ia ib ic) ir f) = refl

-- ---- nodes

-- nodes are read again behind others
pub record NodesAgain (n : ℕ) (read : Read Entries) (final : List OperatorEntry) (ns ys : List NodeEntry) (more : List (List ℕ)) : Type 0 where
  pub operators : List OperatorEntry
  pub new : List NodeEntry
  pub rest : List Token
  pub gives : read ≡ Ok (record { operators = operators; nodes = ns ++ new }, rest)
  pub same_operators : map bare_operator operators ≡ final
  pub same_nodes : map bare_node new ≡ ys
  pub left : Left n rest more

-- the words of the first node, and those behind it
first-words : (n : ℕ) (ts : List Token) (us more : List (List ℕ)) (x : Deep Block) (xs : List (Deep Block)) (g : Head us x xs) → Left n ts (us ++ more)
    → Left n ts (g.header ++ (g.rules ++ (replicate (closings x.depth (first_depth xs)) close_mark ++ (g.others ++ more))))
first-words n ts us more x xs g l =
    let ends : List (List ℕ) = replicate (closings x.depth (first_depth xs)) close_mark in
    let e : (g.header ++ (g.rules ++ (ends ++ g.others))) ++ more ≡ g.header ++ (g.rules ++ (ends ++ (g.others ++ more))) =
    append_assoc g.header (g.rules ++ (ends ++ g.others)) more
    ∙ ap (λ (ws : List (List ℕ)). g.header ++ ws) (append_assoc g.rules (ends ++ g.others) more
    ∙ ap (λ (ws : List (List ℕ)). g.rules ++ ws) (append_assoc ends g.others more)) in
    subst (Left n ts) (ap (λ (ws : List (List ℕ)). ws ++ more) g.words ∙ e) l

-- no words are the nodes behind the last one
none-flat : (us more : List (List ℕ)) → IsFlat us [] → us ++ more ≡ more
none-flat us more IsFlat.none = refl

-- what is asked of the nodes behind one that was read
fits-next : (final : List OperatorEntry) (m u : ℕ) (os : List OperatorEntry) (ns : List NodeEntry) (x z : Deep Block) (zs : List (Deep Block)) (y t : NodeEntry)
    (vs : List NodeEntry) (o : Opened) → Fits final m u os ns x (z ∷ zs) y (t ∷ vs) → bare_node o.node ≡ y
    → final ≡ all_added (uses (z ∷ zs)) (map bare_operator o.operators)
    → Fits final (m - 1) (z.depth - 1) o.operators (ns ++ o.node ∷ []) z zs t vs
fits-next final m u os ns x z zs y t vs o f same operators =
    let b = f.below in
    let i = of-first final z zs t vs f.others in
    let named : y.name ≡ o.node.name = sym (ap (λ (w : NodeEntry). w.name) same) in
    let n0 : Distinct (map (λ w. w.name) ns ++ (o.node.name ∷ map (λ w. w.name) (t ∷ vs))) =
    subst (λ (w : List ℕ). Distinct (map (λ w. w.name) ns ++ (w ∷ map (λ w. w.name) (t ∷ vs)))) named f.names in
    let n1 : Distinct ((map (λ w. w.name) ns ++ (o.node.name ∷ [])) ++ map (λ w. w.name) (t ∷ vs)) =
    subst Distinct (sym (append_assoc (map (λ w. w.name) ns) (o.node.name ∷ []) (map (λ w. w.name) (t ∷ vs)))) n0 in
    let rules : length (map bare_rule o.node.rules) ≡ length y.rules = ap (λ (w : NodeEntry). length w.rules) same in
    let k = f.few_rules in
    let some = f.few_nodes in
    record {
      depth = omega (arith, b.0);
      deep = omega (arith, b.0, b.2);
      below = b.3;
      first = i.0;
      others = i.1;
      operators = operators;
      few_operators = f.few_operators;
      few_nodes = omega arith;
      few_rules = omega (arith, rule_count-more ns o.node, bare-rules-length o.node.rules);
      names = subst (λ (ws : List (List ℕ)). Distinct (ws ++ map (λ w. w.name) (t ∷ vs))) (sym (names-more ns o.node)) n1;
      labels = (f.labels).1;
    }

-- one more node without its place
more-same : (x y : NodeEntry) (new ys : List NodeEntry) → bare_node x ≡ y → map bare_node new ≡ ys → map bare_node (x ∷ new) ≡ y ∷ ys
more-same x y new ys e f = rw (e, f) refl

-- NODES THAT ARE WRITTEN BY THEIR DEPTHS ARE READ AGAIN
pub nodes-again : (n m u : ℕ) (final os : List OperatorEntry) (ns : List NodeEntry) (ts : List Token) (ws more : List (List ℕ)) (x : Deep Block)
    (xs : List (Deep Block)) (y : NodeEntry) (ys : List NodeEntry) → Fits final m u os ns x xs y ys → IsFlat ws (x ∷ xs) → Left n ts (ws ++ more)
    → NodesAgain n (nodes_at m os ns u ts) final ns (y ∷ ys) more
nodes-again n m u final os ns ts ws more x [] y (z ∷ zs) f i l = absurd (omega (arith, of-length final [] (z ∷ zs) f.others))
nodes-again n m u final os ns ts ws more x (z ∷ zs) y [] f i l = absurd (omega (arith, of-length final (z ∷ zs) [] f.others))
nodes-again n m u final os ns ts ws more x [] y [] f i l =
    let g = head-of ws x [] i in
    let l0 = first-words n ts ws more x [] g l in
    let d = f.depth in
    let some = f.few_nodes in
    let a = node-again n m u final os ns ts x [] y [] g.header g.rules (replicate x.depth close_mark ++ (g.others ++ more)) f g.is_header g.are_rules
    (ends-closed x.depth (g.others ++ more) (omega arith)) l0 in
    let b = a.0 in
    let c = closed-again n x.depth 0 (suc u) b.rest (g.others ++ more) (omega arith) (λ h. absurd (omega arith)) b.left in
    record {
      operators = b.opened.operators;
      new = b.opened.node ∷ [];
      rest = c.0;
      gives = nodes_last m (m - 1) os ns u ts b.opened b.rest c.0 (omega arith) a.1 b.gives c.1;
      same_operators = sym b.others;
      same_nodes = more-same b.opened.node y [] [] b.same refl;
      left = subst (Left n c.0) (none-flat g.others more g.flat) c.2;
    }
nodes-again n m u final os ns ts ws more x (z ∷ zs) y (t ∷ vs) f i l =
    let g = head-of ws x (z ∷ zs) i in
    let l0 = first-words n ts ws more x (z ∷ zs) g l in
    let d = f.depth in
    let b = f.below in
    let some = f.few_nodes in
    let k : ℕ = closings x.depth z.depth in
    let starts : first (g.others ++ more) ≡ node_word = flat-first g.others more z zs g.flat in
    let ends : Ends (first (g.others ++ more)) = rw starts refl in
    let other : Other close_mark (g.others ++ more) = rw starts refl in
    let a = node-again n m u final os ns ts x (z ∷ zs) y (t ∷ vs) g.header g.rules (replicate k close_mark ++ (g.others ++ more)) f g.is_header g.are_rules
    (ends-closing k (g.others ++ more) ends) l0 in
    let o = a.0 in
    let open_nodes : suc u ≡ k + (z.depth - 1) = omega (arith, closings-open x.depth z.depth b.0 b.1) in
    let c = closed-again n k (z.depth - 1) (suc u) o.rest (g.others ++ more) open_nodes (λ h. other) o.left in
    let q = nodes-again n (m - 1) (z.depth - 1) final o.opened.operators (ns ++ o.opened.node ∷ []) c.0 g.others more z zs t vs
    (fits-next final m u os ns x z zs y t vs o.opened f o.same o.others) g.flat c.2 in
    record {
      operators = q.operators;
      new = o.opened.node ∷ q.new;
      rest = q.rest;
      gives = nodes_step m (m - 1) os ns u (z.depth - 1) ts o.opened o.rest c.0 (omega arith) a.1 o.gives c.1
          (ne_eqb (z.depth - 1) 0 (omega (arith, b.0))) ∙ q.gives
          ∙ ap (λ (p : List NodeEntry). Ok (record { operators = q.operators; nodes = p }, q.rest)) (append_assoc ns (o.opened.node ∷ []) q.new);
      same_operators = q.same_operators;
      same_nodes = more-same o.opened.node y q.new (t ∷ vs) o.same q.same_nodes;
      left = q.left;
    }
