-- The text of a policy is made of its words.
use Rattle.std.proofs.Common.{ℕ, zero, suc, ◌-◌, ◌*◌, ◌<◌, ◌≡◌, true, false, List, [], ◌∷◌, ◌++◌, length, refl, sym, ap, subst, ◌∙◌, append_assoc, append-nil, arith}
use Rattle.std.specs.Prelude.{◌&&◌, ◌==◌, codes, replicate, bytes_eq, if◌then◌else◌}
use Rattle.logic.specs.Lists.{All}
use Rattle.logic.proofs.Lists.{all-at}
use Rattle.tokens.specs.Cut.{Cut}
use Rattle.values.specs.Words.{is_name}
use Rattle.depths.specs.Depths.{closings}
use Rattle.notation.specs.Policy.{OperatorEntry, NodeEntry, Entries}
use Rattle.notation.specs.Words.{node_word, inside_word, between_word, below_word, sibling_word, parent_word, open_mark, close_mark}
use Rattle.notation.specs.Right.{RightOperator, RightNode, RightEntries}
use Rattle.canon.specs.Text.{line_end, behind_word, name_at, clause_text, node_text, rules_text, ends_text, between_nodes, nodes_text, canonical}
use Rattle.canon.specs.Pieces.{rules_words, clause_words, header_words, nodes_words, canonical_words}
use Rattle.canon.proofs.Laid.{Loose, Parts, Word, all-word, blank, mark, word, loose-loose, tight-loose, opens-parts, spaces-loose, line_end-loose, spaced, whole}
use Rattle.canon.proofs.Bytes.{name-word}
use Rattle.canon.proofs.LaidOperators.{operators-loose}
use Rattle.canon.proofs.LaidRules.{Part, no-part, two, rules-loose}

-- ---- nodes

-- the name of an operator
pub name-there : (os : List OperatorEntry) (i : ℕ) → All RightOperator os → i < length os → is_name (name_at os i) ≡ true
name-there os i r h = (all-at RightOperator (record { name = []; at = 0; cells = [] }) os i r h).name

-- an operator that a node names
clause-part : (w other : List ℕ) (os : List OperatorEntry) (i : ℕ) → Word w → Word (name_at os i) → Part (clause_text w other os i) (clause_words w other os i)
unfolding clause_text
clause-part w other os i h k =
    elim (bytes_eq (name_at os i) other) as (λ d. Part (if d then [] else behind_word w (name_at os i)) (if d then [] else w ∷ name_at os i ∷ [])) [
      | true ↦ no-part
      | false ↦ two w (name_at os i) h k
    ]

-- the words before operators
inside-is : Word inside_word
inside-is = (omega arith, all-word inside_word refl)

-- the second
between-is : Word between_word
between-is = (omega arith, all-word between_word refl)

-- the third
below-is : Word below_word
below-is = (omega arith, all-word below_word refl)

-- words in other brackets
in-brackets : (a b c d r : List (List ℕ)) → a ++ (b ++ (c ++ (d ++ r))) ≡ (a ++ (b ++ (c ++ d))) ++ r
in-brackets a b c d r = simp append_assoc

-- a node's line and its rules
node-loose : (os : List OperatorEntry) (n : NodeEntry) → All RightOperator os → RightNode (length os) n
    → Loose (node_text os n) (header_words os n ++ rules_words n.rules)
unfolding node_text
node-loose os n ro rn =
    let i = clause-part inside_word sibling_word os n.inner inside-is (name-word _ (name-there os n.inner ro rn.inner)) in
    let s = clause-part between_word sibling_word os n.sibling between-is (name-word _ (name-there os n.sibling ro rn.sibling)) in
    let p = clause-part below_word parent_word os n.parent below-is (name-word _ (name-there os n.parent ro rn.parent)) in
    let open-parts : Parts (codes " {\n" ++ rules_text n.depth n.rules) = record { breaks = λ rest. refl } in
    let last = tight-loose p.tight open-parts (loose-loose open-loose (rules-loose n.depth n.rules rn.rules)) in
    let last-parts = opens-parts p.opens open-parts in
    let between = tight-loose s.tight last-parts last in
    let between-parts = opens-parts s.opens last-parts in
    let inside = tight-loose i.tight between-parts between in
    let all = loose-loose (spaces-loose (4 * (n.depth - 1))) (loose-loose (spaced node_word 0 (omega arith, all-word node_word refl))
    (tight-loose (word n.name (name-word n.name rn.name)) (opens-parts i.opens between-parts) inside)) in
    subst (λ (ws : List (List ℕ)). Loose (node_text os n) (node_word ∷ n.name ∷ ws))
    (in-brackets (clause_words inside_word sibling_word os n.inner) (clause_words between_word sibling_word os n.sibling)
    (clause_words below_word parent_word os n.parent) (open_mark ∷ []) (rules_words n.rules)) all
  where
    open-loose : Loose (codes " {\n") (open_mark ∷ [])
    open-loose = record { laid = λ rest us c. blank 32 refl (mark 123 refl (blank 10 refl c)) }

-- the lines of closing braces
ends-loose : (k d : ℕ) → Loose (ends_text k d) (replicate k close_mark)
ends-loose zero d = record { laid = λ rest us c. c }
ends-loose (suc k) d = loose-loose (spaces-loose (4 * (d - 1))) (loose-loose close-loose (ends-loose k (d - 1)))
  where
    close-loose : Loose (codes "}\n") (close_mark ∷ [])
    close-loose = record { laid = λ rest us c. mark 125 refl (blank 10 refl c) }

-- the empty line between two nodes, if there is one
between-loose : (n m : NodeEntry) → Loose (between_nodes n m) []
between-loose n m =
    elim (suc n.depth == m.depth && length n.rules == 0) as (λ d. Loose (if d then [] else line_end) []) [
      | true ↦ record { laid = λ rest us c. c }
      | false ↦ line_end-loose
    ]

-- nodes one behind the other
nodes-loose : (os : List OperatorEntry) (ns : List NodeEntry) → All RightOperator os → All (RightNode (length os)) ns
    → Loose (nodes_text os ns) (nodes_words os ns)
nodes-loose os [] ro rn = record { laid = λ rest us c. c }
nodes-loose os (n ∷ []) ro rn =
    let ends : List (List ℕ) = replicate (closings n.depth 0) close_mark in
    let e : (header_words os n ++ rules_words n.rules) ++ ends ≡ header_words os n ++ (rules_words n.rules ++ (ends ++ [])) =
    append_assoc (header_words os n) (rules_words n.rules) ends
    ∙ ap (λ (x : List (List ℕ)). header_words os n ++ (rules_words n.rules ++ x)) (sym (append-nil ends)) in
    subst (Loose (nodes_text os (n ∷ []))) e (loose-loose (node-loose os n ro rn.0) (ends-loose (closings n.depth 0) n.depth))
nodes-loose os (n ∷ m ∷ ns) ro rn =
    let ends : List (List ℕ) = replicate (closings n.depth m.depth) close_mark in
    subst (Loose (nodes_text os (n ∷ m ∷ ns))) (append_assoc (header_words os n) (rules_words n.rules) (ends ++ nodes_words os (m ∷ ns)))
    (loose-loose (node-loose os n ro rn.0) (loose-loose (ends-loose (closings n.depth m.depth) n.depth)
    (loose-loose (between-loose n m) (nodes-loose os (m ∷ ns) ro rn.1))))

-- THE TEXT OF A POLICY IS MADE OF ITS WORDS
pub canonical-cut : (p : Entries) → RightEntries p → Cut (canonical p) (canonical_words p)
canonical-cut p r = whole (loose-loose (operators-loose p.operators r.operators) (nodes-loose p.operators p.nodes r.operators r.nodes))
