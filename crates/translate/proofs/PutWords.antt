-- One step of each loop that puts words, and what a section is once its last record is put. Assumes nothing.
use Rattle.std.proofs.Common.{ℕ, suc, ◌+◌, ◌≤◌, ◌<◌, arith, ◌≡◌, refl, sym, ap, ap₂}
use Rattle.std.proofs.Common.{◌∙◌, List, [], ◌∷◌, ◌++◌, map, length, get_or, drop, drop-cons, append_assoc, append-nil}
use Rattle.logic.specs.Lists.{All}
use Rattle.policy.specs.Numbers.{most_operators, most_atoms}
use Rattle.policy.specs.Parts.{record_words, section_words}
use Rattle.notation.specs.Policy.{RuleEntry, NodeEntry}
use Rattle.notation.specs.Nodes.{rule_count}
use Rattle.notation.specs.Right.{RightNode}
use Rattle.translate.specs.Words.{FitsWords, rule_words}

-- the members from a place on: the one there, and those behind it
pub dropped : {X : Type 0} (xs : List X) (i : ℕ) (x : X) → i < length xs → x ≡ get_or xs i x → drop i xs ≡ x ∷ drop (i + 1) xs
dropped xs i x h e =
    let s : suc i ≡ i + 1 = omega arith in
    drop-cons xs i x h ∙ ap₂ (λ y n. y ∷ drop n xs) (sym e) s

-- the words of one more record are put
pub put-step : (ws new x rest all : List ℕ) → ws ++ (x ++ rest) ≡ all → new ≡ ws ++ x → new ++ rest ≡ all
put-step ws new x rest all e p = ap (λ l. l ++ rest) p ∙ append_assoc ws x rest ∙ e

-- the last one was: a section stands behind what was there
pub put-all : (ws new old : List ℕ) (n : ℕ) (rs : List (List ℕ)) → ws ++ [] ≡ new ++ record_words rs → new ≡ old ++ n ∷ [] → n ≡ length rs
    → ws ≡ old ++ section_words rs []
put-all ws new old n rs e p q =
    sym (append-nil ws) ∙ e ∙ ap (λ l. l ++ record_words rs) p ∙ append_assoc old (n ∷ []) (record_words rs)
    ∙ ap₂ (λ (m : ℕ) (l : List ℕ). old ++ m ∷ l) q (sym (append-nil (record_words rs)))

-- the words of rules behind others
pub rules-apart : (rs ss : List RuleEntry) → record_words (map rule_words (rs ++ ss)) ≡ record_words (map rule_words rs) ++ record_words (map rule_words ss)
rules-apart [] ss = refl
rules-apart (r ∷ rs) ss =
    ap (λ l. rule_words r ++ l) (rules-apart rs ss) ∙ sym (append_assoc (rule_words r) (record_words (map rule_words rs)) (record_words (map rule_words ss)))

-- the numbers of right nodes are words
pub nodes-fit : (a : ℕ) (ns : List NodeEntry) → a ≤ most_operators → rule_count ns ≤ most_atoms → All (RightNode a) ns → All FitsWords ns
nodes-fit a [] h m r = tt
nodes-fit a (n ∷ ns) h m r = (
  record { inner = omega (arith, r.0.inner); parent = omega (arith, r.0.parent); sibling = omega (arith, r.0.sibling); rules = omega arith },
  nodes-fit a ns h (omega arith) r.1,
)
