-- What is promised of texts.
use Rattle.std.proofs.Common.{◌≡◌, ℕ, ◌<◌, List, inl, inr, Result, Ok, Err, length, map, [], ◌∷◌, ◌++◌, refl, sym, ap, subst, ◌∙◌, arith}
use Rattle.std.proofs.lemmas.List.{map-append, length-map}
use Rattle.row.specs.Row.{row_words}
use Rattle.refusal.specs.Refusals.{law_broken, refusal_number}
use Rattle.refusal.specs.declared.Refusal.{Refusal}
use Rattle.policy.specs.Read as policy
use Rattle.policy.proofs.Refused.{refused-law}
use Rattle.depths.specs.Depths.{child_counts}
use Rattle.tokens.proofs.Counting.{place-lies}
use Rattle.tokens.specs.Tokens.{tokens_of}
use Rattle.tokens.proofs.Spans.{words-nonempty}
use Rattle.notation.specs.declared.fault.Fault.{Fault}
use Rattle.notation.specs.Policy.{OperatorEntry, RuleEntry, NodeEntry, Entries}
use Rattle.notation.specs.Right.{RightEntries, bare, bare_operator, bare_rule, bare_node}
use Rattle.notation.specs.Meaning.{IsText}
use Rattle.notation.proofs.ReadLaws.{read-right}
use Rattle.notation.proofs.ReadSound.{read-sound}
use Rattle.notation.proofs.Complete.{read-complete, text-one}
use Rattle.notation.proofs.FaultPlaces.{fault-within}
use Rattle.values.proofs.NumberLaw.{number-exactly}
use Rattle.values.proofs.PrefixLaw.{prefix-exactly, host-bits-exactly}
use Rattle.values.proofs.WordLaws.{unit-exactly, protocol-exactly, code-exactly}
use Rattle.values.proofs.Bytes.{name-not-own}
use Rattle.faults.proofs.Found.{word-found}
use Rattle.canon.specs.Text.{canonical}
use Rattle.canon.specs.Pieces.{canonical_words}
use Rattle.canon.proofs.LaidNodes.{canonical-cut}
use Rattle.translate.specs.Words.{all_rules, node_records, words_of}
use Rattle.translate.specs.Names.{policy_of}
use Rattle.translate.proofs.FromFile.{from-right, words-same}
use Rattle.translate.proofs.OnlyLawsBreak.{only-laws}
use Rattle.notation_promises.specs.Texts.{Same, Accepted, ReadRight, Printed, PrintedOnce, Kept, OnlyLaws, FaultPlace, TextsPromised}
use Rattle.notation_promises.proofs.Printed.{canonical-policy}
use Rattle.notation_promises.proofs.Places.{places-stand}

-- a policy is one value
abbrev done : {X : Type 0} → X → Result X Fault
done x = Ok x

ok_is : {X : Type 0} (x y : X) → done x ≡ done y → x ≡ y
ok_is x y e = cc

-- the texts that are read are those of the grammar
accepted : Accepted
accepted text p = (
  (λ i. subst (IsText text) i.2 (read-sound text i.0 i.1)),
  (λ t. read-complete text p t),
)

right : ReadRight
right text p e = read-right (length text) (tokens_of text) p (words-nonempty text) e

-- a canonical text is its policy
canonical-text : (p : Entries) → RightEntries p → IsText (canonical p) (bare p)
canonical-text p r = record { words = canonical_words p; cut = canonical-cut p r; policy = canonical-policy p r }

printed : Printed
printed p r = read-complete (canonical p) (bare p) (canonical-text p r)

printed-once : PrintedOnce
printed-once p q r s e =
    text-one (canonical q) (bare p) (bare q) (subst (λ t. IsText t (bare p)) e (canonical-text p r)) (canonical-text q s)

-- a fault's place
place : FaultPlace
place text f e = (fault-within text f e, place-lies text f.at (fault-within text f e))

-- ---- places don't count in a policy's words

cells-bare : (os : List OperatorEntry) → map (λ o. o.cells) (map bare_operator os) ≡ map (λ o. o.cells) os
cells-bare [] = refl
cells-bare (o ∷ os) = ap (λ (cs : List (List ℕ)). o.cells ∷ cs) (cells-bare os)

rows-bare : (rs : List RuleEntry) (ss : List RuleEntry)
    → map (λ r. row_words r.row) (map bare_rule rs ++ ss) ≡ map (λ r. row_words r.row) (rs ++ ss)
rows-bare [] ss = refl
rows-bare (r ∷ rs) ss = ap (λ (ws : List (List ℕ)). row_words r.row ∷ ws) (rows-bare rs ss)

rules-bare : (ns : List NodeEntry) → map (λ r. row_words r.row) (all_rules (map bare_node ns)) ≡ map (λ r. row_words r.row) (all_rules ns)
rules-bare [] = refl
rules-bare (n ∷ ns) =
    rows-bare n.rules (all_rules (map bare_node ns))
    ∙ map-append (λ r. row_words r.row) n.rules (all_rules (map bare_node ns))
    ∙ ap (λ (ws : List (List ℕ)). map (λ r. row_words r.row) n.rules ++ ws) (rules-bare ns)
    ∙ sym (map-append (λ r. row_words r.row) n.rules (all_rules ns))

depths-bare : (ns : List NodeEntry) → map (λ n. n.depth) (map bare_node ns) ≡ map (λ n. n.depth) ns
depths-bare [] = refl
depths-bare (n ∷ ns) = ap (λ (ds : List ℕ). n.depth ∷ ds) (depths-bare ns)

records-bare : (ns : List NodeEntry) (ks : List ℕ) → node_records (map bare_node ns) ks ≡ node_records ns ks
records-bare [] ks = refl
records-bare (n ∷ ns) [] = refl
records-bare (n ∷ ns) (k ∷ ks) = rw (records-bare ns ks, length-map n.rules bare_rule) refl

words-bare : (p : Entries) → words_of (bare p) ≡ words_of p
words-bare p = rw (cells-bare p.operators, rules-bare p.nodes, depths-bare p.nodes, records-bare p.nodes (child_counts (map (λ n. n.depth) p.nodes))) refl

words-alike : (p q : Entries) → Same p q → words_of p ≡ words_of q
words-alike p q e = sym (words-bare p) ∙ ap words_of e ∙ words-bare q

-- a file through text and back
kept : Kept
kept f l e =
    let p = printed (policy_of f l) (from-right f l e) in
    (p.0, p.1, words-alike p.0 (policy_of f l) p.2 ∙ words-same f l e)

-- a broken law is that of an operator of the text
law-operator : (p : Entries) (r : Refusal) → policy.read_of (words_of p) ≡ Err r → refusal_number r ≡ law_broken → r.place < length p.operators
law-operator p r g n =
    let b = refused-law (words_of p) r g n in
    omega (arith, b.within, b.otherwise.operators.count, length-map p.operators (λ o. o.cells))

only : OnlyLaws
only text p e =
    elim (only-laws p (right text p e)) [
      | inl a ↦ inl a
      | inr b ↦ inr (record { refusal = b.0; given = b.1; law = b.2; operator = law-operator p b.0 b.1 b.2 })
    ]

-- ALL THAT IS PROMISED OF TEXTS
pub texts-promised : TextsPromised
texts-promised = record {
  accepted = accepted;
  one_policy = text-one;
  read_right = right;
  printed = printed;
  printed_once = printed-once;
  kept = kept;
  only_laws = only;
  fault_place = place;
  places = places-stand;
  word_found = word-found;
  words_exactly = record {
    numbers = number-exactly;
    prefixes = prefix-exactly;
    host_bits = host-bits-exactly;
    units = unit-exactly;
    protocols = protocol-exactly;
    codes = code-exactly;
    names = name-not-own;
  };
}
