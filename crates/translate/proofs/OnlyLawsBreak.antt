-- The file of a right policy is accepted, or refused for a broken law: it is well formed but for the laws. Assumes nothing.
use Rattle.std.proofs.Common.{ℕ, suc, ◌+◌, ◌*◌, arith, ◌≡◌, refl, sym, ap, ap₂, ◌∙◌, subst}
use Rattle.std.proofs.Common.{List, [], ◌∷◌, ◌++◌, length, get_or, length-append, Ok, Err, ◌⊎◌, inl, inr}
use Rattle.std.proofs.lemmas.List.{get_or-append-add}
use Rattle.refusal.specs.Refusals.{law_broken, refusal_number}
use Rattle.refusal.specs.declared.Refusal.{Refusal}
use Rattle.policy.specs.Numbers.{latest, operator_length, atom_length, node_length}
use Rattle.policy.specs.Read.{Reading, atoms_at, nodes_at, end_of, operator_records, atom_records, node_records, layout, read_of}
use Rattle.policy.specs.Meaning.{LawsKept}
use Rattle.policy.specs.WellFormed.{Otherwise, WellFormed}
use Rattle.policy.specs.Parts.{Parts, record_words, section_words, file_words_in, parts_in, layout_of_parts, EachLong, RightPartsIn, LawfulPartsIn}
use Rattle.policy.specs.declared.Layout.{Layout}
use Rattle.policy.proofs.Accepted.{accepted-exactly}
use Rattle.policy.proofs.Refused.{broken-refused}
use Rattle.policy.proofs.Parts.{parts-read, parts-accepted}
use Rattle.translate.specs.Words.{parts_of, words_of}
use Rattle.translate.specs.Theorems.{OnlyLaws}
use Rattle.translate.proofs.PartsRight.{parts-right}

-- how many words records have
words-long : (k : ℕ) (rs : List (List ℕ)) → EachLong k rs → length (record_words rs) ≡ k * length rs
words-long k [] e = omega arith
words-long k (r ∷ rs) e =
    let g : k * suc (length rs) ≡ k + k * length rs = omega arith in
    length-append r (record_words rs) ∙ omega (arith, e.0, words-long k rs e.1)

-- a word behind a count and the words W
past : (x : ℕ) (W L : List ℕ) (n k : ℕ) → n ≡ suc (length W + k) → get_or (x ∷ (W ++ L)) n 0 ≡ get_or L k 0
past x W L n k e = ap (λ m. get_or (x ∷ (W ++ L)) m 0) e ∙ get_or-append-add W L k 0

-- right parts make a file that is well formed but for the laws
module _ (P : Parts) (r : RightPartsIn latest P) where
  abbrev a : ℕ
  a = length P.operators

  abbrev b : ℕ
  b = length P.atoms

  abbrev c : ℕ
  c = length P.nodes

  abbrev f : List ℕ
  f = file_words_in latest P

  abbrev third : List ℕ
  third = section_words P.nodes []

  abbrev second : List ℕ
  second = section_words P.atoms third

  operators-long : length (record_words P.operators) ≡ operator_length * a
  operators-long = words-long operator_length P.operators r.operators_long

  atoms-long : length (record_words P.atoms) ≡ atom_length * b
  atoms-long = words-long atom_length P.atoms r.atoms_long

  -- how long it is
  file-long : length f ≡ end_of a b c
  file-long =
      omega (
        arith,
        operators-long,
        atoms-long,
        words-long node_length P.nodes r.nodes_long,
        length-append (record_words P.operators) second,
        length-append (record_words P.atoms) third,
        length-append (record_words P.nodes) [],
      )

  -- the counts
  atoms-count : get_or f (atoms_at a) 0 ≡ b
  atoms-count = past a (record_words P.operators) second (atoms_at a) 0 (omega (arith, operators-long))

  nodes-count : get_or f (nodes_at a b) 0 ≡ c
  nodes-count =
      past a (record_words P.operators) second (nodes_at a b) (suc (atom_length * b)) (omega (arith, operators-long))
      ∙ past b (record_words P.atoms) third (suc (atom_length * b)) 0 (omega (arith, atoms-long))

  pub whole-but-laws : Otherwise f a b c
  whole-but-laws =
      let read : parts_in latest f (layout a b c) ≡ P = parts-read latest P r in
      let ro : operator_records f a ≡ P.operators = ap (λ (Q : Parts). Q.operators) read in
      let ra : atom_records f a b ≡ P.atoms = ap (λ (Q : Parts). Q.atoms) read in
      let rn : node_records f a b c ≡ P.nodes = ap (λ (Q : Parts). Q.nodes) read in
      let long : length f ≡ end_of a b c = file-long in
      record {
        header = refl;
        operators = record { there = omega arith; count = refl; least = r.some_operators; most = r.few_operators; whole = omega arith };
        atoms = record { there = omega arith; count = atoms-count; least = omega arith; most = r.few_atoms; whole = omega arith };
        nodes = record { there = omega arith; count = nodes-count; least = r.some_nodes; most = r.few_nodes; whole = omega arith };
        cells = λ i j h l. rw ro (r.cells i j h l);
        matches = λ i h. rw ra (r.matches i h);
        actions = λ i h. rw ra (r.actions i h);
        right_nodes = λ i h. rw rn (r.right_nodes i h);
        ends = long;
        one_tree = rw (ro, ra, rn) r.one_tree;
        all_taken = rw rn r.all_taken;
      }

-- a file has one layout
one-layout : (f : List ℕ) (a b c a' b' c' : ℕ) → Otherwise f a b c → Otherwise f a' b' c' → layout a b c ≡ layout a' b' c'
one-layout f a b c a' b' c' o o' =
    let p : a ≡ a' = sym o.operators.count ∙ o'.operators.count in
    let q : b ≡ b' = sym o.atoms.count ∙ ap (λ n. get_or f (atoms_at n) 0) p ∙ o'.atoms.count in
    let s : c ≡ c' = sym o.nodes.count ∙ ap₂ (λ n m. get_or f (nodes_at n m) 0) p q ∙ o'.nodes.count in
    rw (p, q, s) refl

-- right parts are accepted, or refused for a broken law
parts-or-law : (P : Parts) → RightPartsIn latest P → (x : Reading) → read_of (file_words_in latest P) ≡ x
    → (read_of (file_words_in latest P) ≡ Ok (layout_of_parts P))
    ⊎ ((r : Refusal) × (read_of (file_words_in latest P) ≡ Err r) × (refusal_number r ≡ law_broken))
parts-or-law P r (Ok l) e =
    let f : List ℕ = file_words_in latest P in
    let w : WellFormed f l = (accepted-exactly f l).0 e in
    inl (e ∙ ap (λ (l : Layout). Ok l)
    (one-layout f l.operators l.atoms l.nodes (length P.operators) (length P.atoms) (length P.nodes) w.otherwise (whole-but-laws P r)))
parts-or-law P r (Err y) e =
    inr (broken-refused f a b c (whole-but-laws P r) (λ laws. refused (kept laws)))
  where
    f : List ℕ
    f = file_words_in latest P

    a : ℕ
    a = length P.operators

    b : ℕ
    b = length P.atoms

    c : ℕ
    c = length P.nodes

    kept : LawsKept (operator_records f a) (node_records f a b c) → LawfulPartsIn latest P
    kept laws = subst (λ (Q : Parts). LawfulPartsIn latest Q) (parts-read latest P r) laws

    refused : LawfulPartsIn latest P → ⊥
    refused laws = let g : read_of f ≡ Ok (layout_of_parts P) = parts-accepted latest P r laws in cc

-- THE FILE OF A RIGHT POLICY IS ACCEPTED, or refused for a broken law
pub only-laws : OnlyLaws
only-laws p r = parts-or-law (parts_of p) (parts-right p r) (read_of (words_of p)) refl
