-- A file of an edition and its parts, each made from the other: section by section, what stands behind a section's records is dropped with them. Assumes
-- nothing.
use Rattle.std.proofs.Common.{ℕ, zero, suc, ◌+◌, ◌*◌, ◌≤◌, arith, ◌≡◌, refl, sym, ap, ap₂, subst, ◌∙◌, List, [], ◌∷◌, ◌++◌, append_assoc, get_or, length, take}
use Rattle.std.proofs.Common.{drop, length-append, length-drop, take-append-drop, drop_of_length-le, drop-cons, drop-drop, take_at, drop_at, length-take-le}
use Rattle.words.specs.Records.{records}
use Rattle.words.proofs.RecordLaws.{length-records}
use Rattle.policy.specs.Numbers.{header_length_in, header_of, operator_length_in, atom_length_in, node_length, most_operators, most_atoms, most_nodes}
use Rattle.policy.specs.Read.{atoms_at_in, nodes_at_in, end_in, operators_in, atoms_in, nodes_in, layout}
use Rattle.policy.specs.Due.{Present, RightHeader}
use Rattle.policy.specs.WellFormed.{OtherwiseIn, WellFormedIn}
use Rattle.policy.specs.Parts.{Parts, record_words, section_words, file_words_in, parts_in, layout_of_parts, EachLong, RightPartsIn, LawfulPartsIn}
use Rattle.policy.specs.Theorems.{PartsAccepted, AcceptedParts, PartsWhole, PartsRead, PartsSame}
use Rattle.policy.specs.declared.Edition.{Edition}
use Rattle.policy.specs.declared.Edition.TheVariants.{First}
use Rattle.policy.proofs.Accepted.{accepted-as}

-- records that are there have their length, and their words are what they were taken from
each_long : (n k : ℕ) (ws : List ℕ) → k * n ≤ length ws → EachLong k (records n k ws)
each_long zero k ws h = tt
each_long (suc n) k ws h =
    let g : k * suc n ≡ k + k * n = omega arith in
    (length-take-le k ws (omega arith), each_long n k (drop k ws) (rw length-drop (omega arith)))

words-records : (n k : ℕ) (ws : List ℕ) → k * n ≤ length ws → record_words (records n k ws) ++ drop (k * n) ws ≡ ws
words-records zero k ws h = let g : k * 0 ≡ 0 = omega arith in rw g
words-records (suc n) k ws h =
    let g : k * suc n ≡ k + k * n = omega arith in
    let r : drop (k * suc n) ws ≡ drop (k * n) (drop k ws) = ap (λ m. drop m ws) g ∙ sym (drop-drop (k * n) k ws) in
    append_assoc (take k ws) (record_words (records n k (drop k ws))) (drop (k * suc n) ws)
    ∙ ap (λ l. take k ws ++ (record_words (records n k (drop k ws)) ++ l)) r
    ∙ ap (λ l. take k ws ++ l) (words-records n k (drop k ws) (rw length-drop (omega arith)))
    ∙ take-append-drop k ws

-- and the other way round
long-words : (k : ℕ) (rs : List (List ℕ)) → EachLong k rs → length (record_words rs) ≡ k * length rs
long-words k [] e = omega arith
long-words k (r ∷ rs) e =
    let g : k * suc (length rs) ≡ k + k * length rs = omega arith in
    length-append r (record_words rs) ∙ omega (arith, e.0, long-words k rs e.1)

records-words : (k : ℕ) (rs : List (List ℕ)) (rest : List ℕ) → EachLong k rs → records (length rs) k (record_words rs ++ rest) ≡ rs
records-words k [] rest e = refl
records-words k (r ∷ rs) rest e =
    let s : (r ++ record_words rs) ++ rest ≡ r ++ (record_words rs ++ rest) = append_assoc r (record_words rs) rest in
    ap (λ l. take k l ∷ records (length rs) k (drop k l)) s
    ∙ ap₂ (λ x y. x ∷ records (length rs) k y) (take_at r (record_words rs ++ rest) k e.0) (drop_at r (record_words rs ++ rest) k e.0)
    ∙ ap (λ l. r ∷ l) (records-words k rs rest e.1)

-- a section that stands at a place of a file: its count, its records, and what is behind
section-whole : (f : List ℕ) (at low high k n : ℕ) → Present f at low high k n → (rest : List ℕ) → rest ≡ drop (at + 1 + k * n) f
    → section_words (records n k (drop (at + 1) f)) rest ≡ drop at f
section-whole f at low high k n p rest g =
    let s : at + 1 ≡ suc at = omega arith in
    let rs : List (List ℕ) = records n k (drop (at + 1) f) in
    let d : rest ≡ drop (k * n) (drop (at + 1) f) = g ∙ sym (drop-drop (k * n) (at + 1) f) in
    ap₂ (λ (m : ℕ) (l : List ℕ). m ∷ (record_words rs ++ l)) (length-records n k (drop (at + 1) f)) d
    ∙ ap (λ l. n ∷ l) (words-records n k (drop (at + 1) f) (rw length-drop (omega (arith, p.whole))))
    ∙ ap₂ (λ (x : ℕ) (y : List ℕ). x ∷ y) (sym p.count) (ap (λ m. drop m f) s)
    ∙ sym (drop-cons f at 0 p.there)

-- A FILE WELL FORMED BUT FOR THE LAWS IS WHAT ITS PARTS MAKE, and these are right
pub parts_whole : PartsWhole
parts_whole e f a b c o =
    let last : [] ≡ drop (end_in e a b c) f = sym (drop_of_length-le f {i = end_in e a b c} (omega (arith, o.ends))) in
    let third : section_words (nodes_in e f a b c) [] ≡ drop (nodes_at_in e a b) f =
    section-whole f (nodes_at_in e a b) 1 most_nodes node_length c o.nodes [] last in
    let second : section_words (atoms_in e f a b) (section_words (nodes_in e f a b c) []) ≡ drop (atoms_at_in e a) f =
    section-whole f (atoms_at_in e a) 0 most_atoms (atom_length_in e) b o.atoms _ third in
    ap₂ (λ x y. x ++ y) (sym o.header) (section-whole f (header_length_in e) 1 most_operators (operator_length_in e) a o.operators _ second)
    ∙ take-append-drop (header_length_in e) f

parts-right : (e : Edition) (f : List ℕ) (a b c : ℕ) → OtherwiseIn e f a b c → RightPartsIn e (parts_in e f (layout a b c))
parts-right e f a b c o =
    let la : length (operators_in e f a) ≡ a = length-records a (operator_length_in e) (drop (header_length_in e + 1) f) in
    let lb : length (atoms_in e f a b) ≡ b = length-records b (atom_length_in e) (drop (atoms_at_in e a + 1) f) in
    let lc : length (nodes_in e f a b c) ≡ c = length-records c node_length (drop (nodes_at_in e a b + 1) f) in
    record {
      operators_long = each_long a (operator_length_in e) (drop (header_length_in e + 1) f) (rw length-drop (omega (arith, o.operators.whole)));
      atoms_long = each_long b (atom_length_in e) (drop (atoms_at_in e a + 1) f) (rw length-drop (omega (arith, o.atoms.whole)));
      nodes_long = each_long c node_length (drop (nodes_at_in e a b + 1) f) (rw length-drop (omega (arith, o.nodes.whole)));
      some_operators = omega (arith, o.operators.least);
      few_operators = omega (arith, o.operators.most);
      few_atoms = omega (arith, o.atoms.most);
      some_nodes = omega (arith, o.nodes.least);
      few_nodes = omega (arith, o.nodes.most);
      cells = λ i j h l. o.cells i j (omega arith) l;
      matches = λ i h. o.matches i (omega arith);
      actions = λ i h. o.actions i (omega arith);
      right_nodes = λ i h. rw la (o.right_nodes i (omega arith));
      one_tree = o.one_tree;
      all_taken = o.all_taken ∙ sym lb;
    }

header-many : (e : Edition) → length (header_of e) ≡ header_length_in e
header-many First = refl

first_of : (l : List ℕ) (n x : ℕ) (xs : List ℕ) → drop n l ≡ x ∷ xs → get_or l n 0 ≡ x
first_of l zero x xs e = ap (λ m. get_or m 0 0) e
first_of [] (suc n) x xs e = ap (λ m. get_or m 0 0) e
first_of (y ∷ l) (suc n) x xs e = first_of l n x xs e

-- a section that stands at a place, read
record Standing (f : List ℕ) (at k : ℕ) (rs : List (List ℕ)) (rest : List ℕ) : Type 0 where
  count : get_or f at 0 ≡ length rs
  read : records (length rs) k (drop (at + 1) f) ≡ rs
  after : drop (at + 1 + k * length rs) f ≡ rest

standing : (f : List ℕ) (at k : ℕ) (rs : List (List ℕ)) (rest : List ℕ) → EachLong k rs → drop at f ≡ section_words rs rest → Standing f at k rs rest
standing f at k rs rest long e =
    let d : drop (at + 1) f ≡ record_words rs ++ rest = sym (drop-drop 1 at f) ∙ ap (drop 1) e in
    record {
      count = first_of f at (length rs) (record_words rs ++ rest) e;
      read = ap (records (length rs) k) d ∙ records-words k rs rest long;
      after = sym (drop-drop (k * length rs) (at + 1) f) ∙ ap (drop (k * length rs)) d ∙ drop_at (record_words rs) rest (k * length rs) (long-words k rs long);
    }

-- parts by their three lists
abbrev the_parts : List (List ℕ) → List (List ℕ) → List (List ℕ) → Parts
the_parts o a n = record { operators = o; atoms = a; nodes = n }

-- two sections of the same words have the same records, and the same behind them
section-same : (k : ℕ) (rs ss : List (List ℕ)) (rest more : List ℕ) → EachLong k rs → EachLong k ss → section_words rs rest ≡ section_words ss more
    → (rs ≡ ss) × (rest ≡ more)
section-same k rs ss rest more p q e =
    let f : List ℕ = section_words rs rest in
    let x : Standing f 0 k rs rest = standing f 0 k rs rest p refl in
    let y : Standing f 0 k ss more = standing f 0 k ss more q e in
    let many : length rs ≡ length ss = sym x.count ∙ y.count in
    (sym x.read ∙ ap (λ n. records n k (drop 1 f)) many ∙ y.read, sym x.after ∙ ap (λ n. drop (0 + 1 + k * n) f) many ∙ y.after)

-- PARTS OF THE RIGHT LENGTHS THAT MAKE ONE FILE ARE THE SAME
pub parts-same : PartsSame
parts-same e P Q p q g =
    let x : List ℕ = section_words P.operators (section_words P.atoms (section_words P.nodes [])) in
    let y : List ℕ = section_words Q.operators (section_words Q.atoms (section_words Q.nodes [])) in
    let bare : x ≡ y =
    sym (drop_at (header_of e) x (header_length_in e) (header-many e))
    ∙ ap (drop (header_length_in e)) g
    ∙ drop_at (header_of e) y (header_length_in e) (header-many e) in
    let o = section-same (operator_length_in e) P.operators Q.operators _ _ p.operators q.operators bare in
    let a = section-same (atom_length_in e) P.atoms Q.atoms _ _ p.atoms q.atoms o.1 in
    let n = section-same node_length P.nodes Q.nodes [] [] p.nodes q.nodes a.1 in
    same_parts P.operators Q.operators P.atoms Q.atoms P.nodes Q.nodes o.0 a.0 n.0
  where
    same_parts : (o o' a a' n n' : List (List ℕ)) → o ≡ o' → a ≡ a' → n ≡ n' → the_parts o a n ≡ the_parts o' a' n'
    same_parts o o' a a' n n' x y z = rw (x, y, z) refl

-- the three sections of the words of parts
module _ (e : Edition) (P : Parts) (r : RightPartsIn e P) where
  abbrev a : ℕ
  a = length P.operators

  abbrev b : ℕ
  b = length P.atoms

  abbrev c : ℕ
  c = length P.nodes

  abbrev f : List ℕ
  f = file_words_in e P

  abbrev third : List ℕ
  third = section_words P.nodes []

  abbrev second : List ℕ
  second = section_words P.atoms third

  operators-stand : Standing f (header_length_in e) (operator_length_in e) P.operators second
  operators-stand = standing f (header_length_in e) (operator_length_in e) P.operators second r.operators_long
      (drop_at (header_of e) (section_words P.operators second) (header_length_in e) (header-many e))

  atoms-stand : Standing f (atoms_at_in e a) (atom_length_in e) P.atoms third
  atoms-stand = standing f (atoms_at_in e a) (atom_length_in e) P.atoms third r.atoms_long operators-stand.after

  nodes-stand : Standing f (nodes_at_in e a b) node_length P.nodes []
  nodes-stand = standing f (nodes_at_in e a b) node_length P.nodes [] r.nodes_long atoms-stand.after

  -- how long it is
  long : length f ≡ end_in e a b c
  long =
      let x = long-words (operator_length_in e) P.operators r.operators_long in
      let y = long-words (atom_length_in e) P.atoms r.atoms_long in
      let z = long-words node_length P.nodes r.nodes_long in
      omega (
        arith,
        x,
        y,
        z,
        header-many e,
        length-append (header_of e) (section_words P.operators second),
        length-append (record_words P.operators) second,
        length-append (record_words P.atoms) third,
        length-append (record_words P.nodes) [],
      )

  begins : RightHeader e f
  begins = take_at (header_of e) (section_words P.operators second) (header_length_in e) (header-many e)

-- WHAT RIGHT PARTS MAKE READS BACK AS THESE PARTS, and is well formed but for the laws
pub parts-read : PartsRead
parts-read e P r =
    rw ((operators-stand e P r).read, (atoms-stand e P r).read, (nodes-stand e P r).read)

right-whole : (e : Edition) (P : Parts) → RightPartsIn e P → OtherwiseIn e (file_words_in e P) (length P.operators) (length P.atoms) (length P.nodes)
right-whole e P r =
    let A : ℕ = length P.operators in
    let B : ℕ = length P.atoms in
    let C : ℕ = length P.nodes in
    let F : List ℕ = file_words_in e P in
    let L : length F ≡ end_in e A B C = long e P r in
    let ro : operators_in e F A ≡ P.operators = (operators-stand e P r).read in
    let ra : atoms_in e F A B ≡ P.atoms = (atoms-stand e P r).read in
    let rn : nodes_in e F A B C ≡ P.nodes = (nodes-stand e P r).read in
    record {
      header = begins e P r;
      operators = record { there = omega arith; count = (operators-stand e P r).count; least = r.some_operators; most = r.few_operators; whole = omega arith };
      atoms = record { there = omega arith; count = (atoms-stand e P r).count; least = omega arith; most = r.few_atoms; whole = omega arith };
      nodes = record { there = omega arith; count = (nodes-stand e P r).count; least = r.some_nodes; most = r.few_nodes; whole = omega arith };
      cells = λ i j h l. rw ro (r.cells i j h l);
      matches = λ i h. rw ra (r.matches i h);
      actions = λ i h. rw ra (r.actions i h);
      right_nodes = λ i h. rw rn (r.right_nodes i h);
      ends = L;
      one_tree = rw (ro, ra, rn) r.one_tree;
      all_taken = rw rn r.all_taken;
    }

-- ACCEPTED EXACTLY WHEN THE PARTS ARE RIGHT AND LAWFUL
pub parts-accepted : PartsAccepted
parts-accepted e P r laws =
    (accepted-as e (file_words_in e P) (layout_of_parts P)).1
    (record { otherwise = right-whole e P r; lawful = subst (λ (Q : Parts). LawfulPartsIn e Q) (sym (parts-read e P r)) laws })

pub accepted-parts : AcceptedParts
accepted-parts e f l g =
    let w : WellFormedIn e f l = (accepted-as e f l).0 g in
    (parts-right e f l.operators l.atoms l.nodes w.otherwise, w.lawful)
