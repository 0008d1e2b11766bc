-- The order of refusals 1 to 9: what is due is what the first stage that refuses finds, and to every file that is not well formed but for the laws
-- something is. Assumes nothing.
use Rattle.std.proofs.Common.{ℕ, ◌+◌, ◌<◌, arith, ◌≡◌, sym, ap, ◌∙◌, List, [], ◌∷◌, ◌⊎◌, inl, inr, ⊎_elim, eqb, get_or, length, drop, le-leb, eqb-true, ne_eqb}
use Rattle.std.proofs.Common.{Ok, Err}
use lib.ListN.{length-map}
use borrow.Author.Tests.{lt-leb, eqb-false}
use Rattle.policy.specs.Read.{Reading}
use Rattle.words.proofs.RecordLaws.{length-records}
use Rattle.action.specs.Operator.{RightCodes}
use Rattle.refusal.specs.Refusals.{law_broken, reason_number, refusal_at}
use Rattle.refusal.specs.declared.Reason.{Reason}
use Rattle.refusal.specs.declared.Refusal.{Refusal}
use Rattle.refusal.specs.declared.Reason.TheVariants.{ExtraWords, NoTree, WrongSum}
use Rattle.policy.specs.Numbers.{header_length_in, operator_length_in, node_length}
use Rattle.policy.specs.Cells.{operator_rows}
use Rattle.policy.specs.Sections.{children_of}
use Rattle.policy.specs.Whole.{shape, shape_fault, own_atoms, sum_fault, laws_fault}
use Rattle.policy.specs.Read.{atoms_at_in, nodes_at_in, end_in, operators_in, nodes_in, whole_stages, stages, layout, answer, read_as}
use Rattle.policy.specs.Meaning.{operator_at, OneTree, ended, HasPlace}
use Rattle.policy.specs.File.{file_nodes_in}
use Rattle.policy.specs.Due.{RightNode}
use Rattle.policy.specs.WellFormed.{OtherwiseIn, WellFormedIn}
use Rattle.policy.specs.Order.{child_counts_in, GoodSections, Due, in_header, in_operators, in_atoms, in_nodes, extra, no_place, missing, sum, FileOrder}
use Rattle.policy.specs.declared.Edition.{Edition}
use Rattle.policy.specs.declared.Section.TheVariants.{Operators, Atoms, Nodes}
use Rattle.policy.proofs.Passed.{passed-header, good-passed}
use Rattle.policy.proofs.Named.{operators-many, right-operators, laws-kept, kept_laws}
use Rattle.policy.proofs.Trees.{shape-one-tree, one-tree-shape}
use Rattle.policy.proofs.Accepted.{children-shape, good-otherwise, accepted-as}
use Rattle.policy.proofs.Refused.{broken-refused-as}
use Rattle.policy.proofs.Depths.{shape-first, shape-places, has-place}
use Rattle.logic.proofs.Tests.{by-test, by_le}
use Rattle.policy.proofs.Due.{first-wrong, passed-or-not, section-due, section-cases, header-due, header-cases}

-- what the tests of the whole come to, once all three sections are good
abbrev with_whole : Edition → List ℕ → ℕ → ℕ → ℕ → ℕ → ℕ → Reading
with_whole e f h a b c q = answer (whole_stages e f h a b c q) (layout a b c)

-- THE FILE. Once the header and all three sections are good the other stages answer.
module _ (e : Edition) (f : List ℕ) (a b c : ℕ) where
  sections-read : GoodSections e f a b c → read_as e f ≡ with_whole e f (header_length_in e) a b c (nodes_at_in e a b)
  unfolding read_as stages
  sections-read g =
      rw (g.operators.present.count, g.atoms.present.count, g.nodes.present.count)
      (rw (
        passed-header e f g.header,
        good-passed f (header_length_in e) (Operators e) a g.operators,
        good-passed f (atoms_at_in e a) (Atoms e) b g.atoms,
        good-passed f (nodes_at_in e a b) (Nodes a) c g.nodes,
      ))

  extra-read : end_in e a b c < length f → with_whole e f (header_length_in e) a b c (nodes_at_in e a b) ≡ Err (refusal_at ExtraWords (end_in e a b c))
  unfolding whole_stages
  extra-read h = rw (lt-leb (length f) (end_in e a b c) h)

  shape-read : length f ≡ end_in e a b c → (i : ℕ) → shape (child_counts_in e f a b c) (1 ∷ []) 0 ≡ Err (refusal_at NoTree i)
      → with_whole e f (header_length_in e) a b c (nodes_at_in e a b) ≡ Err (refusal_at NoTree i)
  unfolding whole_stages shape_fault
  shape-read h i x = rw (le-leb (length f) (end_in e a b c) (omega arith), x)

  sum-read : length f ≡ end_in e a b c → shape (child_counts_in e f a b c) (1 ∷ []) 0 ≡ Ok tt → ¬ (own_atoms (nodes_in e f a b c) ≡ b)
      → with_whole e f (header_length_in e) a b c (nodes_at_in e a b) ≡ Err (refusal_at WrongSum 0)
  unfolding whole_stages shape_fault sum_fault
  sum-read h x n = rw (le-leb (length f) (end_in e a b c) (omega arith), x, ne_eqb (own_atoms (nodes_in e f a b c)) b n)

  nodes-many : length (child_counts_in e f a b c) ≡ c
  nodes-many = length-map (nodes_in e f a b c) children_of ∙ length-records c node_length (drop (nodes_at_in e a b + 1) f)

-- WHAT IS DUE IS GIVEN
due-read : (e : Edition) (f : List ℕ) {why : Reason} {at : ℕ} → Due e f why at → read_as e f ≡ Err (refusal_at why at)
unfolding read_as stages
due-read e f (in_header {why} {at} d) = rw (header-due e f why at d)
due-read e f (in_operators h d) = rw (passed-header e f h, section-due f (header_length_in e) (Operators e) d)
due-read e f (in_atoms {a} h g d) =
    rw g.present.count (rw (passed-header e f h, good-passed f (header_length_in e) (Operators e) a g, section-due f (atoms_at_in e a) (Atoms e) d))
due-read e f (in_nodes {a} {b} h g k d) =
    rw (g.present.count, k.present.count)
    (rw (
      passed-header e f h,
      good-passed f (header_length_in e) (Operators e) a g,
      good-passed f (atoms_at_in e a) (Atoms e) b k,
      section-due f (nodes_at_in e a b) (Nodes a) d,
    ))
due-read e f (extra {a} {b} {c} g h) = sections-read e f a b c g ∙ extra-read e f a b c h
due-read e f (no_place {a} {b} {c} {i} g h w) =
    sections-read e f a b c g ∙ shape-read e f a b c h i (shape-first (child_counts_in e f a b c) i (rw (nodes-many e f a b c) w))
due-read e f (missing {a} {b} {c} g h p x) =
    let ks : List ℕ = child_counts_in e f a b c in
    let l : length ks ≡ c = nodes-many e f a b c in
    sections-read e f a b c g ∙ shape-read e f a b c h c (shape-places ks (λ i m. p i (omega arith)) ∙ rw (x, l))
due-read e f (sum {a} {b} {c} g h t n) =
    sections-read e f a b c g ∙ sum-read e f a b c h (sym (children-shape e f a b c) ∙ one-tree-shape (file_nodes_in e f (layout a b c)) t) n

-- a file is well formed but for the laws, or something is due to it
abbrev Cases : Edition → List ℕ → Type 0
Cases e f = ((a : ℕ) × (b : ℕ) × (c : ℕ) × OtherwiseIn e f a b c) ⊎ ((why : Reason) × (at : ℕ) × Due e f why at)

module _ (e : Edition) (f : List ℕ) (a b c : ℕ) (g : GoodSections e f a b c) where
  tree-cases : length f ≡ end_in e a b c → OneTree (file_nodes_in e f (layout a b c)) → Cases e f
  tree-cases h t = by-test (eqb (own_atoms (nodes_in e f a b c)) b)
      (λ x. inl (a, b, c, good-otherwise e f a b c g h t (eqb-true _ _ x)))
      (λ x. inr (_, _, sum g h t (eqb-false _ _ x)))

  shape-cases : length f ≡ end_in e a b c → Cases e f
  shape-cases h =
      let ks : List ℕ = child_counts_in e f a b c in
      let l : length ks ≡ c = nodes-many e f a b c in
      ⊎_elim
      (λ p. by-test (ended ks)
      (λ x. tree-cases h (shape-one-tree (file_nodes_in e f (layout a b c)) (children-shape e f a b c ∙ shape-places ks (λ i m. p i (omega arith)) ∙ rw x)))
      (λ x. inr (_, _, missing g h p x)))
      (λ w. inr (_, _, no_place g h w.1))
      (first-wrong (HasPlace ks) (has-place ks) c)

  end-cases : Cases e f
  end-cases = by_le (length f) (end_in e a b c)
      (λ h. shape-cases (omega (arith, g.nodes.present.whole)))
      (λ h. inr (_, _, extra g h))

cases : (e : Edition) (f : List ℕ) → Cases e f
cases e f =
    let a : ℕ = get_or f (header_length_in e) 0 in
    let b : ℕ = get_or f (atoms_at_in e a) 0 in
    let c : ℕ = get_or f (nodes_at_in e a b) 0 in
    ⊎_elim
    (λ h. ⊎_elim
    (λ g. ⊎_elim
    (λ k. ⊎_elim
    (λ m. end-cases e f a b c (record { header = h; operators = g; atoms = k; nodes = m }))
    (λ d. inr (_, _, in_nodes h g k d.2))
    (section-cases f (nodes_at_in e a b) (Nodes a)))
    (λ d. inr (_, _, in_atoms h g d.2))
    (section-cases f (atoms_at_in e a) (Atoms e)))
    (λ d. inr (_, _, in_operators h d.2))
    (section-cases f (header_length_in e) (Operators e)))
    (λ d. inr (_, _, in_header d.2))
    (header-cases e f)

-- equal answers have equal refusals
same : {r s : Refusal} → ◌≡◌ {A = Reading} (Err r) (Err s) → r ≡ s
same q = cc

-- a refusal without a law is given to no file that is well formed but for the laws: it is accepted, or a law is shown
lawless : (e : Edition) (f : List ℕ) (a b c : ℕ) (why : Reason) (at : ℕ) → ¬ (reason_number why ≡ law_broken) → OtherwiseIn e f a b c
    → ¬ (read_as e f ≡ Err (refusal_at why at))
lawless e f a b c why at other o r =
    let raw : List (List ℕ) = operators_in e f a in
    let os : List (List ℕ) = operator_rows e raw in
    let ns : List (List ℕ) = nodes_in e f a b c in
    let counted : length raw ≡ a = length-records a (operator_length_in e) (drop (header_length_in e + 1) f) in
    let many : length os ≡ a = operators-many e raw ∙ counted in
    let codes : (i : ℕ) → i < a → RightCodes (operator_at os i) = right-operators e raw a counted o.cells in
    let nodes : (i : ℕ) → i < length ns → RightNode a (get_or ns i []) = λ i h. o.right_nodes i (rw length-records at h) in
    ⊎_elim
    (λ p.
    let w : WellFormedIn e f (layout a b c) = record { otherwise = o; lawful = laws-kept a os ns many codes nodes p } in
    let g : read_as e f ≡ Ok (layout a b c) = (accepted-as e f (layout a b c)).1 w in
    let z : ◌≡◌ {A = ℕ} 0 1 = cc in
    omega arith)
    (λ h.
    let w = broken-refused-as e f a b c o (λ k. h (kept_laws a os ns many codes nodes k)) in
    let q : w.0 ≡ refusal_at why at = same (sym w.1 ∙ r) in
    other (rw q at w.2))
    (passed-or-not (laws_fault ns os))

-- AND NOTHING ELSE IS
given-due : (e : Edition) (f : List ℕ) (why : Reason) (at : ℕ) → ¬ (reason_number why ≡ law_broken) → read_as e f ≡ Err (refusal_at why at) → Due e f why at
given-due e f why at other r = ⊎_elim
    (λ o. absurd (lawless e f o.0 o.1 o.2 why at other o.3 r))
    (λ d.
    let q : refusal_at d.0 d.1 ≡ refusal_at why at = same (sym (due-read e f d.2) ∙ r) in
    let p : d.0 ≡ why = ap (λ (x : Refusal). x.reason) q in
    let w : d.1 ≡ at = ap (λ (x : Refusal). x.place) q in
    rw (p, w) at d.2)
    (cases e f)

pub file-order : FileOrder
file-order = record {
  due = λ e f why at other. (given-due e f why at other, due-read e f);
  last = λ e f h. ⊎_elim (λ o. o) (λ d. absurd (h d.0 d.1 d.2)) (cases e f);
}
