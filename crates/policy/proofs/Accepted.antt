-- A file is accepted exactly when it is well formed: every stage is passed exactly when its part of well-formedness holds. Assumes nothing.
use Rattle.std.proofs.Common.{ℕ, ◌+◌, ◌≤◌, arith, ◌≡◌, refl, sym, ap, ◌∙◌, List, [], ◌∷◌, ◌++◌, map, append-nil, append_assoc, eqb, get_or, length, take, drop}
use Rattle.std.proofs.Common.{take-append-drop, drop_of_length-le, drop-drop, eqb-true, eq-eqb, Ok, Err}
use lib.ListN.{length-map}
use Rattle.policy.specs.Sections.{Test}
use Rattle.logic.specs.Lists.{All}
use Rattle.words.proofs.RecordLaws.{length-records}
use Rattle.theory.specs.declared.Row.{Row}
use Rattle.theory.specs.Nodes.{plant, all_atoms}
use Rattle.theory.specs.Tree.{bare, ◌▸◌}
use Rattle.row.specs.Row.{row_of}
use Rattle.flow.specs.declared.Match.{Match}
use Rattle.action.specs.declared.Action.{Action}
use Rattle.refusal.specs.declared.Reason.TheVariants.{WrongSum}
use Rattle.policy.specs.Numbers.{latest, header_length_in, operator_length_in, atom_length}
use Rattle.policy.specs.Sections.{header_fault, section_fault, children_of, own_of}
use Rattle.policy.specs.Whole.{shape, shape_fault, own_atoms, sum_fault, laws_fault}
use Rattle.policy.specs.Read.{extra_fault, atoms_at_in, nodes_at_in, end_in, operators_in, nodes_in, atoms_at, operator_records, atom_records, node_records}
use Rattle.policy.specs.Read.{whole_stages, stages, layout, answer, read_as}
use Rattle.policy.specs.Cells.{operator_rows}
use Rattle.policy.specs.File.{held, atoms_of_in, file_nodes_in, atoms_of, file_nodes, first_tree, tree_of}
use Rattle.policy.specs.Meaning.{OneTree}
use Rattle.policy.specs.WellFormed.{OtherwiseIn, WellFormedIn}
use Rattle.policy.specs.Order.{GoodSections}
use Rattle.policy.specs.Theorems.{AcceptedAs, AcceptedExactly, AcceptedTree, AcceptedAtoms}
use Rattle.policy.specs.declared.Edition.{Edition}
use Rattle.policy.specs.declared.Layout.{Layout}
use Rattle.policy.specs.declared.Section.TheVariants.{Operators, Atoms, Nodes}
use Rattle.policy.proofs.Records.{unless-true}
use Rattle.policy.proofs.Trees.{shape-one-tree, one-tree-shape, one-tree-planted}
use Rattle.policy.proofs.Passed.{header-passed, passed-header, good-passed, passed-good}
use Rattle.policy.proofs.Named.{operators-many, right-operators, laws-kept, kept_laws}
use Rattle.logic.proofs.Lists.{all_split}
use Rattle.policy.proofs.Extra.{passed-extra, extra-passed}

-- the stages that are passed, each by its name
pub record Stages (e : Edition) (f : List ℕ) (a b c : ℕ) : Type 0 where
  pub header : header_fault e f ≡ Ok tt
  pub operators : section_fault f (header_length_in e) (Operators e) ≡ Ok tt
  pub atoms : section_fault f (atoms_at_in e a) (Atoms e) ≡ Ok tt
  pub nodes : section_fault f (nodes_at_in e a b) (Nodes a) ≡ Ok tt
  pub extra : extra_fault f (end_in e a b c) ≡ Ok tt
  pub tree : shape_fault (nodes_in e f a b c) ≡ Ok tt
  pub sum : sum_fault (nodes_in e f a b c) b ≡ Ok tt

-- all of some stages are passed
abbrev pub AllPassed : List Test → Type 0
AllPassed ts = All (λ t. t ≡ Ok tt) ts

module _ (e : Edition) (f : List ℕ) (a b c : ℕ) where
  -- the stages before the laws
  abbrev pub before : List Test
  before =
      header_fault e f
      ∷ section_fault f (header_length_in e) (Operators e)
      ∷ section_fault f (atoms_at_in e a) (Atoms e)
      ∷ section_fault f (nodes_at_in e a b) (Nodes a)
      ∷ extra_fault f (end_in e a b c)
      ∷ shape_fault (nodes_in e f a b c)
      ∷ sum_fault (nodes_in e f a b c) b
      ∷ []

  -- where all of them are passed, each by its name
  pub by_name : AllPassed before → Stages e f a b c
  by_name p = record {
    header = p.0;
    operators = p.1.0;
    atoms = p.1.1.0;
    nodes = p.1.1.1.0;
    extra = p.1.1.1.1.0;
    tree = p.1.1.1.1.1.0;
    sum = p.1.1.1.1.1.1.0;
  }

-- an answer accepts exactly when all stages are passed
all-passed : (ts : List Test) (l m : Layout) → answer ts l ≡ Ok m → AllPassed ts × (l ≡ m)
all-passed [] l m e = (tt, cc)
all-passed (Ok u ∷ ts) l m e = let r : AllPassed ts × (l ≡ m) = all-passed ts l m e in ((refl, r.0), r.1)
all-passed (Err r ∷ ts) l m e = let z : ◌≡◌ {A = ℕ} 0 1 = cc in absurd (omega arith)

answer-passed : (e : Edition) (f : List ℕ) (a b c : ℕ) (m : Layout) → answer (stages e f a b c) (layout a b c) ≡ Ok m
    → Stages e f a b c × (laws_fault (nodes_in e f a b c) (operator_rows e (operators_in e f a)) ≡ Ok tt) × (layout a b c ≡ m)
unfolding stages whole_stages
answer-passed e f a b c m g =
    let r : AllPassed (stages e f a b c) × (layout a b c ≡ m) = all-passed (stages e f a b c) (layout a b c) m g in
    let laws : Test = laws_fault (nodes_in e f a b c) (operator_rows e (operators_in e f a)) in
    let p = all_split (λ t. t ≡ Ok tt) (before e f a b c) (laws ∷ []) r.0 in
    (by_name e f a b c p.0, p.1.0, r.1)

passed-answer : (e : Edition) (f : List ℕ) (a b c : ℕ) → Stages e f a b c → laws_fault (nodes_in e f a b c) (operator_rows e (operators_in e f a)) ≡ Ok tt
    → answer (stages e f a b c) (layout a b c) ≡ Ok (layout a b c)
unfolding stages whole_stages
passed-answer e f a b c s laws = rw (s.header, s.operators, s.atoms, s.nodes, s.extra, s.tree, s.sum, laws)

-- the child counts of the nodes are those of their records
held-children : (os : List (List ℕ)) (xs : List (Row Match Action)) (rs : List (List ℕ)) → map (λ n. n.child_count) (held os xs rs) ≡ map children_of rs
held-children os xs [] = refl
held-children os xs (r ∷ rs) = ap (λ l. children_of r ∷ l) (held-children os (drop (own_of r) xs) rs)

module _ (e : Edition) (f : List ℕ) (a b c : ℕ) where
  pub children-shape : shape (map (λ n. n.child_count) (file_nodes_in e f (layout a b c))) (1 ∷ []) 0 ≡ shape (map children_of (nodes_in e f a b c)) (1 ∷ []) 0
  children-shape = ap (λ ks. shape ks (1 ∷ []) 0) (held-children (operator_rows e (operators_in e f a)) (atoms_of_in e f (layout a b c)) (nodes_in e f a b c))

  -- a file well formed but for the laws is one of good sections that ends with them, and whose nodes are one tree and take all atoms
  pub good-otherwise : GoodSections e f a b c → length f ≡ end_in e a b c → OneTree (file_nodes_in e f (layout a b c)) → own_atoms (nodes_in e f a b c) ≡ b
      → OtherwiseIn e f a b c
  good-otherwise g ends tree sum = record {
    header = g.header;
    operators = g.operators.present;
    atoms = g.atoms.present;
    nodes = g.nodes.present;
    cells = λ i j l m. g.operators.right i l j m;
    matches = λ i l. (g.atoms.right i l).0;
    actions = λ i l. (g.atoms.right i l).1;
    right_nodes = g.nodes.right;
    ends = ends;
    one_tree = tree;
    all_taken = sum;
  }

  -- what the stages before the laws say
  pub otherwise-of : a ≡ get_or f (header_length_in e) 0 → b ≡ get_or f (atoms_at_in e a) 0 → c ≡ get_or f (nodes_at_in e a b) 0 → Stages e f a b c
      → OtherwiseIn e f a b c
  unfolding shape_fault sum_fault
  otherwise-of p q w s =
      let g : GoodSections e f a b c = record {
        header = header-passed e f s.header;
        operators = passed-good f (header_length_in e) (Operators e) a (sym p) s.operators;
        atoms = passed-good f (atoms_at_in e a) (Atoms e) b (sym q) s.atoms;
        nodes = passed-good f (nodes_at_in e a b) (Nodes a) c (sym w) s.nodes;
      } in
      let extra : length f ≤ end_in e a b c = extra-passed f (end_in e a b c) s.extra in
      good-otherwise g (omega (arith, g.nodes.present.whole))
      (shape-one-tree (file_nodes_in e f (layout a b c)) (children-shape ∙ s.tree))
      (eqb-true _ _ (unless-true (eqb (own_atoms (nodes_in e f a b c)) b) WrongSum 0 s.sum))

  -- and the other way round
  pub of-otherwise : OtherwiseIn e f a b c → Stages e f a b c
  unfolding shape_fault sum_fault
  of-otherwise o = record {
    header = passed-header e f o.header;
    operators = good-passed f (header_length_in e) (Operators e) a (record { present = o.operators; right = λ i l j m. o.cells i j l m });
    atoms = good-passed f (atoms_at_in e a) (Atoms e) b (record { present = o.atoms; right = λ i l. (o.matches i l, o.actions i l) });
    nodes = good-passed f (nodes_at_in e a b) (Nodes a) c (record { present = o.nodes; right = o.right_nodes });
    extra = passed-extra f (end_in e a b c) o.ends;
    tree = sym children-shape ∙ one-tree-shape (file_nodes_in e f (layout a b c)) o.one_tree;
    sum = rw (eq-eqb (own_atoms (nodes_in e f a b c)) b o.all_taken);
  }

-- ACCEPTED EXACTLY WHEN WELL FORMED
pub accepted-as : AcceptedAs
unfolding read_as
accepted-as e f l = (well, accepts)
  where
    well : read_as e f ≡ Ok l → WellFormedIn e f l
    well g =
        let a : ℕ = get_or f (header_length_in e) 0 in
        let b : ℕ = get_or f (atoms_at_in e a) 0 in
        let c : ℕ = get_or f (nodes_at_in e a b) 0 in
        let p = answer-passed e f a b c l g in
        let os : List (List ℕ) = operators_in e f a in
        let raw : length os ≡ a = length-records a (operator_length_in e) (drop (header_length_in e + 1) f) in
        let many : length (operator_rows e os) ≡ a = operators-many e os ∙ raw in
        let o : OtherwiseIn e f a b c = otherwise-of e f a b c refl refl refl p.0 in
        rw (← p.2) (record {
          otherwise = o;
          lawful = laws-kept a (operator_rows e os) (nodes_in e f a b c) many (right-operators e os a raw o.cells)
              (λ i h. o.right_nodes i (rw length-records at h)) p.1;
        })

    accepts : WellFormedIn e f l → read_as e f ≡ Ok l
    accepts w =
        let a : ℕ = l.operators in
        let b : ℕ = l.atoms in
        let c : ℕ = l.nodes in
        let os : List (List ℕ) = operators_in e f a in
        let raw : length os ≡ a = length-records a (operator_length_in e) (drop (header_length_in e + 1) f) in
        let many : length (operator_rows e os) ≡ a = operators-many e os ∙ raw in
        let o : OtherwiseIn e f a b c = w.otherwise in
        rw (o.operators.count, o.atoms.count, o.nodes.count)
        (passed-answer e f a b c (of-otherwise e f a b c o)
        (kept_laws a (operator_rows e os) (nodes_in e f a b c) many (right-operators e os a raw o.cells) (λ i h. o.right_nodes i (rw length-records at h))
        w.lawful))

pub accepted-exactly : AcceptedExactly
accepted-exactly f l = accepted-as latest f l

-- ONE TREE, whose nodes in file order are the file's
pub accepted-tree : AcceptedTree
accepted-tree f l e =
    let o : OneTree (file_nodes f l) = ((accepted-exactly f l).0 e).otherwise.one_tree in
    let p : plant (file_nodes f l) ≡ o.tree ▸ bare = one-tree-planted (file_nodes f l) o in
    let q : tree_of f l ≡ o.tree = ap first_tree p in
    record { planted = rw q p; lists = rw q o.lists; shallow = rw q o.shallow }

-- the own atoms of some nodes, and what they leave
taken : (os : List (List ℕ)) (xs : List (Row Match Action)) (rs : List (List ℕ)) → all_atoms (held os xs rs) ++ drop (own_atoms rs) xs ≡ xs
taken os xs [] = refl
taken os xs (r ∷ rs) =
    let n : ℕ = own_of r in
    append_assoc (take n xs) (all_atoms (held os (drop n xs) rs)) (drop (n + own_atoms rs) xs)
    ∙ ap (λ l. take n xs ++ (all_atoms (held os (drop n xs) rs) ++ l)) (sym (drop-drop (own_atoms rs) n xs))
    ∙ ap (λ l. take n xs ++ l) (taken os (drop n xs) rs)
    ∙ take-append-drop n xs

-- EVERY ATOM BELONGS TO ONE NODE
pub accepted-atoms : AcceptedAtoms
accepted-atoms f l e =
    let os : List (List ℕ) = operator_records f l.operators in
    let xs : List (Row Match Action) = atoms_of f l in
    let rs : List (List ℕ) = node_records f l.operators l.atoms l.nodes in
    let many : length xs ≡ l.atoms =
    length-map (atom_records f l.operators l.atoms) row_of ∙ length-records l.atoms atom_length (drop (atoms_at l.operators + 1) f) in
    let sum : own_atoms rs ≡ l.atoms = ((accepted-exactly f l).0 e).otherwise.all_taken in
    let none : drop (own_atoms rs) xs ≡ [] = drop_of_length-le xs {i = own_atoms rs} (omega arith) in
    sym (append-nil (all_atoms (held os xs rs))) ∙ ap (λ l. all_atoms (held os xs rs) ++ l) (sym none) ∙ taken os xs rs
