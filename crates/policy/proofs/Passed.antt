-- A stage is passed exactly when what it tests holds: of every record, of every cell. Assumes nothing.
use Rattle.std.proofs.Common.{ℕ, zero, suc, ◌+◌, ◌*◌, ◌≤◌, ◌<◌, arith, ◌≡◌, refl, ◌∙◌, Bool, true, ◌&&◌, List, [], leb, ltb, get_or, length, drop, length-drop}
use Rattle.std.proofs.Common.{length-take-le, ltb-true, lt-ltb, leb-true, le-leb, Ok}
use mathlib.Core.Bool.{and-eq-true_iff}
use Rattle.words.specs.Records.{records}
use Rattle.words.proofs.RecordLaws.{length-records}
use Rattle.refusal.specs.declared.Reason.TheVariants.{WrongCell, WrongMatch, WrongAction, WrongNode}
use Rattle.policy.specs.Numbers.{most_atoms, most_children}
use Rattle.policy.specs.Sections.{unless, each, cell_fault, cells_fault, atom_fault, node_fault, record_length, least, most, header_fault, count_fault}
use Rattle.policy.specs.Sections.{record_fault, section_fault, inner_of, parent_of, sibling_of, own_of, children_of}
use Rattle.policy.specs.Atom.{right_atom_match, right_atom_action}
use Rattle.policy.specs.Cells.{right_cell_in}
use Rattle.policy.specs.Due.{Present, RightHeader, RightNode, RightRecord, record_at, Good}
use Rattle.policy.specs.declared.Edition.{Edition}
use Rattle.policy.specs.declared.Edition.TheVariants.{First}
use Rattle.policy.specs.declared.Section.{Section}
use Rattle.policy.specs.declared.Section.TheVariants.{Operators, Atoms, Nodes}
use Rattle.policy.proofs.Each.{else-both, each-passed, passed-each}
use Rattle.policy.proofs.Records.{unless-true, Section-passed, section-passed}

-- a record of a section that is there has its whole length
record-long : (n k : ℕ) (ws : List ℕ) (i : ℕ) → k * n ≤ length ws → i < n → length (get_or (records n k ws) i []) ≡ k
record-long zero k ws i h l = absurd (omega arith)
record-long (suc n) k ws zero h l =
    let g : k * suc n ≡ k + k * n = omega arith in
    length-take-le k ws (omega arith)
record-long (suc n) k ws (suc i) h l =
    let g : k * suc n ≡ k + k * n = omega arith in
    record-long n k (drop k ws) i (rw length-drop (omega arith)) (omega arith)

-- the cells of an operator
cells-fault : (ed : Edition) (at : ℕ) (cs : List ℕ) → cells_fault ed at cs ≡ Ok tt → (j : ℕ) → j < length cs → right_cell_in ed j (get_or cs j 0) ≡ true
unfolding cells_fault
cells-fault ed at cs e j h =
    unless-true (right_cell_in ed j (get_or cs j 0)) WrongCell (at + j) (each-passed 0 (cell_fault ed at) 1 0 cs e j h j (omega arith))

fault-cells : (ed : Edition) (at : ℕ) (cs : List ℕ) → ((j : ℕ) → j < length cs → right_cell_in ed j (get_or cs j 0) ≡ true) → cells_fault ed at cs ≡ Ok tt
unfolding cells_fault
fault-cells ed at cs h = passed-each 0 (cell_fault ed at) 1 0 cs (λ j l p q. let z : p ≡ j = omega arith in rw (z, h j l))

-- an atom's match and action
atom-fault : (e : Edition) (at : ℕ) (r : List ℕ) → atom_fault e at r ≡ Ok tt → (right_atom_match e r ≡ true) × (right_atom_action e r ≡ true)
unfolding atom_fault
atom-fault e at r p =
    let h = else-both (unless (right_atom_match e r) WrongMatch at) (unless (right_atom_action e r) WrongAction at) p in
    (unless-true (right_atom_match e r) WrongMatch at h.0, unless-true (right_atom_action e r) WrongAction at h.1)

fault-atom : (e : Edition) (at : ℕ) (r : List ℕ) → right_atom_match e r ≡ true → right_atom_action e r ≡ true → atom_fault e at r ≡ Ok tt
unfolding atom_fault
fault-atom e at r p q = rw (p, q)

-- the header passes exactly when the file begins with it
pub header-passed : (e : Edition) (f : List ℕ) → header_fault e f ≡ Ok tt → RightHeader e f
header-passed First f p = refl

pub passed-header : (e : Edition) (f : List ℕ) → RightHeader e f → header_fault e f ≡ Ok tt
passed-header First f p = refl

-- a node's indexes and counts
pub node-fault : (a at : ℕ) (r : List ℕ) → node_fault a at r ≡ Ok tt → RightNode a r
unfolding node_fault
node-fault a at r e =
    let t : Bool = ltb (inner_of r) a && ltb (parent_of r) a && ltb (sibling_of r) a && leb (own_of r) most_atoms && leb (children_of r) most_children in
    let h = simp and-eq-true_iff at (unless-true t WrongNode at e) in
    record {
      inner = ltb-true _ _ h.0.0.0.0;
      parent = ltb-true _ _ h.0.0.0.1;
      sibling = ltb-true _ _ h.0.0.1;
      own = leb-true _ _ h.0.1;
      children = leb-true _ _ h.1;
    }

pub fault-node : (a at : ℕ) (r : List ℕ) → RightNode a r → node_fault a at r ≡ Ok tt
unfolding node_fault
fault-node a at r n =
    rw (
      lt-ltb (inner_of r) a n.inner,
      lt-ltb (parent_of r) a n.parent,
      lt-ltb (sibling_of r) a n.sibling,
      le-leb (own_of r) most_atoms n.own,
      le-leb (children_of r) most_children n.children,
    )

-- a record of a section passes exactly when it is right
record-right : (s : Section) (at : ℕ) (r : List ℕ) → length r ≡ record_length s → record_fault s at r ≡ Ok tt → RightRecord s r
record-right (Operators e) at r long g = λ j h. cells-fault e at r g j (omega arith)
record-right (Atoms e) at r long g = atom-fault e at r g
record-right (Nodes a) at r long e = node-fault a at r e

pub right-record : (s : Section) (at : ℕ) (r : List ℕ) → length r ≡ record_length s → RightRecord s r → record_fault s at r ≡ Ok tt
right-record (Operators e) at r long h = fault-cells e at r (λ j g. h j (omega arith))
right-record (Atoms e) at r long h = fault-atom e at r h.0 h.1
right-record (Nodes a) at r long h = fault-node a at r h

module _ (f : List ℕ) (at : ℕ) (s : Section) (n : ℕ) where
  -- a record of a section that is present has its whole length
  pub present-long : Present f at (least s) (most s) (record_length s) n → (i : ℕ) → i < n → length (record_at f at s n i) ≡ record_length s
  present-long p i h = record-long n (record_length s) (drop (at + 1) f) i (rw length-drop (omega (arith, p.whole))) h

  -- what a present section comes to: the first refusal of its records
  pub present-fault : Present f at (least s) (most s) (record_length s) n
      → section_fault f at s ≡ each (record_fault s) (at + 1) (record_length s) (records n (record_length s) (drop (at + 1) f))
  unfolding section_fault count_fault
  present-fault p =
      rw (p.count, lt-ltb at (length f) p.there, le-leb (least s) n p.least, le-leb n (most s) p.most)
      (rw (le-leb (at + 1 + record_length s * n) (length f) p.whole))

  -- A SECTION passes exactly when it is good
  pub good-passed : Good f at s n → section_fault f at s ≡ Ok tt
  good-passed g =
      present-fault g.present
      ∙ passed-each [] (record_fault s) (record_length s) (at + 1) (records n (record_length s) (drop (at + 1) f))
      (λ i l p q. let h : i < n = rw length-records at l in right-record s p (record_at f at s n i) (present-long g.present i h) (g.right i h))

  pub passed-good : get_or f at 0 ≡ n → section_fault f at s ≡ Ok tt → Good f at s n
  passed-good c e =
      let w : Section-passed f at s = section-passed f at s e in
      let whole : at + 1 + record_length s * n ≤ length f = rw c at w.whole in
      let p : Present f at (least s) (most s) (record_length s) n =
      record { there = w.count.there; count = c; least = omega (arith, w.count.few); most = omega (arith, w.count.many); whole = whole } in
      record {
        present = p;
        right = λ i h. record-right s _ (record_at f at s n i) (present-long p i h)
            (each-passed [] (record_fault s) (record_length s) (at + 1) (records n (record_length s) (drop (at + 1) f)) (rw c at w.all) i
            (rw length-records h) _ refl);
      }
