-- The order of refusals 1 to 6: what is due to a section is what it is refused with, and a section is good or something is due to it.
-- Assumes nothing.
use Rattle.std.proofs.Common.{ℕ, zero, suc, ◌+◌, ◌*◌, ◌<◌, arith, ◌≡◌, refl, ◌∙◌, Bool, true, false, ◌&&◌, List, [], ◌⊎◌, inl, inr, ⊎_elim, leb, ltb, get_or}
use Rattle.std.proofs.Common.{length, drop, lt-ltb, le-ltb, le-leb, Ok, Err}
use mathlib.Core.Bool.{and-false}
use borrow.Author.Tests.{lt-leb}
use Rattle.words.specs.Records.{records}
use Rattle.words.proofs.RecordLaws.{length-records}
use Rattle.refusal.specs.Refusals.{refusal_at}
use Rattle.refusal.specs.declared.Reason.TheVariants.{WrongCell, WrongNode}
use Rattle.policy.specs.Numbers.{operator_length_in, most_atoms, most_children}
use Rattle.policy.specs.Atom.{right_atom_match, right_atom_action}
use Rattle.policy.specs.Cells.{right_cell_in}
use Rattle.policy.specs.Sections.{Test, unless, record_length, least, most, header_fault}
use Rattle.policy.specs.Sections.{count_fault, cell_fault, cells_fault, atom_fault, node_fault, record_fault, section_fault}
use Rattle.policy.specs.Sections.{inner_of, parent_of, sibling_of, own_of, children_of}
use Rattle.policy.specs.Due.{Present, RightHeader, FirstWrong, RightRecord, record_at, Good, RecordDue, SectionDue, HeaderDue}
use Rattle.policy.specs.Due.{cell, match, action, node, no_count, beyond, cut, wrong_record}
use Rattle.policy.specs.declared.Edition.{Edition}
use Rattle.policy.specs.declared.Edition.TheVariants.{First}
use Rattle.policy.specs.declared.Section.{Section}
use Rattle.policy.specs.declared.Section.TheVariants.{Operators, Atoms, Nodes}
use Rattle.policy.proofs.Each.{first-each}
use Rattle.policy.proofs.Passed.{node-fault, fault-node, right-record, present-long, present-fault}
use Rattle.logic.proofs.Tests.{by-test, by_le}
use Rattle.refusal.specs.declared.Reason.{Reason}

-- of some places all are right, or there is a first wrong one
pub first-wrong : (Right : ℕ → Type 0) → ((i : ℕ) → Right i ⊎ (¬ Right i)) → (n : ℕ) → ((i : ℕ) → i < n → Right i) ⊎ ((i : ℕ) × FirstWrong Right n i)
first-wrong Right decide zero = inl (λ i h. absurd (omega arith))
first-wrong Right decide (suc n) = ⊎_elim
    (λ before. ⊎_elim
    (λ here. inl (λ i h. by_le n i (λ l. let e : i ≡ n = omega arith in rw e here) (λ l. before i l)))
    (λ here. inr (n, record { within = omega arith; wrong = here; before = before }))
    (decide n))
    (λ w. inr (w.0, record { within = omega (arith, w.1.within); wrong = w.1.wrong; before = w.1.before }))
    (first-wrong Right decide n)

-- tests and stages, by their outcome
not-true : (b : Bool) → ¬ (b ≡ true) → b ≡ false
not-true true h = absurd (h refl)
not-true false h = refl

true-or-not : (b : Bool) → (b ≡ true) ⊎ (¬ (b ≡ true))
true-or-not true = inl refl
true-or-not false = inr (λ e. let z : ◌≡◌ {A = ℕ} 0 1 = cc in omega arith)

unless-failed : (b : Bool) (why : Reason) (at : ℕ) → ¬ (unless b why at ≡ Ok tt) → unless b why at ≡ Err (refusal_at why at)
unless-failed true why at h = absurd (h refl)
unless-failed false why at h = refl

pub passed-or-not : (t : Test) → (t ≡ Ok tt) ⊎ (¬ (t ≡ Ok tt))
passed-or-not (Ok u) = inl refl
passed-or-not (Err x) = inr (λ e. let z : ◌≡◌ {A = ℕ} 0 1 = cc in omega arith)

-- a wrong record is refused as is due
record-due : (at : ℕ) (r : List ℕ) {s : Section} {why : Reason} {p : ℕ} → RecordDue at r s why p → length r ≡ record_length s
    → record_fault s at r ≡ Err (refusal_at why p)
unfolding cells_fault atom_fault node_fault
record-due at r (cell {e} {j} w) long =
    first-each 0 (cell_fault e at) 1 0 r j (refusal_at WrongCell (at + j)) (record {
      within = omega (arith, w.within);
      before = λ i l p q. let z : p ≡ i = omega arith in rw (z, w.before i l);
      fails = λ p q. let z : p ≡ j = omega arith in rw (z, not-true _ w.wrong);
    })
record-due at r (match t) long = rw t
record-due at r (action t u) long = rw (t, u)
record-due at r (node {a} h) long =
    let t : Bool = ltb (inner_of r) a && ltb (parent_of r) a && ltb (sibling_of r) a && leb (own_of r) most_atoms && leb (children_of r) most_children in
    unless-failed t WrongNode at (λ e. h (node-fault a at r e))

-- a record is right, or something is due to it
record-cases : (s : Section) (at : ℕ) (r : List ℕ) → RightRecord s r ⊎ ((why : Reason) × (p : ℕ) × RecordDue at r s why p)
record-cases (Operators e) at r = ⊎_elim
    (λ h. inl h)
    (λ w. inr (_, _, cell w.1))
    (first-wrong (λ j. right_cell_in e j (get_or r j 0) ≡ true) (λ j. true-or-not _) (operator_length_in e))
record-cases (Atoms e) at r = by-test (right_atom_match e r)
    (λ t. by-test (right_atom_action e r) (λ u. inl (t, u)) (λ u. inr (_, _, action t u)))
    (λ t. inr (_, _, match t))
record-cases (Nodes a) at r = ⊎_elim
    (λ e. inl (node-fault a at r e))
    (λ h. inr (_, _, node (λ n. h (fault-node a at r n))))
    (passed-or-not (node_fault a at r))

-- and not both
not_right : (at : ℕ) (r : List ℕ) {s : Section} {why : Reason} {p : ℕ} → RecordDue at r s why p → ¬ RightRecord s r
not_right at r (cell {e} {j} w) h = w.wrong (h j w.within)
not_right at r (match t) h = let z : ◌≡◌ {A = ℕ} 0 1 = cc h.0 in omega arith
not_right at r (action t u) h = let z : ◌≡◌ {A = ℕ} 0 1 = cc h.1 in omega arith
not_right at r (node n) h = n h

-- SECTIONS
module _ (f : List ℕ) (at : ℕ) (s : Section) where
  -- what is due to a section is what it is refused with
  pub section-due : {why : Reason} {p : ℕ} → SectionDue f at s why p → section_fault f at s ≡ Err (refusal_at why p)
  unfolding section_fault count_fault
  section-due (no_count h) = rw (le-ltb at (length f) h)
  section-due (beyond h (inl g)) = rw (lt-ltb at (length f) h, lt-leb (least s) (get_or f at 0) g)
  section-due (beyond h (inr g)) = rw (lt-ltb at (length f) h, lt-leb (get_or f at 0) (most s) g, and-false (leb (least s) (get_or f at 0)))
  section-due (cut h l m g) =
      let n : ℕ = get_or f at 0 in
      rw (lt-ltb at (length f) h, le-leb (least s) n l, le-leb n (most s) m, lt-leb (at + 1 + record_length s * n) (length f) g)
  section-due (wrong_record {n} {i} {place} {why} p w d) =
      present-fault f at s n p
      ∙ first-each [] (record_fault s) (record_length s) (at + 1) (records n (record_length s) (drop (at + 1) f)) i (refusal_at why place) (record {
        within = rw length-records w.within;
        before = λ j l x q. right-record s x (record_at f at s n j) (present-long f at s n p j (omega (arith, w.within))) (w.before j l);
        fails = λ x q. rw q (record-due (at + 1 + record_length s * i) (record_at f at s n i) d (present-long f at s n p i w.within));
      })

  -- a section is good, or something is due to it
  pub section-cases : Good f at s (get_or f at 0) ⊎ ((why : Reason) × (p : ℕ) × SectionDue f at s why p)
  section-cases =
      let n : ℕ = get_or f at 0 in
      by_le (length f) at (λ h. inr (_, _, no_count h))
      (λ h. by_le (least s) n
      (λ l. by_le n (most s)
      (λ m. by_le (at + 1 + record_length s * n) (length f)
      (λ w. present (record { there = h; count = refl; least = l; most = m; whole = w }))
      (λ w. inr (_, _, cut h l m w)))
      (λ m. inr (_, _, beyond h (inr m))))
      (λ l. inr (_, _, beyond h (inl l))))
    where
      decide : (i : ℕ) → RightRecord s (record_at f at s (get_or f at 0) i) ⊎ (¬ RightRecord s (record_at f at s (get_or f at 0) i))
      decide i = ⊎_elim (λ h. inl h) (λ d. inr (not_right 0 (record_at f at s (get_or f at 0) i) d.2)) (record-cases s 0 (record_at f at s (get_or f at 0) i))

      present : Present f at (least s) (most s) (record_length s) (get_or f at 0)
          → Good f at s (get_or f at 0) ⊎ ((why : Reason) × (p : ℕ) × SectionDue f at s why p)
      present p = ⊎_elim
          (λ h. inl (record { present = p; right = h }))
          (λ w. ⊎_elim
          (λ h. absurd (w.1.wrong h))
          (λ d. inr (_, _, wrong_record p w.1 d.2))
          (record-cases s (at + 1 + record_length s * w.0) (record_at f at s (get_or f at 0) w.0)))
          (first-wrong (λ j. RightRecord s (record_at f at s (get_or f at 0) j)) decide (get_or f at 0))

-- THE HEADER: what is due to it is what it is refused with, and it is right or something is
pub header-due : (e : Edition) (f : List ℕ) (why : Reason) (at : ℕ) → HeaderDue e f why at → header_fault e f ≡ Err (refusal_at why at)
header-due First f why at d = absurd d

pub header-cases : (e : Edition) (f : List ℕ) → RightHeader e f ⊎ ((why : Reason) × (at : ℕ) × HeaderDue e f why at)
header-cases First f = inl refl
