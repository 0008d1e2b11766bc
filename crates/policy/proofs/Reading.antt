-- The stages of reading one behind the other: the first fault is the answer, and where none has one the layout is. Assumes nothing.
use Rattle.std.proofs.Common.{ℕ, ◌+◌, ◌/◌, ◌≤◌, arith, ◌≡◌, sym, ◌∙◌, List, [], ◌∷◌, leb, length, drop, Result, Ok, Err}
use Rattle.words.specs.Records.{records}
use Rattle.words.proofs.RecordLaws.{length-records}
use Rattle.refusal.specs.declared.Reason.TheVariants.{ExtraWords}
use Rattle.refusal.specs.declared.Refusal.{Refusal}
use Rattle.policy.specs.Numbers.{header_length_in, operator_length_in, node_length, most_nodes}
use Rattle.policy.specs.Cells.{operator_rows}
use Rattle.policy.specs.Sections.{Test, unless, header_fault, section_fault}
use Rattle.policy.specs.declared.Edition.{Edition}
use Rattle.policy.specs.declared.Section.{Section}
use Rattle.policy.specs.declared.Section.TheVariants.{Operators, Atoms, Nodes}
use Rattle.policy.specs.Whole.{nodes_by_words, shape_fault, sum_fault, laws_fault}
use Rattle.policy.specs.Read.{layout, answer, read_as, stages, whole_stages}
use Rattle.policy.specs.Steps.{IsRead, Reads}
use Rattle.policy.specs.declared.stages.GoodSection.{GoodSection}

-- what reading a section answered: it is read, or its fault is found
module _ (f : List ℕ) (at : ℕ) (s : Section) {x : Result GoodSection Refusal} (reads : Reads f at s x) where
  pub is-read : {r : GoodSection} → x ≡ Ok r → IsRead f at s r
  is-read e = rw e at reads

  pub is-refused : {r : Refusal} → x ≡ Err r → section_fault f at s ≡ Err r
  is-refused e = rw e at reads

-- there are no more nodes than a file may have
pub nodes-few : {f : List ℕ} {at o : ℕ} {n : GoodSection} → IsRead f at (Nodes o) n → length (nodes_by_words n.words.now) ≤ most_nodes
nodes-few {f} {at} {o} {n} r = rw r.records (omega (arith, r.few, length-records n.count node_length (drop (at + 1) f)))

-- what a test came to
pub told : {x y z : Test} → x ≡ y → x ≡ z → y ≡ z
told p q = sym p ∙ q

-- the header and the three sections are good
pub record Sections (e : Edition) (f : List ℕ) (o a n : GoodSection) : Type 0 where
  pub header : header_fault e f ≡ Ok tt
  pub operators : IsRead f (header_length_in e) (Operators e) o
  pub atoms : IsRead f o.end (Atoms e) a
  pub nodes : IsRead f a.end (Nodes o.count) n

-- they are where each stage was passed
pub good :
    {e : Edition} {f : List ℕ} {t : Test} {at : ℕ} {x y z : Result GoodSection Refusal} {o a n : GoodSection} → t ≡ header_fault e f → t ≡ Ok tt
    → at ≡ header_length_in e → Reads f at (Operators e) x → x ≡ Ok o → Reads f o.end (Atoms e) y → y ≡ Ok a → Reads f a.end (Nodes o.count) z
    → z ≡ Ok n → Sections e f o a n
good h h' w p p' q q' r r' = record {
  header = told h h';
  operators = rw w at (is-read _ _ _ p p');
  atoms = is-read _ _ _ q q';
  nodes = is-read _ _ _ r r';
}

module _ (e : Edition) (f : List ℕ) {r : Refusal} where
  pub at-operators : header_fault e f ≡ Ok tt → section_fault f (header_length_in e) (Operators e) ≡ Err r → Err r ≡ read_as e f
  unfolding read_as stages
  at-operators h w = rw (h, w)

  pub at-atoms : {o : GoodSection} → header_fault e f ≡ Ok tt → IsRead f (header_length_in e) (Operators e) o → section_fault f o.end (Atoms e) ≡ Err r
      → Err r ≡ read_as e f
  unfolding read_as stages
  at-atoms h x w = rw (h, x.good, ← x.end, w)

  pub at-nodes : {o a : GoodSection} → header_fault e f ≡ Ok tt → IsRead f (header_length_in e) (Operators e) o → IsRead f o.end (Atoms e) a
      → section_fault f a.end (Nodes o.count) ≡ Err r → Err r ≡ read_as e f
  unfolding read_as stages
  at-nodes h x y w = rw (h, x.good, ← x.end, ← x.count, y.good, ← y.end, w)

-- THE WHOLE: what is left to test once they are
pub tests : {e : Edition} {f : List ℕ} {o a n : GoodSection} → Sections e f o a n
    → let ns : List (List ℕ) = nodes_by_words n.words.now in read_as e f
    ≡ answer
    (unless (leb (length f) n.end) ExtraWords n.end
    ∷ shape_fault ns
    ∷ sum_fault ns a.count
    ∷ laws_fault ns (operator_rows e (records (length o.words.now / operator_length_in e) (operator_length_in e) o.words.now))
    ∷ [])
    (layout o.count a.count n.count)
unfolding read_as stages whole_stages
tests {e} {f} {o} {a} {n} s =
    rw (
      s.header,
      s.operators.good,
      ← s.operators.end,
      ← s.operators.count,
      s.atoms.good,
      ← s.atoms.end,
      ← s.atoms.count,
      s.nodes.good,
      ← s.nodes.end,
      ← s.nodes.count,
      ← s.nodes.records,
      ← s.operators.records,
    )
