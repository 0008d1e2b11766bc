-- A section: what a passed one shows, and what it comes to by its records. Assumes nothing.
use Rattle.std.proofs.Common.{ℕ, ◌+◌, ◌*◌, ◌-◌, ◌≤◌, ◌<◌, arith, ◌≡◌, refl, sym, ◌∙◌, Bool, true, false, ◌&&◌, List, leb, ltb, get_or, length, take, drop}
use Rattle.std.proofs.Common.{length-drop, leb-true, ltb-true, Ok}
use Rattle.words.specs.Records.{records}
use Rattle.words.proofs.Chunks.{whole, whole-part}
use Rattle.refusal.specs.declared.Reason.TheVariants.{ShortFile, WrongCount}
use Rattle.policy.specs.Sections.{Test, unless, ◌else◌, each, record_length, least, most, count_fault, record_fault, behind, section_fault}
use Rattle.policy.specs.declared.Section.{Section}
use Rattle.policy.proofs.Each.{else-both}
use Rattle.policy.proofs.Lengths.{record-some}
use Rattle.logic.proofs.Tests.{and_left, and_right}
use Rattle.refusal.specs.declared.Reason.{Reason}

-- what a passed test shows
pub unless-true : (b : Bool) (why : Reason) (at : ℕ) → unless b why at ≡ Ok tt → b ≡ true
unless-true true why at e = refl
unless-true false why at e = cc

-- a count that passes is there, and within its limits
pub record Counted (f : List ℕ) (at : ℕ) (s : Section) : Type 0 where
  pub there : at < length f
  pub few : least s ≤ get_or f at 0
  pub many : get_or f at 0 ≤ most s

pub counted : (f : List ℕ) (at : ℕ) (s : Section) → count_fault f at s ≡ Ok tt → Counted f at s
unfolding count_fault
counted f at s e =
    let n : ℕ = get_or f at 0 in
    let h = else-both (unless (ltb at (length f)) ShortFile (length f)) (unless (leb (least s) n && leb n (most s)) WrongCount at) e in
    let k : (leb (least s) n && leb n (most s)) ≡ true = unless-true (leb (least s) n && leb n (most s)) WrongCount at h.1 in
    record {
      there = ltb-true at (length f) (unless-true (ltb at (length f)) ShortFile (length f) h.0);
      few = leb-true (least s) n (and_left (leb (least s) n) (leb n (most s)) k);
      many = leb-true n (most s) (and_right (leb (least s) n) (leb n (most s)) k);
    }

-- a section that passes: its count, its whole length and its records
pub record Section-passed (f : List ℕ) (at : ℕ) (s : Section) : Type 0 where
  pub count : Counted f at s
  pub whole : at + 1 + record_length s * get_or f at 0 ≤ length f
  pub all : each (record_fault s) (at + 1) (record_length s) (records (get_or f at 0) (record_length s) (drop (at + 1) f)) ≡ Ok tt

pub section-passed : (f : List ℕ) (at : ℕ) (s : Section) → section_fault f at s ≡ Ok tt → Section-passed f at s
unfolding section_fault
section-passed f at s e =
    let k : ℕ = record_length s in
    let n : ℕ = get_or f at 0 in
    let present : Test = unless (leb (at + 1 + k * n) (length f)) ShortFile (length f) in
    let rest : Test = each (record_fault s) (at + 1) k (records n k (drop (at + 1) f)) in
    let h = else-both (count_fault f at s) (◌else◌ present rest) e in
    let g = else-both present rest h.1 in
    record {
      count = counted f at s h.0;
      whole = leb-true (at + 1 + k * n) (length f) (unless-true (leb (at + 1 + k * n) (length f)) ShortFile (length f) g.0);
      all = g.1;
    }

-- what a section comes to whose count passes and whose records are all there: that of the words behind the count
pub section-records : (f : List ℕ) (at : ℕ) (s : Section) (n end : ℕ) → n ≡ get_or f at 0 → end ≡ behind at s n
    → count_fault f at s ≡ Ok tt → unless (leb end (length f)) ShortFile (length f) ≡ Ok tt
    → each (record_fault s) (at + 1) (record_length s) (whole (record_length s) (take (end - (at + 1)) (drop (at + 1) f))) ≡ section_fault f at s
unfolding section_fault
section-records f at s n end q p c d =
    let k : ℕ = record_length s in
    let there : end ≤ length f = leb-true end (length f) (unless-true _ ShortFile (length f) d) in
    let w : end - (at + 1) ≡ k * n = omega (arith, p) in
    let few : k * n ≤ length (drop (at + 1) f) = rw length-drop (omega (arith, p)) in
    rw (w, whole-part k n (drop (at + 1) f) (record-some s k refl) few, c, ← q, ← p, d)

-- what a caller learns of a count n, the file's word, where the section passed
pub section-bounds : (f : List ℕ) (at : ℕ) (s : Section) (x : Test) → x ≡ section_fault f at s → x ≡ Ok tt → (n m : ℕ) → n ≡ m → m ≡ get_or f at 0
    → (n ≤ most s) × (behind at s n ≤ length f)
section-bounds f at s x e g n m p q =
    let h : Section-passed f at s = section-passed f at s (sym e ∙ g) in
    rw (p, q) (h.count.many, h.whole)
