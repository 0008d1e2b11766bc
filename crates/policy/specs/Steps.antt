-- What reading one section answers, for its own contract.
--
--   IsRead   a section is good, and its count, its records and its end are as told
--   Reads    the same, or its refusal
use Rattle.std.specs.Prelude.{ℕ, ◌+◌, ◌/◌, ◌≤◌, ◌≡◌, List, Result, Ok, Err, length, drop, slice_index}
use Rattle.words.specs.Records.{records}
use Rattle.refusal.specs.declared.Refusal.{Refusal}
use Rattle.policy.specs.Sections.{record_length, most, behind, section_fault}
use Rattle.policy.specs.declared.Section.{Section}
use Rattle.policy.specs.declared.stages.GoodSection.{GoodSection}

-- the section whose count stands at a place is good, and its count, its records and its end are as told
pub record IsRead (f : List ℕ) (at : ℕ) (s : Section) (r : GoodSection) : Type 0 where
  pub good : section_fault f at s ≡ Ok tt
  pub count : r.count ≡ slice_index f at
  pub end : r.end ≡ behind at s (slice_index f at)
  pub records : records (length r.words.now / record_length s) (record_length s) r.words.now
      ≡ records r.count (record_length s) (drop (at + 1) f)
  pub few : r.count ≤ most s
  pub within : r.end ≤ length f

-- the same, or its refusal
abbrev pub Reads : List ℕ → ℕ → Section → Result GoodSection Refusal → Type 0
Reads f at s (Ok r) = IsRead f at s r
Reads f at s (Err r) = section_fault f at s ≡ Err r
