-- What a draft is after bytes were put in.
--
--   Blank d          nothing was put into the draft d
--   Drafts a xs b    what a draft a is, b, after some bytes were put in
use Rattle.std.specs.Prelude.{ℕ, ◌≡◌, true, List, [], ◌++◌}
use Rattle.streams.specs.Count.{Counts}
use Rattle.calls.specs.declared.draft.Draft.{Draft}

-- nothing was put in
pub record Blank (d : Draft) : Type 0 where
  pub nothing : d.text.items ≡ []
  pub none : d.counter.low ≡ 0

-- what a draft is after some bytes were put in: they are counted, and while it is whole they stand behind those before
pub record Drafts (a : Draft) (xs : List ℕ) (b : Draft) : Type 0 where
  pub counts : Counts a.counter.low xs b.counter.low
  pub was_whole : b.whole ≡ true → a.whole ≡ true
  pub kept : b.whole ≡ true → b.text.items ≡ a.text.items ++ xs
