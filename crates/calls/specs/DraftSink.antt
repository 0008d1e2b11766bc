-- What makes a draft a sink.
use Rattle.std.specs.Prelude.{ℕ, List, [], ◌++◌}
use Rattle.std.proofs.Common.{sym, ap, ◌∙◌, append_assoc, append-nil}
use Rattle.streams.specs.CounterSink.{counts-none, counts-then}
use Rattle.calls.specs.declared.draft.Draft.{Draft}
use Rattle.calls.specs.Drafts.{Drafts}

-- no bytes
pub drafts-none : (s : Draft) → Drafts s [] s
drafts-none s = record {
  counts = counts-none s.counter.low;
  was_whole = λ h. h;
  kept = λ h. sym (append-nil s.text.items);
}

-- bytes behind others
pub drafts-then : (a b c : Draft) (xs ys : List ℕ) → Drafts a xs b → Drafts b ys c → Drafts a (xs ++ ys) c
drafts-then a b c xs ys p q = record {
  counts = counts-then a.counter.low b.counter.low c.counter.low xs ys p.counts q.counts;
  was_whole = λ h. p.was_whole (q.was_whole h);
  kept = λ h. q.kept h ∙ ap (λ l. l ++ ys) (p.kept (q.was_whole h)) ∙ append_assoc a.text.items xs ys;
}
