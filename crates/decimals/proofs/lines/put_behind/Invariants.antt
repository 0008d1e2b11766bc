use Rattle.std.proofs.Common.{drop}
use Rattle.decimals.specs.Text.{behind_text}
use Rattle.decimals.proofs.lines.put_behind.Given as goal

-- once the words that are left are put, all are
abbrev pub invariant-loop-word : goal.invariant-loop-word
invariant-loop-word g l =
    (s : _) → g.S.Sink.gives l.sink (behind_text (drop l.word-index l.words)) s → g.S.Sink.gives l.fn.sink (behind_text l.words) s
