-- The block was handed on, and the bytes were kept behind it or written.
use Rattle.std.proofs.Common.{[], ◌≡◌, ◌++◌, IsNone, ap}
use Rattle.streams.specs.OutputSink.{gives-then}
use Rattle.streams.proofs.Handed.{gives-written}
use Rattle.streams.proofs.output.OutputSink.put.Goals as goal

pub returns-then-not-keep : goal.returns-then-not-keep
returns-then-not-keep g c =
    let same = c.keep-2.ensures.unchanged c.if-not-keep.true in
    let flushed = rw (c.keep.ensures.unchanged c.if-keep.false, ← same) at c.flush.ensures.gives in
    let well : IsNone c.keep-2.new.self.failure = rw same (c.keep-2.ensures.not_failed c.if-not-keep.true) in
    let empty : c.keep-2.new.self.block.items ≡ [] = rw same (c.flush.ensures.nothing_waits (c.keep-2.ensures.not_failed c.if-not-keep.true)) in
    gives-then g.W.Write.contents c.args.self.now c.keep-2.new.self _ [] c.args.bytes.now flushed
    (gives-written g.W.Write.contents _ _ _ c.args.bytes.now c.write_full.result well (ap (λ l. l ++ c.args.bytes.now) empty) empty
    c.err-self.ensures.value c.write_full.ensures.whole c.write_full.ensures.part c.write_full.ensures.not_interrupted)

pub returns-else-not-keep : goal.returns-else-not-keep
returns-else-not-keep g c =
    let flushed = rw (c.keep.ensures.unchanged c.if-keep.false) at c.flush.ensures.gives in
    gives-then g.W.Write.contents c.args.self.now c.flush.new.self c.keep-2.new.self [] c.args.bytes.now flushed (c.keep-2.ensures.kept c.if-not-keep.false)
