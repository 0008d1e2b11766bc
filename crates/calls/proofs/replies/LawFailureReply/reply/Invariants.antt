-- The law's number and the words of the actions before the index are put in.
use Rattle.std.proofs.Common.{◌∷◌, take}
use Rattle.words.specs.Records.{flat}
use Rattle.words.specs.Bytes.{bytes_of}
use Rattle.calls.specs.Replies.{law_number, action_words}
use Rattle.calls.proofs.replies.LawFailureReply.reply.Given as goal

abbrev pub invariant-loop-action : goal.invariant-loop-action
invariant-loop-action g l =
    g.S.Sink.gives l.fn.sink (flat bytes_of (law_number l.fn.self ∷ flat action_words (take l.action-index l.action-items))) l.sink
