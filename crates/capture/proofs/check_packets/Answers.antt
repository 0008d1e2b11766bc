-- A turn of the loop is a packet.
use Rattle.std.proofs.Common.{refl, sym, ◌∙◌, arith}
use Rattle.words.proofs.Chunks.{started, numbered, ended}
use Rattle.flow.specs.Packet.{packet_length, right_packet_words}
use Rattle.refusal.specs.declared.Reason.TheVariants.{WrongPacket}
use Rattle.table.proofs.Turns.{wrong-found, wrong-later, wrong-none}
use Rattle.capture.specs.Capture.{check_packets}
use Rattle.capture.proofs.Turns.{packet-right, packet-wrong}
use Rattle.capture.proofs.check_packets.Goals as goal

pub loop-i-init : goal.loop-i-init
unfolding check_packets
loop-i-init c =
    let s = started packet_length c.args.packets.now _ _ _ c.chunks_exact.ensures.rest c.chunks_exact.ensures.size c.enumerate-i-items.ensures.source
    c.enumerate-i-items.ensures.count c.into_iter-i-iterator.ensures.into_iter_gives in
    record { going = s.going; rest = rw (s.none, s.left, sym c.right_capture.ensures ∙ c.if-not-right_capture.false) refl }

pub loop-i-preserved : goal.loop-i-preserved
loop-i-preserved c =
    let n =
    numbered packet_length c.args.packets.now c.loop-i.i-iterator c.next.new.self _ c.in-Some.packet (omega arith) c.loop-i.invariant.going
    c.in-Some.ensures.steps in
    record {
      going = n.going;
      rest = rw (n.next)
          (wrong-later right_packet_words WrongPacket _ _ _ c.loop-i.invariant.rest _ _ n.more
          (packet-right _ (sym c.try_from.ensures) (sym c.is_err.ensures.value ∙ c.if-is_err.false)));
    }

pub returns-then-is_err : goal.returns-then-is_err
returns-then-is_err c =
    let n =
    numbered packet_length c.args.packets.now c.loop-i.i-iterator c.next.new.self _ c.in-Some.packet (omega arith) c.loop-i.invariant.going
    c.in-Some.ensures.steps in
    rw (c.at-then-is_err.ensures, n.number)
    (wrong-found right_packet_words WrongPacket _ _ _ c.loop-i.invariant.rest _ _ n.more
    (packet-wrong _ (sym c.try_from.ensures) (sym c.is_err.ensures.value ∙ c.if-is_err.true)))

pub returns : goal.returns
returns c =
    let e = ended packet_length c.args.packets.now _ _ c.loop-i.invariant.going c.in-None.ensures.steps in
    rw (← e.count) (wrong-none right_packet_words WrongPacket _ _ _ c.loop-i.invariant.rest e.none)
