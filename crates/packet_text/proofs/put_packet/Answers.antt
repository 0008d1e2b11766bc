-- Each word is put behind the one before, with a blank between.
use Rattle.packet_text.specs.Text.{packet_text}
use Rattle.packet_text.proofs.put_packet.Goals as goal

pub returns : goal.returns
unfolding packet_text
returns g c =
    let then = g.met.S.Sink.then in
    then _ _ _ _ _ c.put_number.ensures (then _ _ _ _ _ c.put.ensures
    (then _ _ _ _ _ c.put_address.ensures (then _ _ _ _ _ c.put-2.ensures
    (then _ _ _ _ _ c.put_address-2.ensures (then _ _ _ _ _ c.put-3.ensures
    (then _ _ _ _ _ c.put_protocol.ensures (then _ _ _ _ _ c.put-4.ensures
    (then _ _ _ _ _ c.put_number-2.ensures (then _ _ _ _ _ c.put-5.ensures c.put_number-3.ensures)))))))))
