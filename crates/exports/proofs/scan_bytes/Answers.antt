-- The words of 24 bytes are read, and others are no packet.
use Rattle.std.proofs.Common.{◌∙◌, ap, arith}
use Rattle.words.specs.Bytes.{words_in}
use Rattle.words.proofs.Bytes.{length-words}
use Rattle.units.proofs.Lying.{fills}
use Rattle.table.specs.Scan.{scan_of}
use Rattle.exports.proofs.Filled.{no-packet}
use Rattle.exports.proofs.scan_bytes.Goals as goal

pub returns-then-packet-ne-PACKET_WORDS : goal.returns-then-packet-ne-PACKET_WORDS
returns-then-packet-ne-PACKET_WORDS c = rw c.at.ensures (no-packet (words_in c.args.table.now) c.args.packet.now c.if-packet-ne-PACKET_WORDS.true)

pub returns : goal.returns
returns c =
    let ps = words_in c.args.packet.now in
    let read = c.from_bytes.ensures ∙ fills ps _ (omega (arith, length-words c.args.packet.now)) in
    c.scan.ensures ∙ ap (scan_of (words_in c.args.table.now)) read
