-- The packets that an iterator over packets still has to give.
use Rattle.std.specs.Prelude.{List}
use Rattle.words.specs.Left.{left}
use Rattle.words.specs.declared.spelling.Records.{Records}
use Rattle.flow.specs.declared.Packet.{Packet}
use Rattle.capture.specs.Capture.{packets_in}

abbrev pub packets_left : {R : Type 0} → Records R → List Packet
packets_left s = packets_in (left s)
