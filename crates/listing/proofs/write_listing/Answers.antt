-- The listing was put in behind what waited, and all was handed on.
use Rattle.std.proofs.Common.{◌≡◌, ◌++◌, length}
use Rattle.std.proofs.lemmas.List.{length-replicate}
use Rattle.std.specs.Io.KnownBytes.{Appends}
use Rattle.streams.specs.Parts.{AppendsStart}
use Rattle.streams.specs.Output.{given, held, waiting, HandsOn}
use Rattle.streams.proofs.Handed.{hands_on-all, hands_on-whole, gives-start}
use Rattle.text.specs.declared.TheConstants.{INPUT_ROOM}
use Rattle.listing.proofs.Listed.{listed, others}
use Rattle.listing.proofs.write_listing.Goals as goal

pub returns-in-Some : goal.returns-in-Some
returns-in-Some g c =
    let contents = g.W.Write.contents in
    let a = c.args.output.now in
    let b = c.flush.new.self in
    let handed = hands_on-all contents a c.list.new.sink b _ c.list.ensures c.flush.ensures in
    let room : length c.fill.new.buf ≡ INPUT_ROOM = rw (c.fill.auto.buf, length-replicate) in
    let reads = c.in-Some.ensures.reads in
    record {
      whole = λ _ k. listed _ _ _ _ (λ l. Appends (given contents a) (held contents b) l) reads.read room (hands_on-whole contents a b _ handed k);
      start = λ _. listed _ _ _ _ (λ l. AppendsStart (held contents a) (held contents b) (waiting a ++ l)) reads.read room
          (gives-start contents a b _ handed.gives);
      handed = λ _. listed _ _ _ _ (λ l. HandsOn contents a l b) reads.read room handed;
      taken = λ _. others _ _ _ _ reads.read room;
      lost = λ _ h. let k = reads.failed.1 h in cc;
      ended = reads.ended;
      nothing = λ h. let k = reads.failed.1 h in cc;
    }
