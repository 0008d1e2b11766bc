use Rattle.words.proofs.Bytes.{words-read, bytes_read}
use Rattle.field.proofs.Prefixes.{meet-exactly}
use Rattle.flow.proofs.Laws.{met-exactly, meets-overlap}
use Rattle.flow.proofs.Inside.{inside-trans}
use Rattle.flow.proofs.Words.{match-words-read, match-written-read, packet-words-read, packet-read-words, packet-written-read}
use Rattle.policy.proofs.Parts.{parts-accepted, accepted-parts, parts_whole}
use Rattle.show.proofs.Numerals.{decimal-reads}
use Rattle.text.proofs.Lists.{known-by-first, known-by-room}
use Rattle.text.proofs.Examples.{examples-listed}
use Rattle.action.specs.Operator.{join}
use Rattle.action.specs.declared.Action.TheVariants.{DontCare}
use Rattle.flow.specs.Match.{meets, common, overlap, is_empty}
use Rattle.theory.proofs.Join.{scan-join, join-size}
use Rattle.theory.proofs.Compile.{node-chain}
use Rattle.theory.proofs.Switch.{switch-priorities}
use Rattle.promises.proofs.Scanned.{file-laws}
use Rattle.promises.proofs.rests_on.Goals as goal

pub returns : goal.returns
returns c = record {
  scan_join = scan-join file-laws;
  join_size = λ o. join-size common is_empty (join o);
  node_chain = node-chain file-laws;
  switch_priorities = switch-priorities meets DontCare overlap meets-overlap;
  words_read = words-read;
  bytes_read = bytes_read;
  meet_exactly = meet-exactly;
  met_exactly = met-exactly;
  inside_trans = inside-trans;
  match_words_read = match-words-read;
  match_written_read = match-written-read;
  packet_words_read = packet-words-read;
  packet_read_words = packet-read-words;
  packet_written_read = packet-written-read;
  parts_accepted = parts-accepted;
  accepted_parts = accepted-parts;
  parts_whole = parts_whole;
  decimal_reads = decimal-reads;
  known_by_first = known-by-first;
  known_by_room = known-by-room;
  examples_listed = examples-listed;
}
