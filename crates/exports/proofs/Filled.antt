-- What fills an answer, and the packet that bytes are. Assumes nothing.
use Prim.Native.Nat.{ℕ, suc, ◌*◌, ◌/◌, ◌%◌, ◌<◌}
use native.Mathlib.Omega.{arith}
use mathlib.Core.Path.{◌≡◌, refl, sym, ap, ◌∙◌}
use mathlib.Core.Bool.{Bool, true, false, ◌&&◌}
use mathlib.Core.List.{List, [], ◌∷◌}
use lib.ListN.{length, get_or}
use borrow.Author.Tests.{ne_eqb, eqb-true}
use Rattle.std.specs.Prelude.{Err, ◌==◌}
use Rattle.logic.proofs.Tests.{and_left, and_right}
use Rattle.words.specs.Words.{copied}
use Rattle.words.specs.Records.{flat}
use Rattle.words.specs.Bytes.{word_bytes, words_in, bytes_of}
use Rattle.words.specs.Theorems.{EveryByte}
use Rattle.words.proofs.Bytes.{length-words, length-bytes, bytes_read}
use Rattle.units.proofs.Lying.{fills}
use Rattle.flow.specs.Packet.{packet_length, right_packet_words}
use Rattle.refusal.specs.Refusals.{refusal_at}
use Rattle.refusal.specs.declared.Reason.TheVariants.{WrongPacket}
use Rattle.table.specs.Scan.{scan_of}
use Rattle.priority.specs.Numbering.{priorities_after, chain_after}
use Rattle.exports.specs.Exports.{answer_length, whole_words, answer_sized, numbering_right, priorities_left, chain_left}

pub every_byte : (bytes : List ℕ) → ((i : ℕ) → get_or bytes i 0 < 256) → EveryByte bytes
every_byte [] h = tt
every_byte (b ∷ bytes) h = (h 0, every_byte bytes (λ i. h (suc i)))

pub filled : (words out : List ℕ) → length out ≡ word_bytes * length words → copied 0 (flat bytes_of words) out ≡ flat bytes_of words
filled words out e = fills (flat bytes_of words) out (length-bytes words ∙ sym e)

-- bytes of another number of words than a packet has are no packet
pub no-packet : (ws b : List ℕ) → (length b / word_bytes ≡ packet_length → ⊥) → Err (refusal_at WrongPacket 0) ≡ scan_of ws (words_in b)
unfolding scan_of right_packet_words
no-packet ws b h =
    let other : (length (words_in b) == packet_length) ≡ false = ne_eqb (length (words_in b)) packet_length (λ e. h (sym (length-words b) ∙ e)) in
    rw other refl

-- a buffer that holds these words now is their bytes
left-bytes : (b b' F : List ℕ) → ((i : ℕ) → get_or b' i 0 < 256) → whole_words b ≡ true → length b' ≡ length b → words_in b' ≡ F → b' ≡ flat bytes_of F
left-bytes b b' F small w n e =
    let whole : length b ≡ length b / word_bytes * word_bytes = omega (arith, eqb-true (length b % word_bytes) 0 w) in
    sym (bytes_read b' (every_byte b' small) (omega (arith, n, whole))) ∙ ap (flat bytes_of) e

-- where the lengths of a numbering are right, its buffers hold the bytes of the words that are in them
module _ (t p c a : List ℕ) (h : numbering_right t p c a ≡ true) where
  abbrev first-two : Bool
  first-two = whole_words t && whole_words p

  three : (first-two && whole_words c) ≡ true
  three = and_left (first-two && whole_words c) (answer_sized a) h

  pub priorities-left : (b : List ℕ) → ((i : ℕ) → get_or b i 0 < 256) → length b ≡ length p
      → words_in b ≡ priorities_after (words_in t) (words_in p) (words_in c) → b ≡ priorities_left t p c a
  unfolding priorities_left
  priorities-left b small n e =
      rw h (left-bytes p b _ small (and_right (whole_words t) (whole_words p) (and_left first-two (whole_words c) three)) n e)

  pub chain-left : (b : List ℕ) → ((i : ℕ) → get_or b i 0 < 256) → length b ≡ length c
      → words_in b ≡ chain_after (words_in t) (words_in p) (words_in c) → b ≡ chain_left t p c a
  unfolding chain_left
  chain-left b small n e = rw h (left-bytes c b _ small (and_right first-two (whole_words c) three) n e)

pub answer-long : (b : Bool) (a : List ℕ) → (b && answer_sized a) ≡ true → length a ≡ answer_length
answer-long b a h = eqb-true (length a) answer_length (and_right b (answer_sized a) h)
