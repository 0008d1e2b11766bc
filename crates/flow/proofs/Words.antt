-- Packets and matches against their words: written, then read, and read, then written. Assumes nothing.
use mathlib.Core.Path.{◌≡◌, refl, sym, ap, ◌∙◌}
use mathlib.Core.Bool.{Bool, true, false, cond}
use mathlib.Core.List.{List, ◌∷◌, ◌++◌}
use Prim.Native.Nat.{ℕ, zero, suc, ◌+◌, ◌≤◌}
use native.Mathlib.Omega.{arith}
use lib.ListN.{length, drop, get_or}
use lib.Seq.{drop-cons}
use Rattle.words.specs.Words.{copied}
use Rattle.words.proofs.Laid.{copied-fits, laid-is}
use Rattle.std.specs.Prelude.{Result, Ok, Err}
use Rattle.flow.specs.Packet.{packet_length, packet_of, packet_words, right_packet_words, packet_in}
use Rattle.flow.specs.declared.Packet.{Packet}
use Rattle.flow.specs.declared.packets.InvalidPacket.{InvalidPacket}
use Rattle.flow.specs.Match.{match_length, match_of, match_words}
use Rattle.flow.specs.Theorems.{MatchWordsRead, MatchReadWords, MatchWrittenRead, PacketWordsRead, PacketReadWords, PacketWrittenRead}

-- words stored at the start of a buffer stand in front of the rest
pub copied-front : (F l : List ℕ) → length F ≤ length l → copied 0 F l ≡ F ++ drop (length F) l
copied-front F l h =
    let e : 0 + length F ≡ length F = omega arith in
    copied-fits 0 F l (omega arith) ∙ laid-is 0 F l (omega arith) ∙ ap (λ (k : ℕ). F ++ drop k l) e

-- the n words from place k on, one by one, and the rest
abbrev spelled : ℕ → ℕ → List ℕ → List ℕ
spelled zero k l = drop k l
spelled (suc n) k l = get_or l k 0 ∷ spelled n (suc k) l

spell : (n k : ℕ) (l : List ℕ) → k + n ≤ length l → spelled n k l ≡ drop k l
spell zero k l h = refl
spell (suc n) k l h = ap (λ r. get_or l k 0 ∷ r) (spell n (suc k) l (omega arith)) ∙ sym (drop-cons l k 0 (omega arith))

pub match-words-read : MatchWordsRead
match-words-read m l = refl

pub match-read-words : MatchReadWords
match-read-words l h = spell match_length 0 l h

pub match-written-read : MatchWrittenRead
match-written-read m l h = ap match_of (copied-front (match_words m) l h)

pub packet-words-read : PacketWordsRead
packet-words-read p l = refl

pub packet-read-words : PacketReadWords
packet-read-words l h = spell packet_length 0 l h

pub packet-written-read : PacketWrittenRead
packet-written-read p l h = ap packet_of (copied-front (packet_words p) l h)

-- where words are read as a packet they are its words, and where they are not they are none
pub packet-found : (l : List ℕ) (p : Packet) → packet_in l ≡ Ok p → (right_packet_words l ≡ true) × (packet_of l ≡ p)
unfolding packet_in
packet-found l p e = go (right_packet_words l) refl e
  where
    go : (t : Bool) → right_packet_words l ≡ t → ◌≡◌ {A = Result Packet InvalidPacket} (cond t (Ok (packet_of l)) (Err (record {}))) (Ok p)
        → (right_packet_words l ≡ true) × (packet_of l ≡ p)
    go true q h = (q, cc)
    go false q h = cc

pub packet-none : (l : List ℕ) (x : InvalidPacket) → packet_in l ≡ Err x → right_packet_words l ≡ false
unfolding packet_in
packet-none l x e = go (right_packet_words l) refl e
  where
    go : (t : Bool) → right_packet_words l ≡ t → ◌≡◌ {A = Result Packet InvalidPacket} (cond t (Ok (packet_of l)) (Err (record {}))) (Err x)
        → right_packet_words l ≡ false
    go true q h = cc
    go false q h = q
