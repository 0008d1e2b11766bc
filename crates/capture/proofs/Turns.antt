-- The turns of the loops over packets: a packet is tested, and what is found for it is stored behind what was found before. Assumes nothing.
use Prim.Native.Nat.{ℕ, ◌+◌, ◌*◌, ◌-◌, ◌≤◌}
use native.Mathlib.Omega.{arith}
use mathlib.Core.Path.{◌≡◌, refl, sym, ap, ap₂, ◌∙◌}
use mathlib.Core.Bool.{true, false, not}
use mathlib.Core.List.{List, [], ◌∷◌}
use lib.ListN.{length, length-map}
use borrow.Author.Tests.{not-true, not-false}
use Rattle.std.specs.Prelude.{Result}
use Rattle.std.specs.Result.{is_err}
use Rattle.logic.proofs.Tests.{by-test}
use borrow.Rule.Slice.PartMut.{put_mid}
use Rattle.words.specs.Words.{laid}
use Rattle.words.specs.Records.{records, rows_of, flat}
use Rattle.words.proofs.RecordLaws.{length-records}
use Rattle.words.proofs.Laid.{laid_none, laid_then, put-laid}
use Rattle.flow.specs.Packet.{packet_length, packet_of, right_packet_words, packet_in}
use Rattle.flow.specs.declared.Packet.{Packet}
use Rattle.flow.specs.declared.packets.InvalidPacket.{InvalidPacket}
use Rattle.capture.specs.Capture.{found_length, packet_count, packets_in, words_for}

-- whether words are no packet
packet-told : (l : List ℕ) → is_err (packet_in l) ≡ not (right_packet_words l)
unfolding packet_in
packet-told l = by-test (right_packet_words l) (λ t. rw t refl) (λ t. rw t refl)

pub packet-right : (l : List ℕ) {r : Result Packet InvalidPacket} → packet_in l ≡ r → is_err r ≡ false → right_packet_words l ≡ true
packet-right l e f = not-false (right_packet_words l) (sym (packet-told l) ∙ ap is_err e ∙ f)

pub packet-wrong : (l : List ℕ) {r : Result Packet InvalidPacket} → packet_in l ≡ r → is_err r ≡ true → right_packet_words l ≡ false
packet-wrong l e f = not-true (right_packet_words l) (sym (packet-told l) ∙ ap is_err e ∙ f)

-- so many packets are read
pub length-packets : (ps : List ℕ) → length (packets_in ps) ≡ packet_count ps
unfolding rows_of
length-packets ps = length-map (records (packet_count ps) packet_length ps) packet_of ∙ length-records (packet_count ps) packet_length ps

-- what is found for the next packet, p, is put at its place
pub found-put : (ws : List ℕ) (p : Packet) (i n : ℕ) (l part : List ℕ) → i ≡ n → part ≡ words_for ws p → n * found_length + found_length ≤ length l
    → put_mid (i * found_length) (i * found_length + found_length - i * found_length) l part ≡ laid (n * found_length) (words_for ws p) l
found-put ws p i n l part e f h =
    let wide : i * found_length + found_length - i * found_length ≡ found_length = omega arith in
    put-laid (i * found_length) (i * found_length + found_length - i * found_length) (words_for ws p) l part f wide (omega (arith, e, h))
    ∙ ap (λ k. laid (k * found_length) (words_for ws p) l) e

-- and the others are still to be stored behind it
pub found-stored : (ws : List ℕ) (p : Packet) (M N : List Packet) (n n' : ℕ) (l l' whole : List ℕ)
    → laid (n * found_length) (flat (words_for ws) M) l ≡ whole → M ≡ p ∷ N → n' ≡ n + 1 → l' ≡ laid (n * found_length) (words_for ws p) l
    → laid (n' * found_length) (flat (words_for ws) N) l' ≡ whole
found-stored ws p M N n n' l l' whole e m k s =
    let at : ℕ = n * found_length in
    let next : n' * found_length ≡ at + found_length = omega (arith, k) in
    ap₂ (λ q x. laid q (flat (words_for ws) N) x) next s
    ∙ laid_then at (words_for ws p) (flat (words_for ws) N) l
    ∙ ap (λ L. laid at (flat (words_for ws) L) l) (sym m)
    ∙ e

-- all packets are done
pub all-stored : (ws : List ℕ) (N : List Packet) (at : ℕ) (l whole : List ℕ) → laid at (flat (words_for ws) N) l ≡ whole → N ≡ [] → l ≡ whole
all-stored ws N at l whole e n = sym (laid_none at l) ∙ ap (λ M. laid at (flat (words_for ws) M) l) (sym n) ∙ e
