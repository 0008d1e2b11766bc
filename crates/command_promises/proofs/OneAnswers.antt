-- For each public function that the command asks: its contract, as the checker reads it, asks nothing, and no second answer fits it; of one that needs
-- memory, that no second value fits it, since whether memory runs out no contract says.
use Rattle.std.proofs.Common.{ℕ, ◌%◌, ◌^◌, ◌≡◌, sym, ◌∙◌, List}
use mathlib.Core.List.{Mem, not-mem-nil}
use denote.RattleType.{RattleType}
use denote.Param.Laws.{Laws}
use denote.Builtin.{u8}
use mir.Syntax.{Dict}
use Rattle.logic.specs.Answers.{OneAnswer}
use Rattle.logic.proofs.Answers.{fixed}
use Rattle.flow.specs.contracts.Packet as Packet
use Rattle.flow.specs.contracts.Match as Match
use Rattle.streams.specs.declared.sink.Sink.{Ghosts}
use Rattle.streams.specs.contracts.counter.Counter as Counter
use Rattle.streams.specs.contracts.counter.CounterSink.TheImpl as CounterSink
use Rattle.origins.proofs.origins.Reads as origins
use Rattle.witness.proofs.shared_packet.Reads as shared_packet
use Rattle.packet_text.proofs.read.Reads as read_packet
use Rattle.packet_text.proofs.put_packet.Reads as put_packet
use Rattle.decimals.proofs.read.Reads as read_numbers
use Rattle.decimals.proofs.begins_with_digit.Reads as begins_with_digit
use Rattle.decimals.proofs.put_words.Reads as put_words
use Rattle.decimals.proofs.numbers.ReadErrorFromAllocFailed.from.Reads as from_failed
use Rattle.trace.specs.declared.Asked as Asked
use Rattle.trace.specs.contracts.PacketAsked.TheImpl as PacketAsked
use Rattle.trace.specs.contracts.MatchAsked.TheImpl as MatchAsked
use Rattle.trace.proofs.PacketAsked.meets_match.Reads as packet_meets
use Rattle.trace.proofs.MatchAsked.meets_match.Reads as match_meets
use Rattle.trace.proofs.steps.Reads as steps
use Rattle.idle.proofs.idle.Reads as idle
use Rattle.notation_promises.specs.OneValue.{OneValue, items_told}
use Rattle.notation_promises.proofs.OneValues.{of-items}
use Rattle.command_promises.specs.OneValue.{numbers_told, places_told, steps_told}
use Rattle.command_promises.proofs.OneValues.{of-numbers, of-places, of-steps}

-- witness
shared_packet-one : OneAnswer shared_packet.Pre shared_packet.Post (λ κ r s. r)
shared_packet-one = fixed (λ κ a r s p. p)

-- packet_text
read_packet-one : OneAnswer read_packet.Pre read_packet.Post (λ κ r s. r)
read_packet-one = fixed (λ κ a r s p. p)

-- what is seen of a sink whose type holds no reference: what it was, and the bytes that it was given, settle it
record SeenSink : Type 2 where
  sink : RattleType
  laws : Laws sink
  ghosts : Ghosts sink.Denot
  dict : Dict
  X : Type 0
  seen : sink.Denot → X
  holds_none : (i : ℕ) → Mem i sink.lives → ⊥
  settled : (a b c : sink.Denot) (xs : List ℕ) → ghosts.gives a xs b → ghosts.gives a xs c → seen b ≡ seen c

-- as how many bytes a counter has counted
counted : Laws Counter.the_row → Dict → SeenSink
counted L D = record {
  sink = Counter.the_row;
  laws = L;
  ghosts = CounterSink.ghosts;
  dict = D;
  X = ℕ;
  seen = λ c. c.low % 2 ^ 32;
  holds_none = λ i m. not-mem-nil m;
  settled = λ a b c xs p q. p ∙ sym q;
}

-- a packet's words at any such sink
put_packet-one : (S : SeenSink) → OneAnswer (put_packet.Pre S.sink S.laws S.ghosts S.dict) (put_packet.Post S.sink S.laws S.ghosts S.dict)
    (λ κ r s. S.seen s.1.0.now)
put_packet-one S = record { asks_nothing = λ κ a i m. absurd (S.holds_none i m); no_second = λ κ a r₁ r₂ s₁ s₂ p q. S.settled _ _ _ _ p q }

-- decimals: whether a text begins with a digit, a text at any such sink, and the error
begins_with_digit-one : OneAnswer begins_with_digit.Pre begins_with_digit.Post (λ κ r s. r)
begins_with_digit-one = fixed (λ κ a r s p. p)

put_words-one : (S : SeenSink) → OneAnswer (put_words.Pre S.sink S.laws S.ghosts S.dict) (put_words.Post S.sink S.laws S.ghosts S.dict)
    (λ κ r s. S.seen s.1.0.now)
put_words-one S = record { asks_nothing = λ κ a i m. absurd (S.holds_none i m); no_second = λ κ a r₁ r₂ s₁ s₂ p q. S.settled _ _ _ _ p q }

-- a value of any type that holds no reference
record AnyValue : Type 2 where
  value : RattleType
  laws : Laws value
  dict : Dict
  holds_none : (i : ℕ) → Mem i value.lives → ⊥

-- as a byte
one_byte : Laws u8 → Dict → AnyValue
one_byte L D = record { value = u8; laws = L; dict = D; holds_none = λ i m. not-mem-nil m }

from_failed-one : (V : AnyValue) → OneAnswer (from_failed.Pre V.value V.laws V.dict) (from_failed.Post V.value V.laws V.dict) (λ κ r s. r)
from_failed-one V = record { asks_nothing = λ κ a i m. absurd (V.holds_none i m); no_second = λ κ a r₁ r₂ s₁ s₂ p q. p ∙ sym q }

-- trace: which matches a packet meets, and a match
packet_meets-one : OneAnswer packet_meets.Pre packet_meets.Post (λ κ r s. r)
packet_meets-one = fixed (λ κ a r s p. p)

match_meets-one : OneAnswer match_meets.Pre match_meets.Post (λ κ r s. r)
match_meets-one = fixed (λ κ a r s p. p)

-- what is asked, of any type that holds no reference
record AnyAsked : Type 2 where
  asked : RattleType
  laws : Laws asked
  ghosts : Asked.Ghosts asked.Denot
  dict : Dict
  holds_none : (i : ℕ) → Mem i asked.lives → ⊥

-- as a packet, and as a match
asked_packet : Laws Packet.the_row → Dict → AnyAsked
asked_packet L D = record { asked = Packet.the_row; laws = L; ghosts = PacketAsked.ghosts; dict = D; holds_none = λ i m. not-mem-nil m }

asked_match : Laws Match.the_row → Dict → AnyAsked
asked_match L D = record { asked = Match.the_row; laws = L; ghosts = MatchAsked.ghosts; dict = D; holds_none = λ i m. not-mem-nil m }

-- what needs memory, of which there may be too little: two values that are given are the same
origins-value : OneValue origins.Pre origins.Post (λ κ r s. items_told (λ v. v.items) r)
origins-value = record { asks_nothing = λ κ a. tt; no_second = λ κ a r₁ r₂ s₁ s₂ p q. of-items (λ v. v.items) _ r₁ r₂ p q }

read_numbers-value : OneValue read_numbers.Pre read_numbers.Post (λ κ r s. numbers_told (λ v. v.items) r)
read_numbers-value = record { asks_nothing = λ κ a. tt; no_second = λ κ a r₁ r₂ s₁ s₂ p q. of-numbers (λ v. v.items) _ r₁ r₂ p q }

steps-value : (Q : AnyAsked) → OneValue (steps.Pre Q.asked Q.laws Q.ghosts Q.dict) (steps.Post Q.asked Q.laws Q.ghosts Q.dict) (λ κ r s. steps_told r)
steps-value Q = record {
  asks_nothing = λ κ a i m. absurd (Q.holds_none i m);
  no_second = λ κ a r₁ r₂ s₁ s₂ p q. of-steps _ _ _ r₁ r₂ p q;
}

idle-value : OneValue idle.Pre idle.Post (λ κ r s. places_told (λ v. v.items) r)
idle-value = record { asks_nothing = λ κ a. tt; no_second = λ κ a r₁ r₂ s₁ s₂ p q. of-places (λ v. v.items) _ _ r₁ r₂ p q }
