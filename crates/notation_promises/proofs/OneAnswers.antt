-- For each public function of the notation: its contract, as the checker reads it, asks nothing, and no second answer fits it; of one that needs memory,
-- that no second value fits it, since whether memory runs out no contract says.
use Rattle.std.proofs.Common.{ℕ, ◌%◌, ◌^◌, ◌≡◌, refl, sym, ◌∙◌, List, [], Option, None}
use Rattle.std.specs.declared.alloc.AllocError.{AllocError}
use mathlib.Core.List.{Mem, not-mem-nil}
use denote.RattleType.{RattleType}
use denote.Param.Laws.{Laws}
use denote.Builtin.{u8}
use mir.Syntax.{Dict}
use Rattle.logic.specs.Answers.{OneAnswer}
use Rattle.logic.proofs.Answers.{fixed}
use Rattle.tokens.specs.Left.{left}
use Rattle.tokens.proofs.Tokens.of.Reads as all_words
use Rattle.tokens.proofs.Tokens.word.Reads as first_word
use Rattle.tokens.proofs.Tokens.at.Reads as first_at
use Rattle.tokens.proofs.Tokens.is.Reads as first_is
use Rattle.tokens.proofs.Tokens.ended.Reads as ended
use Rattle.tokens.proofs.Tokens.advance.Reads as advance
use Rattle.tokens.proofs.place_of.Reads as place_of
use Rattle.values.proofs.number_of.Reads as number_of
use Rattle.values.proofs.prefix_of.Reads as prefix_of
use Rattle.values.proofs.unit_of.Reads as unit_of
use Rattle.values.proofs.protocol_of.Reads as protocol_of
use Rattle.values.proofs.code_of.Reads as code_of
use Rattle.values.proofs.is_name.Reads as is_name
use Rattle.values.proofs.near.Reads as near
use Rattle.notation.proofs.Policy.operators.Reads as operators
use Rattle.notation.proofs.Policy.nodes.Reads as nodes
use Rattle.notation.proofs.fault.ReadErrorFromAllocError.from.Reads as from_no_memory
use Rattle.notation.proofs.fault.ReadErrorFromFault.from.Reads as from_fault
use Rattle.notation.proofs.fault.ReadErrorFromAllocFailed.from.Reads as from_failed
use Rattle.streams.specs.declared.sink.Sink.{Ghosts}
use Rattle.streams.specs.contracts.counter.Counter as Counter
use Rattle.streams.specs.contracts.counter.CounterSink.TheImpl as CounterSink
use Rattle.canon.proofs.put_policy.Reads as put_policy
use Rattle.canon.proofs.put_action.Reads as put_action
use Rattle.canon.proofs.put_match.Reads as put_match
use Rattle.canon.proofs.put_address.Reads as put_address
use Rattle.canon.proofs.Kept.new.Reads as new_kept
use Rattle.canon.proofs.Kept.into_bytes.Reads as into_bytes
use Rattle.faults.proofs.number.Reads as number
use Rattle.faults.proofs.put_message.Reads as put_message
use Rattle.notation.proofs.read.Reads as read
use Rattle.canon.proofs.text_of.Reads as text_of
use Rattle.translate.proofs.to_words.Reads as to_words
use Rattle.translate.proofs.from_words.Reads as from_words
use Rattle.notation_promises.specs.OneValue.{OneValue, text_told, file_told, items_told}
use Rattle.notation_promises.proofs.OneValues.{of-text, of-file, of-items}

-- tokens: what is seen of the words that are left are these words
all_words-one : OneAnswer all_words.Pre all_words.Post (λ κ r s. left r)
all_words-one = fixed (λ κ a r s p. p)

first_word-one : OneAnswer first_word.Pre first_word.Post (λ κ r s. r.now)
first_word-one = fixed (λ κ a r s p. p)

first_at-one : OneAnswer first_at.Pre first_at.Post (λ κ r s. r)
first_at-one = fixed (λ κ a r s p. p)

first_is-one : OneAnswer first_is.Pre first_is.Post (λ κ r s. r)
first_is-one = fixed (λ κ a r s p. p)

ended-one : OneAnswer ended.Pre ended.Post (λ κ r s. r)
ended-one = fixed (λ κ a r s p. p)

advance-one : OneAnswer advance.Pre advance.Post (λ κ r s. left s.0.now)
advance-one = fixed (λ κ a r s p. p)

place_of-one : OneAnswer place_of.Pre place_of.Post (λ κ r s. r)
place_of-one = fixed (λ κ a r s p. p)

-- values
number_of-one : OneAnswer number_of.Pre number_of.Post (λ κ r s. r)
number_of-one = fixed (λ κ a r s p. p)

prefix_of-one : OneAnswer prefix_of.Pre prefix_of.Post (λ κ r s. r)
prefix_of-one = fixed (λ κ a r s p. p)

unit_of-one : OneAnswer unit_of.Pre unit_of.Post (λ κ r s. r)
unit_of-one = fixed (λ κ a r s p. p)

protocol_of-one : OneAnswer protocol_of.Pre protocol_of.Post (λ κ r s. r)
protocol_of-one = fixed (λ κ a r s p. p)

code_of-one : OneAnswer code_of.Pre code_of.Post (λ κ r s. r)
code_of-one = fixed (λ κ a r s p. p)

is_name-one : OneAnswer is_name.Pre is_name.Post (λ κ r s. r)
is_name-one = fixed (λ κ a r s p. p)

near-one : OneAnswer near.Pre near.Post (λ κ r s. r)
near-one = fixed (λ κ a r s p. p)

-- notation: of a policy its operators and its nodes, and the errors
operators-one : OneAnswer operators.Pre operators.Post (λ κ r s. r.now)
operators-one = fixed (λ κ a r s p. p)

nodes-one : OneAnswer nodes.Pre nodes.Post (λ κ r s. r.now)
nodes-one = fixed (λ κ a r s p. p)

from_no_memory-one : OneAnswer from_no_memory.Pre from_no_memory.Post (λ κ r s. r)
from_no_memory-one = fixed (λ κ a r s p. p)

from_fault-one : OneAnswer from_fault.Pre from_fault.Post (λ κ r s. r)
from_fault-one = fixed (λ κ a r s p. p)

-- a value of any type that holds no reference
record AnyValue : Type 2 where
  value : RattleType
  laws : Laws value
  dict : Dict
  holds_none : (i : ℕ) → Mem i value.lives → ⊥

-- as a byte
one_byte : Laws u8 → Dict → AnyValue
one_byte L D = record { value = u8; laws = L; dict = D; holds_none = λ i m. not-mem-nil m }

from_failed-one : (V : AnyValue) → OneAnswer (from_failed.Pre V.value V.laws V.dict) (from_failed.Post V.value V.laws V.dict) (λ κ r s. r)
from_failed-one V = record { asks_nothing = λ κ a i m. absurd (V.holds_none i m); no_second = λ κ a r₁ r₂ s₁ s₂ p q. p ∙ sym q }

-- what is seen of a sink whose type holds no reference: what it was, and the bytes that it was given, settle it
record SeenSink : Type 2 where
  sink : RattleType
  laws : Laws sink
  ghosts : Ghosts sink.Denot
  dict : Dict
  X : Type 0
  seen : sink.Denot → X
  holds_none : (i : ℕ) → Mem i sink.lives → ⊥
  settled : (a b c : sink.Denot) (xs : List ℕ) → ghosts.gives a xs b → ghosts.gives a xs c → seen b ≡ seen c

-- as how many bytes a counter has counted
counted : Laws Counter.the_row → Dict → SeenSink
counted L D = record {
  sink = Counter.the_row;
  laws = L;
  ghosts = CounterSink.ghosts;
  dict = D;
  X = ℕ;
  seen = λ c. c.low % 2 ^ 32;
  holds_none = λ i m. not-mem-nil m;
  settled = λ a b c xs p q. p ∙ sym q;
}

-- canon: a policy's text at any such sink
put_policy-one : (S : SeenSink) → OneAnswer (put_policy.Pre S.sink S.laws S.ghosts S.dict) (put_policy.Post S.sink S.laws S.ghosts S.dict)
    (λ κ r s. S.seen s.1.0.now)
put_policy-one S = record { asks_nothing = λ κ a i m. absurd (S.holds_none i m); no_second = λ κ a r₁ r₂ s₁ s₂ p q. S.settled _ _ _ _ p q }

-- canon: an action, a match and an address at any such sink
put_action-one : (S : SeenSink) → OneAnswer (put_action.Pre S.sink S.laws S.ghosts S.dict) (put_action.Post S.sink S.laws S.ghosts S.dict)
    (λ κ r s. S.seen s.1.0.now)
put_action-one S = record { asks_nothing = λ κ a i m. absurd (S.holds_none i m); no_second = λ κ a r₁ r₂ s₁ s₂ p q. S.settled _ _ _ _ p q }

put_match-one : (S : SeenSink) → OneAnswer (put_match.Pre S.sink S.laws S.ghosts S.dict) (put_match.Post S.sink S.laws S.ghosts S.dict)
    (λ κ r s. S.seen s.1.0.now)
put_match-one S = record { asks_nothing = λ κ a i m. absurd (S.holds_none i m); no_second = λ κ a r₁ r₂ s₁ s₂ p q. S.settled _ _ _ _ p q }

put_address-one : (S : SeenSink) → OneAnswer (put_address.Pre S.sink S.laws S.ghosts S.dict) (put_address.Post S.sink S.laws S.ghosts S.dict)
    (λ κ r s. S.seen s.1.0.now)
put_address-one S = record { asks_nothing = λ κ a i m. absurd (S.holds_none i m); no_second = λ κ a r₁ r₂ s₁ s₂ p q. S.settled _ _ _ _ p q }

-- faults: a fault's number, and its message at any such sink
number-one : OneAnswer number.Pre number.Post (λ κ r s. r)
number-one = fixed (λ κ a r s p. p)

put_message-one : (S : SeenSink) → OneAnswer (put_message.Pre S.sink S.laws S.ghosts S.dict) (put_message.Post S.sink S.laws S.ghosts S.dict)
    (λ κ r s. S.seen s.1.1.0.now)
put_message-one S = record { asks_nothing = λ κ a i m. absurd (S.holds_none i m); no_second = λ κ a r₁ r₂ s₁ s₂ p q. S.settled _ _ _ _ p q }

-- canon: the sink in memory, by what it has kept
abbrev kept_of : List ℕ → Option AllocError → List ℕ × Option AllocError
kept_of bytes failure = (bytes, failure)

new_kept-one : OneAnswer new_kept.Pre new_kept.Post (λ κ r s. kept_of r.bytes.items r.failure)
new_kept-one = fixed {d = λ κ a. kept_of [] None} (λ κ a r s p. rw (p.0, p.1) refl)

into_bytes-one : OneAnswer into_bytes.Pre into_bytes.Post (λ κ r s. r)
into_bytes-one = fixed (λ κ a r s p. p)

-- what needs memory, of which there may be too little: two values that are given are the same
read-value : OneValue read.Pre read.Post (λ κ r s. text_told r)
read-value = record { asks_nothing = λ κ a. tt; no_second = λ κ a r₁ r₂ s₁ s₂ p q. of-text _ r₁ r₂ p q }

text_of-value : OneValue text_of.Pre text_of.Post (λ κ r s. items_told (λ v. v.items) r)
text_of-value = record { asks_nothing = λ κ a. tt; no_second = λ κ a r₁ r₂ s₁ s₂ p q. of-items (λ v. v.items) _ r₁ r₂ p q }

to_words-value : OneValue to_words.Pre to_words.Post (λ κ r s. items_told (λ v. v.items) r)
to_words-value = record { asks_nothing = λ κ a. tt; no_second = λ κ a r₁ r₂ s₁ s₂ p q. of-items (λ v. v.items) _ r₁ r₂ p q }

from_words-value : OneValue from_words.Pre from_words.Post (λ κ r s. file_told r)
from_words-value = record { asks_nothing = λ κ a. tt; no_second = λ κ a r₁ r₂ s₁ s₂ p q. of-file _ r₁ r₂ p q }
