-- What is found at the front of bytes: a part, or none where they end before, or are none such; and the bytes that are
-- left, behind the part or behind what showed that there is none. That a call so found is a call as it is sent:
-- Theorems.
--
--   found f o                 what was found, as f has it
--   then_in o f               what is found behind what was found
--   bytes_in n b              so many bytes
--   word_in b                 a word
--   at_most most n b          a number, if it is no more than so much
--   count_in most b           a word that is no more than so much
--   slice_in b                a slice of words
--   two_in, three_in          two slices, and three
--   text_in most b            bytes, no more than so many: how many there are, they, and what stands behind them up to
--                             a whole word
--   two_lent_in, three_lent_in, four_lent_in
--                             two, three and four buffers of bytes
--   read_in .. agent_number_in
--                             the call of that name, by what stands behind its number
--   body_in n b               the call of a number, by what stands behind the number
--   call_in b                 a call
--   TakenFrom o rest taken    what was taken is what is found, and the bytes behind it are left
--   Takes                     what was taken from an input is what is found in the bytes that it had
--   reply_to call             the reply to a call, or to none
--   Answers                   a call was taken, or none, and its reply was given
use Rattle.std.specs.Prelude.{ℕ, ◌≡◌, ◌*◌, ◌==◌, List, [], length, take, drop, Option, Some, None, IsSome, IsNone, is_some, nat_le, if◌then◌else◌}
use Rattle.std.specs.Option.{option_map}
use Rattle.words.specs.Bytes.{word_bytes, word_of, words_in}
use Rattle.streams.specs.declared.input.Input.{Input}
use Rattle.streams.specs.Input.{read_failure, left}
use Rattle.calls.specs.Sent.{most_words, most_bytes, most_lent, padding}
use Rattle.calls.specs.Calls.{Call, read, tree_action, compile, scan, number, list, hidden, capture, reply_of}
use Rattle.calls.specs.Calls.{agent_scan, agent_number}
use Rattle.calls.specs.Calls.{read_call, tree_action_call, compile_call, scan_call, number_call, list_call, hidden_call}
use Rattle.calls.specs.Calls.{capture_call, agent_scan_call, agent_number_call}

-- what was found, as f has it
abbrev pub found : {A B : Type 0} → (A → B) → Option A × List ℕ → Option B × List ℕ
found f o = (option_map f o.0, o.1)

-- what is found behind what was found; where that was none, no more is looked at
abbrev pub then_in : {A B : Type 0} → Option A × List ℕ → (A → List ℕ → Option B × List ℕ) → Option B × List ℕ
then_in (None, rest) f = (None, rest)
then_in (Some x, rest) f = f x rest

-- so many bytes; none where there are fewer, and then nothing is left
unfoldable pub bytes_in : ℕ → List ℕ → Option (List ℕ) × List ℕ
bytes_in n b = (if nat_le n (length b) then Some (take n b) else None, drop n b)

-- a word
unfoldable pub word_in : List ℕ → Option ℕ × List ℕ
word_in b = found word_of (bytes_in word_bytes b)

-- a number, if it is no more than so much
abbrev pub at_most : ℕ → ℕ → List ℕ → Option ℕ × List ℕ
at_most most n rest = (if nat_le n most then Some n else None, rest)

-- a word that is no more than so much
unfoldable pub count_in : ℕ → List ℕ → Option ℕ × List ℕ
count_in most b = then_in (word_in b) (at_most most)

-- a slice of words: its length, then its words
unfoldable pub slice_in : List ℕ → Option (List ℕ) × List ℕ
slice_in b = then_in (count_in most_words b) (λ n rest. found words_in (bytes_in (word_bytes * n) rest))

-- two slices
unfoldable pub two_in : List ℕ → Option (List ℕ × List ℕ) × List ℕ
two_in b = then_in (slice_in b) (λ x rest. found (λ y. (x, y)) (slice_in rest))

-- three slices
unfoldable pub three_in : List ℕ → Option (List ℕ × List ℕ × List ℕ) × List ℕ
three_in b = then_in (two_in b) (λ x rest. found (λ y. (x.0, x.1, y)) (slice_in rest))

-- bytes, no more than so many: how many there are, they, and what stands behind them up to a whole word
unfoldable pub text_in : ℕ → List ℕ → Option (List ℕ) × List ℕ
text_in most b =
    then_in (count_in most b)
    (λ n rest. then_in (bytes_in n rest) (λ text behind. found (λ pad. text) (bytes_in (padding n) behind)))

-- two buffers of bytes, as an agent's call brings them
unfoldable pub two_lent_in : List ℕ → Option (List ℕ × List ℕ) × List ℕ
two_lent_in b = then_in (text_in most_lent b) (λ x rest. found (λ y. (x, y)) (text_in most_lent rest))

-- three
unfoldable pub three_lent_in : List ℕ → Option (List ℕ × List ℕ × List ℕ) × List ℕ
three_lent_in b = then_in (two_lent_in b) (λ x rest. found (λ y. (x.0, x.1, y)) (text_in most_lent rest))

-- and four
unfoldable pub four_lent_in : List ℕ → Option (List ℕ × List ℕ × List ℕ × List ℕ) × List ℕ
four_lent_in b = then_in (three_lent_in b) (λ x rest. found (λ y. (x.0, x.1, x.2, y)) (text_in most_lent rest))

-- each call, by what stands behind its number
abbrev pub read_in : List ℕ → Option Call × List ℕ
read_in b = found (λ f. read f) (slice_in b)

abbrev pub tree_action_in : List ℕ → Option Call × List ℕ
tree_action_in b = found (λ s. tree_action s.0 s.1) (two_in b)

abbrev pub compile_in : List ℕ → Option Call × List ℕ
compile_in b = found (λ s. compile s.0 s.1 s.2) (three_in b)

abbrev pub scan_in : List ℕ → Option Call × List ℕ
scan_in b = found (λ s. scan s.0 s.1) (two_in b)

abbrev pub number_in : List ℕ → Option Call × List ℕ
number_in b = found (λ s. number s.0 s.1 s.2) (three_in b)

abbrev pub list_in : List ℕ → Option Call × List ℕ
list_in b = found (λ t. list t) (text_in most_bytes b)

abbrev pub hidden_in : List ℕ → Option Call × List ℕ
hidden_in b = found (λ t. hidden t) (slice_in b)

abbrev pub capture_in : List ℕ → Option Call × List ℕ
capture_in b = found (λ s. capture s.0 s.1 s.2) (three_in b)

abbrev pub agent_scan_in : List ℕ → Option Call × List ℕ
agent_scan_in b = found (λ s. agent_scan s.0 s.1 s.2) (three_lent_in b)

abbrev pub agent_number_in : List ℕ → Option Call × List ℕ
agent_number_in b = found (λ s. agent_number s.0 s.1 s.2 s.3) (four_lent_in b)

-- the call of a number, by what stands behind the number
unfoldable pub body_in : ℕ → List ℕ → Option Call × List ℕ
body_in n b =
    if n == read_call then read_in b
    else (if n == tree_action_call then tree_action_in b
    else (if n == compile_call then compile_in b
    else (if n == scan_call then scan_in b
    else (if n == number_call then number_in b
    else (if n == list_call then list_in b
    else (if n == hidden_call then hidden_in b
    else (if n == capture_call then capture_in b
    else (if n == agent_scan_call then agent_scan_in b
    else (if n == agent_number_call then agent_number_in b
    else (None, b))))))))))

-- A CALL: its number, then its slices
unfoldable pub call_in : List ℕ → Option Call × List ℕ
call_in b = then_in (word_in b) body_in

-- what was taken is what is found, or none, and the bytes that are left are those behind it
abbrev pub TakenFrom : {T : Type 0} → Option T × List ℕ → Option (List ℕ) → Option T → Type 0
TakenFrom o rest taken = (taken ≡ o.0) × (rest ≡ Some o.1)

-- what was taken from an input: unless a read failed, what is found in the bytes that it had, and no byte more was read
pub record Takes {R T : Type 0} (remaining : R → Option (List ℕ)) (find : List ℕ → Option T × List ℕ)
    (a b : Input R) (taken : Option T) : Type 0 where
  pub known :
      (all : List ℕ) → left remaining a ≡ Some all → IsNone (read_failure b)
      → TakenFrom (find all) (left remaining b) taken
  pub failed : IsSome (read_failure b) → IsNone taken

-- the reply to a call, none where there was no call
abbrev pub reply_to : Option Call → List ℕ
reply_to None = []
reply_to (Some call) = reply_of call

-- one call was taken, or none, and its reply was given
pub record Answers {R S T : Type 0} (remaining : R → Option (List ℕ)) (gives : S → List ℕ → S → Type 0)
    (find : List ℕ → Option Call × List ℕ) (a b : Input R) (s t : S) (answered : Option T) : Type 0 where
  pub call : Option Call
  pub taken : Takes remaining find a b call
  pub given : gives s (reply_to call) t
  pub told : is_some answered ≡ is_some call
