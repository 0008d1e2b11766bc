-- What each call is answered: words, as bytes, the lowest byte of each first. See tests/README.md, "The calls of
-- `answers`".
--
--   action_width, failure_width, table_refusal_width, refusal_width, layout_width, found_width
--                         how many words each value has
--   refusal_words r       the nine words of a refusal of a file
--   law_number f          the number of a broken law
--   failure_words f       the seven words of a broken law and the actions that show it
--   broken_words          those of a broken law that a refusal may name, zeros where it names none
--   table_refusal_words r, of_table x
--                         the two words of a refusal of a table, and the answer of a function that takes one
--   layout_words, action_words, found_words, row_count_words
--                         the words of each function's value
--   answer_words          the words of an answer: a refusal's, and then a value's
--   reading_words, evaluated_words, compiled_words, scanned_words, numbered_words, kept_words, captured_words
--                         the words of each function's answer, before the buffers
--   read_reply, action_reply, compile_reply, scan_reply, number_reply, hidden_reply, capture_reply, text_reply,
--   agent_scan_reply, agent_number_reply, and answered_reply, which both of these begin with
--                         the bytes that each call is answered, with every buffer that was lent for writing
use Rattle.std.specs.Prelude.{ℕ, ◌+◌, ◌*◌, List, [], ◌∷◌, ◌++◌, Option, Some, None, Result, Ok, Err, length, replicate}
use Rattle.words.specs.Words.{zeros}
use Rattle.words.specs.Records.{flat}
use Rattle.words.specs.Bytes.{bytes_of}
use Rattle.action.specs.Action.{kind_of, rate_of}
use Rattle.action.specs.Laws.{actions_of}
use Rattle.action.specs.declared.Action.{Action}
use Rattle.action.specs.declared.LawFailure.{LawFailure}
use Rattle.action.specs.declared.LawFailure.TheVariants.{Commutativity, Associativity}
use Rattle.refusal.specs.Refusals.{refusal_number, failure_of, answer_number, answer_place}
use Rattle.refusal.specs.declared.Refusal.{Refusal}
use Rattle.calls.specs.declared.replies.TableRefusal.{TableRefusal}
use Rattle.policy.specs.Read.{read_of}
use Rattle.policy.specs.declared.Layout.{Layout}
use Rattle.tree.specs.Action.{tree_action_of}
use Rattle.compile.specs.Compile.{answer_of, table_after, scratch_after}
use Rattle.table.specs.Scan.{scan_of}
use Rattle.table.specs.declared.Found.{Found}
use Rattle.priority.specs.Numbering.{number_of, priorities_after, chain_after}
use Rattle.hidden.specs.Hidden.{kept_of, table_kept}
use Rattle.capture.specs.Capture.{capture_of, answers_after}
use Rattle.exports.specs.Exports.{scan_number, scan_answer}
use Rattle.exports.specs.Exports.{numbering_number, numbering_answer, priorities_left, chain_left}
use Rattle.streams.specs.Count.{low}
use Rattle.calls.specs.Sent.{padding, counted}

-- how many words each value has: an action, its kind and rate;
abbrev pub action_width : ℕ
action_width = 2

-- a broken law, its number and three actions;
abbrev pub failure_width : ℕ
failure_width = 1 + 3 * action_width

-- a refusal of a table, number and place;
abbrev pub table_refusal_width : ℕ
table_refusal_width = 2

-- a refusal of a file, the broken law too;
abbrev pub refusal_width : ℕ
refusal_width = table_refusal_width + failure_width

-- an accepted file, three counts;
abbrev pub layout_width : ℕ
layout_width = 3

-- and what a scan found, the action and a count
abbrev pub found_width : ℕ
found_width = action_width + 1

-- the two words of an action
abbrev pub action_words : Action → List ℕ
action_words a = kind_of a ∷ rate_of a ∷ []

-- a law's number
abbrev pub law_number : LawFailure → ℕ
law_number (Commutativity a b) = 1
law_number (Associativity a b c) = 2

-- the seven words of a broken law and the actions that show it: don't care is the third where two show it
unfoldable pub failure_words : LawFailure → List ℕ
failure_words f = law_number f ∷ flat action_words (actions_of f)

-- those of the law that a refusal names, zeros where it names none
unfoldable pub broken_words : Option LawFailure → List ℕ
broken_words (Some f) = failure_words f
broken_words None = zeros failure_width

-- the nine words of a refusal: number, place, and the broken law, zeros where none is
unfoldable pub refusal_words : Refusal → List ℕ
refusal_words r = (refusal_number r ∷ low r.place ∷ []) ++ broken_words (failure_of r.reason)

-- number and place
abbrev pub table_refusal_words : TableRefusal → List ℕ
table_refusal_words r = refusal_number r.refusal ∷ low r.refusal.place ∷ []

-- the answer of a function that takes a table
abbrev pub of_table : {T : Type 0} → Result T Refusal → Result T TableRefusal
of_table (Ok x) = Ok x
of_table (Err r) = Err (record { refusal = r })

-- the three counts of an accepted file
abbrev pub layout_words : Layout → List ℕ
layout_words l = low l.operators ∷ low l.atoms ∷ low l.nodes ∷ []

-- what a scan found: the action, and how many rows were tried
abbrev pub found_words : Found → List ℕ
found_words f = kind_of f.action ∷ rate_of f.action ∷ low f.tried ∷ []

-- a count of rows
abbrev pub row_count_words : ℕ → List ℕ
row_count_words n = low n ∷ []

-- the words of an answer: a refusal's e words, zeros where there is none, and then the v words of a value, zeros where
-- it is refused
unfoldable pub answer_words : {T E : Type 0} → ℕ → (T → List ℕ) → ℕ → (E → List ℕ) → Result T E → List ℕ
answer_words v value e refusal (Ok x) = zeros e ++ value x
answer_words v value e refusal (Err r) = refusal r ++ zeros v

-- what reading answers
abbrev pub reading_words : Result Layout Refusal → List ℕ
reading_words r = answer_words layout_width layout_words refusal_width refusal_words r

-- the tree's action
abbrev pub evaluated_words : Result Action Refusal → List ℕ
evaluated_words r = answer_words action_width action_words refusal_width refusal_words r

-- what the compile answers
abbrev pub compiled_words : Result ℕ Refusal → List ℕ
compiled_words r = answer_words 1 row_count_words refusal_width refusal_words r

-- what the scan finds
abbrev pub scanned_words : Result Found Refusal → List ℕ
scanned_words r = answer_words found_width found_words table_refusal_width table_refusal_words (of_table r)

-- what the numbering answers
abbrev pub numbered_words : Result ℕ Refusal → List ℕ
numbered_words r = answer_words 1 (λ n. n ∷ []) table_refusal_width table_refusal_words (of_table r)

-- what the pass that takes hidden rows out answers
abbrev pub kept_words : Result ℕ Refusal → List ℕ
kept_words r = answer_words 1 row_count_words table_refusal_width table_refusal_words (of_table r)

-- what the scan of a capture answers: number and place, and no count, since the caller knows how many packets there are
unfoldable pub captured_words : Result ℕ Refusal → List ℕ
captured_words r = answer_number r ∷ low (answer_place r) ∷ []

-- the reply to reading a file
abbrev pub read_reply : List ℕ → List ℕ
read_reply f = flat bytes_of (reading_words (read_of f))

-- to the tree's action, of a file and a packet
abbrev pub action_reply : List ℕ → List ℕ → List ℕ
action_reply f p = flat bytes_of (evaluated_words (tree_action_of f p))

-- to the compile of a file, with the table and the scratch after it
unfoldable pub compile_reply : List ℕ → List ℕ → List ℕ → List ℕ
compile_reply f t s =
    (flat bytes_of (compiled_words (answer_of f t s)) ++ flat bytes_of (table_after f t s))
    ++ flat bytes_of (scratch_after f t s)

-- to the scan of a table, for a packet
abbrev pub scan_reply : List ℕ → List ℕ → List ℕ
scan_reply t p = flat bytes_of (scanned_words (scan_of t p))

-- to the numbering of a table, with the priorities and the chain after it
unfoldable pub number_reply : List ℕ → List ℕ → List ℕ → List ℕ
number_reply t ps cs =
    (flat bytes_of (numbered_words (number_of t (length ps) (length cs))) ++ flat bytes_of (priorities_after t ps cs))
    ++ flat bytes_of (chain_after t ps cs)

-- to the pass that takes hidden rows out, with the table after it
unfoldable pub hidden_reply : List ℕ → List ℕ
hidden_reply t = flat bytes_of (kept_words (kept_of t)) ++ flat bytes_of (table_kept t)

-- to the scan of a table for each packet of a capture, with the answers' buffer after it
unfoldable pub capture_reply : List ℕ → List ℕ → List ℕ → List ℕ
capture_reply t ps xs =
    flat bytes_of (captured_words (capture_of t ps (length xs))) ++ flat bytes_of (answers_after t ps xs)

-- a text: how many bytes there are, they, and zeros up to a whole word
abbrev pub text_reply : List ℕ → List ℕ
text_reply t = counted (low (length t)) t (replicate (padding (length t)) 0)

-- what each agent's call is answered first: its number, and the answer's buffer after it
unfoldable pub answered_reply : ℕ → List ℕ → List ℕ
answered_reply n a = bytes_of n ++ text_reply a

-- to an agent's scan of a table, for a packet
unfoldable pub agent_scan_reply : List ℕ → List ℕ → List ℕ → List ℕ
agent_scan_reply t p a = answered_reply (scan_number t p a) (scan_answer t p a)

-- to an agent's numbering of a table, with the priorities and the chain after it
unfoldable pub agent_number_reply : List ℕ → List ℕ → List ℕ → List ℕ → List ℕ
agent_number_reply t ps cs a =
    (answered_reply (numbering_number t ps cs a) (numbering_answer t ps cs a) ++ text_reply (priorities_left t ps cs a))
    ++ text_reply (chain_left t ps cs a)
