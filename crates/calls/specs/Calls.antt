-- A call as it is sent, and the reply that it gets, both as bytes. See tests/README.md, "The calls of `answers`".
--
--   Call                       a call, with the slices that it brings
--   Within c                   its slices are no longer than is taken
--   read_call .. agent_number_call
--                              the number that each call begins with
--   Sent c s                   the bytes s are the call c: its number, and its slices
--   IsCall c s                 the same of a call that is within
--   reply_of c                 the bytes that a call is answered
use Rattle.std.specs.Prelude.{ℕ, ◌≡◌, ◌≤◌, List, ◌++◌, length}
use Rattle.words.specs.Bytes.{bytes_of}
use Rattle.calls.specs.Sent.{most_words, most_bytes, most_lent, slice_bytes, TextSent}
use Rattle.text.specs.Listing.{listing_of}
use Rattle.calls.specs.Replies.{read_reply, action_reply, compile_reply, scan_reply, number_reply, hidden_reply}
use Rattle.calls.specs.Replies.{capture_reply, text_reply, agent_scan_reply, agent_number_reply}

-- a call, with the slices that it brings: those of words, of a listing its bytes, and an agent's buffers of bytes
pub data Call : Type 0 where
  read : (file : List ℕ) → Call
  tree_action : (file packet : List ℕ) → Call
  compile : (file table scratch : List ℕ) → Call
  scan : (table packet : List ℕ) → Call
  number : (table priorities chain : List ℕ) → Call
  list : (file : List ℕ) → Call
  hidden : (table : List ℕ) → Call
  capture : (table packets answers : List ℕ) → Call
  agent_scan : (table packet answer : List ℕ) → Call
  agent_number : (table priorities chain answer : List ℕ) → Call

-- its slices are no longer than is taken
abbrev pub Within : Call → Type 0
Within (read f) = length f ≤ most_words
Within (tree_action f p) = (length f ≤ most_words) × (length p ≤ most_words)
Within (compile f t s) = (length f ≤ most_words) × (length t ≤ most_words) × (length s ≤ most_words)
Within (scan t p) = (length t ≤ most_words) × (length p ≤ most_words)
Within (number t ps cs) = (length t ≤ most_words) × (length ps ≤ most_words) × (length cs ≤ most_words)
Within (list b) = length b ≤ most_bytes
Within (hidden t) = length t ≤ most_words
Within (capture t ps xs) = (length t ≤ most_words) × (length ps ≤ most_words) × (length xs ≤ most_words)
Within (agent_scan t p a) = (length t ≤ most_lent) × (length p ≤ most_lent) × (length a ≤ most_lent)
Within (agent_number t ps cs a) =
    (length t ≤ most_lent) × (length ps ≤ most_lent) × (length cs ≤ most_lent) × (length a ≤ most_lent)

-- the number that each call begins with
abbrev pub read_call : ℕ
read_call = 1

abbrev pub tree_action_call : ℕ
tree_action_call = 2

abbrev pub compile_call : ℕ
compile_call = 3

abbrev pub scan_call : ℕ
scan_call = 4

abbrev pub number_call : ℕ
number_call = 5

abbrev pub list_call : ℕ
list_call = 6

abbrev pub hidden_call : ℕ
hidden_call = 7

abbrev pub capture_call : ℕ
capture_call = 8

abbrev pub agent_scan_call : ℕ
agent_scan_call = 9

abbrev pub agent_number_call : ℕ
agent_number_call = 10

-- each call begins with its number
abbrev pub Sent : Call → List ℕ → Type 0
Sent (read f) s = s ≡ bytes_of read_call ++ slice_bytes f
Sent (tree_action f p) s = s ≡ bytes_of tree_action_call ++ (slice_bytes f ++ slice_bytes p)
Sent (compile f t c) s = s ≡ bytes_of compile_call ++ ((slice_bytes f ++ slice_bytes t) ++ slice_bytes c)
Sent (scan t p) s = s ≡ bytes_of scan_call ++ (slice_bytes t ++ slice_bytes p)
Sent (number t ps cs) s = s ≡ bytes_of number_call ++ ((slice_bytes t ++ slice_bytes ps) ++ slice_bytes cs)
Sent (list b) s = (x : List ℕ) × TextSent b x × (s ≡ bytes_of list_call ++ x)
Sent (hidden t) s = s ≡ bytes_of hidden_call ++ slice_bytes t
Sent (capture t ps xs) s = s ≡ bytes_of capture_call ++ ((slice_bytes t ++ slice_bytes ps) ++ slice_bytes xs)
Sent (agent_scan t p a) s =
    (x : List ℕ) × (y : List ℕ) × (z : List ℕ) × TextSent t x × TextSent p y × TextSent a z
    × (s ≡ bytes_of agent_scan_call ++ ((x ++ y) ++ z))
Sent (agent_number t ps cs a) s =
    (x : List ℕ) × (y : List ℕ) × (z : List ℕ) × (w : List ℕ)
    × TextSent t x × TextSent ps y × TextSent cs z × TextSent a w
    × (s ≡ bytes_of agent_number_call ++ (((x ++ y) ++ z) ++ w))

-- the bytes are that call, which is within
pub record IsCall (call : Call) (bytes : List ℕ) : Type 0 where
  pub within : Within call
  pub sent : Sent call bytes

-- the reply to each call
abbrev pub reply_of : Call → List ℕ
reply_of (read f) = read_reply f
reply_of (tree_action f p) = action_reply f p
reply_of (compile f t s) = compile_reply f t s
reply_of (scan t p) = scan_reply t p
reply_of (number t ps cs) = number_reply t ps cs
reply_of (list b) = text_reply (listing_of b)
reply_of (hidden t) = hidden_reply t
reply_of (capture t ps xs) = capture_reply t ps xs
reply_of (agent_scan t p a) = agent_scan_reply t p a
reply_of (agent_number t ps cs a) = agent_number_reply t ps cs a
