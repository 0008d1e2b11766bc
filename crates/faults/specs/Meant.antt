-- The words that can have been meant where another one stands. See docs/NOTATION.md, "Messages".
--
--   word_text               the bytes of a word
--   is_close w x            w is x but for the case of letters, or differs from it by one byte
--   meant w xs              the first word that w is close to
--   any_word w xs           w is one of some words
--   candidates              the words that are wanted at a place
--   own                     the words that are no names
use Rattle.std.specs.Prelude.{ℕ, Bool, false, not, ◌&&◌, ◌||◌, List, [], ◌∷◌, Option, Some, None, codes, if◌then◌else◌, bytes_eq}
use Rattle.std.specs.Str.{str_eq_ignore_ascii_case}
use Rattle.values.specs.Words.{near}
use Rattle.notation.specs.declared.fault.Wanted.{Wanted}
use Rattle.notation.specs.declared.fault.Wanted.TheVariants as wanted
use Rattle.faults.specs.declared.word.Word.{Word}
use Rattle.faults.specs.declared.word.Word.TheVariants as words

-- the bytes of a word
abbrev pub word_text : Word → List ℕ
word_text words.Operator = codes "operator"
word_text words.Node = codes "node"
word_text words.Inside = codes "inside"
word_text words.Between = codes "between"
word_text words.Below = codes "below"
word_text words.Allow = codes "allow"
word_text words.Deny = codes "deny"
word_text words.Reserve = codes "reserve"
word_text words.None = codes "none"
word_text words.Left = codes "left"
word_text words.Right = codes "right"
word_text words.Larger = codes "larger"
word_text words.Smaller = codes "smaller"
word_text words.Sum = codes "sum"
word_text words.Any = codes "any"
word_text words.Never = codes "never"
word_text words.In = codes "in"
word_text words.Protocol = codes "protocol"
word_text words.Tcp = codes "tcp"
word_text words.Udp = codes "udp"
word_text words.Icmp = codes "icmp"
word_text words.From = codes "from"
word_text words.To = codes "to"
word_text words.Port = codes "port"
word_text words.Sibling = codes "sibling"
word_text words.Parent = codes "parent"
word_text words.Vlan = codes "vlan"
word_text words.Limit = codes "limit"
word_text words.Kbit = codes "kbit/s"
word_text words.Mbit = codes "Mbit/s"
word_text words.Gbit = codes "Gbit/s"

-- w is x but for the case of letters, or differs from it by one byte
abbrev pub is_close : List ℕ → List ℕ → Bool
is_close w x = not (bytes_eq w x) && (str_eq_ignore_ascii_case w x || near w x)

-- the first word that w is close to
abbrev pub meant : List ℕ → List Word → Option Word
meant w [] = None
meant w (x ∷ xs) = if is_close w (word_text x) then Some x else meant w xs

-- w is one of some words
abbrev pub any_word : List ℕ → List Word → Bool
any_word w [] = false
any_word w (x ∷ xs) = bytes_eq w (word_text x) || any_word w xs

-- the words that are wanted at a place, but for names and marks
abbrev pub candidates : Wanted → List Word
candidates wanted.Start = words.Operator ∷ words.Node ∷ []
candidates wanted.OperatorName = []
candidates wanted.Table = []
candidates wanted.AllowHeading = words.Allow ∷ []
candidates wanted.DenyHeading = words.Deny ∷ []
candidates wanted.ReserveHeading = words.Reserve ∷ []
candidates wanted.Cell = words.Allow ∷ words.Deny ∷ words.Left ∷ words.Right ∷ []
candidates wanted.RateCell =
    words.Allow ∷ words.Deny ∷ words.Left ∷ words.Right ∷ words.Larger ∷ words.Smaller ∷ words.Sum ∷ []
candidates wanted.TableEnd = []
candidates wanted.NodeName = []
candidates wanted.Block = words.Inside ∷ words.Between ∷ words.Below ∷ []
candidates wanted.Line = words.Node ∷ []
candidates wanted.NodeOrEnd = words.Node ∷ []
candidates wanted.Action = words.Allow ∷ words.Deny ∷ words.Reserve ∷ words.None ∷ []
candidates wanted.Rate = []
candidates wanted.Unit = []
candidates wanted.Match =
    words.Any ∷ words.Never ∷ words.In ∷ words.Protocol ∷ words.Tcp ∷ words.Udp ∷ words.Icmp ∷ words.From ∷ words.To
    ∷ []
candidates wanted.Port = []
candidates wanted.Protocol = []
candidates wanted.Prefix = words.Port ∷ []
candidates wanted.End = []

-- the words that are no names
abbrev pub own : List Word
own =
    words.Operator ∷ words.Node ∷ words.Inside ∷ words.Between ∷ words.Below
    ∷ words.Allow ∷ words.Deny ∷ words.Reserve ∷ words.None
    ∷ words.Left ∷ words.Right ∷ words.Larger ∷ words.Smaller ∷ words.Sum
    ∷ words.Any ∷ words.Never ∷ words.In ∷ words.Protocol ∷ words.Tcp ∷ words.Udp ∷ words.Icmp
    ∷ words.From ∷ words.To ∷ words.Port
    ∷ words.Vlan ∷ words.Limit
    ∷ []
