-- The words of the notation: those with a meaning, and the names that people give. See docs/NOTATION.md, "Names".
--
--   unit_of                          how many kbit/s a unit is
--   protocol_of                      the number of a protocol that has a name
--   code_of                          the code of a word in a cell
--   own_words                        the words that are no names
--   is_letter, in_name, is_name      a name: letters, digits, - and _, a letter first, and no word of the notation
--   same_behind a b                  two words that are the same but for the first byte of one or of both
--   near a b                         two words that differ by one byte: another, one more or one less
use Rattle.std.specs.Prelude.{ℕ, Bool, true, false, not, ◌&&◌, ◌||◌, List, [], ◌∷◌, Option, Some, None, codes, length, if◌then◌else◌, ◌==◌, nat_le, bytes_eq}
use Rattle.values.specs.Numbers.{is_digit}

-- what stands behind the key of the first entry that is w
abbrev pub looked_up : List (List ℕ × ℕ) → List ℕ → Option ℕ
looked_up [] w = None
looked_up (e ∷ es) w = if bytes_eq w e.0 then Some e.1 else looked_up es w

-- the units of a rate, in kbit/s
abbrev pub units : List (List ℕ × ℕ)
units = (codes "kbit/s", 1) ∷ (codes "Mbit/s", 1000) ∷ (codes "Gbit/s", 1000000) ∷ []

unfoldable pub unit_of : List ℕ → Option ℕ
unit_of w = looked_up units w

-- the protocols that have a name
abbrev pub protocols : List (List ℕ × ℕ)
protocols = (codes "tcp", 6) ∷ (codes "udp", 17) ∷ (codes "icmp", 1) ∷ []

unfoldable pub protocol_of : List ℕ → Option ℕ
protocol_of w = looked_up protocols w

-- the words of cells, each with its code
abbrev pub cell_words : List (List ℕ × ℕ)
cell_words =
    (codes "allow", 1)
    ∷ (codes "deny", 2)
    ∷ (codes "left", 3)
    ∷ (codes "right", 4)
    ∷ (codes "larger", 5)
    ∷ (codes "smaller", 6)
    ∷ (codes "sum", 7)
    ∷ []

unfoldable pub code_of : List ℕ → Option ℕ
code_of w = looked_up cell_words w

-- the words of the notation, of which none is a name; the last ones are kept for later
abbrev pub own_words : List (List ℕ)
own_words =
    codes "operator" ∷ codes "node" ∷ codes "inside" ∷ codes "between" ∷ codes "below"
    ∷ codes "allow" ∷ codes "deny" ∷ codes "reserve" ∷ codes "none"
    ∷ codes "left" ∷ codes "right" ∷ codes "larger" ∷ codes "smaller" ∷ codes "sum"
    ∷ codes "any" ∷ codes "never" ∷ codes "in" ∷ codes "protocol" ∷ codes "tcp" ∷ codes "udp" ∷ codes "icmp"
    ∷ codes "from" ∷ codes "to" ∷ codes "port"
    ∷ codes "vlan" ∷ codes "limit"
    ∷ []

-- w is one of some words
abbrev pub one_of : List (List ℕ) → List ℕ → Bool
one_of [] w = false
one_of (x ∷ xs) w = bytes_eq w x || one_of xs w

-- w is one of three words
abbrev pub is_one : List ℕ → List ℕ → List ℕ → List ℕ → Bool
is_one w a b c = bytes_eq w a || bytes_eq w b || bytes_eq w c

unfoldable pub is_own_word : List ℕ → Bool
is_own_word w = one_of own_words w

abbrev pub is_letter : ℕ → Bool
is_letter b = (nat_le 65 b && nat_le b 90) || (nat_le 97 b && nat_le b 122)

-- a letter, a digit, - or _
abbrev pub in_name : ℕ → Bool
in_name b = is_letter b || is_digit b || b == 45 || b == 95

abbrev pub all_in_name : List ℕ → Bool
all_in_name [] = true
all_in_name (b ∷ bs) = in_name b && all_in_name bs

abbrev pub begins_by_letter : List ℕ → Bool
begins_by_letter [] = false
begins_by_letter (b ∷ bs) = is_letter b

-- a name
unfoldable pub is_name : List ℕ → Bool
is_name w = begins_by_letter w && all_in_name w && not (is_own_word w)

-- the same but for the first byte of one or of both
abbrev pub same_behind : List ℕ → List ℕ → Bool
same_behind [] [] = false
same_behind [] (c ∷ cs) = length cs == 0
same_behind (b ∷ bs) [] = length bs == 0
same_behind (b ∷ bs) (c ∷ cs) = bytes_eq bs cs || bytes_eq bs (c ∷ cs) || bytes_eq (b ∷ bs) cs

-- the same but for one byte: another, one more or one less
unfoldable pub near : List ℕ → List ℕ → Bool
near [] [] = false
near [] (c ∷ cs) = length cs == 0
near (b ∷ bs) [] = length bs == 0
near (b ∷ bs) (c ∷ cs) =
    if b == c then near bs cs else (bytes_eq bs cs || bytes_eq bs (c ∷ cs) || bytes_eq (b ∷ bs) cs)
