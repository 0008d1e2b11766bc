-- Packets, matches and actions word by word, by hand from docs/FORMAT.md. For each field of a packet and of a match
-- there are a packet that meets and one that does not, rows that share packets and rows that don't, a row inside
-- another and one that is not, by this field alone; and no two fields of one match or packet have equal values, so that
-- a field that is taken for another is noticed. A case has the number of its rule:
--
--   1   a packet's words and their ranges                         "Packets"
--   2   which of a match's words are right                        "Matches"
--   3   which packets meet a match                                "Matches"
--   4   which matches overlap: two priorities, else one           "Matches", "Priorities"
--   5   the common match                                          "Matches", "Rows"
--   6   which matches lie inside others: one row stays, else two  "Matches", "Hidden rows"
--   7   which two words are an action                             "Actions"
use Rattle.std.specs.Prelude.{ℕ, ◌*◌, List, [], ◌∷◌, ◌++◌, Result, Ok}
use Rattle.words.specs.Words.{zeros}
use Rattle.action.specs.declared.Action.{Action}
use Rattle.action.specs.declared.Action.TheVariants.{DontCare, Allow, Deny, Gmb}
use Rattle.row.specs.Row.{row_length}
use Rattle.refusal.specs.declared.Refusal.{Refusal}
use Rattle.table.specs.Table.{check_of}
use Rattle.table.specs.Scan.{scan_of, scan_action}
use Rattle.hidden.specs.Hidden.{kept_of}
use Rattle.priority.specs.Numbering.{number_of}
use Rattle.compile.specs.Compile.{table_after}
use Rattle.promises.specs.Cases.{Case, k, Hold, dotted}
use Rattle.promises.specs.Ports.{node}
use Rattle.promises.specs.Files.{fault}

-- a row by the nine words of its match, with Allow
abbrev pub allow : ℕ → ℕ → ℕ → ℕ → ℕ → ℕ → ℕ → ℕ → ℕ → List ℕ
allow in_port source destination protocol source_port destination_port source_length destination_length flags =
    in_port
    ∷ source
    ∷ destination
    ∷ protocol
    ∷ source_port
    ∷ destination_port
    ∷ source_length
    ∷ destination_length
    ∷ flags
    ∷ 1
    ∷ 0
    ∷ []

-- a row for every packet, with a kind and a rate
abbrev pub acted : ℕ → ℕ → List ℕ
acted kind rate = 0 ∷ 0 ∷ 0 ∷ 0 ∷ 0 ∷ 0 ∷ 0 ∷ 0 ∷ 0 ∷ kind ∷ rate ∷ []

-- rows for an in-port, a protocol, a source port and a destination port alone
abbrev pub by_in_port : ℕ → List ℕ
by_in_port n = allow n 0 0 0 0 0 0 0 1

abbrev pub by_protocol : ℕ → List ℕ
by_protocol n = allow 0 0 0 n 0 0 0 0 2

abbrev pub by_source_port : ℕ → List ℕ
by_source_port n = allow 0 0 0 0 n 0 0 0 4

abbrev pub by_destination_port : ℕ → List ℕ
by_destination_port n = allow 0 0 0 0 0 n 0 0 8

-- rows for a source prefix and a destination prefix alone
abbrev pub by_source : ℕ → ℕ → List ℕ
by_source address length = allow 0 address 0 0 0 0 length 0 0

abbrev pub by_destination : ℕ → ℕ → List ℕ
by_destination address length = allow 0 0 address 0 0 0 0 length 0

-- in-port 7, from 10.1.2.3 to 10.7.3.9, protocol 6, from port 1 to port 2
abbrev pub packet : List ℕ
packet = 7 ∷ dotted 10 1 2 3 ∷ dotted 10 7 3 9 ∷ 6 ∷ 1 ∷ 2 ∷ []

-- what the scan of one row gives that packet: Allow where it meets it
abbrev pub gets : List ℕ → Action
gets row = scan_action (scan_of row packet)

-- a row for that packet alone
abbrev pub exact : List ℕ
exact = allow 7 (dotted 10 1 2 3) (dotted 10 7 3 9) 6 1 2 32 32 15

-- in-port 7 and source port 1, from 10.1.0.0/16 to 10.0.0.0/8; protocol 6 and destination port 2, from 10.0.0.0/8 to
-- 10.7.3.9; and both at once
abbrev pub first_fields : List ℕ
first_fields = allow 7 (dotted 10 1 0 0) (dotted 10 0 0 0) 0 1 0 16 8 5

abbrev pub second_fields : List ℕ
second_fields = allow 0 (dotted 10 0 0 0) (dotted 10 7 3 9) 6 0 2 8 32 10

abbrev pub both_fields : List ℕ
both_fields = allow 7 (dotted 10 1 0 0) (dotted 10 7 3 9) 6 1 2 16 32 15

-- a buffer with room for three rows
abbrev pub three : List ℕ
three = zeros (3 * row_length)

-- how many priorities two rows get: two where they overlap
abbrev pub levels : List ℕ → List ℕ → Result ℕ Refusal
levels a b = number_of (a ++ b) 2 2

-- how many of two rows stay: one where the second lies inside the first
abbrev pub stay : List ℕ → List ℕ → Result ℕ Refusal
stay a b = kept_of (a ++ b)

abbrev pub field_cases : List Case
field_cases =
    -- 1: the largest packet, one past it in each field that has a range, a word less and a word more
    k 1 (fault (scan_of [] (65535 ∷ 4294967295 ∷ 4294967295 ∷ 255 ∷ 65535 ∷ 65535 ∷ []))) (0, 0)
    ∷ k 1 (fault (scan_of [] (65536 ∷ 0 ∷ 0 ∷ 0 ∷ 0 ∷ 0 ∷ []))) (11, 0)
    ∷ k 1 (fault (scan_of [] (0 ∷ 0 ∷ 0 ∷ 256 ∷ 0 ∷ 0 ∷ []))) (11, 0)
    ∷ k 1 (fault (scan_of [] (0 ∷ 0 ∷ 0 ∷ 0 ∷ 65536 ∷ 0 ∷ []))) (11, 0)
    ∷ k 1 (fault (scan_of [] (0 ∷ 0 ∷ 0 ∷ 0 ∷ 0 ∷ 65536 ∷ []))) (11, 0)
    ∷ k 1 (fault (scan_of [] (0 ∷ 0 ∷ 0 ∷ 0 ∷ 0 ∷ []))) (11, 0)
    ∷ k 1 (fault (scan_of [] (0 ∷ 0 ∷ 0 ∷ 0 ∷ 0 ∷ 0 ∷ 0 ∷ []))) (11, 0)
    -- 2: each value up to its range where its flag stands, and no further
    ∷ k 2 (fault (check_of (by_in_port 65535))) (0, 0)
    ∷ k 2 (fault (check_of (by_in_port 65536))) (16, 0)
    ∷ k 2 (fault (check_of (by_protocol 255))) (0, 0)
    ∷ k 2 (fault (check_of (by_protocol 256))) (16, 0)
    ∷ k 2 (fault (check_of (by_source_port 65535))) (0, 0)
    ∷ k 2 (fault (check_of (by_source_port 65536))) (16, 0)
    ∷ k 2 (fault (check_of (by_destination_port 65535))) (0, 0)
    ∷ k 2 (fault (check_of (by_destination_port 65536))) (16, 0)
    -- a value without its own flag, where all the other flags stand
    ∷ k 2 (fault (check_of (allow 7 0 0 6 1 2 0 0 14))) (16, 0)
    ∷ k 2 (fault (check_of (allow 7 0 0 6 1 2 0 0 13))) (16, 0)
    ∷ k 2 (fault (check_of (allow 7 0 0 6 1 2 0 0 11))) (16, 0)
    ∷ k 2 (fault (check_of (allow 7 0 0 6 1 2 0 0 7))) (16, 0)
    ∷ k 2 (fault (check_of (allow 7 0 0 6 1 2 0 0 15))) (0, 0)
    -- a constrained 0 is right
    ∷ k 2 (fault (check_of (allow 0 0 0 0 0 0 0 0 3))) (0, 0)
    -- an address ends with its prefix, whose length is up to 32
    ∷ k 2 (fault (check_of (by_source 4294967295 32))) (0, 0)
    ∷ k 2 (fault (check_of (by_source 4294967295 31))) (16, 0)
    ∷ k 2 (fault (check_of (by_source 4294967294 31))) (0, 0)
    ∷ k 2 (fault (check_of (by_source 0 33))) (16, 0)
    ∷ k 2 (fault (check_of (by_destination 4294967295 32))) (0, 0)
    ∷ k 2 (fault (check_of (by_destination 4294967295 31))) (16, 0)
    ∷ k 2 (fault (check_of (by_destination 4294967294 31))) (0, 0)
    ∷ k 2 (fault (check_of (by_destination 0 33))) (16, 0)
    -- flags above 15; the empty match is no row
    ∷ k 2 (fault (check_of (allow 0 0 0 0 0 0 0 0 16))) (16, 0)
    ∷ k 2 (fault (check_of (allow 0 0 0 0 0 0 0 0 17))) (16, 0)
    ∷ k 2 (fault (check_of (allow 0 0 0 0 0 0 0 0 32))) (16, 0)
    -- 3: each field alone, with the packet's value and with another that the packet has elsewhere
    ∷ k 3 (gets (by_in_port 7)) Allow
    ∷ k 3 (gets (by_in_port 1)) DontCare
    ∷ k 3 (gets (by_protocol 6)) Allow
    ∷ k 3 (gets (by_protocol 7)) DontCare
    ∷ k 3 (gets (by_source_port 1)) Allow
    ∷ k 3 (gets (by_source_port 2)) DontCare
    ∷ k 3 (gets (by_destination_port 2)) Allow
    ∷ k 3 (gets (by_destination_port 1)) DontCare
    ∷ k 3 (gets (by_source (dotted 10 1 2 3) 32)) Allow
    ∷ k 3 (gets (by_source (dotted 10 7 3 9) 32)) DontCare
    ∷ k 3 (gets (by_destination (dotted 10 7 3 9) 32)) Allow
    ∷ k 3 (gets (by_destination (dotted 10 1 2 3) 32)) DontCare
    -- a constrained 0 is not an unconstrained value
    ∷ k 3 (gets (by_in_port 0)) DontCare
    ∷ k 3 (gets (by_protocol 0)) DontCare
    ∷ k 3 (gets (by_source_port 0)) DontCare
    ∷ k 3 (gets (by_destination_port 0)) DontCare
    -- as many leading bits as the prefix has, of source and of destination
    ∷ k 3 (gets (by_source (dotted 10 1 0 0) 16)) Allow
    ∷ k 3 (gets (by_source (dotted 10 7 0 0) 16)) DontCare
    ∷ k 3 (gets (by_source (dotted 10 1 2 2) 31)) Allow
    ∷ k 3 (gets (by_source (dotted 10 1 2 2) 32)) DontCare
    ∷ k 3 (gets (by_destination (dotted 10 7 0 0) 16)) Allow
    ∷ k 3 (gets (by_destination (dotted 10 1 0 0) 16)) DontCare
    ∷ k 3 (gets (by_destination (dotted 10 7 3 8) 31)) Allow
    ∷ k 3 (gets (by_destination (dotted 10 7 3 8) 32)) DontCare
    -- all fields at once, and no field
    ∷ k 3 (gets exact) Allow
    ∷ k 3 (gets (allow 0 0 0 0 0 0 0 0 0)) Allow
    -- 4: two values of one field are apart, and so are two prefixes
    ∷ k 4 (levels (by_in_port 7) (by_in_port 8)) (Ok 1)
    ∷ k 4 (levels (by_in_port 7) (by_in_port 7)) (Ok 2)
    ∷ k 4 (levels (by_protocol 6) (by_protocol 17)) (Ok 1)
    ∷ k 4 (levels (by_protocol 6) (by_protocol 6)) (Ok 2)
    ∷ k 4 (levels (by_source_port 1) (by_source_port 2)) (Ok 1)
    ∷ k 4 (levels (by_source_port 1) (by_source_port 1)) (Ok 2)
    ∷ k 4 (levels (by_destination_port 1) (by_destination_port 2)) (Ok 1)
    ∷ k 4 (levels (by_destination_port 1) (by_destination_port 1)) (Ok 2)
    ∷ k 4 (levels (by_source (dotted 10 0 0 0) 8) (by_source (dotted 11 7 0 0) 16)) (Ok 1)
    ∷ k 4 (levels (by_source (dotted 10 7 0 0) 16) (by_source (dotted 10 0 0 0) 8)) (Ok 2)
    ∷ k 4 (levels (by_source (dotted 10 7 0 0) 16) (by_source (dotted 10 8 0 0) 16)) (Ok 1)
    ∷ k 4 (levels (by_destination (dotted 10 0 0 0) 8) (by_destination (dotted 11 7 0 0) 16)) (Ok 1)
    ∷ k 4 (levels (by_destination (dotted 10 7 0 0) 16) (by_destination (dotted 10 0 0 0) 8)) (Ok 2)
    ∷ k 4 (levels (by_destination (dotted 10 7 0 0) 16) (by_destination (dotted 10 8 0 0) 16)) (Ok 1)
    ∷ k 4 (levels (by_in_port 0) (by_in_port 7)) (Ok 1)
    ∷ k 4 (levels (by_protocol 6) (by_protocol 0)) (Ok 1)
    ∷ k 4 (levels (by_source_port 0) (by_source_port 1)) (Ok 1)
    ∷ k 4 (levels (by_destination_port 2) (by_destination_port 0)) (Ok 1)
    -- different fields keep nothing apart
    ∷ k 4 (levels (by_in_port 7) (by_protocol 6)) (Ok 2)
    ∷ k 4 (levels (by_source_port 1) (by_destination_port 2)) (Ok 2)
    ∷ k 4 (levels (by_source (dotted 10 0 0 0) 8) (by_destination (dotted 11 0 0 0) 8)) (Ok 2)
    -- 5: each value of the two that has its flag, and for each address the longer prefix, whichever of the two has it
    ∷ k 5 (table_after (node 2 (first_fields ++ second_fields)) three three)
    (both_fields ++ first_fields ++ second_fields)
    ∷ k 5 (table_after (node 2 (second_fields ++ first_fields)) three three)
    (both_fields ++ second_fields ++ first_fields)
    -- 6: by one field, with an equal value, another value and without one; by a longer prefix and by a shorter
    ∷ k 6 (stay (by_in_port 7) exact) (Ok 1)
    ∷ k 6 (stay (by_in_port 1) exact) (Ok 2)
    ∷ k 6 (stay exact (by_in_port 7)) (Ok 2)
    ∷ k 6 (stay (by_in_port 7) (by_protocol 6)) (Ok 2)
    ∷ k 6 (stay (by_protocol 6) exact) (Ok 1)
    ∷ k 6 (stay (by_protocol 7) exact) (Ok 2)
    ∷ k 6 (stay (by_protocol 6) (by_in_port 7)) (Ok 2)
    ∷ k 6 (stay (by_source_port 1) exact) (Ok 1)
    ∷ k 6 (stay (by_source_port 2) exact) (Ok 2)
    ∷ k 6 (stay (by_source_port 1) (by_protocol 6)) (Ok 2)
    ∷ k 6 (stay (by_destination_port 2) exact) (Ok 1)
    ∷ k 6 (stay (by_destination_port 1) exact) (Ok 2)
    ∷ k 6 (stay (by_destination_port 2) (by_protocol 6)) (Ok 2)
    ∷ k 6 (stay (by_source (dotted 10 1 0 0) 16) exact) (Ok 1)
    ∷ k 6 (stay (by_source (dotted 10 7 0 0) 16) exact) (Ok 2)
    ∷ k 6 (stay (by_source (dotted 10 0 0 0) 16) (by_source (dotted 10 0 0 0) 8)) (Ok 2)
    ∷ k 6 (stay (by_destination (dotted 10 7 0 0) 16) exact) (Ok 1)
    ∷ k 6 (stay (by_destination (dotted 10 1 0 0) 16) exact) (Ok 2)
    ∷ k 6 (stay (by_destination (dotted 10 0 0 0) 16) (by_destination (dotted 10 0 0 0) 8)) (Ok 2)
    -- without a value of its own a row lies in no constrained 0
    ∷ k 6 (stay (by_in_port 0) (by_protocol 6)) (Ok 2)
    ∷ k 6 (stay (by_protocol 0) (by_in_port 7)) (Ok 2)
    ∷ k 6 (stay (by_source_port 0) (by_protocol 6)) (Ok 2)
    ∷ k 6 (stay (by_destination_port 0) (by_protocol 6)) (Ok 2)
    -- of rows with equal matches the first stays
    ∷ k 6 (stay exact exact) (Ok 1)
    -- 7: a rate is GMB's alone, 1..100,000,000
    ∷ k 7 (fault (check_of (acted 0 0))) (0, 0)
    ∷ k 7 (fault (check_of (acted 0 1))) (16, 0)
    ∷ k 7 (fault (check_of (acted 1 0))) (0, 0)
    ∷ k 7 (fault (check_of (acted 1 1))) (16, 0)
    ∷ k 7 (fault (check_of (acted 2 0))) (0, 0)
    ∷ k 7 (fault (check_of (acted 2 1))) (16, 0)
    ∷ k 7 (fault (check_of (acted 3 0))) (16, 0)
    ∷ k 7 (fault (check_of (acted 3 1))) (0, 0)
    ∷ k 7 (fault (check_of (acted 3 100000000))) (0, 0)
    ∷ k 7 (fault (check_of (acted 3 100000001))) (16, 0)
    ∷ k 7 (fault (check_of (acted 4 0))) (16, 0)
    ∷ k 7 (gets (acted 0 0)) DontCare
    ∷ k 7 (gets (acted 1 0)) Allow
    ∷ k 7 (gets (acted 2 0)) Deny
    ∷ k 7 (gets (acted 3 100000000)) (Gmb 100000000)
    ∷ []

-- WHAT IS ANSWERED FOR EACH FIELD
abbrev pub FieldCases : Type 0
FieldCases = Hold field_cases
