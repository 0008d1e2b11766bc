-- Listings byte by byte, by hand from docs/FORMAT.md, "The listing": each column, each action, the numbers of the first
-- line, the order of lines, and the two numbers of a refusal. The input's bytes are written as they are, by words of
-- four bytes.
--
--   listing_cases   the list; a case has 1 for rows, 2 for a refusal
use Rattle.std.specs.Prelude.{ℕ, List, [], ◌∷◌, ◌++◌, codes}
use Rattle.words.specs.Records.{flat}
use Rattle.words.specs.Bytes.{bytes_of}
use Rattle.text.specs.Listing.{listing_of}
use Rattle.promises.specs.Cases.{Case, k, Hold, dotted}
use Rattle.promises.specs.Ports.{node}
use Rattle.promises.specs.Files.{no_atoms, one_operator, chain}
use Rattle.promises.specs.Fields.{allow}
use Rattle.promises.specs.Trees.{at_port, gmb}

-- each action, on an in-port of its own
abbrev pub every_action : List ℕ
every_action = node 4 (at_port 1 0 0 ++ at_port 2 1 0 ++ at_port 3 2 0 ++ at_port 65535 3 100000000)

-- every column with a value of its own
abbrev pub every_value : List ℕ
every_value = node 1 (allow 12345 (dotted 255 254 0 0) (dotted 10 7 3 9) 17 6789 80 15 32 15)

-- in-port and protocol constrained to 0, and both prefixes
abbrev pub zero_values : List ℕ
zero_values = node 1 (allow 0 (dotted 1 2 3 0) (dotted 4 5 0 0) 0 0 0 24 16 3)

-- in-port 7, in-port 8 and protocol 6: five rows, of which none is hidden, on three levels
abbrev pub five_rows : List ℕ
five_rows = node 3 (at_port 7 1 0 ++ gmb 8 0 0 1 20 ++ gmb 0 6 0 2 30)

-- in-port 7, and with it protocol 6: of three rows the last lies inside the first, which has the same match
abbrev pub one_hidden : List ℕ
one_hidden = node 2 (at_port 7 1 0 ++ gmb 7 6 0 3 30)

abbrev pub listing_cases : List Case
listing_cases =
    k 1 (listing_of (flat bytes_of every_action))
    (flat codes
    ("rows 4 priorities 1\n"
    ∷ "1 1 0.0.0.0/0 0.0.0.0/0 * * * none\n"
    ∷ "1 2 0.0.0.0/0 0.0.0.0/0 * * * allow\n"
    ∷ "1 3 0.0.0.0/0 0.0.0.0/0 * * * deny\n"
    ∷ "1 65535 0.0.0.0/0 0.0.0.0/0 * * * gmb 100000000\n"
    ∷ []))
    ∷ k 1 (listing_of (flat bytes_of every_value))
    (flat codes ("rows 1 priorities 1\n" ∷ "1 12345 255.254.0.0/15 10.7.3.9/32 17 6789 80 allow\n" ∷ []))
    ∷ k 1 (listing_of (flat bytes_of zero_values))
    (flat codes ("rows 1 priorities 1\n" ∷ "1 0 1.2.3.0/24 4.5.0.0/16 0 * * allow\n" ∷ []))
    ∷ k 1 (listing_of (flat bytes_of five_rows))
    (flat codes
    ("rows 5 priorities 3\n"
    ∷ "3 7 0.0.0.0/0 0.0.0.0/0 6 * * gmb 30\n"
    ∷ "2 7 0.0.0.0/0 0.0.0.0/0 * * * allow\n"
    ∷ "3 8 0.0.0.0/0 0.0.0.0/0 6 * * gmb 30\n"
    ∷ "2 8 0.0.0.0/0 0.0.0.0/0 * * * gmb 20\n"
    ∷ "1 * 0.0.0.0/0 0.0.0.0/0 6 * * gmb 30\n"
    ∷ []))
    ∷ k 1 (listing_of (flat bytes_of one_hidden))
    (flat codes
    ("rows 2 priorities 2\n"
    ∷ "2 7 0.0.0.0/0 0.0.0.0/0 6 * * gmb 30\n"
    ∷ "1 7 0.0.0.0/0 0.0.0.0/0 * * * allow\n"
    ∷ []))
    -- the number stands before the place
    ∷ k 2 (listing_of (flat bytes_of (one_operator ++ (1025 ∷ [])))) (codes "refused 2 10\n")
    ∷ k 2 (listing_of (flat bytes_of (no_atoms ++ (17 ∷ chain 16)))) (codes "refused 8 16\n")
    -- 18 comes first: three bytes, and a byte behind a word
    ∷ k 2 (listing_of (0 ∷ 0 ∷ 0 ∷ [])) (codes "refused 18 0\n")
    ∷ k 2 (listing_of (33 ∷ 0 ∷ 0 ∷ 0 ∷ 0 ∷ [])) (codes "refused 18 0\n")
    -- a word's lowest byte is its first: 33 operators, and 32
    ∷ k 2 (listing_of (33 ∷ 0 ∷ 0 ∷ 0 ∷ [])) (codes "refused 2 0\n")
    ∷ k 2 (listing_of (32 ∷ 0 ∷ 0 ∷ 0 ∷ [])) (codes "refused 1 1\n")
    ∷ []

-- WHAT IS LISTED OF EACH
abbrev pub ListingCases : Type 0
ListingCases = Hold listing_cases
