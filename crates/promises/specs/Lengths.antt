-- How long the text of a listing is: no line of it has more than 340 bytes, and no listing more than 348,500, whatever
-- the input is.
--
--   longest_line     the most bytes of a line, its line end among them
--   longest_listing  the most bytes of a listing: the first line, and one for each row that a listing has room for
--   Short n          n has at most 20 digits, as each number below 2 ^ 64 has
--   ShortRow r       the numbers of the row r are short; its addresses may be any
--   LineWithin       the line of a row is no longer, where its priority and its numbers are short,
--   HeadWithin       nor is a first line, of any numbers,
--   RefusalWithin    nor that of a refusal, of any number and place
--   NeverCut         no listing is longer
--   ListingLengths   all of these
use Rattle.std.specs.Prelude.{ℕ, ◌+◌, ◌*◌, ◌^◌, ◌≤◌, ◌<◌, List, length}
use Rattle.theory.specs.declared.Row.{Row}
use Rattle.flow.specs.declared.Match.{Match}
use Rattle.action.specs.Action.{rate_of}
use Rattle.action.specs.declared.Action.{Action}
use Rattle.show.specs.Text.{line, head, refusal}
use Rattle.show.specs.Sheet.{listing_room}
use Rattle.text.specs.Listing.{listing_of}

-- the most bytes of a line
abbrev pub longest_line : ℕ
longest_line = 340

-- the most bytes of a listing
abbrev pub longest_listing : ℕ
longest_listing = longest_line * (listing_room + 1)

-- a number of at most 20 digits
abbrev pub Short : ℕ → Type 0
Short n = n < 10 ^ 20

-- the numbers that a line shows of a row, but for the addresses
pub record ShortRow (r : Row Match Action) : Type 0 where
  pub in_port : Short r.matching.in_port
  pub source_length : Short r.matching.source.length
  pub destination_length : Short r.matching.destination.length
  pub protocol : Short r.matching.protocol
  pub source_port : Short r.matching.source_port
  pub destination_port : Short r.matching.destination_port
  pub rate : Short (rate_of r.action)

-- NO LINE IS LONGER: a row's,
abbrev pub LineWithin : Type 0
LineWithin = (p : ℕ) (r : Row Match Action) → Short p → ShortRow r → length (line p r) ≤ longest_line

-- the first,
abbrev pub HeadWithin : Type 0
HeadWithin = (n l : ℕ) → length (head n l) ≤ longest_line

-- or a refusal's
abbrev pub RefusalWithin : Type 0
RefusalWithin = (n i : ℕ) → length (refusal n i) ≤ longest_line

-- NO LISTING IS LONGER
abbrev pub NeverCut : Type 0
NeverCut = (b : List ℕ) → length (listing_of b) ≤ longest_listing

-- each of them
pub record ListingLengths : Type 0 where
  pub line_within : LineWithin
  pub head_within : HeadWithin
  pub refusal_within : RefusalWithin
  pub never_cut : NeverCut
