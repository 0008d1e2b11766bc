-- The public constants, as literals: a constant has no contract of its own, so what each of them is stands here.
--
--   Constants   the actions, the operators and the match; lengths, limits and flags
use Rattle.std.specs.Prelude.{◌≡◌, [], ◌∷◌}
use Rattle.words.specs.declared.TheConstants.{WORD_BYTES}
use Rattle.field.specs.declared.TheConstants.{ADDRESS_BITS}
use Rattle.flow.specs.declared.TheConstants.{PACKET_WORDS, MATCH_WORDS, IN_PORT, PROTOCOL, SOURCE_PORT, DESTINATION_PORT}
use Rattle.flow.specs.declared.TheConstants.Match.{NONE}
use Rattle.action.specs.declared.Action.TheVariants.{DontCare}
use Rattle.action.specs.declared.TheConstants.{LARGEST_RATE, CELLS}
use Rattle.action.specs.declared.TheConstants.Action.{DONT_CARE}
use Rattle.action.specs.declared.TheConstants.Operator.{SIBLING, PARENT}
use Rattle.row.specs.declared.TheConstants.{ROW_WORDS, MOST_ROWS}
use Rattle.policy.specs.declared.Edition.TheVariants.{First}
use Rattle.policy.specs.declared.TheConstants.{HEADER_WORDS, OPERATOR_WORDS, ATOM_WORDS, NODE_WORDS, FIRST_OPERATOR}
use Rattle.policy.specs.declared.TheConstants.{MOST_OPERATORS, MOST_ATOMS, MOST_NODES, LONGEST_FILE, LATEST}
use Rattle.units.specs.declared.TheConstants.{ROW_BYTES}
use Rattle.capture.specs.declared.TheConstants.{MOST_PACKETS, FOUND_WORDS}
use Rattle.exports.specs.declared.TheConstants.{ANSWER_WORDS}
use Rattle.show.specs.declared.TheConstants.{ROOM}
use Rattle.text.specs.declared.TheConstants.{LONGEST_INPUT, INPUT_ROOM}

pub record Constants : Type 0 where
  -- don't care, the two operators supplied by name, and the empty match
  pub dont_care : DONT_CARE ≡ DontCare
  pub sibling : SIBLING.cells ≡ 1 ∷ 2 ∷ 4 ∷ 2 ∷ 2 ∷ 2 ∷ 3 ∷ 2 ∷ 5 ∷ []
  pub parent : PARENT.cells ≡ 1 ∷ 2 ∷ 4 ∷ 1 ∷ 2 ∷ 4 ∷ 3 ∷ 2 ∷ 5 ∷ []
  pub none :
      NONE
      ≡ record {
        in_port = 0;
        source = record { address = 0; length = 0 };
        destination = record { address = 0; length = 0 };
        protocol = 0;
        source_port = 0;
        destination_port = 0;
        flags = 16;
      }
  -- flags: in-port, protocol, source port, destination port
  pub flags : (IN_PORT ∷ PROTOCOL ∷ SOURCE_PORT ∷ DESTINATION_PORT ∷ []) ≡ 1 ∷ 2 ∷ 4 ∷ 8 ∷ []
  -- the words of a packet, a match, a row, an operator's cells, an operator, an atom and a node; the bits of an address
  -- and the bytes of a word; the words of what is found for a packet; the bytes of a row, and the words of an answer to
  -- an agent
  pub lengths :
      (PACKET_WORDS ∷ MATCH_WORDS ∷ ROW_WORDS ∷ CELLS ∷ OPERATOR_WORDS ∷ ATOM_WORDS ∷ NODE_WORDS ∷ ADDRESS_BITS
      ∷ WORD_BYTES ∷ FOUND_WORDS ∷ ROW_BYTES ∷ ANSWER_WORDS ∷ [])
      ≡ 6 ∷ 9 ∷ 11 ∷ 9 ∷ 9 ∷ 11 ∷ 5 ∷ 32 ∷ 4 ∷ 3 ∷ 44 ∷ 4 ∷ []
  -- the newest edition: the words before the first count, and the first operator's place
  pub edition : (LATEST ≡ First) × (HEADER_WORDS ≡ 0) × (FIRST_OPERATOR ≡ 1)
  -- the most operators, atoms, nodes, words of a file, rows of a table, packets of a capture, rows of a listing, and
  -- the largest rate
  pub limits :
      (MOST_OPERATORS ∷ MOST_ATOMS ∷ MOST_NODES ∷ LONGEST_FILE ∷ MOST_ROWS ∷ MOST_PACKETS ∷ ROOM ∷ LARGEST_RATE ∷ [])
      ≡ 32 ∷ 1024 ∷ 256 ∷ 12835 ∷ 4096 ∷ 4096 ∷ 1024 ∷ 100000000 ∷ []
  -- the bytes of the longest file, and a byte more
  pub bytes : (LONGEST_INPUT ∷ INPUT_ROOM ∷ []) ≡ 51340 ∷ 51341 ∷ []
