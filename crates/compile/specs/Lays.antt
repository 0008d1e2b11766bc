-- What a function that lays words into a lent buffer answers, and what the buffer then holds. The buffer is as long as
-- there is room.
--
--   made_of at F room   the answer where F is laid at a place, and there is so much room
--   Lays at F           F is laid at a place, if there is room for it
use Rattle.std.specs.Prelude.{ℕ, ◌+◌, ◌≤◌, ◌≡◌, List, length, Option, Some, None, if◌then◌else◌, nat_le}
use Rattle.words.specs.Words.{laid}

-- the place past the last word, if all words fit into the room; else none
unfoldable pub made_of : ℕ → List ℕ → ℕ → Option ℕ
made_of at F room = if nat_le (at + length F) room then Some (at + length F) else None

-- F is laid at a place of a buffer, if it fits; where it does not, nothing is said of the buffer's words
pub record Lays (at : ℕ) (F old new : List ℕ) (r : Option ℕ) : Type 0 where
  pub answer : r ≡ made_of at F (length old)
  pub words : at + length F ≤ length old → new ≡ laid at F old
