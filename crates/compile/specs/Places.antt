-- Places in two lent buffers of one length: what the joining asks of them, and what it leaves there.
--
--   part a e l                     the words of l from the place a up to e
--   Behind, From, Before, Ending   what the functions ask of places
--   PutUpTo a F                    F stands at the end of a buffer, if there is room for it from the place a on
--   Grows a F                      the same, with the rows made in another buffer from a on
use Rattle.std.specs.Prelude.{ℕ, ◌+◌, ◌-◌, ◌≤◌, ◌<◌, ◌≡◌, List, length, take, drop, Option, Some, None}
use Rattle.words.specs.Words.{laid}

-- the words from the place a up to e
abbrev pub part : ℕ → ℕ → List ℕ → List ℕ
part a e l = take (e - a) (drop a l)

-- two tables stand one behind the other in a buffer, at start..middle and middle..end, and the other buffer is as long
abbrev pub Behind : ℕ → ℕ → ℕ → List ℕ → List ℕ → Type 0
Behind start middle end t s = (start ≤ middle) × (middle ≤ end) × (end ≤ length t) × (length s ≡ length t)

-- the place is one of a buffer, and the other buffer is as long
abbrev pub From : ℕ → List ℕ → List ℕ → Type 0
From start t s = (start ≤ length t) × (length s ≡ length t)

-- words at start..made of one buffer, and at start..end of the other, which is as long
abbrev pub Before : ℕ → ℕ → ℕ → List ℕ → List ℕ → Type 0
Before start made end t s =
    (start ≤ made) × (start ≤ end) × (made ≤ length t) × (end ≤ length t) × (length s ≡ length t)

-- words from a first place to the end of a buffer, at start or behind it, and the other buffer is as long
abbrev pub Ending : ℕ → ℕ → List ℕ → List ℕ → Type 0
Ending start first t s = (start ≤ first) × (first ≤ length s) × (length s ≡ length t)

-- F stands at the end of a buffer, from the answered place on; none where it would start before the place a
pub record PutUpTo (a : ℕ) (F new : List ℕ) (r : Option ℕ) : Type 0 where
  pub full : r ≡ None → length new < a + length F
  pub words : (first : ℕ) → r ≡ Some first → (a ≤ first) × (first ≤ length new) × (drop first new ≡ F)

-- the same, and the other buffer has changed only where F would be laid at a
pub record Grows (a : ℕ) (F old new scratch : List ℕ) (r : Option ℕ) : Type 0 where
  pub stands : PutUpTo a F scratch r
  pub hidden : (first : ℕ) → r ≡ Some first → (W : List ℕ) → length F ≤ length W → a + length W ≤ length old
      → laid a W new ≡ laid a W old
