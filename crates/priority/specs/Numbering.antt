-- The numbering of a table: its answer, and every word of both buffers after it. See docs/FORMAT.md, "Priorities" and
-- "Numbers a caller can get back".
--
--   over ws j i                     whether rows j and i overlap
--   levels_of ws                    the rows' levels
--   priorities_of ws                the rows' priorities
--   chain_of ws                     the chain
--   numbered x p c l                the answer of l priorities, where the check x passes and the buffers are long
--                                   enough
--   number_of ws p c                the answer, for buffers of p and c words
--   stored r F buffer               a buffer with the words F at its start, unless the answer r is a refusal
--   priorities_after, chain_after   the priority buffer and the chain buffer afterwards
--   Answered                        the answer and both buffers, together
--   NumbersFit ws ps cs             what the numbering of a table needs: a word for each row, and room for the chain
--   LevelsBefore ws ls i count      what the level of row i needs: the levels of the rows before it, all below count
--   ChainFits ws ls count cs        what the chain needs: the rows' levels, how many there are, and as many words
--   answer_count                    how many priorities an answer counts; 0 where it is a refusal
--   Ready                           a right table, and neither buffer is shorter than its row count
--   Shared ws j i                   some packet in range matches rows j and i
--   count, priority i, link k       how many priorities, row i's priority and the k-th place of the chain afterwards
use Rattle.std.specs.Prelude.{ℕ, ◌≤◌, ◌<◌, ◌≡◌, Bool, ◌&&◌, List, Result, Ok, Err, length, if◌then◌else◌, nat_le, slice_index, slice_index_or}
use Rattle.words.specs.Words.{laid}
use Rattle.theory.specs.Number.{rows_overlap, levels, level_count, priorities, chain}
use Rattle.flow.specs.Match.{overlap, SharedPacket}
use Rattle.row.specs.Row.{most_rows, rows_in}
use Rattle.table.specs.Table.{row_count, past, check_of, RightTable}
use Rattle.refusal.specs.Refusals.{refusal_at}
use Rattle.refusal.specs.declared.Reason.TheVariants.{ShortBuffer}
use Rattle.refusal.specs.declared.Refusal.{Refusal}

-- whether rows j and i overlap
unfoldable pub over : List ℕ → ℕ → ℕ → Bool
over ws j i = rows_overlap overlap past (rows_in ws) j i

-- the rows' levels
unfoldable pub levels_of : List ℕ → List ℕ
levels_of ws = levels (over ws) (row_count ws)

-- the rows' priorities
abbrev pub priorities_of : List ℕ → List ℕ
priorities_of ws = priorities (levels_of ws)

-- the chain
abbrev pub chain_of : List ℕ → List ℕ
chain_of ws = chain (over ws) (levels_of ws)

-- the answer of l priorities, where the table is right and neither buffer is shorter than the row count
abbrev pub numbered : Result ℕ Refusal → ℕ → ℕ → ℕ → Result ℕ Refusal
numbered (Ok n) p c l = if nat_le n p && nat_le n c then Ok l else Err (refusal_at ShortBuffer 0)
numbered (Err f) p c l = Err f

-- the answer, for buffers of p and c words
unfoldable pub number_of : List ℕ → ℕ → ℕ → Result ℕ Refusal
number_of ws p c = numbered (check_of ws) p c (level_count (levels_of ws))

-- words at the start of a buffer, unless the answer is a refusal; every other word stays
abbrev pub stored : Result ℕ Refusal → List ℕ → List ℕ → List ℕ
stored (Ok l) F buffer = laid 0 F buffer
stored (Err f) F buffer = buffer

-- the priority buffer afterwards
unfoldable pub priorities_after : List ℕ → List ℕ → List ℕ → List ℕ
priorities_after ws ps cs = stored (number_of ws (length ps) (length cs)) (priorities_of ws) ps

-- the chain buffer afterwards
unfoldable pub chain_after : List ℕ → List ℕ → List ℕ → List ℕ
chain_after ws ps cs = stored (number_of ws (length ps) (length cs)) (chain_of ws) cs

-- what the numbering leaves: the answer, the priority buffer and the chain buffer
abbrev pub Answered : List ℕ → List ℕ → List ℕ → Result ℕ Refusal → List ℕ → List ℕ → Type 0
Answered ws ps cs r ps' cs' =
    (r ≡ number_of ws (length ps) (length cs)) × (ps' ≡ priorities_after ws ps cs) × (cs' ≡ chain_after ws ps cs)

-- a word for each row's priority, and room for a chain of all rows
abbrev pub NumbersFit : List ℕ → List ℕ → List ℕ → Type 0
NumbersFit ws ps cs = (length ps ≡ row_count ws) × (row_count ws ≤ length cs)

-- i is a row, and the rows before it have levels below a count of levels, which is not too large
abbrev pub LevelsBefore : List ℕ → List ℕ → ℕ → ℕ → Type 0
LevelsBefore ws ls i count =
    (i < row_count ws) × (i ≤ length ls) × (count ≤ most_rows) × ((j : ℕ) → j < i → slice_index ls j < count)

-- each row has its level, and there is room for as many places as there are levels
abbrev pub ChainFits : List ℕ → List ℕ → ℕ → List ℕ → Type 0
ChainFits ws ls count cs = (length ls ≡ row_count ws) × (count ≡ level_count ls) × (count ≤ length cs)

-- how many priorities an answer counts, 0 where it is a refusal
abbrev pub answer_count : Result ℕ Refusal → ℕ
answer_count (Ok l) = l
answer_count (Err f) = 0

-- a right table, and neither buffer is shorter than its row count
pub record Ready (ws ps cs : List ℕ) : Type 0 where
  pub right : RightTable ws
  pub priorities : row_count ws ≤ length ps
  pub chain : row_count ws ≤ length cs

-- some packet in range matches rows j and i
abbrev pub Shared : List ℕ → ℕ → ℕ → Type 0
Shared ws j i = SharedPacket (slice_index_or (rows_in ws) j past).matching (slice_index_or (rows_in ws) i past).matching

module _ (ws ps cs : List ℕ) where
  -- how many priorities the answer counts
  abbrev pub count : ℕ
  count = answer_count (number_of ws (length ps) (length cs))

  -- row i's priority
  abbrev pub priority : ℕ → ℕ
  priority i = slice_index (priorities_after ws ps cs) i

  -- the k-th place of the chain
  abbrev pub link : ℕ → ℕ
  link k = slice_index (chain_after ws ps cs) k
