-- What the words that are left say: the theory's laws of levels, chain and switches, where overlapping is a packet in range that matches both rows. Assumes
-- nothing.
use Prim.Native.Nat.{ℕ, suc, ◌≤◌, ◌<◌}
use native.Mathlib.Omega.{arith}
use mathlib.Core.Path.{◌≡◌, refl, sym, ap, ◌∙◌}
use mathlib.Core.Bool.{Bool, true, ◌&&◌, and-eq-true_iff}
use mathlib.Core.Logic.{◌↔◌}
use mathlib.Core.List.{List}
use lib.ListN.{length, get_or, take, drop}
use lib.Dec.{leb}
use borrow.Author.Tests.{le-leb, leb-true}
use Rattle.logic.proofs.Tests.{by-test}
use Rattle.words.specs.Words.{laid}
use Rattle.words.proofs.Laid.{length-laid, take-laid, drop-laid, get_or-laid}
use Rattle.theory.specs.Rows.{matches_at}
use Rattle.theory.specs.Number.{rows_overlap, FirstPlace, level_count, Chained, Right, distinct, seek}
use Rattle.theory.proofs.Seek.{seek-first}
use Rattle.theory.proofs.Levels.{priorities-right, priorities-range}
use Rattle.theory.proofs.Fewest.{fewest-priorities, priorities-count}
use Rattle.theory.proofs.Chain.{chain-holds}
use Rattle.theory.proofs.Switch.{switch-scan, switch-first}
use Rattle.flow.specs.Packet.{packet_of}
use Rattle.flow.specs.Match.{meets, overlap}
use Rattle.flow.proofs.Laws.{overlap-exactly, meets-overlap}
use Rattle.action.specs.declared.Action.TheVariants.{DontCare}
use Rattle.table.specs.Table.{row_count, past, check_of, RightTable}
use Rattle.std.specs.Prelude.{Result, Ok, Err}
use Rattle.refusal.specs.Refusals.{refusal_at}
use Rattle.refusal.specs.declared.Reason.TheVariants.{ShortBuffer}
use Rattle.refusal.specs.declared.Refusal.{Refusal}
use Rattle.table.specs.Scan.{scan_action}
use Rattle.table.proofs.Tables.{length-rows, right-row-at, check-exactly}
use Rattle.table.proofs.Scans.{scan-found}
use Rattle.priority.specs.Numbering.{over, levels_of, priorities_of, chain_of, numbered, number_of, priorities_after, chain_after, Ready, Shared}
use Rattle.priority.specs.Numbering.{count, priority, link}
use Rattle.priority.specs.Theorems.{AnswerCounts, EarlierHigher, PrioritiesUsed, FewestNumbers, ChainForces}
use Rattle.priority.specs.Theorems.{SwitchScans, SwitchObeys, WordsStay, RefusedStays}
use Rattle.priority.proofs.Whole.{counting, levels-many, levels-few, priorities-many}
use Rattle.row.specs.Row.{rows_in}

-- rows of a right table overlap exactly where some packet in range matches both
over-shared : (ws : List ℕ) → RightTable ws → (j i : ℕ) → j < row_count ws → i < row_count ws → (over ws j i ≡ true) ↔ Shared ws j i
unfolding over
over-shared ws t j i h g =
    overlap-exactly (get_or (rows_in ws) j past).matching (get_or (rows_in ws) i past).matching (right-row-at ws t j h).matching
    (right-row-at ws t i g).matching

module _ (ws : List ℕ) where
  -- the theory's laws, of this table's levels
  chain-right : Chained (over ws) (levels_of ws) (chain_of ws)
  unfolding levels_of
  chain-right = chain-holds (over ws) (row_count ws)

  numbers-right : Right (over ws) (row_count ws) (λ i. get_or (priorities_of ws) i 0)
  unfolding levels_of
  numbers-right = priorities-right (over ws) (row_count ws)

module _ (ws ps cs : List ℕ) (r : Ready ws ps cs) where
  answered : number_of ws (length ps) (length cs) ≡ counting (level_count (levels_of ws))
  unfolding number_of
  answered =
      rw ((check-exactly ws (row_count ws)).1 (r.right, refl), le-leb (row_count ws) (length ps) r.priorities, le-leb (row_count ws) (length cs) r.chain)

  counted : count ws ps cs ≡ level_count (levels_of ws)
  counted = rw answered

  pub priorities-left : priorities_after ws ps cs ≡ laid 0 (priorities_of ws) ps
  unfolding priorities_after
  priorities-left = rw answered

  chain_left : chain_after ws ps cs ≡ laid 0 (chain_of ws) cs
  unfolding chain_after
  chain_left = rw answered

  -- row i's priority is the theory's
  priority-is : (i : ℕ) → i < row_count ws → priority ws ps cs i ≡ get_or (priorities_of ws) i 0
  priority-is i h = ap (λ x. get_or x i 0) priorities-left ∙ get_or-laid (priorities_of ws) ps (row_count ws) (priorities-many ws) r.priorities i h

  -- there are no more priorities than words for the chain
  chain_fits : count ws ps cs ≤ length cs
  chain_fits = rw counted (omega (arith, levels-few ws, r.chain))

  chain-many : length (chain_of ws) ≡ count ws ps cs
  chain-many = (chain-right ws).many ∙ sym counted

  chain-taken : take (count ws ps cs) (chain_after ws ps cs) ≡ chain_of ws
  chain-taken = ap (take (count ws ps cs)) chain_left ∙ take-laid (chain_of ws) cs (count ws ps cs) chain-many chain_fits

  link-is : (k : ℕ) → k < count ws ps cs → link ws ps cs k ≡ get_or (chain_of ws) k 0
  link-is k h = ap (λ x. get_or x k 0) chain_left ∙ get_or-laid (chain_of ws) cs (count ws ps cs) chain-many chain_fits k h

  -- the numbering that is left is right, over places
  left-right : Right (rows_overlap overlap past (rows_in ws)) (length (rows_in ws)) (priority ws ps cs)
  unfolding over
  left-right j i h k o =
      let n : length (rows_in ws) ≡ row_count ws = length-rows ws in
      let l : i < row_count ws = omega arith in
      rw (priority-is i l, priority-is j (omega arith)) (numbers-right ws j i h l o)

-- where the answer is a count, the table is right and the buffers are long enough
pub number-ready : (ws ps cs : List ℕ) (l : ℕ) → number_of ws (length ps) (length cs) ≡ counting l → Ready ws ps cs
unfolding number_of
number-ready ws ps cs l = from (check_of ws) refl
  where
    from : (x : Result ℕ Refusal) → check_of ws ≡ x → numbered x (length ps) (length cs) (level_count (levels_of ws)) ≡ counting l → Ready ws ps cs
    from (Ok n) e =
        let t : RightTable ws × (n ≡ row_count ws) = (check-exactly ws n).0 e in
        by-test (leb n (length ps) && leb n (length cs))
        (λ b q.
        let h = simp and-eq-true_iff at b in
        record { right = t.0; priorities = omega (arith, t.1, leb-true n (length ps) h.0); chain = omega (arith, t.1, leb-true n (length cs) h.1) })
        (λ b q.
        let q' : Err (refusal_at ShortBuffer 0) ≡ counting l = rw b at q in
        let z : ◌≡◌ {A = ℕ} 0 1 = cc in absurd (omega arith))
    from (Err f) e = λ q. let z : ◌≡◌ {A = ℕ} 0 1 = cc in absurd (omega arith)

pub answer-counts : AnswerCounts
answer-counts ws ps cs r = answered ws ps cs r ∙ ap counting (sym (counted ws ps cs r))

pub earlier-higher : EarlierHigher
earlier-higher ws ps cs r j i h l s =
    rw (priority-is ws ps cs r i l, priority-is ws ps cs r j (omega arith))
    (numbers-right ws j i h l ((over-shared ws r.right j i (omega arith) l).1 s))

pub priorities-used : PrioritiesUsed
unfolding levels_of
priorities-used ws ps cs r = (
  λ i h. rw (priority-is ws ps cs r i h, counted ws ps cs r) (priorities-range (over ws) (row_count ws) i h),
  ap (λ x. length (distinct (take (row_count ws) x))) (priorities-left ws ps cs r)
      ∙ ap (λ x. length (distinct x)) (take-laid (priorities_of ws) ps (row_count ws) (priorities-many ws) r.priorities)
      ∙ priorities-count (over ws) (row_count ws)
      ∙ sym (counted ws ps cs r),
)

pub fewest-numbers : FewestNumbers
unfolding levels_of
fewest-numbers ws ps cs r qs e f =
    rw (counted ws ps cs r)
    (fewest-priorities (over ws) (row_count ws) qs e (λ j i h l o. f j i h l ((over-shared ws r.right j i (omega arith) l).0 o)))

pub chain-forces : ChainForces
chain-forces ws ps cs r =
    let c : Chained (over ws) (levels_of ws) (chain_of ws) = chain-right ws in
    let n : length (chain_of ws) ≡ count ws ps cs = chain-many ws ps cs r in
    let rows : (k : ℕ) → k < count ws ps cs → get_or (chain_of ws) k 0 < row_count ws = λ k h. omega (arith, c.rows k (omega arith), levels-many ws) in (
      rw (chain-taken ws ps cs r) c,
      ap length (chain-taken ws ps cs r) ∙ n,
      λ k h.
          let g : suc k < length (chain_of ws) = omega arith in
          rw (link-is ws ps cs r k (omega arith), link-is ws ps cs r (suc k) h) (
            c.in_order k g,
            (over-shared ws r.right (get_or (chain_of ws) k 0) (get_or (chain_of ws) (suc k) 0) (rows k (omega arith)) (rows (suc k) h)).0
                (c.overlaps k g),
          ),
    )

pub switch-scans : SwitchScans
switch-scans ws ps cs r packet p i o =
    switch-scan meets DontCare overlap meets-overlap past (rows_in ws) (priority ws ps cs) (left-right ws ps cs r) (packet_of packet) i o
    ∙ sym (ap scan_action (scan-found ws packet r.right p))

pub switch-obeys : SwitchObeys
switch-obeys ws ps cs r p k h m =
    let n : length (rows_in ws) ≡ row_count ws = length-rows ws in
    let test : ℕ → Bool = matches_at meets past (rows_in ws) p in
    let i : ℕ = seek test (length (rows_in ws)) 0 in
    let f : FirstPlace test (length (rows_in ws)) i = seek-first test (length (rows_in ws)) (record { place = k; within = omega arith; passes = m }) in
    (i, switch-first meets DontCare overlap meets-overlap past (rows_in ws) (priority ws ps cs) (left-right ws ps cs r) p i f)

pub words-stay : WordsStay
words-stay ws ps cs r = (
  ap length (priorities-left ws ps cs r) ∙ length-laid 0 (priorities_of ws) ps,
  ap length (chain_left ws ps cs r) ∙ length-laid 0 (chain_of ws) cs,
  ap (drop (row_count ws)) (priorities-left ws ps cs r) ∙ drop-laid (priorities_of ws) ps (row_count ws) (priorities-many ws) r.priorities,
  ap (drop (count ws ps cs)) (chain_left ws ps cs r) ∙ drop-laid (chain_of ws) cs (count ws ps cs) (chain-many ws ps cs r) (chain_fits ws ps cs r),
)

pub refused-stays : RefusedStays
unfolding priorities_after chain_after
refused-stays ws ps cs f e = rw e (refl, refl)
