-- An atom has the words of its edition, and of these a row's tests read no more than a row has. Assumes nothing.
use Rattle.std.proofs.Common.{ℕ, ◌<◌, arith, ◌≡◌, List, get_or, take, get_or-take}
use Rattle.row.specs.Row.{row_length, right_row_match, right_row_action}
use Rattle.policy.specs.Sections.{record_length}
use Rattle.policy.specs.declared.Edition.TheVariants.{First}
use Rattle.policy.specs.declared.Section.{Section}
use Rattle.policy.specs.declared.Section.TheVariants.{Operators, Atoms, Nodes}

pub match_first : (r : List ℕ) → right_row_match (take row_length r) ≡ right_row_match r
unfolding right_row_match
match_first r =
    let w : (i : ℕ) → i < row_length → get_or (take row_length r) i 0 ≡ get_or r i 0 = λ i h. get_or-take row_length r i 0 h in
    rw (
      w 0 (omega arith),
      w 1 (omega arith),
      w 2 (omega arith),
      w 3 (omega arith),
      w 4 (omega arith),
      w 5 (omega arith),
      w 6 (omega arith),
      w 7 (omega arith),
      w 8 (omega arith),
    )

pub action_first : (r : List ℕ) → right_row_action (take row_length r) ≡ right_row_action r
unfolding right_row_action
action_first r = rw (get_or-take row_length r 9 0 (omega arith), get_or-take row_length r 10 0 (omega arith))

-- a record has a word at least
pub record-some : (s : Section) (n : ℕ) → n ≡ record_length s → 0 < n
record-some (Operators First) n e = omega arith
record-some (Atoms First) n e = omega arith
record-some (Nodes k) n e = omega arith
