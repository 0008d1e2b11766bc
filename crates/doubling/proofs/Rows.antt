-- The compile answers 2 ^ k - 1 rows for the file of k atoms, where k is at most 12, and the refusal 12 for that of 13. The
-- files are read, and their trees found, by computation; their rows are counted by induction over the atoms.
use Rattle.std.proofs.Common.{◌≡◌, refl, rules, sym, ap, ◌∙◌, arith, List, Ok, Err, ℕ, zero, suc, ◌*◌, ◌-◌, ◌^◌, ◌≤◌, ◌<◌, length, replicate, false}
use Rattle.std.proofs.lemmas.List.{length-replicate}
use Rattle.std.proofs.Math.Pow.{pow_mono}
use Rattle.theory.specs.declared.Row.{Row}
use Rattle.theory.specs.Tree.{node, bare, compile}
use Rattle.theory.specs.Rows.{common_row}
use Rattle.flow.specs.Match.{meets_ports, clash, unmet, is_empty, is_none, is_plain, right_match, common, both, overlap}
use Rattle.flow.specs.declared.Match.{Match}
use Rattle.field.specs.Prefix.{right_prefix, zero_beyond, prefixes_meet, in_prefix}
use Rattle.field.specs.Value.{right_value, values_meet}
use Rattle.action.specs.Action.{action_of, right_action, in_range}
use Rattle.action.specs.Operator as operator
use Rattle.action.specs.Laws.{commutes, associates, shown, pairs, triples, first_pair, first_triple, law_search}
use Rattle.action.specs.declared.Action.{Action}
use Rattle.row.specs.Row.{row_length, most_rows, row_of, row_action, right_row_match, right_row_action}
use Rattle.words.specs.Words.{zeros}
use Rattle.policy.specs.Sections.{count_fault, cells_fault, atom_fault, node_fault, section_fault}
use Rattle.policy.specs.Whole.{shape_fault, sum_fault, operator_fault, laws_fault}
use Rattle.refusal.specs.Refusals.{refusal_at}
use Rattle.refusal.specs.declared.Reason.TheVariants.{NoRoom}
use Rattle.policy.specs.Read.{whole_stages, stages, read_as, read_of, layout}
use Rattle.policy.specs.File.{PolicyNode, tree_of}
use Rattle.compile.specs.Compile.{room, compiled_rows, answer_of}
use Rattle.compile.proofs.Ordered.{answered-in-order}
use Rattle.doubling.specs.Doubling.{file, largest, answer_for}
use Rattle.doubling.proofs.Same.{compile_all}

-- the row of an atom of zeros
one : Row Match Action
one = row_of (zeros row_length)

-- the operator whose cells are all 1
ones : List ℕ
ones = replicate 9 1

-- the one node of a file
root : ℕ → PolicyNode
root k = record { inner = ones; parent = ones; sibling = ones; atoms = replicate k one }

one_joined : common_row common (operator.join ones) one one ≡ one
unfolding one ones common both overlap is_empty unmet clash row_action action_of operator.join operator.coded prefixes_meet in_prefix values_meet
one_joined = refl

one_some : is_empty one.matching ≡ false
unfolding one is_empty unmet clash
one_some = refl

-- the file of k atoms is accepted, and is that one node
abbrev Accepted : ℕ → Type 0
Accepted k = (read_of (file k) ≡ Ok (layout 1 k 1)) × (tree_of (file k) (layout 1 k 1) ≡ node (root k) bare)

-- each number below n has the property
abbrev EachBelow : (ℕ → Type 0) → ℕ → Type 0
EachBelow P zero = Unit {0}
EachBelow P (suc n) = P 0 × EachBelow (λ i. P (suc i)) n

each_of : (P : ℕ → Type 0) (n : ℕ) → EachBelow P n → (k : ℕ) → k < n → P k
each_of P zero f k h = absurd (omega (arith, h))
each_of P (suc n) f zero h = f.0
each_of P (suc n) f (suc k) h = each_of (λ i. P (suc i)) n f.1 k (omega (arith, h))

all_accepted : EachBelow Accepted 14
unfolding file root one ones right_prefix zero_beyond right_value is_none is_plain right_match meets_ports clash unmet is_empty action_of
    right_action in_range operator.coded operator.join operator.right_cell commutes associates shown pairs triples first_pair first_triple
    law_search row_action right_row_match right_row_action count_fault cells_fault atom_fault node_fault section_fault shape_fault sum_fault
    operator_fault laws_fault whole_stages stages read_as
all_accepted = search rules depth 60

module _ (k : ℕ) (below : k < 14) where
  reads : read_of (file k) ≡ Ok (layout 1 k 1)
  reads = (each_of Accepted 14 all_accepted k below).0

  rows : compiled_rows (file k) (layout 1 k 1) ≡ replicate (2 ^ k - 1) one
  unfolding compiled_rows root
  rows =
      ap (compile common is_empty operator.join) (each_of Accepted 14 all_accepted k below).1
      ∙ compile_all common is_empty operator.join one ones one_joined one_some (root k) k refl refl

  count : length (compiled_rows (file k) (layout 1 k 1)) ≡ 2 ^ k - 1
  count = ap length rows ∙ length-replicate (2 ^ k - 1) one

-- any table of so many words, and a scratch as long
module _ (t : List ℕ) (long : length t ≡ row_length * most_rows) where
  room_is : room (length t) ≡ most_rows
  room_is = ap room long

  enough : row_length * room (length t) ≤ length t
  enough = rw (long) (omega arith)

  few_in : (k : ℕ) → k ≤ 12 → answer_of (file k) t t ≡ Ok (2 ^ k - 1)
  few_in k h =
      let b : k < 14 = omega (arith, h) in
      let most : 2 ^ k ≤ 4096 = pow_mono h in
      let fits : length (compiled_rows (file k) (layout 1 k 1)) ≤ room (length t) =
      omega (arith, count k b, room_is, most) in
      sym ((answered-in-order (file k) t t).rows_answered (layout 1 k 1) (reads k b) enough fits).answer ∙ ap (λ i. Ok i) (count k b)

  many_in : answer_of (file 13) t t ≡ Err (refusal_at NoRoom 0)
  many_in =
      let b : 13 < 14 = omega arith in
      let n : length (compiled_rows (file 13) (layout 1 13 1)) ≡ 8191 = count 13 b in
      sym ((answered-in-order (file 13) t t).room_short (layout 1 13 1) (reads 13 b) enough (omega (arith, n, room_is))).answer

pub few : (k : ℕ) → k ≤ 12 → answer_for k ≡ Ok (2 ^ k - 1)
few = few_in largest (length-replicate {A = ℕ} (row_length * most_rows) 0)

pub many : answer_for 13 ≡ Err (refusal_at NoRoom 0)
many = many_in largest (length-replicate {A = ℕ} (row_length * most_rows) 0)
