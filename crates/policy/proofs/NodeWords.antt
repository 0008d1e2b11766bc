-- The nodes that words hold, by their words: their names, their own atoms and their children; and one turn of the walk over the operators.
use Rattle.std.proofs.Common.{ℕ, zero, suc, ◌+◌, ◌*◌, ◌/◌, ◌≤◌, ◌<◌, arith, ◌≡◌, refl, ap, ◌∙◌, Bool, true, false, ◌||◌, List, [], ◌∷◌, map, sum_by, get_or}
use Rattle.std.proofs.Common.{length, drop, get_or-take, get_or-drop, Ok}
use Rattle.action.specs.Operator.{cells_of}
use Rattle.action.specs.Laws.{Searched, law_search}
use Rattle.policy.specs.Sections.{Test}
use Rattle.std.specs.List.{list_any}
use Rattle.std.proofs.lemmas.List.Sums.{sum_by-cons}
use lib.ListN.{length-map}
use Rattle.words.specs.Records.{records, rows_of}
use Rattle.words.proofs.RecordLaws.{length-records}
use Rattle.policy.specs.Numbers.{node_length, most_nodes}
use Rattle.policy.specs.Node.{node_of, names_operator, nodes_held}
use Rattle.policy.specs.declared.nodes.Node.{Node}
use Rattle.policy.specs.Sections.{own_of, children_of}
use Rattle.policy.specs.Whole.{nodes_by_words, names, named, own_atoms, broken, operator_fault}
use Rattle.policy.specs.Cells.{operator_row, operator_rows}
use Rattle.policy.specs.Numbers.{operator_length_in}
use Rattle.policy.specs.declared.Section.TheVariants.{Operators}
use Rattle.policy.proofs.Lengths.{record-some}
use Rattle.policy.specs.declared.Edition.{Edition}
use Rattle.policy.specs.declared.Edition.TheVariants.{First}
use Rattle.std.proofs.lemmas.Result.{err_from_is_err_and}
use Rattle.words.proofs.Chunks.{started, left-next}
use Rattle.policy.proofs.Each.{hit, miss}

-- by the words of each: some node names the operator i
names-any : (i : ℕ) (rs : List (List ℕ)) → list_any (names_operator i) (map node_of rs) ≡ named i rs
names-any i [] = refl
names-any i (r ∷ rs) = ap (λ b. names i r || b) (names-any i rs)

pub any-named : (i : ℕ) (ws : List ℕ) → list_any (names_operator i) (nodes_held ws) ≡ named i (nodes_by_words ws)
unfolding rows_of
any-named i ws = names-any i (nodes_by_words ws)

-- their own atoms
own-sum : (rs : List (List ℕ)) → sum_by (λ (n : Node). n.own) (map node_of rs) ≡ own_atoms rs
own-sum [] = refl
own-sum (r ∷ rs) = sum_by-cons (λ (n : Node). n.own) (node_of r) (map node_of rs) ∙ ap (λ n. own_of r + n) (own-sum rs)

pub sum-own : (ws : List ℕ) → sum_by (λ (n : Node). n.own) (nodes_held ws) ≡ own_atoms (nodes_by_words ws)
unfolding rows_of
sum-own ws = own-sum (nodes_by_words ws)

own-few : (n : ℕ) (ws : List ℕ) → ((k : ℕ) → get_or ws k 0 < 4294967296) → own_atoms (records n node_length ws) ≤ 4294967296 * n
own-few zero ws h = omega arith
own-few (suc n) ws h =
    let rest = own-few n (drop node_length ws) (λ k. rw (get_or-drop node_length ws k 0) (h (node_length + k))) in
    omega (arith, rest, h 3, get_or-take node_length ws 3 0 (omega arith))

pub sum-fits : (ws : List ℕ) → ((k : ℕ) → get_or ws k 0 < 4294967296) → length (nodes_by_words ws) ≤ most_nodes
    → sum_by (λ (n : Node). n.own) (nodes_held ws) < 18446744073709551616
sum-fits ws h few =
    let n : length (nodes_by_words ws) ≡ length ws / node_length = length-records (length ws / node_length) node_length ws in
    omega (arith, few, n, sum-own ws, own-few (length ws / node_length) ws h)

-- their children, one count for each node that an iterator gives
abbrev pub counts : List Node → List ℕ
counts ns = map (λ (n : Node). n.children) ns

children-counts : (rs : List (List ℕ)) → counts (map node_of rs) ≡ map children_of rs
children-counts [] = refl
children-counts (r ∷ rs) = ap (λ ks. children_of r ∷ ks) (children-counts rs)

pub counts-children : (ws : List ℕ) → counts (nodes_held ws) ≡ map children_of (nodes_by_words ws)
unfolding rows_of
counts-children ws = children-counts (nodes_by_words ws)

pub length-nodes : (ws : List ℕ) → length (nodes_held ws) ≡ length ws / node_length
unfolding rows_of
length-nodes ws = length-map (nodes_by_words ws) node_of ∙ length-records (length ws / node_length) node_length ws

-- laws: an operator has words, and of some the first in its newest form, and the others
pub operator-long : (ed : Edition) → 0 < operator_length_in ed
operator-long ed = record-some (Operators ed) (operator_length_in ed) refl

pub operators-next : (ed : Edition) (x : List ℕ) (xs : List (List ℕ)) → operator_rows ed (x ∷ xs) ≡ operator_row ed x ∷ operator_rows ed xs
operators-next First x xs = refl

-- a turn over the operators
pub ruleset operator_turn = (err_from_is_err_and, started, hit, miss, left-next, operator-long, operators-next)

module _ (ns : List (List ℕ)) (i : ℕ) (o : List ℕ) (t : Bool) (e : t ≡ named i ns) where
  pub tested : (l : Searched) (cells : List ℕ) (x : Test) → t ≡ true → cells ≡ cells_of o → l ≡ law_search cells → x ≡ broken i l → x ≡ operator_fault ns i o
  unfolding operator_fault
  tested l cells x p q r s = s ∙ rw (r, q, ← e, p)

  pub untested : t ≡ false → Ok tt ≡ operator_fault ns i o
  unfolding operator_fault
  untested p = rw (← e, p)
