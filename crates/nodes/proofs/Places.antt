-- What stands at a place of an accepted file is what the file's list of nodes has there: records by their words, atoms by what the nodes
-- before have left. Assumes nothing.
use denote.Ref.{Bor}
use Rattle.std.specs.Option.{unwrap_or}
use Rattle.std.specs.declared.option.Option.{Option}
use Rattle.std.specs.declared.option.Option.TheVariants.{None, Some}
use Rattle.std.specs.Slice.{IsGetRangeResult}
use Rattle.std.proofs.Math.Nat.{min-eq_left, min-eq_right}
use Prim.Native.Nat.{ℕ, zero, suc, ◌+◌, ◌*◌, ◌-◌, ◌/◌, ◌^◌, ◌≤◌, ◌<◌, min}
use native.Mathlib.Omega.{arith}
use native.Mathlib.Nat.{le_of_lt}
use mathlib.Core.Path.{◌≡◌, refl, sym, ap, ap₂, ◌∙◌}
use mathlib.Core.List.{List, [], ◌∷◌, map}
use mathlib.Core.Bool.{cond}
use lib.Dec.{leb}
use lib.ListN.{get_or, length, take, drop, length-drop, drop_of_length-le}
use lib.Seq.{get_or-take, get_or-drop, drop-drop, drop-cons, take-add, take_at, drop_at, length-take-le}
use borrow.Author.Tests.{le-leb, lt-leb, le-ltb, lt-ltb}
use Rattle.words.specs.Records.{records, rows_of}
use Rattle.words.proofs.RecordLaws.{length-records, rows_more, rows_none}
use Rattle.theory.specs.declared.Row.{Row}
use Rattle.theory.specs.Nodes.{Listed}
use Rattle.row.specs.Row.{row_length, row_of}
use Rattle.flow.specs.declared.Match.{Match}
use Rattle.action.specs.declared.Action.{Action}
use Rattle.action.proofs.Cells.{cells-equal}
use Rattle.policy.specs.Numbers.{first_operator, operator_length, atom_length, node_length}
use Rattle.policy.specs.Sections.{inner_of, parent_of, sibling_of, own_of, children_of}
use Rattle.policy.specs.Whole.{own_atoms}
use Rattle.policy.specs.Read.{nodes_at, end_of, operator_records}
use Rattle.policy.specs.Read as read
use Rattle.policy.specs.File.{PolicyNode, held_node, held, atoms_of}
use Rattle.policy.specs.Meaning.{operator_at}
use Rattle.policy.specs.Due.{RightNode}
use Rattle.policy.specs.WellFormed.{Otherwise}
use Rattle.policy.proofs.Accepted.{accepted-exactly}
use Rattle.logic.proofs.Tests.{by_le}
use Rattle.nodes.specs.Nodes.{spot_behind_own, node_place, node_at, from_operator, cells_at, atom_words_at}
use Rattle.nodes.specs.Walk.{layout_of, list_of, records_of, node_index, Reached, next_spot}
use Rattle.policy.specs.declared.Layout.{Layout}
use Rattle.policy.specs.Node.{node_of as spelled}
use Rattle.policy.specs.declared.Node.{Node}
use Rattle.nodes.specs.declared.Spot.{Spot}

-- what a part of some words is, or no words where they have no such part
pub part-or-none : (ws : List ℕ) (from to : ℕ) (o : Option (Bor (List ℕ))) (none : Bor (List ℕ)) → IsGetRangeResult ws from to o → none.now ≡ []
    → from ≤ to → (unwrap_or o none).now ≡ cond (leb to (length ws)) (take (to - from) (drop from ws)) []
part-or-none ws from to None none g e h = e ∙ rw (lt-leb to (length ws) (omega arith)) refl
part-or-none ws from to (Some x) none g e h = g.0.2 ∙ rw (le-leb to (length ws) g.0.1) refl

-- a node's place has its words behind it, or it is the end of the file
whole-or-end : (f : List ℕ) (left at : ℕ) → at ≡ node_place (length f) left → length f < at + node_length → length f ≤ at
unfolding node_place
whole-or-end f left at p h =
    by_le left (length f / node_length)
    (λ l. let e : at ≡ length f - node_length * left = p ∙ rw (le-ltb (length f / node_length) left l) refl in omega arith)
    (λ l. let e : at ≡ length f = p ∙ rw (lt-ltb (length f / node_length) left l) refl in omega arith)

-- the node whose words stand from a place on
pub node-read : (f : List ℕ) (left at : ℕ) {n : Node} {ws : List ℕ} → at ≡ node_place (length f) left
    → ws ≡ cond (leb (at + node_length) (length f)) (take (at + node_length - at) (drop at f)) [] → n ≡ spelled ws → n ≡ node_at f left
unfolding node_at
node-read f left at {n} {ws} p w e =
    e ∙ same ∙ rw (get_or-drop at f 0 0, get_or-drop at f 1 0, get_or-drop at f 2 0, get_or-drop at f 3 0, get_or-drop at f 4 0, p)
  where
    same : spelled ws ≡ spelled (drop at f)
    same =
        by_le (at + node_length) (length f)
        (λ h.
        let k : at + node_length - at ≡ node_length = omega arith in
        let r : List ℕ = drop at f in
        let front : ws ≡ take node_length r = w ∙ rw (le-leb (at + node_length) (length f) h, k) refl in
        ap spelled front
        ∙ rw (
          get_or-take 5 r 0 0 (omega arith),
          get_or-take 5 r 1 0 (omega arith),
          get_or-take 5 r 2 0 (omega arith),
          get_or-take 5 r 3 0 (omega arith),
          get_or-take 5 r 4 0 (omega arith),
        ))
        (λ h.
        let none : ws ≡ [] = w ∙ rw (lt-leb (at + node_length) (length f) h) refl in
        ap spelled (none ∙ sym (drop_of_length-le f {i = at} (whole-or-end f left at p h))))

-- atoms are all there exactly if they end within the file, of which no word has the last place that a word can have
pub atoms-part : (f : List ℕ) (from n to : ℕ) → length f < 2 ^ 64 - 1 → to ≡ min (from + atom_length * n) (2 ^ 64 - 1)
    → cond (leb to (length f)) (take (to - from) (drop from f)) [] ≡ atom_words_at f from n
unfolding atom_words_at
atoms-part f from n to small e =
    by_le (from + atom_length * n) (2 ^ 64 - 1)
    (λ h.
    let same : to ≡ from + atom_length * n = e ∙ min-eq_left h in
    let long : to - from ≡ atom_length * n = omega arith in
    rw (long, same))
    (λ h.
    let last : to ≡ 2 ^ 64 - 1 = e ∙ min-eq_right (le_of_lt h) in
    rw (lt-leb to (length f) (omega arith), lt-leb (from + atom_length * n) (length f) (omega arith)))

-- a word of a record is a word of the list
pub record-at : (n k : ℕ) (ws : List ℕ) (i j : ℕ) → i < n → j < k → get_or (get_or (records n k ws) i []) j 0 ≡ get_or ws (k * i + j) 0
record-at zero k ws i j h l = absurd (omega arith)
record-at (suc n) k ws zero j h l = let e : k * 0 + j ≡ j = omega arith in rw e (get_or-take k ws j 0 l)
record-at (suc n) k ws (suc i) j h l =
    let e : k + (k * i + j) ≡ k * suc i + j = omega arith in
    record-at n k (drop k ws) i j (omega arith) l ∙ get_or-drop k ws (k * i + j) 0 ∙ ap (λ m. get_or ws m 0) e

-- the rows of a part of some records
module _ {R : Type 0} (k : ℕ) (read : List ℕ → R) (pos : 0 < k) where
  rows-part : (n : ℕ) (ws : List ℕ) → k * n ≤ length ws → rows_of k read (take (k * n) ws) ≡ map read (records n k ws)
  rows-part zero ws h = let e : k * 0 ≡ 0 = omega arith in rw e (rows_none k read pos [] pos)
  rows-part (suc n) ws h =
      let e : k * suc n ≡ k + k * n = omega arith in
      let l : length (take k ws) ≡ k = length-take-le k ws (omega arith) in
      let front : List ℕ = take k ws in
      let behind : List ℕ = take (k * n) (drop k ws) in
      let long : k ≤ length (take (k + k * n) ws) = rw (length-take-le (k + k * n) ws (omega arith)) (omega arith) in
      ap (λ m. rows_of k read (take m ws)) e
      ∙ rows_more k read pos (take (k + k * n) ws) long
      ∙ ap₂ (λ x y. read x ∷ rows_of k read y) (ap (take k) (take-add k (k * n) ws) ∙ take_at front behind k l)
      (ap (drop k) (take-add k (k * n) ws) ∙ drop_at front behind k l)
      ∙ ap (λ N. read (take k ws) ∷ N) (rows-part n (drop k ws) (rw length-drop (omega arith)))

  first-records : (n b : ℕ) (ws : List ℕ) → n ≤ b → map read (records n k ws) ≡ take n (map read (records b k ws))
  first-records zero b ws h = refl
  first-records (suc n) zero ws h = absurd (omega arith)
  first-records (suc n) (suc b) ws h = ap (λ N. read (take k ws) ∷ N) (first-records n b (drop k ws) (omega arith))

  part-records : (s n b : ℕ) (ws : List ℕ) → s + n ≤ b → map read (records n k (drop (k * s) ws)) ≡ take n (drop s (map read (records b k ws)))
  part-records zero n b ws h = let e : k * 0 ≡ 0 = omega arith in rw e (first-records n b ws (omega arith))
  part-records (suc s) n zero ws h = absurd (omega arith)
  part-records (suc s) n (suc b) ws h =
      let e : k * suc s ≡ k + k * s = omega arith in
      ap (λ m. map read (records n k (drop m ws))) e
      ∙ ap (λ l. map read (records n k l)) (sym (drop-drop (k * s) k ws))
      ∙ part-records s n b (drop k ws) (omega arith)

-- a node's own atoms start where those of the nodes before it end
held_at : (os : List (List ℕ)) (xs : List (Row Match Action)) (rs : List (List ℕ)) (i : ℕ) (d : Listed PolicyNode) → i < length rs
    → get_or (held os xs rs) i d ≡ record { what = held_node os (drop (own_atoms (take i rs)) xs) (get_or rs i []); child_count = children_of (get_or rs i []) }
held_at os xs [] i d h = absurd (omega arith)
held_at os xs (r ∷ rs) zero d h = refl
held_at os xs (r ∷ rs) (suc i) d h =
    held_at os (drop (own_of r) xs) rs i d (omega arith)
    ∙ ap (λ ys. record { what = held_node os ys (get_or rs i []); child_count = children_of (get_or rs i []) })
    (drop-drop (own_atoms (take i rs)) (own_of r) xs)

length-held : (os : List (List ℕ)) (xs : List (Row Match Action)) (rs : List (List ℕ)) → length (held os xs rs) ≡ length rs
length-held os xs [] = refl
length-held os xs (r ∷ rs) = ap suc (length-held os (drop (own_of r) xs) rs)

-- there are as many nodes as the file's count says
pub listed-many : (f : List ℕ) → length (list_of f) ≡ (layout_of f).nodes
listed-many f =
    length-held (operator_records f (layout_of f).operators) (atoms_of f (layout_of f)) (records_of f)
    ∙ length-records (layout_of f).nodes node_length (drop (nodes_at (layout_of f).operators (layout_of f).atoms + 1) f)

-- one node's atoms more
own-more : (rs : List (List ℕ)) (i : ℕ) → i < length rs → own_atoms (take (suc i) rs) ≡ own_atoms (take i rs) + own_of (get_or rs i [])
own-more [] i h = absurd (omega arith)
own-more (r ∷ rs) zero h = omega arith
own-more (r ∷ rs) (suc i) h = let e : own_atoms (take (suc i) rs) ≡ own_atoms (take i rs) + own_of (get_or rs i []) = own-more rs i (omega arith) in omega arith

own-within : (rs : List (List ℕ)) (i : ℕ) → own_atoms (take i rs) ≤ own_atoms rs
own-within [] zero = omega arith
own-within [] (suc i) = omega arith
own-within (r ∷ rs) zero = omega arith
own-within (r ∷ rs) (suc i) = omega (arith, own-within rs i)

-- what a node holds, as the functions by place read it
abbrev pub node_here : List ℕ → Spot → PolicyNode
node_here f s =
    let n : Node = node_at f s.nodes_left in
    record {
      inner = cells_at f n.inner;
      parent = cells_at f n.parent;
      sibling = cells_at f n.sibling;
      atoms = rows_of row_length row_of (atom_words_at f s.next_atom n.own);
    }

-- stands for a node past the last: it holds nothing
nothing : Listed PolicyNode
nothing = record { what = record { inner = []; parent = []; sibling = []; atoms = [] }; child_count = 0 }

-- WHAT STANDS AT A PLACE that a walk reaches, with nodes left
pub record Here (f : List ℕ) (s : Spot) : Type 0 where
  pub stands : drop (node_index f s) (list_of f)
      ≡ record { what = node_here f s; child_count = (node_at f s.nodes_left).children } ∷ drop (node_index f (next_spot f s)) (list_of f)
  pub atoms-fit : s.next_atom + atom_length * (node_at f s.nodes_left).own ≤ length f
  pub next : Reached f (next_spot f s)

module _ (f : List ℕ) (w : Otherwise f (layout_of f).operators (layout_of f).atoms (layout_of f).nodes) where
  -- the words of a node
  word-here : (left j : ℕ) → 0 < left → left ≤ (layout_of f).nodes → j < node_length
      → get_or f (node_place (length f) left + j) 0 ≡ get_or (get_or (records_of f) ((layout_of f).nodes - left) []) j 0
  unfolding node_place
  word-here left j h k l =
      let a : ℕ = (layout_of f).operators in
      let b : ℕ = (layout_of f).atoms in
      let c : ℕ = (layout_of f).nodes in
      let i : ℕ = c - left in
      let e : length f ≡ end_of a b c = w.ends in
      let p : length f - node_length * left + j ≡ nodes_at a b + 1 + (node_length * i + j) = omega arith in
      rw (le-ltb (length f / node_length) left (omega arith), p)
      (sym (record-at c node_length (drop (nodes_at a b + 1) f) i j (omega arith) l ∙ get_or-drop (nodes_at a b + 1) f (node_length * i + j) 0))

  -- the cells of an operator
  cells-here : (i : ℕ) → i < (layout_of f).operators → cells_at f i ≡ operator_at (operator_records f (layout_of f).operators) i
  unfolding cells_at from_operator
  cells-here i h =
      let a : ℕ = (layout_of f).operators in
      let at : ℕ = first_operator + operator_length * i in
      cells-equal (drop at f) (get_or (operator_records f a) i []) (λ j l.
      let e : at + j ≡ first_operator + (operator_length * i + j) = omega arith in
      get_or-drop at f j 0
      ∙ rw e (sym (record-at a operator_length (drop first_operator f) i j h l ∙ get_or-drop first_operator f (operator_length * i + j) 0)))

  -- the rows of n atoms behind s others
  atoms-here : (s n : ℕ) → s + n ≤ (layout_of f).atoms
      → rows_of row_length row_of (atom_words_at f (read.atoms_at (layout_of f).operators + 1 + atom_length * s) n) ≡ take n (drop s (atoms_of f (layout_of f)))
  unfolding atom_words_at
  atoms-here s n h =
      let a : ℕ = (layout_of f).operators in
      let b : ℕ = (layout_of f).atoms in
      let c : ℕ = (layout_of f).nodes in
      let base : ℕ = read.atoms_at a + 1 in
      let e : length f ≡ end_of a b c = w.ends in
      let fits : base + atom_length * s + atom_length * n ≤ length f = omega arith in
      rw (le-leb (base + atom_length * s + atom_length * n) (length f) fits, ← drop-drop (atom_length * s) base f)
      (rows-part row_length row_of (omega arith) n (drop (atom_length * s) (drop base f)) (rw (length-drop, length-drop) (omega arith))
      ∙ part-records row_length row_of (omega arith) s n b (drop base f) h)

pub here : (f : List ℕ) (s : Spot) → Reached f s → 0 < s.nodes_left → Here f s
unfolding node_at
here f s reached h =
    let w : Otherwise f (layout_of f).operators (layout_of f).atoms (layout_of f).nodes = ((accepted-exactly f (layout_of f)).0 reached.accepted).otherwise in
    let a : ℕ = (layout_of f).operators in
    let b : ℕ = (layout_of f).atoms in
    let c : ℕ = (layout_of f).nodes in
    let os : List (List ℕ) = operator_records f a in
    let xs : List (Row Match Action) = atoms_of f (layout_of f) in
    let rs : List (List ℕ) = records_of f in
    let i : ℕ = node_index f s in
    let r : List ℕ = get_or rs i [] in
    let k : s.nodes_left ≤ c = reached.left in
    let many : length rs ≡ c = length-records c node_length (drop (nodes_at a b + 1) f) in
    let ends : length f ≡ end_of a b c = w.ends in
    let right : RightNode a r = w.right_nodes i (omega arith) in
    let taken : ℕ = own_atoms (take i rs) in
    let n : Node = node_at f s.nodes_left in
    let inner : n.inner ≡ inner_of r = word-here f w s.nodes_left 0 h k (omega arith) in
    let parent : n.parent ≡ parent_of r = word-here f w s.nodes_left 1 h k (omega arith) in
    let sibling : n.sibling ≡ sibling_of r = word-here f w s.nodes_left 2 h k (omega arith) in
    let own : n.own ≡ own_of r = word-here f w s.nodes_left 3 h k (omega arith) in
    let children : n.children ≡ children_of r = word-here f w s.nodes_left 4 h k (omega arith) in
    let more : own_atoms (take (suc i) rs) ≡ taken + own_of r = own-more rs i (omega arith) in
    let all : own_atoms (take (suc i) rs) ≤ b = omega (arith, own-within rs (suc i), w.all_taken) in
    let start : s.next_atom ≡ read.atoms_at a + 1 + atom_length * taken = reached.atom in
    let next : c - (s.nodes_left - 1) ≡ suc i = omega arith in
    let same = same-node
    (ap (cells_at f) inner ∙ cells-here f w (inner_of r) right.inner)
    (ap (cells_at f) parent ∙ cells-here f w (parent_of r) right.parent)
    (ap (cells_at f) sibling ∙ cells-here f w (sibling_of r) right.sibling)
    (ap₂ (λ p m. rows_of row_length row_of (atom_words_at f p m)) start own ∙ atoms-here f w taken (own_of r) (omega arith)) children in
    record {
      stands = drop-cons (list_of f) i nothing (rw (length-held os xs rs) (omega arith))
          ∙ ap₂ (λ x j. x ∷ drop j (list_of f)) (held_at os xs rs i nothing (omega arith) ∙ sym same) (sym next);
      atoms-fit = omega arith;
      next = record {
        accepted = reached.accepted;
        left = omega arith;
        atom = rw (next, more) (omega arith);
      };
    }
  where
    same-node : {o₁ o₂ o₃ p₁ p₂ p₃ : List ℕ} {x y : List (Row Match Action)} {k l : ℕ} → o₁ ≡ p₁ → o₂ ≡ p₂ → o₃ ≡ p₃ → x ≡ y → k ≡ l
        → ◌≡◌ {A = Listed PolicyNode} (record { what = record { inner = o₁; parent = o₂; sibling = o₃; atoms = x }; child_count = k })
        (record { what = record { inner = p₁; parent = p₂; sibling = p₃; atoms = y }; child_count = l })
    same-node a b c d e = rw (a, b, c, d, e)

-- the place behind the node's own atoms is reached, and it is the one that the code has: an accepted file has no place that is too large
module _ (f : List ℕ) (s : Spot) (reached : Reached f s) (h : 0 < s.nodes_left) where
  pub next-reached : Reached f (next_spot f s)
  next-reached = (here f s reached h).next

  pub behind-own : (n : Node) → n ≡ node_at f s.nodes_left → spot_behind_own s n ≡ next_spot f s
  unfolding spot_behind_own
  behind-own n e =
      let l : Layout = layout_of f in
      let w : Otherwise f l.operators l.atoms l.nodes = ((accepted-exactly f l).0 reached.accepted).otherwise in
      let ends : length f ≡ end_of l.operators l.atoms l.nodes = w.ends in
      let within : s.next_atom + atom_length * (node_at f s.nodes_left).own ≤ length f = (here f s reached h).atoms-fit in
      rw e
      (ap (λ k. record { nodes_left = s.nodes_left - 1; next_atom = k })
      (min-eq_left (omega (arith, within, ends, w.operators.most, w.atoms.most, w.nodes.most))))
