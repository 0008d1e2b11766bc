-- Shuffled files: a step keeps what the tree gives and how many rows there are, since the tree is one step away and the order is free in an accepted file;
-- so does any number of steps. Assumes nothing.
use Rattle.std.proofs.Common.{ℕ, ◌*◌, arith, ◌≡◌, refl, sym, ap, subst, ◌∙◌, true, List, [], ◌∷◌, ◌++◌, length, get_or, inl, inr, IsPermutation, Ok, Err}
use Rattle.std.proofs.Common.{nat_lt, if◌then◌else◌}
use Rattle.logic.proofs.Tests.{by-test}
use Rattle.theory.specs.Tree.{node, bare, ◌▸◌}
use Rattle.theory.proofs.Shuffle.{shuffled-eval}
use Rattle.theory.proofs.ShuffleRows.{shuffled-rows}
use Rattle.flow.specs.Packet.{packet_of, right_packet, right_packet_words}
use Rattle.flow.specs.Match.{meets, common, is_empty, right_match}
use Rattle.flow.proofs.Any.{any}
use Rattle.action.specs.Action.{rate_of}
use Rattle.action.specs.Operator.{join, RightCodes, sibling}
use Rattle.action.specs.declared.Action.TheVariants.{DontCare, Gmb}
use Rattle.row.specs.Row.{row_length, table_rows}
use Rattle.row.proofs.Counted.{count-laws}
use Rattle.refusal.specs.Refusals.{refusal_at}
use Rattle.refusal.specs.declared.Reason.TheVariants.{NoRoom, NoScratch}
use Rattle.policy.specs.Read.{read_of, layout}
use Rattle.policy.specs.File.{tree_of}
use Rattle.policy.specs.declared.Layout.{Layout}
use Rattle.tree.specs.Action.{eval_tree, tree_action_of, given}
use Rattle.tree.proofs.Eval.{action-eval, action-packet}
use Rattle.table.specs.Scan.{scan_of, scan_action}
use Rattle.table.proofs.Scans.{scan-refused}
use Rattle.compile.specs.Compile.{room, compiled_rows, answer_of, table_after, compile_count}
use Rattle.promises.specs.Trees.{always, beside, gmb}
use Rattle.promises.specs.Fields.{acted, by_in_port, packet}
use Rattle.promises.specs.Shuffles.{Block, block, in_a_row, file_of, Step, Reordered, none, more, Kept, Asks, StepsShown, ShuffledFiles}
use Rattle.promises.specs.Shuffles.{beside_turned, nested, nested_turned, denied, denied_between, denied_before}
use Rattle.promises.proofs.Cases.{computed, shuffle-cases}
use Rattle.promises.proofs.Scanned.{table-scans, gives}
use Rattle.promises.proofs.Sound.{InRange, stays, sound}
use Rattle.promises.proofs.AtomSets.{right-matches, counting}
use Rattle.promises.proofs.Blocks.{Stepped, moved-step, reordered-on, stepped, back}
use Rattle.promises.proofs.Opened.{opened}
use Rattle.promises.proofs.Rearranged.{at_once}

-- of two accepted files with trees one step apart
module _ (f g : List ℕ) (l : Layout) (e : read_of f ≡ Ok l) (h : Stepped f g l) where
  same-action : (p : List ℕ) → tree_action_of g p ≡ tree_action_of f p
  same-action p =
      by-test (right_packet_words p)
      (λ t.
      let moved : eval_tree (tree_of f l) (packet_of p) ≡ eval_tree (tree_of g l) (packet_of p) =
      shuffled-eval meets DontCare join RightCodes InRange stays (tree_of f l) (tree_of g l) (sound f l e) h.shuffled (packet_of p) in
      action-eval g p l h.accepted t ∙ ap gives (sym moved) ∙ sym (action-eval f p l e t))
      (λ t. action-packet g p l h.accepted t ∙ sym (action-packet f p l e t))

  same-rows : length (compiled_rows g l) ≡ length (compiled_rows f l)
  unfolding compiled_rows
  same-rows =
      sym (shuffled-rows meets common is_empty any join (λ m. right_match m ≡ true) (λ p. right_packet p ≡ true) count-laws
      (tree_of f l) (tree_of g l) (right-matches f l e) h.shuffled)

  -- the answer goes by the number of rows
  same-answer : (t s : List ℕ) → answer_of g t s ≡ answer_of f t s
  unfolding answer_of
  same-answer t s =
      rw (e, h.accepted)
      (ap (λ n.
      if nat_lt (length s) (row_length * room (length t))
      then Err (refusal_at NoScratch 0)
      else (if nat_lt (room (length t)) n then Err (refusal_at NoRoom 0) else Ok n)) same-rows)

  same-scan : (t s p : List ℕ) (n : ℕ) → answer_of f t s ≡ Ok n
      → scan_action (scan_of (table_rows n (table_after g t s)) p) ≡ scan_action (scan_of (table_rows n (table_after f t s)) p)
  same-scan t s p n q =
      by-test (right_packet_words p)
      (λ k. ap given (sym (table-scans g t s p n (same-answer t s ∙ q) k).1 ∙ same-action p ∙ (table-scans f t s p n q k).1))
      (λ k. ap scan_action ((scan-refused (table_rows n (table_after g t s)) p).0 k ∙ sym ((scan-refused (table_rows n (table_after f t s)) p).0 k)))

  kept-step : Kept f g l
  kept-step = record { accepted = h.accepted; action = same-action; rows = same-rows; answer = same-answer; scanned = same-scan }

-- one after the other
kept-on : (f g h : List ℕ) (l : Layout) → Kept f g l → Kept g h l → Kept f h l
kept-on f g h l a b = record {
  accepted = b.accepted;
  action = λ p. b.action p ∙ a.action p;
  rows = b.rows ∙ a.rows;
  answer = λ t s. b.answer t s ∙ a.answer t s;
  scanned = λ t s p n q. b.scanned t s p n (a.answer t s ∙ q) ∙ a.scanned t s p n q;
}

kept-same : (f : List ℕ) (l : Layout) → read_of f ≡ Ok l → Kept f f l
kept-same f l e = record { accepted = e; action = λ p. refl; rows = refl; answer = λ t s. refl; scanned = λ t s p n q. refl }

-- ANY NUMBER OF STEPS KEEPS ALL OF IT
kept : (f g : List ℕ) (l : Layout) → read_of f ≡ Ok l → Reordered f g → Kept f g l
kept f g l e (none same) = subst (λ h. Kept f h l) same (kept-same f l e)
kept f g l e (more {g = m} s r) =
    let k : Kept f m l = kept-step f m l e (stepped f m l e s) in
    kept-on f m g l k (kept m g l k.accepted r)

-- what a step asks is what its record has
asks : Asks
asks = record {
  atoms = λ os before behind n old new laid order.
      moved-step os (before ++ (block n old ∷ behind)) (before ++ (block n new ∷ behind)) laid
      (inl (record { before = before; node = n; old = old; new = new; behind = behind; was = refl; order = order; is = refl }));
  children = λ os before behind n old new laid all whole order.
      moved-step os (before ++ (n ∷ (in_a_row old ++ behind))) (before ++ (n ∷ (in_a_row new ++ behind))) laid
      (inr (record {
        place = length before;
        family = record { before = before; node = n; children = old; behind = behind; is = refl; place = refl; all = all; whole = whole };
        new = new;
        order = order;
        is = refl;
      }));
  one = λ f g s. more s (none refl);
  and_on = reordered-on;
}

-- steps of files of few words: of one node with three atoms, from one order to another
one-step : (a b c : List ℕ) (new : List (List ℕ)) → length a ≡ 11 → length b ≡ 11 → length c ≡ 11 → IsPermutation (a ∷ b ∷ c ∷ []) new
    → let n : List ℕ = 0 ∷ 0 ∷ 0 ∷ 3 ∷ 0 ∷ [] in
    Step (file_of (sibling ∷ []) (block n (a ∷ b ∷ c ∷ []) ∷ [])) (file_of (sibling ∷ []) (block n new ∷ []))
one-step a b c new x y z order =
    asks.atoms (sibling ∷ []) [] [] (0 ∷ 0 ∷ 0 ∷ 3 ∷ 0 ∷ []) (a ∷ b ∷ c ∷ []) new
    (record { operators = (refl, tt); atoms = ((x, (y, (z, tt))), tt); nodes = (refl, tt); own = (refl, tt) }) order

turned : Step beside beside_turned
turned =
    let a : List ℕ = gmb 7 0 0 1 10 in
    let b : List ℕ = gmb 0 6 0 2 20 in
    let c : List ℕ = gmb 0 0 5 4 40 in
    one-step a b c (c ∷ b ∷ a ∷ []) refl refl refl (record { moves = (0, 2) ∷ []; below = (omega arith, omega arith, tt); is = refl })

denied_turned : Step denied_between denied_before
denied_turned =
    let a : List ℕ = by_in_port 1 in
    let c : List ℕ = by_in_port 2 in
    one-step a denied c (denied ∷ a ∷ c ∷ []) refl refl refl (record { moves = (0, 1) ∷ []; below = (omega arith, omega arith, tt); is = refl })

-- a root with two children, of which the first has a child of its own, and the same with the second child first
child_turned : Step (nested 10 40 20) (nested_turned 20 10 40)
child_turned =
    let root : Block = block (0 ∷ 0 ∷ 0 ∷ 0 ∷ 2 ∷ []) [] in
    let first : Block = block (0 ∷ 1 ∷ 0 ∷ 1 ∷ 1 ∷ []) (acted 3 10 ∷ []) in
    let below_it : Block = block (0 ∷ 0 ∷ 0 ∷ 1 ∷ 0 ∷ []) (acted 3 40 ∷ []) in
    let second : Block = block (0 ∷ 0 ∷ 0 ∷ 1 ∷ 0 ∷ []) (acted 3 20 ∷ []) in
    let subtree : List Block = first ∷ below_it ∷ [] in
    asks.children (sibling ∷ always 3 ∷ []) [] [] root (subtree ∷ (second ∷ []) ∷ []) ((second ∷ []) ∷ subtree ∷ [])
    (record {
      operators = (refl, (refl, tt));
      atoms = (tt, ((refl, tt), ((refl, tt), ((refl, tt), tt))));
      nodes = (refl, (refl, (refl, (refl, tt))));
      own = (refl, (refl, (refl, (refl, tt))));
    })
    refl (
      record { tree = node first (node below_it bare ▸ bare); lists = refl; shallow = omega arith },
      (record { tree = node second bare; lists = refl; shallow = omega arith }, tt),
    )
    (record { moves = (0, 1) ∷ []; below = (omega arith, omega arith, tt); is = refl })

-- where the rate of the tree's action is another, a file is no reordering
nested-rate : (g : List ℕ) → tree_action_of g packet ≡ Ok (Gmb 40) → ¬ Reordered (nested 10 40 20) g
unfolding computed
nested-rate g e r =
    let k : Kept (nested 10 40 20) g (layout 2 3 4) = kept (nested 10 40 20) g (layout 2 3 4) refl r in
    let same : tree_action_of g packet ≡ Ok (Gmb 20) = k.action packet in
    let rates : 40 ≡ 20 = ap (λ x. rate_of (given x)) (sym e ∙ same) in
    absurd (omega (arith, rates))

-- the second row of one is for in-port 1, that of the other for in-port 2; the rows of one get four priorities, those of the other three
shown : StepsShown
unfolding computed
shown = record {
  atoms = turned;
  children = child_turned;
  across = nested-rate (nested 40 10 20) refl;
  without = nested-rate (nested_turned 10 40 20) refl;
  order = (denied_turned, λ e. let ports : 1 ≡ 2 = ap (λ ws. get_or ws row_length 0) e in absurd (omega (arith, ports)));
  priorities = λ e. let counts : 4 ≡ 3 = ap compile_count e in absurd (omega (arith, counts));
}

-- EVERY SENTENCE
pub shuffled_files : ShuffledFiles
shuffled_files = record {
  reordering = record { asks = asks; opened = opened; kept = kept; at_once = at_once; back = back };
  counting = counting;
  shown = shown;
  cases = shuffle-cases;
}
