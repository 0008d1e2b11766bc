-- The compiled table does what the tree says, from the theorems on reading, the tree's action and the compile.
use Rattle.std.proofs.Common.{ℕ, ◌+◌, ◌≤◌, ◌<◌, arith, ◌≡◌, refl, sym, ap, subst, ◌∙◌, true, List, [], ◌⊎◌, inl, inr, ⊎_elim, eqb, length, get_or, drop}
use Rattle.std.proofs.Common.{eqb-true, eq-eqb, Err}
use mathlib.Core.Bool.{or-true}
use Rattle.logic.proofs.Tests.{by_le, or_split}
use Rattle.words.proofs.RecordLaws.{length-records}
use Rattle.action.specs.Laws.{Shows}
use Rattle.action.specs.declared.LawFailure.{LawFailure}
use Rattle.action.specs.declared.LawFailure.TheVariants.{Commutativity, Associativity}
use Rattle.action.proofs.Exact.{shown-in-range}
use Rattle.refusal.specs.Refusals.{law_broken, refusal_number}
use Rattle.refusal.specs.declared.Refusal.{Refusal}
use Rattle.policy.specs.Numbers.{node_length}
use Rattle.policy.specs.Read.{read_of, atoms_at, nodes_at, operator_records, node_records}
use Rattle.policy.specs.Whole.{named, names}
use Rattle.policy.specs.Sections.{inner_of, sibling_of}
use Rattle.policy.specs.Meaning.{operator_at, KeepsLaws, LawsKept}
use Rattle.theory.specs.Nodes.{all_atoms}
use Rattle.policy.specs.WellFormed.{Otherwise}
use Rattle.policy.specs.Theorems.{BrokenLaw}
use Rattle.policy.proofs.Named.{named_by, Naming, naming}
use Rattle.policy.proofs.Accepted.{accepted-exactly, accepted-tree, accepted-atoms}
use Rattle.policy.proofs.Refused.{refused-law, broken-refused}
use Rattle.tree.proofs.Eval.{action-eval}
use Rattle.compile.proofs.Ordered.{answered-in-order}
use Rattle.compile.proofs.Answered.{room-exactly}
use Rattle.promises.specs.Demands.{BreaksCommutativity, BreaksAssociativity, SomeBroken, Shown, TableFollowsTree}
use Rattle.promises.proofs.Scanned.{table-scans}

-- actions of the list that break a law are actions with allowed rates that do
breaks : (o : List ℕ) (f : LawFailure) → Shows o f → BreaksCommutativity o ⊎ BreaksAssociativity o
breaks o (Commutativity a b) s =
    inl (record { left = a; right = b; left_allowed = shown-in-range a s.0; right_allowed = shown-in-range b s.1; differ = s.2 })
breaks o (Associativity a b c) s = inr (record {
  left = a;
  middle = b;
  right = c;
  left_allowed = shown-in-range a s.0;
  middle_allowed = shown-in-range b s.1;
  right_allowed = shown-in-range c s.2;
  differ = s.3;
})

-- an operator that breaks a law does not keep both
not-kept : (o : List ℕ) → BreaksCommutativity o ⊎ BreaksAssociativity o → ¬ KeepsLaws o
not-kept o (inl b) k = b.differ (k.0 b.left b.right b.left_allowed b.right_allowed)
not-kept o (inr b) k = b.differ (k.1 b.left b.middle b.right b.left_allowed b.middle_allowed b.right_allowed)

-- a node that names an operator has it as inner or as sibling one
names-either : (i : ℕ) (r : List ℕ) → names i r ≡ true → (i ≡ inner_of r) ⊎ (i ≡ sibling_of r)
names-either i r e =
    ⊎_elim (λ g. inl (sym (eqb-true _ _ g))) (λ g. inr (sym (eqb-true _ _ g))) (or_split (eqb (inner_of r) i) (eqb (sibling_of r) i) e)

-- the counts of a file are its own
same-counts : (f : List ℕ) (a b c a' b' c' : ℕ) → Otherwise f a b c → Otherwise f a' b' c' → (a' ≡ a) × (b' ≡ b) × (c' ≡ c)
same-counts f a b c a' b' c' o o' =
    let p : a' ≡ a = sym o'.operators.count ∙ o.operators.count in
    let q : b' ≡ b = sym o'.atoms.count ∙ ap (λ x. get_or f (atoms_at x) 0) p ∙ o.atoms.count in
    (p, q, sym o'.nodes.count ∙ ap (λ x. get_or f (nodes_at x b') 0) p ∙ ap (λ x. get_or f (nodes_at a x) 0) q ∙ o.nodes.count)

-- a node's inner or sibling operator is named
used : (i : ℕ) (ns : List (List ℕ)) (n : ℕ) → n < length ns → (i ≡ inner_of (get_or ns n [])) ⊎ (i ≡ sibling_of (get_or ns n [])) → named i ns ≡ true
used i ns n h (inl e) = named_by i ns n h (rw (eq-eqb (inner_of (get_or ns n [])) i (sym e)))
used i ns n h (inr e) = named_by i ns n h (rw (eq-eqb (sibling_of (get_or ns n [])) i (sym e)) (or-true (eqb (inner_of (get_or ns n [])) i)))

-- an operator that some node has and that breaks a law is not before the place that is named
first-broken :
    (f : List ℕ) (a b c n : ℕ) → ((i : ℕ) → i < n → named i (node_records f a b c) ≡ true → KeepsLaws (operator_at (operator_records f a) i))
    → (other : SomeBroken f a b c) → n ≤ other.operator
first-broken f a b c n kept x =
    let ns : List (List ℕ) = node_records f a b c in
    let many : length ns ≡ c = length-records c node_length (drop (nodes_at a b + 1) f) in
    by_le n x.operator
    (λ l. l)
    (λ l. absurd (not-kept (operator_at (operator_records f a) x.operator) x.breaks
    (kept x.operator l (used x.operator ns x.node (omega (arith, x.within)) x.named))))

-- what a refusal for an operator says, at the counts of the file
shown : (f : List ℕ) (a b c : ℕ) (r : Refusal) → Otherwise f a b c → read_of f ≡ Err r → refusal_number r ≡ law_broken → Shown f a b c r
shown f a b c r o e n =
    let w : BrokenLaw f r = refused-law f r e n in
    let s = same-counts f a b c w.operators w.atoms w.nodes o w.otherwise in
    let os : List (List ℕ) = operator_records f a in
    let ns : List (List ℕ) = node_records f a b c in
    let many : length ns ≡ c = length-records c node_length (drop (nodes_at a b + 1) f) in
    let x : LawFailure = w.failure in
    let shows : Shows (operator_at os r.place) x = rw s.0 at w.shows in
    let g : Naming r.place ns = naming r.place ns (rw (s.0, s.1, s.2) at w.used) in
    let kept : (i : ℕ) → i < r.place → named i ns ≡ true → KeepsLaws (operator_at os i) = rw (s.0, s.1, s.2) at w.first_such in
    record {
      within = omega (arith, w.within, s.0);
      some = record {
        node = g.node;
        within = omega (arith, g.within);
        operator = r.place;
        named = names-either r.place (get_or ns g.node []) g.names-it;
        breaks = breaks (operator_at os r.place) x shows;
      };
      named = refl;
      first = first-broken f a b c r.place kept;
      failure = x;
      reason = w.reason;
      shows = shows;
    }

-- a node's operator that breaks a law: the laws are not kept
not-laws : (f : List ℕ) (a b c : ℕ) → SomeBroken f a b c → ¬ LawsKept (operator_records f a) (node_records f a b c)
not-laws f a b c w k =
    let os : List (List ℕ) = operator_records f a in
    let g = k w.node (omega (arith, w.within, length-records c node_length (drop (nodes_at a b + 1) f))) in
    not-kept (operator_at os w.operator) w.breaks
    (⊎_elim (λ e. subst (λ i. KeepsLaws (operator_at os i)) (sym e) g.0) (λ e. subst (λ i. KeepsLaws (operator_at os i)) (sym e) g.1) w.named)

pub table_follows_tree : TableFollowsTree
table_follows_tree = record {
  accepted = accepted-exactly;
  eval = action-eval;
  atoms = λ f l e. ap all_atoms (accepted-tree f l e).lists ∙ accepted-atoms f l e;
  scan = table-scans;
  compiles = λ f t s l e enough fits. sym ((answered-in-order f t s).rows_answered l e enough fits).answer;
  law = λ f a b c o. (
    λ w. (shown f a b c w.refusal o w.refused w.number).some,
    λ w. let x = broken-refused f a b c o (not-laws f a b c w) in record { refusal = x.0; refused = x.1; number = x.2 },
  );
  shown = shown;
  for_room = room-exactly;
}
