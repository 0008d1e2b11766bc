-- What a refusal says: every stage but the last refuses with a number below 10 and no law, and the last with what the law search found. Assumes nothing.
use Rattle.std.proofs.Common.{ℕ, suc, ◌+◌, ◌≤◌, ◌<◌, arith, ◌≡◌, refl, sym, ap, subst, ◌∙◌, Bool, true, false, cond, ◌&&◌, List, [], ◌∷◌, ◌++◌, map, ◌⊎◌, inl}
use Rattle.std.proofs.Common.{inr, ⊎_elim, eqb, leb, ltb, get_or, length, drop, Ok, Err, None}
use Rattle.policy.specs.Sections.{Test}
use Rattle.logic.specs.Lists.{All}
use Rattle.words.proofs.RecordLaws.{length-records}
use Rattle.words.specs.Records.{records}
use Rattle.action.specs.Laws.{Searched, law_search, Shows}
use Rattle.action.specs.declared.LawFailure.{LawFailure}
use Rattle.action.proofs.Exact.{search-exact, search-shows}
use Rattle.refusal.specs.Refusals.{law_broken, reason_number, failure_of, refusal_at, refusal_number}
use Rattle.refusal.specs.declared.Reason.{Reason}
use Rattle.refusal.specs.declared.Reason.TheVariants.{LawBroken, ShortFile, WrongCount, WrongCell, WrongMatch, WrongAction, WrongNode, ExtraWords, NoTree, WrongSum}
use Rattle.refusal.specs.declared.Refusal.{Refusal}
use Rattle.policy.specs.Numbers.{latest, header_length_in, operator_length_in, most_atoms, most_children, deepest}
use Rattle.policy.specs.Sections.{unless, ◌else◌, each, record_length, least, most, header_fault, count_fault, cell_fault, cells_fault, atom_fault}
use Rattle.policy.specs.Sections.{node_fault, record_fault, behind, section_fault, inner_of, parent_of, sibling_of, own_of, children_of}
use Rattle.policy.specs.Whole.{waiting_nodes, one_less, shape, shape_fault, own_atoms, sum_fault, named, broken, operator_fault, laws_fault}
use Rattle.policy.specs.Read.{atoms_at_in, nodes_at_in, end_in, operators_in, nodes_in, whole_stages, stages, layout, answer, read_as}
use Rattle.policy.specs.Atom.{right_atom_match, right_atom_action}
use Rattle.policy.specs.Cells.{right_cell_in, operator_rows}
use Rattle.policy.specs.Meaning.{operator_at}
use Rattle.policy.specs.WellFormed.{OtherwiseIn}
use Rattle.policy.specs.Theorems.{RefusedLawAs, RefusedLaw, BrokenRefusedAs, BrokenRefused, RefusedPlainAs, RefusedPlain}
use Rattle.policy.specs.declared.Edition.{Edition}
use Rattle.policy.specs.declared.Edition.TheVariants.{First}
use Rattle.policy.specs.declared.Layout.{Layout}
use Rattle.policy.specs.declared.Section.{Section}
use Rattle.policy.specs.declared.Section.TheVariants.{Operators, Atoms, Nodes}
use Rattle.policy.proofs.Each.{FirstFault, each_first}
use Rattle.policy.proofs.Named.{operators-many, right-operators, laws-kept, passed-search}
use Rattle.policy.proofs.Accepted.{AllPassed, before, by_name, Stages, otherwise-of, of-otherwise}
use Rattle.logic.proofs.Tests.{by-test}
use Rattle.action.specs.Operator.{cells_of}

-- a refusal that names no law, with a number from 1 to 9
abbrev PlainRefusal : Refusal → Type 0
PlainRefusal r = (1 ≤ refusal_number r) × (refusal_number r < law_broken) × (failure_of r.reason ≡ None)

-- a reason with another number than that of a broken law names none
names-none : (why : Reason) → ¬ (reason_number why ≡ law_broken) → failure_of why ≡ None
names-none (LawBroken f) n = absurd (n refl)
names-none why n = refl

-- a test whose refusals are such
record Plain (t : Test) : Type 0 where
  only : (r : Refusal) → t ≡ Err r → PlainRefusal r

passed-plain : Plain (Ok tt)
passed-plain = record { only = λ r e. let z : ◌≡◌ {A = ℕ} 0 1 = cc in absurd (omega arith) }

failed-plain : (why : Reason) (at : ℕ) → 1 ≤ reason_number why → reason_number why < law_broken → Plain (Err (refusal_at why at))
failed-plain why at h k = record {
  only = λ r e. let q : r ≡ refusal_at why at = cc in rw q (h, k, names-none why (λ z. omega arith));
}

unless-plain : (b : Bool) (why : Reason) (at : ℕ) → 1 ≤ reason_number why → reason_number why < law_broken → Plain (unless b why at)
unless-plain true why at h k = passed-plain
unless-plain false why at h k = failed-plain why at h k

else-plain : (x y : Test) → Plain x → Plain y → Plain (◌else◌ x y)
else-plain (Ok u) y p q = q
else-plain (Err r) y p q = p

each-plain : {X : Type 0} (t : ℕ → X → Test) (at k : ℕ) (xs : List X) → ((p : ℕ) (x : X) → Plain (t p x)) → Plain (each t at k xs)
each-plain t at k [] h = passed-plain
each-plain t at k (x ∷ xs) h = else-plain (t at x) (each t (at + k) k xs) (h at x) (each-plain t (at + k) k xs h)

record-plain : (s : Section) (at : ℕ) (r : List ℕ) → Plain (record_fault s at r)
unfolding cells_fault atom_fault node_fault
record-plain (Operators e) at r =
    each-plain (cell_fault e at) 0 1 r (λ j c. unless-plain (right_cell_in e j c) WrongCell (at + j) (omega arith) (omega arith))
record-plain (Atoms e) at r =
    else-plain (unless (right_atom_match e r) WrongMatch at) (unless (right_atom_action e r) WrongAction at)
    (unless-plain (right_atom_match e r) WrongMatch at (omega arith) (omega arith))
    (unless-plain (right_atom_action e r) WrongAction at (omega arith) (omega arith))
record-plain (Nodes n) at r =
    unless-plain
    (ltb (inner_of r) n && ltb (parent_of r) n && ltb (sibling_of r) n && leb (own_of r) most_atoms && leb (children_of r) most_children)
    WrongNode
    at
    (omega arith) (omega arith)

header-plain : (e : Edition) (f : List ℕ) → Plain (header_fault e f)
header-plain First f = passed-plain

section-plain : (f : List ℕ) (at : ℕ) (s : Section) → Plain (section_fault f at s)
unfolding section_fault count_fault
section-plain f at s =
    let n : ℕ = get_or f at 0 in
    let k : ℕ = record_length s in
    let there : Test = unless (ltb at (length f)) ShortFile (length f) in
    let limits : Test = unless (leb (least s) n && leb n (most s)) WrongCount at in
    let whole : Test = unless (leb (behind at s n) (length f)) ShortFile (length f) in
    let all : Test = each (record_fault s) (at + 1) k (records n k (drop (at + 1) f)) in
    else-plain (◌else◌ there limits) (◌else◌ whole all)
    (else-plain there limits (unless-plain (ltb at (length f)) ShortFile (length f) (omega arith) (omega arith))
    (unless-plain (leb (least s) n && leb n (most s)) WrongCount at (omega arith) (omega arith)))
    (else-plain whole all (unless-plain (leb (behind at s n) (length f)) ShortFile (length f) (omega arith) (omega arith))
    (each-plain (record_fault s) (at + 1) k (records n k (drop (at + 1) f)) (record-plain s)))

shape-plain : (ks st : List ℕ) (i : ℕ) → Plain (shape ks st i)
shape-plain [] st i = unless-plain (eqb (length (waiting_nodes st)) 0) NoTree i (omega arith) (omega arith)
shape-plain (k ∷ ks) st i =
    go (leb 1 (length (waiting_nodes st)) && leb (length (waiting_nodes st)) deepest) (shape-plain ks (k ∷ one_less (waiting_nodes st)) (suc i))
  where
    go : (b : Bool) {t : Test} → Plain t → Plain (cond b t (Err (refusal_at NoTree i)))
    go true p = p
    go false p = failed-plain NoTree i (omega arith) (omega arith)

-- of stages with plain refusals and one more, the answer is plain, or all but the last are passed
first-refusal : (ts : List Test) (u : Test) (l : Layout) (r : Refusal) → All Plain ts → answer (ts ++ (u ∷ [])) l ≡ Err r
    → PlainRefusal r ⊎ (AllPassed ts × (u ≡ Err r))
first-refusal [] (Ok v) l r p e = let z : ◌≡◌ {A = ℕ} 0 1 = cc in absurd (omega arith)
first-refusal [] (Err s) l r p e = inr (tt, cc)
first-refusal (Ok v ∷ ts) u l r p e = ⊎_elim (λ h. inl h) (λ h. inr ((refl, h.0), h.1)) (first-refusal ts u l r p.1 e)
first-refusal (Err s ∷ ts) u l r p e = inl (p.0.only r (cc))

module _ (e : Edition) (f : List ℕ) (a b c : ℕ) where
  -- the stages before the laws refuse plainly
  before-plain : All Plain (before e f a b c)
  unfolding shape_fault sum_fault
  before-plain = (
    header-plain e f,
    (
      section-plain f (header_length_in e) (Operators e),
      (
        section-plain f (atoms_at_in e a) (Atoms e),
        (
          section-plain f (nodes_at_in e a b) (Nodes a),
          (
            unless-plain _ ExtraWords (end_in e a b c) (omega arith) (omega arith),
            (
              shape-plain (map children_of (nodes_in e f a b c)) (1 ∷ []) 0,
              (unless-plain (eqb (own_atoms (nodes_in e f a b c)) b) WrongSum 0 (omega arith) (omega arith), tt),
            ),
          ),
        ),
      ),
    ),
  )

  laws : Test
  laws = laws_fault (nodes_in e f a b c) (operator_rows e (operators_in e f a))

  split : (r : Refusal) → answer (stages e f a b c) (layout a b c) ≡ Err r → PlainRefusal r ⊎ (Stages e f a b c × (laws ≡ Err r))
  unfolding stages whole_stages laws
  split r g =
      ⊎_elim
      (λ h. inl h)
      (λ h. inr (by_name e f a b c h.0, h.1))
      (first-refusal (before e f a b c) laws (layout a b c) r before-plain g)

-- what the refusal of the operator i shows: it is named and breaks a law
record Found (ns : List (List ℕ)) (i : ℕ) (o : List ℕ) (r : Refusal) : Type 0 where
  used : named i ns ≡ true
  failure : LawFailure
  reason : r.reason ≡ LawBroken failure
  place : r.place ≡ i
  shows : Shows (cells_of o) failure

found : (ns : List (List ℕ)) (i : ℕ) (o : List ℕ) (r : Refusal) → operator_fault ns i o ≡ Err r → Found ns i o r
unfolding operator_fault
found ns i o r e =
    by-test (named i ns)
    (λ t. searched (law_search (cells_of o)) t refl (rw t at e))
    (λ t. let k : ◌≡◌ {A = Test} (Ok tt) (Err r) = rw t at e in let z : ◌≡◌ {A = ℕ} 0 1 = cc in absurd (omega arith))
  where
    searched : (x : Searched) → named i ns ≡ true → law_search (cells_of o) ≡ x → broken i x ≡ Err r → Found ns i o r
    searched (Ok u) t p g = let z : ◌≡◌ {A = ℕ} 0 1 = cc in absurd (omega arith)
    searched (Err w) t p g =
        let q : r ≡ refusal_at (LawBroken w) i = cc in
        rw q (record { used = t; failure = w; reason = refl; place = refl; shows = search-shows (cells_of o) w p })

-- the refusal of a broken law has its number
numbered : {ns : List (List ℕ)} {i : ℕ} {o : List ℕ} (r : Refusal) → Found ns i o r → refusal_number r ≡ law_broken
numbered r w = ap reason_number w.reason

-- the laws are refused with the first operator that is
first-broken : (ns os : List (List ℕ)) (r : Refusal) → laws_fault ns os ≡ Err r
    → (i : ℕ) × FirstFault [] (operator_fault ns) 1 0 os i r × Found ns i (get_or os i []) r
unfolding laws_fault
first-broken ns os r e =
    let f = each_first [] (operator_fault ns) 1 0 os r e in
    (f.0, f.1, found ns f.0 (get_or os f.0 []) r (f.1.fails f.0 (omega arith)))

-- EVERY REFUSAL BUT THE LAST STAGE'S IS PLAIN
pub refused-plain-as : RefusedPlainAs
unfolding read_as laws
refused-plain-as e f r g n =
    let a : ℕ = get_or f (header_length_in e) 0 in
    let b : ℕ = get_or f (atoms_at_in e a) 0 in
    let c : ℕ = get_or f (nodes_at_in e a b) 0 in
    ⊎_elim
    (λ h. h)
    (λ h. absurd (n (numbered r (first-broken (nodes_in e f a b c) (operator_rows e (operators_in e f a)) r h.1).2)))
    (split e f a b c r g)

-- THE LAST STAGE'S SHOWS A BROKEN LAW
pub refused-law-as : RefusedLawAs
unfolding read_as laws
refused-law-as e f r g n =
    let a : ℕ = get_or f (header_length_in e) 0 in
    let b : ℕ = get_or f (atoms_at_in e a) 0 in
    let c : ℕ = get_or f (nodes_at_in e a b) 0 in
    let raw : List (List ℕ) = operators_in e f a in
    let os : List (List ℕ) = operator_rows e raw in
    let counted : length raw ≡ a = length-records a (operator_length_in e) (drop (header_length_in e + 1) f) in
    let ns : List (List ℕ) = nodes_in e f a b c in
    ⊎_elim
    (λ h. absurd (omega (arith, h.1)))
    (λ h.
    let w = first-broken ns os r h.1 in
    let o : OtherwiseIn e f a b c = otherwise-of e f a b c refl refl refl h.0 in
    let z : r.place ≡ w.0 = w.2.place in
    let many : length os ≡ a = operators-many e raw ∙ counted in
    record {
      operators = a;
      atoms = b;
      nodes = c;
      otherwise = o;
      within = omega (arith, w.1.within);
      used = rw z w.2.used;
      failure = w.2.failure;
      reason = w.2.reason;
      shows = subst (λ k. Shows (operator_at os k) w.2.failure) (sym z) w.2.shows;
      first_such = λ i l t.
          (search-exact (operator_at os i) (right-operators e raw a counted o.cells i (omega (arith, w.1.within)))).0
          (passed-search ns i (get_or os i []) (w.1.before i (omega arith) i (omega arith)) t);
    })
    (split e f a b c r g)

-- where the last stage is not passed it is the answer
last-answer : (u : Test) (l : Layout) → ¬ (u ≡ Ok tt) → (r : Refusal) × (answer (u ∷ []) l ≡ Err r) × (u ≡ Err r)
last-answer (Ok u) l n = absurd (n refl)
last-answer (Err r) l n = (r, refl, refl)

-- A BROKEN LAW IS REFUSED
pub broken-refused-as : BrokenRefusedAs
unfolding read_as stages whole_stages
broken-refused-as e f a b c o n =
    let raw : List (List ℕ) = operators_in e f a in
    let os : List (List ℕ) = operator_rows e raw in
    let counted : length raw ≡ a = length-records a (operator_length_in e) (drop (header_length_in e + 1) f) in
    let ns : List (List ℕ) = nodes_in e f a b c in
    let s : Stages e f a b c = of-otherwise e f a b c o in
    let w : (r : Refusal) × (answer (laws_fault ns os ∷ []) (layout a b c) ≡ Err r) × (laws_fault ns os ≡ Err r) =
    last-answer (laws_fault ns os) (layout a b c)
    (λ p. n (laws-kept a os ns (operators-many e raw ∙ counted) (right-operators e raw a counted o.cells)
    (λ i h. o.right_nodes i (rw length-records at h)) p)) in (
      w.0,
      rw (o.operators.count, o.atoms.count, o.nodes.count, s.header, s.operators, s.atoms, s.nodes, s.extra, s.tree, s.sum) w.1,
      numbered w.0 (first-broken ns os w.0 w.2).2,
    )

-- the same for the newest edition
pub refused-plain : RefusedPlain
refused-plain f r g n = refused-plain-as latest f r g n

pub refused-law : RefusedLaw
refused-law f r g n = refused-law-as latest f r g n

pub broken-refused : BrokenRefused
broken-refused f a b c o n = broken-refused-as latest f a b c o n
