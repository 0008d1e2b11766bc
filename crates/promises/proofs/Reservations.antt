-- Reservations that add up: each sentence from the laws of operators, by the fold of a list, or by computation. Assumes nothing.
use Rattle.std.proofs.Common.{ℕ, zero, suc, ◌+◌, ◌*◌, ◌≤◌, ◌<◌, min, arith, ◌≡◌, refl, sym, ap, ◌∙◌, true, ◌&&◌, List, [], ◌∷◌, inl, inr, ⊎_elim, ◌↔◌, eqb, leb}
use Rattle.std.proofs.Common.{ltb, get_or, drop, get_or-drop, eqb-true, leb-true, lt-ltb, le-leb, eq-eqb, Ok, Err}
use Rattle.logic.specs.Lists.{All}
use Rattle.logic.proofs.Tests.{by-test, by_le, and_left, and_right, and_both}
use Rattle.theory.specs.declared.Row.{Row}
use Rattle.theory.specs.Tree.{Forest, node, bare, ◌▸◌, Node, own, eval, evals}
use Rattle.flow.specs.Match.{meets}
use Rattle.flow.specs.declared.Match.{Match}
use Rattle.flow.specs.declared.Packet.{Packet}
use Rattle.action.specs.Action.{rate_of}
use Rattle.action.specs.Operator.{cell_count, largest_in, rate_cells, coded, join, right_cell}
use Rattle.action.specs.Laws.{law_search, commutes, associates, along, product, pairs, triples, shown, first_pair, first_triple, ◌else◌}
use Rattle.action.specs.declared.Action.{Action}
use Rattle.action.specs.declared.Action.TheVariants.{DontCare, Allow, Deny, Gmb}
use Rattle.action.proofs.Exact.{search-exact, search-shows}
use Rattle.action.proofs.Joined.{identity}
use Rattle.refusal.specs.Refusals.{refusal_at}
use Rattle.refusal.specs.declared.Reason.TheVariants.{WrongCell}
use Rattle.policy.specs.Numbers.{latest}
use Rattle.policy.specs.Due.{RecordDue, cell, SectionDue, wrong_record, record_at}
use Rattle.policy.specs.declared.Edition.TheVariants.{First}
use Rattle.policy.specs.declared.Section.TheVariants.{Operators, Atoms, Nodes}
use Rattle.policy.specs.Read.{read_of}
use Rattle.policy.specs.Order.{Due, in_header, in_operators, in_atoms, in_nodes}
use Rattle.policy.specs.declared.Layout.{Layout}
use Rattle.policy.proofs.Accepted.{accepted-exactly}
use Rattle.policy.proofs.Order.{file-order}
use Rattle.nodes.proofs.Places.{record-at}
use Rattle.promises.specs.Reservations.{NinthAdds, Reserves, reserved, own_rates, given, EachReserves, team_rates, Allowed, WrongCode, ReservationsAddUp}
use Rattle.promises.proofs.Cases.{reserved-cases}

-- what some rates reserve
some : (n : ℕ) → 1 ≤ n → reserved n ≡ Gmb (min n 100000000)
some zero h = absurd (omega arith)
some (suc n) h = refl

-- THE SUM
module _ (o : List ℕ) (adds : NinthAdds o) where
  gives : (m n : ℕ) → join o (Gmb m) (Gmb n) ≡ Gmb (min (m + n) 100000000)
  unfolding join coded
  gives m n = rw adds refl

  commutative : (m n : ℕ) → join o (Gmb m) (Gmb n) ≡ join o (Gmb n) (Gmb m)
  commutative m n = gives m n ∙ ap Gmb (let e : min (m + n) 100000000 ≡ min (n + m) 100000000 = omega arith in e) ∙ sym (gives n m)

  associative : (m n k : ℕ) → join o (join o (Gmb m) (Gmb n)) (Gmb k) ≡ join o (Gmb m) (join o (Gmb n) (Gmb k))
  associative m n k =
      let e : min (min (m + n) 100000000 + k) 100000000 ≡ min (m + min (n + k) 100000000) 100000000 = omega arith in
      ap (λ (x : Action). join o x (Gmb k)) (gives m n)
      ∙ gives (min (m + n) 100000000) k
      ∙ ap Gmb e
      ∙ sym (gives m (min (n + k) 100000000))
      ∙ ap (join o (Gmb m)) (sym (gives n k))

  -- one action more, on the left of what others reserve
  joined : (a : Action) (n : ℕ) → Reserves a → join o a (reserved n) ≡ reserved (rate_of a + n)
  joined DontCare n h = let e : n ≡ 0 + n = omega arith in (identity o (reserved n)).0 ∙ ap reserved e
  joined Allow n h = absurd h
  joined Deny n h = absurd h
  joined (Gmb m) n h =
      by_le 1 n
      (λ l.
      let e : min (m + min n 100000000) 100000000 ≡ min (m + n) 100000000 = omega arith in
      ap (join o (Gmb m)) (some n l) ∙ gives m (min n 100000000) ∙ ap Gmb e ∙ sym (some (m + n) (omega (arith, h))))
      (λ l.
      let z : n ≡ 0 = omega arith in
      let e : m ≡ min (m + n) 100000000 = omega (arith, h) in
      ap (λ (k : ℕ). join o (Gmb m) (reserved k)) z ∙ (identity o (Gmb m)).1 ∙ ap Gmb e ∙ sym (some (m + n) (omega (arith, h))))

  atoms : (xs : List (Row Match Action)) (p : Packet) → All (λ x. meets x.matching p ≡ true → Reserves x.action) xs
      → own meets DontCare join o xs p ≡ reserved (own_rates xs p)
  atoms [] p h = refl
  atoms (x ∷ xs) p h =
      by-test (meets x.matching p)
      (λ t. rw t (ap (join o x.action) (atoms xs p h.1) ∙ joined x.action (own_rates xs p) (h.0 t)))
      (λ t. let e : own_rates xs p ≡ 0 + own_rates xs p = omega arith in rw t (atoms xs p h.1 ∙ ap reserved e))

  forest : (ts : Forest (Node (List ℕ) Match Action)) (p : Packet) → EachReserves ts p
      → evals meets DontCare join ts o p ≡ reserved (team_rates ts p)
  forest bare p h = refl
  forest (t ▸ ts) p h = ap (join o (given t p)) (forest ts p h.1) ∙ joined (given t p) (team_rates ts p) h.0

teams : (n : Node (List ℕ) Match Action) → NinthAdds n.sibling → (ts : Forest (Node (List ℕ) Match Action)) (p : Packet) → EachReserves ts p
    → eval meets DontCare join (node n ts) p ≡ join n.parent (own meets DontCare join n.inner n.atoms p) (reserved (team_rates ts p))
teams n adds ts p h = ap (join n.parent (own meets DontCare join n.inner n.atoms p)) (forest n.sibling adds ts p h)

-- WHERE THE CODE MAY STAND
pub allowed : (i c : ℕ) → i < 9 → (right_cell i c ≡ true) ↔ Allowed i c
unfolding right_cell
allowed i c h = (to, from)
  where
    to : right_cell i c ≡ true → Allowed i c
    to e =
        let within : leb c (largest_in rate_cells i) ≡ true = and_right (ltb i cell_count && leb 1 c) _ e in (
          leb-true 1 c (and_right (ltb i cell_count) _ (and_left _ _ e)),
          by-test (eqb i 8)
              (λ t. inr (eqb-true i 8 t, leb-true c 7 (rw t at within)))
              (λ t. inl (leb-true c 4 (rw t at within))),
        )

    from : Allowed i c → right_cell i c ≡ true
    from a =
        and_both (and_both (lt-ltb i cell_count h) (le-leb 1 c a.0))
        (by-test (eqb i 8)
        (λ t. rw t (le-leb c 7 (⊎_elim (λ x. omega (arith, x)) (λ x. x.1) a.1)))
        (λ t. rw t (le-leb c 4 (⊎_elim (λ x. x) (λ x. absurd (let z : ◌≡◌ {A = ℕ} 0 1 = cc (eq-eqb i 8 x.0, t) in omega arith)) a.1))))

-- the reason of a record that is wrong is a cell's in the section of the operators alone
module _ (f : List ℕ) where
  -- a cell of an operator is a word of the file
  cell-word : (n i j : ℕ) → i < n → j < 9 → get_or (record_at f 0 (Operators First) n i) j 0 ≡ get_or f (1 + 9 * i + j) 0
  cell-word n i j l k =
      let q : 1 + (9 * i + j) ≡ 1 + 9 * i + j = omega arith in
      record-at n 9 (drop 1 f) i j l k ∙ get_or-drop 1 f (9 * i + j) 0 ∙ ap (λ (m : ℕ). get_or f m 0) q

  kept : (l : Layout) → read_of f ≡ Ok l → (operator cell : ℕ) → operator < l.operators → cell < 9
      → Allowed cell (get_or f (1 + 9 * operator + cell) 0)
  kept l e i j p q =
      (allowed j _ q).0 (rw (← cell-word l.operators i j p q) (((accepted-exactly f l).0 e).otherwise.cells i j p q))

  wrong-cell : (n i : ℕ) {at : ℕ} → n ≡ get_or f 0 0 → i < n → RecordDue (1 + 9 * i) (record_at f 0 (Operators First) n i) (Operators First) WrongCell at
      → WrongCode f at
  wrong-cell n i c l (cell {e} {j} v) = record {
    operator = i;
    named = omega (arith, c, l);
    cell = j;
    within = v.within;
    place = refl;
    wrong = λ a. v.wrong ((allowed j _ v.within).1 (rw (cell-word n i j l v.within) a));
  }

  wrong-operator : {at : ℕ} → SectionDue f 0 (Operators First) WrongCell at → WrongCode f at
  wrong-operator (wrong_record {n} {i} p w d) = wrong-cell n i (sym p.count) w.within d

  wrong-atom : {at place : ℕ} → ¬ (SectionDue f at (Atoms First) WrongCell place)
  wrong-atom (wrong_record p w d) = elim d [ ]

  wrong-node : {at place n : ℕ} → ¬ (SectionDue f at (Nodes n) WrongCell place)
  wrong-node (wrong_record p w d) = elim d [ ]

  wrong-due : {at : ℕ} → Due latest f WrongCell at → WrongCode f at
  wrong-due (in_header d) = absurd d
  wrong-due (in_operators h d) = wrong-operator d
  wrong-due (in_atoms h g d) = absurd (wrong-atom d)
  wrong-due (in_nodes h g k d) = absurd (wrong-node d)

  wrong : (at : ℕ) → read_of f ≡ Err (refusal_at WrongCell at) → WrongCode f at
  wrong at e = wrong-due ((file-order.due latest f WrongCell at (λ z. omega (arith, z))).0 e)

  ninth : (operator : ℕ) → get_or f (9 * suc operator) 0 ≡ 7 → ¬ (read_of f ≡ Err (refusal_at WrongCell (9 * suc operator)))
  ninth operator h e =
      let w : WrongCode f (9 * suc operator) = wrong (9 * suc operator) e in
      let c : w.cell ≡ 8 = omega (arith, w.place, w.within) in
      w.wrong (omega (arith, h), inr (c, omega (arith, h)))

-- THE SEARCH
listed : shown ≡ Allow ∷ Deny ∷ Gmb 1 ∷ Gmb 2 ∷ Gmb 4 ∷ []
unfolding shown
listed = refl

every : (o : List ℕ) → law_search o ≡ along (commutes o) (product shown shown) else along (associates o) (product shown (product shown shown))
unfolding law_search first_pair first_triple pairs triples
every o = refl

pub reservations_add_up : ReservationsAddUp
reservations_add_up = record {
  between = record { teams = teams; atoms = atoms };
  sum = record { gives = gives; commutative = commutative; associative = associative };
  codes = record { allowed = allowed; kept = kept; wrong = wrong; ninth = ninth };
  search = record { exact = search-exact; shows = search-shows; list = listed; every = every };
  cases = reserved-cases;
}
