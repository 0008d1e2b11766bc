-- An accepted file without one of its atoms is accepted again, with the same counts: its parts are the same but for that atom's match. Assumes nothing.
use Rattle.std.proofs.Common.{ℕ, suc, ◌+◌, ◌*◌, ◌≤◌, ◌<◌, arith, ◌≡◌, refl, sym, ap, ap₂, subst, ◌∙◌, true, List, [], ◌∷◌, ◌++◌, map, append_assoc, get_or}
use Rattle.std.proofs.Common.{get_or-drop, length, take, drop, length-append, length-drop, take-append-drop, drop-cons, drop-drop, take_at, drop_at}
use Rattle.std.proofs.Common.{length-take-le, le-ltb, Ok}
use Rattle.std.proofs.lemmas.List.{drop-append-le}
use Rattle.logic.specs.Lists.{All}
use Rattle.logic.proofs.Lists.{all_append, all_split, all-at, all_from}
use Rattle.words.specs.Words.{laid}
use Rattle.words.proofs.Laid.{laid-is}
use Rattle.words.proofs.RecordLaws.{length-records, flat_append}
use Rattle.theory.specs.declared.Row.{Row}
use Rattle.flow.specs.Match.{match_words, none, match_length, right_match, is_plain, is_none}
use Rattle.action.specs.Action.{action_of, right_action}
use Rattle.flow.specs.declared.Match.{Match}
use Rattle.action.specs.declared.Action.{Action}
use Rattle.row.specs.Row.{row_of, row_action, right_row_match, right_row_action, row_length, kind_place, rate_place}
use Rattle.policy.specs.Numbers.{latest, operator_length, atom_length, node_length, most_operators}
use Rattle.policy.specs.Sections.{children_of, own_of}
use Rattle.policy.specs.Atom.{right_atom_match, right_atom_action}
use Rattle.policy.specs.Whole.{shape}
use Rattle.policy.specs.Meaning.{OneTree}
use Rattle.policy.specs.Read.{layout, atoms_at, nodes_at, read_of, first_atom, operator_records, atom_records, node_records}
use Rattle.policy.specs.File.{held}
use Rattle.policy.specs.WellFormed.{WellFormed}
use Rattle.policy.specs.Parts.{Parts, record_words, section_words, file_words_in, parts_in, layout_of_parts, EachLong, RightPartsIn, LawfulPartsIn}
use Rattle.policy.specs.declared.Layout.{Layout}
use Rattle.policy.proofs.Accepted.{accepted-exactly}
use Rattle.policy.proofs.Parts.{parts_whole, parts-read, parts-accepted, accepted-parts}
use Rattle.policy.proofs.Trees.{one-tree-shape, shape-one-tree}
use Rattle.idle.specs.Idle.{without}

-- words laid over the first of a part of a list
laid-mid : (pre x post F : List ℕ) (n : ℕ) → length pre ≡ n → length F ≤ length x
    → laid n F (pre ++ (x ++ post)) ≡ pre ++ ((F ++ drop (length F) x) ++ post)
laid-mid pre x post F n e h =
    let l : List ℕ = pre ++ (x ++ post) in
    let room : n + length F ≤ length l = omega (arith, e, h, length-append pre (x ++ post), length-append x post) in
    let behind : drop (n + length F) l ≡ drop (length F) x ++ post =
    sym (drop-drop (length F) n l) ∙ ap (drop (length F)) (drop_at pre (x ++ post) n e) ∙ drop-append-le (length F) x post h in
    laid-is n F l room
    ∙ ap₂ (λ a b. a ++ (F ++ b)) (take_at pre (x ++ post) n e) behind
    ∙ ap (λ w. pre ++ w) (sym (append_assoc F (drop (length F) x) post))

-- how many words records of one length have
record-many : (k : ℕ) (rs : List (List ℕ)) → EachLong k rs → length (record_words rs) ≡ k * length rs
record-many k [] e = omega arith
record-many k (r ∷ rs) e =
    let g : k * suc (length rs) ≡ k + k * length rs = omega arith in
    length-append r (record_words rs) ∙ omega (arith, e.0, record-many k rs e.1)

-- parts in which one atom may change
module _ (os ps qs ns : List (List ℕ)) where
  abbrev pub parts_with : List ℕ → Parts
  parts_with x = record { operators = os; atoms = ps ++ (x ∷ qs); nodes = ns }

  -- the words before the atom, and those behind it
  abbrev before_it : List ℕ
  before_it = length os ∷ (record_words os ++ (suc (length ps + length qs) ∷ record_words ps))

  abbrev behind_it : List ℕ
  behind_it = record_words qs ++ section_words ns []

  words-with : (x : List ℕ) → file_words_in latest (parts_with x) ≡ before_it ++ (x ++ behind_it)
  words-with x =
      let third : List ℕ = section_words ns [] in
      let many : length (ps ++ (x ∷ qs)) ≡ suc (length ps + length qs) = omega (arith, length-append ps (x ∷ qs)) in
      let turned : (record_words ps ++ (x ++ record_words qs)) ++ third ≡ record_words ps ++ (x ++ behind_it) =
      append_assoc (record_words ps) (x ++ record_words qs) third ∙ ap (λ w. record_words ps ++ w) (append_assoc x (record_words qs) third) in
      ap₂ (λ (m : ℕ) (w : List ℕ). length os ∷ (record_words os ++ (m ∷ (w ++ third)))) many (flat_append (λ r. r) ps (x ∷ qs))
      ∙ ap (λ w. length os ∷ (record_words os ++ (suc (length ps + length qs) ∷ w))) turned
      ∙ ap (λ w. length os ∷ w) (sym (append_assoc (record_words os) (suc (length ps + length qs) ∷ record_words ps) (x ++ behind_it)))

  before-many : EachLong operator_length os → EachLong atom_length ps → length before_it ≡ atoms_at (length os) + 1 + row_length * length ps
  before-many p q =
      omega (
        arith,
        record-many operator_length os p,
        record-many atom_length ps q,
        length-append (record_words os) (suc (length ps + length qs) ∷ record_words ps),
      )

  -- words laid over the atom's first are laid over it in the file
  pub laid-with : (x F : List ℕ) → EachLong operator_length os → EachLong atom_length ps → length F ≤ length x
      → laid (atoms_at (length os) + 1 + row_length * length ps) F (file_words_in latest (parts_with x))
      ≡ file_words_in latest (parts_with (F ++ drop (length F) x))
  laid-with x F p q h =
      ap (λ l. laid (atoms_at (length os) + 1 + row_length * length ps) F l) (words-with x)
      ∙ laid-mid before_it x behind_it F (atoms_at (length os) + 1 + row_length * length ps) (before-many p q) h
      ∙ sym (words-with (F ++ drop (length F) x))

-- an atom without its match: its action is the same
abbrev pub emptied : List ℕ → List ℕ
emptied x = match_words none ++ drop match_length x

module _ (x : List ℕ) (long : length x ≡ atom_length) where
  pub emptied-long : length (emptied x) ≡ atom_length
  emptied-long = omega (arith, long, length-drop match_length x)

-- its action stays
emptied-kind : (x : List ℕ) → get_or (emptied x) kind_place 0 ≡ get_or x kind_place 0
emptied-kind x = get_or-drop match_length x 0 0

emptied-rate : (x : List ℕ) → get_or (emptied x) rate_place 0 ≡ get_or x rate_place 0
emptied-rate x = get_or-drop match_length x 1 0

pub emptied-row : (x : List ℕ) → row_of (emptied x) ≡ record { matching = none; action = (row_of x).action }
unfolding row_action
emptied-row x = ap₂ (λ k n. record { matching = none; action = action_of k n }) (emptied-kind x) (emptied-rate x)

pub emptied-right : (x : List ℕ) → right_atom_match latest (emptied x) ≡ true
unfolding right_row_match right_match is_plain is_none
emptied-right x = refl

pub emptied-acts : (x : List ℕ) → right_atom_action latest x ≡ true → right_atom_action latest (emptied x) ≡ true
unfolding right_row_action
emptied-acts x h = ap₂ (λ k n. right_action k n) (emptied-kind x) (emptied-rate x) ∙ h

-- PARTS WITHOUT AN ATOM'S MATCH are right and lawful where those with it are
module _ (os ps qs ns : List (List ℕ)) (x : List ℕ) (r : RightPartsIn latest (parts_with os ps qs ns x)) where
  abbrev P : List ℕ → Parts
  P y = parts_with os ps qs ns y

  abbrev RightWords : List ℕ → Type 0
  RightWords y = (right_atom_match latest y ≡ true) × (right_atom_action latest y ≡ true)

  many : (y : List ℕ) → length (ps ++ (y ∷ qs)) ≡ length (ps ++ (x ∷ qs))
  many y = omega (arith, length-append ps (y ∷ qs), length-append ps (x ∷ qs))

  -- what each of the atoms has, each has still
  each_still : (T : List ℕ → Type 0) → All T (ps ++ (x ∷ qs)) → (T x → T (emptied x)) → All T (ps ++ (emptied x ∷ qs))
  each_still T h g =
      let s = all_split T ps (x ∷ qs) h in
      all_append T ps (emptied x ∷ qs) s.0 (g s.1.0, s.1.1)

  sound : All RightWords (ps ++ (emptied x ∷ qs))
  sound =
      each_still RightWords (all_from RightWords [] (ps ++ (x ∷ qs)) (λ i h. (r.matches i h, r.actions i h)))
      (λ h. (emptied-right x, emptied-acts x h.1))

  -- the nodes are one tree still: their child counts are the same
  pub still-one : OneTree (held os (map row_of (ps ++ (emptied x ∷ qs))) ns)
  still-one =
      shape-one-tree (held os (map row_of (ps ++ (emptied x ∷ qs))) ns)
      (ap (λ ks. shape ks (1 ∷ []) 0) (held-counts os (map row_of (ps ++ (emptied x ∷ qs))) (map row_of (ps ++ (x ∷ qs))) ns)
      ∙ one-tree-shape (held os (map row_of (ps ++ (x ∷ qs))) ns) r.one_tree)
    where
      held-counts : (os : List (List ℕ)) (xs ys : List (Row Match Action)) (rs : List (List ℕ))
          → map (λ n. n.child_count) (held os xs rs) ≡ map (λ n. n.child_count) (held os ys rs)
      held-counts os xs ys [] = refl
      held-counts os xs ys (r ∷ rs) = ap (λ ks. children_of r ∷ ks) (held-counts os (drop (own_of r) xs) (drop (own_of r) ys) rs)

  pub still-right : RightPartsIn latest (P (emptied x))
  still-right = record {
    operators_long = r.operators_long;
    atoms_long = each_still (λ y. length y ≡ atom_length) r.atoms_long (emptied-long x);
    nodes_long = r.nodes_long;
    some_operators = r.some_operators;
    few_operators = r.few_operators;
    few_atoms = omega (arith, r.few_atoms, many (emptied x));
    some_nodes = r.some_nodes;
    few_nodes = r.few_nodes;
    cells = r.cells;
    matches = λ i h. (all-at RightWords [] (ps ++ (emptied x ∷ qs)) i sound h).0;
    actions = λ i h. (all-at RightWords [] (ps ++ (emptied x ∷ qs)) i sound h).1;
    right_nodes = r.right_nodes;
    one_tree = still-one;
    all_taken = r.all_taken ∙ sym (many (emptied x));
  }

-- what is known of the file without an atom of an accepted file
pub record Again (f : List ℕ) (l : Layout) (j : ℕ) : Type 0 where
  pub accepted : read_of (without f l j) ≡ Ok l
  pub operators : operator_records (without f l j) l.operators ≡ operator_records f l.operators
  pub atoms : atom_records (without f l j) l.operators l.atoms
      ≡ take j (atom_records f l.operators l.atoms)
      ++ (emptied (get_or (atom_records f l.operators l.atoms) j []) ∷ drop (suc j) (atom_records f l.operators l.atoms))
  pub nodes : node_records (without f l j) l.operators l.atoms l.nodes ≡ node_records f l.operators l.atoms l.nodes

-- AN ACCEPTED FILE WITHOUT AN ATOM IS ACCEPTED, with the same counts
module _ (f : List ℕ) (l : Layout) (j : ℕ) (e : read_of f ≡ Ok l) (h : j < l.atoms) where
  abbrev os : List (List ℕ)
  os = operator_records f l.operators

  abbrev xs : List (List ℕ)
  xs = atom_records f l.operators l.atoms

  abbrev ns : List (List ℕ)
  ns = node_records f l.operators l.atoms l.nodes

  pub atoms-many : length xs ≡ l.atoms
  atoms-many = length-records l.atoms atom_length (drop (atoms_at l.operators + 1) f)

  operators-many : length os ≡ l.operators
  operators-many = length-records l.operators operator_length (drop 1 f)

  nodes-many : length ns ≡ l.nodes
  nodes-many = length-records l.nodes node_length (drop (nodes_at l.operators l.atoms + 1) f)

  -- the atom among the others
  pub among : take j xs ++ (get_or xs j [] ∷ drop (suc j) xs) ≡ xs
  among = ap (λ ys. take j xs ++ ys) (sym (drop-cons xs j [] (omega (arith, h, atoms-many)))) ∙ take-append-drop j xs

  abbrev Q : List ℕ → Parts
  Q y = parts_with os (take j xs) (drop (suc j) xs) ns y

  abbrev y : List ℕ
  y = emptied (get_or xs j [])

  old-parts : parts_in latest f l ≡ Q (get_or xs j [])
  old-parts = ap (λ ys. record { operators = os; atoms = ys; nodes = ns }) (sym among)

  old-right : RightPartsIn latest (Q (get_or xs j []))
  old-right = subst (RightPartsIn latest) old-parts (accepted-parts latest f l e).0

  new-right : RightPartsIn latest (Q y)
  new-right = still-right os (take j xs) (drop (suc j) xs) ns (get_or xs j []) old-right

  few : l.operators ≤ most_operators
  few = omega (arith, old-right.few_operators, operators-many)

  -- where the atom stands
  place : atoms_at (length os) + 1 + row_length * length (take j xs) ≡ first_atom l.operators + row_length * j
  unfolding first_atom
  place =
      let before : length (take j xs) ≡ j = length-take-le j xs (omega (arith, h, atoms-many)) in
      rw (before, operators-many, le-ltb most_operators l.operators few)

  -- its words are those of the changed parts
  new-words : without f l j ≡ file_words_in latest (Q y)
  unfolding without
  new-words =
      let w : WellFormed f l = (accepted-exactly f l).0 e in
      let whole : f ≡ file_words_in latest (Q (get_or xs j [])) =
      sym (parts_whole latest f l.operators l.atoms l.nodes w.otherwise) ∙ ap (file_words_in latest) old-parts in
      let long = all_split (λ x. length x ≡ atom_length) (take j xs) (get_or xs j [] ∷ drop (suc j) xs) old-right.atoms_long in
      ap₂ (λ n ws. laid n (match_words none) ws) (sym place) whole
      ∙ laid-with os (take j xs) (drop (suc j) xs) ns (get_or xs j []) (match_words none) old-right.operators_long long.0 (omega (arith, long.1.0))

  new-counts : layout_of_parts (Q y) ≡ l
  new-counts =
      let much : length (take j xs ++ (y ∷ drop (suc j) xs)) ≡ l.atoms =
      many os (take j xs) (drop (suc j) xs) ns (get_or xs j []) old-right y ∙ ap length among ∙ atoms-many in
      three _ _ _ _ _ _ operators-many much nodes-many
    where
      three : (a b c a' b' c' : ℕ) → a ≡ a' → b ≡ b' → c ≡ c' → layout a b c ≡ layout a' b' c'
      three a b c a' b' c' x y z = rw (x, y, z) refl

  pub again : Again f l j
  again =
      let laws : LawfulPartsIn latest (Q y) = (accepted-parts latest f l e).1 in
      let same : parts_in latest (without f l j) l ≡ Q y =
      ap₂ (λ w m. parts_in latest w m) new-words (sym new-counts) ∙ parts-read latest (Q y) new-right in
      record {
        accepted = ap read_of new-words ∙ parts-accepted latest (Q y) new-right laws ∙ ap Ok new-counts;
        operators = ap (λ (R : Parts). R.operators) same;
        atoms = ap (λ (R : Parts). R.atoms) same;
        nodes = ap (λ (R : Parts). R.nodes) same;
      }

-- THE ATOMS OF AN ACCEPTED FILE LIE IN IT
module _ (f : List ℕ) (l : Layout) (e : read_of f ≡ Ok l) where
  pub first-is : first_atom l.operators ≡ atoms_at l.operators + 1
  unfolding first_atom
  first-is = rw (le-ltb most_operators l.operators ((accepted-exactly f l).0 e).otherwise.operators.most)

  module _ (j : ℕ) (h : j < l.atoms) where
    pub in-file : first_atom l.operators + row_length * j + row_length ≤ length f
    in-file = omega (arith, h, first-is, ((accepted-exactly f l).0 e).otherwise.atoms.whole)

    -- and not far
    pub low : first_atom l.operators + row_length * j + row_length ≤ 12000
    low =
        let o = ((accepted-exactly f l).0 e).otherwise in
        omega (arith, h, first-is, o.operators.most, o.atoms.most)
