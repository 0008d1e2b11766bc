-- The rows of an accepted file are the non-empty sets of its atoms, by place, that some packet in range meets all of: its atoms are right, so theory
-- counts them; a packet is its words, and the atoms of a set are those at its places. Assumes nothing.
use Rattle.std.proofs.Common.{ℕ, zero, suc, ◌<◌, arith, ◌≡◌, refl, sym, ap, subst, ◌∙◌, Bool, true, false, List, [], ◌∷◌, length, get_or, Ok, ◌↔◌}
use lib.ListN.{length-map}
use Rattle.std.proofs.lemmas.List.{get_or-map}
use Rattle.logic.specs.Lists.{All}
use Rattle.logic.proofs.Lists.{all_then}
use Rattle.logic.proofs.Tests.{and_right}
use Rattle.words.proofs.RecordLaws.{length-records}
use Rattle.theory.specs.declared.Row.{Row}
use Rattle.theory.specs.Nodes.{list_tree, all_atoms}
use Rattle.theory.specs.Shuffle.{chosen, IsSet, Sets, SharedBy}
use Rattle.theory.proofs.Sets.{rows-counted}
use Rattle.theory.proofs.OneCount.{sets-fixed}
use Rattle.flow.specs.Packet.{packet_of, packet_words, right_packet, right_packet_words}
use Rattle.flow.specs.Match.{match_of, meets, common, is_empty, right_match}
use Rattle.flow.specs.declared.Match.{Match}
use Rattle.flow.proofs.Any.{any}
use Rattle.action.specs.Operator.{join}
use Rattle.action.specs.declared.Action.{Action}
use Rattle.row.specs.Row.{row_of}
use Rattle.row.proofs.Counted.{count-laws}
use Rattle.policy.specs.Numbers.{atom_length}
use Rattle.policy.specs.Read.{read_of, atom_records}
use Rattle.policy.specs.File.{tree_of, atoms_of}
use Rattle.policy.specs.declared.Layout.{Layout}
use Rattle.table.specs.Table.{past}
use Rattle.compile.specs.Compile.{compiled_rows}
use Rattle.compile.specs.Theorems.{AnswerTells}
use Rattle.compile.proofs.Answered.{answers-rows}
use Rattle.compile.proofs.RightRows.{RightAtom, right-atoms}
use Rattle.promises.specs.Shuffles.{MetTogether, Counting}
use Rattle.promises.proofs.TableFollowsTree.{table_follows_tree}

-- the atoms at the places of a set, one by one
chosen-each : {X : Type 0} (T : X → Type 0) (d : X) (s : List Bool) (xs : List X) → length s ≡ length xs → All T (chosen s xs)
    → (i : ℕ) → i < length s → get_or s i false ≡ true → T (get_or xs i d)
chosen-each T d [] xs long f i h t = absurd (omega arith)
chosen-each T d (b ∷ s) [] long f i h t = absurd (omega arith)
chosen-each T d (true ∷ s) (x ∷ xs) long f zero h t = f.0
chosen-each T d (false ∷ s) (x ∷ xs) long f zero h t = let z : ◌≡◌ {A = ℕ} 0 1 = cc in absurd (omega arith)
chosen-each T d (true ∷ s) (x ∷ xs) long f (suc i) h t = chosen-each T d s xs (omega arith) f.1 i (omega arith) t
chosen-each T d (false ∷ s) (x ∷ xs) long f (suc i) h t = chosen-each T d s xs (omega arith) f i (omega arith) t

each-chosen : {X : Type 0} (T : X → Type 0) (d : X) (s : List Bool) (xs : List X) → length s ≡ length xs
    → ((i : ℕ) → i < length s → get_or s i false ≡ true → T (get_or xs i d)) → All T (chosen s xs)
each-chosen T d [] xs long f = tt
each-chosen T d (b ∷ s) [] long f = absurd (omega arith)
each-chosen T d (true ∷ s) (x ∷ xs) long f = (f 0 (omega arith) refl, each-chosen T d s xs (omega arith) (λ i h t. f (suc i) (omega arith) t))
each-chosen T d (false ∷ s) (x ∷ xs) long f = each-chosen T d s xs (omega arith) (λ i h t. f (suc i) (omega arith) t)

-- the same sets, by another property that says the same of sets of these places
sets-as : (n k : ℕ) (T U : List Bool → Type 0) → ((s : List Bool) → length s ≡ n → T s ↔ U s) → Sets n T k → Sets n U k
sets-as n k T U same h = record {
  sets = h.sets;
  exactly = λ s. (
    λ m. let g : IsSet n T s = (h.exactly s).0 m in record { places = g.places; some = g.some; has = (same s g.places).0 g.has },
    λ g. (h.exactly s).1 (record { places = g.places; some = g.some; has = (same s g.places).1 g.has }),
  );
  once = h.once;
  many = h.many;
}

module _ (f : List ℕ) (l : Layout) (e : read_of f ≡ Ok l) where
  abbrev atoms : List (List ℕ)
  atoms = atom_records f l.operators l.atoms

  many : length (atoms_of f l) ≡ l.atoms
  many = length-map atoms row_of ∙ length-records l.atoms atom_length _

  atom-at : (i : ℕ) → i < l.atoms → (get_or (atoms_of f l) i past).matching ≡ match_of (get_or atoms i [])
  atom-at i h = ap (λ (r : Row Match Action). r.matching) (get_or-map row_of atoms i [] past (omega (arith, h, many, length-map atoms row_of)))

  abbrev SharedSet : List Bool → Type 0
  SharedSet s = SharedBy meets (λ p. right_packet p ≡ true) (chosen s (atoms_of f l))

  met : (s : List Bool) → length s ≡ l.atoms → SharedSet s → MetTogether f l s
  unfolding right_packet_words
  met s long h = record {
    packet = packet_words h.packet;
    right = h.in_range;
    meets_all = λ i k t.
        subst (λ m. meets m h.packet ≡ true) (atom-at i (omega (arith, k, long)))
        (chosen-each (λ (x : Row Match Action). meets x.matching h.packet ≡ true) past s (atoms_of f l) (long ∙ sym many) h.meets_all i k t);
  }

  shared : (s : List Bool) → length s ≡ l.atoms → MetTogether f l s → SharedSet s
  unfolding right_packet_words
  shared s long h = record {
    packet = packet_of h.packet;
    in_range = and_right _ (right_packet (packet_of h.packet)) h.right;
    meets_all = each-chosen (λ (x : Row Match Action). meets x.matching (packet_of h.packet) ≡ true) past s (atoms_of f l) (long ∙ sym many)
        (λ i k t. subst (λ m. meets m (packet_of h.packet) ≡ true) (sym (atom-at i (omega (arith, k, long)))) (h.meets_all i k t));
  }

  -- the matches of the atoms of an accepted file are right
  pub right-matches : All (λ (x : Row Match Action). right_match x.matching ≡ true) (all_atoms (list_tree (tree_of f l)))
  right-matches =
      subst (All (λ (x : Row Match Action). right_match x.matching ≡ true)) (sym (table_follows_tree.atoms f l e))
      (all_then RightAtom _ (λ r a. a.0) (atoms_of f l) (right-atoms f l e))

  counted : Sets l.atoms (MetTogether f l) (length (compiled_rows f l))
  unfolding compiled_rows
  counted =
      let sets = rows-counted meets common is_empty any join (λ m. right_match m ≡ true) (λ p. right_packet p ≡ true) count-laws (tree_of f l) right-matches in
      sets-as l.atoms (length (compiled_rows f l)) SharedSet (MetTogether f l) (λ s long. (met s long, shared s long))
      (subst (λ n. Sets n SharedSet (length (compiled_rows f l))) many
      (subst (λ (xs : List (Row Match Action)). Sets (length xs) (λ s. SharedBy meets (λ p. right_packet p ≡ true) (chosen s xs)) (length (compiled_rows f l)))
      (table_follows_tree.atoms f l e) sets))

-- EVERY SENTENCE OF THE COUNT
pub counting : Counting
counting = record {
  sets = λ f l n e. (
    λ h. sets-fixed l.atoms (MetTogether f l) n (length (compiled_rows f l)) h (counted f l e),
    λ q. subst (Sets l.atoms (MetTogether f l)) (sym q) (counted f l e),
  );
  answered = λ f t s l n e q.
      let k : AnswerTells f t s n = answers-rows f t s n q in
      let same : k.layout ≡ l = cc in
      subst (Sets l.atoms (MetTogether f l)) (sym (k.count ∙ ap (λ (m : Layout). length (compiled_rows f m)) same)) (counted f l e);
}
