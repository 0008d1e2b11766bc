-- What the code reads and writes of an atom is what the definitions say, and the turns of the loop over the rows. Assumes nothing.
use Rattle.std.proofs.Common.{ℕ, ◌+◌, ◌-◌, ◌*◌, ◌<◌, arith, ◌≡◌, sym, ap, ◌∙◌, Bool, true, false, ◌||◌, List, [], ◌∷◌, get_or, take, drop}
use Rattle.std.proofs.Common.{drop-drop, Result, Ok, IfOk}
use Rattle.std.specs.List.{list_any}
use Rattle.std.proofs.Math.ListN.{get_or-map}
use Rattle.words.specs.Words.{copied}
use Rattle.words.proofs.Laid.{copied-fits}
use Rattle.words.proofs.RecordLaws.{records-at}
use Rattle.theory.specs.declared.Row.{Row}
use Rattle.flow.specs.Match.{match_of, match_words, none}
use Rattle.flow.specs.declared.Match.{Match}
use Rattle.action.specs.declared.Action.{Action}
use Rattle.row.specs.Row.{row_length, row_of}
use Rattle.policy.specs.Read.{read_of, first_atom, atoms_at, atom_records}
use Rattle.policy.specs.File.{tree_of, atoms_of}
use Rattle.policy.specs.declared.Layout.{Layout}
use Rattle.table.specs.Table.{past}
use Rattle.idle.specs.Idle.{without, decides_by, decides_in}
use Rattle.idle.proofs.Replaced.{again, first-is, in-file}

module _ (f : List ℕ) (l : Layout) (j : ℕ) (e : read_of f ≡ Ok l) (h : j < l.atoms) where
  -- the word where the atom stands
  abbrev from : ℕ
  from = first_atom l.operators + row_length * j

  -- its match
  pub match-read : (n : ℕ) → n ≡ row_length → match_of (take n (drop from f)) ≡ (get_or (atoms_of f l) j past).matching
  match-read n q =
      let place : atoms_at l.operators + 1 + j * row_length ≡ from = omega (arith, first-is f l e) in
      let record_is : get_or (atom_records f l.operators l.atoms) j [] ≡ take row_length (drop from f) =
      records-at l.atoms row_length j (drop (atoms_at l.operators + 1) f) h
      ∙ ap (take row_length) (drop-drop (j * row_length) (atoms_at l.operators + 1) f ∙ ap (λ k. drop k f) place) in
      ap (λ k. match_of (take k (drop from f))) q
      ∙ ap match_of (sym record_is)
      ∙ sym (ap (λ (r : Row Match Action). r.matching) (get_or-map row_of (atom_records f l.operators l.atoms) j []))

  -- the file without it
  pub words-without : copied from (match_words none) f ≡ without f l j
  unfolding without
  words-without = copied-fits from (match_words none) f (omega (arith, in-file f l e j h))

  -- so what is asked of a row is whether the atom decides in it
  module _ (first : ℕ) (starts : first ≡ first_atom l.operators) where
    abbrev start : ℕ
    start = first + row_length * j

    pub asked : (words changed : List ℕ) (m : Match) (r : Row Match Action) {E : Type 0} (res : Result Bool E) (b : Bool) → words ≡ changed
        → changed ≡ copied start (match_words none) f → m ≡ match_of (take (start + row_length - start) (drop start f))
        → ((k : Layout) → read_of words ≡ Ok k → IfOk res (λ c. c ≡ decides_by (tree_of words k) m r)) → res ≡ Ok b → b ≡ decides_in f l j r
    unfolding decides_in
    asked words changed m r res b d w q told was =
        let same : words ≡ without f l j = d ∙ w ∙ ap (λ k. copied (k + row_length * j) (match_words none) f) starts ∙ words-without in
        let ok : IfOk res (λ c. c ≡ decides_by (tree_of words l) m r) = told l (ap read_of same ∙ (again f l j e h).accepted) in
        let is : b ≡ decides_by (tree_of words l) m r = rw was at ok in
        let its : m ≡ (get_or (atoms_of f l) j past).matching =
        q ∙ ap (λ k. match_of (take (start + row_length - start) (drop (k + row_length * j) f))) starts
        ∙ match-read (start + row_length - start) (omega arith) in
        is ∙ ap (λ ws. decides_by (tree_of ws l) m r) same ∙ ap (λ n. decides_by (tree_of (without f l j) l) n r) its

-- a turn of the loop over the rows
module _ {X : Type 0} (test : X → Bool) (xs rest : List X) (x : X) (total : Bool) (all : list_any test xs ≡ total) (next : xs ≡ x ∷ rest) where
  one-passes : list_any test (x ∷ rest) ≡ total
  one-passes = ap (list_any test) (sym next) ∙ all

  pub this-passes : (b : Bool) → b ≡ test x → b ≡ true → true ≡ total
  this-passes b q t = sym (ap (λ (c : Bool). c || list_any test rest) (sym q ∙ t)) ∙ one-passes

  pub others-pass : (b : Bool) → b ≡ test x → b ≡ false → list_any test rest ≡ total
  others-pass b q t = sym (ap (λ (c : Bool). c || list_any test rest) (sym q ∙ t)) ∙ one-passes
