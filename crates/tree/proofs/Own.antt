-- A node's own action: its atoms one by one from the last. Assumes nothing.
use mathlib.Core.Path.{◌≡◌, refl, sym, ap, ◌∙◌}
use mathlib.Core.Bool.{Bool, true, false}
use mathlib.Core.List.{List, [], ◌∷◌, ◌++◌, append_assoc, map}
use Rattle.std.proofs.lemmas.List.{append-nil, nil_from_length}
use Prim.Native.Nat.{ℕ, ◌/◌}
use lib.ListN.{length}
use Rattle.std.specs.Simd.{first_chunks}
use Rattle.std.specs.Slice.Iter.{iter_rest}
use Rattle.std.proofs.Common.{Iter}
use Rattle.words.specs.Records.{rows_of}
use Rattle.words.proofs.Bytes.{chunks-records}
use Rattle.theory.specs.declared.Row.{Row}
use Rattle.theory.specs.Tree.{own}
use Rattle.row.specs.Row.{row_length, row_of, row_action, rows_in}
use Rattle.flow.specs.Match.{match_of, meets}
use Rattle.flow.specs.declared.Match.{Match}
use Rattle.flow.specs.declared.Packet.{Packet}
use Rattle.action.specs.Operator.{join}
use Rattle.action.specs.declared.Action.{Action}
use Rattle.action.specs.declared.Action.TheVariants.{DontCare}
use Rattle.tree.specs.Steps.{own_action, with_atom}

-- an atom's words are read as its match, and as its action where that is met
module _ (o atom : List ℕ) (p : Packet) (rest : Action) {m : Match} (read : m ≡ match_of atom) {t : Bool} (e : t ≡ meets m p) where
  pub with-met : {a r : Action} → a ≡ row_action atom → t ≡ true → r ≡ join o a rest → r ≡ with_atom o (row_of atom) p rest
  unfolding with_atom
  with-met {a} {r} f q j =
      let i : meets (match_of atom) p ≡ true = ap (λ x. meets x p) (sym read) ∙ sym e ∙ q in
      rw i (j ∙ ap (λ x. join o x rest) f)

  pub with-unmet : t ≡ false → rest ≡ with_atom o (row_of atom) p rest
  unfolding with_atom
  with-unmet q =
      let i : meets (match_of atom) p ≡ false = ap (λ x. meets x p) (sym read) ∙ sym e ∙ q in
      rw i

-- the atoms that an iterator over their words still has to give: all at the start, none at the end
abbrev pub atoms_left : Iter (List ℕ) → List (Row Match Action)
atoms_left s = map row_of (iter_rest s)

pub atoms-all : {rs : List (List ℕ)} (ws : List ℕ) → rs ≡ first_chunks row_length (length ws / row_length) ws → map row_of rs ≡ rows_in ws
unfolding rows_of
atoms-all ws e = ap (map row_of) (e ∙ chunks-records (length ws / row_length) row_length ws)

pub atoms-none : (s : Iter (List ℕ)) → length (iter_rest s) ≡ 0 → atoms_left s ≡ []
atoms-none s e = ap (map row_of) (nil_from_length (iter_rest s) e)

-- Of the atoms, `rest` are left, and those behind them give the action `given`.
pub record Behind (o : List ℕ) (p : Packet) (atoms rest : List (Row Match Action)) (given : Action) : Type 0 where
  pub gone : List (Row Match Action)
  pub parts : rest ++ gone ≡ atoms
  pub gives : given ≡ own meets DontCare join o gone p

module _ (o : List ℕ) (p : Packet) where
  pub behind-start : (atoms rest : List (Row Match Action)) → rest ≡ atoms → Behind o p atoms rest DontCare
  behind-start atoms rest e = record { gone = []; parts = append-nil rest ∙ e; gives = refl }

  pub behind-step : (atom : Row Match Action) {atoms rest left : List (Row Match Action)} {given next : Action} → Behind o p atoms rest given
      → rest ≡ left ++ (atom ∷ []) → next ≡ with_atom o atom p given → Behind o p atoms left next
  unfolding with_atom
  behind-step atom {atoms} {rest} {left} {given} {next} b e n = record {
    gone = atom ∷ b.gone;
    parts = sym (append_assoc left (atom ∷ []) b.gone) ∙ ap (λ l. l ++ b.gone) (sym e) ∙ b.parts;
    gives = n ∙ ap (with_atom o atom p) b.gives;
  }

  pub behind-end : (words : List ℕ) {rest : List (Row Match Action)} {given : Action} → Behind o p (rows_in words) rest given → rest ≡ []
      → given ≡ own_action o words p
  unfolding own_action
  behind-end words {rest} {given} b e =
      let all : b.gone ≡ rows_in words = ap (λ l. l ++ b.gone) (sym e) ∙ b.parts in
      b.gives ∙ ap (λ N. own meets DontCare join o N p) all
