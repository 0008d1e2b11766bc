-- The lines of rows, and a table's text, answer by answer of the numbering. Assumes nothing.
use Rattle.std.proofs.Common.{ℕ, ◌≡◌, refl, sym, ap, ap₂, ◌∙◌, List, [], ◌∷◌, ◌++◌, length, take, Result, Ok, Err}
use Rattle.words.proofs.Laid.{take-laid}
use Rattle.theory.specs.declared.Row.{Row}
use Rattle.flow.specs.declared.Match.{Match}
use Rattle.action.specs.declared.Action.{Action}
use Rattle.row.specs.Row.{rows_in}
use Rattle.table.specs.Table.{row_count}
use Rattle.table.proofs.Tables.{length-rows}
use Rattle.priority.specs.Numbering.{priorities_of, number_of, Answered, Ready}
use Rattle.refusal.specs.Refusals.{refusal_number}
use Rattle.refusal.specs.declared.Refusal.{Refusal}
use Rattle.priority.proofs.After.{number-ready, priorities-left}
use Rattle.priority.proofs.Whole.{priorities-many}
use Rattle.show.specs.Text.{head, line, refusal}
use Rattle.show.specs.Sheet.{listing_room, lines, numbered, table_text}

-- no rows have no lines
pub no_rows : (ps : List ℕ) → lines ps [] ≡ []
no_rows [] = refl
no_rows (p ∷ ps) = refl

-- as many priorities as rows are shown
lines-take : (ps : List ℕ) (rs : List (Row Match Action)) → lines (take (length rs) ps) rs ≡ lines ps rs
lines-take ps [] = sym (no_rows ps)
lines-take [] (r ∷ rs) = refl
lines-take (p ∷ ps) (r ∷ rs) = ap (λ l. line p r ++ l) (lines-take ps rs)

-- the text of a table, where the numbering answers
module _ (t ps cs : List ℕ) {ps' cs' : List ℕ} {r : Result ℕ Refusal} (c : Answered t ps cs r ps' cs')
    (np : length ps ≡ listing_room) (nc : length cs ≡ listing_room) where
  answer-room : r ≡ number_of t listing_room listing_room
  answer-room = c.0 ∙ ap₂ (number_of t) np nc

  pub table-listed : {l : ℕ} → r ≡ Ok l → numbered t ps' l ≡ table_text t
  unfolding table_text
  table-listed {l} e =
      let k : number_of t listing_room listing_room ≡ Ok l = sym answer-room ∙ e in
      let ready : Ready t ps cs = number-ready t ps cs l (sym c.0 ∙ e) in
      let stored : take (length (rows_in t)) ps' ≡ priorities_of t =
      ap₂ take (length-rows t) (c.1 ∙ priorities-left t ps cs ready) ∙ take-laid (priorities_of t) ps (row_count t) (priorities-many t) ready.priorities in
      rw k (ap (λ x. head (row_count t) l ++ x) (sym (lines-take ps' (rows_in t)) ∙ ap (λ x. lines x (rows_in t)) stored))

  pub table-refused : {f : Refusal} → r ≡ Err f → refusal (refusal_number f) f.place ≡ table_text t
  unfolding table_text
  table-refused {f} e = let k : number_of t listing_room listing_room ≡ Err f = sym answer-room ∙ e in rw k
