-- The pass as a whole, by what the check finds: the rows that stay fit, the words behind them are cleared, and a refusal leaves all. Assumes nothing.
use Prim.Native.Nat.{ℕ, ◌*◌, ◌-◌, ◌/◌, ◌≤◌}
use native.Mathlib.Omega.{arith}
use mathlib.Core.Path.{◌≡◌, refl, sym, ap, ap₂, ◌∙◌}
use mathlib.Core.List.{List, ◌++◌}
use lib.ListN.{length, take}
use Rattle.words.specs.Words.{laid, zeros, cleared}
use Rattle.words.proofs.Laid.{length-laid, take-laid}
use Rattle.theory.proofs.HiddenLaws.{hidden-less}
use Rattle.flow.specs.Match.{inside}
use Rattle.action.specs.declared.Action.{Action}
use Rattle.row.specs.Row.{row_length, rows_in}
use Rattle.row.proofs.RowLaws.{words_count}
use Rattle.table.specs.Table.{check_of}
use Rattle.table.proofs.Tables.{length-rows}
use Rattle.refusal.specs.declared.Refusal.{Refusal}
use Rattle.std.specs.Prelude.{Result, Ok, Err}
use Rattle.hidden.specs.Hidden.{kept_rows, kept_words, kept_by, kept_of, table_by, table_kept}

-- an answer of n rows
abbrev pub counted : ℕ → Result ℕ Refusal
counted n = Ok n

-- the words of the rows that stay are so many
pub kept-long : (ws : List ℕ) → length (kept_words ws) ≡ length (kept_rows ws) * row_length
unfolding kept_words
kept-long ws = words_count (kept_rows ws)

-- and fit into the table
pub kept-fits : (ws : List ℕ) → length (kept_words ws) ≤ length ws
kept-fits ws = omega (arith, kept-long ws, hidden-less Action inside (rows_in ws), length-rows ws)

-- what the definitions say of a right table, and of a wrong one
module _ (ws : List ℕ) where
  module _ {n end : ℕ} (right : check_of ws ≡ counted n) (l : end ≡ length (kept_words ws)) where
    pub right_answer : Ok (end / row_length) ≡ kept_of ws
    unfolding kept_of
    right_answer =
        let count : end / row_length ≡ length (kept_rows ws) = omega (arith, l, kept-long ws) in
        ap counted count ∙ ap (kept_by ws) (sym right)

    pub right-table : {table after : List ℕ} → table ≡ laid 0 (kept_words ws) ws → after ≡ cleared end table → after ≡ table_kept ws
    unfolding table_kept cleared
    right-table {table} {after} t c =
        c
        ∙ ap₂ (λ n m. take n m ++ zeros (length m - n)) l t
        ∙ ap₂ (λ m n. m ++ zeros (n - length (kept_words ws))) (take-laid (kept_words ws) ws (length (kept_words ws)) refl (kept-fits ws))
        (length-laid 0 (kept_words ws) ws)
        ∙ ap (table_by ws) (sym right)

  module _ {f : Refusal} (wrong : check_of ws ≡ Err f) where
    pub wrong_answer : Err f ≡ kept_of ws
    unfolding kept_of
    wrong_answer = ap (kept_by ws) (sym wrong)

    pub wrong-table : ws ≡ table_kept ws
    unfolding table_kept
    wrong-table = ap (table_by ws) (sym wrong)
