-- Where the rows of a file come from: theory's law of origins at the matches and actions of a file, and the table that holds these rows. Assumes nothing.
use Rattle.std.proofs.Common.{ℕ, zero, suc, ◌<◌, arith, ◌≡◌, refl, sym, ap, ap₂, ◌∙◌, Bool, List, [], ◌∷◌, ◌++◌, cond, map, length, get_or, Ok}
use Rattle.std.proofs.Math.ListN.{get_or-map, length-map}
use Rattle.theory.specs.declared.Row.{Row}
use Rattle.theory.specs.Hidden.{staying, places_where}
use Rattle.flow.specs.Match.{is_empty, common, inside}
use Rattle.flow.specs.declared.Match.{Match}
use Rattle.action.specs.Operator.{join}
use Rattle.action.specs.declared.Action.{Action}
use Rattle.action.specs.declared.Action.TheVariants.{DontCare}
use Rattle.action.proofs.Joined.{identity}
use Rattle.row.specs.Row.{rows_in, table_rows}
use Rattle.policy.specs.Read.{read_of}
use Rattle.policy.specs.File.{atoms_of, tree_of}
use Rattle.policy.specs.declared.Layout.{Layout}
use Rattle.table.specs.Table.{past}
use Rattle.table.proofs.Tables.{rows-read}
use Rattle.compile.specs.Compile.{compiled_rows, answer_of, table_after}
use Rattle.compile.specs.Theorems.{AnswerTells}
use Rattle.compile.proofs.Answered.{answers-rows}
use Rattle.hidden.specs.Hidden.{kept_of, table_kept}
use Rattle.hidden.proofs.Laws.{kept-rows}
use Rattle.origins.specs.Marked.{Identity, unmarked, RowsFrom, inside_of}
use Rattle.origins.specs.Origins.{origins_of}
use Rattle.origins.proofs.Marks.{rows-come-from}
use Rattle.origins.proofs.Matches.{match-laws}
use Rattle.command_promises.specs.Origins.{staying_rows, staying_row, marked_staying, marked_row, marked_past, ComesFrom, OriginsShown}
use Rattle.command_promises.proofs.OriginsFirst.{right-nodes, atoms-in_order, first-kept, none-kept}

-- the operators of a file have don't care for their identity
file-identity : Identity DontCare join
file-identity = record { left = λ o a. (identity o a).0; right = λ o a. (identity o a).1 }

-- tests that agree below n pass the same places
same-places : (test other : ℕ → Bool) (n : ℕ) → ((k : ℕ) → k < n → test k ≡ other k) → places_where test n ≡ places_where other n
same-places test other zero h = refl
same-places test other (suc n) h =
    ap₂ (λ (ps : List ℕ) (b : Bool). ps ++ cond b (n ∷ []) []) (same-places test other n (λ k g. h k (omega arith))) (h n (omega arith))

module _ (f : List ℕ) (l : Layout) (e : read_of f ≡ Ok l) where
  from : RowsFrom join common is_empty (tree_of f l) inside DontCare
  from = rows-come-from match-laws file-identity (tree_of f l) (right-nodes f l e)

  same : map unmarked (marked_staying f l) ≡ staying_rows f l
  unfolding compiled_rows
  same = from.same_stay

  module _ (i : ℕ) (h : i < length (staying_rows f l)) where
    same-row : unmarked (marked_row f l i) ≡ staying_row f l i
    same-row = sym (get_or-map unmarked (marked_staying f l) i marked_past) ∙ ap (λ N. get_or N i past) same

    within : i < length (marked_staying f l)
    within = omega (arith, h, length-map (marked_staying f l) unmarked, ap length same)

    marks : (marked_row f l i).action.1 ≡ origins_of (atoms_of f l) (staying_row f l i).matching
    marks =
        from.marks marked_past past i within
        ∙ ap₂ (λ (xs : List (Row Match Action)) (r : Row Match Action). inside_of inside past xs r.matching) (atoms-in_order f l e) same-row

    comes-from : ComesFrom f l i
    unfolding compiled_rows
    comes-from = record {
      row = same-row;
      marks = marks;
      some = rw (← marks) (from.some marked_past i within);
      action = from.action past i h;
      met = λ p g. same-places _ _ (length (atoms_of f l)) (first-kept f l e p i g);
    }

-- the table that the compile and the pass leave
table : (f t s : List ℕ) (l : Layout) (n k : ℕ) → read_of f ≡ Ok l → answer_of f t s ≡ Ok n
    → let ws : List ℕ = table_rows n (table_after f t s) in kept_of ws ≡ Ok k → rows_in (table_rows k (table_kept ws)) ≡ staying_rows f l
table f t s l n k e q r =
    let told : AnswerTells f t s n = answers-rows f t s n q in
    let same : told.layout ≡ l = cc in
    (kept-rows (table_rows n (table_after f t s)) k r).rows
    ∙ ap (λ ws. staying inside (rows_in ws)) told.stands
    ∙ ap (staying inside) (rows-read (compiled_rows f told.layout))
    ∙ ap (λ (m : Layout). staying_rows f m) same

-- ALL OF IT
pub origins_shown : OriginsShown
origins_shown = record {
  table = table;
  same = same;
  comes_from = λ f l i e h. comes-from f l e i h;
  unmet = λ f l p e h. none-kept f l e p h;
}
