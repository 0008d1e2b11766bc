-- A rule that is called idle decides no packet: not in the first row that the packet meets, and where the packet meets no row it does not meet the rule.
-- Assumes nothing.
use Rattle.std.proofs.Common.{ℕ, ◌<◌, ◌≡◌, sym, ap, ap₂, ◌∙◌, true, List, length, get_or, ⊎_elim, Ok}
use Rattle.logic.proofs.Lists.{all-at, all_from}
use Rattle.theory.specs.declared.Row.{Row}
use Rattle.theory.specs.Rows.{scan, matches_at}
use Rattle.theory.specs.Number.{FirstPlace, has}
use Rattle.theory.specs.Theorems.{Laws}
use Rattle.theory.proofs.Compile.{scan-compile}
use Rattle.theory.proofs.Places.{scan-place}
use Rattle.theory.proofs.HiddenLaws.{scan-hidden, hidden-every}
use Rattle.flow.specs.Match.{is_empty, common, meets, inside}
use Rattle.flow.specs.declared.Match.{Match}
use Rattle.flow.specs.Packet.{packet_of}
use Rattle.flow.specs.declared.Packet.{Packet}
use Rattle.flow.proofs.Laws.{meets-common}
use Rattle.flow.proofs.Tests.{meets-empty}
use Rattle.flow.proofs.Inside.{inside-meets}
use Rattle.action.specs.Operator.{join}
use Rattle.action.specs.declared.Action.{Action}
use Rattle.action.specs.declared.Action.TheVariants.{DontCare}
use Rattle.action.proofs.Joined.{identity}
use Rattle.row.specs.Row.{RightRow, rows_in, table_rows}
use Rattle.policy.specs.Read.{read_of}
use Rattle.policy.specs.File.{tree_of, atoms_of}
use Rattle.policy.specs.declared.Layout.{Layout}
use Rattle.table.specs.Table.{past}
use Rattle.tree.specs.Action.{eval_tree, accepted_action, tree_action_of}
use Rattle.compile.specs.Compile.{compiled_rows, table_after}
use Rattle.hidden.specs.Hidden.{table_kept}
use Rattle.compile.proofs.RightRows.{rows-right}
use Rattle.idle.specs.Idle.{without, decides_in, idle_of}
use Rattle.idle.proofs.Replaced.{again}
use Rattle.idle.proofs.FirstMet.{first-or-none, none-at, idle-within, idle-quiet}
use Rattle.idle.proofs.Silent.{within, unmet-silent, row-silent}
use Rattle.command_promises.specs.Idle.{idle_in, EachSilent, AnsweredSilent, IdleDecidesNothing}
use Rattle.command_promises.specs.Origins.{staying_rows}
use Rattle.command_promises.proofs.OriginsLaws.{origins_shown}
use Rattle.command_promises.proofs.IdleCases.{idle-shown}
use Rattle.command_promises.proofs.OriginsFirst.{first-kept, none-kept}

module _ (f : List ℕ) (l : Layout) (e : read_of f ≡ Ok l) (j : ℕ) (idle : has j (idle_in f l) ≡ true) where
  abbrev rows : List (Row Match Action)
  rows = staying_rows f l

  its : j < l.atoms
  its = idle-within f l rows j idle

  -- the scan of the rows that stay is the action of the tree
  scanned : (p : Packet) → scan meets DontCare rows p ≡ eval_tree (tree_of f l) p
  unfolding compiled_rows
  scanned p = scan-hidden meets DontCare inside inside-meets (compiled_rows f l) p ∙ scan-compile file-laws (tree_of f l) p
    where
      file-laws : Laws meets DontCare join common is_empty
      file-laws = record {
        meets_common = meets-common;
        meets_empty = meets-empty;
        identity_left = λ o a. (identity o a).0;
        identity_right = λ o a. (identity o a).1;
      }

  -- where the packet meets a row, the first such
  in-row : (p : Packet) (i : ℕ) → FirstPlace (matches_at meets past rows p) (length rows) i
      → eval_tree (tree_of f l) p ≡ eval_tree (tree_of (without f l j) l) p
  in-row p i first =
      let r : Row Match Action = get_or rows i past in
      let right : RightRow r = all-at RightRow past rows i (hidden-every Action inside RightRow (compiled_rows f l) (rows-right f l e)) first.within in
      row-silent f l j e its p r right.not_empty
      (all_from (λ a. meets a.matching p ≡ inside r.matching a.matching) past (atoms_of f l) (first-kept f l e p i first))
      (none-at (λ s. decides_in f l j s) past rows (idle-quiet f l rows j idle) i first.within)
      (sym (scanned p) ∙ (scan-place meets DontCare past rows p i first).0)

  -- every packet
  silent : (p : Packet) → eval_tree (tree_of f l) p ≡ eval_tree (tree_of (without f l j) l) p
  silent p =
      ⊎_elim
      (λ x. in-row p x.0 x.1)
      (λ none. unmet-silent f l j e its p (none-kept f l e p none j (within f l j e its p)))
      (first-or-none (matches_at meets past rows p) (length rows))

-- A RULE THAT IS CALLED IDLE DECIDES NO PACKET
each-silent : EachSilent
unfolding tree_action_of accepted_action
each-silent f l e j idle =
    let a = (again f l j e (its f l e j idle)).accepted in
    record {
      accepted = a;
      eval = λ p. sym (silent f l e j idle p);
      action = λ p. rw (a, e, silent f l e j idle (packet_of p));
    }

-- NOR DOES ONE THAT IS ANSWERED
answered-silent : AnsweredSilent
answered-silent f t s l n k places e q r (m, accepted, are) j among =
    let same : m ≡ l = cc in
    let stands : rows_in (table_rows k (table_kept (table_rows n (table_after f t s)))) ≡ staying_rows f l = origins_shown.table f t s l n k e q r in
    let idle : places ≡ idle_in f l = are ∙ ap₂ (λ (i : Layout) (N : List (Row Match Action)). idle_of f i N) same stands in
    each-silent f l e j (sym (ap (has j) idle) ∙ among)

pub idle_decides_nothing : IdleDecidesNothing
idle_decides_nothing = record { silent = each-silent; answered = answered-silent; shown = idle-shown }
