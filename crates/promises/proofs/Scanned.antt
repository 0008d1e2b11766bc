-- The scan of the compiled table is the tree's action: the rows that stand there are right, and their scan is what the tree gives. Assumes nothing.
use Rattle.std.proofs.Common.{ℕ, ◌≡◌, sym, ap, ◌∙◌, true, List, Result, Ok}
use Rattle.theory.specs.Rows.{scan}
use Rattle.theory.specs.declared.Row.{Row}
use Rattle.theory.specs.Theorems.{Laws}
use Rattle.theory.proofs.Compile.{scan-compile}
use Rattle.flow.specs.Packet.{packet_of, right_packet_words}
use Rattle.flow.specs.Match.{is_empty, common, meets}
use Rattle.flow.specs.declared.Match.{Match}
use Rattle.flow.specs.declared.Packet.{Packet}
use Rattle.flow.proofs.Laws.{meets-common}
use Rattle.flow.proofs.Tests.{meets-empty}
use Rattle.action.specs.Operator as operator
use Rattle.action.specs.declared.Action.{Action}
use Rattle.action.specs.declared.Action.TheVariants.{DontCare}
use Rattle.action.proofs.Joined.{identity}
use Rattle.policy.specs.File.{tree_of}
use Rattle.policy.specs.declared.Layout.{Layout}
use Rattle.refusal.specs.Refusals.{answer_number}
use Rattle.refusal.specs.declared.Refusal.{Refusal}
use Rattle.table.specs.declared.Found.{Found}
use Rattle.table.specs.Scan.{scan_of, scan_action, found}
use Rattle.table.proofs.Tables.{check-exactly, rows-read}
use Rattle.table.proofs.Scans.{scan-found}
use Rattle.tree.specs.Action.{eval_tree, tree_action_of}
use Rattle.tree.proofs.Eval.{action-eval}
use Rattle.compile.specs.Compile.{compiled_rows, answer_of, table_after}
use Rattle.compile.specs.Theorems.{AnswerTells}
use Rattle.compile.proofs.Answered.{answers-rows}
use Rattle.text.proofs.Right.{table-right}
use Rattle.row.specs.Row.{rows_in, table_rows}
use Rattle.table.specs.Table.{RightTable}

-- the matches, actions and operators of a file keep the laws that theory asks
pub file-laws : Laws meets DontCare operator.join common is_empty
file-laws = record {
  meets_common = meets-common;
  meets_empty = meets-empty;
  identity_left = λ o a. (identity o a).0;
  identity_right = λ o a. (identity o a).1;
}

-- the scan of the rows is the action of the tree
pub rows-scan : (f : List ℕ) (l : Layout) (p : Packet) → scan meets DontCare (compiled_rows f l) p ≡ eval_tree (tree_of f l) p
unfolding compiled_rows
rows-scan f l p = scan-compile file-laws (tree_of f l) p

-- what the tree's action is where a file is not refused
abbrev pub gives : Action → Result Action Refusal
gives a = Ok a

-- what the scan of rows is
abbrev seen : List (Row Match Action) → Packet → Result Found Refusal
seen N p = Ok (found 0 N p)

-- of the rows that were answered, the scan is no refusal, and its action is the tree's
pub table-scans : (f t s p : List ℕ) (n : ℕ) → answer_of f t s ≡ Ok n → right_packet_words p ≡ true
    → (answer_number (scan_of (table_rows n (table_after f t s)) p) ≡ 0)
    × (tree_action_of f p ≡ Ok (scan_action (scan_of (table_rows n (table_after f t s)) p)))
table-scans f t s p n q right =
    let k : AnswerTells f t s n = answers-rows f t s n q in
    let l : Layout = k.layout in
    let ws : List ℕ = table_rows n (table_after f t s) in
    let table : RightTable ws = ((check-exactly ws n).0 (table-right f t s n q)).0 in
    let same : rows_in ws ≡ compiled_rows f l = ap rows_in k.stands ∙ rows-read (compiled_rows f l) in
    let sees : scan_of ws p ≡ seen (compiled_rows f l) (packet_of p) = scan-found ws p table right ∙ ap (λ N. seen N (packet_of p)) same in (
      ap answer_number sees,
      action-eval f p l k.accepted right ∙ ap gives (sym (rows-scan f l (packet_of p)) ∙ sym (ap scan_action sees)),
    )
