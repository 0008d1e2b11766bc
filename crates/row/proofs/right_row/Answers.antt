-- The right matches that are not empty are the plain ones that do not contradict themselves. Assumes nothing.
use Rattle.std.proofs.Common.{ℕ, ◌≡◌, refl, sym, ap, ◌∙◌, Bool, true, false, not, ◌&&◌, List}
use mathlib.Core.Bool.{and_comm}
use Rattle.flow.specs.Match.{match_of, contradicts, is_plain}
use Rattle.flow.specs.declared.Match.{Match}
use Rattle.flow.proofs.Laws.{plain-exactly}
use Rattle.row.specs.Row.{right_row, right_row_match, right_row_action}
use Rattle.row.proofs.right_row.Goals as goal

-- a plain match with a right action, and then that the match does not contradict itself
told : (ws : List ℕ) → (is_plain (match_of ws) && right_row_action ws && not (contradicts (match_of ws))) ≡ right_row ws
unfolding right_row right_row_match
told ws =
    turned (is_plain (match_of ws)) (right_row_action ws) (not (contradicts (match_of ws)))
    ∙ ap (λ (t : Bool). t && right_row_action ws) (plain-exactly (match_of ws))
  where
    turned : (p a l : Bool) → (p && a && l) ≡ (p && l && a)
    turned true a l = and_comm a l
    turned false a l = refl

-- the match n of the row, whether it is plain and whether the action is right, as the code finds them
module _ (ws : List ℕ) {n : Match} {p a : Bool} (read : n ≡ match_of ws) (plain : p ≡ is_plain n) (action : a ≡ right_row_action ws) where
  wrong : (p && a) ≡ false → false ≡ right_row ws
  wrong e =
      let f : (is_plain (match_of ws) && right_row_action ws) ≡ false = cc in
      sym (ap (λ (t : Bool). t && not (contradicts (match_of ws))) f) ∙ told ws

  by-packets : {x : Bool} → (p && a) ≡ true → x ≡ contradicts n → not x ≡ right_row ws
  by-packets {x} e q =
      let f : (is_plain (match_of ws) && right_row_action ws) ≡ true = cc in
      let g : x ≡ contradicts (match_of ws) = cc in
      ap not g ∙ sym (ap (λ (t : Bool). t && not (contradicts (match_of ws))) f) ∙ told ws

pub returns-then-not-is_plain-right_row_action : goal.returns-then-not-is_plain-right_row_action
returns-then-not-is_plain-right_row_action c =
    wrong _ c.read-m.ensures c.is_plain.ensures c.right_row_action.ensures
    c.if-not-is_plain-right_row_action.true

pub returns : goal.returns
returns c =
    by-packets _ c.read-m.ensures c.is_plain.ensures c.right_row_action.ensures
    c.if-not-is_plain-right_row_action.false c.contradicts.ensures
