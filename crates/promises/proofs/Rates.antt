-- Rates that stay in their range: by the law of joining, by the rows of an accepted file, and through their scan for what its tree gives. Assumes nothing.
use Rattle.std.proofs.Common.{ℕ, ◌≡◌, refl, sym, subst, ◌∙◌, true, List, [], ◌∷◌, get_or, Ok}
use Rattle.logic.specs.Lists.{All}
use Rattle.logic.proofs.Lists.{all_then}
use Rattle.logic.proofs.Tests.{by-test}
use Rattle.theory.specs.Rows.{scan}
use Rattle.theory.specs.declared.Row.{Row}
use Rattle.flow.specs.Match.{meets}
use Rattle.flow.specs.Packet.{packet_of, right_packet_words}
use Rattle.flow.specs.declared.Match.{Match}
use Rattle.flow.specs.declared.Packet.{Packet}
use Rattle.action.specs.Action.{in_range}
use Rattle.action.specs.Operator.{join}
use Rattle.action.specs.declared.Action.{Action}
use Rattle.action.specs.declared.Action.TheVariants.{DontCare, Allow, Deny, Gmb}
use Rattle.action.proofs.Ranged.{rate-in, in-rate, join-range}
use Rattle.row.specs.Row.{RightRow}
use Rattle.refusal.proofs.Numbers.{numbers-given}
use Rattle.policy.specs.Read.{read_of}
use Rattle.policy.specs.declared.Layout.{Layout}
use Rattle.tree.specs.Action.{tree_action_of}
use Rattle.tree.proofs.Eval.{action-eval, action-refused, action-packet}
use Rattle.compile.specs.Compile.{compiled_rows}
use Rattle.compile.proofs.Ordered.{answered-in-order, by-reading, no_value}
use Rattle.compile.proofs.RightRows.{rows-right}
use Rattle.text.proofs.Right.{table-right}
use Rattle.promises.specs.Rates.{RateInRange, RatesStayInRange}
use Rattle.promises.proofs.Cases.{rate-cases}
use Rattle.promises.proofs.Reservations.{allowed}
use Rattle.promises.proofs.Scanned.{rows-scan}

-- an action in range, as its rate says it
within : (a : Action) → in_range a ≡ true → RateInRange a
unfolding in_range
within DontCare e = tt
within Allow e = tt
within Deny e = tt
within (Gmb m) e = rate-in m e

ranged : (a : Action) → RateInRange a → in_range a ≡ true
unfolding in_range
ranged DontCare w = refl
ranged Allow w = refl
ranged Deny w = refl
ranged (Gmb m) w = in-rate m w.0 w.1

rows : (f : List ℕ) (l : Layout) → read_of f ≡ Ok l → All (λ r. RateInRange r.action) (compiled_rows f l)
rows f l e = all_then RightRow (λ r. RateInRange r.action) (λ r h. within r.action h.action) (compiled_rows f l) (rows-right f l e)

-- the scan of rows in range is in range
scan-within : (N : List (Row Match Action)) (p : Packet) → All (λ r. RateInRange r.action) N → RateInRange (scan meets DontCare N p)
scan-within [] p h = tt
scan-within (r ∷ N) p h = by-test (meets r.matching p) (λ t. rw t h.0) (λ t. rw t (scan-within N p h.1))

actions : (f p : List ℕ) (a : Action) → tree_action_of f p ≡ Ok a → RateInRange a
actions f p a q =
    by-reading f
    (λ l e. by-test (right_packet_words p)
    (λ t.
    let same : scan meets DontCare (compiled_rows f l) (packet_of p) ≡ a = rows-scan f l (packet_of p) ∙ cc (action-eval f p l e t, q) in
    subst RateInRange same (scan-within (compiled_rows f l) (packet_of p) (rows f l e)))
    (λ t. no_value (sym q ∙ action-packet f p l e t)))
    (λ r e. no_value (sym q ∙ action-refused f p r e))

pub rates_stay_in_range : RatesStayInRange
rates_stay_in_range = record {
  joining = record {
    joined = λ o many codes a b p q.
        within (join o a b) (join-range o (many, λ i h. (allowed i (get_or o i 0) h).1 (codes i h)) a b (ranged a p) (ranged b q));
    rows = rows;
    actions = actions;
    checked = table-right;
  };
  refusing = record { given = numbers-given; order = answered-in-order };
  cases = rate-cases;
}
