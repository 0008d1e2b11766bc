use Rattle.std.proofs.Common.{ℕ, ◌+◌, ◌-◌, ◌++◌, List, [], ◌∷◌, sym, ap, ap₂, ◌∙◌, arith}
use Rattle.std.proofs.lemmas.List.{map_push}
use Rattle.words.specs.Records.{records}
use Rattle.policy.specs.Numbers.{operator_length}
use Rattle.notation.specs.Views.{operator_entry, operator_entries}
use Rattle.translate.specs.Names.{operator_name, operators_from}
use Rattle.translate.proofs.MadeSteps.{made-step, operators-next}
use Rattle.translate.proofs.made.made_operators.Goals as goal

pub loop-i-preserved : goal.loop-i-preserved
loop-i-preserved c =
    let k = c.args.count - (c.loop-i.i + 1) in
    let ws = c.loop-i.left.now in
    let os = operator_entries c.loop-i.operators.items in
    let all = operators_from 0 (records c.args.count operator_length c.args.words.now) in
    let cells = c.split_at.result.0.now in
    let rest = operators_from (c.loop-i.i + 1) (records k operator_length c.split_at.result.1.now) in
    let next = operators-next c.loop-i.i (c.loop-i.i + 1) (c.args.count - c.loop-i.i) k ws (omega (arith, c.loop-i-test.true)) (omega arith) in
    record {
      made = made-step os (operator_entries c.push.new.self.items) rest all (record { name = operator_name c.loop-i.i cells; at = 0; cells = cells })
          (ap₂ (λ (x : List ℕ) (y : List ℕ). os ++ record { name = operator_name c.loop-i.i x; at = 0; cells = x }
          ∷ operators_from (c.loop-i.i + 1) (records k operator_length y)) c.split_at.ensures.front c.split_at.ensures.back
          ∙ ap (λ l. os ++ l) (sym next) ∙ c.loop-i.invariant.made)
          (ap operator_entries c.in_ok-push.ensures.items ∙ map_push operator_entry c.loop-i.operators.items c.in_ok-made_operator.field-0
          ∙ ap (λ x. os ++ x ∷ []) c.in_ok-made_operator.ensures);
      there = omega (arith, c.loop-i.invariant.there, c.split_at.ensures.back_len, c.loop-i-test.true);
    }
