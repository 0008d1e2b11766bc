use Rattle.std.proofs.Common.{ℕ, ◌+◌, ◌-◌, ◌++◌, List, [], ◌∷◌, sym, ap, ap₂, ◌∙◌, arith}
use Rattle.std.specs.Prelude.{codes}
use Rattle.std.proofs.lemmas.List.{map_push}
use Rattle.words.specs.Records.{records}
use Rattle.row.specs.Row.{row_length, row_of}
use Rattle.notation.specs.Views.{rule_entry, rule_entries}
use Rattle.translate.specs.Names.{numbered, rules_from}
use Rattle.translate.proofs.MadeSteps.{made-step, rules-next}
use Rattle.translate.proofs.made.made_rules.Goals as goal

pub loop-i-preserved : goal.loop-i-preserved
loop-i-preserved c =
    let k = c.args.count - (c.loop-i.i + 1) in
    let n = c.args.first + c.loop-i.i in
    let j = c.args.first + (c.loop-i.i + 1) in
    let ws = c.loop-i.left.now in
    let rs = rule_entries c.loop-i.rules.items in
    let all = rules_from c.args.first (records c.args.count row_length c.args.words.now) in
    let atom = c.split_at.result.0.now in
    let rest = rules_from j (records k row_length c.split_at.result.1.now) in
    let next = rules-next n j (c.args.count - c.loop-i.i) k ws (omega (arith, c.loop-i-test.true)) (omega arith) in
    record {
      made = made-step rs (rule_entries c.push.new.self.items) rest all (record { label = numbered (codes "rule") n; at = 0; row = row_of atom })
          (ap₂ (λ (x : List ℕ) (y : List ℕ). rs ++ record { label = numbered (codes "rule") n; at = 0; row = row_of x }
          ∷ rules_from j (records k row_length y)) c.split_at.ensures.front c.split_at.ensures.back
          ∙ ap (λ l. rs ++ l) (sym next) ∙ c.loop-i.invariant.made)
          (ap rule_entries c.in_ok-push.ensures.items ∙ map_push rule_entry c.loop-i.rules.items _
          ∙ ap₂ (λ (x : List ℕ) y. rs ++ record { label = x; at = 0; row = y } ∷ []) c.in_ok-label.ensures c.read.ensures);
      there = omega (arith, c.loop-i.invariant.there, c.split_at.ensures.back_len, c.loop-i-test.true);
    }
