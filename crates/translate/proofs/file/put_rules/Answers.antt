use Rattle.std.proofs.Common.{◌≡◌, ◌+◌, ◌++◌, map, drop, subst, ap, ◌∙◌}
use Rattle.row.specs.Row.{row_words}
use Rattle.policy.specs.Parts.{record_words}
use Rattle.notation.specs.Views.{rule_entries}
use Rattle.translate.specs.Words.{rule_words}
use Rattle.translate.proofs.PutWords.{dropped, put-step}
use Rattle.translate.proofs.file.put_rules.Goals as goal

pub loop-rule-preserved : goal.loop-rule-preserved
loop-rule-preserved c =
    let rs = c.args.rules.now in
    let i = c.loop-rule.rule-index in
    let ws = c.loop-rule.words.items in
    let all = c.args.words.now.items ++ record_words (map rule_words (rule_entries rs)) in
    put-step ws c.extend_from_slice.new.self.items (row_words c.rule-item.result.row) (record_words (map rule_words (rule_entries (drop (i + 1) rs)))) all
    (subst (λ l. ws ++ record_words (map rule_words (rule_entries l)) ≡ all)
    (dropped rs i c.rule-item.result c.loop-rule-test.true c.rule-item.is) c.loop-rule.invariant)
    (c.in_ok-extend_from_slice.ensures.items ∙ ap (λ l. ws ++ l) c.words_of_row.ensures)
