use Rattle.std.proofs.Common.{◌≡◌, ◌+◌, ◌++◌, map, drop, drop_of_length-le, subst, sym, ap, ◌∙◌, arith}
use Rattle.std.proofs.lemmas.List.{length-map}
use Rattle.policy.specs.Parts.{record_words}
use Rattle.notation.specs.Views.{rule_entries, node_entries}
use Rattle.translate.specs.Words.{all_rules, rule_words}
use Rattle.translate.proofs.PartsRight.{rules-length}
use Rattle.translate.proofs.PutWords.{dropped, put-step, put-all, rules-apart}
use Rattle.translate.proofs.file.put_atoms.Goals as goal

pub loop-node-preserved : goal.loop-node-preserved
loop-node-preserved c =
    let ns = c.args.nodes.now in
    let i = c.loop-node.node-index in
    let ws = c.loop-node.words.items in
    let rules = rule_entries c.node-item.result.rules.items in
    let rest = all_rules (node_entries (drop (i + 1) ns)) in
    let all = c.push.new.self.items ++ record_words (map rule_words (all_rules (node_entries ns))) in
    put-step ws c.put_rules.new.words.items (record_words (map rule_words rules)) (record_words (map rule_words rest)) all
    (subst (λ l. ws ++ l ≡ all) (rules-apart rules rest)
    (subst (λ l. ws ++ record_words (map rule_words (all_rules (node_entries l))) ≡ all)
    (dropped ns i c.node-item.result c.loop-node-test.true c.node-item.is) c.loop-node.invariant))
    (c.in_ok-put_rules.ensures ∙ ap (λ l. ws ++ record_words (map rule_words (rule_entries l))) c.deref.ensures.value)

pub returns : goal.returns
returns c =
    let ns = c.args.nodes.now in
    let ws = c.loop-node.words.items in
    let rules = all_rules (node_entries ns) in
    let all = c.push.new.self.items ++ record_words (map rule_words rules) in
    put-all ws c.push.new.self.items c.args.words.now.items c.rule_count.result (map rule_words rules)
    (subst (λ l. ws ++ record_words (map rule_words (all_rules (node_entries l))) ≡ all)
    (drop_of_length-le ns {i = c.loop-node.node-index} (omega (arith, c.loop-node-test.false))) c.loop-node.invariant)
    c.in_ok-push.ensures.items
    (c.rule_count.ensures ∙ sym (rules-length (node_entries ns)) ∙ sym (length-map rules rule_words))
