use Rattle.std.proofs.Common.{◌≡◌, ◌++◌, map, length, drop_of_length-le, subst, sym, ◌∙◌, arith}
use Rattle.std.proofs.lemmas.List.{length-map}
use Rattle.policy.specs.Parts.{record_words}
use Rattle.depths.specs.Depths.{child_counts}
use Rattle.depths.proofs.Stacks.{counts-length}
use Rattle.notation.specs.Views.{node_entry, node_entries}
use Rattle.translate.specs.Words.{node_records}
use Rattle.translate.proofs.PartsRight.{records-length}
use Rattle.translate.proofs.PutWords.{put-all}
use Rattle.translate.proofs.file.put_nodes.Goals as goal

pub returns : goal.returns
returns c =
    let ns = c.args.nodes.now in
    let es = node_entries ns in
    let ks = child_counts (map (λ n. n.depth) es) in
    let ws = c.loop-i.words.items in
    let all = c.push.new.self.items ++ record_words (node_records es ks) in
    put-all ws c.push.new.self.items c.args.words.now.items (length ns) (node_records es ks)
    (subst (λ l. ws ++ record_words (node_records (node_entries l) (child_counts (map (λ n. n.depth) (node_entries l)))) ≡ all)
    (drop_of_length-le ns {i = c.loop-i.i} (omega (arith, c.loop-i-test.false))) c.loop-i.invariant.words)
    c.in_ok-push.ensures.items
    (sym (length-map ns node_entry) ∙ sym (records-length es ks (counts-length (map (λ n. n.depth) es) ∙ length-map es (λ n. n.depth))))
