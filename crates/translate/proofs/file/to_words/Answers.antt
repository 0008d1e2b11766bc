use Rattle.std.proofs.Common.{length}
use Rattle.notation.specs.Whole.{entries_of}
use Rattle.translate.proofs.PutWords.{nodes-fit}
use Rattle.translate.proofs.file.to_words.Goals as goal

pub put_nodes-requires-clause-fit : goal.put_nodes-requires-clause-fit
put_nodes-requires-clause-fit c =
    let r = c.args.policy.now.right in
    let p = entries_of c.args.policy.now in
    rw c.nodes-2.ensures (nodes-fit (length p.operators) p.nodes r.few_operators r.few_rules r.nodes)
