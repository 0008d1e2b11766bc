-- A turn stores the next word, and at the end none is left.
use Rattle.std.proofs.Common.{◌≡◌, ◌+◌, refl, arith}
use Rattle.words.proofs.Laid.{store-turn, store-end}
use Rattle.compile.proofs.common.store.Goals as goal

pub loop-i-init : goal.loop-i-init
loop-i-init c = let e : c.args.at + 0 ≡ c.args.at = omega arith in rw e refl

pub loop-i-preserved : goal.loop-i-preserved
loop-i-preserved c =
    let e : c.args.at + (c.loop-i.i + 1) ≡ c.args.at + c.loop-i.i + 1 = omega arith in
    rw e (store-turn (c.args.at + c.loop-i.i) c.args.words.now _ _ c.loop-i.i _ c.loop-i.invariant (omega arith) refl)

pub returns : goal.returns
returns c = store-end (c.args.at + c.loop-i.i) c.args.words.now _ _ c.loop-i.i c.loop-i.invariant (omega arith)
