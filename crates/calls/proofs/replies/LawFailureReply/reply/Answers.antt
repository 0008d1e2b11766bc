-- A turn puts one action more in.
use Rattle.std.proofs.Common.{refl, ◌≡◌, sym, ap, ap₂, ◌∙◌, ◌<◌, ◌∷◌, length, take, arith}
use Rattle.words.specs.Records.{flat}
use Rattle.action.specs.Laws.{actions_of}
use Rattle.action.specs.declared.Action.TheVariants.{DontCare}
use Rattle.action.specs.declared.LawFailure.{LawFailure}
use Rattle.action.specs.declared.LawFailure.TheVariants.{Commutativity, Associativity}
use Rattle.calls.specs.Replies.{law_number, action_words, failure_words}
use Rattle.calls.proofs.Parts.{words_then, flat_more}
use Rattle.calls.proofs.replies.LawFailureReply.reply.Goals as goal

three : (f : LawFailure) → length (actions_of f) ≡ 3
three (Commutativity a b) = refl
three (Associativity a b c) = refl

all : (f : LawFailure) → take 3 (actions_of f) ≡ actions_of f
all (Commutativity a b) = refl
all (Associativity a b c) = refl

pub loop-action-preserved : goal.loop-action-preserved
loop-action-preserved g c =
    let f = c.args.self.now in
    let told = c.actions-actions.result in
    let i = c.loop-action.action-index in
    let h : i < length told = omega (arith, ap length c.actions-actions.ensures, three f, c.loop-action-test.true) in
    rw (flat_more action_words told i DontCare h)
    (words_then g.S.Sink.gives g.met.S.Sink.then _ _ _ (law_number f ∷ flat action_words (take i told)) _ c.loop-action.invariant c.reply.ensures)

pub returns : goal.returns
unfolding failure_words
returns g c =
    let f = c.args.self.now in
    let i = c.loop-action.action-index in
    let last : i ≡ 3 = omega arith in
    let e : flat action_words (take i c.actions-actions.result) ≡ flat action_words (actions_of f) =
    ap₂ (λ n l. flat action_words (take n l)) last c.actions-actions.ensures ∙ ap (flat action_words) (all f) in
    rw (sym e) c.loop-action.invariant
