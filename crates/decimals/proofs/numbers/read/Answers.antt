-- What is read behind some numbers, at the end, at a word that is none, and behind one more.
use Rattle.std.proofs.Common.{◌≡◌, sym, ◌∙◌, ap}
use Rattle.std.specs.Prelude.{Some, None}
use Rattle.tokens.specs.Left.{left}
use Rattle.tokens.specs.Tokens.{word}
use Rattle.tokens.proofs.Going.{not_ended-shorter}
use Rattle.values.specs.Numbers.{number_of}
use Rattle.decimals.specs.Read.{read_of}
use Rattle.decimals.proofs.Steps.{after-end, fault-read, number-read}
use Rattle.decimals.proofs.numbers.read.Goals as goal

pub returns-in_default : goal.returns-in_default
unfolding read_of
returns-in_default c =
    let none : number_of (word (left c.loop-tokens.tokens)) ≡ None = ap number_of (sym c.word.ensures) ∙ sym c.number_of.ensures ∙ c.in_default.is in
    rw c.at.ensures (sym c.loop-tokens.invariant ∙ fault-read c.loop-tokens.tokens c.loop-tokens.numbers.items (cc) none)

pub loop-tokens-smaller : goal.loop-tokens-smaller
loop-tokens-smaller c =
    rw c.advance.ensures (not_ended-shorter c.loop-tokens.tokens cc)

pub loop-tokens-preserved : goal.loop-tokens-preserved
loop-tokens-preserved c =
    let some : number_of (word (left c.loop-tokens.tokens)) ≡ Some c.in-Some.number =
    ap number_of (sym c.word.ensures) ∙ sym c.number_of.ensures ∙ c.in-Some.is in
    let step = number-read c.loop-tokens.tokens c.loop-tokens.numbers.items c.in-Some.number (cc) some in
    rw (c.in_ok-push.ensures.items, c.advance.ensures) (step ∙ c.loop-tokens.invariant)

pub returns : goal.returns
unfolding read_of
returns c = sym c.loop-tokens.invariant ∙ after-end c.loop-tokens.numbers.items (left c.loop-tokens.tokens) cc
