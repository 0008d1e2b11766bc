-- The reply was put in behind what waited, and all was handed on.
use Rattle.std.proofs.Common.{◌≡◌, refl, sym, ap, ◌∙◌, true, false, not, ◌&&◌, Bool, Bor, Some, None, is_some, is_none, Option, option_copied}
use Rattle.streams.specs.Output.{write_failure}
use Rattle.streams.proofs.Handed.{hands_on-all}
use Rattle.answers.proofs.answer_call.Goals as goal

-- none is there where none is pointed to
none-copied : {E : Type 0} (r : Bool) (o : Option (Bor E)) → is_some o ≡ not r → r ≡ is_none (option_copied o)
none-copied true None e = refl
none-copied true (Some x) e = absurd cc
none-copied false None e = absurd cc
none-copied false (Some x) e = refl

pub returns-then-answered : goal.returns-then-answered
returns-then-answered g c =
    let a = c.answer.ensures in
    let some : is_some a.call ≡ true = sym a.told ∙ sym c.is_some-answered.ensures ∙ c.if-answered.true in
    record {
      call = a.call;
      taken = a.taken;
      handed = hands_on-all g.W.Write.contents _ _ _ _ a.given c.flush.ensures;
      told =
          none-copied c.is_none.result c.failure.result c.is_none.ensures ∙ ap is_none c.failure.ensures
          ∙ sym (ap (λ (b : Bool). b && is_none (write_failure c.flush.new.self)) some);
    }

pub returns-else-answered : goal.returns-else-answered
returns-else-answered g c =
    let a = c.answer.ensures in
    let none : is_some a.call ≡ false = sym a.told ∙ sym c.is_some-answered.ensures ∙ c.if-answered.false in
    record {
      call = a.call;
      taken = a.taken;
      handed = hands_on-all g.W.Write.contents _ _ _ _ a.given c.flush.ensures;
      told = c.if-answered.false ∙ sym (ap (λ (b : Bool). b && is_none (write_failure c.flush.new.self)) none);
    }
