-- What makes an output a sink.
use Rattle.std.specs.Prelude.{ℕ, ◌≡◌, List, [], ◌++◌, Bool, true, false, refl}
use Rattle.std.specs.Prelude.{None, Some, IsNone, IsSome, is_some}
use Rattle.std.proofs.Common.{sym, ap, subst, ◌∙◌, arith, append_assoc, append-nil}
use Rattle.std.proofs.lemmas.List.{length-append}
use Rattle.std.proofs.KnownBytes.{Appends-nil, Appends-trans}
use Rattle.std.specs.declared.option.Option.{Option}
use Rattle.std.specs.declared.io.Error.{Error}
use Rattle.std.specs.Io.KnownBytes.{Appends}
use Rattle.streams.specs.Parts.{NotInterrupted}
use Rattle.streams.specs.declared.output.Output.{Output}
use Rattle.streams.specs.Output.{Gives}

-- an error is there or not
pub absent : {T : Type 0} {P : Type 0} (o : Option T) → IsNone o → IsSome o → P
absent None h k = cc
absent (Some x) h k = cc

-- where no error is kept, none is that of a call that was interrupted
uninterrupted : (failure : Option Error) → IsNone failure → NotInterrupted failure
uninterrupted None h = tt
uninterrupted (Some error) h = absent (Some error) h refl

module _ {W : Type 0} (contents : W → Option (List ℕ)) where
  -- no bytes
  pub gives-none : (s : Output W) → Gives contents s [] s
  gives-none s = record {
    moved = [];
    rest = s.block.items;
    all = append-nil s.block.items;
    handed = Appends-nil (contents s.inner);
    waits = λ _. refl;
    lost = λ h k. absent s.failure h k;
    missing = λ h k. absent s.failure h k;
    ended = λ _. refl;
    not_interrupted = λ h. uninterrupted s.failure h;
  }

  -- bytes behind others, by whether a write failed at the first: both parts were taken, or only the first
  both : (a b c : Output W) (xs ys : List ℕ) (t : Bool) → is_some b.failure ≡ t
      → Gives contents a xs b → Gives contents b ys c → Gives contents a (xs ++ ys) c
  both a b c xs ys false h p q = record {
    moved = p.moved ++ q.moved;
    rest = q.rest;
    all = sym (append_assoc a.block.items xs ys) ∙ ap (λ l. l ++ ys) p.all ∙ append_assoc p.moved p.rest ys
        ∙ ap (λ l. p.moved ++ l) (ap (λ l. l ++ ys) (sym (p.waits h)) ∙ q.all)
        ∙ sym (append_assoc p.moved q.moved q.rest);
    handed = Appends-trans _ _ _ p.moved q.moved p.handed q.handed;
    waits = q.waits;
    lost = λ _. q.lost h;
    missing = λ _. q.missing h;
    ended = λ k. absent b.failure h (subst (λ (s : Output W). IsSome s.failure) (sym (p.ended k)) k);
    not_interrupted = λ _. q.not_interrupted h;
  }
  both a b c xs ys true h p q =
      let e = sym (q.ended h) in
      record {
        moved = p.moved;
        rest = p.rest ++ ys;
        all = sym (append_assoc a.block.items xs ys) ∙ ap (λ l. l ++ ys) p.all ∙ append_assoc p.moved p.rest ys;
        handed = subst (λ (s : Output W). Appends (contents a.inner) (contents s.inner) p.moved) e p.handed;
        waits = λ k. absent c.failure k (subst (λ (s : Output W). IsSome s.failure) e h);
        lost = λ k _. subst (λ (s : Output W). s.block.items ≡ []) e (p.lost k h);
        missing = λ k _. let some = p.missing k h in omega (some, length-append p.rest ys, arith);
        ended = λ k. sym e ∙ p.ended k;
        not_interrupted = λ k. subst (λ (s : Output W). NotInterrupted s.failure) e (p.not_interrupted k);
      }

  -- bytes behind others
  pub gives-then : (a b c : Output W) (xs ys : List ℕ) → Gives contents a xs b → Gives contents b ys c
      → Gives contents a (xs ++ ys) c
  gives-then a b c xs ys p q = both a b c xs ys (is_some b.failure) refl p q
