-- What a caller knows of an output into which bytes were put: what waits, and what its writer holds.
use Rattle.std.proofs.Common.{◌≡◌, List, [], ◌++◌, ℕ, ◌≢◌, IsNone, IfErr, OnOk, OnErr, None, Some, Ok, Err, Result, is_some, sym, ap, subst, ◌∙◌, arith}
use Rattle.std.proofs.Common.{append_assoc, append-nil, length, take, drop, take-append-drop, length-drop, Option}
use Rattle.std.specs.declared.io.Error.{Error}
use Rattle.std.specs.declared.io.ErrorKind.TheVariants.{Interrupted}
use Rattle.std.specs.IoError.{error_kind}
use Rattle.std.specs.Result.{result_err}
use Rattle.std.specs.Io.KnownBytes.{Appends, append_known}
use lib.Seq.{take-append_seam}
use Rattle.streams.specs.Parts.{AppendsStart, AppendsPart, NotInterrupted}
use Rattle.streams.specs.declared.output.Output.{Output}
use Rattle.streams.specs.Output.{Gives, HandsOn, held, waiting, given, write_failure}
use Rattle.streams.specs.OutputSink.{absent, gives-then}

-- what the writer holds where nothing waits any more
drained : (a b : Option (List ℕ)) (w moved xs : List ℕ) → Appends a b moved → w ++ xs ≡ moved → Appends (append_known a w) b xs
drained None b w moved xs p e = tt
drained (Some x) None w moved xs p e = absurd p
drained (Some x) (Some y) w moved xs p e = p ∙ ap (λ l. x ++ l) (sym e) ∙ sym (append_assoc x w xs)

module _ {W : Type 0} (contents : W → Option (List ℕ)) where
  -- all that waited, and some bytes behind it, was written from the first, until a write failed
  pub gives-written : {T : Type 0} (a b : Output W) (xs text : List ℕ) (r : Result T Error) → IsNone a.failure → a.block.items ++ xs ≡ text
      → b.block.items ≡ [] → b.failure ≡ result_err r → OnOk r (Appends (contents a.inner) (contents b.inner) text)
      → OnErr r (AppendsPart (contents a.inner) (contents b.inner) text) → IfErr r (λ error. error_kind error ≢ Interrupted)
      → Gives contents a xs b
  gives-written a b xs text (Ok x) h e empty f whole part i = record {
    moved = text;
    rest = [];
    all = e ∙ sym (append-nil text);
    handed = whole;
    waits = λ _. empty;
    lost = λ _ _. empty;
    missing = λ _ k. absent b.failure (ap is_some f) k;
    ended = λ k. absent a.failure h k;
    not_interrupted = λ _. subst NotInterrupted (sym f) tt;
  }
  gives-written a b xs text (Err error) h e empty f whole part i = record {
    moved = take part.0 text;
    rest = drop part.0 text;
    all = e ∙ sym (take-append-drop part.0 text);
    handed = part.2;
    waits = λ k. absent b.failure k (ap is_some f);
    lost = λ _ _. empty;
    missing = λ _ _. let less = part.1 in omega (less, length-drop part.0 text, arith);
    ended = λ k. absent a.failure h k;
    not_interrupted = λ _. subst NotInterrupted (sym f) i;
  }

  -- whether or not a write failed, what the writer holds has grown by a start of what waited and was put in
  pub gives-start : (a b : Output W) (xs : List ℕ) → Gives contents a xs b → AppendsStart (held contents a) (held contents b) (waiting a ++ xs)
  gives-start a b xs p = (length p.moved, rw (p.all, take-append_seam p.moved p.rest) p.handed)

  -- bytes that were put in, and handed on with those that came behind them
  pub hands_on-then : (a b c : Output W) (xs ys : List ℕ) → Gives contents a xs b → HandsOn contents b ys c → HandsOn contents a (xs ++ ys) c
  hands_on-then a b c xs ys p q = record { gives = gives-then contents a b c xs ys p q.gives; nothing_waits = q.nothing_waits }

  -- bytes that were put in, and handed on
  pub hands_on-all : (a b c : Output W) (xs : List ℕ) → Gives contents a xs b → HandsOn contents b [] c → HandsOn contents a xs c
  hands_on-all a b c xs p q = rw append-nil at (hands_on-then a b c xs [] p q)

  -- unless a write failed, the writer holds all
  pub hands_on-whole : (a b : Output W) (xs : List ℕ) → HandsOn contents a xs b → IsNone (write_failure b) → Appends (given contents a) (held contents b) xs
  hands_on-whole a b xs p h =
      let e : p.gives.rest ≡ [] = sym (p.gives.waits h) ∙ p.nothing_waits h in
      drained (held contents a) (held contents b) (waiting a) p.gives.moved xs p.gives.handed
      (p.gives.all ∙ ap (λ l. p.gives.moved ++ l) e ∙ append-nil p.gives.moved)
