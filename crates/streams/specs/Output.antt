-- What an output is after bytes were put in.
--
--   write_failure o          the error by which a write failed
--   held contents o          the bytes that its writer holds, where they are known
--   waiting o                the bytes that were put in and that its writer does not have yet
--   given contents o         all that was put in, where it is known: what is held, and what waits behind it
--   NothingPut w o           an output to the writer w into which nothing was put
--   Gives contents a xs b    what an output a is, b, after some bytes were put in
--   HandsOn contents a xs b  what it is after they were handed on too
use Rattle.std.specs.Prelude.{ℕ, ◌≡◌, ◌<◌, List, [], ◌++◌, length, None, IsSome, IsNone}
use Rattle.std.specs.declared.option.Option.{Option}
use Rattle.std.specs.declared.io.Error.{Error}
use Rattle.std.specs.Io.KnownBytes.{Appends, append_known}
use Rattle.streams.specs.Parts.{NotInterrupted}
use Rattle.streams.specs.declared.output.Output.{Output}

-- the error by which a write failed
abbrev pub write_failure : {W : Type 0} → Output W → Option Error
write_failure o = o.failure

-- the bytes that its writer holds, where they are known
abbrev pub held : {W : Type 0} → (W → Option (List ℕ)) → Output W → Option (List ℕ)
held contents o = contents o.inner

-- the bytes that were put in and that its writer does not have yet
abbrev pub waiting : {W : Type 0} → Output W → List ℕ
waiting o = o.block.items

-- an output to a writer into which nothing was put
pub record NothingPut {W : Type 0} (w : W) (o : Output W) : Type 0 where
  pub inner : o.inner ≡ w
  pub waits : waiting o ≡ []
  pub failure : o.failure ≡ None

-- all that was put in, where it is known: what is held, and what waits behind it
abbrev pub given : {W : Type 0} → (W → Option (List ℕ)) → Output W → Option (List ℕ)
given contents o = append_known (held contents o) (waiting o)

-- WHAT AN OUTPUT IS AFTER BYTES WERE PUT IN. Those that waited, and these behind them, are handed on from the first:
-- some have come behind what the writer held, and unless a write failed the rest waits. Where one failed, it is not all
-- that have come. One that had failed stays as it is.
pub record Gives {W : Type 0} (contents : W → Option (List ℕ)) (a : Output W) (xs : List ℕ)
    (b : Output W) : Type 0 where
  pub moved : List ℕ
  pub rest : List ℕ
  pub all : waiting a ++ xs ≡ moved ++ rest
  pub handed : Appends (held contents a) (held contents b) moved
  pub waits : IsNone b.failure → waiting b ≡ rest
  pub lost : IsNone a.failure → IsSome b.failure → waiting b ≡ []
  pub missing : IsNone a.failure → IsSome b.failure → 0 < length rest
  pub ended : IsSome a.failure → b ≡ a
  pub not_interrupted : IsNone a.failure → NotInterrupted b.failure

-- the same where all was handed on: unless a write failed, nothing waits
pub record HandsOn {W : Type 0} (contents : W → Option (List ℕ)) (a : Output W) (xs : List ℕ)
    (b : Output W) : Type 0 where
  pub gives : Gives contents a xs b
  pub nothing_waits : IsNone b.failure → waiting b ≡ []
