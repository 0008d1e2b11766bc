-- Without a port and flag 16 a match is not empty.
use Prim.Native.Nat.{ℕ, ◌+◌}
use mathlib.Core.Path.{◌≡◌, refl, sym, ap, ◌∙◌}
use mathlib.Core.Bool.{Bool, true, false, not, ◌&&◌, ◌||◌, false≢true}
use lib.Bits.{bit_and}
use lib.Dec.{eqb}
use Rattle.flow.specs.Match.{protocol_flag, port_flags, empty_flag, flagged, has_ports, clash, unmet}
use Rattle.flow.proofs.Flags.{flag-either}
use Rattle.flow.proofs.matches.unmet.Goals as goal

-- none of these flags
without : (f q : ℕ) → bit_and f (port_flags + empty_flag) ≡ 0 → false ≡ unmet f q
unfolding unmet clash
without f q e =
    sym (go (flagged port_flags f) (flagged empty_flag f) (sym (flag-either port_flags empty_flag f) ∙ ap (λ (x : ℕ). not (eqb x 0)) e))
  where
    go : (p x : Bool) → (p || x) ≡ false → (x || (p && flagged protocol_flag f && not (has_ports q))) ≡ false
    go true x h = absurd (false≢true (sym h))
    go false true h = h
    go false false h = refl

pub returns-then-flags-eq0 : goal.returns-then-flags-eq0
returns-then-flags-eq0 c = without _ _ c.if-flags-eq0.true

pub returns : goal.returns
unfolding unmet
returns c = rw c.clash.ensures
