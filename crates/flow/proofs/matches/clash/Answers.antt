-- No flag is barred where the protocol is free or has ports, and the ports' flags are where it has none.
use Prim.Native.Nat.{ℕ}
use mathlib.Core.Path.{◌≡◌, sym, ap, ◌∙◌}
use mathlib.Core.Bool.{Bool, true, false, cond, not, ◌&&◌, ◌||◌, and-true, and-false}
use lib.Bits.{bit_and, and_zero_r}
use lib.Dec.{eqb}
use Rattle.flow.specs.Match.{protocol_flag, port_flags, flagged, has_ports, clash}
use Rattle.flow.proofs.matches.clash.Goals.{then-flags-has_ports, else-flags-has_ports}
use Rattle.flow.proofs.matches.clash.Goals as goal

-- by whether the protocol is free, and whether it has ports
barred : (f q : ℕ) → not (eqb (bit_and f (cond (eqb (bit_and f protocol_flag) 0 || has_ports q) 0 port_flags)) 0) ≡ clash f q
unfolding clash
barred f q = go (eqb (bit_and f protocol_flag) 0) (has_ports q)
  where
    none : not (eqb (bit_and f 0) 0) ≡ false
    none = ap (λ (x : ℕ). not (eqb x 0)) (and_zero_r f)

    go : (e h : Bool) → not (eqb (bit_and f (cond (e || h) 0 port_flags)) 0) ≡ (flagged port_flags f && not e && not h)
    go true h = none ∙ sym (ap (λ (t : Bool). t && not h) (and-false (flagged port_flags f)))
    go false true = none ∙ sym (and-false (flagged port_flags f && true))
    go false false = sym (and-true (flagged port_flags f && true) ∙ and-true (flagged port_flags f))

-- the same, by what was picked
picked : (f q b : ℕ) {t h : Bool} → h ≡ has_ports q → (eqb (bit_and f protocol_flag) 0 || h) ≡ t → b ≡ cond t 0 port_flags
    → not (eqb (bit_and f b) 0) ≡ clash f q
picked f q b e p g = rw (g, ← p, e) (barred f q)

pub returns : goal.returns
returns c =
    elim c.if-flags-has_ports.branch [
      | then-flags-has_ports w ↦ picked _ _ _ c.has_ports.ensures w.if-flags-has_ports.true w.barred-is
      | else-flags-has_ports w ↦ picked _ _ _ c.has_ports.ensures w.if-flags-has_ports.false w.barred-is
    ]
