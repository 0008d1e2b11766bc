-- The scan by places: induction over the rows.
use Rattle.std.proofs.Common.{zero, suc, arith, ◌≡◌, refl, ap, Bool, false, [], ◌∷◌, length}
use Rattle.theory.specs.Rows.{matches_at}
use Rattle.theory.specs.Number.{FirstPlace}
use Rattle.theory.specs.Theorems.{ScanPlace, ScanNone}

module _ {M P A : Type 0} (meets : M → P → Bool) (dont_care : A) where
  pub scan-place : ScanPlace meets dont_care
  scan-place d [] p i f = absurd (omega (arith, f.within))
  scan-place d (r ∷ N) p zero f = rw f.passes (refl, refl, refl)
  scan-place d (r ∷ N) p (suc i) f =
      let skipped : meets r.matching p ≡ false = f.skips 0 (omega arith) in
      let later : FirstPlace (matches_at meets d N p) (length N) i = record {
        within = omega (arith, f.within);
        passes = f.passes;
        skips = λ j h. f.skips (suc j) (omega arith);
      } in
      let rest = scan-place d N p i later in
      rw skipped (rest.0, ap suc rest.1, ap suc rest.2)

  pub scan-none : ScanNone meets dont_care
  scan-none d [] p f = (refl, refl, refl)
  scan-none d (r ∷ N) p f =
      let rest = scan-none d N p (λ i h. f (suc i) (omega arith)) in
      rw (f 0 (omega arith)) (rest.0, ap suc rest.1, ap suc rest.2)
