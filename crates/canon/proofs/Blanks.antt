-- Blanks behind blanks.
use Rattle.std.proofs.Common.{ℕ, ◌+◌, ◌*◌, ◌-◌, ◌<◌, suc, ◌≡◌, ap, ◌∙◌, ◌++◌, arith}
use Rattle.std.specs.Prelude.{codes}
use Rattle.std.proofs.lemmas.List.{replicate-append-replicate}
use Rattle.canon.specs.Text.{spaces, indent}

-- one blank more
pub one-more : (k : ℕ) → spaces k ++ codes " " ≡ spaces (k + 1)
one-more k = replicate-append-replicate k 1 32

-- the blanks of one depth more
pub four-more : (k : ℕ) → indent k ++ codes "    " ≡ indent (k + 1)
four-more k = replicate-append-replicate (4 * k) 4 32 ∙ ap spaces (let e : 4 * k + 4 ≡ 4 * (k + 1) = omega arith in e)

-- what is left where one is done
pub one-less : (n k : ℕ) → k < n → n - k ≡ suc (n - (k + 1))
one-less n k h = omega arith
