-- Nodes by their depths, as words: each its header and its rules, and as many closing braces as nodes end behind it.
use Rattle.std.proofs.Common.{ℕ, List, [], ◌∷◌, ◌++◌}
use Rattle.std.specs.Prelude.{replicate}
use Rattle.depths.specs.Depths.{Deep, closings, first_depth}
use Rattle.notation.specs.Words.{close_mark}
use Rattle.notation.specs.Grammar.{Block, IsHeader, IsRules}

-- nodes by their depths, as words
pub data IsFlat : List (List ℕ) → List (Deep Block) → Type 0 where
  none : IsFlat [] []
  more : {h r ws : List (List ℕ)} {d : ℕ} {b : Block} {xs : List (Deep Block)}
      → IsHeader h b.name b.inner b.sibling b.parent → IsRules r b.rules → IsFlat ws xs
      → IsFlat (h ++ (r ++ (replicate (closings d (first_depth xs)) close_mark ++ ws))) (record { depth = d; what = b } ∷ xs)
