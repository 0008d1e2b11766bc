-- A turn of the loop over the atoms: the place of the next one is found, or it is not. Assumes nothing.
use Rattle.std.proofs.Common.{ℕ, suc, ◌+◌, ◌-◌, ◌*◌, ◌<◌, arith, ◌≡◌, sym, ap, ◌∙◌, Bool, true, false, List, [], ◌∷◌, ◌++◌, append-nil, get_or, take, drop}
use Rattle.theory.specs.declared.Row.{Row}
use Rattle.theory.specs.Hidden.{places_where}
use Rattle.flow.specs.Match.{inside}
use Rattle.flow.specs.declared.Match.{Match}
use Rattle.action.specs.declared.Action.{Action}
use Rattle.row.specs.Row.{row_length, row_of, rows_in}
use Rattle.table.specs.Table.{row_count, past}
use Rattle.table.proofs.Tables.{row-at}
use Rattle.origins.specs.Origins.{holds}

-- the places of the first i atoms that a match lies inside
abbrev pub found : List ℕ → Match → ℕ → List ℕ
found ws m i = places_where (λ k. holds (get_or (rows_in ws) k past).matching m) i

module _ (ws : List ℕ) (m : Match) (i : ℕ) (h : i < row_count ws) (atom : Row Match Action) (b : Bool)
    (read : atom ≡ row_of (take (i * row_length + row_length - i * row_length) (drop (i * row_length) ws))) (tested : b ≡ inside m atom.matching) where
  -- what was read is the next atom, and so it was tested
  next : b ≡ inside m (get_or (rows_in ws) i past).matching
  next =
      let n : i * row_length + row_length - i * row_length ≡ row_length = omega arith in
      let same : atom ≡ get_or (rows_in ws) i past = read ∙ ap (λ k. row_of (take k (drop (i * row_length) ws))) n ∙ sym (row-at ws i h) in
      tested ∙ ap (λ (r : Row Match Action). inside m r.matching) same

  pub one-more : b ≡ true → (places new : List ℕ) → places ≡ found ws m i → new ≡ places ++ (i ∷ []) → new ≡ found ws m (i + 1)
  one-more t places new p q =
      let yes : inside m (get_or (rows_in ws) i past).matching ≡ true = sym next ∙ t in
      let one : i + 1 ≡ suc i = omega arith in
      rw (one, yes) (q ∙ ap (λ l. l ++ (i ∷ [])) p)

  pub none-more : b ≡ false → (places : List ℕ) → places ≡ found ws m i → places ≡ found ws m (i + 1)
  none-more t places p =
      let no : inside m (get_or (rows_in ws) i past).matching ≡ false = sym next ∙ t in
      let one : i + 1 ≡ suc i = omega arith in
      rw (one, no, append-nil) p
