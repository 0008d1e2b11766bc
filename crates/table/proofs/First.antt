-- The first row that a packet meets, among the words of rows, as `position` finds it. Assumes nothing.
use Prim.Native.Nat.{ℕ, ◌+◌}
use native.Mathlib.Omega.{arith}
use mathlib.Core.Path.{◌≡◌, sym, ap, ap₂, ◌∙◌}
use mathlib.Core.List.{List, [], map}
use lib.ListN.{length, get_or, length-map, get_or-map}
use Rattle.std.specs.Prelude.{Some, None}
use Rattle.std.specs.List.{position}
use Rattle.std.proofs.lemmas.List.Quantifiers.{position-Some}
use Rattle.theory.specs.declared.Row.{Row}
use Rattle.theory.specs.Rows.{matches_at}
use Rattle.theory.proofs.Places.{scan-place, scan-none}
use Rattle.flow.specs.Match.{meets}
use Rattle.flow.specs.declared.Match.{Match}
use Rattle.flow.specs.declared.Packet.{Packet}
use Rattle.action.specs.declared.Action.{Action}
use Rattle.action.specs.declared.Action.TheVariants.{DontCare}
use Rattle.row.specs.Row.{row_of, row_action}
use Rattle.table.specs.Table.{past}
use Rattle.table.specs.Scan.{met, found}
use Rattle.table.specs.declared.Found.{Found}
use Rattle.table.proofs.Lying.{position-none, position-map, lying-at}
use Rattle.std.proofs.lemmas.Simd.{map-map}

-- what is found
abbrev pub gives : Action → ℕ → Found
gives a n = record { action = a; tried = n }

module _ (p : Packet) where
  met-at : (rows : List (List ℕ)) (i : ℕ) → matches_at meets past (map row_of rows) p i ≡ met p (get_or rows i [])
  met-at rows i = ap (λ (r : Row Match Action). meets r.matching p) (get_or-map row_of rows i [])

  pub found-first : (rows : List (List ℕ)) (i : ℕ) → position (met p) rows ≡ Some i
      → gives (row_action (get_or rows i [])) (i + 1) ≡ found 0 (map row_of rows) p
  found-first rows i e =
      let f = position-Some (met p) rows i [] e in
      let r = scan-place meets DontCare past (map row_of rows) p i
      (record {
        within = omega (arith, f.0, length-map rows row_of);
        passes = met-at rows i ∙ f.1;
        skips = λ j h. met-at rows j ∙ f.2 j h;
      }) in
      sym (ap₂ gives (r.0 ∙ ap (λ (x : Row Match Action). x.action) (get_or-map row_of rows i [])) (omega (arith, r.2)))

  pub found-none : (rows : List (List ℕ)) → position (met p) rows ≡ None → gives DontCare (length rows) ≡ found 0 (map row_of rows) p
  found-none rows e =
      let r = scan-none meets DontCare past (map row_of rows) p
      (λ j l. met-at rows j ∙ position-none (met p) [] rows e j (omega (arith, l, length-map rows row_of))) in
      sym (ap₂ gives r.0 (omega (arith, r.2, length-map rows row_of)))

  -- the same of rows where they lie
  module _ {R : Type 0} (f : R → List ℕ) (rows : List R) where
    pub lying-first : (i : ℕ) (r : R) → r ≡ get_or rows i r → position (λ x. met p (f x)) rows ≡ Some i
        → gives (row_action (f r)) (i + 1) ≡ found 0 (map (λ x. row_of (f x)) rows) p
    lying-first i r same e =
        let d : position (met p) (map f rows) ≡ Some i = position-map f (met p) rows ∙ e in
        let h = (position-Some (met p) (map f rows) i [] d).0 in
        ap (λ w. gives (row_action w) (i + 1)) (lying-at f rows i r (omega (arith, h, length-map rows f)) same)
        ∙ found-first (map f rows) i d
        ∙ ap (λ N. found 0 N p) (map-map row_of f rows)

    pub lying-none : position (λ x. met p (f x)) rows ≡ None → gives DontCare (length rows) ≡ found 0 (map (λ x. row_of (f x)) rows) p
    lying-none e =
        ap (gives DontCare) (sym (length-map rows f))
        ∙ found-none (map f rows) (position-map f (met p) rows ∙ e)
        ∙ ap (λ N. found 0 N p) (map-map row_of f rows)
