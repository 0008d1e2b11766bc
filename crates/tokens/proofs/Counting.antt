-- The line and the column of a byte are those that a person counts.
use Rattle.std.proofs.Common.{◌≡◌, ℕ, suc, cond, eqb, List, [], ◌∷◌, ◌++◌, length, take, refl, sym, ap, ◌∙◌, inl, inr, ◌⊎◌, append_assoc, arith}
use Rattle.std.proofs.lemmas.List.{length-append, append-nil, length-take}
use Rattle.std.proofs.lemmas.Bool.{eqb-true, eqb-false, ne_eqb}
use Rattle.logic.proofs.Lists.{all_append}
use Rattle.tokens.specs.Tokens.{newline}
use Rattle.tokens.specs.Cut.{IsLine}
use Rattle.tokens.specs.Place.{newlines, behind_newline}
use Rattle.tokens.specs.Theorems.{PlaceLies}
use Rattle.tokens.proofs.Words.{by_outcome}

-- whole lines: nothing, or what ends with a line end
abbrev Whole : List ℕ → Type 0
Whole before = (before ≡ []) ⊎ ((lines : List ℕ) × (before ≡ lines ++ newline ∷ []))

-- a line c and some bytes behind it are whole lines and a part of a line; m and n are the counts of the bytes
record Lines (c bs : List ℕ) (m n : ℕ) : Type 0 where
  before : List ℕ
  here : List ℕ
  parts : c ++ bs ≡ before ++ here
  whole : Whole before
  own : IsLine here
  line : newlines before ≡ m
  column : length here ≡ n

-- a line has no line end
no-newlines : (c bs : List ℕ) → IsLine c → newlines (c ++ newline ∷ bs) ≡ suc (newlines bs)
no-newlines [] bs l = refl
no-newlines (b ∷ c) bs l = let e = ne_eqb b newline l.0 in rw e (no-newlines c bs l.1)

-- a line before whole lines is one more of them
more-whole : (c before : List ℕ) → Whole before → Whole (c ++ newline ∷ before)
more-whole c before (inl e) = inr (c, ap (λ x. c ++ newline ∷ x) e)
more-whole c before (inr w) = inr (c ++ newline ∷ w.0, ap (λ x. c ++ newline ∷ x) w.1 ∙ sym (append_assoc c (newline ∷ w.0) (newline ∷ [])))

-- the lines of some bytes behind a line
lines : (bs c : List ℕ) → IsLine c → Lines c bs (newlines bs) (behind_newline (length c) bs)
lines [] c l = record { before = []; here = c; parts = append-nil c; whole = inl refl; own = l; line = refl; column = refl }
lines (b ∷ bs) c l =
    let none : ℕ = behind_newline 0 bs in
    let more : ℕ = behind_newline (suc (length c)) bs in
    by_outcome (λ t. Lines c (b ∷ bs) (cond t (suc (newlines bs)) (newlines bs)) (cond t none more)) (eqb b newline)
    (λ e. let r = lines bs [] tt in record {
      before = c ++ newline ∷ r.before;
      here = r.here;
      parts = ap (λ n. c ++ n ∷ bs) (eqb-true b newline e) ∙ ap (λ x. c ++ newline ∷ x) r.parts ∙ sym (append_assoc c (newline ∷ r.before) r.here);
      whole = more-whole c r.before r.whole;
      own = r.own;
      line = no-newlines c r.before l ∙ ap suc r.line;
      column = r.column;
    })
    (λ e. let r = lines bs (c ++ b ∷ []) (all_append (λ n. ¬ (n ≡ newline)) c (b ∷ []) l (eqb-false b newline e, tt)) in record {
      before = r.before;
      here = r.here;
      parts = sym (append_assoc c (b ∷ []) bs) ∙ r.parts;
      whole = r.whole;
      own = r.own;
      line = r.line;
      column = r.column ∙ ap (λ n. behind_newline n bs) (omega (arith, length-append c (b ∷ [])));
    })

-- a place is the line's number and how far the byte stands in it
pub place-lies : PlaceLies
place-lies text at h =
    let r = lines (take at text) [] tt in
    record {
      before = r.before;
      here = r.here;
      parts = r.parts;
      bytes = omega (arith, ap length r.parts, length-append r.before r.here, length-take at text);
      whole = r.whole;
      own = r.own;
      line = ap suc (sym r.line);
      column = ap suc (sym r.column);
    }
