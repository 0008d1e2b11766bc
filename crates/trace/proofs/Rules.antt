-- A node's own rules: their steps one by one from the last. Assumes nothing.
use mathlib.Core.Path.{◌≡◌, refl, sym, ap, ap₂, ◌∙◌}
use mathlib.Core.Bool.{Bool, true, false}
use mathlib.Core.List.{List, [], ◌∷◌, ◌++◌, append_assoc, map, reverse}
use Rattle.std.proofs.lemmas.List.{append-nil, nil_from_length, reverse-reverse}
use Rattle.std.proofs.lemmas.Grind.{reverse_onto}
use Prim.Native.Nat.{ℕ, ◌/◌}
use lib.ListN.{length, take, drop}
use lib.Seq.{take_at, drop_at}
use Rattle.std.specs.Simd.{first_chunks}
use Rattle.std.specs.Slice.Iter.{iter_rest}
use Rattle.std.proofs.Common.{Iter}
use Rattle.words.specs.Records.{rows_of}
use Rattle.words.proofs.Bytes.{chunks-records}
use Rattle.theory.specs.declared.Row.{Row}
use Rattle.theory.specs.Tree.{own}
use Rattle.row.specs.Row.{row_length, row_of, row_action, rows_in}
use Rattle.flow.specs.Match.{match_of}
use Rattle.flow.specs.declared.Match.{Match}
use Rattle.action.specs.Operator.{join}
use Rattle.action.specs.declared.Action.{Action}
use Rattle.action.specs.declared.Action.TheVariants.{DontCare}
use Rattle.trace.specs.declared.walk.RuleStep.{RuleStep}
use Rattle.trace.specs.Steps.{rule_steps}
use Rattle.trace.specs.Settled.{rule_step, RulesSettled}

-- the atoms that an iterator over their words still has to give: all at the start, none at the end
abbrev pub atoms_left : Iter (List ℕ) → List (Row Match Action)
atoms_left s = map row_of (iter_rest s)

pub atoms-all : {rs : List (List ℕ)} (ws : List ℕ) → rs ≡ first_chunks row_length (length ws / row_length) ws → map row_of rs ≡ rows_in ws
unfolding rows_of
atoms-all ws e = ap (map row_of) (e ∙ chunks-records (length ws / row_length) row_length ws)

pub atoms-none : (s : Iter (List ℕ)) → length (iter_rest s) ≡ 0 → atoms_left s ≡ []
atoms-none s e = ap (map row_of) (nil_from_length (iter_rest s) e)

-- an atom's words are read as its match, and as its action where that is met
module _ {Q : Type 0} (meets : Match → Q → Bool) (q : Q) (o atom : List ℕ) (rest : Action) {m : Match} (read : m ≡ match_of atom)
    {t : Bool} (e : t ≡ meets m q) where
  pub step-met : {a r : Action} → a ≡ row_action atom → t ≡ true → r ≡ join o a rest
      → ◌≡◌ {A = RuleStep} (record { met = t; rest = rest; made = r }) (rule_step meets q o (row_of atom) rest)
  unfolding rule_step
  step-met f h j =
      let i : meets (match_of atom) q ≡ true = ap (λ x. meets x q) (sym read) ∙ sym e ∙ h in
      rw (i, h, j, f)

  pub step-unmet : t ≡ false → ◌≡◌ {A = RuleStep} (record { met = t; rest = rest; made = rest }) (rule_step meets q o (row_of atom) rest)
  unfolding rule_step
  step-unmet h =
      let i : meets (match_of atom) q ≡ false = ap (λ x. meets x q) (sym read) ∙ sym e ∙ h in
      rw (i, h)

-- Of the atoms, `rest` are left; those behind them came to `given`, and their steps are put from the last.
pub record Put {Q : Type 0} (meets : Match → Q → Bool) (q : Q) (o : List ℕ) (atoms rest : List (Row Match Action)) (given : Action)
    (before rules : List RuleStep) : Type 0 where
  pub gone : List (Row Match Action)
  pub parts : rest ++ gone ≡ atoms
  pub gives : given ≡ own meets DontCare join o gone q
  pub put : rules ≡ before ++ reverse (rule_steps meets q o gone)

module _ {Q : Type 0} (meets : Match → Q → Bool) (q : Q) (o : List ℕ) where
  pub put-start : (atoms rest : List (Row Match Action)) (rules : List RuleStep) → rest ≡ atoms → Put meets q o atoms rest DontCare rules rules
  put-start atoms rest rules e = record { gone = []; parts = append-nil rest ∙ e; gives = refl; put = sym (append-nil rules) }

  pub put-step : (atom : Row Match Action) {atoms rest left : List (Row Match Action)} {given : Action} {before rules next : List RuleStep} {step : RuleStep}
      → Put meets q o atoms rest given before rules → rest ≡ left ++ (atom ∷ []) → step ≡ rule_step meets q o atom given
      → next ≡ rules ++ (step ∷ []) → Put meets q o atoms left step.made before next
  unfolding rule_step
  put-step atom {left = left} {before = before} {step = step} b e n put =
      let whole : step ≡ record {
        met = meets atom.matching q;
        rest = own meets DontCare join o b.gone q;
        made = own meets DontCare join o (atom ∷ b.gone) q;
      } = n ∙ ap (rule_step meets q o atom) b.gives in
      record {
        gone = atom ∷ b.gone;
        parts = sym (append_assoc left (atom ∷ []) b.gone) ∙ ap (λ l. l ++ b.gone) (sym e) ∙ b.parts;
        gives = ap (λ (s : RuleStep). s.made) whole;
        put = put ∙ ap₂ (λ x y. x ++ (y ∷ [])) b.put whole ∙ append_assoc before _ _
            ∙ ap (λ l. before ++ l) (sym (reverse_onto (rule_steps meets q o b.gone) _ []));
      }

  pub put-end : (words : List ℕ) {rest : List (Row Match Action)} {given : Action} {before rules after : List RuleStep} {first : ℕ}
      → Put meets q o (rows_in words) rest given before rules → rest ≡ [] → first ≡ length before
      → after ≡ take first rules ++ reverse (drop first rules) → RulesSettled meets q o words before after given
  put-end words {before = before} {first = first} b e f turned =
      let all : b.gone ≡ rows_in words = ap (λ l. l ++ b.gone) (sym e) ∙ b.parts in
      let ys : List RuleStep = reverse (rule_steps meets q o b.gone) in
      record {
        given = b.gives ∙ ap (λ N. own meets DontCare join o N q) all;
        put = turned ∙ ap (λ l. take first l ++ reverse (drop first l)) b.put
            ∙ ap₂ (λ x y. x ++ reverse y) (take_at before ys first (sym f)) (drop_at before ys first (sym f))
            ∙ ap (λ l. before ++ l) (reverse-reverse (rule_steps meets q o b.gone))
            ∙ ap (λ N. before ++ rule_steps meets q o N) all;
      }
