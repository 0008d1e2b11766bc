-- Words laid part after part: what is still to come, laid over what is there, is the whole. Assumes nothing.
--
--   Fitted                            words that fit, and where they end
--   made-words, made-full             what each answer tells
--   lays-words, lays-full             a lay with each answer
--   Going                             the whole is laid up to a place, with a rest to come
--   start, step, stop, finish         the ways of a loop that lays part after part; last-part where the rest is one
--                                     part
--   lays-ends, too_long               where a lay ends; a part that does not fit
--   lays-none, lays-same, lays-case   where nothing is to be laid; equal words, and equal answers
use Rattle.std.proofs.Common.{ℕ, ◌+◌, ◌≤◌, ◌<◌, arith, ◌≡◌, refl, sym, ap, subst, ◌∙◌, List, [], ◌++◌, leb, length, length-append, leb-true, leb-false, le-leb}
use Rattle.std.proofs.Common.{Option, Some, None}
use borrow.Author.Tests.{lt-leb}
use Rattle.logic.proofs.Tests.{by-test}
use Rattle.words.specs.Words.{laid}
use Rattle.compile.specs.Lays.{made_of, Lays}
use Rattle.words.proofs.Laid.{laid_none, laid_then, put-laid}

-- words that fit into the room, and where they end
pub record Fitted (at : ℕ) (F : List ℕ) (room e : ℕ) : Type 0 where
  pub fits : at + length F ≤ room
  pub end : e ≡ at + length F

module _ (at : ℕ) (F : List ℕ) (room : ℕ) where
  pub made-words : (e : ℕ) → Some e ≡ made_of at F room → Fitted at F room e
  unfolding made_of
  made-words e =
      by-test (leb (at + length F) room)
      (λ t q. let q' : Some e ≡ Some (at + length F) = rw t at q in record { fits = leb-true _ _ t; end = cc })
      (λ t q. let q' : Some e ≡ None = rw t at q in let z : ◌≡◌ {A = ℕ} 0 1 = cc in absurd (omega arith))

  pub made-full : None ≡ made_of at F room → room < at + length F
  unfolding made_of
  made-full =
      by-test (leb (at + length F) room)
      (λ t q. let q' : None ≡ Some (at + length F) = rw t at q in let z : ◌≡◌ {A = ℕ} 0 1 = cc in absurd (omega arith))
      (λ t q. leb-false _ _ t)

  pub fits-made : (e : ℕ) → at + length F ≤ room → e ≡ at + length F → Some e ≡ made_of at F room
  unfolding made_of
  fits-made e h q = ap Some q ∙ rw (le-leb _ _ h)

  pub full-made : room < at + length F → None ≡ made_of at F room
  unfolding made_of
  full-made h = rw (lt-leb _ _ h)

-- words that do not fit
pub lays-full : (at : ℕ) (F old new : List ℕ) → length old < at + length F → Lays at F old new None
lays-full at F old new h = record { answer = full-made at F (length old) h; words = λ g. absurd (omega arith) }

-- words that were laid, up to e
pub lays-words : (at : ℕ) (F old new : List ℕ) (e : ℕ) → at + length F ≤ length old → e ≡ at + length F → new ≡ laid at F old → Lays at F old new (Some e)
lays-words at F old new e h q w = record { answer = fits-made at F (length old) e h q; words = λ g. w }

-- the whole is laid at a place over old: so far up to `done`, with the rest to come
pub record Going (at : ℕ) (whole old : List ℕ) (done : ℕ) (rest here : List ℕ) : Type 0 where
  pub below : done ≤ length old
  pub count : done + length rest ≡ at + length whole
  pub ahead : laid done rest here ≡ laid at whole old
  pub same : length here ≡ length old

-- nothing is laid yet
pub start : (at : ℕ) (whole old : List ℕ) → at ≤ length old → Going at whole old at whole old
start at whole old h = record { below = h; count = refl; ahead = refl; same = refl }

-- the same, where what is to come is the whole
pub started : {at : ℕ} {whole old rest : List ℕ} → rest ≡ whole → at ≤ length old → Going at whole old at rest old
started {at} {whole} {old} e h = subst (λ rest. Going at whole old at rest old) (sym e) (start at whole old h)

module _ {at : ℕ} {whole old : List ℕ} {done : ℕ} where
  -- a part that fits brings it further
  pub step : (rest' : List ℕ) {rest here new W : List ℕ} {r : Option ℕ} {e : ℕ} → Going at whole old done rest here → rest ≡ W ++ rest'
      → Lays done W here new r → r ≡ Some e → length new ≡ length here → Going at whole old e rest' new
  step rest' {rest} {here} {new} {W} {r} {e} g q l p s =
      let f : Fitted done W (length here) e = made-words done W (length here) e (sym p ∙ l.answer) in
      let c : length rest ≡ length W + length rest' = ap length q ∙ length-append W rest' in
      record {
        below = omega (arith, f.fits, f.end, g.same);
        count = omega (arith, f.end, g.count);
        ahead = ap (λ k. laid k rest' new) f.end
            ∙ ap (laid (done + length W) rest') (l.words f.fits)
            ∙ laid_then done W rest' here
            ∙ ap (λ x. laid done x here) (sym q)
            ∙ g.ahead;
        same = s ∙ g.same;
      }

  -- where a part does not fit, nor does the whole
  pub stop : (rest' : List ℕ) {rest here new W last : List ℕ} {r : Option ℕ} → Going at whole old done rest here → rest ≡ W ++ rest'
      → Lays done W here new r → r ≡ None → Lays at whole old last None
  stop rest' {rest} {here} {new} {W} {last} g q l p =
      let f : length here < done + length W = made-full done W (length here) (sym p ∙ l.answer) in
      let c : length rest ≡ length W + length rest' = ap length q ∙ length-append W rest' in
      lays-full at whole old last (omega (arith, g.count, g.same))

  -- nothing is to come any more
  pub finish : {rest here : List ℕ} → Going at whole old done rest here → rest ≡ [] → Lays at whole old here (Some done)
  finish {rest} {here} g q =
      let c : length rest ≡ 0 = ap length q in
      let e : done ≡ at + length whole = omega (arith, g.count) in
      lays-words at whole old here done (omega (arith, g.below)) e
      (sym (laid_none done here) ∙ ap (λ x. laid done x here) (sym q) ∙ g.ahead)

-- where there is nothing to lay, nothing changes
pub lays-none : {at : ℕ} {F old : List ℕ} → F ≡ [] → at ≤ length old → Lays at F old old (Some at)
lays-none {at} {F} {old} e h = finish (start at F old h) e

-- equal words are laid alike
pub lays-same : {at : ℕ} {F G old new : List ℕ} {r : Option ℕ} → F ≡ G → Lays at F old new r → Lays at G old new r
lays-same {at} {F} {G} {old} {new} {r} e l = subst (λ x. Lays at x old new r) e l

-- equal answers tell the same
pub lays-case : {at : ℕ} {F old new : List ℕ} {m n : Option ℕ} → m ≡ n → Lays at F old new m → Lays at F old new n
lays-case {at} {F} {old} {new} q l = subst (Lays at F old new) q l

-- where a lay ends
pub lays-ends : {at : ℕ} {F old new : List ℕ} {r : Option ℕ} {e : ℕ} → Lays at F old new r → r ≡ Some e → (at ≤ e) × (e ≤ length old)
lays-ends {at} {F} {old} {new} {r} {e} l q =
    let f : Fitted at F (length old) e = made-words at F (length old) e (sym q ∙ l.answer) in (omega (arith, f.end), omega (arith, f.fits, f.end))

-- where a part does not fit, nor does what holds it
pub too_long : {a b : ℕ} {C D : List ℕ} {old mid new : List ℕ} (last : List ℕ) {r : Option ℕ} → Lays b C mid new r → r ≡ None → length mid ≡ length old
    → b + length C ≤ a + length D → Lays a D old last None
too_long {a} {b} {C} {D} {old} {mid} last l q s h =
    let f : length mid < b + length C = made-full b C (length mid) (sym q ∙ l.answer) in lays-full a D old last (omega arith)

-- words that are put behind what is there, or do not fit
pub ruleset put_words = (put-laid, lays-full, lays-words)
