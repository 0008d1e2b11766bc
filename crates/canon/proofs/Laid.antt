-- Texts that are laid out as words.
--
--   Breaks t       t does not go on with a word that stands before it
--   Loose t ws     t is made of the words ws, whatever stands behind it
--   Tight t ws     t is made of the words ws, unless what stands behind it goes on with the last one
--   Opens t        t does not go on with a word, unless it is empty and what stands behind it does
--   Parts t        t does not go on with a word
use Rattle.std.proofs.Common.{ℕ, zero, suc, ◌≡◌, ◌<◌, Bool, true, false, List, [], ◌∷◌, ◌++◌, length, refl, sym, subst, append_assoc, append-nil, inl, inr}
use Rattle.std.specs.Prelude.{◌&&◌, ⊤, codes}
use Rattle.logic.specs.Lists.{All}
use Rattle.tokens.specs.Tokens.{is_blank, is_mark, in_word}
use Rattle.tokens.specs.Cut.{Gap, LastGap, Apart, Cut}
use Rattle.values.proofs.NumberLaw.{both}
use Rattle.canon.specs.Text.{spaces, line_end}

abbrev pub Breaks : List ℕ → Type 0
Breaks [] = ⊤
Breaks (b ∷ t) = in_word b ≡ false

pub record Loose (t : List ℕ) (ws : List (List ℕ)) : Type 0 where
  pub laid : (rest : List ℕ) (us : List (List ℕ)) → Cut rest us → Cut (t ++ rest) (ws ++ us)

pub record Tight (t : List ℕ) (ws : List (List ℕ)) : Type 0 where
  pub laid : (rest : List ℕ) (us : List (List ℕ)) → Breaks rest → Cut rest us → Cut (t ++ rest) (ws ++ us)

pub record Opens (t : List ℕ) : Type 0 where
  pub breaks : (rest : List ℕ) → Breaks rest → Breaks (t ++ rest)

pub record Parts (t : List ℕ) : Type 0 where
  pub breaks : (rest : List ℕ) → Breaks (t ++ rest)

-- ---- single bytes

-- a blank before a last gap
blank-last : (b : ℕ) {g : List ℕ} → is_blank b ≡ true → LastGap g → LastGap (b ∷ g)
blank-last b k (LastGap.gap h) = LastGap.gap (Gap.blank k h)
blank-last b k (LastGap.comment c h l) = LastGap.comment c (Gap.blank k h) l

-- a blank before a text
pub blank : (b : ℕ) {t : List ℕ} {ws : List (List ℕ)} → is_blank b ≡ true → Cut t ws → Cut (b ∷ t) ws
blank b k (Cut.end l) = Cut.end (blank-last b k l)
blank b k (Cut.word gap is apart c) = Cut.word (Gap.blank k gap) is apart c

-- behind a mark any byte may stand
mark-apart : (b : ℕ) (t : List ℕ) → is_mark b ≡ true → Apart (b ∷ []) t
mark-apart b [] m = tt
mark-apart b (c ∷ t) m = inl m

-- a mark before a text
pub mark : (b : ℕ) {t : List ℕ} {ws : List (List ℕ)} → is_mark b ≡ true → Cut t ws → Cut (b ∷ t) ((b ∷ []) ∷ ws)
mark b {t} m c = Cut.word {g = []} {w = b ∷ []} Gap.none (inl (b, m, refl)) (mark-apart b t m) c

-- ---- words

-- a word of bytes of words
abbrev pub Word : List ℕ → Type 0
Word w = (0 < length w) × All (λ b. in_word b ≡ true) w

-- a test for it
abbrev pub all_word : List ℕ → Bool
all_word [] = true
all_word (b ∷ w) = in_word b && all_word w

-- which decides
pub all-word : (w : List ℕ) → all_word w ≡ true → All (λ b. in_word b ≡ true) w
all-word [] e = tt
all-word (b ∷ w) e = let h = both (in_word b) (all_word w) e in (h.0, all-word w h.1)

-- what breaks stands apart
breaks-apart : (w t : List ℕ) → Breaks t → Apart w t
breaks-apart [] t h = tt
breaks-apart (b ∷ w) [] h = tt
breaks-apart (b ∷ w) (c ∷ t) h = inr h

-- a word before a text that breaks
pub word : (w : List ℕ) → Word w → Tight w (w ∷ [])
word w h = record { laid = λ rest us b c. Cut.word {g = []} {w = w} Gap.none (inr h) (breaks-apart w rest b) c }

-- ---- texts one behind the other

-- nothing
pub nothing : Tight [] []
nothing = record { laid = λ rest us b c. c }

-- what needs no break needs none
pub tight : {t : List ℕ} {ws : List (List ℕ)} → Loose t ws → Tight t ws
tight l = record { laid = λ rest us b c. l.laid rest us c }

-- what is in brackets on the right is so on the left
regroup : (a t rest : List ℕ) (ws vs us : List (List ℕ)) → Cut (a ++ (t ++ rest)) (ws ++ (vs ++ us)) → Cut ((a ++ t) ++ rest) ((ws ++ vs) ++ us)
regroup a t rest ws vs us c =
    subst (λ x. Cut x ((ws ++ vs) ++ us)) (sym (append_assoc a t rest)) (subst (λ x. Cut (a ++ (t ++ rest)) x) (sym (append_assoc ws vs us)) c)

-- two texts of which neither needs a break
pub loose-loose : {a t : List ℕ} {ws vs : List (List ℕ)} → Loose a ws → Loose t vs → Loose (a ++ t) (ws ++ vs)
loose-loose {a} {t} {ws} {vs} p q = record { laid = λ rest us c. regroup a t rest ws vs us (p.laid (t ++ rest) (vs ++ us) (q.laid rest us c)) }

-- of which the second needs one
pub loose-tight : {a t : List ℕ} {ws vs : List (List ℕ)} → Loose a ws → Tight t vs → Tight (a ++ t) (ws ++ vs)
loose-tight {a} {t} {ws} {vs} p q = record { laid = λ rest us b c. regroup a t rest ws vs us (p.laid (t ++ rest) (vs ++ us) (q.laid rest us b c)) }

-- of which the first needs one
pub tight-loose : {a t : List ℕ} {ws vs : List (List ℕ)} → Tight a ws → Parts t → Loose t vs → Loose (a ++ t) (ws ++ vs)
tight-loose {a} {t} {ws} {vs} p o q =
    record { laid = λ rest us c. regroup a t rest ws vs us (p.laid (t ++ rest) (vs ++ us) (o.breaks rest) (q.laid rest us c)) }

-- a text before the end of its line
pub tight-end : {a : List ℕ} {ws : List (List ℕ)} → Tight a ws → Loose (a ++ line_end) ws
tight-end {a} {ws} p =
    subst (Loose (a ++ line_end)) (append-nil ws)
    (tight-loose p (record { breaks = λ rest. refl }) (record { laid = λ rest us c. blank 10 refl c }))

-- of which both need one
pub tight-tight : {a t : List ℕ} {ws vs : List (List ℕ)} → Tight a ws → Opens t → Tight t vs → Tight (a ++ t) (ws ++ vs)
tight-tight {a} {t} {ws} {vs} p o q =
    record { laid = λ rest us b c. regroup a t rest ws vs us (p.laid (t ++ rest) (vs ++ us) (o.breaks rest b) (q.laid rest us b c)) }

-- what opens before what opens
pub opens-opens : {a t : List ℕ} → Opens a → Opens t → Opens (a ++ t)
opens-opens {a} {t} p q = record { breaks = λ rest b. subst Breaks (sym (append_assoc a t rest)) (p.breaks (t ++ rest) (q.breaks rest b)) }

-- what opens before what parts
pub opens-parts : {a t : List ℕ} → Opens a → Parts t → Parts (a ++ t)
opens-parts {a} {t} p q = record { breaks = λ rest. subst Breaks (sym (append_assoc a t rest)) (p.breaks (t ++ rest) (q.breaks rest)) }

-- a whole text
pub whole : {t : List ℕ} {ws : List (List ℕ)} → Loose t ws → Cut t ws
whole {t} {ws} l = subst (λ x. Cut x ws) (append-nil t) (subst (λ x. Cut (t ++ []) x) (append-nil ws) (l.laid [] [] (Cut.end (LastGap.gap Gap.none))))

-- ---- blanks and marks

-- nothing opens
pub nothing-opens : Opens []
nothing-opens = record { breaks = λ rest b. b }

-- a text that begins by a byte that is none of words parts
pub begins-parts : (b : ℕ) (t : List ℕ) → in_word b ≡ false → Parts (b ∷ t)
begins-parts b t e = record { breaks = λ rest. e }

-- and so it opens
pub begins-opens : (b : ℕ) (t : List ℕ) → in_word b ≡ false → Opens (b ∷ t)
begins-opens b t e = record { breaks = λ rest c. e }

-- blanks before a text
spaces-cut : (n : ℕ) (rest : List ℕ) (us : List (List ℕ)) → Cut rest us → Cut (spaces n ++ rest) us
spaces-cut zero rest us c = c
spaces-cut (suc n) rest us c = blank 32 refl (spaces-cut n rest us c)

-- blanks
pub spaces-loose : (n : ℕ) → Loose (spaces n) []
spaces-loose n = record { laid = spaces-cut n }

-- the end of a line
pub line_end-loose : Loose line_end []
line_end-loose = record { laid = λ rest us c. blank 10 refl c }

-- a blank
pub blank-loose : Loose (codes " ") []
blank-loose = record { laid = λ rest us c. blank 32 refl c }

-- a word with blanks behind it
pub spaced : (w : List ℕ) (n : ℕ) → Word w → Loose (w ++ spaces (suc n)) (w ∷ [])
spaced w n h = tight-loose (word w h) (begins-parts 32 (spaces n) refl) (spaces-loose (suc n))
