-- Which reasons reading can give before the laws, and that the number of a reason other than a broken law tells it. Assumes nothing.
use Rattle.std.proofs.Common.{ℕ, arith, ◌≡◌, refl, sym, ap, ap₂, ◌∙◌, List, [], ◌∷◌, get_or, None}
use Rattle.refusal.specs.Refusals.{law_broken, reason_number, failure_of, refusal_at, refusal_number}
use Rattle.refusal.specs.declared.Reason.{Reason}
use Rattle.refusal.specs.declared.Reason.TheVariants.{ShortFile, WrongCount, WrongCell, WrongMatch, WrongAction, WrongNode, ExtraWords, NoTree, WrongSum, LawBroken}
use Rattle.refusal.specs.declared.Reason.TheVariants.{WrongPacket, NoRoom, NoScratch, WrongTable, WrongRow, ShortBuffer, WrongInput, WrongCapture, ShortAnswers, WrongBytes}
use Rattle.refusal.specs.declared.Refusal.{Refusal}
use Rattle.policy.specs.Due.{RecordDue, cell, match, action, node, SectionDue, no_count, beyond, cut, wrong_record}
use Rattle.policy.specs.declared.Edition.{Edition}
use Rattle.policy.specs.declared.Edition.TheVariants.{First}
use Rattle.policy.specs.declared.Section.{Section}
use Rattle.policy.specs.Order.{Due, in_header, in_operators, in_atoms, in_nodes, extra, no_place, missing, sum}

record-lawless : {at : ℕ} {r : List ℕ} {s : Section} {why : Reason} {place : ℕ} → RecordDue at r s why place → ¬ (reason_number why ≡ law_broken)
record-lawless (cell w) e = omega (arith, e)
record-lawless (match w) e = omega (arith, e)
record-lawless (action w v) e = omega (arith, e)
record-lawless (node w) e = omega (arith, e)

section-lawless : {f : List ℕ} {at : ℕ} {s : Section} {why : Reason} {place : ℕ} → SectionDue f at s why place → ¬ (reason_number why ≡ law_broken)
section-lawless (no_count h) e = omega (arith, e)
section-lawless (beyond h k) e = omega (arith, e)
section-lawless (cut h k l m) e = omega (arith, e)
section-lawless (wrong_record p w d) e = record-lawless d e

-- nothing that is due before the laws is a broken law
pub due-lawless : (e : Edition) (f : List ℕ) (why : Reason) (at : ℕ) → Due e f why at → ¬ (reason_number why ≡ law_broken)
due-lawless First f why at (in_header d) q = d
due-lawless e f why at (in_operators h d) q = section-lawless d q
due-lawless e f why at (in_atoms h g d) q = section-lawless d q
due-lawless e f why at (in_nodes h g k d) q = section-lawless d q
due-lawless e f why at (extra g h) q = omega (arith, q)
due-lawless e f why at (no_place g h w) q = omega (arith, q)
due-lawless e f why at (missing g h p x) q = omega (arith, q)
due-lawless e f why at (sum g h t n) q = omega (arith, q)

-- the reason of a number, but for a broken law; a place without a reason of its own has one that is never asked for
abbrev reason_of : ℕ → Reason
reason_of n =
    get_or
    (ShortFile ∷ ShortFile ∷ WrongCount ∷ WrongCell ∷ WrongMatch ∷ WrongAction ∷ WrongNode ∷ ExtraWords ∷ NoTree ∷ WrongSum ∷ ShortFile ∷ WrongPacket ∷ NoRoom
    ∷ NoScratch ∷ ShortFile ∷ WrongTable ∷ WrongRow ∷ ShortBuffer ∷ WrongInput ∷ WrongCapture ∷ ShortAnswers ∷ WrongBytes
    ∷ [])
    n ShortFile

reason-told : (why : Reason) → failure_of why ≡ None → reason_of (reason_number why) ≡ why
reason-told ShortFile e = refl
reason-told WrongCount e = refl
reason-told WrongCell e = refl
reason-told WrongMatch e = refl
reason-told WrongAction e = refl
reason-told WrongNode e = refl
reason-told ExtraWords e = refl
reason-told NoTree e = refl
reason-told WrongSum e = refl
reason-told (LawBroken f) e = let z : ◌≡◌ {A = ℕ} 0 1 = cc in absurd (omega arith)
reason-told WrongPacket e = refl
reason-told NoRoom e = refl
reason-told NoScratch e = refl
reason-told WrongTable e = refl
reason-told WrongRow e = refl
reason-told ShortBuffer e = refl
reason-told WrongInput e = refl
reason-told WrongCapture e = refl
reason-told ShortAnswers e = refl
reason-told WrongBytes e = refl

-- the number and the place of a refusal without a law are all of it
pub plain-told : (r s : Refusal) → failure_of r.reason ≡ None → failure_of s.reason ≡ None → refusal_number r ≡ refusal_number s → r.place ≡ s.place → r ≡ s
plain-told r s p q n at =
    ap₂ refusal_at (sym (reason-told r.reason p) ∙ ap reason_of n ∙ reason-told s.reason q) at
