-- That each value that is put in as words has as many words as it is to have.
use Rattle.std.specs.Prelude.{ℕ, suc, ◌≡◌, [], ◌∷◌, refl, length, Some, None}
use Rattle.std.proofs.Common.{ap}
use Rattle.std.specs.declared.option.Option.{Option}
use Rattle.action.specs.declared.Action.{Action}
use Rattle.action.specs.declared.LawFailure.{LawFailure}
use Rattle.action.specs.declared.LawFailure.TheVariants.{Commutativity, Associativity}
use Rattle.refusal.specs.Refusals.{failure_of}
use Rattle.refusal.specs.declared.Refusal.{Refusal}
use Rattle.policy.specs.declared.Layout.{Layout}
use Rattle.table.specs.declared.Found.{Found}
use Rattle.calls.specs.declared.replies.TableRefusal.{TableRefusal}
use Rattle.calls.specs.Replies.{action_width, failure_width, table_refusal_width, refusal_width, layout_width, found_width}
use Rattle.calls.specs.Replies.{action_words, failure_words, broken_words, table_refusal_words, refusal_words}
use Rattle.calls.specs.Replies.{layout_words, found_words}

-- an action
pub action-wide : (a : Action) → length (action_words a) ≡ action_width
action-wide a = refl

-- a broken law
pub failure-wide : (f : LawFailure) → length (failure_words f) ≡ failure_width
unfolding failure_words
failure-wide (Commutativity a b) = refl
failure-wide (Associativity a b c) = refl

-- that of a refusal, or the zeros in its place
broken-wide : (o : Option LawFailure) → length (broken_words o) ≡ failure_width
unfolding broken_words
broken-wide (Some f) = failure-wide f
broken-wide None = refl

-- a refusal of a table
pub table_refusal-wide : (r : TableRefusal) → length (table_refusal_words r) ≡ table_refusal_width
table_refusal-wide r = refl

-- a refusal of a file
pub refusal-wide : (r : Refusal) → length (refusal_words r) ≡ refusal_width
unfolding refusal_words
refusal-wide r = ap (λ n. suc (suc n)) (broken-wide (failure_of r.reason))

-- the counts of a file
pub layout-wide : (l : Layout) → length (layout_words l) ≡ layout_width
layout-wide l = refl

-- what a scan found
pub found-wide : (f : Found) → length (found_words f) ≡ found_width
found-wide f = refl

-- a word, as a count of rows or of priorities is
pub word-wide : (n : ℕ) → length (n ∷ []) ≡ 1
word-wide n = refl
