-- What the listing prints: the listing's scratch is long enough, so 13 is not given.
use Rattle.std.proofs.Common.{ℕ, ◌*◌, ◌≤◌, arith, ◌≡◌, refl, sym, subst, true, List, ◌⊎◌, inl, inr, ⊎_elim, length, Result, Ok, Err}
use lib.ListN.{length-replicate}
use Rattle.logic.proofs.Tests.{by-test}
use Rattle.words.specs.Bytes.{words_in}
use Rattle.row.specs.Row.{row_length}
use Rattle.refusal.specs.Refusals.{reason_number, refusal_number}
use Rattle.refusal.specs.declared.Reason.TheVariants.{NoRoom, WrongInput}
use Rattle.refusal.specs.declared.Refusal.{Refusal}
use Rattle.compile.specs.Compile.{room, answer_of}
use Rattle.compile.proofs.Ordered.{by-order, no_value}
use Rattle.text.specs.Listing.{right_input, blank, listing_of}
use Rattle.show.specs.Sheet.{listing_room}
use Rattle.text.proofs.Lists.{lists-rows, lists-refused, refused-input}
use Rattle.promises.specs.Told.{between}
use Rattle.promises.specs.Prints.{PrintsRows, PrintsRefusal, EveryListing}
use Rattle.promises.proofs.FixedAnswers.{file-number, same_number}

-- the numbers of a compile with scratch enough
scratch-number : (f t s : List ℕ) (r : Refusal) → row_length * room (length t) ≤ length s → answer_of f t s ≡ Err r
    → between 1 10 (refusal_number r) ⊎ (refusal_number r ≡ reason_number NoRoom)
scratch-number f t s r h =
    by-order f t s (λ x t' s'. x ≡ Err r → between 1 10 (refusal_number r) ⊎ (refusal_number r ≡ reason_number NoRoom))
    (λ r' e q. inl (subst (between 1 10) (same_number q) (file-number f r' e)))
    (λ l e short q. absurd (omega (arith, h, short)))
    (λ l e enough full q. inr (sym (same_number q)))
    (λ l e enough fits q. no_value q)

-- and so of a compile in the listing's buffers
listed-number : (f : List ℕ) (r : Refusal) → answer_of f blank blank ≡ Err r → between 1 10 (refusal_number r) ⊎ (refusal_number r ≡ reason_number NoRoom)
listed-number f r =
    let k : length blank ≡ row_length * listing_room = length-replicate {A = ℕ} (row_length * listing_room) 0 in
    scratch-number f blank blank r (omega arith)

pub every_listing : EveryListing
unfolding listing_of
every_listing b = by-test (right_input b)
    (λ t. by_answer t (answer_of (words_in b) blank blank) refl)
    (λ t. inr (record { number = reason_number WrongInput; place = 0; one_of = inr (inr refl); text = refused-input b t }))
  where
    by_answer : right_input b ≡ true → (x : Result ℕ Refusal) → answer_of (words_in b) blank blank ≡ x → PrintsRows b ⊎ PrintsRefusal b
    by_answer t (Ok n) e = inl (record { right = t; count = n; compiled = e; listed = lists-rows (words_in b) n e; text = rw t refl })
    by_answer t (Err r) e = inr (record {
      number = (refusal_number r);
      place = r.place;
      one_of = ⊎_elim (λ h. inl h) (λ h. inr (inl h)) (listed-number (words_in b) r e);
      text = rw t (lists-refused (words_in b) r e);
    })
