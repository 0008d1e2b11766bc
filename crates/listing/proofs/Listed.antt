-- What is listed of a buffer that holds the first bytes of an input, and what is left of it.
use Rattle.std.proofs.Common.{◌≡◌, ◌∙◌, ap, List, ℕ, length, take, drop, None, Some, IfSome, subst, Option}
use Rattle.streams.specs.Input.{ReadsBytes}
use Rattle.streams.proofs.Filled.{read-bytes, read-left}
use Rattle.text.specs.declared.TheConstants.{INPUT_ROOM}
use Rattle.text.specs.Listing.{listing_of}
use Rattle.text.proofs.Lists.{known-by-room}

-- the listing of the input, since the buffer takes a byte more than any that is listed has
pub listed : (known after : Option (List ℕ)) (buf : List ℕ) (n : ℕ) (P : List ℕ → Type 0) → ReadsBytes known after buf n → length buf ≡ INPUT_ROOM
    → P (listing_of (take n buf)) → IfSome known (λ all. P (listing_of all))
listed None after buf n P p e q = tt
listed (Some all) after buf n P p e q = subst P (ap listing_of (read-bytes all after buf n p ∙ ap (λ i. take i all) e) ∙ known-by-room all) q

-- the bytes behind those that the buffer takes are left
pub others : (known after : Option (List ℕ)) (buf : List ℕ) (n : ℕ) → ReadsBytes known after buf n → length buf ≡ INPUT_ROOM
    → IfSome known (λ all. after ≡ Some (drop INPUT_ROOM all))
others None after buf n p e = tt
others (Some all) after buf n p e = read-left all after buf n p ∙ ap (λ i. Some (drop i all)) e
