-- What a caller knows of a filled buffer where the bytes that the reader had left are known. Assumes nothing.
use Rattle.std.proofs.Common.{◌≡◌, List, [], ◌++◌, ℕ, ◌≤◌, ◌⊎◌, length, take, drop, None, Some, sym, ap, ◌∙◌, append-nil, inl, inr}
use Rattle.std.proofs.lemmas.List.{take_all, length-take-le, drop_all}
use lib.Seq.{take-append_seam, drop-append_seam}
use Rattle.std.specs.declared.option.Option.{Option}
use Rattle.streams.specs.Input.{ReadsBytes}

-- the bytes and what is left, of bytes of which the first were read: as many as a buffer takes, or all
parted : (all xs rest : List ℕ) (n m : ℕ) → all ≡ xs ++ rest → length xs ≡ n → n ≤ m → (n ≡ m) ⊎ (rest ≡ []) → (xs ≡ take m all) × (rest ≡ drop m all)
parted all xs rest n m e size within (inl f) =
    let at = sym (size ∙ f) in (
      sym (ap (take m) e ∙ ap (λ i. take i (xs ++ rest)) at ∙ take-append_seam xs rest),
      sym (ap (drop m) e ∙ ap (λ i. drop i (xs ++ rest)) at ∙ drop-append_seam xs rest),
    )
parted all xs rest n m e size within (inr f) =
    let same : all ≡ xs = e ∙ ap (λ l. xs ++ l) f ∙ append-nil xs in
    let short : length all ≤ m = rw same (rw size within) in
    (sym (take_all m all short ∙ same), f ∙ sym (drop_all m all short))

-- the first bytes that the reader had left were read, as many as the buffer takes
pub read-bytes : (all : List ℕ) (after : Option (List ℕ)) (buf : List ℕ) (n : ℕ) → ReadsBytes (Some all) after buf n → take n buf ≡ take (length buf) all
read-bytes all None buf n p = absurd p.bytes
read-bytes all (Some rest) buf n p = (parted all (take n buf) rest n (length buf) p.bytes (length-take-le n buf p.within) p.within p.end).0

-- the others are left
pub read-left : (all : List ℕ) (after : Option (List ℕ)) (buf : List ℕ) (n : ℕ) → ReadsBytes (Some all) after buf n → after ≡ Some (drop (length buf) all)
read-left all None buf n p = absurd p.bytes
read-left all (Some rest) buf n p = ap Some (parted all (take n buf) rest n (length buf) p.bytes (length-take-le n buf p.within) p.within p.end).1
