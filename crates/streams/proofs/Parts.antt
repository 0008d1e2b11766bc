-- What reads leave in a buffer and what writes take of one, one part behind the other. Assumes nothing.
use Rattle.std.proofs.Common.{◌≡◌, sym, ap, ◌∙◌, arith, List, ◌++◌, ℕ, ◌+◌, ◌-◌, ◌≤◌, length, take, drop}
use Rattle.std.proofs.Math.Seq.{take-add, take-append-add}
use Rattle.std.proofs.lemmas.List.{length-drop, length-take-le, take_all, take-append-le}
use Rattle.std.proofs.KnownBytes.{Consumes-trans, Consumes-kept, Appends-trans}
use borrow.Rule.Slice.PartMut.{put_mid, post_of}

-- where it stands
pub part_read : (a k n : ℕ) (xs ys : List ℕ) → a ≤ length xs → n ≤ length ys → take (a + n) (put_mid a k xs ys) ≡ take a xs ++ take n ys
part_read a k n xs ys h g =
    let e : length (take a xs) ≡ a = length-take-le a xs h in
    ap (λ i. take (i + n) (put_mid a k xs ys)) (sym e)
    ∙ take-append-add (take a xs) (ys ++ post_of a k xs) n
    ∙ ap (λ l. take a xs ++ l) (take-append-le n ys (post_of a k xs) g)

-- what is taken of the rest
pub part_written : (a n : ℕ) (xs : List ℕ) → take (a + n) xs ≡ take a xs ++ take n (take (length xs - a) (drop a xs))
part_written a n xs =
    let e : length (drop a xs) ≤ length xs - a = rw (length-drop a xs) (omega arith) in
    take-add a n xs ∙ ap (λ l. take a xs ++ take n l) (sym (take_all (length xs - a) (drop a xs) e))

-- one part more
pub ruleset reads = (part_read, Consumes-trans, Consumes-kept)

pub ruleset writes = (part_written, Appends-trans)
