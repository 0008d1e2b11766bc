-- Right matches keep what is asked of lying inside, since it is by meaning for them. Assumes nothing.
use Rattle.std.proofs.Common.{◌≡◌, true, false, ◌&&◌}
use Rattle.logic.proofs.Tests.{and_left, and_right, and_both, same_test}
use Rattle.flow.specs.Match.{meets, inside, common, is_empty, right_match}
use Rattle.flow.specs.declared.Match.{Match}
use Rattle.flow.proofs.Laws.{meets-common, common-right}
use Rattle.flow.proofs.Tests.{meets-empty}
use Rattle.flow.proofs.Inside.{inside-meets, inside-trans, inside-exactly}
use Rattle.origins.specs.Marked.{InsideLaws}

-- a right match lies inside the common match of right ones exactly when it lies inside both
inside-common : (l m n : Match) → right_match l ≡ true → right_match m ≡ true → right_match n ≡ true
    → inside l (common m n) ≡ (inside l m && inside l n)
inside-common l m n rl rm rn =
    let rc : right_match (common m n) ≡ true = common-right m n rm rn in
    same_test (inside l (common m n)) (inside l m && inside l n)
    (λ e. and_both
    ((inside-exactly l m rl rm).1 (λ p h f. and_left (meets m p) (meets n p) (rw (← meets-common m n p) (inside-meets l (common m n) p e f))))
    ((inside-exactly l n rl rn).1 (λ p h f. and_right (meets m p) (meets n p) (rw (← meets-common m n p) (inside-meets l (common m n) p e f)))))
    (λ e. (inside-exactly l (common m n) rl rc).1
    (λ p h f. rw (meets-common m n p)
    (and_both (inside-meets l m p (and_left (inside l m) (inside l n) e) f) (inside-meets l n p (and_right (inside l m) (inside l n) e) f))))

-- a match that is not empty lies inside no empty one
inside-empty : (l m : Match) → is_empty l ≡ false → is_empty m ≡ true → inside l m ≡ false
unfolding inside
inside-empty l m e f = rw (e, f)

pub match-laws : InsideLaws meets inside common is_empty (λ m. right_match m ≡ true)
match-laws = record {
  meets_common = meets-common;
  meets_empty = meets-empty;
  common_right = common-right;
  inside_itself = λ m r. (inside-exactly m m r r).1 (λ p h e. e);
  inside_common = λ l m n rl e rm rn. inside-common l m n rl rm rn;
  inside_empty = inside-empty;
  encloses = inside-meets;
  nests = inside-trans;
}
