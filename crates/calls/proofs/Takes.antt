-- What was taken in parts, one behind the other. Assumes nothing.
use Rattle.std.proofs.Common.{◌≡◌, refl, sym, ap, ◌∙◌, subst, ℕ, ◌<◌, ◌≤◌, List, [], length, take, drop, Some, None, IsSome, IsNone, is_some, arith, IfSome}
use Rattle.std.proofs.Common.{take_all, length-take-le, le-leb, Option, option_map}
use Rattle.std.proofs.lemmas.Option.{none-some, same_Some}
use borrow.Author.Tests.{lt-leb}
use Rattle.logic.proofs.Tests.{by_le}
use Rattle.streams.proofs.Filled.{read-bytes, read-left}
use Rattle.streams.specs.declared.input.Input.{Input}
use Rattle.streams.specs.Input.{left, read_failure, ReadsBytes, Fills}
use Rattle.calls.specs.Taken.{found, then_in, bytes_in, word_in, at_most, body_in, call_in, TakenFrom, Takes, Answers}
use Rattle.calls.specs.Calls.{Call, reply_of}

-- a read failed, or none did
pub failed_or : {E : Type 0} {P : Type 0} (o : Option E) → (IsSome o → P) → (IsNone o → P) → P
failed_or None f g = g refl
failed_or (Some e) f g = f refl

-- nothing was found, so nothing is found behind it
none-then : {A B : Type 0} (o : Option A × List ℕ) (f : A → List ℕ → Option B × List ℕ) (rest : Option (List ℕ)) → TakenFrom o rest None
    → TakenFrom (then_in o f) rest None
none-then (None, behind) f rest p = (refl, p.1)
none-then (Some x, behind) f rest p = absurd (none-some x p.0)

-- one part was found, and then what is found behind it
some-then : {A B : Type 0} (o : Option A × List ℕ) (f : A → List ℕ → Option B × List ℕ) (x : A) (t : Option B) (rest after : Option (List ℕ))
    → TakenFrom o rest (Some x) → ((behind : List ℕ) → rest ≡ Some behind → TakenFrom (f x behind) after t) → TakenFrom (then_in o f) after t
some-then (None, behind) f x t rest after p q = absurd (none-some x (sym p.0))
some-then {A} {B} (Some y, behind) f x t rest after p q =
    subst (λ (z : A). TakenFrom (f z behind) after t) (same_Some x y p.0) (q behind p.1)

-- what was found, as a function has it
map-found : {A B : Type 0} (o : Option A × List ℕ) (f : A → B) (t : Option A) (rest : Option (List ℕ)) → TakenFrom o rest t
    → TakenFrom (found f o) rest (option_map f t)
map-found o f t rest p = (ap (option_map f) p.0, p.1)

-- so many bytes are there, or fewer
full : (all buf : List ℕ) (rest : Option (List ℕ)) → buf ≡ take (length buf) all → rest ≡ Some (drop (length buf) all)
    → TakenFrom (bytes_in (length buf) all) rest (Some buf)
unfolding bytes_in
full all buf rest e r =
    by_le (length buf) (length all)
    (λ h. rw (le-leb (length buf) (length all) h) (ap Some e, r))
    (λ h. absurd (omega (arith, ap length (e ∙ take_all (length buf) all (omega arith)))))

short : (all buf : List ℕ) (rest : Option (List ℕ)) (m : ℕ) → take m buf ≡ take (length buf) all → rest ≡ Some (drop (length buf) all)
    → m < length buf → TakenFrom (bytes_in (length buf) all) rest None
unfolding bytes_in
short all buf rest m e r h =
    by_le (length buf) (length all)
    (λ l. absurd (omega (arith, ap length e, length-take-le m buf (omega arith), length-take-le (length buf) all l)))
    (λ l. rw (lt-leb (length buf) (length all) l) (refl, r))

none-map : {A B : Type 0} (f : A → B) (t : Option A) → IsNone t → IsNone (option_map f t)
none-map f None h = h
none-map f (Some x) h = absurd (cc)

module _ {R : Type 0} (remaining : R → Option (List ℕ)) where
  -- nothing was taken, so nothing is taken behind it
  pub takes_none : {A B : Type 0} (find : List ℕ → Option A × List ℕ) (f : A → List ℕ → Option B × List ℕ) (a b : Input R) (t : Option B)
      → t ≡ None → Takes remaining find a b None → Takes remaining (λ all. then_in (find all) f) a b t
  takes_none {A} {B} find f a b t e p =
      let none : Option B = None in
      let q : Takes remaining (λ all. then_in (find all) f) a b none = record {
        known = λ all e h. none-then (find all) f (left remaining b) (p.known all e h);
        failed = λ _. refl;
      } in
      subst (λ (r : Option B). Takes remaining (λ all. then_in (find all) f) a b r) (sym e) q

  -- one part, and then what is behind it
  pub takes_then : {A B : Type 0} (find : List ℕ → Option A × List ℕ) (f : A → List ℕ → Option B × List ℕ) (a b c : Input R) (x : A) (t : Option B)
      → Takes remaining find a b (Some x) → Takes remaining (f x) b c t → Takes remaining (λ all. then_in (find all) f) a c t
  takes_then find f a b c x t p q = record {
    known = λ all e h.
        failed_or (read_failure b)
        (λ k. absurd (let n : IsNone (Some x) = p.failed k in cc))
        (λ k. some-then (find all) f x t (left remaining b) (left remaining c) (p.known all e k) (λ behind d. q.known behind d h));
    failed = q.failed;
  }

  -- what was taken, as a function has it
  pub takes_found : {A B : Type 0} (find : List ℕ → Option A × List ℕ) (f : A → B) (a b : Input R) (t : Option A) (u : Option B)
      → u ≡ option_map f t → Takes remaining find a b t → Takes remaining (λ all. found f (find all)) a b u
  takes_found {A} {B} find f a b t u e p =
      let q : Takes remaining (λ all. found f (find all)) a b (option_map f t) = record {
        known = λ all d h. map-found (find all) f t (left remaining b) (p.known all d h);
        failed = λ k. none-map f t (p.failed k);
      } in
      subst (λ (r : Option B). Takes remaining (λ all. found f (find all)) a b r) (sym e) q

  -- a number that is no more than so much, and one that is
  pub takes_most : (find : List ℕ → Option ℕ × List ℕ) (most n : ℕ) (a b : Input R) → n ≤ most → Takes remaining find a b (Some n)
      → Takes remaining (λ all. then_in (find all) (at_most most)) a b (Some n)
  takes_most find most n a b h p = record {
    known = λ all e k.
        some-then (find all) (at_most most) n (Some n) (left remaining b) (left remaining b) (p.known all e k)
        (λ behind d. rw (le-leb n most h) (refl, d));
    failed = p.failed;
  }

  pub takes_more : (find : List ℕ → Option ℕ × List ℕ) (most n : ℕ) (a b : Input R) → most < n → Takes remaining find a b (Some n)
      → Takes remaining (λ all. then_in (find all) (at_most most)) a b None
  takes_more find most n a b h p = record {
    known = λ all e k.
        some-then (find all) (at_most most) n None (left remaining b) (left remaining b) (p.known all e k)
        (λ behind d. rw (lt-leb n most h) (refl, d));
    failed = λ _. refl;
  }

  -- what was read, where the bytes that the input had are known
  reads : (a b : Input R) (buf all : List ℕ) (n : Option ℕ) (m : ℕ) → Fills remaining a b buf n → n ≡ Some m → left remaining a ≡ Some all
      → ReadsBytes (Some all) (left remaining b) buf m
  reads a b buf all n m p e d =
      subst (λ (o : Option (List ℕ)). ReadsBytes o (left remaining b) buf m) d
      (subst (λ (o : Option ℕ). IfSome o (ReadsBytes (left remaining a) (left remaining b) buf)) e p.reads.read)

  -- a buffer that was filled, and one that was not, since the bytes end before
  pub takes_full : (a b : Input R) (buf : List ℕ) (n : Option ℕ) (m : ℕ) → Fills remaining a b buf n → n ≡ Some m → length buf ≤ m
      → Takes remaining (bytes_in (length buf)) a b (Some buf)
  takes_full a b buf n m p e h = record {
    known = λ all d k.
        let r = reads a b buf all n m p e d in
        full all buf (left remaining b) (sym (take_all m buf h) ∙ read-bytes all (left remaining b) buf m r) (read-left all (left remaining b) buf m r);
    failed = λ k. absurd (let i : IsNone (Some m) = subst (λ (o : Option ℕ). IsNone o) e (p.reads.failed.1 k) in cc);
  }

  pub takes_short : (a b : Input R) (buf : List ℕ) (n : Option ℕ) (m : ℕ) → Fills remaining a b buf n → n ≡ Some m → m < length buf
      → Takes remaining (bytes_in (length buf)) a b None
  takes_short a b buf n m p e h = record {
    known = λ all d k.
        let r = reads a b buf all n m p e d in
        short all buf (left remaining b) m (read-bytes all (left remaining b) buf m r) (read-left all (left remaining b) buf m r) h;
    failed = λ _. refl;
  }

  -- no call was taken, so no reply was given
  pub answers_none : {A S T : Type 0} (gives : S → List ℕ → S → Type 0) (find : List ℕ → Option A × List ℕ) (f : A → Call) (a b : Input R) (s : S)
      (r : Option T)
      → gives s [] s → r ≡ None → Takes remaining find a b None → Answers remaining gives (λ all. found f (find all)) a b s s r
  answers_none gives find f a b s r h e p = record {
    call = None;
    taken = takes_found find f a b None None refl p;
    given = h;
    told = ap is_some e;
  }

  -- one was, and its reply was given
  pub answers_some : {A S T : Type 0} (gives : S → List ℕ → S → Type 0) (find : List ℕ → Option A × List ℕ) (f : A → Call) (a b : Input R) (s t : S)
      (x : A) (u : T)
      → Takes remaining find a b (Some x) → gives s (reply_of (f x)) t → Answers remaining gives (λ all. found f (find all)) a b s t (Some u)
  answers_some gives find f a b s t x u p h = record {
    call = Some (f x);
    taken = takes_found find f a b (Some x) (Some (f x)) refl p;
    given = h;
    told = refl;
  }

  -- what stands behind a call's number was answered
  pub answers_number : {S T : Type 0} (gives : S → List ℕ → S → Type 0) (a b c : Input R) (s t : S) (w n : ℕ) (r : Option T)
      → Takes remaining word_in a b (Some w) → w ≡ n → Answers remaining gives (body_in n) b c s t r → Answers remaining gives call_in a c s t r
  unfolding call_in
  answers_number gives a b c s t w n r p e q = record {
    call = q.call;
    taken = takes_then word_in body_in a b c n q.call (subst (λ (v : ℕ). Takes remaining word_in a b (Some v)) e p) q.taken;
    given = q.given;
    told = q.told;
  }

  -- there was no number, or none of a call
  pub answers_no_number : {S T : Type 0} (gives : S → List ℕ → S → Type 0) (a b : Input R) (s : S) (r : Option T)
      → gives s [] s → r ≡ None → Takes remaining word_in a b None → Answers remaining gives call_in a b s s r
  unfolding call_in
  answers_no_number gives a b s r h e p = record {
    call = None;
    taken = takes_none word_in body_in a b None refl p;
    given = h;
    told = ap is_some e;
  }

  pub answers_no_call : {S T : Type 0} (gives : S → List ℕ → S → Type 0) (a b : Input R) (s : S) (w : ℕ) (r : Option T)
      → gives s [] s → r ≡ None → Takes remaining word_in a b (Some w) → ((body : List ℕ) → body_in w body ≡ (None, body))
      → Answers remaining gives call_in a b s s r
  unfolding call_in
  answers_no_call gives a b s w r h e p f =
      let none : Option Call = None in
      record {
        call = none;
        taken = record {
          known = λ all d k.
              some-then (word_in all) body_in w none (left remaining b) (left remaining b) (p.known all d k)
              (λ body d. subst (λ (o : Option Call × List ℕ). TakenFrom o (left remaining b) none) (sym (f body)) (refl, d));
          failed = λ _. refl;
        };
        given = h;
        told = ap is_some e;
      }

-- a part with what is behind it, and a count
pub ruleset parts = (takes_none, takes_then, takes_found)

pub ruleset counts = (takes_none, takes_most, takes_more)
