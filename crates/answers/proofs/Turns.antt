-- The turns of the loop that answers call after call. Assumes nothing.
use Rattle.std.proofs.Common.{◌≡◌, refl, sym, ap, ◌∙◌, subst, arith, ℕ, ◌+◌, ◌-◌, ◌^◌, ◌<◌, ◌≤◌, Bool, true, false, ◌&&◌, List, [], ◌++◌, append_assoc}
use Rattle.std.proofs.Common.{append-nil, length, take, Some, None, IsNone, is_some, is_none, Option, IfSome, take_all, take_at}
use Rattle.std.proofs.lemmas.Option.{none-some, same_Some}
use Rattle.std.proofs.lemmas.List.{take-append-le}
use Rattle.std.specs.Io.KnownBytes.{Appends}
use Rattle.logic.proofs.Tests.{by_le}
use Rattle.streams.specs.declared.input.Input.{Input}
use Rattle.streams.specs.declared.output.Output.{Output}
use Rattle.streams.specs.Parts.{AppendsStart}
use Rattle.streams.specs.Input.{read_failure, left}
use Rattle.streams.specs.Output.{write_failure, held, waiting, given, Gives, HandsOn}
use Rattle.streams.specs.OutputSink.{gives-none, gives-then}
use Rattle.streams.proofs.Handed.{hands_on-then, hands_on-whole, gives-start}
use Rattle.calls.specs.Calls.{Call, reply_of}
use Rattle.calls.specs.Taken.{call_in, TakenFrom, reply_to}
use Rattle.calls.specs.Session.{replies_then, session}
use Rattle.calls.proofs.Takes.{failed_or}
use Rattle.calls.proofs.Sessions.{call-shorter, session-step, session-none}
use Rattle.answers.specs.Answered.{Turn, Turned, no_turn, one_more, TurnsOut, stopped, used_up, AnswersAll}

-- what is known where the bytes are
if_known : {T : Type 0} (o : Option T) (P : T → Type 0) → ((x : T) → o ≡ Some x → P x) → IfSome o P
if_known None P f = tt
if_known (Some x) P f = f x refl

-- a start of a text is one of a longer text
start-longer : (a b : Option (List ℕ)) (y tail : List ℕ) → AppendsStart a b y → AppendsStart a b (y ++ tail)
start-longer a b y tail p =
    by_le p.0 (length y)
    (λ h. (p.0, subst (λ (l : List ℕ). Appends a b l) (sym (take-append-le p.0 y tail h)) p.1))
    (λ h.
    let e : take p.0 y ≡ take (length y) (y ++ tail) = take_all p.0 y (omega arith) ∙ sym (take_at y tail (length y) refl) in
    (length y, subst (λ (l : List ℕ). Appends a b l) e p.1))

-- where the bytes of the input are known: all of them, the replies so far, what is left, and how many turns there were
pub record Reached (all replies : List ℕ) (now : Option (List ℕ)) (turns : ℕ) : Type 0 where
  pub rest : List ℕ
  pub left : now ≡ Some rest
  pub answered : session all ≡ replies ++ session rest
  pub shorter : length rest + turns ≤ length all

-- a call that was found, and its reply
reached-more : (all replies rest : List ℕ) (now : Option (List ℕ)) (turns : ℕ) (call : Call) (o : Option Call × List ℕ) → call_in rest ≡ o
    → session all ≡ replies ++ session rest → length rest + turns ≤ length all → TakenFrom o now (Some call)
    → Reached all (replies ++ reply_of call) now (turns + 1)
reached-more all replies rest now turns call (None, behind) e a l p = absurd (none-some call (sym p.0))
reached-more all replies rest now turns call (Some found, behind) e a l p =
    record {
      rest = behind;
      left = p.1;
      answered =
          a
          ∙ ap (λ r. replies ++ r) (session-step rest ∙ ap (λ o. replies_then o session) e)
          ∙ ap (λ x. replies ++ (reply_of x ++ session behind)) (sym (same_Some call found p.0))
          ∙ sym (append_assoc replies (reply_of call) (session behind));
      shorter = omega (arith, call-shorter rest behind found e);
    }

-- none was found, and there is no more reply
no_more : (rest : List ℕ) (now : Option (List ℕ)) (o : Option Call × List ℕ) → call_in rest ≡ o → TakenFrom o now None → session rest ≡ []
no_more rest now (None, behind) e p = session-step rest ∙ ap (λ o. replies_then o session) e
no_more rest now (Some call, behind) e p = absurd (none-some call p.0)

module _ {R W : Type 0} (remaining : R → Option (List ℕ)) (contents : W → Option (List ℕ)) where
  -- so many calls were taken, and their replies given
  pub record Replied (a b : Input R) (s t : Output W) (turns : ℕ) : Type 0 where
    pub replies : List ℕ
    pub gives : Gives contents s replies t
    pub flushed : 0 < turns → IsNone (write_failure t) → waiting t ≡ []
    pub known : (all : List ℕ) → left remaining a ≡ Some all → Reached all replies (left remaining b) turns

  -- so many turns were made, behind each of which it went on
  pub record Going (a b : Input R) (s t : Output W) (turns : ℕ) : Type 0 where
    pub turned : Turned remaining contents a s turns b t
    pub replied : Replied a b s t turns

  pub going-none : (a : Input R) (s : Output W) → Going a a s s 0
  going-none a s = record {
    turned = no_turn;
    replied = record {
      replies = [];
      gives = gives-none contents s;
      flushed = λ h. absurd (omega arith);
      known = λ all e. record { rest = all; left = e; answered = refl; shorter = omega arith };
    };
  }

  -- a turn that took a call
  took : (a b c : Input R) (s t u : Output W) (turns : ℕ) (on : Bool) (call : Call) → Replied a b s t turns → (q : Turn remaining contents b c t u on)
      → q.call ≡ Some call
      → Replied a c s u (turns + 1)
  took a b c s t u turns on call p q e = record {
    replies = p.replies ++ reply_of call;
    gives = gives-then contents s t u p.replies (reply_of call) p.gives (subst (λ (o : Option Call). Gives contents t (reply_to o) u) e q.handed.gives);
    flushed = λ _ h. q.handed.nothing_waits h;
    known = λ all d.
        let k = p.known all d in
        let well : IsNone (read_failure c) =
        failed_or (read_failure c) (λ f. absurd (let n : IsNone (Some call) = subst (λ (o : Option Call). IsNone o) e (q.taken.failed f) in cc)) (λ f. f) in
        reached-more all p.replies k.rest (left remaining c) turns call (call_in k.rest) refl k.answered k.shorter
        (subst (λ (o : Option Call). TakenFrom (call_in k.rest) (left remaining c) o) e (q.taken.known k.rest k.left well));
  }

  -- what was answered, by how far the turns came
  ends : (a c : Input R) (s u : Output W) (replies : List ℕ) → TurnsOut remaining contents a s c u → HandsOn contents s replies u
      → ((all : List ℕ) → left remaining a ≡ Some all → (tail : List ℕ) × (session all ≡ replies ++ tail)
      × (IsNone (read_failure c) → IsNone (write_failure u) → length all < 2 ^ 64 → tail ≡ []))
      → AnswersAll remaining contents a c s u
  ends a c s u replies o p f = record {
    turns = o;
    whole = λ r w.
        if_known (left remaining a) (λ all. length all < 2 ^ 64 → Appends (given contents s) (held contents u) (session all))
        (λ all e h.
        let k = f all e in
        let d : replies ≡ session all = sym (k.1 ∙ ap (λ l. replies ++ l) (k.2 r w h) ∙ append-nil replies) in
        subst (λ (l : List ℕ). Appends (given contents s) (held contents u) l) d (hands_on-whole contents s u replies p w));
    start =
        if_known (left remaining a) (λ all. AppendsStart (held contents s) (held contents u) (waiting s ++ session all))
        (λ all e.
        let k = f all e in
        let d : (waiting s ++ replies) ++ k.0 ≡ waiting s ++ session all = append_assoc (waiting s) replies k.0 ∙ ap (λ l. waiting s ++ l) (sym k.1) in
        subst (λ (l : List ℕ). AppendsStart (held contents s) (held contents u) l) d
        (start-longer (held contents s) (held contents u) (waiting s ++ replies) k.0 (gives-start contents s u replies p.gives)));
  }

  -- the turns were used up, which no run does
  pub going-all : (a b : Input R) (s t : Output W) (turns : ℕ) → Going a b s t turns → turns ≡ 2 ^ 64 - 1 → AnswersAll remaining contents a b s t
  going-all a b s t turns g h =
      let p = g.replied in
      ends a b s t p.replies (used_up (subst (λ (n : ℕ). Turned remaining contents a s n b t) h g.turned))
      (record { gives = p.gives; nothing_waits = p.flushed (omega arith) })
      (λ all e. let k = p.known all e in (session k.rest, k.answered, λ _ _ l. session-none k.rest (omega (arith, k.shorter))))

  -- the last turn: there was no call, or a write failed
  last : (a b c : Input R) (s t u : Output W) (turns : ℕ) (o : Option Call) → Going a b s t turns → (q : Turn remaining contents b c t u false) → q.call ≡ o
      → AnswersAll remaining contents a c s u
  last a b c s t u turns None g q e =
      let p = g.replied in
      ends a c s u (p.replies ++ []) (stopped g.turned q) (hands_on-then contents s t u p.replies [] p.gives
      (subst (λ (o : Option Call). HandsOn contents t (reply_to o) u) e q.handed))
      (λ all d.
      let k = p.known all d in (
        session k.rest,
        k.answered ∙ ap (λ l. l ++ session k.rest) (sym (append-nil p.replies)),
        λ r _ _. no_more k.rest (left remaining c) (call_in k.rest) refl
            (subst (λ (o : Option Call). TakenFrom (call_in k.rest) (left remaining c) o) e (q.taken.known k.rest k.left r)),
      ))
  last a b c s t u turns (Some call) g q e =
      let p = took a b c s t u turns false call g.replied q e in
      ends a c s u p.replies (stopped g.turned q) (record { gives = p.gives; nothing_waits = p.flushed (omega arith) })
      (λ all d.
      let k = p.known all d in (
        session k.rest,
        k.answered,
        λ _ w _.
            let f : false ≡ is_none (write_failure u) = subst (λ (o : Option Call). false ≡ (is_some o && is_none (write_failure u))) e q.told in
            absurd (well_known (write_failure u) w f),
      ))
    where
      well_known : {E : Type 0} (o : Option E) → IsNone o → false ≡ is_none o → ⊥
      well_known None h f = cc
      well_known (Some x) h f = cc

  pub going-last : (a b c : Input R) (s t u : Output W) (turns : ℕ) → Going a b s t turns → Turn remaining contents b c t u false
      → AnswersAll remaining contents a c s u
  going-last a b c s t u turns p q = last a b c s t u turns q.call p q refl

  -- a turn behind which it goes on
  more : (a b c : Input R) (s t u : Output W) (turns : ℕ) (o : Option Call) → Going a b s t turns → (q : Turn remaining contents b c t u true)
      → q.call ≡ o → Going a c s u (turns + 1)
  more a b c s t u turns None g q e = absurd (let f : true ≡ false = subst
      (λ (o : Option Call). true ≡ (is_some o && is_none (write_failure u))) e q.told in cc)
  more a b c s t u turns (Some call) g q e = record {
    turned = one_more g.turned q;
    replied = took a b c s t u turns true call g.replied q e;
  }

  pub going-more : (a b c : Input R) (s t u : Output W) (turns : ℕ) → Going a b s t turns → Turn remaining contents b c t u true → Going a c s u (turns + 1)
  going-more a b c s t u turns p q = more a b c s t u turns q.call p q refl
