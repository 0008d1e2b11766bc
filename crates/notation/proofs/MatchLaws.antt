-- Matches are read exactly where they are written.
--
--   Quiet w    the word w goes on with no match: it starts no part, and is not the word before a port
use Rattle.std.proofs.Common.{◌≡◌, ℕ, ◌<◌, ◌+◌, Bool, true, false, List, [], ◌++◌, Option, Some, None, Ok, length, refl, sym, subst, ◌∙◌, append_assoc, arith}
use Rattle.std.specs.Prelude.{bytes_eq, is_some, ◌||◌}
use Rattle.std.proofs.lemmas.List.{length-append}
use Rattle.tokens.specs.Tokens.{Token, word, next, is}
use Rattle.tokens.specs.Theorems.{OneEnd}
use Rattle.flow.specs.declared.Match.{Match}
use Rattle.flow.specs.Match as match
use Rattle.values.specs.Words.{protocol_of, is_name, is_own_word}
use Rattle.values.specs.Grammar.{IsProtocol}
use Rattle.values.specs.Grammar as value
use Rattle.values.proofs.WordLaws.{protocol-exactly}
use Rattle.notation.specs.declared.rules.Side.{Side}
use Rattle.notation.specs.Words.{any_word, never_word, in_word, protocol_word, from_word, to_word, port_word, node_word, close_mark}
use Rattle.notation.specs.Rules.{any_match, match_from, parts_at, starts_part, match_at}
use Rattle.notation.specs.Grammar.{IsOptionalPort, IsProtocolPart, IsSide, IsMatch}
use Rattle.notation.specs.Grammar as grammar
use Rattle.notation.proofs.Bind.{bound, passed, either, given}
use Rattle.notation.proofs.Took.{Took, took-then, Left, first, left-first, left-next}
use Rattle.notation.proofs.Taken.{Takes, Gets, takes-same, word-takes, differ, Other}
use Rattle.notation.proofs.PartLaws.{optional-port-part, protocol-part, side-part, starts_protocol, named-other}
use Rattle.notation.proofs.PartLaws.{optional-port-again, protocol-again, side-again}

-- ---- what is read is a match

-- one of five tests holds, or the last
by-starts : (a b c d : Bool) (m n k l : ℕ) → (a || b || c || d) ≡ true → (a ≡ true → 0 < m) → (a ≡ false → b ≡ true → 0 < n)
    → (a ≡ false → b ≡ false → c ≡ true → 0 < k) → (a ≡ false → b ≡ false → c ≡ false → d ≡ true → 0 < l) → 0 < m + (n + (k + l))
by-starts true b c d m n k l e f g h i = let z = f refl in omega arith
by-starts false true c d m n k l e f g h i = let z = g refl refl in omega arith
by-starts false false true d m n k l e f g h i = let z = h refl refl refl in omega arith
by-starts false false false true m n k l e f g h i = let z = i refl refl refl refl in omega arith
by-starts false false false false m n k l e f g h i = absurd cc

-- a protocol's two tests stand among them
starts-as : (a b c d e : Bool) → (a || b || c || d || e) ≡ (a || (b || c) || d || e)
starts-as true b c d e = refl
starts-as false b c d e = refl

-- so some words were taken
all-long : (a b c d : List (List ℕ)) → 0 < length a + (length b + (length c + length d)) → 0 < length (a ++ (b ++ (c ++ d)))
all-long a b c d h = omega (arith, length-append a (b ++ (c ++ d)), length-append b (c ++ d), length-append c d)

-- words that are not empty
long-in : 0 < length in_word
long-in = omega arith

-- the word before a source
long-from : 0 < length from_word
long-from = omega arith

-- the word before a destination
long-to : 0 < length to_word
long-to = omega arith

-- what is read as the parts of a match is one, where one of them starts here
parts-takes : (n : ℕ) (ts rest : List Token) (x : Match) → OneEnd n ts → starts_part ts ≡ true → parts_at ts ≡ Ok (x, rest)
    → Takes n ts rest (λ ws. IsMatch ws x)
unfolding parts_at starts_part
parts-takes n ts rest x e h g =
    let b = bound _ _ _ g in
    let c = bound _ _ _ b.2 in
    let d = bound _ _ _ c.2 in
    let f = bound _ _ _ d.2 in
    let i = optional-port-part n in_word ts b.0.1 b.0.0 long-in e b.1 in
    let p = protocol-part n b.0.1 c.0.1 c.0.0 i.took.ends c.1 in
    let s = side-part n from_word c.0.1 d.0.1 d.0.0 long-from p.took.ends d.1 in
    let t = side-part n to_word d.0.1 f.0.1 f.0.0 long-to s.took.ends f.1 in
    let h1 : (is in_word ts || starts_protocol (word ts) || is from_word ts || is to_word ts) ≡ true =
    sym (starts-as (is in_word ts) (is protocol_word ts) _ (is from_word ts) (is to_word ts)) ∙ h in
    let to_b : is in_word ts ≡ false → b.0.1 ≡ ts = i.none in
    let to_c : is in_word ts ≡ false → starts_protocol (word ts) ≡ false → c.0.1 ≡ ts =
    λ k1 k2. p.none (subst (λ (z : List Token). starts_protocol (word z) ≡ false) (sym (to_b k1)) k2) ∙ to_b k1 in
    let to_d : is in_word ts ≡ false → starts_protocol (word ts) ≡ false → is from_word ts ≡ false → d.0.1 ≡ ts =
    λ k1 k2 k3. s.none (subst (λ (z : List Token). is from_word z ≡ false) (sym (to_c k1 k2)) k3) ∙ to_c k1 k2 in
    let long : 0 < length i.words + (length p.words + (length s.words + length t.words)) =
    by-starts (is in_word ts) (starts_protocol (word ts)) (is from_word ts) (is to_word ts)
    (length i.words) (length p.words) (length s.words) (length t.words) h1 i.some
    (λ k1 k2. p.some (subst (λ (z : List Token). starts_protocol (word z) ≡ true) (sym (to_b k1)) k2))
    (λ k1 k2 k3. s.some (subst (λ (z : List Token). is from_word z ≡ true) (sym (to_c k1 k2)) k3))
    (λ k1 k2 k3 k4. t.some (subst (λ (z : List Token). is to_word z ≡ true) (sym (to_d k1 k2 k3)) k4)) in
    let ws1 : List (List ℕ) = s.words ++ t.words in
    let ws2 : List (List ℕ) = p.words ++ ws1 in
    let t1 : Took n c.0.1 f.0.1 ws1 = took-then n c.0.1 d.0.1 f.0.1 s.words t.words s.took t.took in
    let t2 : Took n b.0.1 f.0.1 ws2 = took-then n b.0.1 c.0.1 f.0.1 p.words ws1 p.took t1 in
    takes-same IsMatch n ts f.0.1 rest x (match_from b.0.0 c.0.0 d.0.0 f.0.0) (record {
      words = i.words ++ ws2;
      took = took-then n ts b.0.1 f.0.1 i.words ws2 i.took t2;
      is = grammar.parts i.is p.is s.is t.is (all-long i.words p.words s.words t.words long);
    }) f.2

-- what is read as a match is one
pub match-takes : (n : ℕ) (ts rest : List Token) (x : Match) → OneEnd n ts → match_at ts ≡ Ok (x, rest) → Takes n ts rest (λ ws. IsMatch ws x)
unfolding match_at
match-takes n ts rest x e g =
    either _ (is any_word ts) _ _ _ g (λ h k. word-takes IsMatch n any_word ts rest x any_match grammar.any (omega arith) e h k)
    (λ _ g1. either _ (is never_word ts) _ _ _ g1 (λ h k. word-takes IsMatch n never_word ts rest x match.none grammar.never (omega arith) e h k)
    (λ _ g2. let p = passed (starts_part ts) (parts_at ts) _ _ g2 in parts-takes n ts rest x e p.0 p.1))

-- ---- a match is read again

-- a word that goes on with no match
pub record Quiet (w : List ℕ) : Type 0 where
  pub in_port : bytes_eq w in_word ≡ false
  pub numbered : bytes_eq w protocol_word ≡ false
  pub named : protocol_of w ≡ None
  pub from : bytes_eq w from_word ≡ false
  pub to : bytes_eq w to_word ≡ false
  pub port : bytes_eq w port_word ≡ false

-- such are the end of a node, its start, and the end
pub quiet-close : Quiet close_mark
unfolding protocol_of
quiet-close = record { in_port = refl; numbered = refl; named = refl; from = refl; to = refl; port = refl }

-- the word of a node
pub quiet-node : Quiet node_word
unfolding protocol_of
quiet-node = record { in_port = refl; numbered = refl; named = refl; from = refl; to = refl; port = refl }

-- the end of a text
pub quiet-end : Quiet []
unfolding protocol_of
quiet-end = record { in_port = refl; numbered = refl; named = refl; from = refl; to = refl; port = refl }

-- a name is no word that is no name
pub name-other : (w k : List ℕ) → is_name w ≡ true → is_name k ≡ false → bytes_eq w k ≡ false
name-other w k i none = differ is_name w k (λ f. let g = sym i ∙ f ∙ none in absurd cc)

-- what a word has that has a value, the name of a protocol
named-own : (w : List ℕ) (m : ℕ) → IsProtocol w m → is_name w ≡ false
unfolding is_name is_own_word
named-own w m value.tcp = refl
named-own w m value.udp = refl
named-own w m value.icmp = refl

-- none of the words is a name
record Own : Type 0 where
  in_port : is_name in_word ≡ false
  numbered : is_name protocol_word ≡ false
  from : is_name from_word ≡ false
  to : is_name to_word ≡ false
  port : is_name port_word ≡ false

-- all of them are no names
own : Own
unfolding is_name is_own_word
own = record { in_port = refl; numbered = refl; from = refl; to = refl; port = refl }

-- and such is a name
pub quiet-name : (w : List ℕ) → is_name w ≡ true → Quiet w
quiet-name w i = record {
  in_port = name-other w in_word i own.in_port;
  numbered = name-other w protocol_word i own.numbered;
  named = elim (protocol_of w) as (λ o. protocol_of w ≡ o → o ≡ None) [
    | Some m ↦ λ e. absurd (let f = sym i ∙ named-own w m ((protocol-exactly w m).0 e) in cc)
    | None ↦ λ e. refl
  ] refl;
  from = name-other w from_word i own.from;
  to = name-other w to_word i own.to;
  port = name-other w port_word i own.port;
}

-- the first word of a protocol's part and more
first-protocol : (P : List ℕ → Type 0) (ws more : List (List ℕ)) (x : Option ℕ) → IsProtocolPart ws x → P protocol_word
    → ((w : List ℕ) (m : ℕ) → protocol_of w ≡ Some m → P w) → P (first more) → P (first (ws ++ more))
first-protocol P ws more x grammar.IsProtocolPart.missing a b c = c
first-protocol P ws more x (grammar.named e) a b c = b _ _ e
first-protocol P ws more x (grammar.numbered i h) a b c = a

-- the first word of a side and more
first-side : (P : List ℕ → Type 0) (k : List ℕ) (ws more : List (List ℕ)) (x : Side) → IsSide k ws x → P k → P (first more) → P (first (ws ++ more))
first-side P k ws more x grammar.IsSide.missing a c = c
first-side P k ws more x (grammar.prefix i s) a c = a
first-side P k ws more x (grammar.port i h) a c = a

-- the same words as a test of the first one
abbrev part_word : List ℕ → Bool
part_word w = bytes_eq w in_word || bytes_eq w protocol_word || is_some (protocol_of w) || bytes_eq w from_word || bytes_eq w to_word

-- a word that starts a part
record Begins (w : List ℕ) : Type 0 where
  part : part_word w ≡ true
  all : bytes_eq w any_word ≡ false
  never : bytes_eq w never_word ≡ false

-- the word for all packets is no protocol
none-any : protocol_of any_word ≡ None
unfolding protocol_of
none-any = refl

-- nor is the word for none
none-never : protocol_of never_word ≡ None
unfolding protocol_of
none-never = refl

-- the third of five tests
some-fourth : (a b c d : Bool) → (a || b || true || c || d) ≡ true
some-fourth true b c d = refl
some-fourth false true c d = refl
some-fourth false false c d = refl

-- the name of a protocol starts a part
begins-word : (w : List ℕ) (m : ℕ) → protocol_of w ≡ Some m → Begins w
begins-word w m e = record {
  part = rw e (some-fourth (bytes_eq w in_word) (bytes_eq w protocol_word) (bytes_eq w from_word) (bytes_eq w to_word));
  all = named-other any_word w m none-any e;
  never = named-other never_word w m none-never e;
}

-- so does the word before a source
begins-from : Begins from_word
unfolding protocol_of
begins-from = record { part = refl; all = refl; never = refl }

-- and that before a destination
begins-to : Begins to_word
unfolding protocol_of
begins-to = record { part = refl; all = refl; never = refl }

-- one part at least starts by such a word
begins : (a b c d more : List (List ℕ)) (i p : Option ℕ) (s t : Side) → IsOptionalPort in_word a i → IsProtocolPart b p → IsSide from_word c s
    → IsSide to_word d t → 0 < length (a ++ (b ++ (c ++ d))) → Begins (first (a ++ (b ++ (c ++ (d ++ more)))))
begins a b c d more i p s t (grammar.IsOptionalPort.said j h) y z u long = record { part = refl; all = refl; never = refl }
begins a b c d more i p s t grammar.IsOptionalPort.missing (grammar.named e) z u long = begins-word _ _ e
begins a b c d more i p s t grammar.IsOptionalPort.missing (grammar.numbered j h) z u long = record { part = refl; all = refl; never = refl }
begins a b c d more i p s t grammar.IsOptionalPort.missing grammar.IsProtocolPart.missing (grammar.prefix j h) u long = begins-from
begins a b c d more i p s t grammar.IsOptionalPort.missing grammar.IsProtocolPart.missing (grammar.port j h) u long = begins-from
begins a b c d more i p s t grammar.IsOptionalPort.missing grammar.IsProtocolPart.missing grammar.IsSide.missing (grammar.prefix j h) long = begins-to
begins a b c d more i p s t grammar.IsOptionalPort.missing grammar.IsProtocolPart.missing grammar.IsSide.missing (grammar.port j h) long = begins-to
begins a b c d more i p s t grammar.IsOptionalPort.missing grammar.IsProtocolPart.missing grammar.IsSide.missing grammar.IsSide.missing long =
    absurd (omega arith)

-- the word before an in-port is no protocol
none-in : protocol_of in_word ≡ None
unfolding protocol_of
none-in = refl

-- nor is that before a source
none-from : protocol_of from_word ≡ None
unfolding protocol_of
none-from = refl

-- nor that before a destination
none-to : protocol_of to_word ≡ None
unfolding protocol_of
none-to = refl

-- the parts are read again
parts-again : (n : ℕ) (ts : List Token) (a b c d more : List (List ℕ)) (i p : Option ℕ) (s t : Side) → IsOptionalPort in_word a i → IsProtocolPart b p
    → IsSide from_word c s → IsSide to_word d t → Quiet (first more) → Left n ts (a ++ (b ++ (c ++ (d ++ more))))
    → Gets Match n (parts_at ts) (match_from i p s t) more
unfolding parts_at
parts-again n ts a b c d more i p s t ia ib ic id q l =
    let sides = λ (P : List ℕ → Type 0) (f : P from_word) (g : P to_word) (h : P (first more)).
    first-side P from_word c (d ++ more) s ic f (first-side P to_word d more t id g h) in
    let o1 : Other in_word (b ++ (c ++ (d ++ more))) =
    first-protocol (λ w. bytes_eq w in_word ≡ false) b (c ++ (d ++ more)) p ib refl (λ w m e. named-other in_word w m none-in e)
    (sides (λ w. bytes_eq w in_word ≡ false) refl refl q.in_port) in
    let o2 : Other protocol_word (c ++ (d ++ more)) = sides (λ w. bytes_eq w protocol_word ≡ false) refl refl q.numbered in
    let o3 : protocol_of (first (c ++ (d ++ more))) ≡ None = sides (λ w. protocol_of w ≡ None) none-from none-to q.named in
    let o4 : Other from_word (d ++ more) = first-side (λ w. bytes_eq w from_word ≡ false) to_word d more t id refl q.from in
    let o5 : Other port_word (d ++ more) = first-side (λ w. bytes_eq w port_word ≡ false) to_word d more t id refl q.port in
    let r1 = optional-port-again n in_word ts a (b ++ (c ++ (d ++ more))) i long-in ia o1 l in
    let r2 = protocol-again n r1.rest b (c ++ (d ++ more)) p ib o2 o3 r1.left in
    let r3 = side-again n from_word r2.rest c (d ++ more) s long-from ic o4 o5 r2.left in
    let r4 = side-again n to_word r3.rest d more t long-to id q.to q.port r3.left in
    record { rest = r4.rest; gives = rw (r1.gives, r2.gives, r3.gives, r4.gives) (refl {a = given (match_from i p s t) r4.rest}); left = r4.left }

-- a match is read again, where what stands behind it does not go on with it
pub match-again : (n : ℕ) (ts : List Token) (ws more : List (List ℕ)) (x : Match) → IsMatch ws x → Quiet (first more) → Left n ts (ws ++ more)
    → Gets Match n (match_at ts) x more
unfolding match_at starts_part
match-again n ts ws more x grammar.any q l =
    record { rest = next ts; gives = rw (left-first n ts _ l) refl; left = left-next n ts any_word more l (omega arith) }
match-again n ts ws more x grammar.never q l =
    record { rest = next ts; gives = rw (left-first n ts _ l) refl; left = left-next n ts never_word more l (omega arith) }
match-again n ts ws more x (grammar.parts {a} {b} {c} {d} {i} {p} {s} {t} ia ib ic id long) q l =
    let e : (a ++ (b ++ (c ++ d))) ++ more ≡ a ++ (b ++ (c ++ (d ++ more))) = simp append_assoc in
    let l1 : Left n ts (a ++ (b ++ (c ++ (d ++ more)))) = subst (λ (v : List (List ℕ)). Left n ts v) e l in
    let r = parts-again n ts a b c d more i p s t ia ib ic id q l1 in
    let w = begins a b c d more i p s t ia ib ic id long in
    record { rest = r.rest; gives = rw (left-first n ts _ l1, w.all, w.never, w.part) r.gives; left = r.left }
