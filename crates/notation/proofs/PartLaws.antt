-- The parts of a match are read exactly where they are written.
--
--   Part n ts rest Is starts   a part that may be missing was taken: if one starts here, it is not missing, else nothing
--                              was taken
use Rattle.std.proofs.Common.{◌≡◌, ℕ, ◌<◌, ◌≤◌, Bool, true, false, List, [], ◌∷◌, ◌++◌, Option, Some, None, Result, Ok}
use Rattle.std.proofs.Common.{Err, length, refl, sym, ap, subst, ◌∙◌, arith}
use Rattle.std.specs.Prelude.{if◌then◌else◌, bytes_eq, is_some, ◌||◌}
use Rattle.tokens.specs.Tokens.{Token, word, next, is}
use Rattle.tokens.specs.Theorems.{OneEnd}
use Rattle.field.specs.declared.Prefix.{Prefix}
use Rattle.values.specs.Numbers.{number_of, up_to}
use Rattle.values.specs.Prefixes.{prefix_of, address_of}
use Rattle.values.specs.Words.{protocol_of}
use Rattle.values.specs.Grammar.{IsNumber}
use Rattle.values.specs.declared.prefixes.NoPrefix.{NoPrefix}
use Rattle.values.specs.declared.prefixes.NoPrefix.TheVariants as no
use Rattle.values.proofs.PrefixLaw.{prefix-exactly}
use Rattle.notation.specs.declared.fault.Wanted.TheVariants as wanted
use Rattle.notation.specs.declared.rules.Side.{Side}
use Rattle.notation.specs.Reads.{Read, ◌>>=◌}
use Rattle.notation.specs.Words.{protocol_word, port_word}
use Rattle.notation.specs.Rules.{largest_port, largest_protocol, port_at, optional_port, protocol_number_at, protocol_at, all}
use Rattle.notation.specs.Rules.{open_side, prefix_or, prefix_at, side_at}
use Rattle.notation.specs.Grammar.{IsOptionalPort, IsProtocolPart, IsSide}
use Rattle.notation.specs.Grammar as grammar
use Rattle.notation.proofs.Bind.{bound, either, given, same-read}
use Rattle.notation.proofs.Took.{Took, took-none, took-one, took-word, took-then, Left, first, left-first, left-next}
use Rattle.notation.proofs.Taken.{Takes, Gets, some-takes, some-again, some-long, no-number, limited-written, limited-read}
use Rattle.notation.proofs.Taken.{left-is, differ, Other, left-other}

-- a part that may be missing was taken
pub record Part (n : ℕ) (ts rest : List Token) (Is : List (List ℕ) → Type 0) (starts : Bool) : Type 0 where
  pub words : List (List ℕ)
  pub took : Took n ts rest words
  pub is : Is words
  pub some : starts ≡ true → 0 < length words
  pub none : starts ≡ false → rest ≡ ts

-- it was taken
pub part-takes : (n : ℕ) (ts rest : List Token) (Is : List (List ℕ) → Type 0) (starts : Bool) → Part n ts rest Is starts → Takes n ts rest Is
part-takes n ts rest Is starts p = record { words = p.words; took = p.took; is = p.is }

-- a part that is there, of a word and more
pub part-some : {X : Type 0} (Is : List (List ℕ) → X → Type 0) (n : ℕ) (ts us rest : List Token) (w : List ℕ) (ws : List (List ℕ)) (x y : X) (starts : Bool)
    → starts ≡ true → Took n ts us (w ∷ ws) → Is (w ∷ ws) y → given y us ≡ given x rest → Part n ts rest (λ vs. Is vs x) starts
part-some {X} Is n ts us rest w ws x y starts h t i g =
    let s = same-read y x us rest g in
    record {
      words = w ∷ ws;
      took = subst (λ (r : List Token). Took n ts r (w ∷ ws)) s.1 t;
      is = subst (λ (z : X). Is (w ∷ ws) z) s.0 i;
      some = λ _. omega arith;
      none = λ e. absurd (let f = sym h ∙ e in cc);
    }

-- a part that is missing
pub part-none : {X : Type 0} (Is : List (List ℕ) → X → Type 0) (n : ℕ) (ts rest : List Token) (x y : X) (starts : Bool)
    → starts ≡ false → OneEnd n ts → Is [] y → given y ts ≡ given x rest → Part n ts rest (λ vs. Is vs x) starts
part-none {X} Is n ts rest x y starts h e i g =
    let s = same-read y x ts rest g in
    record {
      words = [];
      took = subst (λ (r : List Token). Took n ts r []) s.1 (took-none n ts e);
      is = subst (λ (z : X). Is [] z) s.0 i;
      some = λ f. absurd (let k = sym h ∙ f in cc);
      none = λ _. sym s.1;
    }

-- ---- ports

-- a number up to a limit was taken
pub record Number (n : ℕ) (ts rest : List Token) (limit x : ℕ) : Type 0 where
  pub written : IsNumber (word ts) x
  pub small : x ≤ limit
  pub took : Took n ts rest (word ts ∷ [])

-- what is read as a port is a number
pub port-takes : (n : ℕ) (ts rest : List Token) (x : ℕ) → OneEnd n ts → port_at ts ≡ Ok (x, rest) → Number n ts rest largest_port x
unfolding port_at
port-takes n ts rest x e g =
    let s = some-takes n (λ w. up_to largest_port (number_of w)) wanted.Port ts rest x (ap (up_to largest_port) no-number) e g in
    let l = limited-written largest_port (word ts) x s.0 in
    record { written = l.0; small = l.1; took = s.1 }

-- a port that is written is read
pub port-again : (n : ℕ) (ts : List Token) (w : List ℕ) (more : List (List ℕ)) (x : ℕ) → IsNumber w x → x ≤ largest_port → Left n ts (w ∷ more)
    → (port_at ts ≡ Ok (x, next ts)) × Left n (next ts) more
unfolding port_at
port-again n ts w more x i h l =
    let s = some-again n (λ v. up_to largest_port (number_of v)) wanted.Port ts w more x (ap (up_to largest_port) no-number)
    (limited-read largest_port w x i h) l in
    (rw s.0 refl, s.1)

-- a port behind a word that stands there
record Said (n : ℕ) (k : List ℕ) (ts rest : List Token) (x : Option ℕ) : Type 0 where
  number : List ℕ
  port : ℕ
  written : IsNumber number port
  small : port ≤ largest_port
  took : Took n ts rest (k ∷ number ∷ [])
  value : Some port ≡ x

-- what is read behind that word is a port
said-takes : (n : ℕ) (k : List ℕ) (ts rest : List Token) (x : Option ℕ) → 0 < length k → OneEnd n ts → is k ts ≡ true → optional_port k ts ≡ Ok (x, rest)
    → Said n k ts rest x
unfolding optional_port
said-takes n k ts rest x long e h g =
    let t = took-word n k ts e long h in
    let g1 : (port_at (next ts) >>= λ p. Ok (Some p.0, p.1)) ≡ Ok (x, rest) = rw h at g in
    let b = bound _ _ _ g1 in
    let p = port-takes n (next ts) b.0.1 b.0.0 t.ends b.1 in
    let s = same-read _ _ _ _ b.2 in
    record {
      number = word (next ts);
      port = b.0.0;
      written = p.written;
      small = p.small;
      took = subst (λ (r : List Token). Took n ts r (k ∷ word (next ts) ∷ [])) s.1 (took-then n ts (next ts) b.0.1 _ _ t p.took);
      value = s.0;
    }

-- what is read as a port behind a word, or nothing, is one
pub optional-port-part : (n : ℕ) (k : List ℕ) (ts rest : List Token) (x : Option ℕ) → 0 < length k → OneEnd n ts → optional_port k ts ≡ Ok (x, rest)
    → Part n ts rest (λ ws. IsOptionalPort k ws x) (is k ts)
unfolding optional_port
optional-port-part n k ts rest x long e g =
    either _ (is k ts) _ _ _ g
    (λ h _. let s = said-takes n k ts rest x long e h g in
    part-some (IsOptionalPort k) n ts rest rest k (s.number ∷ []) x x (is k ts) h s.took
    (subst (λ (z : Option ℕ). IsOptionalPort k (k ∷ s.number ∷ []) z) s.value (grammar.IsOptionalPort.said s.written s.small)) refl)
    (λ h f. part-none (IsOptionalPort k) n ts rest x None (is k ts) h e grammar.IsOptionalPort.missing f)

-- a port behind a word is read again, where that word does not stand behind a missing one
pub optional-port-again : (n : ℕ) (k : List ℕ) (ts : List Token) (ws more : List (List ℕ)) (x : Option ℕ) → 0 < length k → IsOptionalPort k ws x
    → Other k more → Left n ts (ws ++ more) → Gets (Option ℕ) n (optional_port k ts) x more
unfolding optional_port
optional-port-again n k ts ws more x long grammar.IsOptionalPort.missing o l =
    record { rest = ts; gives = rw (left-other n ts k more l o) refl; left = l }
optional-port-again n k ts ws more x long (grammar.IsOptionalPort.said {w} i h) o l =
    let p = port-again n (next ts) w more _ i h (left-next n ts k (w ∷ more) l long) in
    record { rest = next (next ts); gives = rw (left-is n ts k (w ∷ more) l, p.0) refl; left = p.1 }

-- ---- protocols

-- the empty word is no protocol, nor is the word before a number
no-protocol : protocol_of [] ≡ None
unfolding protocol_of
no-protocol = refl

-- the word before a number
no-protocol-word : protocol_of protocol_word ≡ None
unfolding protocol_of
no-protocol-word = refl

-- a protocol's number
protocol-number-takes : (n : ℕ) (ts rest : List Token) (x : ℕ) → OneEnd n ts → protocol_number_at ts ≡ Ok (x, rest) → Number n ts rest largest_protocol x
unfolding protocol_number_at
protocol-number-takes n ts rest x e g =
    let s = some-takes n (λ w. up_to largest_protocol (number_of w)) wanted.Protocol ts rest x (ap (up_to largest_protocol) no-number) e g in
    let l = limited-written largest_protocol (word ts) x s.0 in
    record { written = l.0; small = l.1; took = s.1 }

-- a protocol starts by the word before its number, or by its name
abbrev pub starts_protocol : List ℕ → Bool
starts_protocol w = bytes_eq w protocol_word || is_some (protocol_of w)

-- what is read as a protocol, or nothing, is one
pub protocol-part : (n : ℕ) (ts rest : List Token) (x : Option ℕ) → OneEnd n ts → protocol_at ts ≡ Ok (x, rest)
    → Part n ts rest (λ ws. IsProtocolPart ws x) (starts_protocol (word ts))
unfolding protocol_at
protocol-part n ts rest x e g =
    either _ (is protocol_word ts) _ _ _ g
    (λ h f.
    let t = took-word n protocol_word ts e (omega arith) h in
    let b = bound _ _ _ f in
    let p = protocol-number-takes n (next ts) b.0.1 b.0.0 t.ends b.1 in
    part-some IsProtocolPart n ts b.0.1 rest protocol_word (word (next ts) ∷ []) x (Some b.0.0) _ (rw h refl)
    (took-then n ts (next ts) b.0.1 _ _ t p.took) (grammar.numbered p.written p.small) b.2)
    (λ h f.
    elim (protocol_of (word ts)) as (λ o. protocol_of (word ts) ≡ o → given o (if is_some o then next ts else ts) ≡ given x rest
    → Part n ts rest (λ ws. IsProtocolPart ws x) (starts_protocol (word ts))) [
      | Some m ↦ λ q k.
          part-some IsProtocolPart n ts (next ts) rest (word ts) [] x (Some m) _ (rw (h, q) refl)
          (took-one n ts e (some-long protocol_of (word ts) m no-protocol q)) (grammar.named q) k
      | None ↦ λ q k. part-none IsProtocolPart n ts rest x None _ (rw (h, q) refl) e grammar.IsProtocolPart.missing k
    ] refl f)

-- a protocol's name is not the word before its number
pub named-other : (k w : List ℕ) (m : ℕ) → protocol_of k ≡ None → protocol_of w ≡ Some m → bytes_eq w k ≡ false
named-other k w m none e = differ protocol_of w k (λ f. let g = sym e ∙ f ∙ none in absurd cc)

-- a protocol is read again, where no protocol stands behind a missing one
pub protocol-again : (n : ℕ) (ts : List Token) (ws more : List (List ℕ)) (x : Option ℕ) → IsProtocolPart ws x
    → Other protocol_word more → protocol_of (first more) ≡ None → Left n ts (ws ++ more) → Gets (Option ℕ) n (protocol_at ts) x more
unfolding protocol_at protocol_number_at
protocol-again n ts ws more x grammar.IsProtocolPart.missing o q l =
    let s : protocol_of (word ts) ≡ None = ap protocol_of (left-first n ts more l) ∙ q in
    record { rest = ts; gives = rw (left-other n ts protocol_word more l o, s) refl; left = l }
protocol-again n ts ws more x (grammar.named {w} s) o q l =
    let f = left-first n ts (w ∷ more) l in
    record {
      rest = next ts;
      gives = rw (f, named-other protocol_word w _ no-protocol-word s, s) refl;
      left = left-next n ts w more l (some-long protocol_of w _ no-protocol s);
    }
protocol-again n ts ws more x (grammar.numbered {w} i h) o q l =
    let p = some-again n (λ v. up_to largest_protocol (number_of v)) wanted.Protocol (next ts) w more _ (ap (up_to largest_protocol) no-number)
    (limited-read largest_protocol w _ i h) (left-next n ts protocol_word (w ∷ more) l (omega arith)) in
    record { rest = next (next ts); gives = rw (left-is n ts protocol_word (w ∷ more) l, p.0) refl; left = p.1 }

-- ---- sides

-- the empty word is no prefix, nor is the word before a port
no-prefix : prefix_of [] ≡ Err no.NotOne
unfolding prefix_of address_of number_of
no-prefix = refl

-- the word before a port
no-prefix-port : prefix_of port_word ≡ Err no.NotOne
unfolding prefix_of address_of number_of
no-prefix-port = refl

-- so what is a prefix is not empty
prefix-long : (w : List ℕ) (p : Prefix) → prefix_of w ≡ Ok p → 0 < length w
prefix-long [] p e = absurd (let f = sym no-prefix ∙ e in cc)
prefix-long (b ∷ w) p e = omega arith

-- a prefix that was read
prefix-or-given : (r : Result Prefix NoPrefix) (ts rest : List Token) (p : Prefix) → prefix_or r ts ≡ Ok (p, rest) → (r ≡ Ok p) × (next ts ≡ rest)
prefix-or-given (Ok q) ts rest p e = let s = same-read q p (next ts) rest e in (ap Ok s.0, s.1)
prefix-or-given (Err no.NotOne) ts rest p e = absurd cc
prefix-or-given (Err (no.HostBits q)) ts rest p e = absurd cc

-- a side from its prefix on
abbrev with_port : Prefix → Option ℕ × List Token → Read Side
with_port p q = Ok (record { prefix = p; port = q.0 }, q.1)

-- a prefix, and what is read behind it
abbrev behind_prefix : Prefix × List Token → Read Side
behind_prefix y = optional_port port_word y.1 >>= with_port y.0

-- a side behind its word: a prefix and maybe a port, or a port
side-inner : (n : ℕ) (k : List ℕ) (ts us rest : List Token) (x : Side) → 0 < length k → is k ts ≡ true → Took n ts us (k ∷ [])
    → prefix_at us >>= behind_prefix ≡ Ok (x, rest)
    → Part n ts rest (λ ws. IsSide k ws x) (is k ts)
unfolding prefix_at
side-inner n k ts us rest x long h t g =
    let b = bound _ _ _ g in
    let c = bound _ _ _ b.2 in
    either _ (is port_word us) _ _ _ b.1
    (λ i f.
    let s = same-read _ _ _ _ f in
    let o : optional_port port_word us ≡ Ok c.0 = ap (optional_port port_word) s.1 ∙ c.1 in
    let d = said-takes n port_word us c.0.1 c.0.0 (omega arith) t.ends i o in
    let v : record { prefix = all; port = Some d.port } ≡ record { prefix = b.0.0; port = c.0.0 } = cc (s.0, d.value) in
    part-some (IsSide k) n ts c.0.1 rest k (port_word ∷ d.number ∷ []) x (record { prefix = b.0.0; port = c.0.0 }) _ h
    (took-then n ts us c.0.1 _ _ t d.took)
    (subst (λ (z : Side). IsSide k (k ∷ port_word ∷ d.number ∷ []) z) v (grammar.port d.written d.small)) c.2)
    (λ i f.
    let s = prefix-or-given (prefix_of (word us)) us b.0.1 b.0.0 f in
    let u = took-one n us t.ends (prefix-long (word us) b.0.0 s.0) in
    let u1 : Took n us b.0.1 (word us ∷ []) = subst (λ (r : List Token). Took n us r (word us ∷ [])) s.1 u in
    let d = optional-port-part n port_word b.0.1 c.0.1 c.0.0 (omega arith) u1.ends c.1 in
    part-some (IsSide k) n ts c.0.1 rest k (word us ∷ d.words) x (record { prefix = b.0.0; port = c.0.0 }) _ h
    (took-then n ts us c.0.1 _ _ t (took-then n us b.0.1 c.0.1 _ _ u1 d.took))
    (grammar.prefix ((prefix-exactly _ _).0 s.0) d.is) c.2)

-- what is read as a side, or nothing, is one
pub side-part : (n : ℕ) (k : List ℕ) (ts rest : List Token) (x : Side) → 0 < length k → OneEnd n ts → side_at k ts ≡ Ok (x, rest)
    → Part n ts rest (λ ws. IsSide k ws x) (is k ts)
unfolding side_at
side-part n k ts rest x long e g =
    either _ (is k ts) _ _ _ g
    (λ h f. side-inner n k ts (next ts) rest x long h (took-word n k ts e long h) f)
    (λ h f. part-none (IsSide k) n ts rest x open_side (is k ts) h e grammar.IsSide.missing f)

-- a prefix is not the word before a port
prefix-other : (w : List ℕ) (p : Prefix) → prefix_of w ≡ Ok p → bytes_eq w port_word ≡ false
prefix-other w p e = differ prefix_of w port_word (λ f. let g = sym e ∙ f ∙ no-prefix-port in absurd cc)

-- a side is read again, where neither its word nor that before a port stands behind it
pub side-again : (n : ℕ) (k : List ℕ) (ts : List Token) (ws more : List (List ℕ)) (x : Side) → 0 < length k → IsSide k ws x
    → Other k more → Other port_word more → Left n ts (ws ++ more) → Gets Side n (side_at k ts) x more
unfolding side_at prefix_at
side-again n k ts ws more x long grammar.IsSide.missing o q l =
    record { rest = ts; gives = rw (left-other n ts k more l o) refl; left = l }
side-again n k ts ws more x long (grammar.prefix {w} {p} {ws = vs} i s) o q l =
    let r = (prefix-exactly w p).1 i in
    let l1 = left-next n ts k (w ∷ (vs ++ more)) l long in
    let l2 = left-next n (next ts) w (vs ++ more) l1 (prefix-long w p r) in
    let d = optional-port-again n port_word (next (next ts)) vs more _ (omega arith) s q l2 in
    let f = left-first n (next ts) (w ∷ (vs ++ more)) l1 in
    record { rest = d.rest; gives = rw (left-is n ts k _ l, f, prefix-other w p r, r, d.gives) refl; left = d.left }
side-again n k ts ws more x long (grammar.port {w} i h) o q l =
    let l1 = left-next n ts k (port_word ∷ w ∷ more) l long in
    let d = optional-port-again n port_word (next ts) (port_word ∷ w ∷ []) more _ (omega arith) (grammar.IsOptionalPort.said i h) q l1 in
    record { rest = d.rest; gives = rw (left-is n ts k _ l, left-is n (next ts) port_word (w ∷ more) l1, d.gives) refl; left = d.left }
