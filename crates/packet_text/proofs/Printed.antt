-- The text of a packet in range is read as the packet.
use Rattle.std.proofs.Common.{ℕ, ◌<◌, ◌^◌, ◌≡◌, true, false, List, [], ◌∷◌, ◌++◌, map, Option, Some}
use Rattle.std.proofs.Common.{None, Ok, Err, refl, sym, ap, subst, ◌∙◌, append-nil, arith, ltb-true, inr, eq-eqb, ◌%◌}
use Rattle.logic.proofs.Tests.{by-test}
use mathlib.Core.Bool.{and-eq-true_iff}
use Rattle.std.specs.Prelude.{if◌then◌else◌, ◌==◌, codes}
use Rattle.std.specs.Fmt.{decimal}
use Rattle.std.proofs.lemmas.Bool.{eqb-true}
use Rattle.field.specs.Prefix.{address_bits, zero_beyond}
use Rattle.field.specs.declared.Prefix.{Prefix}
use Rattle.flow.specs.Packet.{protocol_limit, port_limit, right_packet}
use Rattle.flow.specs.declared.Packet.{Packet}
use Rattle.tokens.specs.Tokens.{Token, tokens_of, word, at, next, ended}
use Rattle.tokens.specs.Cut.{Gap, LastGap, Cut}
use Rattle.tokens.proofs.Cuts.{cut-exactly}
use Rattle.values.specs.Numbers.{number_of, up_to}
use Rattle.values.specs.Prefixes.{prefix_of}
use Rattle.values.specs.Words.{protocol_of}
use Rattle.values.specs.Grammar.{address_text, IsProtocol}
use Rattle.values.specs.Grammar as value
use Rattle.values.proofs.AddressLaw.{within}
use Rattle.values.proofs.NumberLaw.{number-read}
use Rattle.values.proofs.PrefixLaw.{prefix-exactly}
use Rattle.values.proofs.WordLaws.{protocol-exactly}
use Rattle.notation.specs.Rules.{largest_port, largest_protocol}
use Rattle.canon.proofs.Laid.{Tight, Word, all-word, word as word_tight, loose-tight, tight-tight, begins-opens, blank-loose}
use Rattle.canon.proofs.Bytes.{number-word, prefix-word}
use Rattle.packet_text.specs.declared.Wanted.TheVariants as wanted
use Rattle.packet_text.specs.Reading.{◌>>=◌, fault_at, port_at, address_in, address_at, or_else, protocol_in, protocol_at, values_at, packet_read}
use Rattle.packet_text.specs.Text.{then_word, protocol_text, packet_text}

-- ---- the words of the text

-- an address is a word
address-word : (a : ℕ) → Word (address_text a)
address-word a = prefix-word (record { address = a; length = address_bits }) (omega arith)

-- and so is a protocol
protocol-word : (n : ℕ) → n < 2 ^ 32 → Word (protocol_text n)
protocol-word n low =
    elim (n == 6) as (λ d. Word (if d then codes "tcp" else (if n == 17 then codes "udp" else (if n == 1 then codes "icmp" else decimal n)))) [
      | true ↦ (omega arith, all-word (codes "tcp") refl)
      | false ↦
          elim (n == 17) as (λ d. Word (if d then codes "udp" else (if n == 1 then codes "icmp" else decimal n))) [
            | true ↦ (omega arith, all-word (codes "udp") refl)
            | false ↦
                elim (n == 1) as (λ d. Word (if d then codes "icmp" else decimal n)) [
                  | true ↦ (omega arith, all-word (codes "icmp") refl)
                  | false ↦ number-word n low
                ]
          ]
    ]

-- a word before words
before : (w : List ℕ) {t : List ℕ} {ws : List (List ℕ)} → Word w → Tight t ws → Tight (then_word w t) (w ∷ ws)
before w {t} h q = tight-tight (word_tight w h) (begins-opens 32 t refl) (loose-tight blank-loose q)

-- a text that ends with its words
whole : {t : List ℕ} {ws : List (List ℕ)} → Tight t ws → Cut t ws
whole {t} {ws} l =
    subst (λ x. Cut x ws) (append-nil t) (subst (λ x. Cut (t ++ []) x) (append-nil ws) (l.laid [] [] tt (Cut.end (LastGap.gap Gap.none))))

-- the values of a packet in range
record Low (p : Packet) : Type 0 where
  source : p.source < 2 ^ address_bits
  destination : p.destination < 2 ^ address_bits
  in_port : p.in_port < port_limit
  protocol : p.protocol < protocol_limit
  source_port : p.source_port < port_limit
  destination_port : p.destination_port < port_limit

low : (p : Packet) → right_packet p ≡ true → Low p
unfolding right_packet
low p e = let h = simp and-eq-true_iff at e in omega (arith, ltb-true)

-- the six words
abbrev words : Packet → List (List ℕ)
words p =
    decimal p.in_port ∷ address_text p.source ∷ address_text p.destination ∷ protocol_text p.protocol ∷ decimal p.source_port
    ∷ decimal p.destination_port ∷ []

-- of which the text is made
text-cut : (p : Packet) → Low p → Cut (packet_text p) (words p)
unfolding packet_text
text-cut p h =
    let i = h.in_port in
    let q = h.protocol in
    let v = h.source_port in
    let w = h.destination_port in
    whole
    (before (decimal p.in_port) (number-word p.in_port (omega arith))
    (before (address_text p.source) (address-word p.source)
    (before (address_text p.destination) (address-word p.destination)
    (before (protocol_text p.protocol) (protocol-word p.protocol (omega arith))
    (before (decimal p.source_port) (number-word p.source_port (omega arith))
    (word_tight (decimal p.destination_port) (number-word p.destination_port (omega arith))))))))

-- ---- what is read of them

-- the first of some words, and those behind it
record Step (ts : List Token) (w : List ℕ) (ws : List (List ℕ)) : Type 0 where
  first : word ts ≡ w
  rest : map (λ (t : Token). t.word) (next ts) ≡ ws

step : (ts : List Token) (w v : List ℕ) (ws : List (List ℕ)) → map (λ (t : Token). t.word) ts ≡ w ∷ v ∷ ws → Step ts w (v ∷ ws)
step [] w v ws e = absurd cc
step (t ∷ []) w v ws e = absurd cc
step (t ∷ u ∷ us) w v ws e = record { first = cc; rest = cc }

last : (ts : List Token) → map (λ (t : Token). t.word) ts ≡ [] ∷ [] → word ts ≡ []
last [] e = absurd cc
last (t ∷ us) e = cc

-- a port
port-read : (n : ℕ) → n < port_limit → up_to largest_port (number_of (decimal n)) ≡ Some n
port-read n h = rw (number-read n (omega arith)) (within largest_port n (omega arith))

-- an address has no bits beyond its whole length
none-beyond : (a : ℕ) → zero_beyond address_bits a address_bits ≡ true
unfolding zero_beyond
none-beyond a = eq-eqb (a % 1) 0 (omega arith)

-- an address
address-read : (a : ℕ) → a < 2 ^ address_bits → address_in (prefix_of (address_text a)) ≡ Some a
address-read a h =
    let p : Prefix = record { address = a; length = address_bits } in
    rw ((prefix-exactly (address_text a) p).1 (record {
      spelled = record { below = h; short = omega arith; text = inr (refl, refl) };
      zeros = none-beyond a;
    })) refl

-- a protocol with a name
named-read : (w : List ℕ) (m n : ℕ) → IsProtocol w m → m ≡ n → protocol_in w ≡ Some n
unfolding protocol_in
named-read w m n k e = rw ((protocol-exactly w m).1 k) (ap Some e)

-- whose name is no number
not-number : (w : List ℕ) (m : ℕ) → IsProtocol w m → number_of w ≡ None
unfolding number_of
not-number w m value.tcp = refl
not-number w m value.udp = refl
not-number w m value.icmp = refl

-- a protocol by its number
number-protocol : (n : ℕ) → n < protocol_limit → protocol_in (decimal n) ≡ Some n
unfolding protocol_in
number-protocol n h = go (protocol_of (decimal n)) refl
  where
    read : number_of (decimal n) ≡ Some n
    read = number-read n (omega arith)

    go : (o : Option ℕ) → protocol_of (decimal n) ≡ o → or_else o (up_to largest_protocol (number_of (decimal n))) ≡ Some n
    go (Some m) f = let k = not-number (decimal n) m ((protocol-exactly (decimal n) m).0 f) in let r = read in absurd cc
    go None f = rw read (within largest_protocol n (omega arith))

-- a protocol
protocol-read : (n : ℕ) → n < protocol_limit → protocol_in (protocol_text n) ≡ Some n
protocol-read n h =
    by-test (n == 6)
    (λ e. rw e (named-read (codes "tcp") 6 n value.tcp (sym (eqb-true n 6 e))))
    (λ a. by-test (n == 17)
    (λ e. rw (a, e) (named-read (codes "udp") 17 n value.udp (sym (eqb-true n 17 e))))
    (λ b. by-test (n == 1)
    (λ e. rw (a, b, e) (named-read (codes "icmp") 1 n value.icmp (sym (eqb-true n 1 e))))
    (λ c. rw (a, b, c) (number-protocol n h))))

-- the six values of six words, and the end behind them
values-read : (ts : List Token) (p : Packet) → Low p → map (λ (t : Token). t.word) ts ≡ words p ++ [] ∷ []
    → (values_at ts >>= λ x. if ended x.1 then Ok x.0 else Err (fault_at (at x.1) wanted.End)) ≡ Ok p
unfolding values_at port_at address_at protocol_at
values-read ts p h e =
    let port : List ℕ → Option ℕ = λ w. up_to largest_port (number_of w) in
    let address : List ℕ → Option ℕ = λ w. address_in (prefix_of w) in
    let s₁ = step ts _ _ _ e in
    let s₂ = step (next ts) _ _ _ s₁.rest in
    let s₃ = step (next (next ts)) _ _ _ s₂.rest in
    let s₄ = step (next (next (next ts))) _ _ _ s₃.rest in
    let s₅ = step (next (next (next (next ts)))) _ _ _ s₄.rest in
    let s₆ = step (next (next (next (next (next ts))))) _ _ _ s₅.rest in
    let s₇ = last (next (next (next (next (next (next ts)))))) s₆.rest in
    rw (
      ap port s₁.first ∙ port-read p.in_port h.in_port,
      ap address s₂.first ∙ address-read p.source h.source,
      ap address s₃.first ∙ address-read p.destination h.destination,
      ap protocol_in s₄.first ∙ protocol-read p.protocol h.protocol,
      ap port s₅.first ∙ port-read p.source_port h.source_port,
      ap port s₆.first ∙ port-read p.destination_port h.destination_port,
      s₇,
    ) refl

-- THE TEXT OF A PACKET IN RANGE IS READ AS THE PACKET
pub read-printed : (p : Packet) → right_packet p ≡ true → packet_read (packet_text p) ≡ Ok p
unfolding packet_read
read-printed p e =
    let h = low p e in values-read (tokens_of (packet_text p)) p h ((cut-exactly (packet_text p) (words p)).0 (text-cut p h))
