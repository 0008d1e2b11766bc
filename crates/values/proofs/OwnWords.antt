-- The words of the notation by their first byte.
use Rattle.std.proofs.Common.{◌≡◌, ℕ, ◌<◌, ◌≤◌, Bool, true, false, List, [], ◌∷◌, length, get_or, refl, sym, subst, arith}
use Rattle.std.specs.Prelude.{codes, bytes_eq, ◌||◌, ◌≢◌}
use Rattle.std.proofs.lemmas.Bool.{ne_eqb}
use Rattle.values.specs.Words.{own_words, one_of, is_own_word, is_one}

-- one word, where there is no other
alone : (a : Bool) → (a || false) ≡ a
alone true = refl
alone false = refl

-- two words, the second of which is tried twice
twice : (a b : Bool) → (a || (b || false)) ≡ ((a || b) || b)
twice true b = refl
twice false true = refl
twice false false = refl

-- three words
thrice : (a b c : Bool) → (a || (b || (c || false))) ≡ ((a || b) || c)
thrice true b c = refl
thrice false true c = refl
thrice false false true = refl
thrice false false false = refl

-- the words that begin by a
pub own-allow : (w : List ℕ) → 1 ≤ length w → get_or w 0 0 ≡ 97 → is_one w (codes "allow") (codes "any") (codes "any") ≡ is_own_word w
unfolding is_own_word
own-allow [] long e = absurd (omega arith)
own-allow (b ∷ w) long e =
    subst (λ (x : ℕ). is_one (x ∷ w) (codes "allow") (codes "any") (codes "any") ≡ one_of own_words (x ∷ w)) (sym e)
    (sym (twice (bytes_eq w (codes "llow")) (bytes_eq w (codes "ny"))))

-- the words that begin by b
pub own-between : (w : List ℕ) → 1 ≤ length w → get_or w 0 0 ≡ 98 → is_one w (codes "between") (codes "below") (codes "below") ≡ is_own_word w
unfolding is_own_word
own-between [] long e = absurd (omega arith)
own-between (b ∷ w) long e =
    subst (λ (x : ℕ). is_one (x ∷ w) (codes "between") (codes "below") (codes "below") ≡ one_of own_words (x ∷ w)) (sym e)
    (sym (twice (bytes_eq w (codes "etween")) (bytes_eq w (codes "elow"))))

-- the words that begin by d
pub own-deny : (w : List ℕ) → 1 ≤ length w → get_or w 0 0 ≡ 100 → bytes_eq w (codes "deny") ≡ is_own_word w
unfolding is_own_word
own-deny [] long e = absurd (omega arith)
own-deny (b ∷ w) long e =
    subst (λ (x : ℕ). bytes_eq (x ∷ w) (codes "deny") ≡ one_of own_words (x ∷ w)) (sym e)
    (sym (alone (bytes_eq w (codes "eny"))))

-- the words that begin by f
pub own-from : (w : List ℕ) → 1 ≤ length w → get_or w 0 0 ≡ 102 → bytes_eq w (codes "from") ≡ is_own_word w
unfolding is_own_word
own-from [] long e = absurd (omega arith)
own-from (b ∷ w) long e =
    subst (λ (x : ℕ). bytes_eq (x ∷ w) (codes "from") ≡ one_of own_words (x ∷ w)) (sym e)
    (sym (alone (bytes_eq w (codes "rom"))))

-- the words that begin by i
pub own-inside : (w : List ℕ) → 1 ≤ length w → get_or w 0 0 ≡ 105 → is_one w (codes "inside") (codes "in") (codes "icmp") ≡ is_own_word w
unfolding is_own_word
own-inside [] long e = absurd (omega arith)
own-inside (b ∷ w) long e =
    subst (λ (x : ℕ). is_one (x ∷ w) (codes "inside") (codes "in") (codes "icmp") ≡ one_of own_words (x ∷ w)) (sym e)
    (sym (thrice (bytes_eq w (codes "nside")) (bytes_eq w (codes "n")) (bytes_eq w (codes "cmp"))))

-- the words that begin by l
pub own-left : (w : List ℕ) → 1 ≤ length w → get_or w 0 0 ≡ 108 → is_one w (codes "left") (codes "larger") (codes "limit") ≡ is_own_word w
unfolding is_own_word
own-left [] long e = absurd (omega arith)
own-left (b ∷ w) long e =
    subst (λ (x : ℕ). is_one (x ∷ w) (codes "left") (codes "larger") (codes "limit") ≡ one_of own_words (x ∷ w)) (sym e)
    (sym (thrice (bytes_eq w (codes "eft")) (bytes_eq w (codes "arger")) (bytes_eq w (codes "imit"))))

-- the words that begin by n
pub own-node : (w : List ℕ) → 1 ≤ length w → get_or w 0 0 ≡ 110 → is_one w (codes "node") (codes "none") (codes "never") ≡ is_own_word w
unfolding is_own_word
own-node [] long e = absurd (omega arith)
own-node (b ∷ w) long e =
    subst (λ (x : ℕ). is_one (x ∷ w) (codes "node") (codes "none") (codes "never") ≡ one_of own_words (x ∷ w)) (sym e)
    (sym (thrice (bytes_eq w (codes "ode")) (bytes_eq w (codes "one")) (bytes_eq w (codes "ever"))))

-- the words that begin by o
pub own-operator : (w : List ℕ) → 1 ≤ length w → get_or w 0 0 ≡ 111 → bytes_eq w (codes "operator") ≡ is_own_word w
unfolding is_own_word
own-operator [] long e = absurd (omega arith)
own-operator (b ∷ w) long e =
    subst (λ (x : ℕ). bytes_eq (x ∷ w) (codes "operator") ≡ one_of own_words (x ∷ w)) (sym e)
    (sym (alone (bytes_eq w (codes "perator"))))

-- the words that begin by p
pub own-protocol : (w : List ℕ) → 1 ≤ length w → get_or w 0 0 ≡ 112 → is_one w (codes "protocol") (codes "port") (codes "port") ≡ is_own_word w
unfolding is_own_word
own-protocol [] long e = absurd (omega arith)
own-protocol (b ∷ w) long e =
    subst (λ (x : ℕ). is_one (x ∷ w) (codes "protocol") (codes "port") (codes "port") ≡ one_of own_words (x ∷ w)) (sym e)
    (sym (twice (bytes_eq w (codes "rotocol")) (bytes_eq w (codes "ort"))))

-- the words that begin by r
pub own-reserve : (w : List ℕ) → 1 ≤ length w → get_or w 0 0 ≡ 114 → is_one w (codes "reserve") (codes "right") (codes "right") ≡ is_own_word w
unfolding is_own_word
own-reserve [] long e = absurd (omega arith)
own-reserve (b ∷ w) long e =
    subst (λ (x : ℕ). is_one (x ∷ w) (codes "reserve") (codes "right") (codes "right") ≡ one_of own_words (x ∷ w)) (sym e)
    (sym (twice (bytes_eq w (codes "eserve")) (bytes_eq w (codes "ight"))))

-- the words that begin by s
pub own-smaller : (w : List ℕ) → 1 ≤ length w → get_or w 0 0 ≡ 115 → is_one w (codes "smaller") (codes "sum") (codes "sum") ≡ is_own_word w
unfolding is_own_word
own-smaller [] long e = absurd (omega arith)
own-smaller (b ∷ w) long e =
    subst (λ (x : ℕ). is_one (x ∷ w) (codes "smaller") (codes "sum") (codes "sum") ≡ one_of own_words (x ∷ w)) (sym e)
    (sym (twice (bytes_eq w (codes "maller")) (bytes_eq w (codes "um"))))

-- the words that begin by t
pub own-tcp : (w : List ℕ) → 1 ≤ length w → get_or w 0 0 ≡ 116 → is_one w (codes "tcp") (codes "to") (codes "to") ≡ is_own_word w
unfolding is_own_word
own-tcp [] long e = absurd (omega arith)
own-tcp (b ∷ w) long e =
    subst (λ (x : ℕ). is_one (x ∷ w) (codes "tcp") (codes "to") (codes "to") ≡ one_of own_words (x ∷ w)) (sym e)
    (sym (twice (bytes_eq w (codes "cp")) (bytes_eq w (codes "o"))))

-- the words that begin by u
pub own-udp : (w : List ℕ) → 1 ≤ length w → get_or w 0 0 ≡ 117 → bytes_eq w (codes "udp") ≡ is_own_word w
unfolding is_own_word
own-udp [] long e = absurd (omega arith)
own-udp (b ∷ w) long e =
    subst (λ (x : ℕ). bytes_eq (x ∷ w) (codes "udp") ≡ one_of own_words (x ∷ w)) (sym e)
    (sym (alone (bytes_eq w (codes "dp"))))

-- the words that begin by v
pub own-vlan : (w : List ℕ) → 1 ≤ length w → get_or w 0 0 ≡ 118 → bytes_eq w (codes "vlan") ≡ is_own_word w
unfolding is_own_word
own-vlan [] long e = absurd (omega arith)
own-vlan (b ∷ w) long e =
    subst (λ (x : ℕ). bytes_eq (x ∷ w) (codes "vlan") ≡ one_of own_words (x ∷ w)) (sym e)
    (sym (alone (bytes_eq w (codes "lan"))))

-- no word of the notation begins by another byte
pub own-other : (w : List ℕ) → 1 ≤ length w → get_or w 0 0 ≢ 97 → get_or w 0 0 ≢ 98 → get_or w 0 0 ≢ 100 → get_or w 0 0 ≢ 102
    → get_or w 0 0 ≢ 105 → get_or w 0 0 ≢ 108 → get_or w 0 0 ≢ 110 → get_or w 0 0 ≢ 111 → get_or w 0 0 ≢ 112
    → get_or w 0 0 ≢ 114 → get_or w 0 0 ≢ 115 → get_or w 0 0 ≢ 116 → get_or w 0 0 ≢ 117 → get_or w 0 0 ≢ 118 → false ≡ is_own_word w
unfolding is_own_word
own-other [] long h97 h98 h100 h102 h105 h108 h110 h111 h112 h114 h115 h116 h117 h118 = absurd (omega arith)
own-other (b ∷ w) long h97 h98 h100 h102 h105 h108 h110 h111 h112 h114 h115 h116 h117 h118 =
    rw (
      ne_eqb b 97 h97,
      ne_eqb b 98 h98,
      ne_eqb b 100 h100,
      ne_eqb b 102 h102,
      ne_eqb b 105 h105,
      ne_eqb b 108 h108,
      ne_eqb b 110 h110,
      ne_eqb b 111 h111,
      ne_eqb b 112 h112,
      ne_eqb b 114 h114,
      ne_eqb b 115 h115,
      ne_eqb b 116 h116,
      ne_eqb b 117 h117,
      ne_eqb b 118 h118,
    ) refl

-- the empty word is none
pub own-empty : (w : List ℕ) → length w < 1 → false ≡ is_own_word w
unfolding is_own_word
own-empty [] short = refl
own-empty (b ∷ w) short = absurd (omega arith)
