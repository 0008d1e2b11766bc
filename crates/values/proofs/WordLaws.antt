-- Units, protocols and codes of cells are read exactly where their words are written.
use Rattle.std.proofs.Common.{◌≡◌, ℕ, true, false, List, [], ◌∷◌, Some, refl, sym, subst, inl, inr}
use Rattle.std.specs.Prelude.{◌⊎◌, if◌then◌else◌, codes, bytes_eq}
use Rattle.std.proofs.lemmas.Slice.Eq.{bytes_eq-Decides}
use Rattle.values.specs.Words.{looked_up, units, protocols, cell_words, unit_of, protocol_of, code_of}
use Rattle.values.specs.Grammar.{IsUnit, kbit, mbit, gbit, IsProtocol, tcp, udp, icmp, IsCode, allow, deny, left, right, larger, smaller, both, UnitExactly, ProtocolExactly, CodeExactly}

-- w is the key of an entry with the number n
abbrev Listed : List (List ℕ × ℕ) → List ℕ → ℕ → Type 0
Listed [] w n = ⊥
Listed (e ∷ es) w n = ((e.0 ≡ w) × (e.1 ≡ n)) ⊎ Listed es w n

-- what is found is listed
found : (es : List (List ℕ × ℕ)) (w : List ℕ) (n : ℕ) → looked_up es w ≡ Some n → Listed es w n
found [] w n e = absurd cc
found (k ∷ es) w n e =
    elim (bytes_eq w k.0) as (λ d. bytes_eq w k.0 ≡ d → (if d then Some k.1 else looked_up es w) ≡ Some n → Listed (k ∷ es) w n) [
      | true ↦ λ h g. inl (sym ((bytes_eq-Decides w k.0).0 h), cc)
      | false ↦ λ h g. inr (found es w n g)
    ] refl e

-- a word and a number that stand for two others
swapped : (T : List ℕ → ℕ → Type 0) (k w : List ℕ) (m n : ℕ) → (k ≡ w) × (m ≡ n) → T k m → T w n
swapped T k w m n e t = subst (λ (x : List ℕ). T x n) e.0 (subst (λ (x : ℕ). T k x) e.1 t)

-- each word is read again
unit-again : (w : List ℕ) (n : ℕ) → IsUnit w n → unit_of w ≡ Some n
unfolding unit_of
unit-again w n kbit = refl
unit-again w n mbit = refl
unit-again w n gbit = refl

-- an entry of units
unit-listed : (w : List ℕ) (n : ℕ) → Listed units w n → IsUnit w n
unit-listed w n (inl e) = swapped IsUnit (codes "kbit/s") w 1 n e kbit
unit-listed w n (inr (inl e)) = swapped IsUnit (codes "Mbit/s") w 1000 n e mbit
unit-listed w n (inr (inr (inl e))) = swapped IsUnit (codes "Gbit/s") w 1000000 n e gbit
unit-listed w n (inr (inr (inr none))) = absurd none

-- the law of units
pub unit-exactly : UnitExactly
unfolding unit_of
unit-exactly w n = ((λ e. unit-listed w n (found units w n e)), unit-again w n)

-- each word is read again
protocol-again : (w : List ℕ) (n : ℕ) → IsProtocol w n → protocol_of w ≡ Some n
unfolding protocol_of
protocol-again w n tcp = refl
protocol-again w n udp = refl
protocol-again w n icmp = refl

-- an entry of protocols
protocol-listed : (w : List ℕ) (n : ℕ) → Listed protocols w n → IsProtocol w n
protocol-listed w n (inl e) = swapped IsProtocol (codes "tcp") w 6 n e tcp
protocol-listed w n (inr (inl e)) = swapped IsProtocol (codes "udp") w 17 n e udp
protocol-listed w n (inr (inr (inl e))) = swapped IsProtocol (codes "icmp") w 1 n e icmp
protocol-listed w n (inr (inr (inr none))) = absurd none

-- the law of protocols
pub protocol-exactly : ProtocolExactly
unfolding protocol_of
protocol-exactly w n = ((λ e. protocol-listed w n (found protocols w n e)), protocol-again w n)

-- each word is read again
code-again : (w : List ℕ) (n : ℕ) → IsCode w n → code_of w ≡ Some n
unfolding code_of
code-again w n allow = refl
code-again w n deny = refl
code-again w n left = refl
code-again w n right = refl
code-again w n larger = refl
code-again w n smaller = refl
code-again w n both = refl

-- an entry of cell words
code-listed : (w : List ℕ) (n : ℕ) → Listed cell_words w n → IsCode w n
code-listed w n (inl e) = swapped IsCode (codes "allow") w 1 n e allow
code-listed w n (inr (inl e)) = swapped IsCode (codes "deny") w 2 n e deny
code-listed w n (inr (inr (inl e))) = swapped IsCode (codes "left") w 3 n e left
code-listed w n (inr (inr (inr (inl e)))) = swapped IsCode (codes "right") w 4 n e right
code-listed w n (inr (inr (inr (inr (inl e))))) = swapped IsCode (codes "larger") w 5 n e larger
code-listed w n (inr (inr (inr (inr (inr (inl e)))))) = swapped IsCode (codes "smaller") w 6 n e smaller
code-listed w n (inr (inr (inr (inr (inr (inr (inl e))))))) = swapped IsCode (codes "sum") w 7 n e both
code-listed w n (inr (inr (inr (inr (inr (inr (inr none))))))) = absurd none

-- the law of codes
pub code-exactly : CodeExactly
unfolding code_of
code-exactly w n = ((λ e. code-listed w n (found cell_words w n e)), code-again w n)
