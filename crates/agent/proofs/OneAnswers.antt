-- For each export: its contract, as the checker reads it, asks nothing, and no second answer fits it.
use Rattle.std.proofs.Common.{ℕ, ◌≡◌, List}
use Rattle.logic.specs.Answers.{OneAnswer, answer_with}
use Rattle.logic.proofs.Answers.{fixed, both}
use Rattle.agent.proofs.agent_scan.Reads as agent_scan
use Rattle.agent.proofs.agent_number.Reads as agent_number

-- a result, with the words of three lent buffers
abbrev answer_three : {X : Type 0} → X → List ℕ → List ℕ → List ℕ → X × List ℕ × List ℕ × List ℕ
answer_three r b c d = (r, b, c, d)

three : {X : Type 0} {r r' : X} {b b' c c' d d' : List ℕ} → r ≡ r' → b ≡ b' → c ≡ c' → d ≡ d' → answer_three r b c d ≡ answer_three r' b' c' d'
three p q e f = rw (p, q, e, f)

agent_scan-one : OneAnswer agent_scan.Pre agent_scan.Post (λ κ r s. answer_with r s.1.1.0.now)
agent_scan-one = fixed (λ κ a r s p. both p.0 p.1)

agent_number-one : OneAnswer agent_number.Pre agent_number.Post (λ κ r s. answer_three r s.1.0.now s.1.1.0.now s.1.1.1.0.now)
agent_number-one = fixed (λ κ a r s p. three p.0 p.1.1.0 p.1.1.1 p.1.0)
