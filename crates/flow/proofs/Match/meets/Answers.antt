-- A test that fails settles the conjunction, and where both addresses pass the rest decides.
use Rattle.std.proofs.Common.{◌≡◌, refl, ℕ, Bool, not, ◌||◌, arith}
use Rattle.std.proofs.lemmas.Grind.{common_steps}
use Rattle.flow.specs.Match.{has_ports, meets_ports, meets}
use Rattle.flow.proofs.Match.meets.Goals as goal

-- the test of the ports, as the code has it
ports : (on : Bool) (q : ℕ) → (not on || has_ports q) ≡ meets_ports on q
unfolding meets_ports
ports on q = refl

pub returns-then-contains-2 : goal.returns-then-contains-2
unfolding meets
returns-then-contains-2 c = grind (arith, common_steps, ports)

pub returns-else-contains-2 : goal.returns-else-contains-2
unfolding meets
returns-else-contains-2 c = grind (arith, common_steps, ports)
