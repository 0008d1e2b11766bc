-- For each export: its contract, as the checker reads it, asks nothing, and no second answer fits it.
use Rattle.logic.specs.Answers.{OneAnswer, answer_with, answer_and}
use Rattle.logic.proofs.Answers.{fixed, both, all}
use Rattle.speed.proofs.speed_read.Reads as speed_read
use Rattle.speed.proofs.speed_tree.Reads as speed_tree
use Rattle.speed.proofs.speed_compile.Reads as speed_compile
use Rattle.speed.proofs.speed_scan.Reads as speed_scan
use Rattle.speed.proofs.speed_number.Reads as speed_number
use Rattle.speed.proofs.speed_hidden.Reads as speed_hidden
use Rattle.speed.proofs.speed_capture.Reads as speed_capture

speed_read-one : OneAnswer speed_read.Pre speed_read.Post (λ κ r s. r)
speed_read-one = fixed (λ κ a r s p. p)

speed_tree-one : OneAnswer speed_tree.Pre speed_tree.Post (λ κ r s. answer_with r s.1.1.0.now)
speed_tree-one = fixed (λ κ a r s p. both p.0 p.1)

speed_compile-one : OneAnswer speed_compile.Pre speed_compile.Post (λ κ r s. answer_and r s.1.0.now s.1.1.0.now)
speed_compile-one = fixed (λ κ a r s p. all p.0 p.1.0 p.1.1)

speed_scan-one : OneAnswer speed_scan.Pre speed_scan.Post (λ κ r s. answer_with r s.1.1.0.now)
speed_scan-one = fixed (λ κ a r s p. both p.0 p.1)

speed_number-one : OneAnswer speed_number.Pre speed_number.Post (λ κ r s. answer_and r s.1.0.now s.1.1.0.now)
speed_number-one = fixed (λ κ a r s p. all p.0 p.1.0 p.1.1)

speed_hidden-one : OneAnswer speed_hidden.Pre speed_hidden.Post (λ κ r s. answer_with r s.0.now)
speed_hidden-one = fixed (λ κ a r s p. both p.0 p.1)

speed_capture-one : OneAnswer speed_capture.Pre speed_capture.Post (λ κ r s. answer_with r s.1.1.0.now)
speed_capture-one = fixed (λ κ a r s p. both p.0 p.1)
