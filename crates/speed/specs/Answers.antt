-- What the exported functions take from the library's answers.
--
--   tree_action        the tree's action
--   with_action l a    the words l, with an action's kind and rate at their start if there is room
--   captured_count r   how many packets a capture has
use Rattle.std.specs.Prelude.{ℕ, List, [], ◌∷◌, Result, Ok, Err}
use Rattle.words.specs.Words.{copied}
use Rattle.action.specs.Action.{kind_of, rate_of}
use Rattle.action.specs.declared.Action.{Action}
use Rattle.tree.specs.Action as tree
use Rattle.refusal.specs.declared.Refusal.{Refusal}

-- the tree's action, don't care where it is refused
abbrev pub tree_action : Result Action Refusal → Action
tree_action r = tree.given r

-- the words l, with an action's kind and rate at their start if there is room
abbrev pub with_action : List ℕ → Action → List ℕ
with_action l a = copied 0 (kind_of a ∷ rate_of a ∷ []) l

-- how many packets a capture has, 0 where it is refused
abbrev pub captured_count : Result ℕ Refusal → ℕ
captured_count (Ok n) = n
captured_count (Err r) = 0
