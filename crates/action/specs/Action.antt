-- Actions: their kinds and rates, and which two words are an action. Assumes nothing. See docs/FORMAT.md, "Actions".
--
--   largest_rate, gmb      the largest rate, and GMB's kind
--   kind_of a, rate_of a   the two words of an action
--   is_dont_care a         don't care
--   action_of k n          the action of a kind and a rate, by the list actions n
--   right_rate n           a rate that a GMB may have
--   right_action k n       a kind and a rate that are an action's words
--   in_range a             an action whose rate, where it has one, is right
use Rattle.std.specs.Prelude.{ℕ, Bool, true, ◌&&◌, ◌||◌, List, [], ◌∷◌, ◌==◌, nat_le, nat_lt, slice_index_or}
use Rattle.action.specs.declared.Action.{Action}
use Rattle.action.specs.declared.Action.TheVariants.{DontCare, Allow, Deny, Gmb}

-- the largest rate, in kbit/s
abbrev pub largest_rate : ℕ
largest_rate = 100000000

-- GMB's kind: the kinds below it have no rate
abbrev pub gmb : ℕ
gmb = 3

-- an action's kind
abbrev pub kind_of : Action → ℕ
kind_of DontCare = 0
kind_of Allow = 1
kind_of Deny = 2
kind_of (Gmb n) = gmb

-- don't care, by its kind
abbrev pub is_dont_care : Action → Bool
is_dont_care a = kind_of a == kind_of DontCare

-- an action's rate, 0 where it has none
abbrev pub rate_of : Action → ℕ
rate_of DontCare = 0
rate_of Allow = 0
rate_of Deny = 0
rate_of (Gmb n) = n

-- the actions in the order of their kinds, at a rate
abbrev pub actions : ℕ → List Action
actions n = DontCare ∷ Allow ∷ Deny ∷ Gmb n ∷ []

-- the action of a kind and a rate; an unknown kind gives don't care
unfoldable pub action_of : ℕ → ℕ → Action
action_of k n = slice_index_or (actions n) k DontCare

-- a rate that a GMB may have
abbrev pub right_rate : ℕ → Bool
right_rate n = nat_le 1 n && nat_le n largest_rate

-- GMB has a right rate, and for the other kinds the rate is 0
unfoldable pub right_action : ℕ → ℕ → Bool
right_action k n = (nat_lt k gmb && n == 0) || (k == gmb && right_rate n)

-- an action in range
unfoldable pub in_range : Action → Bool
in_range DontCare = true
in_range Allow = true
in_range Deny = true
in_range (Gmb n) = right_rate n
