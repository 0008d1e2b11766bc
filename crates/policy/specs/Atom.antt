-- The atoms of each edition: the row that an atom's words are, and what its edition tests beside.
--
--   atom_row            the words of a row that the words of an atom are
--   atom_beside         what is tested beside the row
--   right_atom_match    the match of an atom is right
--   right_atom_action   its action is right
use Rattle.std.specs.Prelude.{ℕ, Bool, true, ◌&&◌, List}
use Rattle.row.specs.Row.{right_row_match, right_row_action}
use Rattle.policy.specs.declared.Edition.{Edition}
use Rattle.policy.specs.declared.Edition.TheVariants.{First}

-- the words of a row that the words of an atom are
abbrev pub atom_row : Edition → List ℕ → List ℕ
atom_row First r = r

-- what is tested beside the row
abbrev pub atom_beside : Edition → List ℕ → Bool
atom_beside First r = true

-- the match of an atom is right
abbrev pub right_atom_match : Edition → List ℕ → Bool
right_atom_match e r = atom_beside e r && right_row_match (atom_row e r)

-- its action is right
abbrev pub right_atom_action : Edition → List ℕ → Bool
right_atom_action e r = right_row_action (atom_row e r)
