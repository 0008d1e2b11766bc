-- The worked cases of idle rules, by computation.
use Rattle.std.proofs.Common.{refl}
use Rattle.words.specs.Words.{laid}
use Rattle.field.specs.Prefix.{in_prefix, right_prefix, zero_beyond, prefixes_meet, covers}
use Rattle.field.specs.Value.{values_meet, value_inside, right_value}
use Rattle.flow.specs.Match.{clash, unmet, is_empty, is_none, is_plain, right_match, both, overlap, common, inside}
use Rattle.action.specs.Action.{action_of, right_action}
use Rattle.action.specs.Operator.{coded, join, right_cell}
use Rattle.action.specs.Laws.{commutes, associates, shown, pairs, triples, first_pair, first_triple, law_search}
use Rattle.row.specs.Row.{row_action, right_row_match, right_row_action}
use Rattle.policy.specs.Sections.{count_fault, cells_fault, atom_fault, node_fault, section_fault}
use Rattle.policy.specs.Whole.{shape_fault, sum_fault, operator_fault, laws_fault}
use Rattle.policy.specs.Read.{first_atom, whole_stages, stages, read_as}
use Rattle.compile.specs.Compile.{compiled_rows}
use Rattle.idle.specs.Idle.{without, decides_in}
use Rattle.command_promises.specs.Idle.{IdleShown}

pub idle-shown : IdleShown
unfolding laid in_prefix right_prefix zero_beyond prefixes_meet covers values_meet value_inside right_value clash unmet is_empty is_none is_plain right_match
    both overlap common inside action_of right_action coded join right_cell commutes associates shown pairs triples first_pair first_triple law_search row_action
    right_row_match right_row_action count_fault cells_fault atom_fault node_fault section_fault shape_fault sum_fault operator_fault laws_fault first_atom
    whole_stages stages read_as compiled_rows without decides_in
idle-shown = record { accepted = refl; again = refl; overruled = refl; both = refl; twice = refl; unmet = refl }
