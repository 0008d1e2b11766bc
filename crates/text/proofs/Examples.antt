-- The examples, by computation.
use mathlib.Core.Path.{refl}
use Rattle.std.specs.Prelude.{⊤}
use Rattle.field.specs.Prefix.{in_prefix, right_prefix, zero_beyond, prefixes_meet, covers}
use Rattle.field.specs.Value.{meets_value, values_meet, value_inside, right_value}
use Rattle.words.specs.Words.{laid}
use Rattle.words.specs.Records.{rows_of}
use Rattle.flow.specs.Match.{clash, unmet, is_empty, is_none, is_plain, right_match, overlap, common, both, inside}
use Rattle.action.specs.Action.{action_of, right_action, in_range}
use Rattle.action.specs.Operator.{coded, join, right_cell}
use Rattle.action.specs.Laws.{commutes, associates, shown, pairs, triples, first_pair, first_triple, law_search}
use Rattle.row.specs.Row.{row_action, right_row_match, right_row_action, right_row}
use Rattle.policy.specs.Sections.{count_fault, cells_fault, atom_fault, node_fault, section_fault}
use Rattle.policy.specs.Whole.{shape_fault, sum_fault, operator_fault, laws_fault}
use Rattle.policy.specs.Read.{whole_stages, stages, read_as}
use Rattle.table.specs.Table.{right_length, check_rows, check_of}
use Rattle.hidden.specs.Hidden.{kept_words, kept_of, table_kept}
use Rattle.priority.specs.Numbering.{over, levels_of, number_of}
use Rattle.compile.specs.Compile.{compiled_rows, answer_of, table_after}
use Rattle.std.specs.Fmt.{digits}
use Rattle.show.specs.Text.{number, value_text, address, match_text, action_text, line, head, refusal}
use Rattle.show.specs.Sheet.{table_text}
use Rattle.text.specs.Listing.{right_input, shown_text, file_text, listing_of}
use Rattle.text.specs.Theorems.{ExamplesListed}

-- an `unfolding` of this one unfolds all that the listing of a file computes with
unfoldable pub computed : ⊤
unfolding in_prefix right_prefix zero_beyond prefixes_meet covers meets_value values_meet value_inside right_value laid rows_of clash
    unmet is_empty is_none is_plain right_match overlap common both inside action_of right_action in_range coded join right_cell commutes associates shown pairs triples first_pair first_triple
    law_search row_action right_row_match right_row_action right_row count_fault cells_fault atom_fault node_fault section_fault shape_fault sum_fault
    operator_fault
    laws_fault whole_stages stages read_as right_length check_rows check_of kept_words kept_of table_kept over levels_of number_of compiled_rows answer_of
    table_after digits number value_text address match_text action_text line head refusal right_input table_text shown_text file_text listing_of
computed = tt

pub examples-listed : ExamplesListed
unfolding computed
examples-listed = (refl, (refl, (refl, (refl, (refl, tt)))))
