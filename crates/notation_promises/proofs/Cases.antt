-- What the texts of the cases give, by computing it.
use Rattle.std.proofs.Common.{refl}
use Rattle.action.specs.Action.{action_of, right_action, in_range}
use Rattle.field.specs.Prefix.{in_prefix, zero_beyond, right_prefix, prefixes_meet, covers}
use Rattle.notation.specs.Nodes.{operator_for, clause_at, header_at, node_at, no_node, nodes_at, policy_at}
use Rattle.notation.specs.Operators.{builtin_of, new_name, cell_at, line_at, columns_at, table_at, operator_at, operators_at}
use Rattle.notation.specs.Reads.{taken}
use Rattle.notation.specs.Rules.{rate_at, action_at, port_at, optional_port, protocol_number_at, protocol_at, prefix_at, side_at, parts_at, starts_part, match_at, body_at, rule_at, ends_rules, rules_at}
use Rattle.values.specs.Numbers.{number_of, value_below}
use Rattle.values.specs.Prefixes.{address_of, octet_from, octet_then, three_octets, prefix_of}
use Rattle.values.specs.Words.{unit_of, protocol_of, code_of, is_own_word, is_name, near}
use Rattle.std.specs.Fmt.{digits}
use Rattle.canon.specs.Text.{operator_text, rate_text, action_text, value_text, protocol_text, side_text, parts_text, match_text, rule_text, clause_text, node_text}
use Rattle.faults.specs.Message.{found_wanted, around, placed, did_mean, did_mean_either, no_name, say, line}
use Rattle.faults.specs.Shown.{quoted, found, place_text}
use Rattle.faults.specs.Cures.{tokens_at}
use Rattle.notation_promises.specs.Cases.{TextCases}

-- the two texts are read as they stand
pub text-cases : TextCases
unfolding digits action_of right_action in_range in_prefix zero_beyond right_prefix prefixes_meet covers operator_for clause_at header_at node_at
    no_node nodes_at policy_at builtin_of new_name cell_at line_at columns_at table_at operator_at operators_at taken rate_at action_at port_at
    optional_port protocol_number_at protocol_at prefix_at side_at parts_at starts_part match_at body_at rule_at ends_rules rules_at number_of
    value_below address_of octet_from octet_then three_octets prefix_of unit_of protocol_of code_of is_own_word is_name near operator_text
    rate_text action_text value_text protocol_text side_text parts_text match_text rule_text clause_text node_text found_wanted around placed
    did_mean did_mean_either no_name say line quoted found place_text tokens_at
text-cases = record {
  nothing = (_, refl, refl, refl);
  label = (_, refl, refl, refl);
  behind_child = (_, refl, refl, refl);
  no_match = (_, refl, refl, refl);
  second_root = (_, refl, refl, refl);
  label_twice = (_, refl, refl, refl);
  no_operator = (_, refl, refl, refl);
  host_bits = (_, refl, refl, refl);
  no_rate = (_, refl, refl, refl);
  still_open = (_, refl, refl, refl);
  example = (_, refl, refl);
  unlike = (_, refl, refl);
  example_printed = (_, refl, refl);
  says_host_bits = (_, refl, refl);
  says_operator = (_, refl, refl);
  says_port = (_, refl, refl);
  unlike_printed_so = (_, refl, refl);
}
