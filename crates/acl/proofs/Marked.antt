-- The marked examples, evaluated. Assumes nothing.
use Rattle.text.specs.Maybe.{bind}
use mathlib.Core.Path.{refl}
use Rattle.text.specs.Text.{same, begins, contains, occurs, replace_from, replace}
use Rattle.topic.specs.Topic.{extend_first, with_byte, levels, is_only, wildcard_free, valid_levels, valid_filter, metadata, ends, takes_level, takes, dollar_rule, levels_match, levels_if, checked_levels, tree_match, plain_match}
use Rattle.json_text.specs.Lines.{extend_line, with_byte as with_byte_of_line, lines}
use Rattle.json_text.specs.Utf8.{between, lead_size, second, tail, sequence, utf8}
use Rattle.json_text.specs.Strings.{hex_digit, hex4, short_escape, low_surrogate, unicode, escape, raw_piece, piece_of, grown, string_from, string_at}
use Rattle.json_text.specs.Json.{is_at, is_blank, blanks, skip_blanks, kind_of, digits, decimal, plain_number, number_at, word_at, text_at, read_as, separator_at, items_at, bracket_at, element_at, name_at, member_at, array_at, object_at, value_with, value_at, line_value, longest, longest_element, longest_member}
use Rattle.json_text.specs.Access.{count}
use Rattle.table.specs.Table.{some_row, keep, add, add_all, change}
use Rattle.rule.specs.Rule.{user_means, topic_means, means, lower, is_word, nth, named, as_text, as_number, as_bool, as_array, as_object, value_named, access_of, flag, password_of, user_of, users_in, users_of, control_word, control_of, is_template, topic_of, topics_in, topics_of, rule_in, rule_of}
use Rattle.rule.specs.Fill.{or_nothing, fill}
use Rattle.rule.specs.RuleText.{fourth_over, topics_over, or_not_a_rule, rule_from, read_rule, fault_in, text_fault, rule_on, rules_of, filled_topics, listed, filled_rules, filled, of_kind}
use Rattle.rule.specs.Refusals.{number, first}
use Rattle.store.specs.Store.{one_to, counts_fit, same_eq, same_filter, same_note}
use Rattle.store.specs.Opening.{opened}
use Rattle.store.specs.View.{faultless, openable}
use Rattle.questions.specs.Question.{over_given, client_over, question_cause}
use Rattle.questions.specs.Decision.{decide, decided, ask_view}
use Rattle.events.specs.Event.{over_name, argument_causes, filled_filters, filled_eqs, filter_rows, eq_rows, note_rows, filter_change, new_eqs, note_change, effect, store_causes, cause}
use Rattle.acl.specs.Marked.{escaped, Marked}

pub marked : Marked
unfolding escaped same begins contains occurs replace_from replace extend_first with_byte levels is_only wildcard_free valid_levels valid_filter metadata ends takes_level takes dollar_rule levels_match levels_if checked_levels tree_match plain_match extend_line with_byte_of_line lines between lead_size second tail sequence utf8 hex_digit hex4 short_escape low_surrogate unicode escape raw_piece piece_of grown string_from string_at is_at is_blank blanks skip_blanks kind_of digits decimal plain_number number_at word_at text_at read_as separator_at items_at bracket_at element_at name_at member_at array_at object_at value_with value_at line_value longest longest_element longest_member count some_row keep add add_all change user_means topic_means means lower is_word nth named as_text as_number as_bool as_array as_object value_named access_of flag password_of user_of users_in users_of control_word control_of is_template topic_of topics_in topics_of rule_in rule_of or_nothing fill fourth_over topics_over or_not_a_rule rule_from read_rule fault_in text_fault rule_on rules_of filled_topics listed filled_rules filled of_kind number first one_to counts_fit same_eq same_filter same_note opened faultless openable over_given client_over question_cause decide decided ask_view over_name argument_causes filled_filters filled_eqs filter_rows eq_rows note_rows filter_change new_eqs note_change effect store_causes cause bind
marked = refl
