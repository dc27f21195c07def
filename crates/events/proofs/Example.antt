-- The definitions, run: one rule with the template `%c`, a store with room for one row in each table. Assumes nothing.
use Prim.Native.Nat.{ℕ}
use mathlib.Core.Path.{◌≡◌, refl}
use mathlib.Core.Bool.{Bool, true, false}
use mathlib.Core.List.{List, [], ◌∷◌}
use Rattle.std.specs.Prelude.{None}
use Rattle.text.specs.Maybe.{bind}
use Rattle.text.specs.Ascii.{ascii}
use Rattle.text.specs.Text.{same, begins, contains, occurs, replace_from, replace}
use Rattle.topic.specs.Topic.{extend_first, with_byte, levels, is_only, wildcard_free, valid_levels, valid_filter, metadata, ends, takes_level, takes, dollar_rule, levels_match, levels_if, checked_levels, tree_match}
use Rattle.json_text.specs.Lines.{extend_line, with_byte as with_byte_of_line, lines}
use Rattle.json_text.specs.Utf8.{between, lead_size, second, tail, sequence, utf8}
use Rattle.json_text.specs.Strings.{escape, raw_piece, piece_of, grown, string_from, string_at}
use Rattle.json_text.specs.Json.{is_at, is_blank, blanks, skip_blanks, kind_of, digits, decimal, plain_number, number_at, word_at, text_at, read_as, separator_at, items_at, bracket_at, element_at, name_at, member_at, array_at, object_at, value_with, value_at, line_value, longest, longest_element, longest_member}
use Rattle.json_text.specs.Access.{count}
use Rattle.table.specs.Table.{some_row, keep, add, add_all, change, distinct, sound}
use Rattle.table.specs.Bytes.{u16, number, rows, join}
use Rattle.rule.specs.Refusals.{first}
use Rattle.rule.specs.Rule.{user_means, topic_means, means, lower, is_word, nth, named, as_text, as_number, as_bool, as_array, as_object, value_named, access_of, flag, password_of, user_of, users_in, users_of, control_word, control_of, is_template, topic_of, topics_in, topics_of, rule_in, rule_of}
use Rattle.rule.specs.Fill.{or_nothing, fill}
use Rattle.rule.specs.RuleText.{fourth_over, topics_over, or_not_a_rule, rule_from, read_rule, fault_in, text_fault, rule_on, rules_of, filled_topics, listed, filled_rules, filled, of_kind}
use Rattle.store.specs.Store.{one_to, counts_fit, View, same_eq, same_filter, same_note}
use Rattle.store.specs.Layout.{pad, field, filter_text, filter_owner, filter_codec, numbered_text, numbered_codec, put_all, get_all, area, header, layout, counts, text_used, filters_used, eqs_used, notes_used, filters_at, eqs_at, notes_at, text_part, filter_part, eq_part, note_part, read_layout}
use Rattle.store.specs.View.{faultless, openable, rules, bad_eq, bad_filter, bad_note, well_formed, view}
use Rattle.events.specs.Event.{Event, connected, disconnected, ended, over_name, argument_causes, filled_filters, filled_eqs, filter_rows, eq_rows, note_rows, of_session, clears, cleared, filter_change, new_eqs, note_change, effect, store_causes, cause, stored, after, refused}

abbrev opened : View
opened =
    record {
      counts = record { bytes = 64; filters = 1; eqs = 1; notes = 1 };
      text = ascii "[\"allow\",\"all\",\"all\",[\"%c\"]]";
      filters = [];
      eqs = [];
      notes = [];
    }

abbrev events : List Event
events =
    connected 1 (ascii "a") None
    ∷ connected 2 (ascii "b") None
    ∷ disconnected 1 (ascii "a")
    ∷ connected 2 (ascii "b") None
    ∷ ended 1
    ∷ connected 2 (ascii "b") None
    ∷ ended 256
    ∷ []

-- for each event of a run, whether it is refused
abbrev refusals : List Event → List ℕ → List Bool
refusals [] s = []
refusals (e ∷ es) s = refused e s ∷ refusals es (after e s)

-- the second connect finds no room; nor does it after the disconnect, as the note is still there; it does once the session has ended
which : refusals events (layout opened) ≡ false ∷ true ∷ false ∷ true ∷ false ∷ false ∷ true ∷ []
unfolding same begins contains occurs replace_from replace extend_first with_byte levels is_only wildcard_free valid_levels valid_filter metadata ends takes_level takes dollar_rule levels_match levels_if checked_levels tree_match extend_line with_byte_of_line lines between lead_size second tail sequence utf8 escape raw_piece piece_of grown string_from string_at is_at is_blank blanks skip_blanks kind_of digits decimal plain_number number_at word_at text_at read_as separator_at items_at bracket_at element_at name_at member_at array_at object_at value_with value_at line_value longest longest_element longest_member count some_row keep add add_all change distinct sound u16 number rows join first user_means topic_means means lower is_word nth named as_text as_number as_bool as_array as_object value_named access_of flag password_of user_of users_in users_of control_word control_of is_template topic_of topics_in topics_of rule_in rule_of or_nothing fill fourth_over topics_over or_not_a_rule rule_from read_rule fault_in text_fault rule_on rules_of filled_topics listed filled_rules filled of_kind one_to counts_fit same_eq same_filter same_note pad field filter_text filter_owner filter_codec numbered_text numbered_codec put_all get_all area header layout counts text_used filters_used eqs_used notes_used filters_at eqs_at notes_at text_part filter_part eq_part note_part read_layout faultless openable rules bad_eq bad_filter bad_note well_formed view over_name argument_causes filled_filters filled_eqs filter_rows eq_rows note_rows of_session clears cleared filter_change new_eqs note_change effect store_causes cause stored after refused bind
which = refl
