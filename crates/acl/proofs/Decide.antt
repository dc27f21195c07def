-- Document 01's example of `decide`: the views of the six stores are evaluated, and a store's answers are those of its view. Assumes nothing.
use Prim.Native.Nat.{ℕ}
use mathlib.Core.Path.{◌≡◌, refl, ap, ◌∙◌}
use mathlib.Core.Bool.{true}
use mathlib.Core.List.{List, [], ◌∷◌}
use Rattle.std.specs.Prelude.{Option, None, Some}
use Rattle.text.specs.Maybe.{bind}
use lib.ListN.{length}
use Rattle.text.specs.Text.{same, begins, contains, occurs, replace_from, replace}
use Rattle.topic.specs.Topic.{extend_first, with_byte, levels, is_only, wildcard_free, valid_levels, valid_filter, metadata, ends, takes_level, takes, dollar_rule, levels_match, levels_if, checked_levels, tree_match}
use Rattle.json_text.specs.Lines.{extend_line, with_byte as with_byte_of_line, lines}
use Rattle.json_text.specs.Utf8.{between, lead_size, second, tail, sequence, utf8}
use Rattle.json_text.specs.Strings.{escape, raw_piece, piece_of, grown, string_from, string_at}
use Rattle.json_text.specs.Json.{is_at, is_blank, blanks, skip_blanks, kind_of, digits, decimal, plain_number, number_at, word_at, text_at, read_as, separator_at, items_at, bracket_at, element_at, name_at, member_at, array_at, object_at, value_with, value_at, line_value, longest, longest_element, longest_member}
use Rattle.json_text.specs.Access.{count}
use Rattle.table.specs.Table.{some_row, keep, add, add_all, change, distinct, sound}
use Rattle.rule.specs.Rule.{user_means, topic_means, means, lower, is_word, nth, named, as_text, as_number, as_bool, as_array, as_object, value_named, access_of, flag, password_of, user_of, users_in, users_of, control_word, control_of, is_template, topic_of, topics_in, topics_of, rule_in, rule_of}
use Rattle.rule.specs.Fill.{or_nothing, fill}
use Rattle.rule.specs.RuleText.{fourth_over, topics_over, or_not_a_rule, rule_from, read_rule, fault_in, text_fault, rule_on, rules_of, filled_topics, listed, filled_rules, filled, of_kind}
use Rattle.rule.specs.Refusals.{first}
use Rattle.rule.specs.Identity.{is_text, is_number, if_listed, user_agrees, agrees, user_flag, superuser}
use Rattle.store.specs.declared.Counts.{Counts}
use Rattle.store.specs.Store.{one_to, counts_fit, store_length, View, same_eq, same_filter, same_note}
use Rattle.store.specs.Layout.{layout}
use Rattle.store.specs.Opening.{open_fault, opened, after_open}
use Rattle.store.specs.View.{faultless, openable, well_formed, view}
use Rattle.store.proofs.ViewLaws.{view_of_layout}
use Rattle.questions.specs.Question.{over_given, client_over, question_cause}
use Rattle.questions.specs.Decision.{client, keeps, wish, covers, static_agrees, eq_agrees, filter_agrees, topics_agree, wish_agrees, rule_agrees, first_from, refusal, allowance, by_rule, or_kept, decide, decided, ask_view, ask}
use Rattle.events.specs.Event.{over_name, argument_causes, filled_filters, filled_eqs, filter_rows, eq_rows, note_rows, of_session, clears, cleared, filter_change, new_eqs, note_change, effect, store_causes, cause, after}
use Rattle.acl.specs.Demand3.{plain_step}
use Rattle.acl.specs.Decide.{counts, rules, Line, event, question, Answer, says, replies, answers, asked, answered, DecideExample}
use Rattle.acl.proofs.RunLaws.{view-after}

-- the same of the plain machine, on what a store means
unfoldable plain : List Line → Option View → List Answer
plain [] o = []
plain (event e ∷ lines) o = says (cause e o) ∷ plain lines (plain_step e o)
plain (question q ∷ lines) o = replies (ask_view q o) ∷ plain lines o

answers_plain : (lines : List Line) (s : List ℕ) → answers lines s ≡ plain lines (view s)
unfolding answers plain ask
answers_plain [] s = refl
answers_plain (event e ∷ lines) s = ap (λ l. says (cause e (view s)) ∷ l) (answers_plain lines (after e s) ∙ ap (plain lines) (view-after e s))
answers_plain (question q ∷ lines) s = ap (λ l. replies (ask_view q (view s)) ∷ l) (answers_plain lines s)

-- Open takes the rules, the store that it leaves is laid out, and the answers on what that means
evaluated :
    (open_fault counts rules 47888 ≡ None) × (well_formed (opened counts rules) ≡ true) × (plain asked (Some (opened counts rules)) ≡ answered)
unfolding same begins contains occurs replace_from replace extend_first with_byte levels is_only wildcard_free valid_levels valid_filter metadata ends takes_level takes dollar_rule levels_match levels_if checked_levels tree_match extend_line with_byte_of_line lines between lead_size second tail sequence utf8 escape raw_piece piece_of grown string_from string_at is_at is_blank blanks skip_blanks kind_of digits decimal plain_number number_at word_at text_at read_as separator_at items_at bracket_at element_at name_at member_at array_at object_at value_with value_at line_value longest longest_element longest_member count some_row keep add add_all change distinct sound user_means topic_means means lower is_word nth named as_text as_number as_bool as_array as_object value_named access_of flag password_of user_of users_in users_of control_word control_of is_template topic_of topics_in topics_of rule_in rule_of or_nothing fill fourth_over topics_over or_not_a_rule rule_from read_rule fault_in text_fault rule_on rules_of filled_topics listed filled_rules filled of_kind first is_text is_number if_listed user_agrees agrees user_flag superuser one_to counts_fit store_length same_eq same_filter same_note open_fault opened faultless openable well_formed over_given client_over question_cause client keeps wish covers static_agrees eq_agrees filter_agrees topics_agree wish_agrees rule_agrees first_from refusal allowance by_rule or_kept decide decided ask_view over_name argument_causes filled_filters filled_eqs filter_rows eq_rows note_rows of_session clears cleared filter_change new_eqs note_change effect store_causes cause plain_step plain bind
evaluated = (refl, refl, refl)

-- what Open leaves where it has no cause
taken : (c : Counts) (text s : List ℕ) → open_fault c text (length s) ≡ None → after_open c text s ≡ layout (opened c text)
unfolding after_open
taken c text s e = rw (e, after_open)

-- it means the opened view
opened_view : (s : List ℕ) → length s ≡ 47888 → view (after_open counts rules s) ≡ Some (opened counts rules)
opened_view s h =
    ap view (taken counts rules s (ap (open_fault counts rules) h ∙ evaluated.0)) ∙ view_of_layout (opened counts rules) evaluated.1

pub decide_example : DecideExample
decide_example s h = answers_plain asked (after_open counts rules s) ∙ (ap (plain asked) (opened_view s h) ∙ evaluated.2)
