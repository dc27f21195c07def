-- Worked examples, evaluated: lines of output of document 01, Marked examples, some numbers in decimal, an input taken in byte by byte, and
-- what is said of a client's questions. Assumes nothing.
use Prim.Native.Nat.{ℕ}
use Prim.Native.String.{String}
use mathlib.Core.Bool.{Bool, true, ◌&&◌}
use mathlib.Core.List.{List, [], ◌∷◌, ◌++◌, map}
use Rattle.std.specs.Prelude.{None, Some}
use Rattle.text.specs.Maybe.{bind}
use mathlib.Core.Path.{◌≡◌, refl}
use Rattle.text.specs.Ascii.{ascii}
use Rattle.text.specs.Text.{same, begins, contains, occurs, replace_from, replace}
use Rattle.topic.specs.Topic.{extend_first, with_byte, levels, is_only, wildcard_free, valid_levels, valid_filter, metadata, ends, takes_level, takes, dollar_rule, levels_match, plain_match}
use Rattle.json_text.specs.Lines.{extend_line, with_byte as with_line_byte, lines}
use Rattle.json_text.specs.Utf8.{between, lead_size, second, tail, sequence, utf8}
use Rattle.json_text.specs.Strings.{escape, raw_piece, piece_of, grown, string_from, string_at}
use Rattle.json_text.specs.Json.{is_at, is_blank, blanks, skip_blanks, kind_of, digits, decimal as number_of, plain_number, number_at, word_at, text_at, read_as, separator_at, items_at, bracket_at, element_at, name_at, member_at, array_at, object_at, value_with, value_at, line_value, longest, longest_element, longest_member}
use Rattle.json_text.specs.Access.{count}
use Rattle.rule.specs.Rule.{named, nth, as_text, as_number, as_bool, as_array, value_named}
use Rattle.rule.specs.Refusals.{number}
use Rattle.authinfo.specs.ClientRule.{permission_word, action_word, text_named, qos_level, qos_in, qos_value, qos_of, topic_of, rule_in, configured, put_if, fill_for, filled_topic, with_topic, filled_rule, rule_from, read_line}
use Rattle.authinfo.specs.Decision.{qos_asked, topic_asked, covers, among, qos_hits, publish_retain, retain_hits, topic_hits, hits, with_rule, read_lines, first_hit, allowance, refusal, by_rule, decision, refuse, on_text, name_over, causes, first_fault, ask}
use Rattle.lines.specs.declared.Word.TheVariants.{Done, Kept, Allow, Super, Refuse, Drop, NoDecision}
use Rattle.lines.specs.declared.Said.{Said}
use Rattle.lines.specs.Call.{as_string, is_null, or_null, having}
use Rattle.lines.specs.Said.{says, refused_at, refused_with, malformed}
use Rattle.lines.specs.Client.{elements_of, array_of, client_in, subscribe_in, publish_in, question_by, question_in, decision_said, reply_said, question_said, asked_by, client_said}
use Rattle.lines.specs.declared.RulesTaken.TheVariants.{Part as RulesPart, Whole}
use Rattle.lines.specs.Output.{decimal_up_to, decimal, word_text, line_text, output_line}
use Rattle.lines.specs.Input.{longer, taken, put, kept, rules_taken, rules_kept}
use Rattle.lines.proofs.InputLaws.{short, find, found, text_of, rules_begun, rules_in}

-- the number of a line of input, what is said of it, and the line of output
abbrev Example : Type 0
Example = ℕ × Said × String

abbrev examples : List Example
examples =
    (1, says Refuse 0, "1 refuse 0") ∷
    (2, says Drop 2, "2 drop 2") ∷
    (3, says Done 0, "3 done 0") ∷
    (4, says Allow 1, "4 allow 1") ∷
    (5, says Done 0, "5 done 0") ∷
    (6, says Drop 2, "6 drop 2") ∷
    (7, malformed, "7 error 5") ∷
    (8, says Kept 0, "8 kept 0") ∷
    (9, says Super 12, "9 super 12") ∷
    (10, says NoDecision 0, "10 none 0") ∷
    (0, refused_at 5 3, "0 error 5 3") ∷
    (0, refused_at 4 0, "0 error 4 0") ∷
    []

abbrev all_said : List Example → Bool
all_said [] = true
all_said (e ∷ es) = same (output_line e.0 e.1) (ascii e.2 ++ (10 ∷ [])) && all_said es

pub examples_said : all_said examples ≡ true
unfolding says refused_at malformed decimal_up_to decimal word_text line_text output_line same
examples_said = refl

abbrev numbers : List (ℕ × String)
numbers = (0, "0") ∷ (9, "9") ∷ (10, "10") ∷ (99, "99") ∷ (100, "100") ∷ (2048, "2048") ∷ (18446744073709551615, "18446744073709551615") ∷ []

abbrev all_written : List (ℕ × String) → Bool
all_written [] = true
all_written (n ∷ ns) = same (decimal n.0) (ascii n.1) && all_written ns

pub numbers_written : all_written numbers ≡ true
unfolding decimal_up_to decimal same
numbers_written = refl

-- an input of rules, an empty line and lines, with a buffer of nine bytes: the rules, and the lines, of which one is too long for it
abbrev buffer : List ℕ
buffer = ascii "---------"

abbrev input : List ℕ
input = text_of (ascii "allow" ∷ ascii "no" ∷ [] ∷ ascii "[1]" ∷ [])

pub rules_taken_lem : rules_in input (RulesPart (rules_begun 0 true)) buffer ≡ (Whole 9, ascii "allow" ++ (10 ∷ (ascii "no" ++ (10 ∷ []))))
unfolding rules_in rules_taken rules_kept text_of
rules_taken_lem = refl

pub lines_taken : found (text_of (ascii "[1]" ∷ [] ∷ ascii "[\"ended\",1]" ∷ ascii "[\"ended\"]" ∷ [])) (short 0) buffer
    ≡ Some (ascii "[1]") ∷ Some [] ∷ None ∷ Some (ascii "[\"ended\"]") ∷ []
unfolding find found taken longer kept put text_of
lines_taken = refl

-- questions of a client with the id `g`, as the first line tells it, with a rule that allows the topic `a` and one that denies `b`
abbrev rules : List ℕ
rules =
    text_of
    (ascii "{\"permission\":\"allow\",\"action\":\"all\",\"topic\":\"a\"}" ∷ ascii "{\"permission\":\"deny\",\"action\":\"all\",\"topic\":\"b\"}" ∷ [])

abbrev faulty : List ℕ
faulty = text_of (ascii "{\"permission\":\"allow\",\"action\":\"all\",\"topic\":\"a\"}" ∷ ascii "{}" ∷ [])

abbrev questions : List ((String × List ℕ × String) × Said)
questions =
    (("[false,\"g\",null]", rules, "[\"subscribe\",0,\"a\"]"), says Allow 1)
    ∷ (("[false,\"g\",null]", rules, "[\"subscribe\",0,\"b\"]"), says Refuse 2)
    ∷ (("[false,\"g\",null]", rules, "[\"subscribe\",0,\"c\"]"), says NoDecision 0)
    ∷ (("[false,\"g\",\"n\"]", rules, " [\"publish\",0,false,true,\"a\"]"), says Allow 1)
    ∷ (("[false,\"g\",null]", rules, "[\"publish\",0,false,true,\"b\"]"), says Drop 2)
    ∷ (("[false,\"g\",null]", rules, "[\"publish\",0,false,false,\"b\"]"), says Refuse 2)
    -- a superuser is allowed without a rule
    ∷ (("[true,\"g\",null]", rules, "[\"subscribe\",0,\"b\"]"), says Allow 0)
    -- rules with a faulty line are refused with it, a superuser's too
    ∷ (("[false,\"g\",null]", faulty, "[\"subscribe\",0,\"a\"]"), refused_at 6 2)
    ∷ (("[true,\"g\",null]", faulty, "[\"subscribe\",0,\"a\"]"), refused_at 6 2)
    -- no question: a wrong number of elements, an unknown word, a flag that is no bool, no array; and no client
    ∷ (("[false,\"g\",null]", faulty, "[\"subscribe\",0]"), refused_at 5 0)
    ∷ (("[false,\"g\",null]", faulty, "[\"subscribe\",0,\"a\",0]"), refused_at 5 0)
    ∷ (("[false,\"g\",null]", rules, "[\"connect\",0,\"a\"]"), refused_at 5 0)
    ∷ (("[false,\"g\",null]", rules, "[\"publish\",0,0,true,\"a\"]"), refused_at 5 0)
    ∷ (("[false,\"g\",null]", rules, "{}"), refused_at 5 0)
    ∷ (("[false,null,null]", rules, "[\"subscribe\",0,\"a\"]"), refused_at 5 0)
    ∷ (("[false,\"g\"]", rules, "[\"subscribe\",0,\"a\"]"), refused_at 5 0)
    ∷ []

pub questions_answered : map (λ q. client_said (ascii q.0.0) q.0.1 (ascii q.0.2)) questions ≡ map (λ q. q.1) questions
unfolding same begins contains occurs replace_from replace extend_first with_byte levels is_only wildcard_free valid_levels valid_filter metadata ends takes_level takes dollar_rule levels_match plain_match extend_line with_line_byte lines between lead_size second tail sequence utf8 escape raw_piece piece_of grown string_from string_at is_at is_blank blanks skip_blanks kind_of digits number_of plain_number number_at word_at text_at read_as separator_at items_at bracket_at element_at name_at member_at array_at object_at value_with value_at line_value longest longest_element longest_member count named nth as_text as_number as_bool as_array value_named number permission_word action_word text_named qos_level qos_in qos_value qos_of topic_of rule_in configured put_if fill_for filled_topic with_topic filled_rule rule_from read_line qos_asked topic_asked covers among qos_hits publish_retain retain_hits topic_hits hits with_rule read_lines first_hit allowance refusal by_rule decision refuse on_text name_over causes first_fault ask bind as_string is_null or_null having says refused_at refused_with elements_of array_of client_in subscribe_in publish_in question_by question_in decision_said reply_said question_said asked_by client_said text_of
questions_answered = refl
