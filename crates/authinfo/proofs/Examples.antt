-- Document 01's sentences on per-client rules, on small texts: one list, one claim. Assumes nothing.
use Prim.Native.Nat.{ℕ}
use Prim.Native.String.{String}
use mathlib.Core.Path.{◌≡◌, refl}
use mathlib.Core.Bool.{Bool, true, false}
use mathlib.Core.List.{List, [], ◌∷◌, ◌++◌, map}
use Rattle.std.specs.Prelude.{None, Some, Option}
use Rattle.text.specs.Maybe.{bind}
use lib.ListN.{replicate}
use Rattle.text.specs.Ascii.{ascii}
use Rattle.text.specs.Text.{same, begins, contains, occurs, replace_from, replace}
use Rattle.topic.specs.Topic.{extend_first, with_byte, levels, is_only, wildcard_free, valid_levels, valid_filter, metadata, ends, takes_level, takes, dollar_rule, levels_match, plain_match}
use Rattle.json_text.specs.Lines.{extend_line, with_byte as with_line_byte, lines}
use Rattle.json_text.specs.Utf8.{between, lead_size, second, tail, sequence, utf8}
use Rattle.json_text.specs.Strings.{escape, raw_piece, piece_of, grown, string_from, string_at}
use Rattle.json_text.specs.Json.{is_at, is_blank, blanks, skip_blanks, kind_of, digits, decimal, plain_number, number_at, word_at, text_at, read_as, separator_at, items_at, bracket_at, element_at, name_at, member_at, array_at, object_at, value_with, value_at, line_value, longest, longest_element, longest_member}
use Rattle.rule.specs.Rule.{named, as_text, as_number, as_bool, as_array, value_named}
use Rattle.rule.specs.Refusals.{number}
use Rattle.authinfo.specs.ClientRule.{permission_word, action_word, text_named, qos_level, qos_in, qos_value, qos_of, topic_of, rule_in, configured, put_if, fill_for, filled_topic, with_topic, filled_rule, rule_from, read_line}
use Rattle.authinfo.specs.Decision.{Client, Question, subscribe, publish, subscribes, publishes, not_authorized, no_decision, Reply, refuses, decides, qos_asked, topic_asked, covers, among, qos_hits, publish_retain, retain_hits, topic_hits, hits, with_rule, read_lines, first_hit, allowance, refusal, by_rule, decision, refuse, on_text, name_over, causes, first_fault, ask}
use Rattle.authinfo.specs.Expiry as time
use Rattle.authinfo.specs.Expiry.{over_nanoseconds, below, expiry_over, is_expired, expiry}
use Rattle.authinfo.specs.declared.Time.{Time}

-- a client asks, by the lines of its rules; or credentials are looked at, at some seconds and nanoseconds
pub data Case : Type 0 where
  asks : Client → List (List ℕ) → Question → Case
  expires : Option Time → ℕ → ℕ → Case

pub data Outcome : Type 0 where
  reply : Reply → Outcome
  answer : time.Reply → Outcome

-- each line with its LF
abbrev pub joined : List (List ℕ) → List ℕ
joined [] = []
joined (line ∷ rest) = line ++ (10 ∷ joined rest)

abbrev pub outcome : Case → Outcome
outcome (asks c rules q) = reply (ask c (joined rules) q)
outcome (expires e seconds nanoseconds) = answer (expiry e (record { seconds = seconds; nanoseconds = nanoseconds }))

-- a client with the id `g`, without or with a name, and as a superuser
abbrev pub nameless : Client
nameless = record { superuser = false; id = ascii "g"; name = None }

abbrev pub called : String → Client
called name = record { superuser = false; id = ascii "g"; name = Some (ascii name) }

abbrev pub super : Client
super = record { superuser = true; id = ascii "g"; name = None }

-- a rule with a permission, other members and a topic
abbrev pub rule : String → String → List ℕ → List ℕ
rule permission members topic =
    ascii "{\"permission\":\"" ++ (ascii permission ++ (ascii "\",\"action\":\"all\"," ++ (ascii members ++ (ascii "\"topic\":\"" ++ (topic ++ ascii "\"}")))))

abbrev pub allows : String → List (List ℕ)
allows topic = rule "allow" "" (ascii topic) ∷ []

-- one rule, of the topic `a`
abbrev pub one : String → String → List (List ℕ)
one permission members = rule permission members (ascii "a") ∷ []

abbrev pub letters : ℕ → List ℕ
letters n = replicate n 0x61

-- a subscribe with QoS 0; a publish with QoS 0 and the disconnect flag, retained or not
abbrev pub to : String → Question
to topic = subscribe 0 (ascii topic)

abbrev pub sends : Bool → Question
sends retained = publish 0 retained true (ascii "a")

-- the replies: allowed by the rule of this number, no decision, refused by number
abbrev pub allowed : ℕ → Outcome
allowed n = reply (decides (subscribes n 0))

abbrev pub undecided : Outcome
undecided = reply (decides no_decision)

abbrev pub refused : ℕ → ℕ → Outcome
refused number line = reply (refuses number line)

abbrev pub examples : List (Case × Outcome)
examples =
    -- "in a topic without `${clientid}`, a user name spelled so stays text"
    (asks (called "${clientid}") (allows "${username}") (to "${clientid}"), allowed 1)
    ∷ (asks (called "${clientid}") (allows "${username}") (to "g"), undecided)
    ∷ (asks (called "${clientid}") (allows "${username}/${clientid}") (to "g/g"), allowed 1)
    -- "Without a user name such a topic is refused (`${username}` only)"
    ∷ (asks nameless (allows "${username}") (to "g"), refused 6 1)
    ∷ (asks nameless (allows "${clientid}") (to "g"), allowed 1)
    ∷ (asks nameless (allows "${ipaddr}") (to "${ipaddr}"), allowed 1)
    -- "After `eq ` the rest is compared exactly and may be empty; else a filter, non-empty before filling"
    ∷ (asks nameless (allows "eq  a") (to " a"), allowed 1)
    ∷ (asks nameless (allows "eq  a") (to "a"), undecided)
    ∷ (asks nameless (allows "eq +") (to "a"), undecided)
    ∷ (asks nameless (allows "eq ") (to ""), allowed 1)
    ∷ (asks nameless (allows "") (to ""), refused 6 1)
    ∷ (asks (called "") (allows "${username}") (to ""), allowed 1)
    -- "7 the filled text over 256; then 6 if it is no filter"
    ∷ (asks (called "aaaaaaaaaaa") (rule "allow" "" (letters 245 ++ ascii "${username}") ∷ []) (subscribe 0 (letters 256)), allowed 1)
    ∷ (asks (called "aaaaaaaaaaaa") (rule "allow" "" (letters 245 ++ ascii "${username}") ∷ []) (subscribe 0 (letters 256)), refused 7 1)
    ∷ (asks (called "#") (allows "a${username}") (to "a"), refused 6 1)
    -- "each modulo 256 and then 0 to 2, non-numbers in an array dropped, an empty array never hits"
    ∷ (asks nameless (one "allow" "\"qos\":[],") (to "a"), undecided)
    ∷ (asks nameless (one "allow" "\"qos\":258,") (subscribe 2 (ascii "a")), reply (decides (subscribes 1 2)))
    ∷ (asks nameless (one "allow" "\"qos\":258,") (to "a"), undecided)
    ∷ (asks nameless (one "allow" "\"qos\":259,") (to "a"), refused 6 1)
    ∷ (asks nameless (one "allow" "\"qos\":[null,256],") (to "a"), allowed 1)
    -- "`permission` and `action` .., exact case"; of two the last counts
    ∷ (asks nameless (one "allow" "\"action\":\"publish\",") (to "a"), undecided)
    ∷ (asks nameless (one "allow" "\"action\":\"publish\",") (sends false), reply (decides (publishes 1)))
    ∷ (asks nameless (one "Allow" "") (to "a"), refused 6 1)
    -- "An allow rule with retain false doesn't hit a retained publish, with true it hits either; a deny rule needs equality"
    ∷ (asks nameless (one "allow" "\"retain\":false,") (sends true), undecided)
    ∷ (asks nameless (one "allow" "\"retain\":true,") (sends false), reply (decides (publishes 1)))
    ∷ (asks nameless (one "deny" "\"retain\":true,") (sends false), undecided)
    ∷ (asks nameless (one "deny" "\"retain\":true,") (sends true), reply (decides (not_authorized 1 (Some true))))
    -- "`retain` counts if boolean"; "Subscribe ignores retain"
    ∷ (asks nameless (one "deny" "\"retain\":1,") (sends false), reply (decides (not_authorized 1 (Some true))))
    ∷ (asks nameless (one "deny" "\"retain\":true,") (to "a"), reply (decides (not_authorized 1 None)))
    -- "Superuser allows, rule 0, once nothing is refused by number"
    ∷ (asks super (one "deny" "") (to "a"), allowed 0)
    ∷ (asks super (rule "deny" "" (ascii "a") ∷ ascii "{}" ∷ []) (to "a"), refused 6 2)
    -- "the first rule that hits decides"; a faulty line behind it is refused all the same
    ∷ (asks nameless (rule "allow" "" (ascii "b") ∷ rule "allow" "" (ascii "a") ∷ rule "deny" "" (ascii "a") ∷ []) (to "a"), allowed 2)
    ∷ (asks nameless (rule "allow" "" (ascii "a") ∷ ascii "[" ∷ []) (to "a"), refused 5 2)
    -- plain matching; request b) of document 02: "So `bench/g7/#` takes `bench/g7/$step`, and `+` no longer takes `$SYS/a/b`"
    ∷ (asks nameless (allows "bench/g7/#") (to "bench/g7/start"), allowed 1)
    ∷ (asks nameless (allows "bench/g7/#") (to "bench/g7/$step"), allowed 1)
    ∷ (asks nameless (allows "+") (to "$SYS/a/b"), undecided)
    -- "1 id, name or topic .., text over 32,768 (line 0), then over 256 lines (line 257). 2 QoS over 2"
    ∷ (asks (record { superuser = true; id = letters 64; name = Some (letters 64) }) [] (to "a"), allowed 0)
    ∷ (asks (record { superuser = true; id = letters 65; name = None }) [] (to "a"), refused 1 0)
    ∷ (asks (record { superuser = true; id = []; name = Some (letters 65) }) [] (to "a"), refused 1 0)
    ∷ (asks nameless (allows "#") (subscribe 0 (letters 256)), allowed 1)
    ∷ (asks nameless (allows "#") (subscribe 0 (letters 257)), refused 1 0)
    ∷ (asks nameless (letters 32767 ∷ []) (to "a"), refused 1 1)
    ∷ (asks nameless (letters 32768 ∷ []) (to "a"), refused 1 0)
    ∷ (asks nameless (replicate 256 []) (to "a"), refused 5 1)
    ∷ (asks nameless (replicate 257 []) (to "a"), refused 1 257)
    ∷ (asks nameless [] (subscribe 3 (ascii "a")), refused 2 0)
    -- "Expired: expiry below now; equal isn't; none never"; "nanoseconds of either time over 999,999,999"
    ∷ (expires (Some (record { seconds = 5; nanoseconds = 7 })) 5 7, answer (time.decides false))
    ∷ (expires (Some (record { seconds = 5; nanoseconds = 7 })) 5 8, answer (time.decides true))
    ∷ (expires (Some (record { seconds = 5; nanoseconds = 7 })) 6 0, answer (time.decides true))
    ∷ (expires (Some (record { seconds = 5; nanoseconds = 7 })) 4 8, answer (time.decides false))
    ∷ (expires None 5 7, answer (time.decides false))
    ∷ (expires (Some (record { seconds = 5; nanoseconds = 1000000000 })) 5 7, answer (time.refuses 2))
    ∷ (expires None 5 1000000000, answer (time.refuses 2))
    ∷ []

pub evaluated : map (λ e. outcome e.0) examples ≡ map (λ e. e.1) examples
unfolding same begins contains occurs replace_from replace extend_first with_byte levels is_only wildcard_free valid_levels valid_filter metadata ends takes_level takes dollar_rule levels_match plain_match extend_line with_line_byte lines between lead_size second tail sequence utf8 escape raw_piece piece_of grown string_from string_at is_at is_blank blanks skip_blanks kind_of digits decimal plain_number number_at word_at text_at read_as separator_at items_at bracket_at element_at name_at member_at array_at object_at value_with value_at line_value longest longest_element longest_member named as_text as_number as_bool as_array value_named number permission_word action_word text_named qos_level qos_in qos_value qos_of topic_of rule_in configured put_if fill_for filled_topic with_topic filled_rule rule_from read_line qos_asked topic_asked covers among qos_hits publish_retain retain_hits topic_hits hits with_rule read_lines first_hit allowance refusal by_rule decision refuse on_text name_over causes first_fault ask over_nanoseconds below expiry_over is_expired expiry bind
evaluated = refl
