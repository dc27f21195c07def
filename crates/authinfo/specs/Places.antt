-- What the functions that read a client's rule answer, by the places of its members in the line.
use Rattle.std.specs.Prelude.{ℕ, ◌%◌, ◌≤◌, Bool, true, false, ◌&&◌, ◌||◌, cond, List, [], ◌∷◌, eqb, ltb, leb, length, Option, None, Some, Ok, Err, Result}
use Rattle.std.specs.Bool.{then_some}
use Rattle.std.specs.Option.{option_map, option_or}
use Rattle.text.specs.Ascii.{ascii}
use Rattle.text.specs.Text.{replace}
use Rattle.json_text.specs.Lines.{lines}
use Rattle.json_text.specs.Strings.{Decoded, string_at}
use Rattle.json_text.specs.Access.{string_is, member_value, member_named, number_here, kind_at, first_item, places_from}
use Rattle.json_text.specs.declared.Kind.TheVariants.{Number, Text, Array, Object, Word, Blank, Other}
use Rattle.rule.specs.Limits.{text_limit, id_limit}
use Rattle.rule.specs.Members.{truth_from}
use Rattle.rule.specs.declared.Fault.{Fault}
use Rattle.rule.specs.declared.Refusal.TheVariants.{NotARule}
use Rattle.authinfo.specs.ClientRule as spec
use Rattle.authinfo.specs.ClientRule.{ClientRule, clientid, topic_of, fill_for, filled_topic}
use Rattle.authinfo.specs.Decision.{Client, Question, subscribe, publish, TextRead, faulty, reads, covers, retain_hits, qos_asked, topic_hits, hits, read_lines, first_hit, name_over, client_text_limit, causes, first_fault}
use Rattle.authinfo.specs.declared.Action.{Action}
use Rattle.authinfo.specs.declared.Action.TheVariants as action
use Rattle.authinfo.specs.declared.Asked.{Asked}
use Rattle.authinfo.specs.declared.Asked.TheVariants as asked
use Rattle.authinfo.specs.declared.RulePlaces.{RulePlaces}
use Rattle.rule.specs.declared.Refusal.{Refusal}
use Rattle.authinfo.specs.declared.Hit.{Hit}

-- the question, as far as a rule looks at it: no rule looks at the disconnect flag
unfoldable pub question_of : Asked → List ℕ → Question
question_of (asked.Subscribe qos) topic = subscribe qos topic
question_of (asked.Publish qos retained) topic = publish qos retained false topic

unfoldable pub qos_of_asked : Asked → ℕ
qos_of_asked a = qos_asked (question_of a [])

-- the places of the object at a place, of one member more, and of none
unfoldable pub places_at : List ℕ → ℕ → RulePlaces
places_at line at =
    record {
      permission = member_named (ascii "permission") line at;
      action = member_named (ascii "action") line at;
      qos = member_named (ascii "qos") line at;
      retain = member_named (ascii "retain") line at;
      topic = member_named (ascii "topic") line at;
    }

unfoldable pub noted_at : List ℕ → ℕ → RulePlaces → RulePlaces
noted_at line at m =
    record {
      permission = cond (string_is line at (ascii "permission")) (member_value line at) m.permission;
      action = cond (string_is line at (ascii "action")) (member_value line at) m.action;
      qos = cond (string_is line at (ascii "qos")) (member_value line at) m.qos;
      retain = cond (string_is line at (ascii "retain")) (member_value line at) m.retain;
      topic = cond (string_is line at (ascii "topic")) (member_value line at) m.topic;
    }

abbrev pub no_places : RulePlaces
no_places = record { permission = None; action = None; qos = None; retain = None; topic = None }

-- the permission and the action at a place
unfoldable pub permission_here : List ℕ → Option ℕ → Option Bool
permission_here line None = None
permission_here line (Some p) =
    cond (string_is line p (ascii "allow")) (Some true) (cond (string_is line p (ascii "deny")) (Some false) None)

unfoldable pub action_here : List ℕ → Option ℕ → Option Action
action_here line None = None
action_here line (Some p) =
    cond (string_is line p (ascii "all")) (Some action.All)
    (cond (string_is line p (ascii "publish")) (Some action.Publish)
    (cond (string_is line p (ascii "subscribe")) (Some action.Subscribe) None))

-- one more number of a rule's QoS, behind others that take the asked one or not
unfoldable pub with_level : ℕ → Bool → ℕ → Option Bool
with_level q takes n = cond (leb (n % 256) 2) (Some (eqb (n % 256) q || takes)) None

unfoldable pub level_here : List ℕ → ℕ → Bool → ℕ → Option Bool
level_here line q takes p = elim (number_here line p) [ Some n ↦ with_level q takes n | None ↦ Some takes ]

-- the elements at these places
unfoldable pub levels_at : List ℕ → ℕ → Bool → List ℕ → Option Bool
levels_at line q takes [] = Some takes
levels_at line q takes (p ∷ places) = elim (level_here line q takes p) [ Some now ↦ levels_at line q now places | None ↦ None ]

-- and all of the array at a place
unfoldable pub levels_from : List ℕ → ℕ → ℕ → Option Bool
levels_from line q at = levels_at line q false (places_from line (first_item 0x5b 0x5d line at))

-- a number alone
unfoldable pub one_level : ℕ → Option ℕ → Option Bool
one_level q (Some n) = with_level q false n
one_level q None = None

-- a rule's QoS at a place: absent, a number or an array
unfoldable pub qos_here : List ℕ → ℕ → Option ℕ → Option Bool
qos_here line q None = Some true
qos_here line q (Some p) =
    elim (kind_at line p) [
      | Number ↦ one_level q (number_here line p)
      | Text ↦ None
      | Array ↦ levels_from line q p
      | Object ↦ None
      | Word ↦ None
      | Blank ↦ None
      | Other ↦ None
    ]

-- a rule's action and its retain, by its permission, take what is asked
unfoldable pub takes_kind : Bool → Action → Option Bool → Asked → Bool
takes_kind allow act retain a = covers act (question_of a []) && retain_hits allow retain (question_of a [])

-- the client id put where the configured topic held its word
unfoldable pub id_put : Bool → List ℕ → List ℕ → List ℕ
id_put held id t = cond held (replace clientid id t) t

-- a filled topic on the asked one
unfoldable pub taken_by : List ℕ → Result spec.Topic Refusal → Result Bool Refusal
taken_by topic (Err cause) = Err cause
taken_by topic (Ok t) = Ok (topic_hits t topic)

-- a configured topic, if there is one, filled for the client
unfoldable pub filled_for : List ℕ → Option (List ℕ) → Option spec.Topic → Result spec.Topic Refusal
filled_for id name None = Err NotARule
filled_for id name (Some t) = filled_topic t.eq (fill_for id name t.text)

unfoldable pub topic_takes : List ℕ → List ℕ → Option (List ℕ) → Option (List ℕ) → Result Bool Refusal
topic_takes topic id name None = Err NotARule
topic_takes topic id name (Some t) = taken_by topic (filled_for id name (topic_of t))

-- the decoded text of a string, if one stands there
unfoldable pub text_of : Option Decoded → Option (List ℕ)
text_of None = None
text_of (Some d) = Some d.text

-- a text of at most 256 bytes; so is a string, if one stands there; and the string at a place
abbrev pub Short : List ℕ → Type 0
Short t = length t ≤ text_limit

abbrev pub ShortAt : Option Decoded → Type 0
ShortAt None = Unit {0}
ShortAt (Some d) = Short d.text

abbrev pub ShortTopic : List ℕ → Option ℕ → Type 0
ShortTopic line None = Unit {0}
ShortTopic line (Some p) = ShortAt (string_at line p)

-- what a rule says: whether it allows, if it hits
abbrev pub verdict : Bool → Bool → Option Bool
verdict allow hit = then_some hit allow

-- the topic decides, where all else is read
unfoldable pub by_topic : Bool → Bool → Result Bool Refusal → Result (Option Bool) Refusal
by_topic allow rest (Err cause) = Err cause
by_topic allow rest (Ok taken) = Ok (verdict allow (rest && taken))

unfoldable pub topic_from : List ℕ → List ℕ → Option (List ℕ) → List ℕ → Option ℕ → Result Bool Refusal
topic_from topic id name line None = Err NotARule
topic_from topic id name line (Some p) = topic_takes topic id name (text_of (string_at line p))

unfoldable pub with_qos : Bool → Bool → Option Bool → Result Bool Refusal → Result (Option Bool) Refusal
with_qos allow kind None topic = Err NotARule
with_qos allow kind (Some level) topic = by_topic allow (level && kind) topic

unfoldable pub with_action : Bool → Option Bool → Asked → Option Action → Option Bool → Result Bool Refusal → Result (Option Bool) Refusal
with_action allow retain a None qos topic = Err NotARule
with_action allow retain a (Some act) qos topic = with_qos allow (takes_kind allow act retain a) qos topic

unfoldable pub with_permission : Option Bool → Asked → Option Bool → Option Action → Option Bool → Result Bool Refusal → Result (Option Bool) Refusal
with_permission retain a None act qos topic = Err NotARule
with_permission retain a (Some allow) act qos topic = with_action allow retain a act qos topic

-- the rule of an object with members at these places
unfoldable pub rule_says : List ℕ → RulePlaces → Asked → List ℕ → Option (List ℕ) → List ℕ → Result (Option Bool) Refusal
rule_says line m a id name topic =
    with_permission
    (truth_from line m.retain)
    a
    (permission_here line m.permission)
    (action_here line m.action)
    (qos_here line (qos_of_asked a) m.qos)
    (topic_from topic id name line m.topic)

-- and of a line
unfoldable pub line_says : Question → Result ClientRule Refusal → Result (Option Bool) Refusal
line_says q (Err cause) = Err cause
line_says q (Ok r) = Ok (verdict r.allow (hits q r))

-- the first hit so far, and what one rule more says
abbrev pub or_hit : Option Hit → Option Bool → ℕ → Option Hit
or_hit found said n = option_or found (option_map (λ allow. record { rule = n; allow = allow }) said)

-- the first hit of a text
unfoldable pub hit_of : Option (ℕ × ClientRule) → Option Hit
hit_of None = None
hit_of (Some h) = Some (record { rule = h.0; allow = h.1.allow })

unfoldable pub hit_in : Question → TextRead → Result (Option Hit) Fault
hit_in q (faulty f) = Err f
hit_in q (reads rules) = Ok (hit_of (first_hit q 1 rules))

-- "1 id, name or topic as above, text over 32,768"
unfoldable pub too_long : List ℕ → Option (List ℕ) → List ℕ → List ℕ → Bool
too_long id name topic rules =
    ltb id_limit (length id) || (name_over name || (ltb text_limit (length topic) || ltb client_text_limit (length rules)))

-- "Superuser allows, rule 0, once nothing is refused by number"
unfoldable pub for_client : Bool → Result (Option Hit) Fault → Result (Option Hit) Fault
for_client superuser (Err f) = Err f
for_client superuser (Ok hit) = Ok (cond superuser (Some (record { rule = 0; allow = true })) hit)

-- a refusal by the arguments alone, before any line is read
unfoldable pub unless_fault : Option Fault → Result (Option Hit) Fault → Result (Option Hit) Fault
unless_fault None hit = hit
unless_fault (Some f) hit = Err f

-- the rule that decides, or the first refusal by number
unfoldable pub deciding : Client → List ℕ → Question → Result (Option Hit) Fault
deciding c rules q =
    unless_fault (first_fault (causes c rules q)) (for_client c.superuser (hit_in q (read_lines c.id c.name 1 (lines rules))))
