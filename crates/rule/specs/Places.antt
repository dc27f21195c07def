-- What the reading functions answer: rules by the places of their texts in the line.
use Rattle.std.specs.Prelude.{ℕ, zero, suc, ◌%◌, Bool, true, false, ◌&&◌, ◌||◌, cond, List, ltb, leb, length, Option, None, Some, is_some, option_map, option_and_then, Ok, Err, Result, ⊤}
use Rattle.text.specs.Maybe.{bind}
use Rattle.text.specs.Ascii.{ascii}
use Rattle.text.specs.Text.{fitted, replace, written}
use Rattle.topic.specs.Topic.{valid_filter}
use Rattle.json_text.specs.Strings.{Decoded, string_at}
use Rattle.json_text.specs.Json.{Json, Elements, Members, is_at, skip_blanks, value_at, depth_limit}
use Rattle.json_text.specs.Access.{kind_at, first_item, next_item, element_count}
use Rattle.json_text.specs.declared.Kind.{Kind}
use Rattle.json_text.specs.declared.Kind.TheVariants.{Number, Text, Array, Object, Word as WordKind, Blank, Other as OtherKind}
use Rattle.rule.specs.Limits.{text_limit, id_limit, topics_limit, lines_limit}
use Rattle.rule.specs.Rule as spec
use Rattle.rule.specs.Rule.{Located, Value, is_word, is_template, as_text, as_number, as_bool, as_object, value_named, nth}
use Rattle.rule.specs.Fill.{fill}
use Rattle.rule.specs.RuleText.{Fault, over_lines, or_not_a_rule}
use Rattle.rule.specs.declared.Word.{Word}
use Rattle.rule.specs.declared.Word.TheVariants.{Allow, Deny, All as WordAll, Connect as WordConnect, Publish as WordPublish, Subscribe as WordSubscribe, Pubsub as WordPubsub}
use Rattle.rule.specs.declared.Control.{Control}
use Rattle.rule.specs.declared.Control.TheVariants.{All, Connect, Publish, Subscribe, Pubsub}
use Rattle.rule.specs.declared.User.{User}
use Rattle.rule.specs.declared.Users.{Users}
use Rattle.rule.specs.declared.Topic.{Topic}
use Rattle.rule.specs.declared.Topic.TheVariants.{Filter, Template, Eq, EqTemplate}
use Rattle.rule.specs.declared.Rule.{Rule}
use Rattle.rule.specs.declared.Refusal.{Refusal}
use Rattle.rule.specs.declared.Refusal.TheVariants.{TooLong}
use Rattle.rule.specs.declared.Parts.{Parts}

-- the value at a place of the line
unfoldable pub value_of : List ℕ → ℕ → Option Value
value_of line at = bind (value_at depth_limit line at) (λ r. Some (record { at = at; value = r.value }))

-- the place of a value, and of a text
unfoldable pub place_of : Option Value → Option ℕ
place_of o = option_map (λ v. v.at) o

unfoldable pub text_place : Option Located → Option ℕ
text_place o = option_map (λ t. t.at) o

-- a word
unfoldable pub word_of : List ℕ → Option Word
word_of t =
    cond (is_word (ascii "allow") t) (Some Allow)
    (cond (is_word (ascii "deny") t) (Some Deny)
    (cond (is_word (ascii "all") t) (Some WordAll)
    (cond (is_word (ascii "connect") t) (Some WordConnect)
    (cond (is_word (ascii "publish") t) (Some WordPublish)
    (cond (is_word (ascii "subscribe") t) (Some WordSubscribe) (cond (is_word (ascii "pubsub") t) (Some WordPubsub) None))))))

unfoldable pub word_at : List ℕ → ℕ → Option Word
word_at line at = option_and_then (λ d. word_of d.text) (string_at line at)

-- the access and the control that a word is
unfoldable pub access_of_word : Word → Option Bool
access_of_word Allow = Some true
access_of_word Deny = Some false
access_of_word WordAll = None
access_of_word WordConnect = None
access_of_word WordPublish = None
access_of_word WordSubscribe = None
access_of_word WordPubsub = None

unfoldable pub control_of_word : Word → Option Control
control_of_word Allow = None
control_of_word Deny = None
control_of_word WordAll = Some All
control_of_word WordConnect = Some Connect
control_of_word WordPublish = Some Publish
control_of_word WordSubscribe = Some Subscribe
control_of_word WordPubsub = Some Pubsub

-- the last member with a name of the object at a place
unfoldable pub member_of : List ℕ → ℕ → List ℕ → Option Value
member_of line at name = bind (value_of line at) (λ v. bind (as_object v) (value_named name))

-- a string stands at this place
unfoldable pub is_text_kind : Kind → Bool
is_text_kind Number = false
is_text_kind Text = true
is_text_kind Array = false
is_text_kind Object = false
is_text_kind WordKind = false
is_text_kind Blank = false
is_text_kind OtherKind = false

unfoldable pub is_text_at : List ℕ → ℕ → Bool
is_text_at line at = is_text_kind (kind_at line at)

-- the users of the object at a place
unfoldable pub object_of : List ℕ → ℕ → Option Members
object_of line at = bind (value_of line at) as_object

-- where no object stands, no name is listed
unfoldable pub user_here : Bool → List ℕ → ℕ → Option (Option spec.User)
user_here allow line at = elim (object_of line at) [ None ↦ Some None | Some ms ↦ spec.user_of allow ms ]

-- where another value stands, nobody is listed
unfoldable pub listed_in : Bool → Option Members → Option spec.Users
listed_in allow None = Some spec.everyone
listed_in allow (Some ms) = spec.users_in allow ms

unfoldable pub users_here : Bool → List ℕ → ℕ → Option spec.Users
users_here allow line at = bind (value_of line at) (λ v. listed_in allow (as_object v))

-- the listed users, by their places
unfoldable pub placed_user : spec.User → User
placed_user u = record { name = u.name.at; password = text_place u.password; superuser = u.superuser }

unfoldable pub placed_users : spec.Users → Users
placed_users u =
    record { user = option_map placed_user u.user; clientid = text_place u.clientid; ipaddr = text_place u.ipaddr; protocol = u.protocol }

-- "`protocol` (number modulo 256)" of the object at a place
unfoldable pub protocol_here : List ℕ → ℕ → Option ℕ
protocol_here line at = option_map (λ n. n % 256) (bind (member_of line at (ascii "protocol")) as_number)

-- a topic, by its place; a text over the limit is none here, since no rule that was read has one
unfoldable pub placed_topic : spec.Topic → Option Topic
placed_topic t =
    cond (ltb text_limit (length t.text.text)) None
    (cond t.eq
    (cond (is_template t.text.text) (Some (EqTemplate t.text.at)) (Some (Eq t.text.at)))
    (cond (is_template t.text.text) (Some (Template t.text.at)) (Some (Filter t.text.at))))

unfoldable pub topic_answer : Option spec.Topic → Option Topic
topic_answer o = option_and_then placed_topic o

-- the elements of the line's array
unfoldable pub elements_of : Json → Option Elements
elements_of v = spec.as_array (record { at = 0; value = v })

-- a rule, by its places
unfoldable pub placed_rule : Option Value → spec.Rule → Rule
placed_rule topics r =
    record {
      allow = r.allow;
      users = placed_users (record { user = r.user; clientid = r.clientid; ipaddr = r.ipaddr; protocol = r.protocol });
      control = r.control;
      topics = place_of topics;
    }

unfoldable pub fourth_of : Option Json → Option Value
fourth_of None = None
fourth_of (Some v) = bind (elements_of v) (nth 3)

unfoldable pub rule_answer : Option Value → Result spec.Rule Refusal → Result Rule Refusal
rule_answer topics (Err cause) = Err cause
rule_answer topics (Ok r) = Ok (placed_rule topics r)

-- the answer for a text without a fault, or its fault
unfoldable pub rules_answer : {A : Type 0} → A → Option Fault → Result A Fault
rules_answer a None = Ok a
rules_answer a (Some f) = Err f

unfoldable pub text_answer : Option Fault → Result ⊤ Fault
text_answer f = rules_answer tt f

-- a faulty line of a text with so many lines: "over 256 lines (line 257). Then the first faulty line"
unfoldable pub faulty_line : ℕ → Refusal → ℕ → Fault
faulty_line lines cause line = cond (ltb lines_limit lines) over_lines (record { cause = cause; line = line })

-- filling: the template of a rule has at most 256 bytes and a client id at most 64; where one is longer, the answer is 'too long'
unfoldable pub fillable : List ℕ → List ℕ → Bool
fillable template id = leb (length template) text_limit && leb (length id) id_limit

-- what is answered for a buffer of `room` bytes, and the buffer afterwards
unfoldable pub filling : ℕ → List ℕ → List ℕ → Option (List ℕ) → Option ℕ
filling room template id name =
    let t = fill template id name in cond (fillable template id && leb (length t) room) (Some (length t)) None

unfoldable pub filled_into : List ℕ → List ℕ → List ℕ → Option (List ℕ) → List ℕ
filled_into buffer template id name = cond (fillable template id) (written (fill template id name) buffer) buffer

-- the two passes through a text of at most `most` bytes between them: nothing, where that text is longer
unfoldable pub passes : ℕ → List ℕ → List ℕ → Bool
passes most template id = leb (length (replace (ascii "%c") id template)) most

unfoldable pub through : ℕ → ℕ → List ℕ → List ℕ → Option (List ℕ) → Option (Option ℕ)
through most room template id name = cond (passes most template id) (Some (fitted (fill template id name) room)) None

unfoldable pub through_into : ℕ → List ℕ → List ℕ → List ℕ → Option (List ℕ) → List ℕ
through_into most buffer template id name = cond (passes most template id) (written (fill template id name) buffer) buffer

-- the same for the string at a place
unfoldable pub filling_at : ℕ → Option Decoded → List ℕ → Option (List ℕ) → Option ℕ
filling_at room o id name = option_and_then (λ d. filling room d.text id name) o

unfoldable pub filled_at : List ℕ → Option Decoded → List ℕ → Option (List ℕ) → List ℕ
filled_at buffer None id name = buffer
filled_at buffer (Some d) id name = filled_into buffer d.text id name

-- the topic that a text is, by itself or under `eq`, and the string at a place
unfoldable pub text_topic : Bool → ℕ → List ℕ → Option Topic
text_topic eq at t =
    cond (eq || (is_template t || valid_filter t)) (placed_topic (record { eq = eq; text = record { at = at; text = t } })) None

unfoldable pub string_topic : Bool → List ℕ → ℕ → Option Topic
string_topic eq line at = option_and_then (λ d. text_topic eq at d.text) (string_at line at)

-- is each element from a place on a topic, of `most` at the most?
unfoldable pub topics_from : ℕ → List ℕ → Option ℕ → Bool
topics_from zero line place = true
topics_from (suc most) line None = true
topics_from (suc most) line (Some p) = is_some (topic_answer (bind (value_of line p) spec.topic_of)) && topics_from most line (next_item line p)

unfoldable pub are_topics : List ℕ → Option ℕ → Bool
are_topics line place = topics_from (length line) line place

unfoldable pub topics_here : List ℕ → ℕ → Bool
topics_here line at = is_at line at 0x5b && are_topics line (first_item 0x5b 0x5d line at)

-- the elements of the line's array, by their places
unfoldable pub parts_here : List ℕ → Parts
parts_here line =
    let access = first_item 0x5b 0x5d line (skip_blanks line 0) in
    let users = option_and_then (next_item line) access in
    let control = option_and_then (next_item line) users in
    record { access = access; users = users; control = control; topics = option_and_then (next_item line) control }

unfoldable pub over_topics : Option ℕ → Bool
over_topics None = false
over_topics (Some n) = ltb topics_limit n

unfoldable pub too_many : List ℕ → Option ℕ → Bool
too_many line None = false
too_many line (Some p) = over_topics (element_count line p)

-- what the parts are by their places: the access, the users, the control; "Control: absent, `all`"
unfoldable pub access_here : List ℕ → ℕ → Option Bool
access_here line at = option_and_then access_of_word (word_at line at)

unfoldable pub users_of_place : List ℕ → Bool → Option ℕ → Option Users
users_of_place line allow o = option_and_then (λ p. option_map placed_users (bind (value_of line p) (spec.users_of allow))) o

unfoldable pub control_here : List ℕ → Option ℕ → Option Control
control_here line None = Some All
control_here line (Some p) = option_and_then control_of_word (word_at line p)

-- a rule, from its last part to its first
unfoldable pub with_topics : List ℕ → Bool → Users → Control → Option ℕ → Option Rule
with_topics line allow users control None = Some (record { allow = allow; users = users; control = control; topics = None })
with_topics line allow users control (Some t) =
    cond (topics_here line t) (Some (record { allow = allow; users = users; control = control; topics = Some t })) None

unfoldable pub with_control : List ℕ → Bool → Users → Option Control → Option ℕ → Option Rule
with_control line allow users control topics = option_and_then (λ c. with_topics line allow users c topics) control

unfoldable pub with_users : List ℕ → Bool → Option Users → Option ℕ → Option ℕ → Option Rule
with_users line allow users control topics = option_and_then (λ u. with_control line allow u (control_here line control) topics) users

unfoldable pub rule_behind : List ℕ → Parts → Bool → Option Rule
rule_behind line parts allow = with_users line allow (users_of_place line allow parts.users) parts.control parts.topics

unfoldable pub with_access : List ℕ → Parts → Option ℕ → Option Rule
with_access line parts access = option_and_then (rule_behind line parts) (option_and_then (access_here line) access)

unfoldable pub rule_here : List ℕ → Result Rule Refusal
rule_here line =
    let parts = parts_here line in cond (too_many line parts.topics) (Err TooLong) (or_not_a_rule (with_access line parts parts.access))
