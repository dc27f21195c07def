-- A rule of a client, read from the value of a line, with its topic filled: document 01, Per-client rules; `Rule::try_from` and
-- `Topic::try_from` of rmqtt/src/acl.rs.
use Rattle.std.specs.Prelude.{ℕ, ◌%◌, Bool, true, false, ◌||◌, cond, List, [], ◌∷◌, eqb, ltb, leb, length, drop, Option, None, Some, Result, Ok, Err}
use Rattle.std.specs.Option.{option_map}
use Rattle.text.specs.Maybe.{bind}
use Rattle.text.specs.Ascii.{ascii}
use Rattle.text.specs.Text.{same, begins, contains, replace}
use Rattle.topic.specs.Topic.{valid_filter}
use Rattle.json_text.specs.Json.{Json, null, bool, number, text, array, object, Elements, no_element, element, Members, line_value, longest}
use Rattle.rule.specs.Limits.{line_limit, text_limit}
use Rattle.rule.specs.Rule.{Value, as_text, as_number, as_bool, as_array, value_named}
use Rattle.rule.specs.declared.Refusal.TheVariants.{TooLong, NotJson, NotARule, FilledTooLong}
use Rattle.authinfo.specs.declared.Action.{Action}
use Rattle.authinfo.specs.declared.Action.TheVariants.{All, Publish, Subscribe}
use Rattle.rule.specs.declared.Refusal.{Refusal}

-- a topic of a rule: a filter, or with `eq` a text that is compared exactly
pub record Topic : Type 0 where
  pub eq : Bool
  pub text : List ℕ

-- a rule: its permission, whether it allows; its action; the QoS that it is limited to, if it is; its retain, if it has one; its topic
pub record ClientRule : Type 0 where
  pub allow : Bool
  pub action : Action
  pub qos : Option (List ℕ)
  pub retain : Option Bool
  pub topic : Topic

-- "`permission` and `action` (`all`, `publish`, `subscribe`), exact case"; permissions are `allow` and `deny`
unfoldable pub permission_word : List ℕ → Option Bool
permission_word t = cond (same t (ascii "allow")) (Some true) (cond (same t (ascii "deny")) (Some false) None)

unfoldable pub action_word : List ℕ → Option Action
action_word t =
    cond (same t (ascii "all")) (Some All)
    (cond (same t (ascii "publish")) (Some Publish) (cond (same t (ascii "subscribe")) (Some Subscribe) None))

-- the string that a member has
unfoldable pub text_named : List ℕ → Members → Option (List ℕ)
text_named name ms = option_map (λ t. t.text) (bind (value_named name ms) as_text)

-- "each modulo 256 and then 0 to 2"
unfoldable pub qos_level : ℕ → Option ℕ
qos_level n = cond (leb (n % 256) 2) (Some (n % 256)) None

-- "non-numbers in an array dropped"
unfoldable pub qos_in : Elements → Option (List ℕ)
qos_in no_element = Some []
qos_in (element at value rest) =
    elim (as_number (record { at = at; value = value })) [
      | None ↦ qos_in rest
      | Some n ↦ bind (qos_level n) (λ q. option_map (λ qs. q ∷ qs) (qos_in rest))
    ]

-- "number or array"
unfoldable pub qos_value : Value → Option (List ℕ)
qos_value v =
    elim (as_array v) [
      | Some es ↦ qos_in es
      | None ↦ option_map (λ q. q ∷ []) (bind (as_number v) qos_level)
    ]

-- "`qos` absent, number or array"
unfoldable pub qos_of : Option Value → Option (Option (List ℕ))
qos_of None = Some None
qos_of (Some v) = option_map Some (qos_value v)

-- "After `eq ` the rest is compared exactly and may be empty; else a filter, non-empty before filling"
unfoldable pub topic_of : List ℕ → Option Topic
topic_of t =
    cond (begins (ascii "eq ") t) (Some (record { eq = true; text = drop 3 t }))
    (cond (eqb (length t) 0) None (Some (record { eq = false; text = t })))

-- "An object: `permission` and `action` ..; `qos` ..; `retain` counts if boolean; `topic`"; the topic as it is configured
unfoldable pub rule_in : Members → Option ClientRule
rule_in ms =
    bind (bind (text_named (ascii "permission") ms) permission_word)
    (λ allow.
    bind (bind (text_named (ascii "action") ms) action_word)
    (λ action.
    bind (qos_of (value_named (ascii "qos") ms))
    (λ qos.
    option_map
    (λ topic.
    record {
      allow = allow;
      action = action;
      qos = qos;
      retain = bind (value_named (ascii "retain") ms) as_bool;
      topic = topic;
    })
    (bind (text_named (ascii "topic") ms) topic_of))))

-- "An object"; another value is no rule
unfoldable pub configured : Json → Option ClientRule
configured v = elim v [ null ↦ None | bool b ↦ None | number n ↦ None | text t ↦ None | array es ↦ None | object ms ↦ rule_in ms ]

-- the two words that are replaced; "`${ipaddr}` and `${protocol}` stay text"
abbrev pub username : List ℕ
username = ascii "${username}"

abbrev pub clientid : List ℕ
clientid = ascii "${clientid}"

-- `new` for each `word` of the text, "only if the configured topic held it"
unfoldable pub put_if : List ℕ → List ℕ → List ℕ → List ℕ → List ℕ
put_if word new configured_topic t = cond (contains word configured_topic) (replace word new t) t

-- "`${username}`, then `${clientid}` are replaced .. Without a user name such a topic is refused (`${username}` only)"
unfoldable pub fill_for : List ℕ → Option (List ℕ) → List ℕ → Option (List ℕ)
fill_for id name t =
    cond (contains username t) (option_map (λ n. put_if clientid id t (replace username n t)) name) (Some (put_if clientid id t t))

-- no user name where one is asked for is 6; "then 7 the filled text over 256; then 6 if it is no filter"
unfoldable pub filled_topic : Bool → Option (List ℕ) → Result Topic Refusal
filled_topic eq None = Err NotARule
filled_topic eq (Some t) =
    cond (ltb text_limit (length t)) (Err FilledTooLong)
    (cond (eq || valid_filter t) (Ok (record { eq = eq; text = t })) (Err NotARule))

-- a rule with its topic filled for the client
unfoldable pub with_topic : ClientRule → Result Topic Refusal → Result ClientRule Refusal
with_topic r (Err cause) = Err cause
with_topic r (Ok topic) =
    Ok (record { allow = r.allow; action = r.action; qos = r.qos; retain = r.retain; topic = topic })

unfoldable pub filled_rule : List ℕ → Option (List ℕ) → Option ClientRule → Result ClientRule Refusal
filled_rule id name None = Err NotARule
filled_rule id name (Some r) = with_topic r (filled_topic r.topic.eq (fill_for id name r.topic.text))

-- "5, 1 (strings only), 6; then 7 the filled text over 256; then 6 if it is no filter"
unfoldable pub rule_from : List ℕ → Option (List ℕ) → Option Json → Result ClientRule Refusal
rule_from id name None = Err NotJson
rule_from id name (Some v) = cond (ltb text_limit (longest v)) (Err TooLong) (filled_rule id name (configured v))

-- "Per line 1", over 2,048 bytes, comes first
unfoldable pub read_line : List ℕ → Option (List ℕ) → List ℕ → Result ClientRule Refusal
read_line id name line = cond (ltb line_limit (length line)) (Err TooLong) (rule_from id name (line_value line))
