-- A plugin rule, read from the value of a line: document 01, Plugin rule; `Rule::try_from` of config.rs.
use Rattle.std.specs.Prelude.{ℕ, zero, suc, ◌+◌, ◌%◌, Bool, true, false, ◌||◌, cond, List, [], ◌∷◌, map, Option, None, Some, option_map, unwrap_or}
use Rattle.text.specs.Maybe.{bind}
use Rattle.text.specs.Ascii.{ascii}
use Rattle.text.specs.Text.{same, contains}
use Rattle.topic.specs.Topic.{valid_filter}
use Rattle.json_text.specs.Utf8.{between}
use Rattle.json_text.specs.Json.{Json, null, bool, number, text, array, object, Elements, no_element, element, Members, no_member, member}
use Rattle.rule.specs.declared.Control.{Control}
use Rattle.rule.specs.declared.Control.TheVariants.{All, Connect, Publish, Subscribe, Pubsub}

-- a text of the rule, and its place in the line
pub record Located : Type 0 where
  pub at : ℕ
  pub text : List ℕ

-- a value of the line, and its place
pub record Value : Type 0 where
  pub at : ℕ
  pub value : Json

module _ (Text : Type 0) where
  -- a name, with the password and the flag of an allow rule
  pub record UserOf : Type 0 where
    pub name : Text
    pub password : Option Text
    pub superuser : Bool

  -- one of a rule's topics: a filter, or with `eq` a text that has to be equal
  pub record TopicOf : Type 0 where
    pub eq : Bool
    pub text : Text

  -- a rule. "Users: `all`, or an object": four optional users, of which `all` and the empty object list none. "Control: absent, `all`":
  -- one value. "Topics: absent means all": `none`
  pub record RuleOf : Type 0 where
    pub allow : Bool
    pub user : Option UserOf
    pub clientid : Option Text
    pub ipaddr : Option Text
    pub protocol : Option ℕ
    pub control : Control
    pub topics : Option (List TopicOf)

-- a rule with the places of its texts, and what it means
abbrev pub User : Type 0
User = UserOf Located

abbrev pub Topic : Type 0
Topic = TopicOf Located

abbrev pub Rule : Type 0
Rule = RuleOf Located

abbrev pub Meaning : Type 0
Meaning = RuleOf (List ℕ)

-- a rule's meaning forgets the places, so equal rules are equal values
unfoldable pub user_means : User → UserOf (List ℕ)
user_means u = record { name = u.name.text; password = option_map (λ p. p.text) u.password; superuser = u.superuser }

unfoldable pub topic_means : Topic → TopicOf (List ℕ)
topic_means t = record { eq = t.eq; text = t.text.text }

unfoldable pub means : Rule → Meaning
means r =
    record {
      allow = r.allow;
      user = option_map user_means r.user;
      clientid = option_map (λ t. t.text) r.clientid;
      ipaddr = option_map (λ t. t.text) r.ipaddr;
      protocol = r.protocol;
      control = r.control;
      topics = option_map (map topic_means) r.topics;
    }

-- "Words ignore ASCII case"
unfoldable pub lower : ℕ → ℕ
lower b = cond (between 0x41 0x5a b) (b + 32) b

unfoldable pub is_word : List ℕ → List ℕ → Bool
is_word word t = same (map lower t) word

-- the n-th element of an array, from 0
unfoldable pub nth : ℕ → Elements → Option Value
nth n no_element = None
nth zero (element at value rest) = Some (record { at = at; value = value })
nth (suc n) (element at value rest) = nth n rest

-- the value of the last member with a name
unfoldable pub named : List ℕ → Members → Option Value → Option Value
named name no_member found = found
named name (member at n value_start value rest) found =
    named name rest (cond (same n name) (Some (record { at = value_start; value = value })) found)

-- "members of another type are ignored"
unfoldable pub as_text : Value → Option Located
as_text v =
    elim v.value [
      | null ↦ None
      | bool b ↦ None
      | number n ↦ None
      | text t ↦ Some (record { at = v.at; text = t })
      | array es ↦ None
      | object ms ↦ None
    ]

unfoldable pub as_number : Value → Option ℕ
as_number v = elim v.value [ null ↦ None | bool b ↦ None | number n ↦ Some n | text t ↦ None | array es ↦ None | object ms ↦ None ]

unfoldable pub as_bool : Value → Option Bool
as_bool v = elim v.value [ null ↦ None | bool b ↦ Some b | number n ↦ None | text t ↦ None | array es ↦ None | object ms ↦ None ]

unfoldable pub as_array : Value → Option Elements
as_array v = elim v.value [ null ↦ None | bool b ↦ None | number n ↦ None | text t ↦ None | array es ↦ Some es | object ms ↦ None ]

unfoldable pub as_object : Value → Option Members
as_object v = elim v.value [ null ↦ None | bool b ↦ None | number n ↦ None | text t ↦ None | array es ↦ None | object ms ↦ Some ms ]

unfoldable pub value_named : List ℕ → Members → Option Value
value_named name ms = named name ms None

-- "Access: `allow`, `deny`"
unfoldable pub access_of : Value → Option Bool
access_of v = bind (as_text v) (λ t. cond (is_word (ascii "allow") t.text) (Some true) (cond (is_word (ascii "deny") t.text) (Some false) None))

-- the listed users
pub record Users : Type 0 where
  pub user : Option User
  pub clientid : Option Located
  pub ipaddr : Option Located
  pub protocol : Option ℕ

-- "`superuser` counts if boolean, else false"
unfoldable pub flag : Option Bool → Bool
flag o = unwrap_or o false

-- "`password` must be absent or a string": given as absent, a string, or another value
unfoldable pub password_of : Option Value → Option (Option Located)
password_of None = Some None
password_of (Some v) = option_map Some (as_text v)

-- "With a string `user` under allow, `password` must be absent or a string; `superuser` counts if boolean, else false. Under deny both
-- are ignored"
unfoldable pub user_of : Bool → Members → Option (Option User)
user_of allow ms =
    elim (bind (value_named (ascii "user") ms) as_text) [
      | None ↦ Some None
      | Some name ↦
          cond allow
          (option_map
          (λ password. Some (record { name = name; password = password; superuser = flag (bind (value_named (ascii "superuser") ms) as_bool) }))
          (password_of (value_named (ascii "password") ms)))
          (Some (Some (record { name = name; password = None; superuser = false })))
    ]

-- "`protocol` (number modulo 256)"
unfoldable pub users_in : Bool → Members → Option Users
users_in allow ms =
    option_map
    (λ user.
    record {
      user = user;
      clientid = bind (value_named (ascii "clientid") ms) as_text;
      ipaddr = bind (value_named (ascii "ipaddr") ms) as_text;
      protocol = option_map (λ n. n % 256) (bind (value_named (ascii "protocol") ms) as_number);
    })
    (user_of allow ms)

-- no users
abbrev pub everyone : Users
everyone = record { user = None; clientid = None; ipaddr = None; protocol = None }

-- "Users: `all`, or an object"
unfoldable pub users_of : Bool → Value → Option Users
users_of allow v =
    elim (as_object v) [
      | Some ms ↦ users_in allow ms
      | None ↦ bind (as_text v) (λ t. cond (is_word (ascii "all") t.text) (Some everyone) None)
    ]

-- "Control: absent, `all`, `connect`, `publish`, `subscribe`, `pubsub`"
unfoldable pub control_word : List ℕ → Option Control
control_word t =
    cond (is_word (ascii "all") t) (Some All)
    (cond (is_word (ascii "connect") t) (Some Connect)
    (cond (is_word (ascii "publish") t) (Some Publish)
    (cond (is_word (ascii "subscribe") t) (Some Subscribe) (cond (is_word (ascii "pubsub") t) (Some Pubsub) None))))

unfoldable pub control_of : Option Value → Option Control
control_of None = Some All
control_of (Some v) = bind (as_text v) (λ t. control_word t.text)

-- "A text with `%u` or `%c` is a template"
unfoldable pub is_template : List ℕ → Bool
is_template t = contains (ascii "%u") t || contains (ascii "%c") t

-- "an array of strings or objects with a string `eq`. .. another plain string must be a valid filter"
unfoldable pub topic_of : Value → Option Topic
topic_of v =
    elim (as_object v) [
      | Some ms ↦ option_map (λ t. record { eq = true; text = t }) (bind (value_named (ascii "eq") ms) as_text)
      | None ↦
          bind (as_text v)
          (λ t. cond (is_template t.text || valid_filter t.text) (Some (record { eq = false; text = t })) None)
    ]

unfoldable pub topics_in : Elements → Option (List Topic)
topics_in no_element = Some []
topics_in (element at value rest) = bind (topic_of (record { at = at; value = value })) (λ t. option_map (λ ts. t ∷ ts) (topics_in rest))

-- "Topics: absent means all"
unfoldable pub topics_of : Option Value → Option (Option (List Topic))
topics_of None = Some None
topics_of (Some v) = bind (as_array v) (λ es. option_map Some (topics_in es))

-- "An array: access, users, control, topics; more elements are ignored"
unfoldable pub rule_in : Elements → Option Rule
rule_in es =
    bind (bind (nth 0 es) access_of)
    (λ allow.
    bind (bind (nth 1 es) (users_of allow))
    (λ users.
    bind (control_of (nth 2 es))
    (λ control.
    option_map
    (λ topics.
    record {
      allow = allow;
      user = users.user;
      clientid = users.clientid;
      ipaddr = users.ipaddr;
      protocol = users.protocol;
      control = control;
      topics = topics;
    })
    (topics_of (nth 3 es)))))

unfoldable pub rule_of : Json → Option Rule
rule_of v =
    elim v [ null ↦ None | bool b ↦ None | number n ↦ None | text t ↦ None | array es ↦ rule_in es | object ms ↦ None ]
