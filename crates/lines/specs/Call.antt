-- What a line of `decide` calls for: document 01, Marked examples (Program `decide`).
use Rattle.std.specs.Prelude.{ℕ, Bool, true, false, cond, List, eqb, ltb, leb, length, Option, None, Some}
use Rattle.std.specs.Option.{option_map}
use Rattle.text.specs.Maybe.{bind}
use Rattle.text.specs.Ascii.{ascii}
use Rattle.text.specs.Text.{same}
use Rattle.json_text.specs.Json.{Json, null, bool, number, text, array, object, Elements, line_value}
use Rattle.json_text.specs.Access.{count}
use Rattle.rule.specs.Limits.{line_limit}
use Rattle.rule.specs.Rule.{Value, nth, as_text, as_number}
use Rattle.rule.specs.Identity.{Client}
use Rattle.questions.specs.Question as ask
use Rattle.questions.specs.Question.{Question}
use Rattle.events.specs.Event as event
use Rattle.events.specs.Event.{Event}

-- an event, or a question
pub data Call : Type 0 where
  happens : Event → Call
  asks : Question → Call

-- a text
unfoldable pub as_string : Value → Option (List ℕ)
as_string v = option_map (λ t. t.text) (as_text v)

-- "null is absent": `null`, or what stands there
unfoldable pub is_null : Value → Bool
is_null v = elim v.value [ null ↦ true | bool b ↦ false | number n ↦ false | text t ↦ false | array es ↦ false | object ms ↦ false ]

unfoldable pub or_null : {A : Type 0} → (Value → Option A) → Value → Option (Option A)
or_null read v = cond (is_null v) (Some None) (option_map Some (read v))

-- an earlier answer's code: "0 none", and "null is absent"
unfoldable pub or_zero : Option ℕ → ℕ
or_zero None = 0
or_zero (Some n) = n

-- "a protocol over 255, is error 5"
unfoldable pub as_protocol : Value → Option ℕ
as_protocol v = bind (as_number v) (λ n. cond (leb n 255) (Some n) None)

-- who asks, and the earlier answer
pub record Asker : Type 0 where
  pub earlier : ℕ
  pub client : Client

-- "Questions: word, earlier, id, name, password, address, protocol, topic (not for connect); null is absent, except id, topic, and
-- connect's protocol"
unfoldable pub asker_in : Elements → Option Asker
asker_in es =
    bind (bind (nth 1 es) (or_null as_number))
    (λ earlier.
    bind (bind (nth 2 es) as_string)
    (λ id.
    bind (bind (nth 3 es) (or_null as_string))
    (λ name.
    bind (bind (nth 4 es) (or_null as_string))
    (λ password.
    bind (bind (nth 5 es) (or_null as_string))
    (λ address.
    option_map
    (λ protocol.
    record {
      earlier = or_zero earlier;
      client = record { id = id; name = name; password = password; address = address; protocol = protocol };
    })
    (bind (nth 6 es) (or_null as_protocol)))))))

-- "a wrong number of elements too"
unfoldable pub having : {A : Type 0} → ℕ → Elements → Option A → Option A
having n es call = cond (eqb (count es) n) call None

unfoldable pub is_given : {A : Type 0} → Option A → Bool
is_given None = false
is_given (Some a) = true

-- "(not for connect) .. except .. connect's protocol"
unfoldable pub connect_in : Elements → Option Call
connect_in es =
    having 7 es
    (bind (asker_in es) (λ a. cond (is_given a.client.protocol) (Some (asks (ask.connect a.earlier a.client))) None))

-- "disconnect flag true, QoS 0"
unfoldable pub subscribe_in : Elements → Option Call
subscribe_in es =
    having 8 es
    (bind (asker_in es) (λ a. option_map (λ topic. asks (ask.subscribe a.earlier a.client topic 0)) (bind (nth 7 es) as_string)))

unfoldable pub publish_in : Elements → Option Call
publish_in es =
    having 8 es
    (bind (asker_in es) (λ a. option_map (λ topic. asks (ask.publish a.earlier a.client topic true)) (bind (nth 7 es) as_string)))

-- "Events: word, session, id, name (connected only); `ended` has the session alone"; a name that is null is absent
unfoldable pub connected_in : Elements → Option Call
connected_in es =
    having 4 es
    (bind (bind (nth 1 es) as_number)
    (λ session.
    bind (bind (nth 2 es) as_string)
    (λ id. option_map (λ name. happens (event.connected session id name)) (bind (nth 3 es) (or_null as_string)))))

unfoldable pub disconnected_in : Elements → Option Call
disconnected_in es =
    having 3 es
    (bind (bind (nth 1 es) as_number) (λ session. option_map (λ id. happens (event.disconnected session id)) (bind (nth 2 es) as_string)))

unfoldable pub ended_in : Elements → Option Call
ended_in es = having 2 es (option_map (λ session. happens (event.ended session)) (bind (nth 1 es) as_number))

-- the words of questions and events, exact
unfoldable pub call_by : List ℕ → Elements → Option Call
call_by word es =
    cond (same word (ascii "connect")) (connect_in es)
    (cond (same word (ascii "subscribe")) (subscribe_in es)
    (cond (same word (ascii "publish")) (publish_in es)
    (cond (same word (ascii "connected")) (connected_in es)
    (cond (same word (ascii "disconnected")) (disconnected_in es) (cond (same word (ascii "ended")) (ended_in es) None)))))

unfoldable pub call_in : Elements → Option Call
call_in es = bind (bind (nth 0 es) as_string) (λ word. call_by word es)

unfoldable pub call_from : Json → Option Call
call_from v = elim v [ null ↦ None | bool b ↦ None | number n ↦ None | text t ↦ None | array es ↦ call_in es | object ms ↦ None ]

-- the call of a line; none where it is malformed: "over 2,048 bytes, an unknown word or a wrong number of elements too"
unfoldable pub call_of : List ℕ → Option Call
call_of line = cond (ltb line_limit (length line)) None (bind (line_value line) call_from)
