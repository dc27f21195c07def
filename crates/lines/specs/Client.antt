-- What a line of the program `client` asks, and what is said of it: its input is a first line `[superuser, id, name or null]`, the client's
-- rules, an empty line and question lines (docs/DECISIONS.md, Programs).
use Rattle.std.specs.Prelude.{ℕ, cond, List, ltb, length, Option, None, Some}
use Rattle.std.specs.Option.{option_map}
use Rattle.text.specs.Maybe.{bind}
use Rattle.text.specs.Ascii.{ascii}
use Rattle.text.specs.Text.{same}
use Rattle.json_text.specs.Json.{Json, null, bool, number, text, array, object, Elements, line_value}
use Rattle.rule.specs.Limits.{line_limit}
use Rattle.rule.specs.Rule.{nth, as_number, as_bool}
use Rattle.authinfo.specs.Decision.{Client, Question, subscribe, publish, Decision, subscribes, publishes, not_authorized, no_decision, Reply, refuses, decides, ask}
use Rattle.lines.specs.Call.{as_string, or_null, having}
use Rattle.lines.specs.Said.{says, refused_at, refused_with}
use Rattle.lines.specs.declared.Word.TheVariants.{Allow, NoDecision}
use Rattle.lines.specs.declared.Said.{Said}

-- the elements of an array
unfoldable pub elements_of : Json → Option Elements
elements_of v = elim v [ null ↦ None | bool b ↦ None | number n ↦ None | text t ↦ None | array es ↦ Some es | object ms ↦ None ]

-- a line of at most 2,048 bytes that is an array
unfoldable pub array_of : List ℕ → Option Elements
array_of line = cond (ltb line_limit (length line)) None (bind (line_value line) elements_of)

-- `[superuser, id, name or null]`
unfoldable pub client_in : Elements → Option Client
client_in es =
    having 3 es
    (bind (bind (nth 0 es) as_bool)
    (λ superuser.
    bind (bind (nth 1 es) as_string)
    (λ id. option_map (λ name. record { superuser = superuser; id = id; name = name }) (bind (nth 2 es) (or_null as_string)))))

-- `["subscribe",qos,topic]`
unfoldable pub subscribe_in : Elements → Option Question
subscribe_in es =
    having 3 es (bind (bind (nth 1 es) as_number) (λ qos. option_map (λ topic. subscribe qos topic) (bind (nth 2 es) as_string)))

-- `["publish",qos,retain,disconnect,topic]`
unfoldable pub publish_in : Elements → Option Question
publish_in es =
    having 5 es
    (bind (bind (nth 1 es) as_number)
    (λ qos.
    bind (bind (nth 2 es) as_bool)
    (λ retain.
    bind (bind (nth 3 es) as_bool)
    (λ disconnect. option_map (λ topic. publish qos retain disconnect topic) (bind (nth 4 es) as_string)))))

-- the two words, exact
unfoldable pub question_by : List ℕ → Elements → Option Question
question_by word es = cond (same word (ascii "subscribe")) (subscribe_in es) (cond (same word (ascii "publish")) (publish_in es) None)

unfoldable pub question_in : Elements → Option Question
question_in es = bind (bind (nth 0 es) as_string) (λ word. question_by word es)

-- the word of a decision and its rule (DECISIONS, 49)
unfoldable pub decision_said : Decision → Said
decision_said (subscribes rule qos) = says Allow rule
decision_said (publishes rule) = says Allow rule
decision_said (not_authorized rule disconnect) = refused_with rule disconnect
decision_said no_decision = says NoDecision 0

-- and of a reply: behind `error` its number and its line
unfoldable pub reply_said : Reply → Said
reply_said (refuses n line) = refused_at n line
reply_said (decides d) = decision_said d

-- a line that is no question, and a first line that is no client: error 5, line 0
unfoldable pub question_said : Client → List ℕ → Option Question → Said
question_said c rules None = refused_at 5 0
question_said c rules (Some q) = reply_said (ask c rules q)

unfoldable pub asked_by : Option Client → List ℕ → Option Question → Said
asked_by None rules question = refused_at 5 0
asked_by (Some c) rules question = question_said c rules question

-- what is said of a line, after this first line and these rules
unfoldable pub client_said : List ℕ → List ℕ → List ℕ → Said
client_said header rules line = asked_by (bind (array_of header) client_in) rules (bind (array_of line) question_in)
