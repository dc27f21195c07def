-- The per-client question of a recorded line, and its answer.
use Rattle.std.specs.Prelude.{ℕ, ◌+◌, ◌/◌, ◌%◌, Bool, cond, List, [], ◌∷◌}
use Rattle.text.specs.Text.{same}
use Rattle.authinfo.specs.Decision.{Client, Question, subscribe, publish, ask}
use Rattle.mqtt_acl.specs.Clients.{packed}
use Rattle.vectors.specs.Fields.{rest, field, is_given, lent, text_in, number}

-- who asks: superuser, client id, name
abbrev pub client_in : List ℕ → Client
client_in line = record { superuser = is_given (field 2 line); id = field 7 line; name = text_in (field 8 line) }

-- the QoS of the question
abbrev pub qos_in : List ℕ → ℕ
qos_in line = number (lent (field 4 line))

-- publish or subscribe
abbrev pub question_in : List ℕ → Question
question_in line =
    cond (is_given (field 3 line)) (publish (qos_in line) (is_given (field 5 line)) (is_given (field 6 line)) (field 9 line)) (subscribe (qos_in line) (field 9 line))

-- the rule is all that is left of the line
unfoldable pub client_answer : List ℕ → ℕ
client_answer line = packed (ask (client_in line) (rest 10 line) (question_in line))

-- a recorded answer: what is answered, the rule or number, and the line, each a byte above `0`
unfoldable pub is_packed : ℕ → List ℕ → Bool
is_packed answer recorded = same recorded ((answer % 16 + 48) ∷ (answer / 16 % 256 + 48) ∷ (answer / 4096 + 48) ∷ [])
