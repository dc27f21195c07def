-- A recorded question on a store straight from opening: `Q`, question, word and digit of the answer, earlier code, client id, name, password,
-- address, protocol, topic, QoS or disconnect flag, rules.
use Rattle.std.specs.Prelude.{ℕ, Bool, cond, List, [], ◌∷◌, length, replicate, ◌==◌, nat_le, Option, Some, None}
use Rattle.std.specs.Option.{option_map, option_and_then}
use Rattle.text.specs.Ascii.{ascii}
use Rattle.text.specs.Text.{same, replace}
use Rattle.rule.specs.Identity.{Client}
use Rattle.store.specs.declared.Counts.{Counts}
use Rattle.store.specs.Opening.{after_open}
use Rattle.questions.specs.Question.{Question, connect, subscribe, publish}
use Rattle.questions.specs.Decision.{ask}
use Rattle.mqtt_acl.specs.Rules.{where_true}
use Rattle.mqtt_acl.specs.Answers.{packed}
use Rattle.vectors.specs.Fields.{rest, field, lent, digit, client}

-- the counts of the store
abbrev pub counts : Counts
counts = record { bytes = 512; filters = 1; eqs = 1; notes = 1 }

-- the rules have `|` between them, where a rule text has LF; is there room for them?
unfoldable pub rule_text : List ℕ → List ℕ
rule_text rules = replace (ascii "|") (10 ∷ []) rules

unfoldable pub fits : List ℕ → Bool
fits rules = nat_le (length (rule_text rules)) 512

-- the store, which was zero, opened for them
unfoldable pub opened : List ℕ → Option (List ℕ)
opened rules = where_true (fits rules) (after_open counts (rule_text rules) (replicate 1374 0))

-- the client with this protocol
abbrev pub with_protocol : ℕ → Client → Client
with_protocol protocol c = record { id = c.id; name = c.name; password = c.password; address = c.address; protocol = Some protocol }

-- the three questions; connect's protocol is always given
unfoldable pub connect_of : List ℕ → Question
connect_of line = connect (digit (field 4 line)) (with_protocol (digit (lent (field 9 line))) (client digit 5 line))

unfoldable pub subscribe_of : List ℕ → Question
subscribe_of line = subscribe (digit (field 4 line)) (client digit 5 line) (field 10 line) (digit (field 11 line))

unfoldable pub publish_of : List ℕ → Question
publish_of line = publish (digit (field 4 line)) (client digit 5 line) (field 10 line) (digit (field 11 line) == 1)

-- the question that the line names
unfoldable pub question_named : List ℕ → List ℕ → Option Question
question_named line word =
    cond (same word (ascii "connect")) (Some (connect_of line))
    (cond (same word (ascii "subscribe")) (Some (subscribe_of line)) (cond (same word (ascii "publish")) (Some (publish_of line)) None))

-- what it is answered on the opened store, as a number
unfoldable pub store_answer : List ℕ → Option ℕ
store_answer line =
    option_and_then (λ store. option_map (λ q. packed (ask q store)) (question_named line (field 1 line))) (opened (rest 12 line))

-- the word of what is answered, which is the number below 16 of crates/mqtt_acl/specs/Answers.antt; subscribe's allow has its QoS
unfoldable pub word_of : ℕ → List ℕ
word_of what =
    cond (what == 0) (ascii "error")
    (cond (what == 1) (ascii "kept")
    (cond (what == 2) (ascii "allow")
    (cond (what == 3) (ascii "super")
    (cond (what == 4) (ascii "allow-qos0")
    (cond (what == 5) (ascii "allow-qos1")
    (cond (what == 6) (ascii "allow-qos2") (cond (what == 7) (ascii "allow") (cond (what == 10) (ascii "drop") (ascii "refuse")))))))))

unfoldable pub is_word : ℕ → List ℕ → Bool
is_word what word = same word (word_of what)
