-- What a recorded line means, and whether the definitions of document 01 give its answer.
use Rattle.std.specs.Prelude.{ℕ, ◌+◌, ◌/◌, ◌%◌, Bool, cond, not, ◌&&◌, List, [], ◌∷◌, find, Option, Some, None}
use Rattle.std.specs.Option.{option_map, option_and_then}
use Rattle.text.specs.Ascii.{ascii}
use Rattle.text.specs.Text.{same}
use Rattle.topic.specs.Topic.{valid_filter, tree_match, plain_match}
use Rattle.json_text.specs.Json.{line_value}
use Rattle.json_text.specs.Access.{is_document, document_within}
use Rattle.rule.specs.RuleText.{read_rule}
use Rattle.mqtt_acl.specs.Rules.{refusal_of, identity_in}
use Rattle.vectors.specs.Fields.{rest, field, number, client}
use Rattle.vectors.specs.Asking.{store_answer, is_word}
use Rattle.vectors.specs.Clients.{client_answer, is_packed}
use Rattle.vectors.specs.declared.judging.Kind.{Kind}
use Rattle.vectors.specs.declared.judging.Kind.TheVariants.{Valid, Tree, Plain, Document, Within, RuleLine, Identity, OnStore, Client}
use Rattle.vectors.specs.declared.judging.Judged.{Judged}

-- all kinds, in the order in which they are declared
abbrev pub all : List Kind
all = Valid ∷ Tree ∷ Plain ∷ Document ∷ Within ∷ RuleLine ∷ Identity ∷ OnStore ∷ Client ∷ []

-- the letter of a kind
unfoldable pub letter : Kind → List ℕ
letter Valid = ascii "V"
letter Tree = ascii "T"
letter Plain = ascii "P"
letter Document = ascii "J"
letter Within = ascii "L"
letter RuleLine = ascii "R"
letter Identity = ascii "I"
letter OnStore = ascii "Q"
letter Client = ascii "C"

-- the kind that the first field names
unfoldable pub kind_of : List ℕ → Option Kind
kind_of word = find (λ k. same word (letter k)) all

-- a recorded answer is `yes` or `no` ..
unfoldable pub compared : Bool → List ℕ → Option Bool
compared answer recorded = cond (same recorded (ascii "yes")) (Some answer) (cond (same recorded (ascii "no")) (Some (not answer)) None)

-- .. or, of `R` and `I`, this digit; any other text differs
unfoldable pub is_digit : ℕ → List ℕ → Bool
is_digit answer recorded = same recorded ((answer + 48) ∷ [])

-- does the rule mean the client?
unfoldable pub identity_asked : List ℕ → ℕ
identity_asked line = identity_in (read_rule (rest 7 line)) (client number 2 line)

-- is the answer's number this word and this digit, which is its rule, code or number?
unfoldable pub is_answer : ℕ → List ℕ → List ℕ → Bool
is_answer answer word recorded = is_digit (answer / 16) recorded && is_word (answer % 16) word

-- what a line of this kind asks, and its recorded answer: `V`, text, answer; `T`, filter, text, answer; `P` likewise. The answer is all
-- that is left of the line, so that no field is left over. `J`, answer, JSON line; `L` likewise; `R`, 0 or the number of document 01, rule line:
-- the line of JSON or of a rule is all that is left. `I`, 0 they differ, 1 they agree, 2 they agree with the superuser flag or 3 no rule, client id,
-- name, password, address, protocol, rule line: the four before the rule line are optional. `Q`: specs/Asking.antt; `C`:
-- specs/Clients.antt. Nothing where it is malformed
unfoldable pub agrees : List ℕ → Kind → Option Bool
agrees line Valid = compared (valid_filter (field 1 line)) (rest 2 line)
agrees line Tree = compared (tree_match (field 1 line) (field 2 line)) (rest 3 line)
agrees line Plain = compared (plain_match (field 1 line) (field 2 line)) (rest 3 line)
agrees line Document = compared (is_document (line_value (rest 2 line))) (field 1 line)
agrees line Within = compared (document_within 256 (line_value (rest 2 line))) (field 1 line)
agrees line RuleLine = Some (is_digit (refusal_of (rest 2 line)) (field 1 line))
agrees line Identity = Some (is_digit (identity_asked line) (field 1 line))
agrees line OnStore = option_map (λ answer. is_answer answer (field 2 line) (field 3 line)) (store_answer line)
agrees line Client = Some (is_packed (client_answer line) (field 1 line))

-- what a line comes to; nothing where it is malformed
unfoldable pub judge_as : List ℕ → Kind → Option Judged
judge_as line kind = option_map (λ agrees. record { kind = kind; agrees = agrees }) (agrees line kind)

unfoldable pub judge : List ℕ → Option Judged
judge line = option_and_then (judge_as line) (kind_of (field 0 line))
