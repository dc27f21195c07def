-- Questions and what is answered: document 01, Plugin decisions and Refusals by operation, Questions. A form that a later request adds is one
-- more constructor of `Question`.
use Rattle.std.specs.Prelude.{ℕ, Bool, false, ◌||◌, List, [], ◌∷◌, ltb, Option, None, Some}
use Rattle.rule.specs.Limits.{text_limit, id_limit}
use Rattle.rule.specs.Identity.{Client}
use Rattle.rule.specs.Refusals.{first}
use Rattle.store.specs.Store.{over}

-- the earlier answer's code, who asks, and what for: subscribe with its topic and QoS, publish with its topic and the disconnect flag
pub data Question : Type 0 where
  connect : ℕ → Client → Question
  subscribe : ℕ → Client → List ℕ → ℕ → Question
  publish : ℕ → Client → List ℕ → Bool → Question

-- an answer that is no refusal by number: the earlier code is kept (rule 0); allowed by a rule, connect with the superuser flag, subscribe
-- with the QoS; refused with the Rust's reason by a rule (0 where none agrees), a publish with the caller's disconnect flag. Rules count from 1
pub data Decision : Type 0 where
  kept : (code : ℕ) → Decision
  connects : (rule : ℕ) → (superuser : Bool) → Decision
  subscribes : (rule : ℕ) → (qos : ℕ) → Decision
  publishes : (rule : ℕ) → Decision
  not_authorized : (rule : ℕ) → (disconnect : Option Bool) → Decision
  unspecified_error : (rule : ℕ) → Decision

-- a decision, or a refusal with its number and its place, which is 0 for these questions
pub data Reply : Type 0 where
  refuses : (number : ℕ) → (place : ℕ) → Reply
  decides : Decision → Reply

-- "password over 128, address over 45"
abbrev pub password_limit : ℕ
password_limit = 128

abbrev pub address_limit : ℕ
address_limit = 45

-- "earlier code over 4 (connect) or over 2, subscribe's QoS over 2"
abbrev pub connect_limit : ℕ
connect_limit = 4

abbrev pub code_limit : ℕ
code_limit = 2

abbrev pub qos_limit : ℕ
qos_limit = 2

unfoldable pub over_given : ℕ → Option (List ℕ) → Bool
over_given limit None = false
over_given limit (Some t) = over limit t

-- "1 id or name over 64, password over 128, address over 45"
unfoldable pub client_over : Client → Bool
client_over c = over id_limit c.id || (over_given id_limit c.name || (over_given password_limit c.password || over_given address_limit c.address))

-- "1 .. topic over 256. 2 earlier code over 4 (connect) or over 2, subscribe's QoS over 2": what is seen of the arguments alone
unfoldable pub question_cause : Question → Option ℕ
question_cause (connect earlier c) = first ((client_over c, 1) ∷ (ltb connect_limit earlier, 2) ∷ [])
question_cause (subscribe earlier c topic qos) =
    first ((client_over c || over text_limit topic, 1) ∷ (ltb code_limit earlier || ltb qos_limit qos, 2) ∷ [])
question_cause (publish earlier c topic disconnect) = first ((client_over c || over text_limit topic, 1) ∷ (ltb code_limit earlier, 2) ∷ [])
