-- What the calls on a store answer, as numbers.
use Rattle.std.specs.Prelude.{ℕ, ◌+◌, ◌*◌, cond, Option, None, Some}
use Rattle.questions.specs.Question.{Decision, kept, connects, subscribes, publishes, not_authorized, unspecified_error, Reply, refuses, decides}

-- 0 for an opened store, else the number of document 01 and 256 times the line
unfoldable pub open_number : Option (ℕ × ℕ) → ℕ
open_number None = 0
open_number (Some fault) = fault.0 + 256 * fault.1

-- 0 for an event that is done, else the number; "The first cause in the order listed gives the number"
unfoldable pub event_number : Option ℕ → ℕ
event_number None = 0
event_number (Some number) = number

-- below 16 what is answered, from 16 on the rule, or the code that is kept; a QoS is at most 2
unfoldable pub decision_number : Decision → ℕ
decision_number (kept code) = 16 * code + 1
decision_number (connects rule superuser) = 16 * rule + cond superuser 3 2
decision_number (subscribes rule qos) = 16 * rule + (4 + qos)
decision_number (publishes rule) = 16 * rule + 7
decision_number (not_authorized rule None) = 16 * rule + 8
decision_number (not_authorized rule (Some disconnect)) = 16 * rule + cond disconnect 10 9
decision_number (unspecified_error rule) = 16 * rule + 11

-- a refusal is 16 times its number, and its place, which is 0 for the three questions
unfoldable pub packed : Reply → ℕ
packed (refuses number place) = 16 * (number + 256 * place)
packed (decides d) = decision_number d
