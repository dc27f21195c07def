-- What the per-client calls answer, as numbers: below 16 what is answered, from 16 on what it carries.
use Rattle.mqtt_acl.specs.Rules.{where_true}
use Rattle.std.specs.Prelude.{ℕ, ◌+◌, ◌*◌, Bool, cond, None, Some, Option}
use Rattle.authinfo.specs.Decision.{Decision, subscribes, publishes, not_authorized, no_decision, Reply, refuses, decides}
use Rattle.authinfo.specs.Expiry as expiry
use Rattle.authinfo.specs.declared.Time.{Time}

-- 16 times the rule, 0 for a superuser, and: 4 to 6 a subscribe allowed with QoS 0 to 2; 7 a publish allowed; 8 a subscribe refused; 9 a publish
-- refused, 10 with the disconnect flag. 12 alone: no decision. A QoS is at most 2
unfoldable pub decision_number : Decision → ℕ
decision_number (subscribes rule qos) = 16 * rule + (4 + qos)
decision_number (publishes rule) = 16 * rule + 7
decision_number (not_authorized rule None) = 16 * rule + 8
decision_number (not_authorized rule (Some disconnect)) = 16 * rule + cond disconnect 10 9
decision_number no_decision = 12

-- a refusal is 16 times its number and 4,096 times its line
unfoldable pub packed : Reply → ℕ
packed (refuses number line) = 16 * (number + 256 * line)
packed (decides d) = decision_number d

-- 13 still valid, 14 expired; a refusal is 16 times its number
unfoldable pub expiry_number : expiry.Reply → ℕ
expiry_number (expiry.refuses number) = 16 * number
expiry_number (expiry.decides expired) = cond expired 14 13

-- an expiry that counts where its flag is true
unfoldable pub expiry_of : Bool → ℕ → ℕ → Option Time
expiry_of has seconds nanoseconds = where_true has (record { seconds = seconds; nanoseconds = nanoseconds })
