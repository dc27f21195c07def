-- What the calls about a rule line answer, as numbers; flags; the version.
use Rattle.std.specs.Prelude.{ℕ, Bool, cond, not, List, eqb, Option, None, Some, Result, Ok, Err}
use Rattle.rule.specs.Refusals.{number}
use Rattle.rule.specs.Rule.{Rule, means}
use Rattle.rule.specs.RuleText.{read_rule}
use Rattle.rule.specs.Identity.{Client, identity}
use Rattle.rule.specs.declared.Refusal.{Refusal}

-- 0.3.0: 10,000 times the first number, 100 times the second, and the third
unfoldable pub version : ℕ
version = 300

-- a flag that a host hands over: 0 is false, every other number true
unfoldable pub flag : ℕ → Bool
flag n = not (eqb n 0)

-- a yes or no that a host is told: 1 yes, 0 no
unfoldable pub yes : Bool → ℕ
yes is = cond is 1 0

-- a value that counts where its flag is true
unfoldable pub where_true : {A : Type 0} → Bool → A → Option A
where_true flag a = cond flag (Some a) None

-- 0 for a rule
unfoldable pub refusal_number : Result Rule Refusal → ℕ
refusal_number (Err cause) = number cause
refusal_number (Ok r) = 0

-- the number of document 01 for the refusal of the line
unfoldable pub refusal_of : List ℕ → ℕ
refusal_of line = refusal_number (read_rule line)

-- 0 they differ, 1 they agree, 2 they agree with the superuser flag
unfoldable pub identity_number : Option Bool → ℕ
identity_number None = 0
identity_number (Some superuser) = cond superuser 2 1

-- 3 for no rule
unfoldable pub identity_in : Result Rule Refusal → Client → ℕ
identity_in (Err cause) c = 3
identity_in (Ok r) c = identity_number (identity (means r) c)

-- does the rule of the line mean the client with this id, and with this name, password, address and protocol, each where it is given?
unfoldable pub identity_of : List ℕ → List ℕ → Option (List ℕ) → Option (List ℕ) → Option (List ℕ) → Option ℕ → ℕ
identity_of line id name password address protocol =
    identity_in (read_rule line) (record { id = id; name = name; password = password; address = address; protocol = protocol })
