-- Does a rule mean this client? Document 01, Identity; `Rule::hit` and `User::hit` of config.rs.
use Rattle.std.specs.Prelude.{ℕ, Bool, true, false, ◌&&◌, cond, List, eqb, Option, None, Some, is_some}
use Rattle.text.specs.Text.{same}
use Rattle.rule.specs.Rule.{UserOf, Meaning}

-- who asks: the client id, and what else is given
pub record Client : Type 0 where
  pub id : List ℕ
  pub name : Option (List ℕ)
  pub password : Option (List ℕ)
  pub address : Option (List ℕ)
  pub protocol : Option ℕ

-- "equal and present"
unfoldable pub is_text : List ℕ → Option (List ℕ) → Bool
is_text t None = false
is_text t (Some given) = same t given

unfoldable pub is_number : ℕ → Option ℕ → Bool
is_number n None = false
is_number n (Some given) = eqb n given

-- a user that is listed agrees; one that is not, with everyone
unfoldable pub if_listed : {A : Type 0} → Option A → (A → Bool) → Bool
if_listed None agrees = true
if_listed (Some a) agrees = agrees a

-- "Name: equal, and where an allow rule has a password, one is given and equal" (a deny rule holds none)
unfoldable pub user_agrees : Client → UserOf (List ℕ) → Bool
user_agrees c u = is_text u.name c.name && if_listed u.password (λ p. is_text p c.password)

-- "Every listed user must agree; no users means agreement"
unfoldable pub agrees : Meaning → Client → Bool
agrees r c =
    if_listed r.user (user_agrees c)
    && (if_listed r.clientid (λ t. same t c.id)
    && (if_listed r.ipaddr (λ t. is_text t c.address) && if_listed r.protocol (λ n. is_number n c.protocol)))

unfoldable pub user_flag : Option (UserOf (List ℕ)) → Bool
user_flag None = false
user_flag (Some u) = u.superuser

-- "The superuser flag is that of the last listed user, and only a name carries one": users are listed as user, clientid, ipaddr, protocol
unfoldable pub superuser : Meaning → Bool
superuser r =
    cond (is_some r.protocol) false (cond (is_some r.ipaddr) false (cond (is_some r.clientid) false (user_flag r.user)))

unfoldable pub identity : Meaning → Client → Option Bool
identity r c = cond (agrees r c) (Some (superuser r)) None
