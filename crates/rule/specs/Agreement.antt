-- Identity on a rule that is given by places in its line.
use Rattle.std.specs.Prelude.{ℕ, Bool, false, ◌&&◌, cond, List, Option, None, Some, is_none}
use Rattle.json_text.specs.Access.{string_is}
use Rattle.rule.specs.Identity.{Client, is_number, if_listed}
use Rattle.rule.specs.declared.User.{User}
use Rattle.rule.specs.declared.Users.{Users}

-- the string at a place is the text that is given
unfoldable pub is_given : List ℕ → ℕ → Option (List ℕ) → Bool
is_given line at None = false
is_given line at (Some t) = string_is line at t

-- a part that is listed agrees; one that is not, with everyone
unfoldable pub place_agrees : List ℕ → Option ℕ → Option (List ℕ) → Bool
place_agrees line place given = if_listed place (λ p. is_given line p given)

unfoldable pub user_place_agrees : List ℕ → Option User → Option (List ℕ) → Option (List ℕ) → Bool
user_place_agrees line user name password = if_listed user (λ u. is_given line u.name name && place_agrees line u.password password)

unfoldable pub protocol_agrees : Option ℕ → Option ℕ → Bool
protocol_agrees listed given = if_listed listed (λ n. is_number n given)

-- "only a name carries one"
unfoldable pub flag_of_user : Option User → Bool
flag_of_user None = false
flag_of_user (Some u) = u.superuser

unfoldable pub flag_of : Users → Bool
flag_of u = is_none u.protocol && (is_none u.ipaddr && (is_none u.clientid && flag_of_user u.user))

-- the superuser flag, if every listed user agrees
unfoldable pub identity_at : List ℕ → Users → Client → Option Bool
identity_at line u c =
    cond
    (user_place_agrees line u.user c.name c.password
    && (place_agrees line u.clientid (Some c.id) && (place_agrees line u.ipaddr c.address && protocol_agrees u.protocol c.protocol)))
    (Some (flag_of u))
    None
