-- The users of an object, by the places of its members' values.
use Rattle.std.specs.Prelude.{ℕ, ◌+◌, ◌≤◌, ◌%◌, ◌≡◌, Bool, false, cond, List, Some, Option, None, option_map, option_and_then}
use Rattle.text.specs.Ascii.{ascii}
use Rattle.text.specs.Text.{same}
use Rattle.json_text.specs.Json.{Json, object, Members, is_at, skip_blanks, value_at, longest, longest_member}
use Rattle.json_text.specs.Access.{last_named, member_named, number_here, truth_here}
use Rattle.rule.specs.Limits.{text_limit}
use Rattle.rule.specs.Rule.{flag}
use Rattle.rule.specs.Places.{is_text_at, users_of_place}
use Rattle.rule.specs.declared.Users.{Users}
use Rattle.rule.specs.declared.MemberPlaces.{MemberPlaces}
use Rattle.rule.specs.declared.User.{User}

-- what a member's place gives: a string, a number, a bool, a password
unfoldable pub text_from : List ℕ → Option ℕ → Option ℕ
text_from line o = option_and_then (λ p. cond (is_text_at line p) (Some p) None) o

unfoldable pub number_from : List ℕ → Option ℕ → Option ℕ
number_from line o = option_and_then (number_here line) o

unfoldable pub truth_from : List ℕ → Option ℕ → Option Bool
truth_from line o = option_and_then (truth_here line) o

unfoldable pub password_from : List ℕ → Option ℕ → Option (Option ℕ)
password_from line None = Some None
password_from line (Some p) = cond (is_text_at line p) (Some (Some p)) None

-- the name, with the password and the flag under allow
unfoldable pub with_password : ℕ → Option (Option ℕ) → Option Bool → Option (Option User)
with_password name password truth = option_map (λ p. Some (record { name = name; password = p; superuser = flag truth })) password

unfoldable pub user_from : Bool → Option ℕ → Option (Option ℕ) → Option Bool → Option (Option User)
user_from allow None password truth = Some None
user_from allow (Some name) password truth =
    cond allow (with_password name password truth) (Some (Some (record { name = name; password = None; superuser = false })))

unfoldable pub users_from : Option (Option User) → Option ℕ → Option ℕ → Option ℕ → Option Users
users_from user clientid ipaddr protocol =
    option_map (λ u. record { user = u; clientid = clientid; ipaddr = ipaddr; protocol = protocol }) user

-- the users that the members at these places list
unfoldable pub user_listed : Bool → List ℕ → MemberPlaces → Option (Option User)
user_listed allow line m = user_from allow (text_from line m.user) (password_from line m.password) (truth_from line m.superuser)

unfoldable pub users_listed : Bool → List ℕ → MemberPlaces → Option Users
users_listed allow line m =
    users_from (user_listed allow line m) (text_from line m.clientid) (text_from line m.ipaddr) (option_map (λ n. n % 256) (number_from line m.protocol))

-- the place of the value behind a name that ends before this place
unfoldable pub value_behind : List ℕ → ℕ → Option ℕ
value_behind line at = let p = skip_blanks line at in cond (is_at line p 0x3a) (Some (skip_blanks line (p + 1))) None

-- the places of the object at a place
unfoldable pub places_at : List ℕ → ℕ → MemberPlaces
places_at line at =
    record {
      user = member_named (ascii "user") line at;
      password = member_named (ascii "password") line at;
      superuser = member_named (ascii "superuser") line at;
      clientid = member_named (ascii "clientid") line at;
      ipaddr = member_named (ascii "ipaddr") line at;
      protocol = member_named (ascii "protocol") line at;
    }

-- and of members, behind those of which these were the places
unfoldable pub places_in : Members → MemberPlaces → MemberPlaces
places_in ms m =
    record {
      user = last_named (ascii "user") ms m.user;
      password = last_named (ascii "password") ms m.password;
      superuser = last_named (ascii "superuser") ms m.superuser;
      clientid = last_named (ascii "clientid") ms m.clientid;
      ipaddr = last_named (ascii "ipaddr") ms m.ipaddr;
      protocol = last_named (ascii "protocol") ms m.protocol;
    }

-- one member more: its name, and the place of its value
unfoldable pub noted : List ℕ → ℕ → MemberPlaces → MemberPlaces
noted name p m =
    record {
      user = cond (same name (ascii "user")) (Some p) m.user;
      password = cond (same name (ascii "password")) (Some p) m.password;
      superuser = cond (same name (ascii "superuser")) (Some p) m.superuser;
      clientid = cond (same name (ascii "clientid")) (Some p) m.clientid;
      ipaddr = cond (same name (ascii "ipaddr")) (Some p) m.ipaddr;
      protocol = cond (same name (ascii "protocol")) (Some p) m.protocol;
    }

abbrev pub no_places : MemberPlaces
no_places = record { user = None; password = None; superuser = None; clientid = None; ipaddr = None; protocol = None }

-- an object that ends before a place, no string of which is over the limit, and the places of its members
pub record MembersTo (line : List ℕ) (at : ℕ) (m : MemberPlaces) (end : ℕ) : Type 0 where
  pub members : Members
  pub reads : value_at 7 line at ≡ Some (record { value = object members; next = end })
  pub short : longest_member members ≤ text_limit
  pub are : m ≡ places_in members no_places

-- and users that end so
pub record UsersTo (line : List ℕ) (allow : Bool) (at : ℕ) (users : Users) (end : ℕ) : Type 0 where
  pub value : Json
  pub reads : value_at 7 line at ≡ Some (record { value = value; next = end })
  pub short : longest value ≤ text_limit
  pub are : users_of_place line allow (Some at) ≡ Some users
