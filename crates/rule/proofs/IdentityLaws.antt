-- Identity by places is Identity: where a rule's texts stand in the line, what `identity` answers is what the rule means. Assumes nothing.
use Prim.Native.Nat.{ℕ}
use mathlib.Core.Path.{◌≡◌, refl, ap, ap₂, ◌∙◌}
use mathlib.Core.Bool.{false, ◌&&◌, cond}
use mathlib.Core.List.{List}
use Rattle.std.specs.Prelude.{Option, None, Some, is_some, is_none, option_map}
use Rattle.text.specs.Text.{same}
use Rattle.json_text.specs.Strings.{Decoded, string_at}
use Rattle.json_text.proofs.AccessSteps.{is_string}
use Rattle.rule.specs.Rule as spec
use Rattle.rule.specs.Rule.{Located, user_means, means}
use Rattle.rule.specs.Identity.{Client, is_text, is_number, if_listed, user_agrees, agrees, user_flag, superuser, identity}
use Rattle.rule.specs.Places.{text_place, placed_user, placed_users}
use Rattle.rule.specs.Agreement.{is_given, place_agrees, user_place_agrees, protocol_agrees, flag_of_user, flag_of, identity_at}

-- ---- where a rule's texts stand

-- the string at the text's place is the text
pub record Stands (line : List ℕ) (t : Located) : Type 0 where
  pub string : Decoded
  pub is : string_at line t.at ≡ Some string
  pub text : string.text ≡ t.text

pub data Listed {A : Type 0} (P : A → Type 0) : Option A → Type 0 where
  unlisted : Listed P None
  listed : (a : A) → P a → Listed P (Some a)

pub record UserStands (line : List ℕ) (u : spec.User) : Type 0 where
  pub name : Stands line u.name
  pub password : Listed (Stands line) u.password

pub record UsersStand (line : List ℕ) (u : spec.Users) : Type 0 where
  pub user : Listed (UserStands line) u.user
  pub clientid : Listed (Stands line) u.clientid
  pub ipaddr : Listed (Stands line) u.ipaddr

-- the users of a rule
abbrev pub users_of_rule : spec.Rule → spec.Users
users_of_rule r = record { user = r.user; clientid = r.clientid; ipaddr = r.ipaddr; protocol = r.protocol }

-- ---- each listed user

given_means : (line : List ℕ) (t : Located) (o : Option (List ℕ)) → Stands line t → is_given line t.at o ≡ is_text t.text o
unfolding is_given is_text
given_means line t None s = refl
given_means line t (Some given) s = is_string line t.at given s.is ∙ ap (λ (x : List ℕ). same x given) s.text

place_means :
    (line : List ℕ) (t : Option Located) (o : Option (List ℕ)) → Listed (Stands line) t
    → place_agrees line (text_place t) o ≡ if_listed (option_map (λ t. t.text) t) (λ s. is_text s o)
unfolding place_agrees text_place if_listed
place_means line t o unlisted = refl
place_means line t o (listed a s) = given_means line a o s

user_means_lem :
    (line : List ℕ) (u : Option spec.User) (c : Client) → Listed (UserStands line) u
    → user_place_agrees line (option_map placed_user u) c.name c.password ≡ if_listed (option_map user_means u) (user_agrees c)
unfolding user_place_agrees placed_user if_listed user_means user_agrees place_agrees text_place
user_means_lem line u c unlisted = refl
user_means_lem line u c (listed a s) =
    ap₂ ◌&&◌ (given_means line a.name c.name s.name) (place_means line a.password c.password s.password)

flag_by :
    (p : Option ℕ) (i k : Option Located) (u : Option spec.User)
    → (is_none p && (is_none (text_place i) && (is_none (text_place k) && flag_of_user (option_map placed_user u))))
    ≡ cond (is_some p) false
    (cond (is_some (option_map (λ t. t.text) i)) false (cond (is_some (option_map (λ t. t.text) k)) false (user_flag (option_map user_means u))))
unfolding text_place flag_of_user placed_user user_flag user_means
flag_by (Some n) i k u = refl
flag_by None (Some i) k u = refl
flag_by None None (Some k) u = refl
flag_by None None None None = refl
flag_by None None None (Some u) = refl

flag_means : (r : spec.Rule) → flag_of (placed_users (users_of_rule r)) ≡ superuser (means r)
unfolding flag_of placed_users superuser means
flag_means r = flag_by r.protocol r.ipaddr r.clientid r.user

-- ---- a rule

pub identity-means :
    (line : List ℕ) (r : spec.Rule) (c : Client) → UsersStand line (users_of_rule r)
    → identity_at line (placed_users (users_of_rule r)) c ≡ identity (means r) c
unfolding identity_at placed_users identity agrees means is_text protocol_agrees
identity-means line r c s =
    let user = user_means_lem line r.user c s.user in
    let clientid = place_means line r.clientid (Some c.id) s.clientid in
    let ipaddr = place_means line r.ipaddr c.address s.ipaddr in
    let flag = flag_means r in
    λ i. cond (user i && (clientid i && (ipaddr i && if_listed r.protocol (λ n. is_number n c.protocol)))) (Some (flag i)) None
