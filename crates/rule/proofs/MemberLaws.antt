-- Laws of the listed users: a member by its place is the member of the tree. Assumes nothing.
use Prim.Native.Nat.{ℕ, ◌+◌, ◌%◌}
use native.Mathlib.Omega.{arith}
use mathlib.Core.Path.{◌≡◌, refl, sym, ap, subst, ◌∙◌}
use mathlib.Core.Bool.{Bool, true, false, cond}
use mathlib.Core.List.{List, map}
use Rattle.std.specs.Prelude.{Option, None, Some, option_map, option_and_then}
use Rattle.text.specs.Maybe.{bind}
use lib.ListN.{length}
use borrow.Author.Tests.{ne_eqb}
use Rattle.text.specs.Ascii.{ascii}
use Rattle.text.specs.Text.{same}
use Rattle.text.proofs.Laws.{same_true}
use Rattle.json_text.specs.Utf8.{byte_at, between}
use Rattle.json_text.specs.Strings.{Decoded, string_at}
use Rattle.json_text.specs.Plain.{plain_text}
use Rattle.json_text.specs.Json.{Json, null, bool, number, text, array, object, Members, no_member, member, is_at, kind_of, text_at, read_as, depth_limit}
use Rattle.json_text.specs.declared.Read.{Read}
use Rattle.json_text.specs.Access.{value_here, kind_at, behind, last_named, named_in, member_named, truth_of}
use Rattle.json_text.specs.declared.Kind.{Kind}
use Rattle.json_text.specs.declared.Kind.TheVariants.{Text, Array, Object}
use Rattle.json_text.proofs.AccessSteps.{kind_is, kind_opens}
use Rattle.json_text.proofs.PlainLaws.{plain_text_by}
use Rattle.json_text.proofs.AccessLaws.{MembersIn, kind_is_lem, object_is, named_is, number_of, number_is, truth_is, string_here}
use Rattle.json_text.proofs.ValueLaws.{All, value_as, value_by}
use Rattle.rule.specs.Rule as spec
use Rattle.rule.specs.Rule.{Located, Value, named, value_named, as_text, as_number, as_bool, as_object, password_of, flag, user_of, users_in, everyone, users_of, is_word, lower}
use Rattle.rule.specs.Places.{word_of, word_at, value_of, object_of, member_of, is_text_kind, is_text_at, text_place, placed_user, user_here, protocol_here, placed_users, listed_in, users_here}
use Rattle.rule.specs.Members.{text_from, number_from, truth_from, password_from, with_password, user_from, users_from, user_listed, users_listed, places_at, places_in, no_places}
use Rattle.rule.specs.declared.MemberPlaces.{MemberPlaces}
use Rattle.rule.specs.declared.Word.{Word}
use Rattle.rule.specs.declared.Word.TheVariants.{Allow, Deny, All as WordAll, Connect as WordConnect, Publish as WordPublish, Subscribe as WordSubscribe, Pubsub as WordPubsub}
use Rattle.rule.specs.declared.Users.{Users}
use Rattle.rule.specs.declared.User.{User}

-- ---- a member by its place

-- this value is read at this place, or none at none
abbrev pub Stands : List ℕ → Option ℕ → Option Value → Type 0
Stands line None None = Unit {0}
Stands line None (Some v) = ⊥
Stands line (Some p) None = ⊥
Stands line (Some p) (Some v) = (p ≡ v.at) × ((next : ℕ) × (value_here line p ≡ Some (record { value = v.value; next = next })))

last_stands : (name line : List ℕ) (low high : ℕ) (ms : Members) (place : Option ℕ) (found : Option Value) → MembersIn line low high ms → Stands line place found
    → Stands line (last_named name ms place) (named name ms found)
unfolding last_named named
last_stands name line low high no_member place found h k = k
last_stands name line low high (member at n value_start value rest) place found h k =
    last_stands name line h.0 high rest (cond (same n name) (Some value_start) place) (cond (same n name) (Some (record { at = value_start; value = value })) found) h.3
    (by (same n name))
  where
    by : (b : Bool) → Stands line (cond b (Some value_start) place) (cond b (Some (record { at = value_start; value = value })) found)
    by true = (refl, (h.0, h.2.reads))
    by false = k

-- what json finds is the member of the tree
pub member_stands : (name line : List ℕ) (at : ℕ) → Stands line (member_named name line at) (member_of line at name)
unfolding member_of value_of bind as_object value_named named_in member_named
member_stands name line at = by (value_here line at) refl
  where
    in-value : (r : Read Json) (j : Json) → value_here line at ≡ Some r → r.value ≡ j
        → Stands line (named_in name j) (bind (as_object (record { at = at; value = j })) (value_named name))
    in-value r null e q = tt
    in-value r (bool b) e q = tt
    in-value r (number n) e q = tt
    in-value r (text t) e q = tt
    in-value r (array es) e q = tt
    in-value r (object ms) e q = last_stands name line _ _ ms None None (object_is line at e q).members tt

    by : (o : Option (Read Json)) → value_here line at ≡ o
        → Stands line (member_named name line at)
        (bind (bind o (λ r. Some (record { at = at; value = r.value }))) (λ v. bind (as_object v) (value_named name)))
    by None e = subst (λ (o : Option (Read Json)). Stands line (option_and_then (λ (r : Read Json). named_in name r.value) o) None) (sym e) tt
    by (Some r) e =
        subst (λ p. Stands line p (bind (as_object (record { at = at; value = r.value })) (value_named name))) (sym (named_is name line at e))
        (in-value r r.value e refl)

-- ---- what the accessors of a member give, by its place

module _ (line : List ℕ) where
  text_stands : (place : Option ℕ) (o : Option Value) → Stands line place o → text_place (bind o as_text) ≡ text_from line place
  unfolding bind text_place text_from is_text_at is_text_kind kind_is as_text
  text_stands None None h = refl
  text_stands None (Some v) h = absurd h
  text_stands (Some p) None h = absurd h
  text_stands (Some p) (Some v) h = sym (ap (λ k. cond (is_text_kind k) (Some p) None) (kind_is_lem depth_limit line p h.1.1) ∙ by v.value)
    where
      by : (j : Json) → cond (is_text_kind (kind_is j)) (Some p) None ≡ text_place (as_text (record { at = v.at; value = j }))
      by null = refl
      by (bool b) = refl
      by (number n) = refl
      by (text t) = ap Some h.0
      by (array es) = refl
      by (object ms) = refl

  number_stands : (place : Option ℕ) (o : Option Value) → Stands line place o → bind o as_number ≡ number_from line place
  unfolding bind number_from number_of as_number
  number_stands None None h = refl
  number_stands None (Some v) h = absurd h
  number_stands (Some p) None h = absurd h
  number_stands (Some p) (Some v) h = sym (number_is depth_limit line p h.1.1 ∙ by v.value)
    where
      by : (j : Json) → number_of j ≡ (as_number (record { at = v.at; value = j }))
      by null = refl
      by (bool b) = refl
      by (number n) = refl
      by (text t) = refl
      by (array es) = refl
      by (object ms) = refl

  truth_stands : (place : Option ℕ) (o : Option Value) → Stands line place o → bind o as_bool ≡ truth_from line place
  unfolding bind truth_from truth_of as_bool
  truth_stands None None h = refl
  truth_stands None (Some v) h = absurd h
  truth_stands (Some p) None h = absurd h
  truth_stands (Some p) (Some v) h = sym (truth_is depth_limit line p h.1.1 ∙ by v.value)
    where
      by : (j : Json) → truth_of j ≡ (as_bool (record { at = v.at; value = j }))
      by null = refl
      by (bool b) = refl
      by (number n) = refl
      by (text t) = refl
      by (array es) = refl
      by (object ms) = refl

  password_stands : (place : Option ℕ) (o : Option Value) → Stands line place o → option_map text_place (password_of o) ≡ password_from line place
  unfolding password_of password_from is_text_at text_place is_text_kind kind_is as_text
  password_stands None None h = refl
  password_stands None (Some v) h = absurd h
  password_stands (Some p) None h = absurd h
  password_stands (Some p) (Some v) h = sym (ap (λ k. cond (is_text_kind k) (Some (Some p)) None) (kind_is_lem depth_limit line p h.1.1) ∙ by v.value)
    where
      by : (j : Json) → cond (is_text_kind (kind_is j)) (Some (Some p)) None ≡ option_map text_place (option_map Some (as_text (record { at = v.at; value = j })))
      by null = refl
      by (bool b) = refl
      by (number n) = refl
      by (text t) = ap (λ (q : ℕ). Some (Some q)) h.0
      by (array es) = refl
      by (object ms) = refl

  module _ (name : List ℕ) (at : ℕ) {place : Option ℕ} (e : member_named name line at ≡ place) where
    stands_here : Stands line place (member_of line at name)
    stands_here = subst (λ p. Stands line p (member_of line at name)) e (member_stands name line at)

    pub text_by : text_place (bind (member_of line at name) as_text) ≡ text_from line place
    text_by = text_stands place (member_of line at name) stands_here

    pub number_by : (bind (member_of line at name) as_number) ≡ number_from line place
    number_by = number_stands place (member_of line at name) stands_here

    pub truth_by : (bind (member_of line at name) as_bool) ≡ truth_from line place
    truth_by = truth_stands place (member_of line at name) stands_here

    pub password_by : option_map text_place (password_of (member_of line at name)) ≡ password_from line place
    password_by = password_stands place (member_of line at name) stands_here

-- ---- the users of an object, by its members

-- the member of an object
object_member : (line : List ℕ) (at : ℕ) (name : List ℕ) → member_of line at name ≡ bind (object_of line at) (value_named name)
unfolding member_of object_of bind
object_member line at name = by (value_of line at)
  where
    by : (o : Option Value) → bind o (λ v. bind (as_object v) (value_named name)) ≡ bind (bind o as_object) (value_named name)
    by None = refl
    by (Some v) = refl

pub user_by : (allow : Bool) (line : List ℕ) (at : ℕ) {b : Bool} {name : Option ℕ} {password : Option (Option ℕ)} {truth : Option Bool}
    → allow ≡ b
    → text_place (bind (member_of line at (ascii "user")) as_text) ≡ name
    → option_map text_place (password_of (member_of line at (ascii "password"))) ≡ password
    → (bind (member_of line at (ascii "superuser")) as_bool) ≡ truth
    → option_map (option_map placed_user) (user_here allow line at) ≡ user_from b name password truth
unfolding user_here user_of bind user_from with_password text_place placed_user
user_by allow line at z e f g =
    by (object_of line at)
    ∙ (λ i.
    user_from (z i) ((ap (λ (o : Option Value). text_place (bind o as_text)) (sym (object_member line at (ascii "user"))) ∙ e) i)
    ((ap (λ (o : Option Value). option_map text_place (password_of o)) (sym (object_member line at (ascii "password"))) ∙ f) i)
    ((ap (λ (o : Option Value). (bind o as_bool)) (sym (object_member line at (ascii "superuser"))) ∙ g) i))
  where
    each : (b : Bool) (name : Option Located) (password : Option (Option Located)) (superuser : Option Bool)
        → option_map (option_map placed_user)
        (elim name as (λ _. Option (Option spec.User)) [
          | None ↦ Some None
          | Some name ↦
              cond b (option_map (λ password. Some (record { name = name; password = password; superuser = flag superuser })) password)
              (Some (Some (record { name = name; password = None; superuser = false })))
        ])
        ≡ user_from b (text_place name) (option_map text_place password) superuser
    each b None password superuser = refl
    each false (Some name) password superuser = refl
    each true (Some name) None superuser = refl
    each true (Some name) (Some p) None = refl
    each true (Some name) (Some p) (Some s) = refl

    by : (o : Option Members)
        → option_map (option_map placed_user) (elim o as (λ _. Option (Option spec.User)) [ None ↦ Some None | Some ms ↦ user_of allow ms ])
        ≡ user_from allow (text_place (bind (bind o (value_named (ascii "user"))) as_text))
        (option_map text_place (password_of (bind o (value_named (ascii "password"))))) (bind (bind o (value_named (ascii "superuser"))) as_bool)
    by None = refl
    by (Some ms) =
        each allow (bind (value_named (ascii "user") ms) as_text) (password_of (value_named (ascii "password") ms))
        (bind (value_named (ascii "superuser") ms) as_bool)

value_there : (line : List ℕ) (at : ℕ) {p : ℕ} → behind (value_here line at) ≡ Some p → value_of line at ≡ None → ⊥
unfolding value_of bind behind
value_there line at {p} = by (value_here line at)
  where
    by : (o : Option (Read Json)) → behind o ≡ Some p → bind {B = Value} o (λ r. Some (record { at = at; value = r.value })) ≡ None → ⊥
    by None e q = let z : ◌≡◌ {A = ℕ} 0 1 = cc in omega arith
    by (Some r) e q = let z : ◌≡◌ {A = ℕ} 0 1 = cc in omega arith

pub users_absent : (allow : Bool) (line : List ℕ) (at : ℕ) → behind (value_here line at) ≡ None → option_map placed_users (users_here allow line at) ≡ None
unfolding users_here value_of bind behind
users_absent allow line at = by (value_here line at)
  where
    by : (o : Option (Read Json)) → behind o ≡ None
        → option_map placed_users (bind (bind o (λ r. Some (record { at = at; value = r.value }))) (λ v. listed_in allow (as_object v))) ≡ None
    by None e = refl
    by (Some r) e = let z : ◌≡◌ {A = ℕ} 0 1 = cc in absurd (omega arith)

pub users_by : (allow : Bool) (line : List ℕ) (at : ℕ) {p : ℕ} {user : Option (Option User)} {clientid ipaddr : Option ℕ} {protocol : Option ℕ}
    → behind (value_here line at) ≡ Some p
    → option_map (option_map placed_user) (user_here allow line at) ≡ user
    → text_place (bind (member_of line at (ascii "clientid")) as_text) ≡ clientid
    → text_place (bind (member_of line at (ascii "ipaddr")) as_text) ≡ ipaddr
    → protocol_here line at ≡ protocol
    → option_map placed_users (users_here allow line at) ≡ users_from user clientid ipaddr protocol
unfolding users_here user_here object_of member_of protocol_here bind listed_in users_from text_place placed_user placed_users users_in
users_by allow line at there e f g h = by (value_of line at) (value_there line at there) ∙ (λ i. users_from (e i) (f i) (g i) (h i))
  where
    by-user : (o : Option (Option spec.User)) (clientid ipaddr : Option Located) (protocol : Option ℕ)
        → option_map placed_users (option_map (λ user. record { user = user; clientid = clientid; ipaddr = ipaddr; protocol = protocol }) o)
        ≡ users_from (option_map (option_map placed_user) o) (text_place clientid) (text_place ipaddr) protocol
    by-user None clientid ipaddr protocol = refl
    by-user (Some u) clientid ipaddr protocol = refl

    by-object : (o : Option Members)
        → option_map placed_users (listed_in allow o)
        ≡ users_from (option_map (option_map placed_user) (elim o as (λ _. Option (Option spec.User)) [ None ↦ Some None | Some ms ↦ user_of allow ms ]))
        (text_place (bind (bind o (value_named (ascii "clientid"))) as_text)) (text_place (bind (bind o (value_named (ascii "ipaddr"))) as_text))
        (option_map (λ n. n % 256) (bind (bind o (value_named (ascii "protocol"))) as_number))
    by-object None = refl
    by-object (Some ms) =
        by-user (user_of allow ms) (bind (value_named (ascii "clientid") ms) as_text) (bind (value_named (ascii "ipaddr") ms) as_text)
        (option_map (λ n. n % 256) (bind (value_named (ascii "protocol") ms) as_number))

    by : (o : Option Value) → (o ≡ None → ⊥)
        → option_map placed_users (bind o (λ v. listed_in allow (as_object v)))
        ≡ users_from (option_map (option_map placed_user) (elim (bind o as_object) as (λ _. Option (Option spec.User)) [ None ↦ Some None | Some ms ↦ user_of allow ms ]))
        (text_place (bind (bind o (λ v. bind (as_object v) (value_named (ascii "clientid")))) as_text))
        (text_place (bind (bind o (λ v. bind (as_object v) (value_named (ascii "ipaddr")))) as_text))
        (option_map (λ n. n % 256) (bind (bind o (λ v. bind (as_object v) (value_named (ascii "protocol")))) as_number))
    by None n = absurd (n refl)
    by (Some v) n = by-object (as_object v)

protocol_by : (line : List ℕ) (at : ℕ) {n : Option ℕ} → bind (member_of line at (ascii "protocol")) as_number ≡ n
    → protocol_here line at ≡ option_map (λ n. n % 256) n
unfolding protocol_here
protocol_by line at e = ap (option_map (λ (n : ℕ). n % 256)) e

-- the users, by the places of all members
pub users_listed_lem : (allow : Bool) (line : List ℕ) (at : ℕ) {p : ℕ} {m : MemberPlaces} → behind (value_here line at) ≡ Some p → m ≡ places_at line at
    → option_map placed_users (users_here allow line at) ≡ users_listed allow line m
unfolding users_listed user_listed places_at
users_listed_lem allow line at {m = m} there e =
    users_by allow line at there
    (user_by allow line at refl
    (text_by line (ascii "user") at (ap (λ (x : MemberPlaces). x.user) (sym e)))
    (password_by line (ascii "password") at (ap (λ (x : MemberPlaces). x.password) (sym e)))
    (truth_by line (ascii "superuser") at (ap (λ (x : MemberPlaces). x.superuser) (sym e))))
    (text_by line (ascii "clientid") at (ap (λ (x : MemberPlaces). x.clientid) (sym e)))
    (text_by line (ascii "ipaddr") at (ap (λ (x : MemberPlaces). x.ipaddr) (sym e)))
    (protocol_by line at (number_by line (ascii "protocol") at (ap (λ (x : MemberPlaces). x.protocol) (sym e))))

-- an object's members are found where a pass over them finds them
pub places_in_lem : (line : List ℕ) (at : ℕ) {ms : Members} {next : ℕ} → value_here line at ≡ Some (record { value = object ms; next = next }) → places_in ms no_places ≡ places_at line at
unfolding places_in places_at named_in
places_in_lem line at {ms} e =
    let f : (name : List ℕ) → last_named name ms None ≡ member_named name line at = λ name. sym (named_is name line at e) in
    λ i.
    record {
      user = f (ascii "user") i;
      password = f (ascii "password") i;
      superuser = f (ascii "superuser") i;
      clientid = f (ascii "clientid") i;
      ipaddr = f (ascii "ipaddr") i;
      protocol = f (ascii "protocol") i;
    }

-- ---- by the kind of the value at a place

-- by its kind: whether a bracket or a quote opens there
pub array_opens : (line : List ℕ) (at : ℕ) → kind_at line at ≡ Array → is_at line at 0x5b ≡ true
unfolding kind_at
array_opens line at e = kind_opens false line at e

pub object_opens : (line : List ℕ) (at : ℕ) → kind_at line at ≡ Object → is_at line at 0x7b ≡ true
unfolding kind_at
object_opens line at e = kind_opens true line at e

shut : (b : ℕ) (line : List ℕ) (at : ℕ) {k : Kind} → kind_of b ≡ k → (kind_at line at ≡ k → ⊥) → is_at line at b ≡ false
unfolding is_at kind_at
shut b line at e h = ne_eqb (byte_at line at) b (λ q. h (ap kind_of q ∙ e))

pub no_array : (line : List ℕ) (at : ℕ) → (kind_at line at ≡ Array → ⊥) → is_at line at 0x5b ≡ false
no_array line at = shut 0x5b line at (unfold kind_of between in refl)

pub no_object : (line : List ℕ) (at : ℕ) → (kind_at line at ≡ Object → ⊥) → is_at line at 0x7b ≡ false
no_object line at = shut 0x7b line at (unfold kind_of between in refl)

pub no_text : (line : List ℕ) (at : ℕ) → (kind_at line at ≡ Text → ⊥) → plain_text line at ≡ None
no_text line at h =
    let k : kind_of 0x22 ≡ Text = unfold kind_of between in refl in
    plain_text_by line at (shut 0x22 line at k h) refl

-- a value that is read is of the kind that its byte says
values_kind : (line : List ℕ) (at : ℕ) → All (λ (v : Value). kind_is v.value ≡ kind_at line at) (value_of line at)
unfolding value_of bind
values_kind line at = by (value_here line at) refl
  where
    by : (o : Option (Read Json)) → value_here line at ≡ o
        → All (λ (v : Value). kind_is v.value ≡ kind_at line at) (bind o (λ r. Some (record { at = at; value = r.value })))
    by None e = tt
    by (Some r) e = sym (kind_is_lem depth_limit line at e)

-- where neither a string nor an object stands, what asks for one finds none
pub neither : {X : Type 0} (f : Value → Option X) (line : List ℕ) (at : ℕ) → ((v : Value) → as_object v ≡ None → as_text v ≡ None → f v ≡ None)
    → (kind_at line at ≡ Text → ⊥) → (kind_at line at ≡ Object → ⊥) → bind (value_of line at) f ≡ None
unfolding bind kind_is as_object as_text
neither {X} f line at only t o = by (value_of line at) (values_kind line at)
  where
    by_value : (p : ℕ) (j : Json) → kind_is j ≡ kind_at line at → f (record { at = p; value = j }) ≡ None
    by_value p null e = only (record { at = p; value = null }) refl refl
    by_value p (bool b) e = only (record { at = p; value = bool b }) refl refl
    by_value p (number n) e = only (record { at = p; value = number n }) refl refl
    by_value p (text s) e = absurd (t (sym e))
    by_value p (array es) e = only (record { at = p; value = array es }) refl refl
    by_value p (object ms) e = absurd (o (sym e))

    by : (o : Option Value) → All (λ (v : Value). kind_is v.value ≡ kind_at line at) o → bind o f ≡ None
    by None h = refl
    by (Some v) h = by_value v.at v.value h

-- where an object may stand, what asks for one finds it
pub in_object : {X : Type 0} (f g : Value → Option X) (line : List ℕ) (at : ℕ) → ((p : ℕ) (ms : Members) → f (record { at = p; value = object ms }) ≡ g (record { at = p; value = object ms }))
    → kind_at line at ≡ Object → bind (value_of line at) f ≡ bind (value_of line at) g
unfolding bind kind_is
in_object {X} f g line at alike k = by (value_of line at) (values_kind line at)
  where
    by_value : (p : ℕ) (j : Json) → kind_is j ≡ Object → f (record { at = p; value = j }) ≡ g (record { at = p; value = j })
    by_value p null e = let z : ◌≡◌ {A = ℕ} 0 1 = cc in absurd (omega arith)
    by_value p (bool b) e = let z : ◌≡◌ {A = ℕ} 0 1 = cc in absurd (omega arith)
    by_value p (number n) e = let z : ◌≡◌ {A = ℕ} 0 1 = cc in absurd (omega arith)
    by_value p (text s) e = let z : ◌≡◌ {A = ℕ} 0 1 = cc in absurd (omega arith)
    by_value p (array es) e = let z : ◌≡◌ {A = ℕ} 0 1 = cc in absurd (omega arith)
    by_value p (object ms) e = alike p ms

    by : (o : Option Value) → All (λ (v : Value). kind_is v.value ≡ kind_at line at) o → bind o f ≡ bind o g
    by None h = refl
    by (Some v) h = by_value v.at v.value (h ∙ k)

-- the value of a string
unfoldable pub string_value : ℕ → Option Decoded → Option Value
string_value at None = None
string_value at (Some d) = Some (record { at = at; value = text d.text })

pub text_value : (line : List ℕ) (at : ℕ) → kind_at line at ≡ Text → value_of line at ≡ string_value at (string_at line at)
unfolding value_of bind kind_at value_as text_at read_as string_value
text_value line at e =
    ap (λ (o : Option (Read Json)). bind {B = Value} o (λ r. Some (record { at = at; value = r.value }))) (value_by depth_limit line at e) ∙ by (string_at line at)
  where
    by : (o : Option Decoded)
        → bind {B = Value} (read_as text (bind {B = Read (List ℕ)} o (λ d. Some (record { value = d.text; next = at + 1 + d.size })))) (λ r. Some (record { at = at; value = r.value }))
        ≡ string_value at o
    by None = refl
    by (Some d) = refl

-- ---- the users that a value lists

pub users_object : (allow : Bool) (line : List ℕ) (at : ℕ) → kind_at line at ≡ Object → users_here allow line at ≡ bind (value_of line at) (users_of allow)
unfolding users_here listed_in users_of as_object
users_object allow line at k = in_object (λ v. listed_in allow (as_object v)) (users_of allow) line at (λ p ms. refl) k

pub users_other : (allow : Bool) (line : List ℕ) (at : ℕ) → (kind_at line at ≡ Text → ⊥) → (kind_at line at ≡ Object → ⊥)
    → option_map placed_users (bind (value_of line at) (users_of allow)) ≡ None
unfolding users_of bind
users_other allow line at t o = ap (option_map placed_users) (neither (users_of allow) line at (λ v e f. by (as_object v) (as_text v) e f) t o)
  where
    by : (o : Option Members) (t : Option Located) → o ≡ None → t ≡ None
        → ◌≡◌ {A = Option spec.Users}
        (elim o as (λ _. Option spec.Users) [
          | Some ms ↦ users_in allow ms
          | None ↦ bind t (λ t. cond (is_word (ascii "all") t.text) (Some everyone) None)
        ])
        None
    by None None e f = refl
    by None (Some l) e f = let z : ◌≡◌ {A = ℕ} 0 1 = cc in absurd (omega arith)
    by (Some ms) t e f = let z : ◌≡◌ {A = ℕ} 0 1 = cc in absurd (omega arith)

-- the users that a word lists
unfoldable pub word_users : Word → Option Users
word_users Allow = None
word_users Deny = None
word_users WordAll = Some (record { user = None; clientid = None; ipaddr = None; protocol = None })
word_users WordConnect = None
word_users WordPublish = None
word_users WordSubscribe = None
word_users WordPubsub = None

pub not_all : (w : Word) → (w ≡ WordAll → ⊥) → word_users w ≡ None
unfolding word_users
not_all Allow h = refl
not_all Deny h = refl
not_all WordAll h = absurd (h refl)
not_all WordConnect h = refl
not_all WordPublish h = refl
not_all WordSubscribe h = refl
not_all WordPubsub h = refl

-- a text is one word only
one_word : (a b t : List ℕ) → (length a ≡ length b → ⊥) → is_word a t ≡ true → is_word b t ≡ true → ⊥
unfolding is_word
one_word a b t h e f = h (ap length (sym (same_true (map lower t) a e) ∙ same_true (map lower t) b f))

all_word : (t : List ℕ) → option_map placed_users (cond (is_word (ascii "all") t) (Some everyone) None) ≡ option_and_then word_users (word_of t)
unfolding placed_users placed_user text_place word_users word_of
all_word t = by (is_word (ascii "allow") t) (is_word (ascii "deny") t) (is_word (ascii "all") t) refl refl refl
  where
    behind-all : (c p s u : Bool) → None ≡ option_and_then word_users (cond c (Some WordConnect) (cond p (Some WordPublish) (cond s (Some WordSubscribe) (cond u (Some WordPubsub) None))))
    behind-all true p s u = refl
    behind-all false true s u = refl
    behind-all false false true u = refl
    behind-all false false false true = refl
    behind-all false false false false = refl

    by : (w d l : Bool) → is_word (ascii "allow") t ≡ w → is_word (ascii "deny") t ≡ d → is_word (ascii "all") t ≡ l
        → option_map placed_users (cond l (Some everyone) None)
        ≡ option_and_then word_users
        (cond w (Some Allow)
        (cond d (Some Deny)
        (cond l (Some WordAll)
        (cond (is_word (ascii "connect") t) (Some WordConnect)
        (cond (is_word (ascii "publish") t) (Some WordPublish)
        (cond (is_word (ascii "subscribe") t) (Some WordSubscribe) (cond (is_word (ascii "pubsub") t) (Some WordPubsub) None)))))))
    by true d true e f g = absurd (one_word (ascii "allow") (ascii "all") t (λ h. omega arith) e g)
    by true d false e f g = refl
    by false true true e f g = absurd (one_word (ascii "deny") (ascii "all") t (λ h. omega arith) f g)
    by false true false e f g = refl
    by false false true e f g = refl
    by false false false e f g =
        behind-all (is_word (ascii "connect") t) (is_word (ascii "publish") t) (is_word (ascii "subscribe") t) (is_word (ascii "pubsub") t)

pub users_word : (allow : Bool) (line : List ℕ) (at : ℕ) {w : Option Word} → kind_at line at ≡ Text → word_at line at ≡ w
    → option_map placed_users (bind (value_of line at) (users_of allow)) ≡ option_and_then word_users w
unfolding word_at string_value bind users_of as_object as_text
users_word allow line at k e =
    ap (λ (o : Option Value). option_map placed_users (bind o (users_of allow))) (text_value line at k) ∙ (by (string_at line at) ∙ ap (option_and_then word_users) e)
  where
    by : (o : Option Decoded) → option_map placed_users (bind (string_value at o) (users_of allow)) ≡ option_and_then word_users (option_and_then (λ (d : Decoded). word_of d.text) o)
    by None = refl
    by (Some d) = all_word d.text

-- ---- a member's string

abbrev pub StringIs : List ℕ → Located → Type 0
StringIs line l = (d : Decoded) × (string_at line l.at ≡ Some d) × (d.text ≡ l.text)

string_stands : (line : List ℕ) (place : Option ℕ) (o : Option Value) → Stands line place o → All (StringIs line) (bind o as_text)
unfolding bind as_text
string_stands line None None h = tt
string_stands line None (Some v) h = absurd h
string_stands line (Some p) None h = absurd h
string_stands line (Some p) (Some v) h = by v.value refl
  where
    by : (j : Json) → v.value ≡ j → All (StringIs line) (as_text (record { at = v.at; value = j }))
    by null q = tt
    by (bool b) q = tt
    by (number n) q = tt
    by (text t) q = let s = string_here depth_limit line p h.1.1 q in (s.0, ap (string_at line) (sym h.0) ∙ s.1, s.2)
    by (array es) q = tt
    by (object ms) q = tt

pub member_string : (name line : List ℕ) (at : ℕ) → All (StringIs line) (bind (member_of line at name) as_text)
member_string name line at = string_stands line (member_named name line at) (member_of line at name) (member_stands name line at)
