-- The texts of a rule that was read from a line stand in it, each at its place. Assumes nothing.
use Prim.Native.Nat.{ℕ, zero, suc, ◌+◌}
use mathlib.Core.Path.{◌≡◌, refl, ap, subst, ◌∙◌}
use mathlib.Core.Bool.{Bool, true, false, ◌||◌, cond}
use mathlib.Core.List.{List, [], ◌∷◌}
use Rattle.std.specs.Prelude.{Option, None, Some, Ok, Err, option_map}
use Rattle.text.specs.Maybe.{bind}
use native.Mathlib.Omega.{arith}
use lib.Dec.{ltb}
use lib.ListN.{length}
use Rattle.text.specs.Ascii.{ascii}
use Rattle.text.specs.Text.{same}
use Rattle.topic.specs.Topic.{valid_filter}
use Rattle.json_text.specs.Strings.{string_at}
use Rattle.json_text.specs.Json.{Json, null, bool, number, text, array, object, Elements, no_element, element, Members, no_member, member, skip_blanks, depth_limit, line_value, longest}
use Rattle.json_text.specs.Access.{value_here}
use Rattle.json_text.proofs.AccessLaws.{ElementsIn, MembersIn, array_is, object_is, string_here, line_is}
use Rattle.rule.specs.Rule as spec
use Rattle.rule.specs.Rule.{Located, Value, is_word, is_template, nth, named, value_named, as_text, as_bool, as_array, as_object, access_of, password_of, user_of, users_in, everyone, users_of, control_of, topic_of, topics_in, topics_of, rule_in, rule_of}
use Rattle.rule.specs.RuleText.{topics_over, or_not_a_rule, rule_from, read_rule}
use Rattle.rule.specs.Limits.{line_limit, text_limit}
use Rattle.rule.specs.declared.Refusal.TheVariants.{TooLong}
use Rattle.rule.specs.Rule.{means}
use Rattle.rule.specs.Identity.{Client, identity}
use Rattle.rule.specs.Places.{placed_rule, filling, filled_into, filling_at, filled_at}
use Rattle.rule.specs.Agreement.{identity_at}
use Rattle.rule.proofs.IdentityLaws.{Stands, Listed, unlisted, listed, UserStands, UsersStand, users_of_rule, identity-means}

-- ---- what is listed

listed-bind : {A B : Type 0} {P : A → Type 0} {Q : B → Type 0} (o : Option A) (f : A → Option B) → Listed P o → ((a : A) → P a → Listed Q (f a)) → Listed Q (bind o f)
unfolding bind
listed-bind o f unlisted g = unlisted
listed-bind o f (listed a p) g = g a p

listed-map : {A B : Type 0} {P : A → Type 0} {Q : B → Type 0} (o : Option A) (f : A → B) → Listed P o → ((a : A) → P a → Q (f a)) → Listed Q (option_map f o)
listed-map o f unlisted g = unlisted
listed-map o f (listed a p) g = listed (f a) (g a p)

anything : {A : Type 0} (o : Option A) → Listed (λ (a : A). Unit {0}) o
anything None = unlisted
anything (Some a) = listed a tt

module _ (line : List ℕ) where
  -- ---- values

  pub record ValueStands (v : Value) : Type 0 where
    pub next : ℕ
    pub reads : value_here line v.at ≡ Some (record { value = v.value; next = next })

  pub record MembersStand (ms : Members) : Type 0 where
    pub low : ℕ
    pub high : ℕ
    pub members : MembersIn line low high ms

  pub record ElementsStand (es : Elements) : Type 0 where
    pub low : ℕ
    pub high : ℕ
    pub elements : ElementsIn line low high es

  pub nth_stands : (n : ℕ) (es : Elements) (low high : ℕ) → ElementsIn line low high es → Listed ValueStands (nth n es)
  unfolding nth
  nth_stands n no_element low high h = unlisted
  nth_stands zero (element at value rest) low high h = listed _ (record { next = h.0; reads = h.2.reads })
  nth_stands (suc n) (element at value rest) low high h = nth_stands n rest h.0 high h.3

  pub named_stands :
      (name : List ℕ) (ms : Members) (found : Option Value) (low high : ℕ) → MembersIn line low high ms → Listed ValueStands found
      → Listed ValueStands (named name ms found)
  unfolding named
  named_stands name no_member found low high h k = k
  named_stands name (member at n value_start value rest) found low high h k =
      named_stands name rest (cond (same n name) (Some (record { at = value_start; value = value })) found) h.0 high h.3 (by (same n name))
    where
      by : (b : Bool) → Listed ValueStands (cond b (Some (record { at = value_start; value = value })) found)
      by true = listed _ (record { next = h.0; reads = h.2.reads })
      by false = k

  pub member_stands : (name : List ℕ) (ms : Members) → MembersStand ms → Listed ValueStands (value_named name ms)
  unfolding value_named
  member_stands name ms s = named_stands name ms None s.low s.high s.members unlisted

  pub text_stands : (v : Value) → ValueStands v → Listed (Stands line) (as_text v)
  unfolding as_text
  text_stands v s = by v.value refl
    where
      by : (j : Json) → v.value ≡ j
          → Listed (Stands line) (elim j [ null ↦ None | bool b ↦ None | number n ↦ None | text t ↦ Some (record { at = v.at; text = t }) | array es ↦ None | object ms ↦ None ])
      by null e = unlisted
      by (bool b) e = unlisted
      by (number n) e = unlisted
      by (text t) e =
          let h = string_here depth_limit line v.at s.reads e in
          listed _ (record { string = h.0; is = h.1; text = h.2 })
      by (array es) e = unlisted
      by (object ms) e = unlisted

  pub object_stands : (v : Value) → ValueStands v → Listed MembersStand (as_object v)
  unfolding as_object
  object_stands v s = by v.value refl
    where
      by : (j : Json) → v.value ≡ j
          → Listed MembersStand (elim j [ null ↦ None | bool b ↦ None | number n ↦ None | text t ↦ None | array es ↦ None | object ms ↦ Some ms ])
      by null e = unlisted
      by (bool b) e = unlisted
      by (number n) e = unlisted
      by (text t) e = unlisted
      by (array es) e = unlisted
      by (object ms) e = listed _ (record { low = v.at + 1; high = s.next; members = (object_is line v.at s.reads e).members })

  pub array_stands : (v : Value) → ValueStands v → Listed ElementsStand (as_array v)
  unfolding as_array
  array_stands v s = by v.value refl
    where
      by : (j : Json) → v.value ≡ j
          → Listed ElementsStand (elim j [ null ↦ None | bool b ↦ None | number n ↦ None | text t ↦ None | array es ↦ Some es | object ms ↦ None ])
      by null e = unlisted
      by (bool b) e = unlisted
      by (number n) e = unlisted
      by (text t) e = unlisted
      by (array es) e = listed _ (record { low = v.at + 1; high = s.next; elements = (array_is line v.at s.reads e).elements })
      by (object ms) e = unlisted

  pub member_text : (name : List ℕ) (ms : Members) → MembersStand ms → Listed (Stands line) (bind (value_named name ms) as_text)
  member_text name ms s = listed-bind (value_named name ms) as_text (member_stands name ms s) text_stands

  -- ---- users

  pub password_stands : (o : Option Value) → Listed ValueStands o → Listed (Listed (Stands line)) (password_of o)
  unfolding password_of
  password_stands o unlisted = listed None unlisted
  password_stands o (listed v s) = listed-map (as_text v) Some (text_stands v s) (λ t p. listed t p)

  pub user_stands : (allow : Bool) (ms : Members) → MembersStand ms → Listed (Listed (UserStands line)) (user_of allow ms)
  unfolding user_of
  user_stands allow ms s = by (bind (value_named (ascii "user") ms) as_text) (member_text (ascii "user") ms s) allow
    where
      superuser : Bool
      superuser = spec.flag (bind (value_named (ascii "superuser") ms) as_bool)

      by : (o : Option Located) → Listed (Stands line) o → (b : Bool)
          → Listed (Listed (UserStands line))
          (elim o [
            | None ↦ Some None
            | Some name ↦
                cond b
                (option_map
                (λ password. Some (record { name = name; password = password; superuser = superuser }))
                (password_of (value_named (ascii "password") ms)))
                (Some (Some (record { name = name; password = None; superuser = false })))
          ])
      by o unlisted b = listed None unlisted
      by o (listed name h) true =
          listed-map (password_of (value_named (ascii "password") ms))
          (λ password. Some (record { name = name; password = password; superuser = superuser }))
          (password_stands (value_named (ascii "password") ms) (member_stands (ascii "password") ms s))
          (λ password k. listed _ (record { name = h; password = k }))
      by o (listed name h) false = listed _ (listed _ (record { name = h; password = unlisted }))

  pub users_in_stand : (allow : Bool) (ms : Members) → MembersStand ms → Listed (UsersStand line) (users_in allow ms)
  unfolding users_in
  users_in_stand allow ms s =
      listed-map (user_of allow ms) _ (user_stands allow ms s)
      (λ user h. record { user = h; clientid = member_text (ascii "clientid") ms s; ipaddr = member_text (ascii "ipaddr") ms s })

  pub users_stand : (allow : Bool) (v : Value) → ValueStands v → Listed (UsersStand line) (users_of allow v)
  unfolding users_of
  users_stand allow v s = by (as_object v) (object_stands v s)
    where
      all : (b : Bool) → Listed (UsersStand line) (cond b (Some everyone) None)
      all true = listed _ (record { user = unlisted; clientid = unlisted; ipaddr = unlisted })
      all false = unlisted

      by : (o : Option Members) → Listed MembersStand o
          → Listed (UsersStand line)
          (elim o [
            | Some ms ↦ users_in allow ms
            | None ↦ bind (as_text v) (λ t. cond (is_word (ascii "all") t.text) (Some everyone) None)
          ])
      by o unlisted = listed-bind (as_text v) (λ t. cond (is_word (ascii "all") t.text) (Some everyone) None) (text_stands v s) (λ t h. all (is_word (ascii "all") t.text))
      by o (listed ms h) = users_in_stand allow ms h

  -- ---- topics

  -- the text of each of these topics stands
  abbrev pub TopicsStand : List spec.Topic → Type 0
  TopicsStand [] = Unit {0}
  TopicsStand (t ∷ topics) = Stands line t.text × TopicsStand topics

  pub topic_stands : (v : Value) → ValueStands v → Listed (λ (t : spec.Topic). Stands line t.text) (topic_of v)
  unfolding topic_of
  topic_stands v s = by (as_object v) (object_stands v s)
    where
      plain : (t : Located) → Stands line t → (b : Bool)
          → Listed (λ (t : spec.Topic). Stands line t.text) (cond b (Some (record { eq = false; text = t })) None)
      plain t h true = listed _ h
      plain t h false = unlisted

      by : (o : Option Members) → Listed MembersStand o
          → Listed (λ (t : spec.Topic). Stands line t.text)
          (elim o [
            | Some ms ↦ option_map (λ t. record { eq = true; text = t }) (bind (value_named (ascii "eq") ms) as_text)
            | None ↦ bind (as_text v) (λ t. cond (is_template t.text || valid_filter t.text) (Some (record { eq = false; text = t })) None)
          ])
      by o unlisted = listed-bind (as_text v) _ (text_stands v s) (λ t h. plain t h (is_template t.text || valid_filter t.text))
      by o (listed ms h) = listed-map (bind (value_named (ascii "eq") ms) as_text) _ (member_text (ascii "eq") ms h) (λ t k. k)

  pub topics_in_stand : (es : Elements) (low high : ℕ) → ElementsIn line low high es → Listed TopicsStand (topics_in es)
  unfolding topics_in
  topics_in_stand no_element low high h = listed [] tt
  topics_in_stand (element at value rest) low high h =
      listed-bind (topic_of (record { at = at; value = value })) _
      (topic_stands (record { at = at; value = value }) (record { next = h.0; reads = h.2.reads }))
      (λ t k. listed-map (topics_in rest) (λ topics. t ∷ topics) (topics_in_stand rest h.0 high h.3) (λ topics l. (k, l)))

  pub topics_stand : (o : Option Value) → Listed ValueStands o → Listed (Listed TopicsStand) (topics_of o)
  unfolding topics_of
  topics_stand o unlisted = listed None unlisted
  topics_stand o (listed v s) =
      listed-bind (as_array v) _ (array_stands v s)
      (λ es h. listed-map (topics_in es) Some (topics_in_stand es h.low h.high h.elements) (λ topics k. listed topics k))

  -- ---- a rule

  pub record RuleStands (r : spec.Rule) : Type 0 where
    pub users : UsersStand line (users_of_rule r)
    pub topics : Listed TopicsStand r.topics

  pub rule_in_stands : (es : Elements) → ElementsStand es → Listed RuleStands (rule_in es)
  unfolding rule_in
  rule_in_stands es s =
      listed-bind (bind (nth 0 es) access_of) _ (anything (bind (nth 0 es) access_of))
      (λ allow x.
      listed-bind (bind (nth 1 es) (users_of allow)) _
      (listed-bind (nth 1 es) (users_of allow) (nth_stands 1 es s.low s.high s.elements) (users_stand allow))
      (λ users h.
      listed-bind (control_of (nth 2 es)) _ (anything (control_of (nth 2 es)))
      (λ control y.
      listed-map (topics_of (nth 3 es)) _ (topics_stand (nth 3 es) (nth_stands 3 es s.low s.high s.elements))
      (λ topics k. record { users = h; topics = k }))))

  pub rule_stands : (v : Value) → ValueStands v → Listed RuleStands (rule_of v.value)
  unfolding rule_of as_array
  rule_stands v s = by v.value (array_stands v s)
    where
      by : (j : Json)
          → Listed ElementsStand (elim j [ null ↦ None | bool b ↦ None | number n ↦ None | text t ↦ None | array es ↦ Some es | object ms ↦ None ])
          → Listed RuleStands (elim j [ null ↦ None | bool b ↦ None | number n ↦ None | text t ↦ None | array es ↦ rule_in es | object ms ↦ None ])
      by null h = unlisted
      by (bool b) h = unlisted
      by (number n) h = unlisted
      by (text t) h = unlisted
      by (array es) h = inside (Some es) refl h
        where
          inside : (o : Option Elements) → o ≡ Some es → Listed ElementsStand o → Listed RuleStands (rule_in es)
          inside o e unlisted = let z : ◌≡◌ {A = ℕ} 0 1 = cc in absurd (omega arith)
          inside o e (listed fs k) = let same-one : fs ≡ es = cc in subst (λ x. Listed RuleStands (rule_in x)) same-one (rule_in_stands fs k)
      by (object ms) h = unlisted

  -- a rule that was read stands in its line
  pub read_stands : (r : spec.Rule) → read_rule line ≡ Ok r → RuleStands r
  unfolding read_rule rule_from or_not_a_rule
  read_stands r e = short (ltb line_limit (length line)) e
    where
      rule : (o : Option spec.Rule) → Listed RuleStands o → or_not_a_rule o ≡ Ok r → RuleStands r
      rule o unlisted q = let z : ◌≡◌ {A = ℕ} 0 1 = cc in absurd (omega arith)
      rule o (listed s h) q = let one : s ≡ r = cc in subst RuleStands one h

      fits : (v : Json) → line_value line ≡ Some v → (b : Bool) → cond b (Err TooLong) (or_not_a_rule (rule_of v)) ≡ Ok r → RuleStands r
      fits v f true q = let z : ◌≡◌ {A = ℕ} 0 1 = cc in absurd (omega arith)
      fits v f false q =
          let h = line_is line f in
          rule (rule_of v) (rule_stands (record { at = skip_blanks line 0; value = v }) (record { next = h.0; reads = h.1 })) q

      value : (o : Option Json) → line_value line ≡ o → rule_from o ≡ Ok r → RuleStands r
      value None f q = let z : ◌≡◌ {A = ℕ} 0 1 = cc in absurd (omega arith)
      value (Some v) f q = fits v f (ltb text_limit (longest v) || topics_over v) q

      short : (b : Bool) → cond b (Err TooLong) (rule_from (line_value line)) ≡ Ok r → RuleStands r
      short true q = let z : ◌≡◌ {A = ℕ} 0 1 = cc in absurd (omega arith)
      short false q = value (line_value line) refl q

  -- what `identity` answers for a rule that was read is what the rule means
  pub identity_read :
      (topics : Option Value) (r : spec.Rule) (c : Client) → read_rule line ≡ Ok r
      → identity_at line (placed_rule topics r).users c ≡ identity (means r) c
  unfolding placed_rule
  identity_read topics r c e = identity-means line r c (read_stands r e).users

  -- filling at a topic's place is filling the topic
  pub fills_topic : (buffer : List ℕ) (t : Located) (id : List ℕ) (name : Option (List ℕ)) → Stands line t
      → (filling_at (length buffer) (string_at line t.at) id name ≡ filling (length buffer) t.text id name)
      × (filled_at buffer (string_at line t.at) id name ≡ filled_into buffer t.text id name)
  unfolding filling_at filled_at
  fills_topic buffer t id name s = (
    ap (λ o. filling_at (length buffer) o id name) s.is ∙ ap (λ x. filling (length buffer) x id name) s.text,
    ap (λ o. filled_at buffer o id name) s.is ∙ ap (λ x. filled_into buffer x id name) s.text,
  )
