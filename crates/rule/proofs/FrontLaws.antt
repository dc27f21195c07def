-- Laws of a rule's line from its front: the access, the users and the place behind them, then the control and the place of the topics.
-- Assumes nothing.
use Prim.Native.Nat.{ℕ, ◌+◌, ◌-◌}
use native.Mathlib.Omega.{arith}
use mathlib.Core.Path.{◌≡◌, refl, sym, ap, subst, ◌∙◌}
use mathlib.Core.Bool.{Bool, true, false, cond, true≢false}
use mathlib.Core.List.{List}
use Rattle.std.specs.Prelude.{Option, None, Some, Ok, Err, is_some, option_and_then, IfSome}
use lib.Dec.{eqb, ltb}
use lib.ListN.{length, take, drop}
use borrow.Author.Tests.{eqb-true, ltb-true, ltb-false, le-ltb}
use Rattle.json_text.specs.Utf8.{byte_at}
use Rattle.json_text.specs.Json.{Json, object, is_at, skip_blanks, separator_at, depth_limit, value_at, line_value, longest}
use Rattle.json_text.specs.declared.Read.{Read}
use Rattle.json_text.specs.Access.{checked, value_here, kind_at, first_item, after_comma, next_item}
use Rattle.json_text.specs.declared.Kind.TheVariants.{Text, Object}
use Rattle.json_text.specs.declared.Separator.{Separator}
use Rattle.json_text.specs.declared.Separator.TheVariants.{Close, Comma}
use Rattle.json_text.proofs.ValueLaws.{value_deeper}
use Rattle.json_text.specs.Plain.{plain_text}
use Rattle.json_text.proofs.PlainLaws.{Plain, plain_string, plain_value}
use Rattle.rule.specs.Limits.{line_limit, text_limit}
use Rattle.rule.specs.Rule as spec
use Rattle.rule.specs.RuleText.{or_not_a_rule, read_rule}
use Rattle.rule.specs.Places.{word_of, access_of_word, control_of_word, placed_rule, fourth_of, rule_answer, parts_here, topics_here, too_many, access_here, control_here, users_of_place, with_topics, with_control, with_users, rule_behind, with_access, rule_here}
use Rattle.rule.specs.OnePass.{FromUsers, IsRule}
use Rattle.rule.specs.Members.{MembersTo, UsersTo, users_listed}
use Rattle.rule.specs.Front.{told_to, access_before, word_between, access_from, access_of, users_within, users_up_to, topics_before, word_from, rest_behind, rest_of, AccessTo, item_behind, behind_users, FrontTo, ControlAt, WordFrom, RestFrom}
use Rattle.rule.specs.declared.Word.{Word}
use Rattle.rule.specs.declared.Control.{Control}
use Rattle.rule.specs.declared.Control.TheVariants.{All as AllControl}
use Rattle.rule.specs.declared.Users.{Users}
use Rattle.rule.specs.declared.MemberPlaces.{MemberPlaces}
use Rattle.rule.specs.declared.Refusal.{Refusal}
use Rattle.rule.specs.declared.Refusal.TheVariants.{TooLong}
use Rattle.rule.specs.declared.Rule.{Rule}
use Rattle.rule.specs.declared.Parts.{Parts}
use Rattle.rule.specs.declared.Rest.{Rest}
use Rattle.rule.proofs.WordLaws.{word_here}
use Rattle.rule.proofs.ReadLaws.{here_by}
use Rattle.rule.proofs.RuleLaws.{read_long, read_invalid, read_valid}
use Rattle.rule.proofs.MemberLaws.{users_other}
use Rattle.rule.proofs.OnePassLaws.{line-rule, members_place}

-- what was told of one place is one value, and one place
same_read : {A : Type 0} {a b : A} {m n : ℕ} → ◌≡◌ {A = Option (Read A)} (Some (record { value = a; next = m })) (Some (record { value = b; next = n })) → (a ≡ b) × (m ≡ n)
same_read {A} {a} {b} {m} {n} e = (ap value e, ap next e)
  where
    value : Option (Read A) → A
    value None = a
    value (Some r) = r.value

    next : Option (Read A) → ℕ
    next None = m
    next (Some r) = r.next

-- ---- the item behind a value

pub next_behind : (line : List ℕ) (at : ℕ) {v : Json} {end : ℕ} → value_here line at ≡ Some (record { value = v; next = end }) → next_item line at ≡ item_behind line end
unfolding next_item after_comma item_behind
next_behind line at e = ap (after_comma line) e

-- by what separates the items of an array
unfoldable pub separated : Option Separator → Option ℕ
separated (Some (Close next)) = None
separated (Some (Comma next)) = Some next
separated None = None

pub item_separated : (line : List ℕ) (end : ℕ) → item_behind line end ≡ separated (separator_at 0x5d line end)
unfolding item_behind separator_at separated is_at
item_separated line end = by (eqb (byte_at line p) 0x5d) (eqb (byte_at line p) 0x2c) refl refl
  where
    p : ℕ
    p = skip_blanks line end

    by : (closes comma : Bool) → eqb (byte_at line p) 0x5d ≡ closes → eqb (byte_at line p) 0x2c ≡ comma
        → cond comma (Some (skip_blanks line (p + 1))) None ≡ separated (cond closes (Some (Close (p + 1))) (cond comma (Some (Comma (skip_blanks line (p + 1)))) None))
    by true true e q = let z : ◌≡◌ {A = ℕ} 0x5d 0x2c = sym (eqb-true (byte_at line p) 0x5d e) ∙ eqb-true (byte_at line p) 0x2c q in absurd (omega arith)
    by true false e q = refl
    by false true e q = refl
    by false false e q = refl

pub item_by : (line : List ℕ) (end : ℕ) {s : Option Separator} → separator_at 0x5d line end ≡ s → item_behind line end ≡ separated s
item_by line end e = item_separated line end ∙ ap separated e

-- ---- the access

-- by the byte that the line begins with, and by the plain word behind it
pub access_unopened : (line : List ℕ) {p : ℕ} → p ≡ skip_blanks line 0 → is_at line p 0x5b ≡ false → access_of line ≡ None
unfolding access_of
access_unopened line {p} e h = rw (sym e, h)

pub access_word_at : (line : List ℕ) {p at : ℕ} → p ≡ skip_blanks line 0 → is_at line p 0x5b ≡ true → at ≡ skip_blanks line (p + 1) → access_of line ≡ access_from line at (plain_text line at)
unfolding access_of
access_word_at line {p} {at} e h q = rw (sym e, h, sym q)

-- where it is answered
pub access_to : (line : List ℕ) {allow : Bool} {users : ℕ} → access_of line ≡ Some (record { value = allow; next = users }) → AccessTo line allow users
unfolding access_of access_from access_before told_to word_between
access_to line {allow} {users} e = by-open (is_at line first 0x5b) refl e
  where
    first : ℕ
    first = skip_blanks line 0

    at : ℕ
    at = skip_blanks line (first + 1)

    no : {A : Type 0} → ◌≡◌ {A = Option (Read Bool)} None (Some (record { value = allow; next = users })) → A
    no q = let z : ◌≡◌ {A = ℕ} 0 1 = cc in absurd (omega arith)

    by_access : (end : ℕ) → plain_text line at ≡ Some end → is_at line first 0x5b ≡ true → (next : ℕ) → separator_at 0x5d line (end + 1) ≡ Some (Comma next)
        → (w : Word) → word_between line at end ≡ Some w → (o : Option Bool) → access_of_word w ≡ o → told_to next o ≡ Some (record { value = allow; next = users }) → AccessTo line allow users
    by_access end p h next q w e None m k = no k
    by_access end p h next q w e (Some b) m k =
        let told = same_read k in
        record {
          first = first;
          access = at;
          end = end;
          word = w;
          begins = refl;
          opens = h;
          behind = refl;
          quoted = p;
          is = e;
          means = m ∙ ap Some told.0;
          separated = q ∙ ap (λ (n : ℕ). Some (Comma n)) told.1;
        }

    by_word : (end : ℕ) → plain_text line at ≡ Some end → is_at line first 0x5b ≡ true → (s : Option Separator) → separator_at 0x5d line (end + 1) ≡ s
        → (o : Option Word) → word_between line at end ≡ o → access_before s o ≡ Some (record { value = allow; next = users }) → AccessTo line allow users
    by_word end p h (Some (Comma next)) q None w k = no k
    by_word end p h (Some (Comma next)) q (Some x) w k = by_access end p h next q x w (access_of_word x) refl k
    by_word end p h (Some (Close next)) q o w k = no k
    by_word end p h None q o w k = no k

    by_place : (o : Option ℕ) → plain_text line at ≡ o → is_at line first 0x5b ≡ true → access_from line at o ≡ Some (record { value = allow; next = users }) → AccessTo line allow users
    by_place None p h k = no k
    by_place (Some end) p h k = by_word end p h (separator_at 0x5d line (end + 1)) refl (word_between line at end) refl k

    by-open : (b : Bool) → is_at line first 0x5b ≡ b → cond b (access_from line at (plain_text line at)) None ≡ Some (record { value = allow; next = users }) → AccessTo line allow users
    by-open true h k = by_place (plain_text line at) refl h k
    by-open false h k = no k

-- ---- the users

-- by the value that stands there
pub users_none : (line : List ℕ) (allow : Bool) (at : ℕ) → value_at 7 line at ≡ None → users_up_to line allow at ≡ None
unfolding users_up_to users_within
users_none line allow at e = ap (users_within line allow at) e

pub users_long : (line : List ℕ) (allow : Bool) (at : ℕ) {v : Json} {end : ℕ} → value_at 7 line at ≡ Some (record { value = v; next = end }) → ltb text_limit (longest v) ≡ true
    → users_up_to line allow at ≡ None
unfolding users_up_to users_within
users_long line allow at e h = ap (users_within line allow at) e ∙ rw h

pub users_within_lem : (line : List ℕ) (allow : Bool) (at : ℕ) {v : Json} {end : ℕ} → value_at 7 line at ≡ Some (record { value = v; next = end }) → ltb text_limit (longest v) ≡ false
    → users_up_to line allow at ≡ told_to end (users_of_place line allow (Some at))
unfolding users_up_to users_within
users_within_lem line allow at e h = ap (users_within line allow at) e ∙ rw h

-- by the places of an object's members
pub users_members : (line : List ℕ) (allow : Bool) (at : ℕ) {m : MemberPlaces} {end : ℕ} → MembersTo line at m end → users_up_to line allow at ≡ told_to end (users_listed allow line m)
unfolding longest
users_members line allow at {m} {end} t =
    users_within_lem line allow at t.reads (le-ltb text_limit (longest (object t.members)) t.short) ∙ ap (told_to end) (members_place line allow at t)

pub users_from : (line : List ℕ) (allow : Bool) (at : ℕ) {users : Users} {end : ℕ} → UsersTo line allow at users end → users_up_to line allow at ≡ Some (record { value = users; next = end })
unfolding told_to
users_from line allow at {users} {end} u =
    users_within_lem line allow at u.reads (le-ltb text_limit (longest u.value) u.short) ∙ ap (told_to end) u.are

pub users_there : (line : List ℕ) (allow : Bool) (at : ℕ) (o : Option (Read Users)) → IfSome o (λ r. UsersTo line allow at r.value r.next) → is_some o ≡ true
    → o ≡ users_up_to line allow at
users_there line allow at None h e = absurd (true≢false (sym e))
users_there line allow at (Some r) h e = sym (users_from line allow at h)

-- where neither a string nor an object stands, nobody is listed
pub users_neither : (line : List ℕ) (allow : Bool) (at : ℕ) → (kind_at line at ≡ Text → ⊥) → (kind_at line at ≡ Object → ⊥) → users_up_to line allow at ≡ None
unfolding users_up_to users_within told_to users_of_place
users_neither line allow at t o = by_value (value_at 7 line at)
  where
    by-long : (next : ℕ) (b : Bool) → cond b None (told_to next (users_of_place line allow (Some at))) ≡ None
    by-long next true = refl
    by-long next false = ap (told_to next) (users_other allow line at t o)

    by_value : (v : Option (Read Json)) → users_within line allow at v ≡ None
    by_value None = refl
    by_value (Some r) = by-long r.next (ltb text_limit (longest r.value))

-- where they are answered
pub users_to : (line : List ℕ) (allow : Bool) (at : ℕ) {users : Users} {end : ℕ} → users_up_to line allow at ≡ Some (record { value = users; next = end }) → UsersTo line allow at users end
unfolding users_up_to users_within told_to
users_to line allow at {users} {end} e = by_value (value_at 7 line at) refl e
  where
    no : {A : Type 0} → ◌≡◌ {A = Option (Read Users)} None (Some (record { value = users; next = end })) → A
    no q = let z : ◌≡◌ {A = ℕ} 0 1 = cc in absurd (omega arith)

    by-users : (r : Read Json) → value_at 7 line at ≡ Some r → ltb text_limit (longest r.value) ≡ false → (u : Option Users) → users_of_place line allow (Some at) ≡ u
        → told_to r.next u ≡ Some (record { value = users; next = end }) → UsersTo line allow at users end
    by-users r q h None w k = no k
    by-users r q h (Some found) w k =
        let told = same_read k in
        record {
          value = r.value;
          reads = q ∙ (λ i. Some (record { value = r.value; next = told.1 i }));
          short = ltb-false text_limit (longest r.value) h;
          are = w ∙ ap Some told.0;
        }

    by-long : (r : Read Json) → value_at 7 line at ≡ Some r → (b : Bool) → ltb text_limit (longest r.value) ≡ b
        → cond b None (told_to r.next (users_of_place line allow (Some at))) ≡ Some (record { value = users; next = end }) → UsersTo line allow at users end
    by-long r q true h k = no k
    by-long r q false h k = by-users r q h (users_of_place line allow (Some at)) refl k

    by_value : (o : Option (Read Json)) → value_at 7 line at ≡ o → users_within line allow at o ≡ Some (record { value = users; next = end }) → UsersTo line allow at users end
    by_value None q k = no k
    by_value (Some r) q k = by-long r q (ltb text_limit (longest r.value)) refl k

module _ {line : List ℕ} {allow : Bool} {at : ℕ} (a : AccessTo line allow at) where
  quoted : Plain line a.access a.end
  quoted = plain_string line a.access a.quoted

  -- the rule, from its users on
  pub access_rule : {rule : Rule} → FromUsers line allow at rule → IsRule line rule
  access_rule t = line-rule line allow a.means a.begins a.opens a.behind quoted a.is a.separated t

  -- the first element, and the second
  first_is : first_item 0x5b 0x5d line (skip_blanks line 0) ≡ Some a.access
  unfolding first_item is_at
  first_is =
      ap (λ (p : ℕ). first_item 0x5b 0x5d line p) (sym a.begins)
      ∙ (ap (λ (b : Bool). cond b (cond (is_at line q 0x5d) None (Some q)) None) a.opens
      ∙ (ap (λ (p : ℕ). cond (is_at line p 0x5d) None (Some p)) (sym a.behind)
      ∙ ap (λ (b : ℕ). cond (eqb b 0x5d) None (Some a.access)) (eqb-true (byte_at line a.access) 0x22 quoted.opens)))
    where
      q : ℕ
      q = skip_blanks line (a.first + 1)

  second_is : next_item line a.access ≡ Some at
  unfolding separated
  second_is = next_behind line a.access (plain_value depth_limit line a.access quoted) ∙ item_by line (a.end + 1) a.separated

  -- the users stand there
  pub front_to : {users : Users} {end : ℕ} → UsersTo line allow at users end → FrontTo line allow users end
  unfolding parts_here with_access access_here rule_behind with_users behind_users
  front_to {users} {end} u =
      here_by line {parts = parts} are refl refl
      ∙ ap (cond (too_many line parts.topics) (Err TooLong))
      (ap or_not_a_rule
      (ap (option_and_then (rule_behind line parts)) (ap (option_and_then access_of_word) (word_here line a.access quoted.string ∙ a.is) ∙ a.means)
      ∙ ap (λ (r : Option Users). with_users line allow r parts.control parts.topics) u.are))
    where
      parts : Parts
      parts = record { access = Some a.access; users = Some at; control = item_behind line end; topics = option_and_then (next_item line) (item_behind line end) }

      are : parts ≡ parts_here line
      are =
          let access = first_is in
          let users = ap (option_and_then (next_item line)) access ∙ second_is in
          let control = ap (option_and_then (next_item line)) users ∙ next_behind line at (value_deeper 7 depth_limit line at (omega arith) u.reads) in
          sym (λ i. record { access = access i; users = users i; control = control i; topics = option_and_then (next_item line) (control i) })

-- ---- the control

-- no control: all are meant
pub rest_none : (line : List ℕ) (end : ℕ) {next : ℕ} → separator_at 0x5d line end ≡ Some (Close next) → RestFrom line end AllControl None
unfolding control_here separated
rest_none line end e = subst (λ (p : Option ℕ). ControlAt line p AllControl None) (sym (item_by line end e)) (record { is = refl; behind = refl })

pub rest_word : (line : List ℕ) (end : ℕ) {at : ℕ} → separator_at 0x5d line end ≡ Some (Comma at) → {control : Control} {topics : Option ℕ} → WordFrom line at control topics → RestFrom line end control topics
unfolding separated
rest_word line end e {control} {topics} h = subst (λ (p : Option ℕ). ControlAt line p control topics) (sym (item_by line end e)) h

pub word_from_lem : (line : List ℕ) (at : ℕ) {end : ℕ} {control : Control} {s : Option Separator} → Plain line at end
    → option_and_then control_of_word (word_of (take (end - (at + 1)) (drop (at + 1) line))) ≡ Some control → separator_at 0x5d line (end + 1) ≡ s
    → WordFrom line at control (separated s)
unfolding control_here
word_from_lem line at {end} p w e =
    record {
      is = ap (option_and_then control_of_word) (word_here line at p.string) ∙ w;
      behind = next_behind line at (plain_value depth_limit line at p) ∙ item_by line (end + 1) e;
    }

-- where they are answered
pub front_told : (line : List ℕ) {allow : Bool} {users : Users} {at end : ℕ} → access_of line ≡ Some (record { value = allow; next = at }) → users_up_to line allow at ≡ Some (record { value = users; next = end }) → FrontTo line allow users end
front_told line {at = at} e f = front_to (access_to line e) (users_to line _ at f)

pub rest_told : (line : List ℕ) (end : ℕ) {control : Control} {topics : Option ℕ} → rest_of line end ≡ Some (record { control = control; topics = topics }) → RestFrom line end control topics
unfolding rest_of rest_behind word_from topics_before separated word_between
rest_told line end {control} {topics} e = by-rest (separator_at 0x5d line end) refl e
  where
    no : {A : Type 0} → ◌≡◌ {A = Option Rest} None (Some (record { control = control; topics = topics })) → A
    no q = let z : ◌≡◌ {A = ℕ} 0 1 = cc in absurd (omega arith)

    Told : Option Rest → Type 0
    Told None = Unit {0}
    Told (Some r) = RestFrom line end r.control r.topics

    by_topics : (at last : ℕ) → separator_at 0x5d line end ≡ Some (Comma at) → plain_text line at ≡ Some last → (c : Control) → option_and_then control_of_word (word_between line at last) ≡ Some c
        → (s : Option Separator) → separator_at 0x5d line (last + 1) ≡ s → topics_before c s ≡ Some (record { control = control; topics = topics }) → RestFrom line end control topics
    by_topics at last q p c w (Some (Comma next)) f k = subst Told k (rest_word line end q (word_from_lem line at (plain_string line at p) w f))
    by_topics at last q p c w (Some (Close next)) f k = subst Told k (rest_word line end q (word_from_lem line at (plain_string line at p) w f))
    by_topics at last q p c w None f k = no k

    by_control : (at last : ℕ) → separator_at 0x5d line end ≡ Some (Comma at) → plain_text line at ≡ Some last → (c : Option Control) → option_and_then control_of_word (word_between line at last) ≡ c
        → option_and_then (λ control. topics_before control (separator_at 0x5d line (last + 1))) c ≡ Some (record { control = control; topics = topics }) → RestFrom line end control topics
    by_control at last q p None w k = no k
    by_control at last q p (Some c) w k = by_topics at last q p c w (separator_at 0x5d line (last + 1)) refl k

    by_word : (at : ℕ) → separator_at 0x5d line end ≡ Some (Comma at) → (o : Option ℕ) → plain_text line at ≡ o → word_from line at o ≡ Some (record { control = control; topics = topics }) → RestFrom line end control topics
    by_word at q None p k = no k
    by_word at q (Some last) p k = by_control at last q p (option_and_then control_of_word (word_between line at last)) refl k

    by-rest : (s : Option Separator) → separator_at 0x5d line end ≡ s → rest_behind line s ≡ Some (record { control = control; topics = topics }) → RestFrom line end control topics
    by-rest (Some (Close next)) q k = subst Told k (rest_none line end q)
    by-rest (Some (Comma at)) q k = by_word at q (plain_text line at) refl k
    by-rest None q k = no k

-- ---- a line that is a rule

-- it is the rule at its places
pub read_here : (line : List ℕ) {r : spec.Rule} → read_rule line ≡ Ok r → rule_here line ≡ Ok (placed_rule (fourth_of (line_value line)) r)
unfolding rule_answer checked
read_here line {r} e = by_length (ltb line_limit (length line)) refl
  where
    rule : Rule
    rule = placed_rule (fourth_of (line_value line)) r

    answer : rule_answer (fourth_of (line_value line)) (read_rule line) ≡ Ok rule
    answer = ap (rule_answer (fourth_of (line_value line))) e

    no : {c : Refusal} → Err c ≡ Ok rule → ⊥
    no q = let z : ◌≡◌ {A = ℕ} 0 1 = cc in omega arith

    by_text : (over : Bool) → cond over (Err TooLong) (rule_here line) ≡ Ok rule → rule_here line ≡ Ok rule
    by_text true q = absurd (no q)
    by_text false q = q

    by_value : (o : Option Json) → line_value line ≡ o → ltb line_limit (length line) ≡ false → rule_here line ≡ Ok rule
    by_value None f h = absurd (no (sym (read_invalid line (ltb-false line_limit (length line) h) (ap checked f)) ∙ answer))
    by_value (Some v) f h = by_text (ltb text_limit (longest v)) (sym (read_valid line (ltb-false line_limit (length line) h) (ap checked f) refl) ∙ answer)

    by_length : (b : Bool) → ltb line_limit (length line) ≡ b → rule_here line ≡ Ok rule
    by_length true h = absurd (no (sym (read_long line (ltb-true line_limit (length line) h)) ∙ answer))
    by_length false h = by_value (line_value line) refl h

-- a rule with this access and these users, and with the control and the topics behind them
pub record Fronted (line : List ℕ) (allow : Bool) (users : Users) (end : ℕ) (rule : Rule) : Type 0 where
  pub allows : rule.allow ≡ allow
  pub means : rule.users ≡ users
  pub rest : {control : Control} {topics : Option ℕ} → RestFrom line end control topics → (rule.control ≡ control) × (rule.topics ≡ topics)

-- from its control on
module _ (line : List ℕ) (allow : Bool) (users : Users) {rule : Rule} where
  no_rule : {A : Type 0} → None ≡ Some rule → A
  no_rule q = let z : ◌≡◌ {A = ℕ} 0 1 = cc in absurd (omega arith)

  with_topics_lem : (control : Control) (place : Option ℕ) → with_topics line allow users control place ≡ Some rule
      → record { allow = allow; users = users; control = control; topics = place } ≡ rule
  unfolding with_topics
  with_topics_lem control None q = cc
  with_topics_lem control (Some t) q = by (topics_here line t) q
    where
      by : (b : Bool) → cond b (Some (record { allow = allow; users = users; control = control; topics = Some t })) None ≡ Some rule
          → record { allow = allow; users = users; control = control; topics = Some t } ≡ rule
      by true k = cc
      by false k = no_rule k

pub front_is : {line : List ℕ} {allow : Bool} {users : Users} {end : ℕ} {rule : Rule} → FrontTo line allow users end → rule_here line ≡ Ok rule → Fronted line allow users end rule
unfolding behind_users with_control or_not_a_rule
front_is {line} {allow} {users} {end} {rule} f e = by-many (too_many line topics) (sym f ∙ e)
  where
    topics : Option ℕ
    topics = option_and_then (next_item line) (item_behind line end)

    by_control : (c : Option Control) → control_here line (item_behind line end) ≡ c → with_control line allow users c topics ≡ Some rule → Fronted line allow users end rule
    by_control None q k = no_rule line allow users k
    by_control (Some control) q k =
        let is = with_topics_lem line allow users control topics k in
        record {
          allows = sym (ap (λ (r : Rule). r.allow) is);
          means = sym (ap (λ (r : Rule). r.users) is);
          rest = λ h.
              let one : Some control ≡ Some _ = sym q ∙ h.is in
              (sym (ap (λ (r : Rule). r.control) is) ∙ (cc), sym (ap (λ (r : Rule). r.topics) is) ∙ h.behind);
        }

    by_rule : (o : Option Rule) → with_control line allow users (control_here line (item_behind line end)) topics ≡ o → or_not_a_rule o ≡ Ok rule → Fronted line allow users end rule
    by_rule None q k = let z : ◌≡◌ {A = ℕ} 0 1 = cc in absurd (omega arith)
    by_rule (Some r) q k = let same : r ≡ rule = cc in by_control (control_here line (item_behind line end)) refl (q ∙ ap Some same)

    by-many : (b : Bool) → cond b (Err TooLong) (or_not_a_rule (with_control line allow users (control_here line (item_behind line end)) topics)) ≡ Ok rule
        → Fronted line allow users end rule
    by-many true k = let z : ◌≡◌ {A = ℕ} 0 1 = cc in absurd (omega arith)
    by-many false k = by_rule (with_control line allow users (control_here line (item_behind line end)) topics) refl k
