-- Laws of the places of an object's members: one pass over them finds all five, and at each stands the member of the tree. Assumes nothing.
use Prim.Native.Nat.{ℕ, ◌≤◌, ◌<◌}
use native.Mathlib.Omega.{arith}
use mathlib.Core.Path.{◌≡◌, refl, sym, subst, ap, ◌∙◌}
use mathlib.Core.Bool.{Bool, true, false, cond}
use mathlib.Core.List.{List}
use Rattle.std.specs.Prelude.{Option, None, Some}
use Rattle.std.specs.Option.{option_map}
use Rattle.text.specs.Maybe.{bind}
use lib.ListN.{length}
use Rattle.text.specs.Ascii.{ascii}
use Rattle.text.specs.Text.{same}
use Rattle.json_text.specs.Strings.{Decoded, string_at}
use Rattle.json_text.specs.Json.{Json, null, bool, number, text, array, object, Members, no_member, member, value_at, separator_at, depth_limit, longest, longest_member}
use Rattle.json_text.specs.declared.Read.{Read}
use Rattle.json_text.specs.Access.{value_here, first_item, item_step, last_named, named_in, member_named, string_is, decoded_length, truth_of}
use Rattle.json_text.specs.declared.Separator.{Separator}
use Rattle.json_text.proofs.ValueLaws.{members_from}
use Rattle.json_text.proofs.AccessSteps.{last_in, named_from, named_by, named_behind, named_on, named_step}
use Rattle.json_text.proofs.AccessLaws.{MembersIn, object_is, named_is, truth_is, length-is, string_here, text_of as text_in}
use Rattle.rule.specs.Limits.{text_limit}
use Rattle.rule.specs.Rule.{Value, named, value_named, as_text, as_bool}
use Rattle.rule.specs.Members.{truth_from}
use Rattle.authinfo.specs.ClientRule.{permission_word, action_word, topic_of}
use Rattle.authinfo.specs.Places.{places_at, noted_at, permission_here, action_here, taken_by, filled_for, topic_takes, text_of, ShortAt, ShortTopic, topic_from}
use Rattle.authinfo.specs.declared.RulePlaces.{RulePlaces}
use Rattle.authinfo.specs.declared.Action.TheVariants as action
use Rattle.json_text.specs.declared.Cursor.{Cursor}

-- of each name the last of these members, behind others whose last are noted
unfoldable pub last_places : RulePlaces → Option (Read Members) → RulePlaces
last_places m o =
    record {
      permission = last_in (ascii "permission") m.permission o;
      action = last_in (ascii "action") m.action o;
      qos = last_in (ascii "qos") m.qos o;
      retain = last_in (ascii "retain") m.retain o;
      topic = last_in (ascii "topic") m.topic o;
    }

-- from the first member on
unfoldable pub places_from : List ℕ → Option ℕ → RulePlaces
places_from line first =
    record {
      permission = named_from (ascii "permission") line first;
      action = named_from (ascii "action") line first;
      qos = named_from (ascii "qos") line first;
      retain = named_from (ascii "retain") line first;
      topic = named_from (ascii "topic") line first;
    }

pub places_by : (line : List ℕ) (at : ℕ) {first : Option ℕ} → first_item 0x7b 0x7d line at ≡ first → places_at line at ≡ places_from line first
unfolding places_at places_from
places_by line at e =
    λ i.
    record {
      permission = named_by (ascii "permission") line at e i;
      action = named_by (ascii "action") line at e i;
      qos = named_by (ascii "qos") line at e i;
      retain = named_by (ascii "retain") line at e i;
      topic = named_by (ascii "topic") line at e i;
    }

-- the step of the loop of `places_at`: by the cursor behind a member, and by what separates it from the next
unfoldable pub places_on : List ℕ → RulePlaces → Option Cursor → RulePlaces
places_on line m step =
    record {
      permission = named_on (ascii "permission") line m.permission step;
      action = named_on (ascii "action") line m.action step;
      qos = named_on (ascii "qos") line m.qos step;
      retain = named_on (ascii "retain") line m.retain step;
      topic = named_on (ascii "topic") line m.topic step;
    }

unfoldable pub places_behind : List ℕ → RulePlaces → Option Separator → RulePlaces
places_behind line m s =
    record {
      permission = named_behind (ascii "permission") line m.permission s;
      action = named_behind (ascii "action") line m.action s;
      qos = named_behind (ascii "qos") line m.qos s;
      retain = named_behind (ascii "retain") line m.retain s;
      topic = named_behind (ascii "topic") line m.topic s;
    }

pub places_step : (line : List ℕ) (m : RulePlaces) (at : ℕ) {step : Option Cursor} → at < length line → item_step true 0 (value_at 7 line) line at ≡ step
    → last_places m (members_from 7 line at) ≡ places_on line (noted_at line at m) step
unfolding last_places places_on noted_at
places_step line m at h e =
    λ i.
    record {
      permission = named_step (ascii "permission") line m.permission at h e i;
      action = named_step (ascii "action") line m.action at h e i;
      qos = named_step (ascii "qos") line m.qos at h e i;
      retain = named_step (ascii "retain") line m.retain at h e i;
      topic = named_step (ascii "topic") line m.topic at h e i;
    }

-- after a member, by the cursor behind it
module _ (line : List ℕ) (at : ℕ) (found : RulePlaces) {noted : RulePlaces} {i : ℕ} {read step : Option Cursor} (so_far : last_places found (members_from 7 line i) ≡ places_at line at)
    (there : i < length line) (note : noted ≡ noted_at line i found) (reads : read ≡ item_step true 0 (value_at 7 line) line i) (is : read ≡ step) where
  pub on_member : places_on line noted step ≡ places_at line at
  on_member = ap (λ (m : RulePlaces). places_on line m step) note ∙ (sym (places_step line found i there (sym reads ∙ is)) ∙ so_far)

-- and by what separates it from the next
pub behind_member : (line : List ℕ) (at : ℕ) (noted : RulePlaces) (c : Cursor) {read s : Option Separator} → places_on line noted (Some c) ≡ places_at line at
    → read ≡ separator_at 0x7d line c.at → read ≡ s → places_behind line noted s ≡ places_at line at
unfolding places_on named_on places_behind
behind_member line at noted c on reads is = ap (places_behind line noted) (sym is ∙ reads) ∙ on

-- ---- at its place stands the member of the tree

-- this value is read at this place and its strings are short, or none at none
abbrev pub Stands : List ℕ → Option ℕ → Option Value → Type 0
Stands line None None = Unit {0}
Stands line None (Some v) = ⊥
Stands line (Some p) None = ⊥
Stands line (Some p) (Some v) = (next : ℕ) × (value_here line p ≡ Some (record { value = v.value; next = next })) × (longest v.value ≤ text_limit)

last_stands : (name line : List ℕ) (low high : ℕ) (ms : Members) (place : Option ℕ) (found : Option Value) → MembersIn line low high ms → longest_member ms ≤ text_limit
    → Stands line place found → Stands line (last_named name ms place) (named name ms found)
unfolding last_named named longest_member
last_stands name line low high no_member place found h l k = k
last_stands name line low high (member at n value_start value rest) place found h l k =
    last_stands name line h.0 high rest (cond (same n name) (Some value_start) place) (cond (same n name) (Some (record { at = value_start; value = value })) found) h.3
    (omega arith) (by (same n name))
  where
    by : (b : Bool) → Stands line (cond b (Some value_start) place) (cond b (Some (record { at = value_start; value = value })) found)
    by true = (h.0, h.2.reads, omega arith)
    by false = k

pub member_stands : (name line : List ℕ) (at : ℕ) {ms : Members} {next : ℕ} → value_here line at ≡ Some (record { value = object ms; next = next })
    → longest_member ms ≤ text_limit → Stands line (member_named name line at) (value_named name ms)
unfolding value_named named_in
member_stands name line at {ms} e h =
    subst (λ (p : Option ℕ). Stands line p (named name ms None)) (sym (named_is name line at e))
    (last_stands name line _ _ ms None None (object_is line at e refl).members h tt)

-- ---- what is read at a place is what the tree has there

-- no string stands where another value does
no_string : (line : List ℕ) (p : ℕ) → decoded_length line p ≡ None → text_of (string_at line p) ≡ None
unfolding decoded_length text_of
no_string line p = by (string_at line p)
  where
    by : (o : Option Decoded) → option_map (λ (d : Decoded). length d.text) o ≡ None → text_of o ≡ None
    by None e = refl
    by (Some d) e = let z : ◌≡◌ {A = ℕ} 0 1 = cc in absurd (omega arith)

text_here : (line : List ℕ) (p : ℕ) (v : Value) {next : ℕ} → value_here line p ≡ Some (record { value = v.value; next = next })
    → text_of (string_at line p) ≡ option_map (λ t. t.text) (as_text v)
unfolding as_text text_in text_of
text_here line p v {next} e = by v.value e
  where
    by : (x : Json) → value_here line p ≡ Some (record { value = x; next = next })
        → text_of (string_at line p) ≡ option_map (λ t. t.text) (as_text (record { at = v.at; value = x }))
    by null q = no_string line p (length-is depth_limit line p q)
    by (bool b) q = no_string line p (length-is depth_limit line p q)
    by (number n) q = no_string line p (length-is depth_limit line p q)
    by (text t) q = let h = string_here depth_limit line p q refl in ap text_of h.1 ∙ ap Some h.2
    by (array es) q = no_string line p (length-is depth_limit line p q)
    by (object ms) q = no_string line p (length-is depth_limit line p q)

-- the word of a permission, and of an action
permission_text : (line : List ℕ) (p : ℕ) → permission_here line (Some p) ≡ bind (text_of (string_at line p)) permission_word
unfolding permission_here string_is text_of bind permission_word
permission_text line p = by (string_at line p)
  where
    is : Option Decoded → List ℕ → Bool
    is o t = elim o as (λ _. Bool) [ None ↦ false | Some d ↦ same d.text t ]

    by : (o : Option Decoded)
        → cond (is o (ascii "allow")) (Some true) (cond (is o (ascii "deny")) (Some false) None) ≡ bind (text_of o) permission_word
    by None = refl
    by (Some d) = refl

action_text : (line : List ℕ) (p : ℕ) → action_here line (Some p) ≡ bind (text_of (string_at line p)) action_word
unfolding action_here string_is text_of bind action_word
action_text line p = by (string_at line p)
  where
    is : Option Decoded → List ℕ → Bool
    is o t = elim o as (λ _. Bool) [ None ↦ false | Some d ↦ same d.text t ]

    by : (o : Option Decoded)
        → cond (is o (ascii "all")) (Some action.All)
        (cond (is o (ascii "publish")) (Some action.Publish) (cond (is o (ascii "subscribe")) (Some action.Subscribe) None))
        ≡ bind (text_of o) action_word
    by None = refl
    by (Some d) = refl

module _ (line : List ℕ) where
  pub permission_stands : (place : Option ℕ) (o : Option Value) → Stands line place o
      → permission_here line place ≡ bind (option_map (λ t. t.text) (bind o as_text)) permission_word
  unfolding bind
  permission_stands None None h = unfold permission_here in refl
  permission_stands None (Some v) h = absurd h
  permission_stands (Some p) None h = absurd h
  permission_stands (Some p) (Some v) h =
      permission_text line p ∙ ap (λ (o : Option (List ℕ)). bind o permission_word) (text_here line p v h.1)

  pub action_stands : (place : Option ℕ) (o : Option Value) → Stands line place o
      → action_here line place ≡ bind (option_map (λ t. t.text) (bind o as_text)) action_word
  unfolding bind
  action_stands None None h = unfold action_here in refl
  action_stands None (Some v) h = absurd h
  action_stands (Some p) None h = absurd h
  action_stands (Some p) (Some v) h = action_text line p ∙ ap (λ (o : Option (List ℕ)). bind o action_word) (text_here line p v h.1)

  pub retain_stands : (place : Option ℕ) (o : Option Value) → Stands line place o → truth_from line place ≡ bind o as_bool
  unfolding bind truth_from truth_of as_bool
  retain_stands None None h = refl
  retain_stands None (Some v) h = absurd h
  retain_stands (Some p) None h = absurd h
  retain_stands (Some p) (Some v) h = truth_is depth_limit line p h.1 ∙ by v.value
    where
      by : (x : Json) → truth_of x ≡ as_bool (record { at = v.at; value = x })
      by null = refl
      by (bool b) = refl
      by (number n) = refl
      by (text t) = refl
      by (array es) = refl
      by (object ms) = refl

  pub topic_stands : (topic id : List ℕ) (name : Option (List ℕ)) (place : Option ℕ) (o : Option Value) → Stands line place o
      → topic_from topic id name line place ≡ taken_by topic (filled_for id name (bind (option_map (λ t. t.text) (bind o as_text)) topic_of))
  unfolding bind topic_from
  topic_stands topic id name None None h = unfold filled_for taken_by in refl
  topic_stands topic id name None (Some v) h = absurd h
  topic_stands topic id name (Some p) None h = absurd h
  topic_stands topic id name (Some p) (Some v) h = ap (topic_takes topic id name) (text_here line p v h.1) ∙ by (option_map (λ t. t.text) (as_text v))
    where
      by : (o : Option (List ℕ)) → topic_takes topic id name o ≡ taken_by topic (filled_for id name (bind o topic_of))
      by None = unfold topic_takes filled_for taken_by in refl
      by (Some t) = unfold topic_takes in refl

  pub short_stands : (place : Option ℕ) (o : Option Value) → Stands line place o → ShortTopic line place
  unfolding as_text longest text_of
  short_stands None None h = tt
  short_stands None (Some v) h = absurd h
  short_stands (Some p) None h = absurd h
  short_stands (Some p) (Some v) h = by (string_at line p) v.value (text_here line p v h.1) h.2
    where
      by : (o : Option Decoded) (x : Json) → text_of o ≡ option_map (λ t. t.text) (as_text (record { at = v.at; value = x })) → longest x ≤ text_limit → ShortAt o
      by None x e l = tt
      by (Some d) null e l = let z : ◌≡◌ {A = ℕ} 0 1 = cc in absurd (omega arith)
      by (Some d) (bool b) e l = let z : ◌≡◌ {A = ℕ} 0 1 = cc in absurd (omega arith)
      by (Some d) (number n) e l = let z : ◌≡◌ {A = ℕ} 0 1 = cc in absurd (omega arith)
      by (Some d) (text t) e l = let same_text : d.text ≡ t = cc in omega (arith, ap length same_text)
      by (Some d) (array es) e l = let z : ◌≡◌ {A = ℕ} 0 1 = cc in absurd (omega arith)
      by (Some d) (object ms) e l = let z : ◌≡◌ {A = ℕ} 0 1 = cc in absurd (omega arith)
