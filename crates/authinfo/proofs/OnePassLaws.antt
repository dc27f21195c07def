-- Laws of the pass over a line's members: what each of its steps tells. Assumes nothing.
use Prim.Native.Nat.{ℕ, ◌+◌, ◌-◌, ◌≤◌}
use native.Mathlib.Omega.{arith}
use mathlib.Core.Path.{◌≡◌, refl, sym, ap, ◌∙◌}
use mathlib.Core.Bool.{Bool, true, false, cond}
use mathlib.Core.List.{List}
use Rattle.std.specs.Prelude.{Some, Option, None}
use lib.ListN.{length, take, drop, length-take}
use Rattle.text.specs.Ascii.{ascii}
use Rattle.text.specs.Text.{same}
use Rattle.text.proofs.Laws.{same_true}
use Rattle.json_text.specs.Json.{text, object, Members, is_at, skip_blanks, separator_at, longest, longest_member}
use Rattle.json_text.specs.Access.{value_here, string_is, last_named, named_in, member_named}
use Rattle.json_text.specs.Plain.{plain_text}
use Rattle.json_text.specs.declared.Separator.TheVariants.{Close, Comma}
use Rattle.json_text.proofs.AccessLaws.{named_is}
use Rattle.json_text.proofs.ElementLaws.{line_read, object-read}
use Rattle.json_text.proofs.PlainLaws.{Plain, plain_value}
use Rattle.json_text.proofs.StringLaws.{is_rest, is_begins}
use Rattle.rule.specs.Limits.{text_limit}
use Rattle.rule.specs.OnePass.{PartTo}
use Rattle.rule.proofs.OnePassLaws.{MemberAt, MembersFrom, last_member, next_member}
use Rattle.authinfo.specs.Places.{places_at, no_places, permission_here, action_here}
use Rattle.authinfo.specs.OnePass.{quote_at, parts_at, no_parts, with_member, LineTo}
use Rattle.authinfo.specs.declared.RulePlaces.{RulePlaces}
use Rattle.authinfo.specs.declared.RuleParts.{RuleParts}
use Rattle.authinfo.specs.declared.Action.{Action}

-- a plain string is compared as it stands
module _ (line : List ℕ) (at : ℕ) {end : ℕ} (p : Plain line at end) where
  pub plain_is : (wanted : List ℕ) → same (take (end - (at + 1)) (drop (at + 1) line)) wanted ≡ string_is line at wanted
  unfolding is_rest
  plain_is wanted = sym (is_begins line at wanted ∙ ap (is_rest wanted) p.string)

  -- and passed over
  pub plain_part : (before : ℕ) → before ≤ text_limit → end - (at + 1) ≤ text_limit → PartTo 7 line at before (end + 1)
  unfolding longest
  plain_part before h k =
      record {
        value = text (take (end - (at + 1)) (drop (at + 1) line));
        reads = plain_value 7 line at p;
        within = h;
        short = omega (arith, length-take (end - (at + 1)) (drop (at + 1) line));
      }

-- ---- one member more

-- the parts with a member, by its name
module _ (line name : List ℕ) (p : ℕ) (f : RuleParts) where
  pub is_permission : {x : Option Bool} → same name (ascii "permission") ≡ true → x ≡ permission_here line (Some p) → ◌≡◌ {A = RuleParts} (record { permission = x; action = f.action; qos = f.qos; retain = f.retain; topic = f.topic; quote = f.quote }) (with_member line name p f)
  unfolding with_member same
  is_permission e h = (λ i. record { permission = h i; action = f.action; qos = f.qos; retain = f.retain; topic = f.topic; quote = f.quote }) ∙ sym (ap (λ (n : List ℕ). with_member line n p f) (same_true name (ascii "permission") e))

  pub is_action : {x : Option Action} → same name (ascii "action") ≡ true → x ≡ action_here line (Some p) → ◌≡◌ {A = RuleParts} (record { permission = f.permission; action = x; qos = f.qos; retain = f.retain; topic = f.topic; quote = f.quote }) (with_member line name p f)
  unfolding with_member same
  is_action e h = (λ i. record { permission = f.permission; action = h i; qos = f.qos; retain = f.retain; topic = f.topic; quote = f.quote }) ∙ sym (ap (λ (n : List ℕ). with_member line n p f) (same_true name (ascii "action") e))

  pub is_topic : {q : Option ℕ} → same name (ascii "topic") ≡ true → q ≡ plain_text line p → ◌≡◌ {A = RuleParts} (record { permission = f.permission; action = f.action; qos = f.qos; retain = f.retain; topic = Some p; quote = q }) (with_member line name p f)
  unfolding with_member same
  is_topic e h = (λ i. record { permission = f.permission; action = f.action; qos = f.qos; retain = f.retain; topic = Some p; quote = h i }) ∙ sym (ap (λ (n : List ℕ). with_member line n p f) (same_true name (ascii "topic") e))

  pub is_qos : same name (ascii "qos") ≡ true → ◌≡◌ {A = RuleParts} (record { permission = f.permission; action = f.action; qos = Some p; retain = f.retain; topic = f.topic; quote = f.quote }) (with_member line name p f)
  unfolding with_member same
  is_qos e = sym (ap (λ (n : List ℕ). with_member line n p f) (same_true name (ascii "qos") e))

  pub is_retain : same name (ascii "retain") ≡ true → ◌≡◌ {A = RuleParts} (record { permission = f.permission; action = f.action; qos = f.qos; retain = Some p; topic = f.topic; quote = f.quote }) (with_member line name p f)
  unfolding with_member same
  is_retain e = sym (ap (λ (n : List ℕ). with_member line n p f) (same_true name (ascii "retain") e))

  pub is_other : same name (ascii "permission") ≡ false → same name (ascii "action") ≡ false → same name (ascii "topic") ≡ false → same name (ascii "qos") ≡ false
      → same name (ascii "retain") ≡ false → f ≡ with_member line name p f
  unfolding with_member
  is_other a b c d e = rw (a, b, c, d, e)

-- the places with that of one member more: its name, and the place of its value
unfoldable pub with_named : List ℕ → ℕ → RulePlaces → RulePlaces
with_named name p m =
    record {
      permission = cond (same name (ascii "permission")) (Some p) m.permission;
      action = cond (same name (ascii "action")) (Some p) m.action;
      qos = cond (same name (ascii "qos")) (Some p) m.qos;
      retain = cond (same name (ascii "retain")) (Some p) m.retain;
      topic = cond (same name (ascii "topic")) (Some p) m.topic;
    }

-- what the chosen place tells is chosen as the place is
chosen : {A : Type 0} (f : Option ℕ → A) (b : Bool) (p : ℕ) (before : Option ℕ) → cond b (f (Some p)) (f before) ≡ f (cond b (Some p) before)
chosen f true p before = refl
chosen f false p before = refl

pub member_parts : (line name : List ℕ) (p : ℕ) (m : RulePlaces) → with_member line name p (parts_at line m) ≡ parts_at line (with_named name p m)
unfolding with_member parts_at with_named quote_at
member_parts line name p m =
    λ i.
    record {
      permission = chosen (permission_here line) (same name (ascii "permission")) p m.permission i;
      action = chosen (action_here line) (same name (ascii "action")) p m.action i;
      qos = cond (same name (ascii "qos")) (Some p) m.qos;
      retain = cond (same name (ascii "retain")) (Some p) m.retain;
      topic = cond (same name (ascii "topic")) (Some p) m.topic;
      quote = chosen (quote_at line) (same name (ascii "topic")) p m.topic i;
    }

-- ---- the members of an object

-- of each name the last of these members, behind others whose places are noted
unfoldable pub places_in : Members → RulePlaces → RulePlaces
places_in ms m =
    record {
      permission = last_named (ascii "permission") ms m.permission;
      action = last_named (ascii "action") ms m.action;
      qos = last_named (ascii "qos") ms m.qos;
      retain = last_named (ascii "retain") ms m.retain;
      topic = last_named (ascii "topic") ms m.topic;
    }

places_in_lem : (line : List ℕ) (at : ℕ) {ms : Members} {next : ℕ} → value_here line at ≡ Some (record { value = object ms; next = next }) → places_in ms no_places ≡ places_at line at
unfolding places_in places_at named_in
places_in_lem line at {ms} e =
    let f : (name : List ℕ) → last_named name ms None ≡ member_named name line at = λ name. sym (named_is name line at e) in
    λ i.
    record {
      permission = f (ascii "permission") i;
      action = f (ascii "action") i;
      qos = f (ascii "qos") i;
      retain = f (ascii "retain") i;
      topic = f (ascii "topic") i;
    }

-- an object that ends before a place, no string of which is over the limit, and the places of its members
pub record ObjectTo (line : List ℕ) (at : ℕ) (m : RulePlaces) (end : ℕ) : Type 0 where
  pub members : Members
  pub reads : value_here line at ≡ Some (record { value = object members; next = end })
  pub short : longest_member members ≤ text_limit
  pub are : m ≡ places_in members no_places

-- what was found of the object's members before a place: where members stand from there on, the object ends behind them, and their places
-- come behind those that were found
pub record Passed (line : List ℕ) (at : ℕ) (found : RuleParts) (i : ℕ) : Type 0 where
  pub places : RulePlaces
  pub tells : found ≡ parts_at line places
  pub onward : (rest : Members) (end : ℕ) → MembersFrom 7 line i rest end → ObjectTo line at (places_in rest places) end

pub none_passed : (line : List ℕ) (at : ℕ) {found : RuleParts} {i : ℕ} → found ≡ no_parts → is_at line at 0x7b ≡ true → i ≡ skip_blanks line (at + 1) → Passed line at found i
unfolding parts_at permission_here action_here quote_at
none_passed line at e o f =
    record {
      places = no_places;
      tells = e;
      onward = λ rest end m. record { members = rest; reads = object-read 7 line at o f m.reads; short = m.short; are = refl };
    }

module _ (line : List ℕ) {at : ℕ} {before found : RuleParts} {i : ℕ} {name : List ℕ} {p end : ℕ} (s : Passed line at before i) (m : MemberAt 7 line i name p end)
    (e : found ≡ with_member line name p before) where
  with_one : found ≡ parts_at line (with_named name p s.places)
  with_one = e ∙ (ap (with_member line name p) s.tells ∙ member_parts line name p s.places)

  pub passed_more : {next : ℕ} → separator_at 0x7d line end ≡ (Some (Comma next)) → Passed line at found next
  unfolding places_in with_named last_named
  passed_more q = record { places = with_named name p s.places; tells = with_one; onward = λ rest last f. s.onward _ last (next_member line m q f) }

  -- a line whose object was passed over
  pub line_passed : {next last : ℕ} → at ≡ skip_blanks line 0 → separator_at 0x7d line end ≡ (Some (Close next)) → last ≡ skip_blanks line next → last ≡ length line → LineTo line found
  unfolding longest places_in with_named last_named
  line_passed {next} f q b l =
      let o : ObjectTo line at (with_named name p s.places) next = s.onward _ _ (last_member line m q) in
      record {
        value = object o.members;
        reads = line_read line f o.reads (sym b ∙ l);
        short = o.short;
        are = with_one ∙ ap (parts_at line) (o.are ∙ (places_in_lem line at o.reads ∙ ap (places_at line) f));
      }
