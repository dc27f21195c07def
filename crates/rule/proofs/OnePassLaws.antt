-- Laws of the one pass: what each of its steps reads. Assumes nothing.
use Prim.Native.Nat.{ℕ, ◌+◌, ◌-◌, ◌≤◌, ◌<◌}
use native.Mathlib.Omega.{arith}
use mathlib.Core.Path.{◌≡◌, refl, sym, ap, subst, ◌∙◌}
use mathlib.Core.Bool.{Bool, true, false, ◌||◌, cond, true≢false}
use mathlib.Core.List.{List, [], ◌∷◌}
use Rattle.std.specs.Bool.{then_some}
use Rattle.std.specs.Prelude.{Option, None, Some, is_some, option_map, option_and_then, IfSome}
use Rattle.text.specs.Maybe.{bind}
use lib.Dec.{eqb, leb}
use borrow.Author.Tests.{eqb-true, le-ltb, leb-true, leb-false}
use lib.ListN.{length, take, drop, length-take}
use Rattle.text.specs.Ascii.{ascii}
use Rattle.text.specs.Text.{same}
use Rattle.text.proofs.Laws.{same_true}
use Rattle.topic.specs.Topic.{valid_filter}
use Rattle.json_text.specs.Json.{Json, text, array, object, Elements, no_element, element, Members, no_member, member, is_at, skip_blanks, text_at, name_at, separator_at, value_at, depth_limit, longest, longest_element, longest_member}
use Rattle.json_text.specs.declared.Read.{Read}
use Rattle.json_text.specs.Access.{count, count_of, checked, value_here, stepped, behind}
use Rattle.json_text.specs.Strings.{Decoded}
use Rattle.json_text.specs.declared.Cursor.{Cursor}
use Rattle.json_text.specs.declared.Separator.{Separator}
use Rattle.json_text.specs.declared.Separator.TheVariants.{Close, Comma}
use Rattle.rule.specs.declared.Word.{Word}
use Rattle.rule.specs.declared.Word.TheVariants.{All as WordAll}
use Rattle.rule.specs.declared.Parts.{Parts}
use Rattle.rule.specs.declared.Control.{Control}
use Rattle.rule.specs.declared.Control.TheVariants.{All}
use Rattle.rule.specs.declared.Users.{Users}
use Rattle.rule.specs.declared.Rule.{Rule}
use Rattle.json_text.proofs.ValueLaws.{value_deeper, value_next, elements_from, members_from}
use Rattle.json_text.proofs.ScanLaws.{name_next, comma_next}
use Rattle.json_text.proofs.AccessSteps.{kind_is}
use Rattle.json_text.proofs.AccessLaws.{kind_is_lem, count_is, ArrayIs, array_is}
use Rattle.json_text.proofs.PlainLaws.{Plain, plain_string, plain_value}
use Rattle.json_text.proofs.ElementLaws as items
use Rattle.json_text.proofs.ElementLaws.{line_read}
use Rattle.rule.specs.Limits.{text_limit, topics_limit}
use Rattle.rule.specs.Rule as spec
use Rattle.rule.specs.RuleText.{or_not_a_rule}
use Rattle.rule.specs.Rule.{Value, nth, named, value_named, is_template, as_text, as_array, as_object, topic_of, topics_in, topics_of}
use Rattle.rule.specs.Places.{value_of, placed_users, topic_answer, over_topics, too_many, topics_here, place_of, word_of, control_of_word, control_here, users_of_place, with_topics, with_control, with_users, rule_behind, with_access, access_of_word, access_here}
use Rattle.rule.specs.OnePass.{PartTo, TopicTo, TopicsTo, Tail, FromTopics, FromControl, FromUsers, IsRule}
use Rattle.rule.proofs.RuleLaws.{topics_here_lem, placed, parts_placed, read_valid}
use Rattle.rule.specs.Members.{value_behind, users_listed, places_in, no_places, MembersTo, UsersTo}
use Rattle.json_text.specs.Plain.{plain_text}
use Rattle.rule.specs.Front.{EqTo, eq_of, eq_named, eq_valued, eq_before}
use Rattle.rule.specs.declared.MemberPlaces.{MemberPlaces}
use Rattle.rule.proofs.MemberLaws.{word_users, users_word, users_object, users_listed_lem, places_in_lem}
use Rattle.rule.proofs.WordLaws.{word_long, word_here}
use Rattle.rule.proofs.ReadLaws.{topics_by, here_by}
use Rattle.rule.specs.declared.EqText.{EqText}

-- ---- values

-- what reads inside the line's array reads by itself
pub value_there : (depth : ℕ) (line : List ℕ) (at : ℕ) {v : Json} {end : ℕ} → depth ≤ depth_limit → value_at depth line at ≡ Some (record { value = v; next = end })
    → value_of line at ≡ Some (record { at = at; value = v })
unfolding value_of bind
value_there depth line at h e = ap (λ (o : Option (Read Json)). bind o (λ r. Some (record { at = at; value = r.value }))) (value_deeper depth depth_limit line at h e)

-- the value that a step passes over
pub part_read : (depth : ℕ) (line : List ℕ) (at before : ℕ) {c : Cursor} → stepped longest before (value_at depth line at) ≡ Some c → c.longest ≤ text_limit → PartTo depth line at before c.at
part_read depth line at before v h =
    let r = items.stepped_some longest before (value_at depth line at) v in
    record { value = r.value; reads = r.is; within = omega (arith, r.long); short = omega (arith, r.long) }

-- ---- topics

pub plain_topic : (line : List ℕ) (at : ℕ) {end : ℕ} → Plain line at end → end - (at + 1) ≤ text_limit
    → (is_template (take (end - (at + 1)) (drop (at + 1) line)) || valid_filter (take (end - (at + 1)) (drop (at + 1) line))) ≡ true
    → TopicTo line at (end + 1)
unfolding topic_of as_object as_text bind longest
plain_topic line at {end} p h e =
    record {
      value = text t;
      topic = record { eq = false; text = record { at = at; text = t } };
      reads = plain_value 6 line at p;
      short = omega (arith, length-take (end - (at + 1)) (drop (at + 1) line));
      is = ap (λ (b : Bool). cond b (Some (record { eq = false; text = record { at = at; text = t } })) None) e;
    }
  where
    t : List ℕ
    t = take (end - (at + 1)) (drop (at + 1) line)

pub value_topic : (line : List ℕ) (at : ℕ) {v : Json} {end : ℕ} → value_at 6 line at ≡ Some (record { value = v; next = end }) → longest v ≤ text_limit
    → is_some (topic_answer (bind (value_of line at) topic_of)) ≡ true → TopicTo line at end
unfolding bind
value_topic line at {v} {end} e h g = by (topic_of (record { at = at; value = v })) refl (ap (λ (o : Option Value). is_some (topic_answer (bind o topic_of))) (sym (value_there 6 line at (omega arith) e)) ∙ g)
  where
    by : (o : Option spec.Topic) → topic_of (record { at = at; value = v }) ≡ o → is_some (topic_answer o) ≡ true → TopicTo line at end
    by None q k = absurd (true≢false (sym k ∙ (unfold topic_answer in refl)))
    by (Some t) q k = record { value = v; topic = t; reads = e; short = h; is = q }

-- ---- an array of topics

-- what is told of an answer
pub answered : {A : Type 0} {o : Option A} {a : A} (holds : A → Type 0) → o ≡ Some a → IfSome o holds → holds a
answered holds e h = subst (λ (o : Option _). IfSome o holds) e h

-- what is answered by a test
pub then_told : {A : Type 0} (holds : A → Type 0) {answer : Option A} {a : A} (test : Bool) → answer ≡ then_some test a → (test ≡ true → holds a)
    → IfSome answer holds
then_told holds true e h = subst (λ (o : Option _). IfSome o holds) (sym e) (h refl)
then_told holds false e h = subst (λ (o : Option _). IfSome o holds) (sym e) tt

-- topics from a place on, at most so many, and behind them the closing bracket
pub record TopicsFrom (line : List ℕ) (at room end : ℕ) : Type 0 where
  pub elements : Elements
  pub topics : List spec.Topic
  pub reads : elements_from 6 line at ≡ Some (record { value = elements; next = end })
  pub short : longest_element elements ≤ text_limit
  pub few : count elements ≤ room
  pub are : topics_in elements ≡ Some topics

pub last_topic : (line : List ℕ) (at room : ℕ) {end next : ℕ} → 0 < room → TopicTo line at end → separator_at 0x5d line end ≡ Some (Close next) → TopicsFrom line at room next
unfolding topics_in bind longest_element count
last_topic line at room h t q =
    record {
      elements = element at t.value no_element;
      topics = t.topic ∷ [];
      reads = items.elements_last 6 line at t.reads q;
      short = omega (arith, t.short);
      few = omega arith;
      are = rw t.is;
    }

pub next_topic : (line : List ℕ) (at room : ℕ) {less end next last : ℕ} → less < room → TopicTo line at end → separator_at 0x5d line end ≡ Some (Comma next)
    → TopicsFrom line next less last → TopicsFrom line at room last
unfolding topics_in bind longest_element count
next_topic line at room h t q r =
    record {
      elements = element at t.value r.elements;
      topics = t.topic ∷ r.topics;
      reads = items.elements_more 6 line at t.reads q r.reads;
      short = omega (arith, t.short, r.short);
      few = omega (arith, r.few);
      are = rw (t.is, r.are);
    }

pub topics_read : (line : List ℕ) (at : ℕ) {first end : ℕ} → is_at line at 0x5b ≡ true → first ≡ skip_blanks line (at + 1) → TopicsFrom line first topics_limit end
    → TopicsTo line at end
topics_read line at o f t =
    record { elements = t.elements; topics = t.topics; reads = items.array-read 6 line at o f t.reads; short = t.short; few = t.few; are = t.are }

pub topics_fine : (line : List ℕ) (at : ℕ) {end : ℕ} → TopicsTo line at end → (too_many line (Some at) ≡ false) × (topics_here line at ≡ true)
unfolding too_many over_topics count_of topics_of as_array bind longest
topics_fine line at {end} t =
    let there = value_deeper 7 depth_limit line at (omega arith) t.reads in (
      ap over_topics (count_is line at there) ∙ le-ltb topics_limit (count t.elements) t.few,
      topics_here_lem line (record { at = at; value = array t.elements }) (end, there, t.short) ∙ ap (λ (o : Option (List spec.Topic)). is_some (option_map Some o)) t.are,
    )

-- ---- the elements of the line's array

module _ (line : List ℕ) (at : ℕ) (holds : Elements → Type 0) {v : Json} {end : ℕ} (reads : value_at 7 line at ≡ Some (record { value = v; next = end })) (short : longest v ≤ text_limit) where
  pub tail_last : {next last : ℕ} → separator_at 0x5d line end ≡ Some (Close next) → last ≡ skip_blanks line next → last ≡ length line → holds (element at v no_element) → Tail line at holds
  unfolding longest_element
  tail_last {next} q b l h =
      record {
        rest = element at v no_element;
        next = next;
        reads = items.elements_last 7 line at reads q;
        ends = sym b ∙ l;
        short = omega arith;
        fine = h;
      }

  pub tail_more : {next : ℕ} {behind : Elements → Type 0} → separator_at 0x5d line end ≡ Some (Comma next) → Tail line next behind → ((rest : Elements) → behind rest → holds (element at v rest))
      → Tail line at holds
  unfolding longest_element
  tail_more q t h =
      record {
        rest = element at v t.rest;
        next = t.next;
        reads = items.elements_more 7 line at reads q t.reads;
        ends = t.ends;
        short = omega (arith, t.short);
        fine = h t.rest t.fine;
      }

-- ---- the members of an object

-- the name of a member, from its plain string
name_read : (line : List ℕ) (at : ℕ) {end p : ℕ} → Plain line at end → value_behind line (end + 1) ≡ Some p
    → name_at line at ≡ Some (record { value = take (end - (at + 1)) (drop (at + 1) line); next = p })
unfolding name_at text_at bind value_behind
name_read line at {end} {p} s e =
    ap (λ o. bind (bind o (λ (d : Decoded). Some (record { value = d.text; next = at + 1 + d.size }))) named) s.string
    ∙ (ap (λ (n : ℕ). named (record { value = t; next = n })) behind ∙ by (is_at line (skip_blanks line (end + 1)) 0x3a) e)
  where
    t : List ℕ
    t = take (end - (at + 1)) (drop (at + 1) line)

    named : Read (List ℕ) → Option (Read (List ℕ))
    named name = let q = skip_blanks line name.next in cond (is_at line q 0x3a) (Some (record { value = name.value; next = skip_blanks line (q + 1) })) None

    behind : at + 1 + (end - at) ≡ end + 1
    behind = omega (arith, s.ahead)

    by : (b : Bool) → cond b (Some (skip_blanks line (skip_blanks line (end + 1) + 1))) None ≡ Some p
        → ◌≡◌ {A = Option (Read (List ℕ))} (cond b (Some (record { value = t; next = skip_blanks line (skip_blanks line (end + 1) + 1) })) None) (Some (record { value = t; next = p }))
    by true q = let next : skip_blanks line (skip_blanks line (end + 1) + 1) ≡ p = cc in λ i. Some (record { value = t; next = next i })
    by false q = let z : ◌≡◌ {A = ℕ} 0 1 = cc in absurd (omega arith)

-- a member that was read: its name, the place of its value and the place behind it
pub record MemberAt (depth : ℕ) (line : List ℕ) (at : ℕ) (name : List ℕ) (p end : ℕ) : Type 0 where
  pub value : Json
  pub named : name_at line at ≡ Some (record { value = name; next = p })
  pub reads : value_at depth line p ≡ Some (record { value = value; next = end })
  pub short_name : length name ≤ text_limit
  pub short : longest value ≤ text_limit

pub member_read : {depth : ℕ} (line : List ℕ) (at : ℕ) {end p behind : ℕ} → Plain line at end → value_behind line (end + 1) ≡ Some p → PartTo depth line p (end - (at + 1)) behind
    → MemberAt depth line at (take (end - (at + 1)) (drop (at + 1) line)) p behind
member_read line at {end} s e v =
    record {
      value = v.value;
      named = name_read line at s e;
      reads = v.reads;
      short_name = omega (arith, length-take (end - (at + 1)) (drop (at + 1) line), v.within);
      short = v.short;
    }

pub member_forward : {depth : ℕ} (line : List ℕ) {at : ℕ} {name : List ℕ} {p end next : ℕ} → MemberAt depth line at name p end → separator_at 0x7d line end ≡ Some (Comma next) → (at < next) × (next ≤ length line)
member_forward {depth} line {at} {p = p} {end = end} m q = omega (arith, name_next line at m.named, value_next depth line p m.reads, comma_next line end 0x7d q)

-- members from a place on, and behind them the closing bracket
pub record MembersFrom (depth : ℕ) (line : List ℕ) (at : ℕ) (rest : Members) (end : ℕ) : Type 0 where
  pub reads : members_from depth line at ≡ Some (record { value = rest; next = end })
  pub short : longest_member rest ≤ text_limit

pub last_member : {depth : ℕ} (line : List ℕ) {at : ℕ} {name : List ℕ} {p end next : ℕ} (m : MemberAt depth line at name p end) → separator_at 0x7d line end ≡ Some (Close next)
    → MembersFrom depth line at (member at name p m.value no_member) next
unfolding longest_member
last_member {depth} line {at} m q = record { reads = items.members_last depth line at m.named m.reads q; short = omega (arith, m.short_name, m.short) }

pub next_member : {depth : ℕ} (line : List ℕ) {at : ℕ} {name : List ℕ} {p end next last : ℕ} {rest : Members} (m : MemberAt depth line at name p end) → separator_at 0x7d line end ≡ Some (Comma next)
    → MembersFrom depth line next rest last → MembersFrom depth line at (member at name p m.value rest) last
unfolding longest_member
next_member {depth} line {at} m q f = record { reads = items.members_more depth line at m.named m.reads q f.reads; short = omega (arith, m.short_name, m.short, f.short) }

pub first_member : (line : List ℕ) (at : ℕ) {first end : ℕ} {rest : Members} → is_at line at 0x7b ≡ true → first ≡ skip_blanks line (at + 1) → MembersFrom 6 line first rest end
    → MembersTo line at (places_in rest no_places) end
first_member line at {rest = rest} o f m = record { members = rest; reads = items.object-read 6 line at o f m.reads; short = m.short; are = refl }

-- a topic under `eq`, from its plain strings
pub eq_to : (line : List ℕ) (at : ℕ) {opens closes end : ℕ} → eq_of line at ≡ Some (record { opens = opens; closes = closes; next = end }) → EqTo line at opens closes end
unfolding eq_of eq_named eq_valued eq_before
eq_to line at {opens} {closes} {end} e = by-brace (is_at line at 0x7b) refl e
  where
    name : ℕ
    name = skip_blanks line (at + 1)

    no : {A : Type 0} → ◌≡◌ {A = Option EqText} None (Some (record { opens = opens; closes = closes; next = end })) → A
    no q = let z : ◌≡◌ {A = ℕ} 0 1 = cc in absurd (omega arith)

    Told : Option EqText → Type 0
    Told None = Unit {0}
    Told (Some e) = EqTo line at e.opens e.closes e.next

    by_end : (b : is_at line at 0x7b ≡ true) (last o c : ℕ) → plain_text line name ≡ Some last → same (take (last - (name + 1)) (drop (name + 1) line)) (ascii "eq") ≡ true
        → value_behind line (last + 1) ≡ Some o → plain_text line o ≡ Some c → (s : Option Separator) → separator_at 0x7d line (c + 1) ≡ s → eq_before o c s ≡ Some (record { opens = opens; closes = closes; next = end })
        → EqTo line at opens closes end
    by_end b last o c p i v q (Some (Close next)) f k =
        subst Told k
        (record { name = name; name_end = last; brace = b; begins = refl; quoted_name = p; is = i; behind = v; quoted = q; ends = f })
    by_end b last o c p i v q (Some (Comma next)) f k = no k
    by_end b last o c p i v q None f k = no k

    by-string : (b : is_at line at 0x7b ≡ true) (last o : ℕ) → plain_text line name ≡ Some last → same (take (last - (name + 1)) (drop (name + 1) line)) (ascii "eq") ≡ true
        → value_behind line (last + 1) ≡ Some o → (c : Option ℕ) → plain_text line o ≡ c → option_and_then (λ closes. eq_before o closes (separator_at 0x7d line (closes + 1))) c ≡ Some (record { opens = opens; closes = closes; next = end }) → EqTo line at opens closes end
    by-string b last o p i v None q k = no k
    by-string b last o p i v (Some c) q k = by_end b last o c p i v q (separator_at 0x7d line (c + 1)) refl k

    by_value : (b : is_at line at 0x7b ≡ true) (last : ℕ) → plain_text line name ≡ Some last → same (take (last - (name + 1)) (drop (name + 1) line)) (ascii "eq") ≡ true
        → (o : Option ℕ) → value_behind line (last + 1) ≡ o → eq_valued line o ≡ Some (record { opens = opens; closes = closes; next = end }) → EqTo line at opens closes end
    by_value b last p i None v k = no k
    by_value b last p i (Some o) v k = by-string b last o p i v (plain_text line o) refl k

    by_word : (b : is_at line at 0x7b ≡ true) (last : ℕ) → plain_text line name ≡ Some last → (i : Bool) → same (take (last - (name + 1)) (drop (name + 1) line)) (ascii "eq") ≡ i
        → cond i (eq_valued line (value_behind line (last + 1))) None ≡ Some (record { opens = opens; closes = closes; next = end }) → EqTo line at opens closes end
    by_word b last p true i k = by_value b last p i (value_behind line (last + 1)) refl k
    by_word b last p false i k = no k

    by_name : (b : is_at line at 0x7b ≡ true) → (o : Option ℕ) → plain_text line name ≡ o → eq_named line name o ≡ Some (record { opens = opens; closes = closes; next = end }) → EqTo line at opens closes end
    by_name b None p k = no k
    by_name b (Some last) p k = by_word b last p (same (take (last - (name + 1)) (drop (name + 1) line)) (ascii "eq")) refl k

    by-brace : (b : Bool) → is_at line at 0x7b ≡ b → cond b (eq_named line name (plain_text line name)) None ≡ Some (record { opens = opens; closes = closes; next = end }) → EqTo line at opens closes end
    by-brace true b k = by_name b (plain_text line name) refl k
    by-brace false b k = no k

-- step by step
pub eq_unopened : (line : List ℕ) (at : ℕ) → is_at line at 0x7b ≡ false → eq_of line at ≡ None
unfolding eq_of
eq_unopened line at b = rw b

pub eq_named_lem : (line : List ℕ) (at : ℕ) {name : ℕ} → is_at line at 0x7b ≡ true → name ≡ skip_blanks line (at + 1) → eq_of line at ≡ eq_named line name (plain_text line name)
unfolding eq_of
eq_named_lem line at b n = rw (b, sym n)

module _ (line : List ℕ) (at : ℕ) {opens closes end : ℕ} (q : EqTo line at opens closes end) where
  under_name : List ℕ
  under_name = take (q.name_end - (q.name + 1)) (drop (q.name + 1) line)

  abbrev pub under : List ℕ
  under = take (closes - (opens + 1)) (drop (opens + 1) line)

  pub eq_string : Plain line opens closes
  eq_string = plain_string line opens q.quoted

  pub eq_object : Json
  eq_object = object (member q.name under_name opens (text under) no_member)

  -- the object, and the topic that it is
  pub eq_value : value_at 6 line at ≡ Some (record { value = eq_object; next = end })
  unfolding under_name eq_object
  eq_value =
      items.object-read 5 line at q.brace q.begins
      (items.members_last 5 line q.name (name_read line q.name (plain_string line q.name q.quoted_name) q.behind) (plain_value 5 line opens eq_string) q.ends)

  pub eq_topic : topic_of (record { at = at; value = eq_object }) ≡ Some (record { eq = true; text = record { at = opens; text = under } })
  unfolding under_name eq_object topic_of as_object value_named named bind as_text
  eq_topic = rw q.is

  pub eq_read : closes - (opens + 1) ≤ text_limit → TopicTo line at end
  unfolding under_name eq_object longest longest_member
  eq_read h =
      record {
        value = eq_object;
        topic = record { eq = true; text = record { at = opens; text = under } };
        reads = eq_value;
        short = omega (arith, ap length (same_true under_name (ascii "eq") q.is), length-take (closes - (opens + 1)) (drop (opens + 1) line));
        is = eq_topic;
      }

-- the users of an object, by the places of its members
pub members_place : (line : List ℕ) (allow : Bool) (at : ℕ) {m : MemberPlaces} {end : ℕ} → MembersTo line at m end → users_of_place line allow (Some at) ≡ users_listed allow line m
unfolding users_of_place behind kind_is
members_place line allow at {m} {end} t =
    ap (option_map placed_users) (sym (users_object allow line at (kind_is_lem depth_limit line at there))) ∙ users_listed_lem allow line at (ap behind there) (t.are ∙ places_in_lem line at there)
  where
    there : value_here line at ≡ Some (record { value = object t.members; next = end })
    there = value_deeper 7 depth_limit line at (omega arith) t.reads

-- ---- the rule, by what is left of it

-- the rule of a line that ends here
pub at_end : (line : List ℕ) (next : ℕ) (holds : Rule → Type 0) {r : Option Rule} {rule : Rule} → r ≡ cond (eqb (skip_blanks line next) (length line)) (Some rule) None
    → (skip_blanks line next ≡ length line → holds rule) → IfSome r holds
at_end line next holds {r} {rule} e f = subst (λ (o : Option Rule). IfSome o holds) (sym e) (by (eqb (skip_blanks line next) (length line)) refl)
  where
    by : (b : Bool) → eqb (skip_blanks line next) (length line) ≡ b → IfSome (cond b (Some rule) None) holds
    by true h = f (eqb-true (skip_blanks line next) (length line) h)
    by false h = tt

pub rule_map : {P Q : Rule → Type 0} (r : Option Rule) → ((rule : Rule) → P rule → Q rule) → IfSome r P → IfSome r Q
rule_map (Some rule) f h = f rule h
rule_map None f h = tt

-- a plain string is short if it is a word
word_short : (t : List ℕ) → (word_of t ≡ None → ⊥) → length t ≤ text_limit
word_short t h = by (leb (length t) 9) refl
  where
    by : (b : Bool) → leb (length t) 9 ≡ b → length t ≤ text_limit
    by true e = omega (arith, leb-true (length t) 9 e)
    by false e = absurd (h (word_long t (leb-false (length t) 9 e)))

-- the word `all` lists nobody
pub all_users : (line : List ℕ) (allow : Bool) (at : ℕ) {end : ℕ} → Plain line at end → word_of (take (end - (at + 1)) (drop (at + 1) line)) ≡ Some WordAll
    → UsersTo line allow at (record { user = None; clientid = None; ipaddr = None; protocol = None }) (end + 1)
unfolding longest users_of_place word_users kind_is
all_users line allow at {end} p w =
    record {
      value = text t;
      reads = plain_value 7 line at p;
      short = word_short t (λ e. no (sym w ∙ e));
      are = users_word allow line at (kind_is_lem depth_limit line at (plain_value depth_limit line at p)) (word_here line at p.string ∙ w);
    }
  where
    t : List ℕ
    t = take (end - (at + 1)) (drop (at + 1) line)

    no : (Some WordAll) ≡ None → ⊥
    no e = let z : ◌≡◌ {A = ℕ} 0 1 = cc in omega arith

module _ (line : List ℕ) (allow : Bool) (users : Users) where
  pub topics_tail : (control : Control) (at : ℕ) {end next last : ℕ} → TopicsTo line at end → separator_at 0x5d line end ≡ Some (Close next) → last ≡ skip_blanks line next → last ≡ length line
      → FromTopics line allow users control at (record { allow = allow; users = users; control = control; topics = Some at })
  unfolding nth place_of longest
  topics_tail control at t q b l =
      let f = topics_fine line at t in
      tail_last line at _ t.reads t.short q b l (f.0, topics_by line allow users control at f.1)

  module _ (at : ℕ) {end : ℕ} (p : Plain line at end) {word : Word} {control : Control} (is : word_of (take (end - (at + 1)) (drop (at + 1) line)) ≡ Some word)
      (w : control_of_word word ≡ Some control) where
    t : List ℕ
    t = take (end - (at + 1)) (drop (at + 1) line)

    short : length t ≤ text_limit
    unfolding t
    short = word_short t (λ e. let z : ◌≡◌ {A = ℕ} 0 1 = other (sym e ∙ is) in omega arith)
      where
        other : None ≡ Some word → ◌≡◌ {A = ℕ} 0 1
        other q = cc

    here : control_here line (Some at) ≡ Some control
    unfolding control_here
    here = ap (option_and_then control_of_word) (word_here line at p.string ∙ is) ∙ w

    pub control_last : {next last : ℕ} → separator_at 0x5d line (end + 1) ≡ Some (Close next) → last ≡ skip_blanks line next → last ≡ length line
        → FromControl line allow users at (record { allow = allow; users = users; control = control; topics = None })
    unfolding nth place_of longest t too_many with_control with_topics
    control_last q b l = tail_last line at _ (plain_value 7 line at p) short q b l (refl, ap (λ (c : Option Control). with_control line allow users c None) here)

    pub control_more : {next : ℕ} {rule : Rule} → separator_at 0x5d line (end + 1) ≡ Some (Comma next) → FromTopics line allow users control next rule → FromControl line allow users at rule
    unfolding nth place_of longest t with_control
    control_more q f =
        tail_more line at _ (plain_value 7 line at p) short q f
        (λ rest h. (h.0, ap (λ (c : Option Control). with_control line allow users c (place_of (nth 0 rest))) here ∙ h.1))

module _ (line : List ℕ) (allow : Bool) (at : ℕ) {v : Json} {end : ℕ} (reads : value_at 7 line at ≡ Some (record { value = v; next = end })) (short : longest v ≤ text_limit)
    {users : Users} (are : users_of_place line allow (Some at) ≡ Some users) where
  pub users_last : {next last : ℕ} → separator_at 0x5d line end ≡ Some (Close next) → last ≡ skip_blanks line next → last ≡ length line
      → FromUsers line allow at (record { allow = allow; users = users; control = All; topics = None })
  unfolding nth place_of too_many with_users with_control with_topics control_here
  users_last q b l = tail_last line at _ reads short q b l (refl, ap (λ (u : Option Users). with_users line allow u None None) are)

  pub users_more : {next : ℕ} {rule : Rule} → separator_at 0x5d line end ≡ Some (Comma next) → FromControl line allow users next rule → FromUsers line allow at rule
  unfolding nth place_of with_users
  users_more q f =
      tail_more line at _ reads short q f
      (λ rest h. (h.0, ap (λ (u : Option Users). with_users line allow u (place_of (nth 0 rest)) (place_of (nth 1 rest))) are ∙ h.1))

-- ---- a line

module _ (line : List ℕ) (allow : Bool) {first access end users : ℕ} {w : Word} where
  pub line-rule : access_of_word w ≡ Some allow → first ≡ skip_blanks line 0 → is_at line first 0x5b ≡ true → access ≡ skip_blanks line (first + 1)
      → Plain line access end → word_of (take (end - (access + 1)) (drop (access + 1) line)) ≡ Some w → separator_at 0x5d line (end + 1) ≡ Some (Comma users)
      → {rule : Rule} → FromUsers line allow users rule → IsRule line rule
  unfolding longest longest_element checked nth place_of placed with_access rule_behind access_here or_not_a_rule
  line-rule means f o a p word q {rule} t fits =
      read_valid line fits (ap checked (line_read line f reads t.ends)) (le-ltb text_limit (longest (array es)) (omega (arith, short, t.short)))
      ∙ (here_by line (sym (parts_placed line (skip_blanks line 0 + 1) t.next es found.first found.elements)) t.fine.0 refl
      ∙ ap or_not_a_rule
      (ap (option_and_then (rule_behind line parts)) (ap (option_and_then access_of_word) (word_here line access p.string ∙ word) ∙ means) ∙ t.fine.1))
    where
      s : List ℕ
      s = take (end - (access + 1)) (drop (access + 1) line)

      es : Elements
      es = element access (text s) t.rest

      parts : Parts
      parts = placed line (nth 0 es) (nth 1 es) (nth 2 es) (nth 3 es)

      short : length s ≤ text_limit
      short = word_short s (λ e. let z : ◌≡◌ {A = ℕ} 0 1 = other (sym e ∙ word) in omega arith)
        where
          other : None ≡ Some w → ◌≡◌ {A = ℕ} 0 1
          other q = cc

      reads : value_here line first ≡ Some (record { value = array es; next = t.next })
      reads = items.array-read 7 line first o a (items.elements_more 7 line access (plain_value 7 line access p) q t.reads)

      found : ArrayIs line (skip_blanks line 0) t.next es
      found = array_is line (skip_blanks line 0) (ap (value_here line) (sym f) ∙ reads) refl
