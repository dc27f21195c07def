-- The rule that is read from places in a line is the rule of the line's value. Assumes nothing.
use Prim.Native.Nat.{ℕ, zero, suc, ◌+◌, ◌-◌, ◌≤◌, ◌<◌}
use native.Mathlib.Omega.{arith}
use mathlib.Core.Path.{◌≡◌, refl, sym, ap, ◌∙◌}
use mathlib.Core.Bool.{Bool, true, false, ◌&&◌, ◌||◌, cond, true≢false}
use mathlib.Core.List.{List, ◌∷◌, map}
use Rattle.std.specs.Prelude.{Option, None, Some, Err, Result, is_some, option_map, option_and_then}
use Rattle.text.specs.Maybe.{bind}
use lib.Dec.{eqb, ltb}
use lib.ListN.{length}
use borrow.Author.Tests.{eqb-true, ltb-false, lt-ltb, le-ltb}
use Rattle.text.specs.Ascii.{ascii}
use Rattle.text.specs.Text.{same}
use Rattle.text.proofs.Laws.{isnt, same_true}
use Rattle.topic.specs.Topic.{valid_filter}
use Rattle.json_text.specs.Utf8.{byte_at, between}
use Rattle.json_text.specs.Strings.{Decoded, string_at}
use Rattle.json_text.specs.Json.{Json, null, bool, number, text, array, object, Elements, no_element, element, Members, no_member, member, is_at, skip_blanks, kind_of, depth_limit, line_value, longest, longest_element, longest_member}
use Rattle.json_text.specs.declared.Read.{Read}
use Rattle.json_text.specs.Access.{checked, value_here, kind_at, first_item, next_item, count_of, decoded_length}
use Rattle.json_text.specs.declared.Kind.{Kind}
use Rattle.json_text.specs.declared.Kind.TheVariants.{Number, Text, Array, Object, Word as WordKind, Blank, Other as OtherKind}
use Rattle.json_text.proofs.ValueLaws.{value_next}
use Rattle.json_text.proofs.AccessSteps.{kind_is, kind_opens}
use Rattle.json_text.proofs.AccessLaws.{kind_is_lem, element_place, ElementsIn, array_is, count_is, text_of, length-is, string_here, line_is}
use Rattle.rule.specs.Limits.{line_limit, text_limit}
use Rattle.rule.specs.Rule as spec
use Rattle.rule.specs.Rule.{Value, lower, is_word, is_template, nth, named, value_named, as_text, as_array, as_object, access_of, users_of, control_word, control_of, topic_of, topics_in, topics_of, rule_in, rule_of}
use Rattle.rule.specs.RuleText.{fourth_over, topics_over, or_not_a_rule, rule_from, read_rule}
use Rattle.rule.specs.Places.{value_of, place_of, word_of, word_at, placed_users, placed_topic, topic_answer, elements_of, placed_rule, fourth_of, rule_answer, topics_from, are_topics, topics_here, parts_here, over_topics, too_many, access_of_word, control_of_word, access_here, control_here, users_of_place, with_topics, with_control, with_users, rule_behind, with_access, rule_here}
use Rattle.rule.specs.declared.Word.TheVariants.{Allow, Deny, All as WordAll, Connect as WordConnect, Publish as WordPublish, Subscribe as WordSubscribe, Pubsub as WordPubsub}
use Rattle.rule.specs.declared.Control.{Control}
use Rattle.rule.specs.declared.Control.TheVariants.{All, Connect, Publish, Subscribe, Pubsub}
use Rattle.rule.specs.declared.Topic.TheVariants.{Filter, Template, Eq, EqTemplate}
use Rattle.rule.specs.declared.Refusal.TheVariants.{TooLong, NotJson, NotARule}
use Rattle.rule.specs.declared.Parts.{Parts}
use Rattle.rule.proofs.ReadLaws.{here_by}
use Rattle.rule.specs.declared.Refusal.{Refusal}
use Rattle.rule.specs.declared.Users.{Users}
use Rattle.rule.specs.declared.Rule.{Rule}

-- ---- the elements of the line's array, by their places

-- this value stands at its place, and no string in it is over the limit
abbrev pub Stands : List ℕ → Option Value → Type 0
Stands line None = Unit {0}
Stands line (Some v) = (next : ℕ) × (value_here line v.at ≡ Some (record { value = v.value; next = next })) × (longest v.value ≤ text_limit)

pub nth_stands : (line : List ℕ) (low high : ℕ) (es : Elements) (n : ℕ) → ElementsIn line low high es → longest_element es ≤ text_limit → Stands line (nth n es)
unfolding nth longest_element
nth_stands line low high no_element zero h k = tt
nth_stands line low high no_element (suc n) h k = tt
nth_stands line low high (element at value rest) zero h k = (h.0, h.2.reads, omega arith)
nth_stands line low high (element at value rest) (suc n) h k = nth_stands line h.0 high rest n h.3 (omega arith)

first_part : (es : Elements) → element_place es ≡ place_of (nth 0 es)
unfolding element_place place_of nth
first_part no_element = refl
first_part (element at value rest) = refl

next_part_lem : (line : List ℕ) (low high : ℕ) (es : Elements) (n : ℕ) → ElementsIn line low high es → option_and_then (next_item line) (place_of (nth n es)) ≡ place_of (nth (suc n) es)
unfolding place_of nth
next_part_lem line low high no_element zero h = refl
next_part_lem line low high no_element (suc n) h = refl
next_part_lem line low high (element at value rest) zero h = h.2.onward ∙ first_part rest
next_part_lem line low high (element at value rest) (suc n) h = next_part_lem line h.0 high rest n h.3

pub value-stands : (line : List ℕ) (v : Value) → Stands line (Some v) → value_of line v.at ≡ Some v
unfolding value_of bind
value-stands line v h = ap (λ (o : Option (Read Json)). bind o (λ r. Some (record { at = v.at; value = r.value }))) h.1

-- ---- the word that stands at a place

word_is : (line : List ℕ) (v : Value) → Stands line (Some v) → word_at line v.at ≡ text_of word_of None v.value
unfolding word_at text_of decoded_length
word_is line v h = by v.value h.1
  where
    absent : (o : Option Decoded) → option_map (λ (d : Decoded). length d.text) o ≡ None → option_and_then (λ (d : Decoded). word_of d.text) o ≡ None
    absent None e = refl
    absent (Some d) e = let z : ◌≡◌ {A = ℕ} 0 1 = cc in absurd (omega arith)

    none_here : {r : Read Json} → value_here line v.at ≡ Some r → text_of (λ s. Some (length s)) None r.value ≡ None → word_at line v.at ≡ None
    none_here e q = absent (string_at line v.at) (length-is depth_limit line v.at e ∙ q)

    by : (x : Json) → value_here line v.at ≡ Some (record { value = x; next = h.0 }) → word_at line v.at ≡ text_of word_of None x
    by null e = none_here e refl
    by (bool b) e = none_here e refl
    by (number n) e = none_here e refl
    by (text t) e =
        let s = string_here depth_limit line v.at e refl in
        ap (option_and_then (λ (d : Decoded). word_of d.text)) s.1 ∙ ap word_of s.2
    by (array es) e = none_here e refl
    by (object ms) e = none_here e refl

-- ---- the access

access_word : (t : List ℕ) → option_and_then access_of_word (word_of t) ≡ cond (is_word (ascii "allow") t) (Some true) (cond (is_word (ascii "deny") t) (Some false) None)
unfolding word_of access_of_word
access_word t =
    by (is_word (ascii "allow") t) (is_word (ascii "deny") t) (is_word (ascii "all") t) (is_word (ascii "connect") t) (is_word (ascii "publish") t)
    (is_word (ascii "subscribe") t) (is_word (ascii "pubsub") t)
  where
    by : (a d l c p s u : Bool) →
        option_and_then access_of_word
        (cond a (Some Allow)
        (cond d (Some Deny)
        (cond l (Some WordAll) (cond c (Some WordConnect) (cond p (Some WordPublish) (cond s (Some WordSubscribe) (cond u (Some WordPubsub) None)))))))
        ≡ cond a (Some true) (cond d (Some false) None)
    by true d l c p s u = refl
    by false true l c p s u = refl
    by false false true c p s u = refl
    by false false false true p s u = refl
    by false false false false true s u = refl
    by false false false false false true u = refl
    by false false false false false false true = refl
    by false false false false false false false = refl

access_is : (line : List ℕ) (o : Option Value) → Stands line o → option_and_then (access_here line) (place_of o) ≡ bind o access_of
unfolding access_here place_of access_of text_of as_text bind
access_is line None h = refl
access_is line (Some v) h = ap (option_and_then access_of_word) (word_is line v h) ∙ by v.value
  where
    by : (x : Json) → option_and_then access_of_word (text_of word_of None x) ≡ access_of (record { at = v.at; value = x })
    by null = refl
    by (bool b) = refl
    by (number n) = refl
    by (text t) = access_word t
    by (array es) = refl
    by (object ms) = refl

-- ---- the control

-- the control that lowered letters are
unfoldable control_in : List ℕ → Option Control
control_in s =
    cond (same s (ascii "all")) (Some All)
    (cond (same s (ascii "connect")) (Some Connect)
    (cond (same s (ascii "publish")) (Some Publish)
    (cond (same s (ascii "subscribe")) (Some Subscribe) (cond (same s (ascii "pubsub")) (Some Pubsub) None))))

control_in_lem : (t : List ℕ) → control_word t ≡ control_in (map lower t)
unfolding control_word is_word control_in
control_in_lem t = refl

lowered : (word t : List ℕ) → is_word word t ≡ true → map lower t ≡ word
unfolding is_word
lowered word t e = same_true (map lower t) word e

-- a word that is no control
no_control : (word t : List ℕ) → is_word word t ≡ true → control_in word ≡ None → None ≡ control_word t
no_control word t e q = sym (control_in_lem t ∙ (ap control_in (lowered word t e) ∙ q))

control_word_lem : (t : List ℕ) → option_and_then control_of_word (word_of t) ≡ control_word t
unfolding word_of control_of_word control_word control_in same
control_word_lem t = by (is_word (ascii "allow") t) (is_word (ascii "deny") t) refl refl
  where
    is_control : (l c p s u : Bool) →
        option_and_then control_of_word (cond l (Some WordAll) (cond c (Some WordConnect) (cond p (Some WordPublish) (cond s (Some WordSubscribe) (cond u (Some WordPubsub) None)))))
        ≡ cond l (Some All) (cond c (Some Connect) (cond p (Some Publish) (cond s (Some Subscribe) (cond u (Some Pubsub) None))))
    is_control true c p s u = refl
    is_control false true p s u = refl
    is_control false false true s u = refl
    is_control false false false true u = refl
    is_control false false false false true = refl
    is_control false false false false false = refl

    by : (a d : Bool) → is_word (ascii "allow") t ≡ a → is_word (ascii "deny") t ≡ d →
        option_and_then control_of_word
        (cond a (Some Allow)
        (cond d (Some Deny)
        (cond (is_word (ascii "all") t) (Some WordAll)
        (cond (is_word (ascii "connect") t) (Some WordConnect)
        (cond (is_word (ascii "publish") t) (Some WordPublish)
        (cond (is_word (ascii "subscribe") t) (Some WordSubscribe) (cond (is_word (ascii "pubsub") t) (Some WordPubsub) None)))))))
        ≡ control_word t
    by true d e q = no_control (ascii "allow") t e refl
    by false true e q = no_control (ascii "deny") t q refl
    by false false e q =
        is_control (is_word (ascii "all") t) (is_word (ascii "connect") t) (is_word (ascii "publish") t) (is_word (ascii "subscribe") t) (is_word (ascii "pubsub") t)

control_is : (line : List ℕ) (o : Option Value) → Stands line o → control_here line (place_of o) ≡ control_of o
unfolding control_here place_of control_of text_of control_of_word as_text bind
control_is line None h = refl
control_is line (Some v) h = ap (option_and_then control_of_word) (word_is line v h) ∙ by v.value
  where
    by : (x : Json) → option_and_then control_of_word (text_of word_of None x) ≡ bind (as_text (record { at = v.at; value = x })) (λ t. control_word t.text)
    by null = refl
    by (bool b) = refl
    by (number n) = refl
    by (text t) = control_word_lem t
    by (array es) = refl
    by (object ms) = refl

-- ---- the users, and the number of topics

users_is : (line : List ℕ) (allow : Bool) (o : Option Value) → Stands line o → users_of_place line allow (place_of o) ≡ option_map placed_users (bind o (users_of allow))
unfolding users_of_place place_of bind
users_is line allow None h = refl
users_is line allow (Some v) h = ap (λ (o : Option Value). option_map placed_users (bind o (users_of allow))) (value-stands line v h)

too_many_is : (line : List ℕ) (o : Option Value) → Stands line o → too_many line (place_of o) ≡ fourth_over (bind o as_array)
unfolding too_many place_of fourth_over bind over_topics count_of as_array
too_many_is line None h = refl
too_many_is line (Some v) h = ap over_topics (count_is line v.at h.1) ∙ by v.value
  where
    by : (x : Json) → over_topics (count_of x) ≡ fourth_over (as_array (record { at = v.at; value = x }))
    by null = refl
    by (bool b) = refl
    by (number n) = refl
    by (text t) = refl
    by (array es) = refl
    by (object ms) = refl

-- ---- the topics

placed_topic_lem : (t : spec.Topic) → length t.text.text ≤ text_limit → is_some (placed_topic t) ≡ true
unfolding placed_topic
placed_topic_lem t h = rw (le-ltb text_limit (length t.text.text) h) (by t.eq (is_template t.text.text))
  where
    by : (e p : Bool) → is_some (cond e (cond p (Some (EqTemplate t.text.at)) (Some (Eq t.text.at))) (cond p (Some (Template t.text.at)) (Some (Filter t.text.at)))) ≡ true
    by true true = refl
    by true false = refl
    by false true = refl
    by false false = refl

-- no string of the value is over the limit
abbrev Fits : Option Value → Type 0
Fits None = Unit {0}
Fits (Some v) = longest v.value ≤ text_limit

named-fits : (name : List ℕ) (ms : Members) (found : Option Value) → longest_member ms ≤ text_limit → Fits found → Fits (named name ms found)
unfolding named longest_member
named-fits name no_member found h k = k
named-fits name (member at n value_start value rest) found h k =
    named-fits name rest (cond (same n name) (Some (record { at = value_start; value = value })) found) (omega arith) (by (same n name))
  where
    by : (b : Bool) → Fits (cond b (Some (record { at = value_start; value = value })) found)
    by true = omega arith
    by false = k

pub topic_is : (v : Value) → longest v.value ≤ text_limit → is_some (topic_answer (topic_of v)) ≡ is_some (topic_of v)
unfolding topic_of as_object as_text topic_answer bind longest
topic_is v = by v.value
  where
    plain : (t : List ℕ) (b : Bool) → length t ≤ text_limit →
        is_some (topic_answer (cond b (Some (record { eq = false; text = record { at = v.at; text = t } })) None))
        ≡ is_some {T = spec.Topic} (cond b (Some (record { eq = false; text = record { at = v.at; text = t } })) None)
    plain t true h = placed_topic_lem (record { eq = false; text = record { at = v.at; text = t } }) h
    plain t false h = refl

    eq : (at : ℕ) (x : Json) → longest x ≤ text_limit →
        is_some (topic_answer (option_map (λ t. record { eq = true; text = t }) (as_text (record { at = at; value = x }))))
        ≡ is_some {T = spec.Topic} (option_map (λ t. record { eq = true; text = t }) (as_text (record { at = at; value = x })))
    eq at null h = refl
    eq at (bool b) h = refl
    eq at (number n) h = refl
    eq at (text t) h = placed_topic_lem (record { eq = true; text = record { at = at; text = t } }) h
    eq at (array es) h = refl
    eq at (object ms) h = refl

    under : (o : Option Value) → Fits o →
        is_some (topic_answer (option_map (λ t. record { eq = true; text = t }) (bind o as_text)))
        ≡ is_some {T = spec.Topic} (option_map (λ t. record { eq = true; text = t }) (bind o as_text))
    under None h = refl
    under (Some w) h = eq w.at w.value h

    by : (x : Json) → longest x ≤ text_limit → is_some (topic_answer (topic_of (record { at = v.at; value = x }))) ≡ is_some (topic_of (record { at = v.at; value = x }))
    by null h = refl
    by (bool b) h = refl
    by (number n) h = refl
    by (text t) h = plain t (is_template t || valid_filter t) h
    by (array es) h = refl
    by (object ms) h = under (value_named (ascii "eq") ms) (unfold value_named in named-fits (ascii "eq") ms None h tt)

topics_from_lem : (line : List ℕ) (most low high : ℕ) (es : Elements) → ElementsIn line low high es → high - low ≤ most → longest_element es ≤ text_limit
    → topics_from most line (element_place es) ≡ is_some (topics_in es)
unfolding topics_from element_place topics_in longest_element bind
topics_from_lem line zero low high no_element h k l = refl
topics_from_lem line (suc most) low high no_element h k l = refl
topics_from_lem line zero low high (element at value rest) h k l = absurd (omega (arith, value_next depth_limit line at h.2.reads, h.1, h.2.before))
topics_from_lem line (suc most) low high (element at value rest) h k l =
    (λ i. is_some (topic_answer (bind (value-stands line v (h.0, h.2.reads, omega arith) i) topic_of)) && topics_from most line (h.2.onward i))
    ∙ ((λ i. topic_is v (omega arith) i && topics_from_lem line most h.0 high rest h.3 (omega (arith, value_next depth_limit line at h.2.reads, h.1, h.2.before)) (omega arith) i)
    ∙ by (topic_of v) (topics_in rest))
  where
    v : Value
    v = record { at = at; value = value }

    by : (o : Option spec.Topic) (p : Option (List spec.Topic)) → (is_some o && is_some p) ≡ is_some (bind o (λ t. option_map (λ ts. t ∷ ts) p))
    by None p = refl
    by (Some t) None = refl
    by (Some t) (Some ts) = refl

-- ---- a bracket opens where an array stands

unfoldable is_array : Kind → Bool
is_array Number = false
is_array Text = false
is_array Array = true
is_array Object = false
is_array WordKind = false
is_array Blank = false
is_array OtherKind = false

-- no bracket opens where another kind of value stands
closed : (line : List ℕ) (at : ℕ) {r : Read Json} → value_here line at ≡ Some r → is_array (kind_is r.value) ≡ false → is_at line at 0x5b ≡ false
unfolding is_at kind_at
closed line at e q = isnt (eqb (byte_at line at) 0x5b) (λ h. true≢false (sym (ap (λ (b : ℕ). is_array (kind_of b)) (eqb-true (byte_at line at) 0x5b h) ∙ opens) ∙ (ap is_array (kind_is_lem depth_limit line at e) ∙ q)))
  where
    opens : is_array (kind_of 0x5b) ≡ true
    opens = unfold kind_of between is_array in refl

pub topics_here_lem : (line : List ℕ) (v : Value) → Stands line (Some v) → topics_here line v.at ≡ is_some (topics_of (Some v))
unfolding topics_here topics_of as_array bind are_topics kind_is is_array longest
topics_here_lem line v h = by v.value h.1 h.2
  where
    other : {r : Read Json} → value_here line v.at ≡ Some r → is_array (kind_is r.value) ≡ false → (is_at line v.at 0x5b && are_topics line (first_item 0x5b 0x5d line v.at)) ≡ false
    other e q = ap (λ (b : Bool). b && are_topics line (first_item 0x5b 0x5d line v.at)) (closed line v.at e q)

    listed : (o : Option (List spec.Topic)) → is_some o ≡ is_some (option_map Some o)
    listed None = refl
    listed (Some ts) = refl

    by : (x : Json) → value_here line v.at ≡ Some (record { value = x; next = h.0 }) → longest x ≤ text_limit
        → (is_at line v.at 0x5b && are_topics line (first_item 0x5b 0x5d line v.at)) ≡ is_some (topics_of (Some (record { at = v.at; value = x })))
    by null e k = other e refl
    by (bool b) e k = other e refl
    by (number n) e k = other e refl
    by (text t) e k = other e refl
    by (array es) e k =
        let a = array_is line v.at e refl in
        (λ i. kind_opens false line v.at (unfold kind_at in kind_is_lem depth_limit line v.at e) i && topics_from (length line) line (a.first i))
        ∙ (topics_from_lem line (length line) (v.at + 1) h.0 es a.elements (omega (arith, value_next depth_limit line v.at e)) k ∙ listed (topics_in es))
    by (object ms) e k = other e refl

-- ---- the rule

-- a rule behind its access, and with it, from four optional values
unfoldable rule_with : Bool → spec.Users → Control → Option (List spec.Topic) → spec.Rule
rule_with allow users control topics =
    record {
      allow = allow;
      user = users.user;
      clientid = users.clientid;
      ipaddr = users.ipaddr;
      protocol = users.protocol;
      control = control;
      topics = topics;
    }

unfoldable behind_of : Bool → Option Value → Option Value → Option Value → Option spec.Rule
behind_of allow users control topics =
    bind (bind users (users_of allow)) (λ u. bind (control_of control) (λ c. option_map (rule_with allow u c) (topics_of topics)))

topics_are : (line : List ℕ) (allow : Bool) (users : spec.Users) (control : Control) (o : Option Value) → Stands line o
    → with_topics line allow (placed_users users) control (place_of o) ≡ option_map (placed_rule o) (option_map (rule_with allow users control) (topics_of o))
unfolding with_topics place_of topics_of placed_rule rule_with
topics_are line allow users control None h = refl
topics_are line allow users control (Some v) h =
    ap (λ (b : Bool). cond b (Some (record { allow = allow; users = placed_users users; control = control; topics = Some v.at })) None) (topics_here_lem line v h)
    ∙ by (topics_of (Some v))
  where
    by : (t : Option (Option (List spec.Topic))) →
        cond (is_some t) (Some (record { allow = allow; users = placed_users users; control = control; topics = Some v.at })) None
        ≡ option_map (placed_rule (Some v)) (option_map (rule_with allow users control) t)
    by None = refl
    by (Some t) = refl

behind_is : (line : List ℕ) (allow : Bool) (users control topics : Option Value) → Stands line users → Stands line control → Stands line topics
    → with_users line allow (users_of_place line allow (place_of users)) (place_of control) (place_of topics)
    ≡ option_map (placed_rule topics) (behind_of allow users control topics)
unfolding with_users with_control behind_of bind
behind_is line allow users control topics hu hc ht =
    ap (λ (u : Option Users). with_users line allow u (place_of control) (place_of topics)) (users_is line allow users hu) ∙ by (bind users (users_of allow))
  where
    by_control : (u : spec.Users) (c : Option Control) →
        with_control line allow (placed_users u) c (place_of topics)
        ≡ option_map (placed_rule topics) (bind c (λ c. option_map (rule_with allow u c) (topics_of topics)))
    by_control u None = refl
    by_control u (Some c) = topics_are line allow u c topics ht

    by : (u : Option spec.Users) →
        with_users line allow (option_map placed_users u) (place_of control) (place_of topics)
        ≡ option_map (placed_rule topics) (bind u (λ u. bind (control_of control) (λ c. option_map (rule_with allow u c) (topics_of topics))))
    by None = refl
    by (Some u) =
        ap (λ (c : Option Control). with_control line allow (placed_users u) c (place_of topics)) (control_is line control hc) ∙ by_control u (control_of control)

-- the rule that the parts' places give
module _ (line : List ℕ) (access users control topics : Option Value) where
  unfoldable pub placed : Parts
  placed = record { access = place_of access; users = place_of users; control = place_of control; topics = place_of topics }

  access_with : Stands line access → Stands line users → Stands line control → Stands line topics
      → with_access line placed (place_of access) ≡ option_map (placed_rule topics) (bind (bind access access_of) (λ allow. behind_of allow users control topics))
  unfolding placed with_access rule_behind bind
  access_with ha hu hc ht = ap (option_and_then (rule_behind line placed)) (access_is line access ha) ∙ by (bind access access_of)
    where
      by : (o : Option Bool)
          → option_and_then (rule_behind line placed) o ≡ option_map (placed_rule topics) (bind o (λ allow. behind_of allow users control topics))
      by None = refl
      by (Some allow) = behind_is line allow users control topics hu hc ht

  parts_are : Stands line access → Stands line users → Stands line control → Stands line topics
      → cond (too_many line (place_of topics)) (Err TooLong) (or_not_a_rule (with_access line placed (place_of access)))
      ≡ rule_answer topics
      (cond (fourth_over (bind topics as_array)) (Err TooLong)
      (or_not_a_rule (bind (bind access access_of) (λ allow. behind_of allow users control topics))))
  unfolding rule_answer or_not_a_rule
  parts_are ha hu hc ht =
      (λ i. cond (too_many_is line topics ht i) (Err TooLong) (or_not_a_rule (access_with ha hu hc ht i)))
      ∙ by (fourth_over (bind topics as_array)) (bind (bind access access_of) (λ allow. behind_of allow users control topics))
    where
      by : (b : Bool) (o : Option spec.Rule)
          → cond b (Err TooLong) (or_not_a_rule (option_map (placed_rule topics) o)) ≡ rule_answer topics (cond b (Err TooLong) (or_not_a_rule o))
      by true o = refl
      by false None = refl
      by false (Some r) = refl

-- the parts of a line whose first element stands there
unfoldable parts_from : List ℕ → Option ℕ → Parts
parts_from line access =
    let users = option_and_then (next_item line) access in
    let control = option_and_then (next_item line) users in
    record { access = access; users = users; control = control; topics = option_and_then (next_item line) control }

parts_from_lem : (line : List ℕ) {access : Option ℕ} → first_item 0x5b 0x5d line (skip_blanks line 0) ≡ access → parts_here line ≡ parts_from line access
unfolding parts_here parts_from
parts_from_lem line e = ap (parts_from line) e

-- a line without an array has no parts
no_array : (line : List ℕ) {r : Read Json} → value_here line (skip_blanks line 0) ≡ Some r → is_array (kind_is r.value) ≡ false → rule_here line ≡ Err NotARule
unfolding first_item parts_from too_many with_access or_not_a_rule
no_array line e q = here_by line (sym (parts_from_lem line nowhere)) refl refl
  where
    p : ℕ
    p = skip_blanks line (skip_blanks line 0 + 1)

    nowhere : first_item 0x5b 0x5d line (skip_blanks line 0) ≡ None
    nowhere = ap (λ (b : Bool). cond b (cond (is_at line p 0x5d) None (Some p)) None) (closed line (skip_blanks line 0) e q)

pub parts_placed : (line : List ℕ) (low high : ℕ) (es : Elements) → first_item 0x5b 0x5d line (skip_blanks line 0) ≡ element_place es → ElementsIn line low high es
    → parts_here line ≡ placed line (nth 0 es) (nth 1 es) (nth 2 es) (nth 3 es)
unfolding parts_here placed
parts_placed line low high es e h =
    let access = e ∙ first_part es in
    let users = ap (option_and_then (next_item line)) access ∙ next_part_lem line low high es 0 h in
    let control = ap (option_and_then (next_item line)) users ∙ next_part_lem line low high es 1 h in
    let topics = ap (option_and_then (next_item line)) control ∙ next_part_lem line low high es 2 h in
    λ i. record { access = access i; users = users i; control = control i; topics = topics i }

-- the rule at the places of a line is the rule of its value
pub rule_is : (line : List ℕ) {v : Json} → line_value line ≡ Some v → longest v ≤ text_limit
    → rule_here line ≡ rule_answer (fourth_of (Some v)) (cond (topics_over v) (Err TooLong) (or_not_a_rule (rule_of v)))
unfolding topics_over rule_of rule_in fourth_of elements_of as_array bind or_not_a_rule rule_answer longest kind_is is_array placed behind_of rule_with
rule_is line {v} e k = let s = line_is line e in by v s.0 s.1 k
  where
    by : (x : Json) (next : ℕ) → value_here line (skip_blanks line 0) ≡ Some (record { value = x; next = next }) → longest x ≤ text_limit
        → rule_here line ≡ rule_answer (fourth_of (Some x)) (cond (topics_over x) (Err TooLong) (or_not_a_rule (rule_of x)))
    by null next h l = no_array line h refl
    by (bool b) next h l = no_array line h refl
    by (number n) next h l = no_array line h refl
    by (text t) next h l = no_array line h refl
    by (array es) next h l =
        let a = array_is line (skip_blanks line 0) h refl in
        let stands : (n : ℕ) → Stands line (nth n es) = λ n. nth_stands line (skip_blanks line 0 + 1) next es n a.elements l in
        here_by line (sym (parts_placed line (skip_blanks line 0 + 1) next es a.first a.elements)) refl refl
        ∙ parts_are line (nth 0 es) (nth 1 es) (nth 2 es) (nth 3 es) (stands 0) (stands 1) (stands 2) (stands 3)
    by (object ms) next h l = no_array line h refl

-- ---- a line

pub read_long : (line : List ℕ) → line_limit < length line → rule_answer (fourth_of (line_value line)) (read_rule line) ≡ Err TooLong
unfolding read_rule rule_answer
read_long line h = ap (λ (b : Bool). rule_answer (fourth_of (line_value line)) (cond b (Err TooLong) (rule_from (line_value line)))) (lt-ltb line_limit (length line) h)

-- what reading a line that isn't too long answers, by what its check answers
unfoldable read_on : List ℕ → Option ℕ → Result Rule Refusal
read_on line None = Err NotJson
read_on line (Some n) = cond (ltb text_limit n) (Err TooLong) (rule_here line)

read_on_lem : (line : List ℕ) {c : Option ℕ} → length line ≤ line_limit → checked (line_value line) ≡ c → rule_answer (fourth_of (line_value line)) (read_rule line) ≡ read_on line c
unfolding read_rule rule_from rule_answer checked read_on
read_on_lem line h e =
    ap (λ (b : Bool). rule_answer (fourth_of (line_value line)) (cond b (Err TooLong) (rule_from (line_value line)))) (le-ltb line_limit (length line) h)
    ∙ (by (line_value line) refl ∙ ap (read_on line) e)
  where
    by : (o : Option Json) → line_value line ≡ o → rule_answer (fourth_of o) (rule_from o) ≡ read_on line (checked o)
    by None q = refl
    by (Some v) q = at (ltb text_limit (longest v)) refl
      where
        at : (b : Bool) → ltb text_limit (longest v) ≡ b
            → rule_answer (fourth_of (Some v)) (cond (b || topics_over v) (Err TooLong) (or_not_a_rule (rule_of v))) ≡ cond b (Err TooLong) (rule_here line)
        at true k = refl
        at false k = sym (rule_is line q (ltb-false text_limit (longest v) k))

pub read_invalid : (line : List ℕ) → length line ≤ line_limit → checked (line_value line) ≡ None → rule_answer (fourth_of (line_value line)) (read_rule line) ≡ Err NotJson
unfolding read_on
read_invalid line h e = read_on_lem line h e

pub read_valid : (line : List ℕ) {n : ℕ} {over : Bool} → length line ≤ line_limit → checked (line_value line) ≡ Some n → ltb text_limit n ≡ over
    → rule_answer (fourth_of (line_value line)) (read_rule line) ≡ cond over (Err TooLong) (rule_here line)
unfolding read_on
read_valid line h e q = read_on_lem line h e ∙ ap (λ (b : Bool). cond b (Err TooLong) (rule_here line)) q
