-- What a rule that was read says of its line: the texts of its topics are within the limit, its fourth element stands at its place and has the
-- rule's topics, and the text of a topic at a place stands in the line. Assumes nothing.
use Prim.Native.Nat.{ℕ, ◌+◌, ◌≤◌}
use mathlib.Core.Path.{◌≡◌, refl, sym, ap, ◌∙◌}
use mathlib.Core.Bool.{Bool, true, false, ◌||◌, cond, true≢false}
use mathlib.Core.List.{List}
use Rattle.std.specs.Prelude.{Option, None, Some, Ok, Err, is_some, option_map}
use Rattle.text.specs.Maybe.{bind}
use native.Mathlib.Omega.{arith}
use borrow.Author.Tests.{ltb-false}
use lib.Dec.{ltb}
use lib.ListN.{length}
use Rattle.json_text.specs.Json.{Json, null, bool, number, text as letters, array, object, Elements, skip_blanks, line_value, longest}
use Rattle.json_text.specs.declared.Read.{Read}
use Rattle.json_text.specs.Access.{value_here}
use Rattle.json_text.proofs.AccessLaws.{array_is, line_is}
use Rattle.rule.specs.Limits.{line_limit, text_limit}
use Rattle.rule.specs.Rule.{Value, Topic, Rule, nth, as_array, access_of, users_of, control_of, topic_of, topics_of, rule_in, rule_of}
use Rattle.rule.specs.RuleText.{topics_over, or_not_a_rule, rule_from, read_rule}
use Rattle.rule.specs.Places.{value_of, placed_topic, topic_answer, elements_of, fourth_of}
use Rattle.rule.specs.declared.Refusal.TheVariants.{TooLong}
use Rattle.rule.proofs.RuleLaws.{Stands, nth_stands, topic_is}
use Rattle.rule.proofs.IdentityLaws.{Stands as TextStands, Listed, unlisted}
use Rattle.rule.proofs.StandsLaws.{topic_stands}

-- the text of the topic at a place stands in the line
pub topic_at_stands : (line : List ℕ) (at : ℕ) → Listed (λ (t : Topic). TextStands line t.text) (bind (value_of line at) topic_of)
unfolding value_of bind
topic_at_stands line at = by (value_here line at) refl
  where
    by : (o : Option (Read Json)) → value_here line at ≡ o
        → Listed (λ (t : Topic). TextStands line t.text) (bind (bind o (λ r. Some (record { at = at; value = r.value }))) topic_of)
    by None e = unlisted
    by (Some r) e = topic_stands line (record { at = at; value = r.value }) (record { next = r.next; reads = e })

-- a text of a rule that was read is not over the limit
pub topic_under : (v : Value) (t : Topic) → longest v.value ≤ text_limit → topic_of v ≡ Some t → ltb text_limit (length t.text.text) ≡ false
unfolding topic_answer placed_topic
topic_under v t h e = at (ltb text_limit (length t.text.text)) refl
  where
    is : is_some (placed_topic t) ≡ true
    is = sym (ap (λ (o : Option Topic). is_some (topic_answer o)) e) ∙ (topic_is v h ∙ ap is_some e)

    at : (b : Bool) → ltb text_limit (length t.text.text) ≡ b → b ≡ false
    at true q = absurd (true≢false (sym (rw q at is)))
    at false q = refl

-- what was bound, and what was mapped
pub bound : {A B : Type 0} {b : B} (o : Option A) (f : A → Option B) → bind o f ≡ Some b → (a : A) × (o ≡ Some a) × (f a ≡ Some b)
unfolding bind
bound None f e = let z : ◌≡◌ {A = ℕ} 0 1 = cc in absurd (omega arith)
bound (Some a) f e = (a, refl, e)

pub mapped : {A B : Type 0} {b : B} (o : Option A) (f : A → B) → option_map f o ≡ Some b → (a : A) × (o ≡ Some a) × (f a ≡ b)
mapped None f e = let z : ◌≡◌ {A = ℕ} 0 1 = cc in absurd (omega arith)
mapped (Some a) f e = (a, refl, cc)

pub array-value : (v : Value) {es : Elements} → as_array v ≡ Some es → v.value ≡ array es
unfolding as_array
array-value v {es} = by v.value
  where
    by : (x : Json) → as_array (record { at = v.at; value = x }) ≡ Some es → x ≡ array es
    by null e = let z : ◌≡◌ {A = ℕ} 0 1 = cc in absurd (omega arith)
    by (bool b) e = let z : ◌≡◌ {A = ℕ} 0 1 = cc in absurd (omega arith)
    by (number n) e = let z : ◌≡◌ {A = ℕ} 0 1 = cc in absurd (omega arith)
    by (letters t) e = let z : ◌≡◌ {A = ℕ} 0 1 = cc in absurd (omega arith)
    by (array fs) e = cc
    by (object ms) e = let z : ◌≡◌ {A = ℕ} 0 1 = cc in absurd (omega arith)

-- the topics of a rule are those of the fourth element
pub rule_topics : (es : Elements) {r : Rule} → rule_in es ≡ Some r → topics_of (nth 3 es) ≡ Some r.topics
unfolding rule_in
rule_topics es e =
    let allow = bound (bind (nth 0 es) access_of) _ e in
    let users = bound (bind (nth 1 es) (users_of allow.0)) _ allow.2 in
    let control = bound (control_of (nth 2 es)) _ users.2 in
    let topics = mapped (topics_of (nth 3 es)) _ control.2 in
    topics.1 ∙ ap (λ (r : Rule). Some r.topics) topics.2

-- the fourth element of a line that gives a rule stands at its place, and has the rule's topics
abbrev pub FourthIs : List ℕ → Rule → Option Value → Type 0
FourthIs line r o = Stands line o × (topics_of o ≡ Some r.topics)

pub fourth_is : (line : List ℕ) {r : Rule} → read_rule line ≡ Ok r → FourthIs line r (fourth_of (line_value line))
unfolding read_rule rule_from or_not_a_rule rule_of fourth_of elements_of as_array bind longest
fourth_is line {r} = by_length (ltb line_limit (length line))
  where
    by-elements : (v : Json) → line_value line ≡ Some v → longest v ≤ text_limit → rule_of v ≡ Some r → FourthIs line r (bind (elements_of v) (nth 3))
    by-elements null q l e = let z : ◌≡◌ {A = ℕ} 0 1 = cc in absurd (omega arith)
    by-elements (bool b) q l e = let z : ◌≡◌ {A = ℕ} 0 1 = cc in absurd (omega arith)
    by-elements (number n) q l e = let z : ◌≡◌ {A = ℕ} 0 1 = cc in absurd (omega arith)
    by-elements (letters t) q l e = let z : ◌≡◌ {A = ℕ} 0 1 = cc in absurd (omega arith)
    by-elements (array es) q l e =
        let s = line_is line q in
        let a = array_is line (skip_blanks line 0) s.1 refl in
        (nth_stands line (skip_blanks line 0 + 1) s.0 es 3 a.elements l, rule_topics es e)
    by-elements (object ms) q l e = let z : ◌≡◌ {A = ℕ} 0 1 = cc in absurd (omega arith)

    by_rule_lem : (v : Json) (o : Option Rule) → rule_of v ≡ o → or_not_a_rule o ≡ Ok r → rule_of v ≡ Some r
    by_rule_lem v None q e = let z : ◌≡◌ {A = ℕ} 0 1 = cc in absurd (omega arith)
    by_rule_lem v (Some x) q e = let w : x ≡ r = cc in q ∙ ap Some w

    by-limits : (v : Json) (b d : Bool) → line_value line ≡ Some v → ltb text_limit (longest v) ≡ b → cond (b || d) (Err TooLong) (or_not_a_rule (rule_of v)) ≡ Ok r
        → FourthIs line r (bind (elements_of v) (nth 3))
    by-limits v true d q l e = let z : ◌≡◌ {A = ℕ} 0 1 = cc in absurd (omega arith)
    by-limits v false true q l e = let z : ◌≡◌ {A = ℕ} 0 1 = cc in absurd (omega arith)
    by-limits v false false q l e = by-elements v q (ltb-false text_limit (longest v) l) (by_rule_lem v (rule_of v) refl e)

    by_value : (o : Option Json) → line_value line ≡ o → rule_from o ≡ Ok r → FourthIs line r (fourth_of o)
    by_value None q e = let z : ◌≡◌ {A = ℕ} 0 1 = cc in absurd (omega arith)
    by_value (Some v) q e = by-limits v (ltb text_limit (longest v)) (topics_over v) q refl e

    by_length : (b : Bool) → cond b (Err TooLong) (rule_from (line_value line)) ≡ Ok r → FourthIs line r (fourth_of (line_value line))
    by_length true e = let z : ◌≡◌ {A = ℕ} 0 1 = cc in absurd (omega arith)
    by_length false e = by_value (line_value line) refl e
