-- A rule's line before its topics, and a topic at its place. Assumes nothing.
use Prim.Native.Nat.{ℕ}
use mathlib.Core.Path.{◌≡◌, refl, sym, ap, ◌∙◌}
use mathlib.Core.Bool.{Bool, true, false, ◌&&◌, not, cond}
use mathlib.Core.List.{List}
use Rattle.std.specs.Prelude.{Option, None, Some, Ok, Err, Result}
use Rattle.std.specs.Result.{result_ok}
use Rattle.text.specs.Maybe.{bind}
use native.Mathlib.Omega.{arith}
use borrow.Author.Tests.{lt-ltb, le-ltb}
use lib.ListN.{length, take}
use Rattle.text.specs.Text.{same}
use Rattle.topic.specs.Topic.{tree_match}
use Rattle.json_text.specs.Strings.{Decoded, string_at}
use Rattle.json_text.specs.Json.{line_value}
use Rattle.json_text.specs.Access.{string_is, copied}
use Rattle.json_text.specs.declared.DecodeError.{DecodeError}
use Rattle.json_text.specs.declared.DecodeError.TheVariants.{TooLong, NoText}
use Rattle.json_text.proofs.AccessSteps.{is_string}
use Rattle.rule.specs.Limits.{text_limit}
use Rattle.rule.specs.Rule as spec
use Rattle.rule.specs.Rule.{Value, topic_of, topic_means, is_template, means}
use Rattle.rule.specs.RuleText.{read_rule}
use Rattle.rule.specs.Identity.{Client, agrees, superuser, identity}
use Rattle.rule.specs.Agreement.{identity_at}
use Rattle.rule.specs.Places.{value_of, placed_topic, topic_answer, placed_rule, place_of, fourth_of, rule_answer}
use Rattle.rule.specs.declared.Topic.{Topic}
use Rattle.rule.specs.declared.Topic.TheVariants.{Filter, Template, Eq, EqTemplate}
use Rattle.rule.specs.declared.Rule.{Rule}
use Rattle.rule.proofs.DecodeLaws.{Copies, decoded_over, decoded_none}
use Rattle.rule.proofs.IdentityLaws.{Stands, Listed, unlisted, listed}
use Rattle.rule.proofs.StandsLaws.{identity_read}
use Rattle.rule.proofs.FourthLaws.{topic_at_stands}
use Rattle.store.specs.Store.{over}
use Rattle.questions.specs.Decision.{static_agrees}
use Rattle.questions.specs.Parts.{covers_asked, topics_for, head_of, head_at, filter_matches_at, topic_agrees_at}
use Rattle.questions.specs.declared.Asked.{Asked}
use Rattle.questions.specs.declared.Head.{Head}
use Rattle.rule.specs.declared.Refusal.{Refusal}

-- ---- a filter at its place

module _ (topic line : List ℕ) (at : ℕ) where
  filter_is : {o : Option Decoded} → string_at line at ≡ o
      → filter_matches_at topic line at ≡ elim o as (λ _. Bool) [ None ↦ false | Some d ↦ not (over text_limit d.text) && tree_match d.text topic ]
  unfolding filter_matches_at
  filter_is q = λ i. elim (q i) [ None ↦ false | Some d ↦ not (over text_limit d.text) && tree_match d.text topic ]

  -- the string there has at most 256 bytes
  pub filter_within : {d : Decoded} → string_at line at ≡ Some d → over text_limit d.text ≡ false → filter_matches_at topic line at ≡ tree_match d.text topic
  filter_within {d} q e = filter_is q ∙ ap (λ (b : Bool). not b && tree_match d.text topic) e

  -- it was decoded to the front of a buffer of 256 bytes
  pub filter_copied : {after : List ℕ} {n : ℕ} (before : List ℕ) → length before ≡ text_limit → Copies (string_at line at) before after n
      → filter_matches_at topic line at ≡ tree_match (take n after) topic
  filter_copied before size h =
      filter_within h.is (le-ltb text_limit (length h.string.text) (omega (arith, h.long, h.fits)))
      ∙ ap (λ (t : List ℕ). tree_match t topic) (sym h.front)

  -- none of at most 256 bytes stands there
  pub filter_refused : {answer : Result ℕ DecodeError} {cause : DecodeError} → answer ≡ copied text_limit (string_at line at) → answer ≡ Err cause
      → filter_matches_at topic line at ≡ false
  filter_refused {cause = TooLong} p q =
      let h = decoded_over text_limit (string_at line at) p q in
      filter_is h.is ∙ ap (λ (b : Bool). not b && tree_match h.string.text topic) (lt-ltb text_limit (length h.string.text) h.far)
  filter_refused {cause = NoText} p q = filter_is (decoded_none text_limit (string_at line at) p q)

-- ---- a topic at its place

-- what agrees, by what the topic at the place is
unfoldable pub agrees_by : List ℕ → List ℕ → Option Topic → Bool
agrees_by topic line (Some (Filter p)) = filter_matches_at topic line p
agrees_by topic line (Some (Template p)) = false
agrees_by topic line (Some (Eq p)) = string_is line p topic
agrees_by topic line (Some (EqTemplate p)) = false
agrees_by topic line None = false

-- a topic agrees as its place does
pub topic_by : (asked line : List ℕ) (at : ℕ) {answer : Option Topic} → topic_answer (bind (value_of line at) topic_of) ≡ answer
    → topic_agrees_at asked line at ≡ agrees_by asked line answer
unfolding topic_agrees_at topic_answer placed_topic agrees_by static_agrees topic_means
topic_by asked line at e = by (bind (value_of line at) topic_of) (topic_at_stands line at) ∙ ap (agrees_by asked line) e
  where
    within : (t : spec.Topic) → Stands line t.text → over text_limit t.text.text ≡ false → tree_match t.text.text asked ≡ filter_matches_at asked line t.text.at
    within t s q =
        ap (λ (x : List ℕ). tree_match x asked) (sym s.text)
        ∙ sym (filter_within asked line t.text.at s.is (ap (λ (x : List ℕ). over text_limit x) s.text ∙ q))

    equal : (t : spec.Topic) → Stands line t.text → same t.text.text asked ≡ string_is line t.text.at asked
    equal t s = sym (is_string line t.text.at asked s.is ∙ ap (λ (x : List ℕ). same x asked) s.text)

    tests : (t : spec.Topic) → Stands line t.text → (long template eq : Bool) → over text_limit t.text.text ≡ long
        → (not long && (not template && cond eq (same t.text.text asked) (tree_match t.text.text asked)))
        ≡ agrees_by asked line
        (cond long None (cond eq (cond template (Some (EqTemplate t.text.at)) (Some (Eq t.text.at))) (cond template (Some (Template t.text.at)) (Some (Filter t.text.at)))))
    tests t s true template eq q = refl
    tests t s false true true q = refl
    tests t s false true false q = refl
    tests t s false false true q = equal t s
    tests t s false false false q = within t s q

    by : (o : Option spec.Topic) → Listed (λ (t : spec.Topic). Stands line t.text) o
        → elim o as (λ _. Bool) [ None ↦ false | Some t ↦ not (over text_limit t.text.text) && static_agrees asked (topic_means t) ] ≡ agrees_by asked line (topic_answer o)
    by o unlisted = refl
    by o (listed t s) = tests t s (over text_limit t.text.text) (is_template t.text.text) t.eq refl

-- ---- a line before its topics

-- what is answered, by what the rule's users say
unfoldable pub head_with : Bool → Option ℕ → Option Bool → Option Head
head_with allow topics None = None
head_with allow topics (Some flag) = Some (record { allow = allow; superuser = flag; topics = topics })

-- by what `read_rule` answers
module _ (asked : Asked) (line : List ℕ) (client : Client) where
  unfoldable pub head_by : Option Rule → Option Head
  head_by None = None
  head_by (Some r) = cond (covers_asked r.control asked) (head_with r.allow (topics_for asked r.topics) (identity_at line r.users client)) None

  answer_is : (topics : Option Value) (o : Result spec.Rule Refusal) → read_rule line ≡ o
      → head_by (result_ok (rule_answer topics o)) ≡ head_of client asked (place_of topics) o
  unfolding head_of head_by rule_answer placed_rule identity head_with
  answer_is topics (Err cause) e = refl
  answer_is topics (Ok r) e =
      ap (λ (x : Option Bool). cond (covers_asked r.control asked) (head_with r.allow (topics_for asked (place_of topics)) x) None)
      (identity_read line topics r client e)
      ∙ by (covers_asked r.control asked) (agrees (means r) client)
    where
      by : (covered means-it : Bool)
          → cond covered (head_with r.allow (topics_for asked (place_of topics)) (cond means-it (Some (superuser (means r))) None)) None
          ≡ cond (covered && means-it) (Some (record { allow = r.allow; superuser = superuser (means r); topics = topics_for asked (place_of topics) })) None
      by true true = refl
      by true false = refl
      by false m = refl

  module _ {answer : Result Rule Refusal} (e : answer ≡ rule_answer (fourth_of (line_value line)) (read_rule line)) where
    pub head_of_rule : {read : Option Rule} → read ≡ result_ok answer → head_by read ≡ head_at client asked line
    unfolding head_at
    head_of_rule is = ap head_by (is ∙ ap result_ok e) ∙ answer_is (fourth_of (line_value line)) (read_rule line) refl

    -- a rule was read, and covers what is asked or not
    pub head_read : {r : Rule} {covered : Bool} {topics : Option ℕ} {said : Option Bool}
        → Some r ≡ result_ok answer → covered ≡ covers_asked r.control asked → topics ≡ topics_for asked r.topics → said ≡ identity_at line r.users client
        → cond covered (head_with r.allow topics said) None ≡ head_at client asked line
    unfolding head_by
    head_read {r = r} is p t q = (λ i. cond (p i) (head_with r.allow (t i) (q i)) None) ∙ head_of_rule is
