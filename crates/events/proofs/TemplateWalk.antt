-- The templates of a rule text by places: a topic at its place, the walk over a line's topics and over the lines, and what filling one answers.
-- Assumes nothing.
use Prim.Native.Nat.{ℕ, zero, suc, ◌+◌, ◌-◌, ◌≤◌, ◌<◌}
use mathlib.Core.Path.{◌≡◌, refl, sym, ap, subst, ◌∙◌}
use mathlib.Core.Bool.{Bool, true, false, ◌&&◌, not, cond, or-false}
use mathlib.Core.List.{List, [], ◌∷◌, ◌++◌, map}
use Rattle.std.specs.Prelude.{Option, None, Some, Ok, Err, Result}
use Rattle.std.specs.Option.{option_map}
use Rattle.std.specs.Result.{result_ok}
use Rattle.text.specs.Maybe.{bind}
use native.Mathlib.Omega.{arith}
use borrow.Author.Tests.{le-leb, lt-leb, ltb-true, ltb-false}
use lib.Dec.{leb, ltb}
use lib.ListN.{length, take, drop}
use Rattle.text.proofs.Laws.{written-take}
use Rattle.json_text.specs.Strings.{string_at}
use Rattle.json_text.specs.Json.{Elements, no_element, element, depth_limit, line_value, longest, longest_element}
use Rattle.json_text.specs.Lines.{line_at, next_line}
use Rattle.json_text.proofs.ValueLaws.{value_next}
use Rattle.json_text.proofs.AccessLaws.{element_place, ElementsIn, array_is}
use Rattle.json_text.proofs.LineLaws.{lines_here, lines_past, line_within, next_after}
use Rattle.table.specs.Table.{some_row}
use Rattle.rule.specs.Limits.{text_limit, id_limit}
use Rattle.rule.specs.Rule as spec
use Rattle.rule.specs.Rule.{Value, Rule, TopicOf, means, topic_means, as_array, is_template, topic_of, topics_in, topics_of}
use Rattle.rule.specs.Fill.{fill}
use Rattle.rule.specs.RuleText.{read_rule, rule_on, rules_of, Filled, filled_topics, listed, filled_rules, filled}
use Rattle.rule.specs.Places.{value_of, placed_topic, topic_answer, place_of, fourth_of, rule_answer, placed_rule, filling, filled_into, filling_at, filled_at}
use Rattle.rule.specs.declared.Rule.{Rule as PlacedRule}
use Rattle.rule.specs.declared.Topic.{Topic}
use Rattle.rule.specs.declared.Topic.TheVariants.{Filter, Template, Eq, EqTemplate}
use Rattle.rule.proofs.FillLaws.{fillable_fits}
use Rattle.rule.proofs.RuleLaws.{Stands, value-stands}
use Rattle.rule.proofs.IdentityLaws.{Stands as TextStands, Listed as OrNone, unlisted, listed as is-listed}
use Rattle.rule.proofs.StandsLaws.{fills_topic}
use Rattle.rule.proofs.FourthLaws.{topic_at_stands, topic_under, bound, mapped, array-value, FourthIs, fourth_is}
use Rattle.store.specs.Store.{over}
use Rattle.events.specs.Templates.{first_of, first_in, first_topic, next_topic, if_template, template_at, filled_as, topic_filling, topic_filled, filled_template, filled_from}
use Rattle.events.specs.declared.FilledTopic.{FilledTopic}
use Rattle.events.specs.declared.FilledTopic.TheVariants.{Static, TooLong as FillsOver, Filter as FilterOf, Eq as EqOf}
use Rattle.rule.specs.declared.Refusal.{Refusal}

-- ---- the first topic, by what `read_rule` answers

unfoldable pub first_by : List ℕ → Option PlacedRule → Option ℕ
first_by line None = None
first_by line (Some r) = first_of line r.topics

pub first_by_lem : (line : List ℕ) {answer : Result PlacedRule Refusal} {read : Option PlacedRule}
    → answer ≡ rule_answer (fourth_of (line_value line)) (read_rule line) → result_ok answer ≡ read → first_topic line ≡ first_by line read
unfolding first_topic first_in first_by rule_answer placed_rule
first_by_lem line e is = by (read_rule line) ∙ ap (first_by line) (sym (ap result_ok e) ∙ is)
  where
    by : (o : Result Rule Refusal) → first_in line o ≡ first_by line (result_ok (rule_answer (fourth_of (line_value line)) o))
    by (Err cause) = refl
    by (Ok r) = refl

-- ---- a topic at its place

module _ (line buffer id : List ℕ) (name : Option (List ℕ)) where
  -- what filling answers and leaves in the buffer, by what the topic at the place is
  unfoldable pub fills_by : Option Topic → FilledTopic
  fills_by (Some (Filter p)) = Static
  fills_by (Some (Template p)) = filled_as false (filling_at (length buffer) (string_at line p) id name)
  fills_by (Some (Eq p)) = Static
  fills_by (Some (EqTemplate p)) = filled_as true (filling_at (length buffer) (string_at line p) id name)
  fills_by None = Static

  unfoldable pub leaves_by : Option Topic → List ℕ
  leaves_by (Some (Filter p)) = buffer
  leaves_by (Some (Template p)) = filled_at buffer (string_at line p) id name
  leaves_by (Some (Eq p)) = buffer
  leaves_by (Some (EqTemplate p)) = filled_at buffer (string_at line p) id name
  leaves_by None = buffer

  -- what `fill_topic` answers for a topic at a place, and leaves in the buffer
  abbrev pub FillsTopic : ℕ → FilledTopic → List ℕ → Type 0
  FillsTopic at answer after = (answer ≡ topic_filling (length buffer) id name (template_at line at)) × (after ≡ topic_filled buffer id name (template_at line at))

  -- filling at a place is by what stands there
  pub fills_by_lem : (at : ℕ) {answer : Option Topic} → topic_answer (bind (value_of line at) topic_of) ≡ answer → FillsTopic at (fills_by answer) (leaves_by answer)
  unfolding template_at if_template topic_means topic_answer placed_topic topic_filling topic_filled fills_by leaves_by bind
  fills_by_lem at e = (ap fills_by (sym e) ∙ whole.0, ap leaves_by (sym e) ∙ whole.1)
    where
      tests : (t : spec.Topic) → TextStands line t.text → (long template eq : Bool)
          → (fills_by
          (cond long None (cond eq (cond template (Some (EqTemplate t.text.at)) (Some (Eq t.text.at))) (cond template (Some (Template t.text.at)) (Some (Filter t.text.at)))))
          ≡ topic_filling (length buffer) id name (cond (not long && template) (Some (record { eq = eq; text = t.text.text })) None))
          × (leaves_by
          (cond long None (cond eq (cond template (Some (EqTemplate t.text.at)) (Some (Eq t.text.at))) (cond template (Some (Template t.text.at)) (Some (Filter t.text.at)))))
          ≡ topic_filled buffer id name (cond (not long && template) (Some (record { eq = eq; text = t.text.text })) None))
      tests t s true template eq = (refl, refl)
      tests t s false true true = let f = fills_topic line buffer t.text id name s in (ap (filled_as true) f.0, f.1)
      tests t s false true false = let f = fills_topic line buffer t.text id name s in (ap (filled_as false) f.0, f.1)
      tests t s false false true = (refl, refl)
      tests t s false false false = (refl, refl)

      by : (o : Option spec.Topic) → OrNone (λ (t : spec.Topic). TextStands line t.text) o
          → (fills_by (topic_answer o) ≡ topic_filling (length buffer) id name (bind o (λ t. if_template (topic_means t))))
          × (leaves_by (topic_answer o) ≡ topic_filled buffer id name (bind o (λ t. if_template (topic_means t))))
      by o unlisted = (refl, refl)
      by o (is-listed t s) = tests t s (over text_limit t.text.text) (is_template t.text.text) t.eq

      whole : (fills_by (topic_answer (bind (value_of line at) topic_of)) ≡ topic_filling (length buffer) id name (template_at line at))
          × (leaves_by (topic_answer (bind (value_of line at) topic_of)) ≡ topic_filled buffer id name (template_at line at))
      whole = by (bind (value_of line at) topic_of) (topic_at_stands line at)

  -- where a template stands
  pub fills_template : (at : ℕ) (eq : Bool) (p : ℕ) {found : Option Topic} {told : Option ℕ} {answer : FilledTopic} {after : List ℕ}
      → found ≡ topic_answer (bind (value_of line at) topic_of) → found ≡ cond eq (Some (EqTemplate p)) (Some (Template p))
      → told ≡ filling_at (length buffer) (string_at line p) id name → after ≡ filled_at buffer (string_at line p) id name → answer ≡ filled_as eq told
      → FillsTopic at answer after
  unfolding fills_by leaves_by
  fills_template at true p e is t w a = let f = fills_by_lem at (sym e ∙ is) in (a ∙ (ap (filled_as true) t ∙ f.0), w ∙ f.1)
  fills_template at false p e is t w a = let f = fills_by_lem at (sym e ∙ is) in (a ∙ (ap (filled_as false) t ∙ f.0), w ∙ f.1)

  -- where no topic stands, or one that is no template
  pub fills_nowhere : (at : ℕ) {found : Option Topic} → found ≡ topic_answer (bind (value_of line at) topic_of) → found ≡ None → FillsTopic at Static buffer
  unfolding fills_by leaves_by
  fills_nowhere at e is = fills_by_lem at (sym e ∙ is)

  pub fills_none : (at : ℕ) (t : Topic) {found : Option Topic} → found ≡ topic_answer (bind (value_of line at) topic_of) → found ≡ Some t
      → ((p : ℕ) → t ≡ Template p → ⊥) → ((p : ℕ) → t ≡ EqTemplate p → ⊥) → FillsTopic at Static buffer
  unfolding fills_by leaves_by
  fills_none at (Filter p) e is m q = fills_by_lem at (sym e ∙ is)
  fills_none at (Template p) e is m q = absurd (m p refl)
  fills_none at (Eq p) e is m q = fills_by_lem at (sym e ∙ is)
  fills_none at (EqTemplate p) e is m q = absurd (q p refl)

-- ---- the topics of a rule that was read

-- so it is a template at its place if it is one
pub template_here : (line : List ℕ) (v : Value) (t : spec.Topic) → Stands line (Some v) → topic_of v ≡ Some t
    → template_at line v.at ≡ cond (is_template (topic_means t).text) (Some (topic_means t)) None
unfolding template_at if_template bind topic_means
template_here line v t h e =
    let is = ap (λ (o : Option Value). bind o topic_of) (value-stands line v h) ∙ e in
    ap (λ (o : Option spec.Topic). bind o (λ t. if_template (topic_means t))) is
    ∙ ap (λ (b : Bool). cond (not b && is_template t.text.text) (Some (topic_means t)) None) (topic_under v t h.2 e)

-- ---- the walk over a line's topics

module _ (n : ℕ) (id : List ℕ) (name : Option (List ℕ)) (line : List ℕ) where
  pub walk_step : (b : Bool) (t : TopicOf (List ℕ)) (rest : List Filled)
      → filled_template n id name (cond b (Some t) None) ++ rest ≡ cond b (record { rule = n; eq = t.eq; text = fill t.text id name } ∷ rest) rest
  unfolding filled_template
  walk_step true t rest = refl
  walk_step false t rest = refl

  -- the templates by their places are those of the tree, with any fuel that reaches the end
  pub walk : (most low high : ℕ) (es : Elements) (ts : List spec.Topic) → ElementsIn line low high es → high - low ≤ most → longest_element es ≤ text_limit
      → topics_in es ≡ Some ts → filled_from most n id name line (element_place es) ≡ filled_topics n id name (map topic_means ts)
  unfolding filled_from element_place topics_in longest_element filled_topics next_topic
  walk zero low high no_element ts h k l e = let all : [] ≡ ts = cc in ap (λ (us : List spec.Topic). filled_topics n id name (map topic_means us)) all
  walk (suc most) low high no_element ts h k l e = let all : [] ≡ ts = cc in ap (λ (us : List spec.Topic). filled_topics n id name (map topic_means us)) all
  walk zero low high (element at value rest) ts h k l e = absurd (omega (arith, value_next depth_limit line at h.2.reads, h.1, h.2.before))
  walk (suc most) low high (element at value rest) ts h k l e =
      let t = bound (topic_of (record { at = at; value = value })) _ e in
      let us = mapped (topics_in rest) _ t.2 in
      let here = template_here line (record { at = at; value = value }) t.0 (h.0, h.2.reads, omega arith) t.1 in
      let onward = walk most h.0 high rest us.0 h.3 (omega (arith, value_next depth_limit line at h.2.reads, h.1, h.2.before)) (omega arith) us.1 in
      (λ i. filled_template n id name (here i) ++ (ap (filled_from most n id name line) h.2.onward ∙ onward) i)
      ∙ (walk_step (is_template (topic_means t.0).text) (topic_means t.0) (filled_topics n id name (map topic_means us.0))
      ∙ ap (λ (us : List spec.Topic). filled_topics n id name (map topic_means us)) us.2)

  pub walk_none : (most : ℕ) → filled_from most n id name line None ≡ []
  unfolding filled_from
  walk_none zero = refl
  walk_none (suc most) = refl

  -- those of the topics that a rule may list
  abbrev pub listed_of : Option (List spec.Topic) → List Filled
  listed_of o = filled_topics n id name (elim (option_map (map topic_means) o) as (λ _. List (TopicOf (List ℕ))) [ None ↦ [] | Some topics ↦ topics ])

  pub walk_fourth : (most : ℕ) (r : Rule) (o : Option Value) → length line ≤ most → FourthIs line r o
      → filled_from most n id name line (first_of line (place_of o)) ≡ filled_topics n id name (listed (Some (means r)))
  unfolding first_of place_of topics_of means longest listed filled_topics
  walk_fourth most r None k h =
      let all : None ≡ r.topics = cc in
      walk_none most ∙ ap listed_of all
  walk_fourth most r (Some v) k h =
      let es = bound (as_array v) _ h.1 in
      let ts = mapped (topics_in es.0) _ es.2 in
      let is = array-value v es.1 in
      let a = array_is line v.at h.0.1 is in
      let long : longest_element es.0 ≤ text_limit = rw is at h.0.2 in
      let all = walk most (v.at + 1) h.0.0 es.0 ts.0 a.elements (omega (arith, value_next depth_limit line v.at h.0.1)) long ts.1 in
      ap (filled_from most n id name line) a.first
      ∙ (all
      ∙ ap listed_of ts.2)

  -- the templates of a line by their places are those of its rule, with any fuel from the line's length on
  pub walk_line : (most : ℕ) → length line ≤ most → filled_from most n id name line (first_topic line) ≡ filled_topics n id name (listed (rule_on (read_rule line)))
  unfolding first_topic first_in rule_on listed filled_topics
  walk_line most k = by (read_rule line) refl
    where
      by : (o : Result Rule Refusal) → read_rule line ≡ o → filled_from most n id name line (first_in line o) ≡ filled_topics n id name (listed (rule_on o))
      by (Err cause) e = walk_none most
      by (Ok r) e = walk_fourth most r (fourth_of (line_value line)) k (fourth_is line e)

  -- one topic of the walk
  pub walk_topic : (most : ℕ) {place : Option ℕ} {p : ℕ} → 0 < most → place ≡ Some p
      → filled_from most n id name line place ≡ filled_template n id name (template_at line p) ++ filled_from (most - 1) n id name line (next_topic line p)
  unfolding filled_from
  walk_topic most {p = p} h e = ap (filled_from most n id name line) e ∙ by most h
    where
      by : (m : ℕ) → 0 < m → filled_from m n id name line (Some p) ≡ filled_template n id name (template_at line p) ++ filled_from (m - 1) n id name line (next_topic line p)
      by zero k = absurd (omega arith)
      by (suc m) k = let less : m ≡ suc m - 1 = omega arith in λ i. filled_template n id name (template_at line p) ++ filled_from (less i) n id name line (next_topic line p)

  -- no topic is left
  pub walk_end : (most : ℕ) {place : Option ℕ} → place ≡ None → filled_from most n id name line place ≡ []
  walk_end most e = ap (filled_from most n id name line) e ∙ walk_none most

  pub walk_out : (most : ℕ) (place : Option ℕ) → most ≤ 0 → filled_from most n id name line place ≡ []
  unfolding filled_from
  walk_out most place h = let none_left : most ≡ 0 = omega arith in rw none_left

-- ---- the walk over the lines

-- the templates of the lines from a place on, counted from n
unfoldable pub filled_on : ℕ → List ℕ → Option (List ℕ) → List ℕ → ℕ → List Filled
filled_on n id name text at = filled_rules n id name (rules_of (drop at text))

module _ (n : ℕ) (id : List ℕ) (name : Option (List ℕ)) (text : List ℕ) where
  pub on_start : filled_on 0 id name text 0 ≡ filled text id name
  unfolding filled_on filled
  on_start = refl

  module _ (at : ℕ) where
    -- the line at the place, and those behind it
    pub on_rule : at < length text
        → filled_on n id name text at ≡ filled_topics n id name (listed (rule_on (read_rule (line_at text at)))) ++ filled_on (suc n) id name text (next_line text at)
    unfolding filled_on filled_rules rules_of
    on_rule h = ap (λ (ls : List (List ℕ)). filled_rules n id name (map (λ line. rule_on (read_rule line)) ls)) (lines_here text at h)

    -- the line by the places of its topics, with any fuel from the text's length on
    pub on_line_lem : (most : ℕ) → at < length text → length text ≤ most
        → filled_on n id name text at ≡ filled_from most n id name (line_at text at) (first_topic (line_at text at)) ++ filled_on (suc n) id name text (next_line text at)
    on_line_lem most h k =
        let within = line_within text at (omega arith) in
        on_rule h ∙ ap (λ (fs : List Filled). fs ++ filled_on (suc n) id name text (next_line text at)) (sym (walk_line n id name (line_at text at) most (omega arith)))

    -- no line is left
    pub on_past : length text ≤ at → filled_on n id name text at ≡ []
    unfolding filled_on filled_rules rules_of
    on_past h = ap (λ (ls : List (List ℕ)). filled_rules n id name (map (λ line. rule_on (read_rule line)) ls)) (lines_past text at h)

-- the next line is nearer to the end
pub next_less : (text : List ℕ) (at : ℕ) {next : ℕ} → at < length text → next ≡ next_line text at → length text - next < length text - at
next_less text at h e = let after = next_after text at h in omega arith

-- ---- a text over 256 after both replacements

abbrev pub is_long : Filled → Bool
is_long f = over text_limit f.text

-- what `fill_topic` answers of it
unfoldable pub is_over : FilledTopic → Bool
is_over Static = false
is_over FillsOver = true
is_over (FilterOf n) = false
is_over (EqOf n) = false

pub over_is : {t : FilledTopic} → t ≡ FillsOver → is_over t ≡ true
unfolding is_over
over_is e = ap is_over e

pub over_not : (t : FilledTopic) → (t ≡ FillsOver → ⊥) → is_over t ≡ false
unfolding is_over
over_not Static h = refl
over_not FillsOver h = absurd (h refl)
over_not (FilterOf n) h = refl
over_not (EqOf n) h = refl

-- a template of at most 256 bytes, filled with an id of at most 64 into 256 bytes, is too long exactly if its text is over 256
pub filling-over : (eq : Bool) (template id : List ℕ) (name : Option (List ℕ)) → length id ≤ id_limit → over text_limit template ≡ false
    → is_over (filled_as eq (filling text_limit template id name)) ≡ over text_limit (fill template id name)
unfolding filling filled_as is_over
filling-over eq template id name h e =
    ap (λ (b : Bool). is_over (filled_as eq (cond (b && leb (length (fill template id name)) text_limit) (Some (length (fill template id name))) None)))
    (fillable_fits template id (ltb-false text_limit (length template) e) h)
    ∙ by eq (ltb text_limit (length (fill template id name))) refl
  where
    by : (eq b : Bool) → ltb text_limit (length (fill template id name)) ≡ b
        → is_over (filled_as eq (cond (leb (length (fill template id name)) text_limit) (Some (length (fill template id name))) None)) ≡ b
    by true true q = rw (lt-leb (length (fill template id name)) text_limit (ltb-true text_limit (length (fill template id name)) q))
    by false true q = rw (lt-leb (length (fill template id name)) text_limit (ltb-true text_limit (length (fill template id name)) q))
    by true false q = rw (le-leb (length (fill template id name)) text_limit (ltb-false text_limit (length (fill template id name)) q))
    by false false q = rw (le-leb (length (fill template id name)) text_limit (ltb-false text_limit (length (fill template id name)) q))

pub topic_over : (n : ℕ) (id : List ℕ) (name : Option (List ℕ)) (line : List ℕ) (p : ℕ) {room : ℕ} {answer : FilledTopic} → length id ≤ id_limit → room ≡ text_limit
    → answer ≡ topic_filling room id name (template_at line p) → some_row is_long (filled_template n id name (template_at line p)) ≡ is_over answer
unfolding template_at if_template topic_filling filled_template is_over some_row bind
topic_over n id name line p h whole told =
    by (bind (value_of line p) topic_of) ∙ sym (ap is_over (told ∙ ap (λ (room : ℕ). topic_filling room id name (template_at line p)) whole))
  where
    tests : (t : TopicOf (List ℕ)) (long template : Bool) → over text_limit t.text ≡ long
        → some_row is_long (filled_template n id name (cond (not long && template) (Some t) None)) ≡ is_over (topic_filling text_limit id name (cond (not long && template) (Some t) None))
    tests t true template q = refl
    tests t false true q = or-false (over text_limit (fill t.text id name)) ∙ sym (filling-over t.eq t.text id name h q)
    tests t false false q = refl

    by : (o : Option spec.Topic)
        → some_row is_long (filled_template n id name (bind o (λ t. if_template (topic_means t)))) ≡ is_over (topic_filling text_limit id name (bind o (λ t. if_template (topic_means t))))
    by None = refl
    by (Some t) = tests (topic_means t) (over text_limit (topic_means t).text) (is_template (topic_means t).text) refl

-- a topic brings no filled template, or one whose text stands at the buffer's front
pub data Brings (n : ℕ) (answer : FilledTopic) (after : List ℕ) : List Filled → Type 0 where
  brings_none : answer ≡ Static → Brings n answer after []
  brings_filter : (m : ℕ) → answer ≡ FilterOf m → Brings n answer after (record { rule = n; eq = false; text = take m after } ∷ [])
  brings_eq : (m : ℕ) → answer ≡ EqOf m → Brings n answer after (record { rule = n; eq = true; text = take m after } ∷ [])

-- what `fill_topic` answers and leaves in 256 bytes, where the text is not over 256
pub topic_brings : (n : ℕ) (id : List ℕ) (name : Option (List ℕ)) (line : List ℕ) (p : ℕ) (buffer : List ℕ) {answer : FilledTopic} {after : List ℕ}
    → length id ≤ id_limit → length buffer ≡ text_limit → answer ≡ topic_filling (length buffer) id name (template_at line p)
    → after ≡ topic_filled buffer id name (template_at line p) → is_over answer ≡ false
    → Brings n answer after (filled_template n id name (template_at line p))
unfolding template_at if_template topic_filling topic_filled filled_template filling filled_into filled_as is_over bind
topic_brings n id name line p buffer {answer} {after} h size = by (bind (value_of line p) topic_of)
  where
    text_over : (template : List ℕ) (eq : Bool) → over text_limit template ≡ false → answer ≡ filled_as eq (filling (length buffer) template id name) → is_over answer ≡ false
        → length (fill template id name) ≤ text_limit
    text_over template eq q a o =
        ltb-false text_limit (length (fill template id name))
        (sym (filling-over eq template id name h q) ∙ (sym (ap is_over (a ∙ ap (λ (room : ℕ). filled_as eq (filling room template id name)) size)) ∙ o))

    fits : (template : List ℕ) (eq : Bool) → over text_limit template ≡ false → length (fill template id name) ≤ text_limit
        → filled_as eq (filling (length buffer) template id name) ≡ cond eq (EqOf (length (fill template id name))) (FilterOf (length (fill template id name)))
    fits template eq q l =
        rw (fillable_fits template id (ltb-false text_limit (length template) q) h, le-leb (length (fill template id name)) (length buffer) (omega arith))

    front : (template : List ℕ) → over text_limit template ≡ false → length (fill template id name) ≤ text_limit → after ≡ filled_into buffer template id name
        → take (length (fill template id name)) after ≡ fill template id name
    front template q l w =
        rw (w, fillable_fits template id (ltb-false text_limit (length template) q) h) (written-take (fill template id name) buffer (omega arith))

    tests : (template : List ℕ) (eq long is-template : Bool) → over text_limit template ≡ long
        → answer ≡ topic_filling (length buffer) id name (cond (not long && is-template) (Some (record { eq = eq; text = template })) None)
        → after ≡ topic_filled buffer id name (cond (not long && is-template) (Some (record { eq = eq; text = template })) None) → is_over answer ≡ false
        → Brings n answer after (filled_template n id name (cond (not long && is-template) (Some (record { eq = eq; text = template })) None))
    tests template eq true is-template q a w o = brings_none a
    tests template eq false false q a w o = brings_none a
    tests template true false true q a w o =
        let l = text_over template true q a o in
        subst (λ (x : List ℕ). Brings n answer after (record { rule = n; eq = true; text = x } ∷ [])) (front template q l w)
        (brings_eq (length (fill template id name)) (a ∙ fits template true q l))
    tests template false false true q a w o =
        let l = text_over template false q a o in
        subst (λ (x : List ℕ). Brings n answer after (record { rule = n; eq = false; text = x } ∷ [])) (front template q l w)
        (brings_filter (length (fill template id name)) (a ∙ fits template false q l))

    by : (o : Option spec.Topic) → answer ≡ topic_filling (length buffer) id name (bind o (λ t. if_template (topic_means t)))
        → after ≡ topic_filled buffer id name (bind o (λ t. if_template (topic_means t))) → is_over answer ≡ false
        → Brings n answer after (filled_template n id name (bind o (λ t. if_template (topic_means t))))
    by None a w o = brings_none a
    by (Some t) a w o = tests (topic_means t).text (topic_means t).eq (over text_limit (topic_means t).text) (is_template (topic_means t).text) refl a w o
