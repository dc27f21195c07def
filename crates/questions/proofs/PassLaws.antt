-- Laws of the second reading: a rule's topic that is passed where it stands, a line that is known to be a rule, and lines that all are.
-- Assumes nothing.
use Prim.Native.Nat.{ℕ, suc, ◌+◌, ◌-◌, ◌<◌}
use native.Mathlib.Omega.{arith}
use mathlib.Core.Path.{◌≡◌, refl, sym, ap, ◌∙◌}
use mathlib.Core.Bool.{Bool, true, false, ◌&&◌, ◌||◌, not, cond}
use mathlib.Core.List.{List, [], ◌∷◌}
use Rattle.std.specs.Prelude.{Option, None, Some, Result, Ok, Err}
use Rattle.text.specs.Maybe.{bind}
use lib.Dec.{ltb}
use lib.ListN.{length, take, drop}
use Rattle.text.specs.Text.{same}
use Rattle.topic.specs.Topic.{levels, levels_if, valid_filter, levels_match, checked_levels, tree_match}
use Rattle.json_text.specs.Json.{depth_limit, line_value}
use Rattle.json_text.specs.Access.{next_item}
use Rattle.json_text.specs.Lines.{lines}
use Rattle.json_text.proofs.LineLaws.{lines_here}
use Rattle.json_text.proofs.PlainLaws.{Plain, plain_value}
use Rattle.json_text.proofs.ValueLaws.{value_deeper}
use Rattle.rule.specs.Limits.{text_limit, lines_limit}
use Rattle.rule.specs.Rule as spec
use Rattle.rule.specs.Rule.{Value, is_template, as_text, as_object, topic_of, topic_means}
use Rattle.rule.specs.RuleText.{read_rule, fault_in, text_fault}
use Rattle.rule.specs.declared.Fault.{Fault}
use Rattle.rule.specs.Agreement.{identity_at}
use Rattle.rule.specs.Identity.{Client}
use Rattle.rule.specs.Places.{value_of, placed_rule, fourth_of, rule_answer}
use Rattle.rule.specs.Front.{item_behind, access_of, users_up_to, rest_of, eq_of, EqTo}
use Rattle.json_text.specs.declared.Read.{Read}
use Rattle.rule.specs.declared.Rest.{Rest}
use Rattle.rule.specs.declared.EqText.{EqText}
use Rattle.rule.specs.declared.Refusal.TheVariants.{TooLong}
use Rattle.rule.specs.declared.Users.{Users}
use Rattle.rule.specs.declared.Rule.{Rule}
use Rattle.rule.proofs.OnePassLaws.{value_there, eq_to, eq_string, eq_object, eq_value, eq_topic}
use Rattle.rule.proofs.FrontLaws.{next_behind, read_here, Fronted, front_is, front_told, rest_told}
use Rattle.store.specs.Store.{over}
use Rattle.store.specs.View.{faultless}
use Rattle.questions.specs.Decision.{static_agrees}
use Rattle.questions.specs.Parts.{covers_asked, topics_for, head_at, is_rule, every_rule, topic_agrees_at, text_agrees, eq_text_agrees, passed_topic, some_topic_from}
use Rattle.questions.specs.declared.Asked.{Asked}
use Rattle.questions.specs.declared.Head.{Head}
use Rattle.questions.specs.declared.TopicPassed.{TopicPassed}
use Rattle.questions.specs.declared.TopicPassed.TheVariants.{Agrees as TopicAgrees, Onward}
use Rattle.questions.proofs.HeadLaws.{head_with, head_read}
use Rattle.questions.proofs.DecisionLaws.{LineHere, some_by}
use Rattle.rule.specs.declared.Refusal.{Refusal}

-- ---- a filter as it stands

-- T of a topic whose validity is known
pub known_match : (filter topic : List ℕ) {valid : Bool} → valid ≡ valid_filter topic → levels_match (levels filter) (levels_if valid topic) ≡ tree_match filter topic
unfolding tree_match checked_levels
known_match filter topic e = ap (λ (b : Bool). levels_match (levels filter) (levels_if b topic)) e

module _ (topic line : List ℕ) (at : ℕ) where
  -- a plain string agrees as its text does
  pub plain_agrees : {end : ℕ} → Plain line at end → topic_agrees_at topic line at ≡ text_agrees topic (take (end - (at + 1)) (drop (at + 1) line))
  unfolding topic_agrees_at text_agrees bind topic_of as_object as_text static_agrees topic_means
  plain_agrees {end} p =
      ap (λ (o : Option Value). elim (bind o topic_of) as (λ _. Bool) [ None ↦ false | Some s ↦ not (over text_limit s.text.text) && static_agrees topic (topic_means s) ])
      (value_there depth_limit line at (omega arith) (plain_value depth_limit line at p))
      ∙ (is (is_template t || valid_filter t) ∙ by (is_template t) (valid_filter t) (over text_limit t) (tree_match t topic))
    where
      t : List ℕ
      t = take (end - (at + 1)) (drop (at + 1) line)

      filter : spec.Topic
      filter = record { eq = false; text = record { at = at; text = t } }

      is : (b : Bool)
          → ◌≡◌ {A = Bool} (elim (cond b (Some filter) None) [ None ↦ false | Some s ↦ not (over text_limit s.text.text) && static_agrees topic (topic_means s) ])
          (cond b (not (over text_limit t) && (not (is_template t) && tree_match t topic)) false)
      is true = refl
      is false = refl

      by : (template fine long match : Bool) → cond (template || fine) (not long && (not template && match)) false ≡ (match && (not long && (not template && fine)))
      by true fine true true = refl
      by true fine true false = refl
      by true fine false true = refl
      by true fine false false = refl
      by false true true true = refl
      by false true true false = refl
      by false true false true = refl
      by false true false false = refl
      by false false true true = refl
      by false false true false = refl
      by false false false true = refl
      by false false false false = refl

  -- a topic that is passed
  pub passed_by : {b : Bool} {next : Option ℕ} → topic_agrees_at topic line at ≡ b → next_item line at ≡ next → passed_topic topic line at ≡ cond b TopicAgrees (Onward next)
  unfolding passed_topic
  passed_by e q = λ i. cond (e i) TopicAgrees (Onward (q i))

  pub passed_plain : {end : ℕ} {b : Bool} {next : Option ℕ} → Plain line at end → text_agrees topic (take (end - (at + 1)) (drop (at + 1) line)) ≡ b → item_behind line (end + 1) ≡ next
      → passed_topic topic line at ≡ cond b TopicAgrees (Onward next)
  passed_plain p e q = passed_by (plain_agrees p ∙ e) (next_behind line at (plain_value depth_limit line at p) ∙ q)

-- the quotes of a text under `eq`, and where they stand, for `using`
pub eq_ahead : (line : List ℕ) (at : ℕ) (eq : EqText) → eq_of line at ≡ Some eq → eq.opens < eq.closes
eq_ahead line at eq e = let p = eq_string line at (eq_to line at e) in omega arith

pub eq_within : (line : List ℕ) (at : ℕ) (eq : EqText) → eq_of line at ≡ Some eq → eq.closes < length line
eq_within line at eq e = let p = eq_string line at (eq_to line at e) in omega arith

pub ruleset eq_bounds = (eq_ahead, eq_within)

-- a topic under `eq`
module _ (topic line : List ℕ) (at : ℕ) {opens closes end : ℕ} (q : EqTo line at opens closes end) where
  eq_topic_agrees : topic_agrees_at topic line at ≡ eq_text_agrees topic (take (closes - (opens + 1)) (drop (opens + 1) line))
  unfolding topic_agrees_at eq_text_agrees static_agrees topic_means bind
  eq_topic_agrees =
      let read : bind (value_of line at) topic_of ≡ topic_of (record { at = at; value = eq_object line at q }) =
      ap (λ (o : Option Value). bind o topic_of) (value_there 6 line at (omega arith) (eq_value line at q)) in
      ap (λ (o : Option spec.Topic). elim o as (λ _. Bool) [ None ↦ false | Some s ↦ not (over text_limit s.text.text) && static_agrees topic (topic_means s) ])
      (read ∙ eq_topic line at q)
      ∙ by (is_template t) (over text_limit t) (same t topic)
    where
      t : List ℕ
      t = take (closes - (opens + 1)) (drop (opens + 1) line)

      by : (template long alike : Bool) → (not long && (not template && alike)) ≡ (alike && (not long && not template))
      by true true true = refl
      by true true false = refl
      by true false true = refl
      by true false false = refl
      by false true true = refl
      by false true false = refl
      by false false true = refl
      by false false false = refl

  pub passed_eq : {b : Bool} {next : Option ℕ} → eq_text_agrees topic (take (closes - (opens + 1)) (drop (opens + 1) line)) ≡ b → item_behind line end ≡ next
      → passed_topic topic line at ≡ cond b TopicAgrees (Onward next)
  passed_eq e r = passed_by topic line at (eq_topic_agrees ∙ e) (next_behind line at (value_deeper 6 depth_limit line at (omega arith) (eq_value line at q)) ∙ r)

-- the walk over a rule's topics, by what passing one tells
module _ (topic line : List ℕ) (most turn : ℕ) {place : Option ℕ} {p : ℕ} (h : turn < most) (e : place ≡ Some p) where
  abbrev walked : TopicPassed → Bool
  walked TopicAgrees = true
  walked (Onward next) = some_topic_from topic (most - (turn + 1)) line next

  pub some_passed : {passed : TopicPassed} → passed_topic topic line p ≡ passed → some_topic_from topic (most - turn) line place ≡ walked passed
  unfolding passed_topic
  some_passed q = some_by topic most turn line h e refl ∙ (by (topic_agrees_at topic line p) ∙ ap walked q)
    where
      by : (b : Bool) → (b || some_topic_from topic (most - (turn + 1)) line (next_item line p)) ≡ walked (cond b TopicAgrees (Onward (next_item line p)))
      by true = refl
      by false = refl

-- ---- a line that is a rule

rule_read : (line : List ℕ) → is_rule (read_rule line) ≡ true → (r : spec.Rule) × (read_rule line ≡ Ok r)
unfolding is_rule
rule_read line = by (read_rule line)
  where
    by : (o : Result spec.Rule Refusal) → is_rule o ≡ true → (r : spec.Rule) × (o ≡ Ok r)
    by (Err cause) q = let z : ◌≡◌ {A = ℕ} 0 1 = cc in absurd (omega arith)
    by (Ok r) q = (r, refl)

module _ (asked : Asked) (line : List ℕ) (client : Client) (k : is_rule (read_rule line) ≡ true)
    (access : Read Bool) (users : Read Users) (a : access_of line ≡ Some access) (u : users_up_to line access.value access.next ≡ Some users) where
  abbrev rule : Rule
  rule = placed_rule (fourth_of (line_value line)) (rule_read line k).0

  fronted : Fronted line access.value users.value users.next rule
  fronted = front_is (front_told line a u) (read_here line (rule_read line k).1)

  head_is : (said : Option Bool) → identity_at line users.value client ≡ said
      → head_at client asked line ≡ cond (covers_asked rule.control asked) (head_with access.value (topics_for asked rule.topics) said) None
  unfolding rule_answer
  head_is said q =
      sym (ap (λ (a : Bool). cond (covers_asked rule.control asked) (head_with a (topics_for asked rule.topics) said) None) (sym fronted.allows)
      ∙ head_read asked line client (sym (ap (rule_answer (fourth_of (line_value line))) (rule_read line k).1)) refl refl refl
      (sym q ∙ ap (λ (u : Users). identity_at line u client) (sym fronted.means)))

  -- its users differ
  pub front_differs : identity_at line users.value client ≡ None → head_at client asked line ≡ None
  unfolding head_with
  front_differs q = head_is None q ∙ by (covers_asked rule.control asked)
    where
      by : (b : Bool) → ◌≡◌ {A = Option Head} (cond b None None) None
      by true = refl
      by false = refl

  -- its users agree, and behind them stand this control and these topics
  module _ (flag : Bool) (rest : Rest) (q : identity_at line users.value client ≡ Some flag) (r : rest_of line users.next ≡ Some rest) where
    by_control : (covered : Bool) → covers_asked rest.control asked ≡ covered
        → head_at client asked line ≡ cond covered (Some (record { allow = access.value; superuser = flag; topics = topics_for asked rest.topics })) None
    unfolding head_with
    by_control covered p =
        let are = fronted.rest (rest_told line users.next r) in
        head_is (Some flag) q
        ∙ (λ i. cond (covers_asked (are.0 i) asked) (Some (record { allow = access.value; superuser = flag; topics = topics_for asked (are.1 i) })) None)
        ∙ ap (λ (b : Bool). cond b (Some (record { allow = access.value; superuser = flag; topics = topics_for asked rest.topics })) None) p

    pub front_covers : covers_asked rest.control asked ≡ true → head_at client asked line ≡ Some (record { allow = access.value; superuser = flag; topics = topics_for asked rest.topics })
    front_covers p = by_control true p

    pub front_covers_not : covers_asked rest.control asked ≡ false → head_at client asked line ≡ None
    front_covers_not p = by_control false p

-- the head by the front, for `using`
pub ruleset fronts = (front_differs, front_covers, front_covers_not)

-- ---- lines that are rules

-- the line that the walk has come to, and those behind it
pub every_here : {filters eqs : List ℕ} {c : Client} {asked : Asked} {topic rules : List ℕ} {n at : ℕ} {line : List ℕ} {next : ℕ} → LineHere filters eqs c asked topic rules n at line next
    → every_rule (lines (drop at rules)) ≡ true → (is_rule (read_rule line) ≡ true) × (every_rule (lines (drop next rules)) ≡ true)
unfolding every_rule
every_here {rules = rules} {at = at} {line = line} {next = next} h e =
    by (is_rule (read_rule line)) (every_rule (lines (drop next rules)))
    ((λ i. is_rule (read_rule (h.is i)) && every_rule (lines (drop (h.onward i) rules))) ∙ (ap every_rule (sym (lines_here rules at h.within)) ∙ e))
  where
    by : (a b : Bool) → (a && b) ≡ true → (a ≡ true) × (b ≡ true)
    by true b q = (refl, q)
    by false b q = (q, let z : ◌≡◌ {A = ℕ} 0 1 = cc in absurd (omega arith))

-- a text without a fault
pub fault_every : (n : ℕ) (ls : List (List ℕ)) → fault_in n ls ≡ None → every_rule ls ≡ true
unfolding fault_in every_rule is_rule
fault_every n [] e = refl
fault_every n (line ∷ rest) e = by (read_rule line) e (λ q. fault_every (suc n) rest q)
  where
    by : (o : Result spec.Rule Refusal)
        → ◌≡◌ {A = Option Fault} (elim o [ Err cause ↦ Some (record { cause = cause; line = n }) | Ok r ↦ fault_in (suc n) rest ]) None
        → (fault_in (suc n) rest ≡ None → every_rule rest ≡ true) → (is_rule o && every_rule rest) ≡ true
    by (Err cause) q f = let z : ◌≡◌ {A = ℕ} 0 1 = cc in absurd (omega arith)
    by (Ok r) q f = f q

pub faultless_every : (t : List ℕ) → faultless (text_fault t) ≡ true → every_rule (lines t) ≡ true
unfolding faultless text_fault
faultless_every t = by (ltb lines_limit (length (lines t))) (record { cause = TooLong; line = suc lines_limit })
  where
    none_left : (o : Option Fault) → faultless o ≡ true → o ≡ None
    none_left None q = refl
    none_left (Some x) q = let z : ◌≡◌ {A = ℕ} 0 1 = cc in absurd (omega arith)

    by : (b : Bool) (x : Fault) → faultless (cond b (Some x) (fault_in 1 (lines t))) ≡ true → every_rule (lines t) ≡ true
    by true x q = let z : ◌≡◌ {A = ℕ} 0 1 = cc in absurd (omega arith)
    by false x q = fault_every 1 (lines t) (none_left (fault_in 1 (lines t)) q)
