-- Laws of the decision on a rule text and used rows: the steps of the loops of `eq_row_agrees`, `filter_row_agrees` and `deciding_rule`.
-- Assumes nothing.
use Prim.Native.Nat.{ℕ, zero, suc, ◌+◌, ◌-◌, ◌≤◌, ◌<◌}
use mathlib.Core.Path.{◌≡◌, refl, sym, ap, subst, ◌∙◌}
use mathlib.Core.Bool.{Bool, true, false, ◌&&◌, ◌||◌, not, cond, and_assoc, or-true}
use mathlib.Core.List.{List, [], ◌∷◌, map}
use Rattle.std.specs.Prelude.{Option, None, Some, Result, Ok, Err}
use Rattle.std.specs.Option.{option_map}
use Rattle.std.specs.List.{list_any}
use Rattle.text.specs.Maybe.{bind}
use native.Mathlib.Nat.{add-sub_cancel}
use native.Mathlib.Numerals.{add-one}
use native.Mathlib.Omega.{arith}
use lib.ListN.{length, drop}
use Rattle.json_text.specs.Json.{Elements, no_element, element, depth_limit, line_value, longest, longest_element}
use Rattle.json_text.specs.Access.{first_item, next_item, places, places_from}
use Rattle.json_text.specs.Lines.{line_at, line_behind, next_line}
use Rattle.json_text.proofs.ValueLaws.{value_next}
use Rattle.json_text.proofs.AccessLaws.{element_place, ElementsIn, array_is}
use Rattle.json_text.proofs.PlaceLaws.{places_few}
use Rattle.json_text.proofs.LineLaws.{lines_here, lines_past, next_within, next_after, next_from_end}
use Rattle.table.specs.Table.{some_row}
use Rattle.rule.specs.Limits.{text_limit}
use Rattle.rule.specs.Rule.{Value, Topic, Rule, Meaning, means, topic_means, as_array, topic_of, topics_in, topics_of}
use Rattle.rule.specs.RuleText.{read_rule, rule_on, rules_of}
use Rattle.rule.specs.Identity.{Client, agrees, superuser}
use Rattle.rule.specs.Places.{place_of, fourth_of}
use Rattle.rule.specs.declared.Control.{Control}
use Rattle.rule.specs.declared.Control.TheVariants.{All as AllControl, Connect as ConnectControl, Publish as PublishControl, Subscribe as SubscribeControl, Pubsub}
use Rattle.rule.proofs.RuleLaws.{Stands, value-stands}
use Rattle.rule.proofs.FourthLaws.{topic_under, bound, mapped, array-value, FourthIs, fourth_is}
use Rattle.store.specs.Store.{over, FilterRow, EqRow}
use Rattle.questions.specs.Decision.{covers, static_agrees, eq_agrees, filter_agrees, topics_agree, wish_agrees, rule_agrees, first_from}
use Rattle.questions.specs.Parts.{wish_of, filter_rows, eq_rows, covers_asked, topics_for, head_of, head_at, topic_agrees_at, some_topic_from, deciding_of, deciding}
use Rattle.questions.specs.declared.Asked.{Asked}
use Rattle.questions.specs.declared.Asked.TheVariants.{Connect, Subscribe, Publish}
use Rattle.questions.specs.declared.Head.{Head}
use Rattle.rule.specs.declared.Refusal.{Refusal}

-- ---- the topics of a rule that was read

topic_here : (topic line : List ℕ) (v : Value) (t : Topic) → Stands line (Some v) → topic_of v ≡ Some t → topic_agrees_at topic line v.at ≡ static_agrees topic (topic_means t)
unfolding topic_agrees_at bind
topic_here topic line v t h e =
    let is = ap (λ (o : Option Value). bind o topic_of) (value-stands line v h) ∙ e in
    ap (λ (o : Option Topic). elim o as (λ o. Bool) [ None ↦ false | Some t ↦ not (over text_limit t.text.text) && static_agrees topic (topic_means t) ]) is
    ∙ ap (λ (b : Bool). not b && static_agrees topic (topic_means t)) (topic_under v t h.2 e)

-- the topics by their places agree as those of the tree
some-topic : (topic line : List ℕ) (most low high : ℕ) (es : Elements) (ts : List Topic) → ElementsIn line low high es → high - low ≤ most → longest_element es ≤ text_limit
    → topics_in es ≡ Some ts → some_topic_from topic most line (element_place es) ≡ some_row (static_agrees topic) (map topic_means ts)
unfolding some_topic_from element_place topics_in longest_element some_row
some-topic topic line zero low high no_element ts h k l e = let all : [] ≡ ts = cc in ap (λ (us : List Topic). some_row (static_agrees topic) (map topic_means us)) all
some-topic topic line (suc most) low high no_element ts h k l e = let all : [] ≡ ts = cc in ap (λ (us : List Topic). some_row (static_agrees topic) (map topic_means us)) all
some-topic topic line zero low high (element at value rest) ts h k l e = absurd (omega (arith, value_next depth_limit line at h.2.reads, h.1, h.2.before))
some-topic topic line (suc most) low high (element at value rest) ts h k l e =
    let t = bound (topic_of (record { at = at; value = value })) _ e in
    let us = mapped (topics_in rest) _ t.2 in
    let here = topic_here topic line (record { at = at; value = value }) t.0 (h.0, h.2.reads, omega arith) t.1 in
    let onward = some-topic topic line most h.0 high rest us.0 h.3 (omega (arith, value_next depth_limit line at h.2.reads, h.1, h.2.before)) (omega arith) us.1 in
    (λ i. here i || (ap (some_topic_from topic most line) h.2.onward ∙ onward) i) ∙ ap (λ (us : List Topic). some_row (static_agrees topic) (map topic_means us)) us.2

-- ---- one line

module _ (some_filter : (FilterRow → Bool) → Bool) (some_eq : (EqRow → Bool) → Bool) (n : ℕ) (id topic line : List ℕ) where
  -- the topics that a line has left to agree, by their place
  unfoldable pub topics_hold : Option ℕ → Bool
  topics_hold None = true
  topics_hold (Some t) =
      some_topic_from topic (length line) line (first_item 0x5b 0x5d line t) || (some_eq (eq_agrees n topic) || some_filter (filter_agrees n id topic))

  topics_hold_lem : (r : Rule) (o : Option Value) → FourthIs line r o → topics_agree some_filter some_eq n id topic (means r).topics ≡ topics_hold (place_of o)
  unfolding topics_hold place_of topics_of topics_agree means longest
  topics_hold_lem r None h =
      let all : None ≡ r.topics = cc in
      ap (λ (o : Option (List Topic)). topics_agree some_filter some_eq n id topic (option_map (map topic_means) o)) (sym all)
  topics_hold_lem r (Some v) h =
      let es = bound (as_array v) _ h.1 in
      let ts = mapped (topics_in es.0) _ es.2 in
      let is = array-value v es.1 in
      let a = array_is line v.at h.0.1 is in
      let long : longest_element es.0 ≤ text_limit = rw is at h.0.2 in
      let walk = some-topic topic line (length line) (v.at + 1) h.0.0 es.0 ts.0 a.elements (omega (arith, value_next depth_limit line v.at h.0.1)) long ts.1 in
      ap (λ (o : Option (List Topic)). topics_agree some_filter some_eq n id topic (option_map (map topic_means) o)) (sym ts.2)
      ∙ (λ i. sym (ap (some_topic_from topic (length line) line) a.first ∙ walk) i || (some_eq (eq_agrees n topic) || some_filter (filter_agrees n id topic)))

  wish_holds : (asked : Asked) (r : Rule) (o : Option Value) → FourthIs line r o
      → wish_agrees some_filter some_eq (wish_of asked topic) n id (means r).topics ≡ topics_hold (topics_for asked (place_of o))
  unfolding wish_agrees wish_of topics_for topics_hold
  wish_holds Connect r o h = refl
  wish_holds Subscribe r o h = topics_hold_lem r o h
  wish_holds Publish r o h = topics_hold_lem r o h

-- covering doesn't look at the topic
covers-asked : (control : Control) (asked : Asked) (topic : List ℕ) → covers control (wish_of asked topic) ≡ covers_asked control asked
unfolding covers wish_of covers_asked
covers-asked AllControl asked topic = refl
covers-asked ConnectControl Connect topic = refl
covers-asked ConnectControl Subscribe topic = refl
covers-asked ConnectControl Publish topic = refl
covers-asked PublishControl Connect topic = refl
covers-asked PublishControl Subscribe topic = refl
covers-asked PublishControl Publish topic = refl
covers-asked SubscribeControl Connect topic = refl
covers-asked SubscribeControl Subscribe topic = refl
covers-asked SubscribeControl Publish topic = refl
covers-asked Pubsub Connect topic = refl
covers-asked Pubsub Subscribe topic = refl
covers-asked Pubsub Publish topic = refl

-- what a head says of its line: the line has a rule of this access and flag, which agrees where its topics do
pub record Headed (some_filter : (FilterRow → Bool) → Bool) (some_eq : (EqRow → Bool) → Bool) (c : Client) (asked : Asked) (topic : List ℕ) (n : ℕ) (line : List ℕ)
    (allow flag : Bool) (topics : Option ℕ) : Type 0 where
  pub rule : Meaning
  pub reads : rule_on (read_rule line) ≡ Some rule
  pub allows : rule.allow ≡ allow
  pub flags : superuser rule ≡ flag
  pub agreed : rule_agrees some_filter some_eq c (wish_of asked topic) n rule ≡ topics_hold some_filter some_eq n c.id topic line topics

module _ (some_filter : (FilterRow → Bool) → Bool) (some_eq : (EqRow → Bool) → Bool) (c : Client) (asked : Asked) (topic : List ℕ) (n : ℕ) (line : List ℕ) where
  -- the rule of a line agrees where its head and its topics do
  rule-agrees : (r : Rule) → read_rule line ≡ Ok r
      → rule_agrees some_filter some_eq c (wish_of asked topic) n (means r)
      ≡ ((covers_asked r.control asked && agrees (means r) c) && topics_hold some_filter some_eq n c.id topic line (topics_for asked (place_of (fourth_of (line_value line)))))
  unfolding rule_agrees means
  rule-agrees r e =
      (λ i. covers-asked r.control asked topic i && (agrees (means r) c && wish_holds some_filter some_eq n c.id topic line asked r (fourth_of (line_value line)) (fourth_is line e) i))
      ∙ sym (and_assoc (covers_asked r.control asked) (agrees (means r) c) (topics_hold some_filter some_eq n c.id topic line (topics_for asked (place_of (fourth_of (line_value line))))))

  -- what a head says of the first rule that agrees: its line is passed, or has a rule
  abbrev pub HeadSays : Option Head → Type 0
  HeadSays None =
      (rest : List (Option Meaning))
      → first_from some_filter some_eq c (wish_of asked topic) n (rule_on (read_rule line) ∷ rest) ≡ first_from some_filter some_eq c (wish_of asked topic) (suc n) rest
  HeadSays (Some h) = Headed some_filter some_eq c asked topic n line h.allow h.superuser h.topics

  pub head_says : {head : Option Head} → head_at c asked line ≡ head → HeadSays head
  unfolding head_at head_of rule_on first_from
  head_says e = subst HeadSays e (by (read_rule line) refl)
    where
      left : Option ℕ
      left = topics_for asked (place_of (fourth_of (line_value line)))

      at : (r : Rule) (b : Bool) → read_rule line ≡ Ok r → (covers_asked r.control asked && agrees (means r) c) ≡ b
          → HeadSays (cond b (Some (record { allow = r.allow; superuser = (superuser (means r)); topics = left })) None)
      at r true q k =
          record {
            rule = means r;
            reads = ap rule_on q;
            allows = unfold means in refl;
            flags = refl;
            agreed = rule-agrees r q ∙ ap (λ (b : Bool). b && topics_hold some_filter some_eq n c.id topic line left) k;
          }
      at r false q k = λ rest.
          ap (λ (o : Result Rule Refusal). first_from some_filter some_eq c (wish_of asked topic) n (rule_on o ∷ rest)) q
          ∙ ap (λ (b : Bool). cond b (Some (n, means r)) (first_from some_filter some_eq c (wish_of asked topic) (suc n) rest))
          (rule-agrees r q ∙ ap (λ (b : Bool). b && topics_hold some_filter some_eq n c.id topic line left) k)

      by : (o : Result Rule Refusal) → read_rule line ≡ o → HeadSays (head_of c asked (place_of (fourth_of (line_value line))) o)
      by (Err cause) q = λ rest. ap (λ (o : Result Rule Refusal). first_from some_filter some_eq c (wish_of asked topic) n (rule_on o ∷ rest)) q
      by (Ok r) q = at r (covers_asked r.control asked && agrees (means r) c) q refl

  -- a line whose head agrees decides where its topics agree
  first_agrees : (rest : List (Option Meaning)) {allow flag : Bool} {topics : Option ℕ} (h : Headed some_filter some_eq c asked topic n line allow flag topics)
      → first_from some_filter some_eq c (wish_of asked topic) n (rule_on (read_rule line) ∷ rest)
      ≡ cond (topics_hold some_filter some_eq n c.id topic line topics) (Some (n, h.rule)) (first_from some_filter some_eq c (wish_of asked topic) (suc n) rest)
  unfolding first_from
  first_agrees rest h =
      ap (λ (o : Option Meaning). first_from some_filter some_eq c (wish_of asked topic) n (o ∷ rest)) h.reads
      ∙ ap (λ (b : Bool). cond b (Some (n, h.rule)) (first_from some_filter some_eq c (wish_of asked topic) (suc n) rest)) h.agreed

-- ---- the walk over the lines

-- is there a filter row, an eq row of the parts such that ..?
abbrev pub in_filters : List ℕ → (FilterRow → Bool) → Bool
in_filters filters p = some_row p (filter_rows filters)

abbrev pub in_eqs : List ℕ → (EqRow → Bool) → Bool
in_eqs eqs p = some_row p (eq_rows eqs)

module _ (filters eqs : List ℕ) (c : Client) (asked : Asked) (topic rules : List ℕ) where
  -- the first rule that agrees, of the lines from a place on, counted from n
  unfoldable pub first_at : ℕ → ℕ → Option (ℕ × Meaning)
  first_at n at = first_from (in_filters filters) (in_eqs eqs) c (wish_of asked topic) n (rules_of (drop at rules))

  module _ (n at : ℕ) where
    rules_here : at < length rules → rules_of (drop at rules) ≡ rule_on (read_rule (line_at rules at)) ∷ rules_of (drop (next_line rules at) rules)
    unfolding rules_of
    rules_here h = ap (map (λ line. rule_on (read_rule line))) (lines_here rules at h)

    line_differs : at < length rules → head_at c asked (line_at rules at) ≡ None → first_at n at ≡ first_at (n + 1) (next_line rules at)
    unfolding first_at
    line_differs h e =
        rw (rules_here h, add-one n)
        (head_says (in_filters filters) (in_eqs eqs) c asked topic n (line_at rules at) e (rules_of (drop (next_line rules at) rules)))

    line_agrees : {allow flag : Bool} {topics : Option ℕ} → at < length rules
        → (h : Headed (in_filters filters) (in_eqs eqs) c asked topic n (line_at rules at) allow flag topics)
        → first_at n at ≡ cond (topics_hold (in_filters filters) (in_eqs eqs) n c.id topic (line_at rules at) topics) (Some (n, h.rule)) (first_at (n + 1) (next_line rules at))
    unfolding first_at
    line_agrees k h =
        rw (rules_here k, add-one n)
        (first_agrees (in_filters filters) (in_eqs eqs) c asked topic n (line_at rules at) (rules_of (drop (next_line rules at) rules)) h)

  -- the walk has come to line `n`, at a place of the text
  abbrev pub Walks : ℕ → ℕ → Type 0
  Walks n at = (at ≤ length rules) × (n ≤ at) × (first_at n at ≡ first_at 0 0)

  -- no line is left
  pub none_decides : (n at : ℕ) → Walks n at → length rules ≤ at → None ≡ deciding c (wish_of asked topic) rules filters eqs
  unfolding deciding deciding_of first_at rules_of first_from
  none_decides n at w k = ap deciding_of (rw (lines_past rules at k) at w.2)

-- this is the line that the walk has come to, and this the place of the next one
pub record LineHere (filters eqs : List ℕ) (c : Client) (asked : Asked) (topic rules : List ℕ) (n at : ℕ) (line : List ℕ) (next : ℕ) : Type 0 where
  pub within : at < length rules
  pub is : line ≡ line_at rules at
  pub onward : next ≡ next_line rules at
  pub walks : Walks filters eqs c asked topic rules n at

pub here : {filters eqs : List ℕ} {c : Client} {asked : Asked} {topic rules : List ℕ} {n at : ℕ} {line : List ℕ} {next : ℕ} → Walks filters eqs c asked topic rules n at
    → at < length rules → line ≡ line_at rules at → next ≡ line_behind rules (at + length line) → LineHere filters eqs c asked topic rules n at line next
here {rules = rules} {at = at} w k e q = record { within = k; is = e; onward = next_from_end rules at (ap (λ (s : List ℕ). at + length s) e) q; walks = w }

module _ {filters eqs : List ℕ} {c : Client} {asked : Asked} {topic rules : List ℕ} {n at : ℕ} {line : List ℕ} {next : ℕ}
    (h : LineHere filters eqs c asked topic rules n at line next) where
  pub here_less : length rules - next < length rules - at
  here_less = let after = next_after rules at h.within in omega (arith, h.within, h.onward)

  here_on : first_at filters eqs c asked topic rules n at ≡ first_at filters eqs c asked topic rules (n + 1) (next_line rules at) → Walks filters eqs c asked topic rules (n + 1) next
  here_on e =
      let after = next_after rules at h.within in
      let inside = next_within rules at in
      (omega (arith, h.onward), omega (arith, h.onward, h.walks.1), ap (first_at filters eqs c asked topic rules (n + 1)) h.onward ∙ (sym e ∙ h.walks.2))

  -- a line whose head differs is passed
  pub here_differs : head_at c asked line ≡ None → Walks filters eqs c asked topic rules (n + 1) next
  here_differs e = here_on (line_differs filters eqs c asked topic rules n at h.within (rw h.is at e))

  -- a line whose head agrees, with these topics left
  module _ {allow flag : Bool} {left topics : Option ℕ} (e : head_at c asked line ≡ Some (record { allow = allow; superuser = flag; topics = left })) (l : left ≡ topics) where
    headed : Headed (in_filters filters) (in_eqs eqs) c asked topic n (line_at rules at) allow flag topics
    headed = head_says (in_filters filters) (in_eqs eqs) c asked topic n (line_at rules at) (rw (h.is, l) at e)

    agrees_by : {b : Bool} → topics_hold (in_filters filters) (in_eqs eqs) n c.id topic line topics ≡ b
        → first_at filters eqs c asked topic rules n at ≡ cond b (Some (n, headed.rule)) (first_at filters eqs c asked topic rules (n + 1) (next_line rules at))
    agrees_by q = line_agrees filters eqs c asked topic rules n at h.within headed ∙ rw (rw h.is at q)

  -- it is passed if neither a topic of it nor a row agrees
  pub here_passes : {allow flag : Bool} {left : Option ℕ} {t : ℕ} → head_at c asked line ≡ Some (record { allow = allow; superuser = flag; topics = left }) → left ≡ Some t
      → some_topic_from topic (length line) line (first_item 0x5b 0x5d line t) ≡ false → in_eqs eqs (eq_agrees (n + 1 - 1) topic) ≡ false
      → in_filters filters (filter_agrees (n + 1 - 1) c.id topic) ≡ false → Walks filters eqs c asked topic rules (n + 1) next
  unfolding topics_hold
  here_passes e l s q f = here_on (agrees_by e l {b = false} (rw (s, rw add-sub_cancel at q, rw add-sub_cancel at f)))

  -- it decides if one does, or if all topics are meant: by its number from 1, its access and its flag
  module _ {allow flag : Bool} {left : Option ℕ} (e : head_at c asked line ≡ Some (record { allow = allow; superuser = flag; topics = left })) where
    abbrev Decides : Type 0
    Decides = Some (record { rule = n + 1; allow = allow; superuser = flag }) ≡ deciding c (wish_of asked topic) rules filters eqs

    here_decides : {topics : Option ℕ} → left ≡ topics → topics_hold (in_filters filters) (in_eqs eqs) n c.id topic line topics ≡ true → Decides
    unfolding deciding deciding_of first_at
    here_decides l q =
        let first : first_at filters eqs c asked topic rules 0 0 ≡ Some (n, (headed e l).rule) = sym h.walks.2 ∙ agrees_by e l q in
        (λ i. Some (record { rule = add-one n i; allow = sym (headed e l).allows i; superuser = sym (headed e l).flags i })) ∙ sym (ap deciding_of first)

    pub all_decides : left ≡ None → Decides
    unfolding topics_hold
    all_decides l = here_decides l refl

    module _ {t : ℕ} (l : left ≡ Some t) where
      pub topic_decides : some_topic_from topic (length line) line (first_item 0x5b 0x5d line t) ≡ true → Decides
      unfolding topics_hold
      topic_decides q = here_decides l (rw q)

      pub eq_decides : in_eqs eqs (eq_agrees (n + 1 - 1) topic) ≡ true → Decides
      unfolding topics_hold
      eq_decides q = here_decides l (rw (rw add-sub_cancel at q, or-true))

      pub filter_decides : in_filters filters (filter_agrees (n + 1 - 1) c.id topic) ≡ true → Decides
      unfolding topics_hold
      filter_decides q = here_decides l (rw (rw add-sub_cancel at q, or-true, or-true))

-- ---- the walk over a rule's topics

some_place : (topic line : List ℕ) (most : ℕ) (place : Option ℕ) → some_topic_from topic most line place ≡ list_any (topic_agrees_at topic line) (places most line place)
unfolding some_topic_from places
some_place topic line zero place = refl
some_place topic line (suc most) None = refl
some_place topic line (suc most) (Some p) = ap (λ (b : Bool). topic_agrees_at topic line p || b) (some_place topic line most (next_item line p))

-- one of an array's topics agrees exactly if one at one of its places does
pub some_in : (topic line : List ℕ) (at : ℕ)
    → list_any (topic_agrees_at topic line) (places_from line (first_item 0x5b 0x5d line at)) ≡ some_topic_from topic (length line) line (first_item 0x5b 0x5d line at)
some_in topic line at =
    ap (list_any (topic_agrees_at topic line)) (places_few line at) ∙ sym (some_place topic line (length line) (first_item 0x5b 0x5d line at))

module _ (topic : List ℕ) (most : ℕ) (line : List ℕ) where
  -- no topic is left
  pub some_end : {place : Option ℕ} → place ≡ None → some_topic_from topic most line place ≡ false
  unfolding some_topic_from
  some_end e = rw e (by most)
    where
      by : (most : ℕ) → some_topic_from topic most line None ≡ false
      by zero = refl
      by (suc most) = refl

-- no turn is left of as many as there may be
module _ (topic : List ℕ) (most turn : ℕ) (line : List ℕ) where
  pub some_none : (place : Option ℕ) → most ≤ turn → some_topic_from topic (most - turn) line place ≡ false
  unfolding some_topic_from
  some_none place h = let none_left : most - turn ≡ 0 = omega arith in rw none_left

  -- one topic, and those behind it
  pub some_by : {place : Option ℕ} {p : ℕ} {b : Bool} → turn < most → place ≡ Some p → topic_agrees_at topic line p ≡ b
      → some_topic_from topic (most - turn) line place ≡ (b || some_topic_from topic (most - (turn + 1)) line (next_item line p))
  unfolding some_topic_from
  some_by {p = p} h e q =
      let more : most - turn ≡ suc (most - (turn + 1)) = omega arith in
      (λ i. some_topic_from topic (more i) line (e i)) ∙ ap (λ (b : Bool). b || some_topic_from topic (most - (turn + 1)) line (next_item line p)) q
