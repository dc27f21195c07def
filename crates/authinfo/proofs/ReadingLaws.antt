-- Laws of what a line's rule says, each by the tests that its function makes, and that it is what the rule of the line's value says. Assumes
-- nothing.
use Prim.Native.Nat.{ℕ, ◌+◌, ◌%◌, ◌≤◌, ◌<◌}
use native.Mathlib.Omega.{arith}
use mathlib.Core.Path.{◌≡◌, refl, sym, ap, subst, ◌∙◌}
use mathlib.Core.Bool.{Bool, true, false, ◌&&◌, ◌||◌, cond}
use mathlib.Core.List.{List, [], ◌∷◌}
use Rattle.std.specs.Prelude.{Option, None, Some, Ok, Err, Result}
use Rattle.std.specs.Option.{option_map}
use Rattle.std.specs.Result.{IsErrAnd, MatchResult}
use Rattle.std.proofs.lemmas.Result.{err_from_is_err_and}
use Rattle.text.specs.Maybe.{bind}
use lib.Dec.{eqb, leb}
use lib.ListN.{length}
use borrow.Author.Tests.{lt-ltb, le-ltb}
use Rattle.text.specs.Ascii.{ascii}
use Rattle.json_text.specs.Json.{Json, null, bool, number, text, array, object, Elements, no_element, element, Members, skip_blanks, depth_limit, line_value, longest, longest_member}
use Rattle.json_text.specs.Access.{checked, value_here, number_here, kind_at, named_in, member_named}
use Rattle.json_text.specs.declared.Kind.{Kind}
use Rattle.json_text.specs.declared.Kind.TheVariants.{Number, Text, Array, Object, Word, Blank, Other}
use Rattle.json_text.proofs.AccessSteps.{kind_is}
use Rattle.json_text.proofs.PlaceLaws.{element_places, array_places}
use Rattle.json_text.proofs.AccessLaws.{ElementsIn, array_is, kind_is_lem, named_is, number_of, number_is, line_is}
use Rattle.rule.specs.Limits.{line_limit, text_limit}
use Rattle.rule.specs.Rule.{Value, as_number, as_array, value_named}
use Rattle.rule.specs.Members.{truth_from}
use Rattle.rule.specs.declared.Refusal.TheVariants.{TooLong, NotJson, NotARule}
use Rattle.authinfo.specs.ClientRule as rule
use Rattle.authinfo.specs.ClientRule.{text_named, qos_level, qos_in, qos_value, qos_of, rule_in, configured, fill_for, filled_topic, with_topic, filled_rule, rule_from, read_line}
use Rattle.authinfo.specs.Decision.{Question, qos_asked, topic_asked, covers, among, qos_hits, retain_hits, topic_hits, hits}
use Rattle.authinfo.specs.Places.{question_of, qos_of_asked, places_at, permission_here, action_here, with_level, level_here, levels_at, levels_from, one_level, qos_here, takes_kind, taken_by, filled_for, ShortTopic, verdict, by_topic, topic_from, with_qos, with_action, with_permission, rule_says, line_says}
use Rattle.authinfo.specs.OnePass.{quote_at, parts_at, parts_say, LineTo}
use Rattle.authinfo.specs.declared.RuleParts.{RuleParts}
use Rattle.authinfo.specs.declared.Action.{Action}
use Rattle.authinfo.specs.declared.Action.TheVariants as action
use Rattle.authinfo.specs.declared.Asked.{Asked}
use Rattle.authinfo.specs.declared.Asked.TheVariants as asked
use Rattle.authinfo.specs.declared.RulePlaces.{RulePlaces}
use Rattle.authinfo.proofs.MemberLaws.{Stands, member_stands, permission_stands, action_stands, retain_stands, topic_stands, short_stands}
use Rattle.rule.specs.declared.Refusal.{Refusal}

-- ---- what `map_err` and a `?` pass on

-- an error that `map_err` made, and a value that it left
pub mapped_err : {A E D : Type 0} (r : Result A E) (s : Result A D) (P : E → D → Type 0) {d : D} → MatchResult r (λ x. s ≡ Ok x) (λ e. IsErrAnd s (P e)) → s ≡ Err d
    → (e : E) × (r ≡ Err e) × P e d
mapped_err (Ok x) s P {d} h k = let z : ◌≡◌ {A = ℕ} 0 1 = cc in absurd (omega arith)
mapped_err (Err e) s P {d} h k = let p = err_from_is_err_and s h in let same : p.0 ≡ d = cc (p.1, k) in (e, refl, subst (P e) same p.2)

pub mapped_ok : {A E D : Type 0} (r : Result A E) (s : Result A D) (P : E → D → Type 0) {v : A} → MatchResult r (λ x. s ≡ Ok x) (λ e. IsErrAnd s (P e)) → s ≡ Ok v → r ≡ Ok v
mapped_ok (Ok x) s P {v} h k = let same : x ≡ v = cc in ap Ok same
mapped_ok (Err e) s P {v} h k = let p = err_from_is_err_and s h in let z : ◌≡◌ {A = ℕ} 0 1 = cc (p.1, k) in absurd (omega arith)

-- ---- the QoS

-- an element of an array, by the number that stands there
pub level_number : (line : List ℕ) (q : ℕ) (takes : Bool) (p : ℕ) {n : ℕ} → number_here line p ≡ Some n → level_here line q takes p ≡ with_level q takes n
unfolding level_here
level_number line q takes p e = λ i. elim (e i) as (λ _. (Option Bool)) [ Some n ↦ with_level q takes n | None ↦ Some takes ]

pub level_other : (line : List ℕ) (q : ℕ) (takes : Bool) (p : ℕ) → number_here line p ≡ None → level_here line q takes p ≡ Some takes
unfolding level_here
level_other line q takes p e = λ i. elim (e i) as (λ _. (Option Bool)) [ Some n ↦ with_level q takes n | None ↦ Some takes ]

-- one element, and those behind it
module _ (line : List ℕ) (q : ℕ) (takes : Bool) (p : ℕ) (places : List ℕ) where
  pub levels_next : {now : Bool} → level_here line q takes p ≡ Some now → levels_at line q takes (p ∷ places) ≡ levels_at line q now places
  unfolding levels_at
  levels_next e = λ i. elim (e i) as (λ _. (Option Bool)) [ Some now ↦ levels_at line q now places | None ↦ None ]

  pub levels_bad : level_here line q takes p ≡ None → levels_at line q takes (p ∷ places) ≡ None
  unfolding levels_at
  levels_bad e = λ i. elim (e i) as (λ _. (Option Bool)) [ Some now ↦ levels_at line q now places | None ↦ None ]

-- a rule's QoS, by the kind of its value
unfoldable pub qos_on : List ℕ → ℕ → ℕ → Kind → Option Bool
qos_on line q p Number = one_level q (number_here line p)
qos_on line q p Text = None
qos_on line q p Array = levels_from line q p
qos_on line q p Object = None
qos_on line q p Word = None
qos_on line q p Blank = None
qos_on line q p Other = None

pub qos_by : (line : List ℕ) (q : ℕ) {place : Option ℕ} {p : ℕ} {kind : Kind} → place ≡ Some p → kind_at line p ≡ kind → qos_here line q place ≡ qos_on line q p kind
unfolding qos_here qos_on
qos_by line q {p = p} h e = ap (qos_here line q) h ∙ (by (kind_at line p) ∙ ap (qos_on line q p) e)
  where
    by : (k : Kind) →
        elim k as (λ _. (Option Bool)) [
          | Number ↦ one_level q (number_here line p)
          | Text ↦ None
          | Array ↦ levels_from line q p
          | Object ↦ None
          | Word ↦ None
          | Blank ↦ None
          | Other ↦ None
        ]
        ≡ qos_on line q p k
    by Number = refl
    by Text = refl
    by Array = refl
    by Object = refl
    by Word = refl
    by Blank = refl
    by Other = refl

-- ---- a rule, by what is read of it

pub parts_by : (line : List ℕ) (p : RuleParts) (a : Asked) (id : List ℕ) (name : Option (List ℕ)) (topic : List ℕ)
    {permission : Option Bool} {act : Option Action} {qos : Option Bool} {taken : Result Bool Refusal}
    → p.permission ≡ permission → p.action ≡ act → qos_here line (qos_of_asked a) p.qos ≡ qos → topic_from topic id name line p.topic ≡ taken
    → parts_say line p a id name topic ≡ with_permission (truth_from line p.retain) a permission act qos taken
unfolding parts_say
parts_by line p a id name topic e f g h = λ i. with_permission (truth_from line p.retain) a (e i) (f i) (g i) (h i)

rule_by : (line : List ℕ) (m : RulePlaces) (a : Asked) (id : List ℕ) (name : Option (List ℕ)) (topic : List ℕ)
    {permission : Option Bool} {act : Option Action} {qos : Option Bool} {taken : Result Bool Refusal}
    → permission_here line m.permission ≡ permission → action_here line m.action ≡ act → qos_here line (qos_of_asked a) m.qos ≡ qos
    → topic_from topic id name line m.topic ≡ taken
    → rule_says line m a id name topic ≡ with_permission (truth_from line m.retain) a permission act qos taken
unfolding rule_says parts_say parts_at
rule_by line m a id name topic e f g h = parts_by line (parts_at line m) a id name topic e f g h

-- the QoS is read with the asked one
pub qos_asked_lem : (line : List ℕ) {q : ℕ} (a : Asked) (place : Option ℕ) {r s : Option Bool} → q ≡ qos_of_asked a → r ≡ qos_here line q place → r ≡ s
    → qos_here line (qos_of_asked a) place ≡ s
qos_asked_lem line a place e f g = ap (λ (q : ℕ). qos_here line q place) (sym e) ∙ (sym f ∙ g)

-- ---- the QoS of the tree

-- what is read of a QoS
unfoldable qos_answer : ℕ → Option (Option (List ℕ)) → Option Bool
qos_answer q None = None
qos_answer q (Some levels) = Some (qos_hits levels q)

-- the levels of elements, behind others that take the asked one or not
unfoldable on_levels : ℕ → Bool → Option (List ℕ) → Option Bool
on_levels q takes None = None
on_levels q takes (Some levels) = Some (among q levels || takes)

one_more : (q : ℕ) (takes : Bool) (level : ℕ) (o : Option (List ℕ)) → on_levels q (eqb level q || takes) o ≡ on_levels q takes (option_map (λ levels. level ∷ levels) o)
unfolding on_levels among
one_more q takes level None = refl
one_more q takes level (Some levels) = ap Some (by (among q levels) (eqb level q))
  where
    by : (a b : Bool) → (a || (b || takes)) ≡ ((b || a) || takes)
    by true true = refl
    by true false = refl
    by false true = refl
    by false false = refl

levels_in : (line : List ℕ) (q low high : ℕ) (takes : Bool) (es : Elements) → ElementsIn line low high es
    → levels_at line q takes (element_places es) ≡ on_levels q takes (qos_in es)
unfolding element_places qos_in as_number number_of bind qos_level with_level
levels_in line q low high takes no_element h = unfold levels_at on_levels among in refl
levels_in line q low high takes (element at value rest) h = by (λ behind. levels_in line q h.0 high behind rest h.3) value (number_is depth_limit line at h.2.reads)
  where
    dropped : levels_at line q takes (element_places rest) ≡ on_levels q takes (qos_in rest) → number_here line at ≡ None
        → levels_at line q takes (at ∷ element_places rest) ≡ on_levels q takes (qos_in rest)
    dropped onward e = levels_next line q takes at (element_places rest) (level_other line q takes at e) ∙ onward

    level : (n : ℕ) (b : Bool) → ((behind : Bool) → levels_at line q behind (element_places rest) ≡ on_levels q behind (qos_in rest))
        → level_here line q takes at ≡ cond b (Some (eqb (n % 256) q || takes)) None
        → levels_at line q takes (at ∷ element_places rest) ≡ on_levels q takes (bind (cond b (Some (n % 256)) None) (λ l. option_map (λ levels. l ∷ levels) (qos_in rest)))
    level n true onward e = levels_next line q takes at (element_places rest) e ∙ (onward (eqb (n % 256) q || takes) ∙ one_more q takes (n % 256) (qos_in rest))
    level n false onward e = levels_bad line q takes at (element_places rest) e ∙ unfold on_levels in refl

    by : ((behind : Bool) → levels_at line q behind (element_places rest) ≡ on_levels q behind (qos_in rest)) → (x : Json)
        → number_here line at ≡ number_of x → levels_at line q takes (at ∷ element_places rest) ≡ on_levels q takes (qos_in (element at x rest))
    by onward null e = dropped (onward takes) e
    by onward (bool b) e = dropped (onward takes) e
    by onward (number n) e = level n (leb (n % 256) 2) onward (level_number line q takes at e)
    by onward (text t) e = dropped (onward takes) e
    by onward (array es) e = dropped (onward takes) e
    by onward (object ms) e = dropped (onward takes) e

qos_stands : (line : List ℕ) (q : ℕ) (place : Option ℕ) (o : Option Value) → Stands line place o → qos_here line q place ≡ qos_answer q (qos_of o)
unfolding qos_of qos_answer qos_hits
qos_stands line q None None h = unfold qos_here in refl
qos_stands line q None (Some v) h = absurd h
qos_stands line q (Some p) None h = absurd h
qos_stands line q (Some p) (Some v) h = unfold qos_value as_array as_number bind kind_is qos_on in qos_by line q refl (kind_is_lem depth_limit line p h.1) ∙ by v.value h.1
  where
    one : (n : ℕ) (b : Bool) → cond b (Some (eqb (n % 256) q || false)) None ≡ qos_answer q (option_map Some (option_map (λ l. l ∷ []) (cond b (Some (n % 256)) None)))
    one n true = unfold among in refl
    one n false = refl

    all : (o : Option (List ℕ)) → on_levels q false o ≡ qos_answer q (option_map Some o)
    all None = unfold on_levels in refl
    all (Some levels) = unfold on_levels in ap Some (last (among q levels))
      where
        last : (b : Bool) → (b || false) ≡ b
        last true = refl
        last false = refl

    by : (x : Json) → value_here line p ≡ Some (record { value = x; next = h.0 })
        → qos_on line q p (kind_is x) ≡ qos_answer q (option_map Some (qos_value (record { at = v.at; value = x })))
    by null e = unfold qos_value as_array as_number bind kind_is qos_on in refl
    by (bool b) e = unfold qos_value as_array as_number bind kind_is qos_on in refl
    by (number n) e =
        unfold qos_value as_array as_number bind kind_is qos_on qos_level one_level with_level number_of in
        ap (one_level q) (number_is depth_limit line p e) ∙ one n (leb (n % 256) 2)
    by (text t) e = unfold qos_value as_array as_number bind kind_is qos_on in refl
    by (array es) e =
        unfold qos_value as_array kind_is qos_on levels_from in
        ap (levels_at line q false) (array_places line p e refl) ∙ (levels_in line q (p + 1) h.0 false es (array_is line p e refl).elements ∙ all (qos_in es))
    by (object ms) e = unfold qos_value as_array as_number bind kind_is qos_on in refl

-- ---- a rule of the tree

-- no rule's action, QoS or retain looks at the topic
module _ (a : Asked) (topic : List ℕ) where
  covers_alike : (act : Action) → covers act (question_of a []) ≡ covers act (question_of a topic)
  unfolding covers question_of
  covers_alike act = by act a
    where
      by : (x : Action) (b : Asked) → covers x (question_of b []) ≡ covers x (question_of b topic)
      by action.All b = refl
      by action.Publish (asked.Subscribe q) = refl
      by action.Publish (asked.Publish q r) = refl
      by action.Subscribe (asked.Subscribe q) = refl
      by action.Subscribe (asked.Publish q r) = refl

  qos_alike : qos_asked (question_of a []) ≡ qos_asked (question_of a topic)
  unfolding question_of qos_asked
  qos_alike = by a
    where
      by : (b : Asked) → qos_asked (question_of b []) ≡ qos_asked (question_of b topic)
      by (asked.Subscribe q) = refl
      by (asked.Publish q r) = refl

  retain_alike : (allow : Bool) (retain : Option Bool) → retain_hits allow retain (question_of a []) ≡ retain_hits allow retain (question_of a topic)
  unfolding question_of retain_hits
  retain_alike allow retain = by a
    where
      by : (b : Asked) → retain_hits allow retain (question_of b []) ≡ retain_hits allow retain (question_of b topic)
      by (asked.Subscribe q) = refl
      by (asked.Publish q r) = refl

  topic_alike : topic ≡ topic_asked (question_of a topic)
  unfolding question_of topic_asked
  topic_alike = by a
    where
      by : (b : Asked) → topic ≡ topic_asked (question_of b topic)
      by (asked.Subscribe q) = refl
      by (asked.Publish q r) = refl

  -- QoS, action, retain and topic all hit, in whichever order
  hits_alike : (allow : Bool) (act : Action) (levels : Option (List ℕ)) {retain : Option Bool} (truth : Option Bool) (t : rule.Topic) → truth ≡ retain
      → ((qos_hits levels (qos_of_asked a) && takes_kind allow act truth a) && topic_hits t topic)
      ≡ hits (question_of a topic) (record { allow = allow; action = act; qos = levels; retain = retain; topic = t })
  unfolding hits qos_of_asked takes_kind
  hits_alike allow act levels {retain} truth t e =
      (λ i.
      (qos_hits levels (qos_alike i) && (covers_alike act i && (ap (λ (r : Option Bool). retain_hits allow r (question_of a [])) e ∙ retain_alike allow retain) i))
      && topic_hits t (topic_alike i))
      ∙ order (covers act (question_of a topic)) (qos_hits levels (qos_asked (question_of a topic))) _ _
    where
      order : (c q r t : Bool) → ((q && (c && r)) && t) ≡ (c && (q && (r && t)))
      order true true r t = refl
      order true false r t = refl
      order false true r t = refl
      order false false r t = refl

  -- what is read of a rule's members says what the rule does
  says_alike : (id : List ℕ) (name : Option (List ℕ)) (truth : Option Bool) (allow : Option Bool) (act : Option Action) (levels : Option (Option (List ℕ))) {retain : Option Bool}
      (t : Option rule.Topic) → truth ≡ retain
      → with_permission truth a allow act (qos_answer (qos_of_asked a) levels) (taken_by topic (filled_for id name t))
      ≡ line_says (question_of a topic)
      (filled_rule id name
      (bind allow (λ x. bind act (λ y. bind levels (λ z. option_map (λ w. record { allow = x; action = y; qos = z; retain = retain; topic = w }) t)))))
  unfolding bind with_permission with_action with_qos qos_answer filled_rule line_says filled_for taken_by by_topic with_topic
  says_alike id name truth None act levels t e = refl
  says_alike id name truth (Some allow) None levels t e = refl
  says_alike id name truth (Some allow) (Some act) None t e = refl
  says_alike id name truth (Some allow) (Some act) (Some levels) None e = refl
  says_alike id name truth (Some allow) (Some act) (Some levels) {retain} (Some t) e = by (filled_topic t.eq (fill_for id name t.text))
    where
      by : (r : Result rule.Topic Refusal)
          → by_topic allow (qos_hits levels (qos_of_asked a) && takes_kind allow act truth a) (taken_by topic r)
          ≡ line_says (question_of a topic) (with_topic (record { allow = allow; action = act; qos = levels; retain = retain; topic = t }) r)
      by (Err cause) = refl
      by (Ok x) = ap (λ (b : Bool). Ok (verdict allow b)) (hits_alike allow act levels truth x e)

-- ---- a line

module _ (line : List ℕ) (at : ℕ) (a : Asked) (topic id : List ℕ) (name : Option (List ℕ)) where
  object_says : {ms : Members} {next : ℕ} → value_here line at ≡ Some (record { value = object ms; next = next }) → longest_member ms ≤ text_limit
      → rule_says line (places_at line at) a id name topic ≡ line_says (question_of a topic) (filled_rule id name (rule_in ms))
  unfolding places_at rule_in text_named
  object_says {ms} e h =
      let stands : (n : List ℕ) → Stands line (member_named n line at) (value_named n ms) = λ n. member_stands n line at e h in
      rule_by line (places_at line at) a id name topic
      (permission_stands line _ _ (stands (ascii "permission")))
      (action_stands line _ _ (stands (ascii "action")))
      (qos_stands line (qos_of_asked a) _ _ (stands (ascii "qos")))
      (topic_stands line topic id name _ _ (stands (ascii "topic")))
      ∙ says_alike a topic id name _ _ _ _ _ (retain_stands line _ _ (stands (ascii "retain")))

  other_says : ((n : List ℕ) → member_named n line at ≡ None) → rule_says line (places_at line at) a id name topic ≡ Err NotARule
  unfolding places_at permission_here with_permission
  other_says h = rule_by line (places_at line at) a id name topic (ap (permission_here line) (h (ascii "permission"))) refl refl refl

  value_says : (v : Json) {next : ℕ} → value_here line at ≡ Some (record { value = v; next = next }) → longest v ≤ text_limit
      → rule_says line (places_at line at) a id name topic ≡ line_says (question_of a topic) (filled_rule id name (configured v))
  unfolding configured filled_rule line_says named_in longest
  value_says null e h = other_says (λ n. named_is n line at e)
  value_says (bool b) e h = other_says (λ n. named_is n line at e)
  value_says (number n) e h = other_says (λ n. named_is n line at e)
  value_says (text t) e h = other_says (λ n. named_is n line at e)
  value_says (array es) e h = other_says (λ n. named_is n line at e)
  value_says (object ms) e h = object_says e h

-- the topic's string is short
value_short : (line : List ℕ) (at : ℕ) (v : Json) {next : ℕ} → value_here line at ≡ Some (record { value = v; next = next }) → longest v ≤ text_limit
    → ShortTopic line (member_named (ascii "topic") line at)
unfolding named_in longest
value_short line at null e h = subst (ShortTopic line) (sym (named_is (ascii "topic") line at e)) tt
value_short line at (bool b) e h = subst (ShortTopic line) (sym (named_is (ascii "topic") line at e)) tt
value_short line at (number n) e h = subst (ShortTopic line) (sym (named_is (ascii "topic") line at e)) tt
value_short line at (text t) e h = subst (ShortTopic line) (sym (named_is (ascii "topic") line at e)) tt
value_short line at (array es) e h = subst (ShortTopic line) (sym (named_is (ascii "topic") line at e)) tt
value_short line at (object ms) e h = short_stands line (member_named (ascii "topic") line at) (value_named (ascii "topic") ms) (member_stands (ascii "topic") line at e h)

pub short_line : (line : List ℕ) {n : ℕ} → checked (line_value line) ≡ Some n → n ≤ text_limit → ShortTopic line (places_at line (skip_blanks line 0)).topic
unfolding checked places_at
short_line line {n} e h = by (line_value line) refl e
  where
    by : (o : Option Json) → line_value line ≡ o → checked o ≡ Some n → ShortTopic line (member_named (ascii "topic") line (skip_blanks line 0))
    by None q c = let z : ◌≡◌ {A = ℕ} 0 1 = cc in absurd (omega arith)
    by (Some v) q c = let l : longest v ≡ n = cc in value_short line (skip_blanks line 0) v (line_is line q).1 (omega arith)

module _ (id : List ℕ) (name : Option (List ℕ)) (line : List ℕ) where
  pub long_says : (q : Question) → line_limit < length line → line_says q (read_line id name line) ≡ Err TooLong
  unfolding read_line line_says
  long_says q h = ap (λ (b : Bool). line_says q (cond b (Err TooLong) (rule_from id name (line_value line)))) (lt-ltb line_limit (length line) h)

  short_says : (q : Question) → length line ≤ line_limit → line_says q (read_line id name line) ≡ line_says q (rule_from id name (line_value line))
  unfolding read_line
  short_says q h = ap (λ (b : Bool). line_says q (cond b (Err TooLong) (rule_from id name (line_value line)))) (le-ltb line_limit (length line) h)

  pub invalid_says : (q : Question) → length line ≤ line_limit → checked (line_value line) ≡ None → line_says q (read_line id name line) ≡ Err NotJson
  unfolding checked rule_from line_says
  invalid_says q h e = short_says q h ∙ by (line_value line) e
    where
      by : (o : Option Json) → checked o ≡ None → line_says q (rule_from id name o) ≡ Err NotJson
      by None c = refl
      by (Some v) c = let z : ◌≡◌ {A = ℕ} 0 1 = cc in absurd (omega arith)

  pub over_says : (q : Question) {n : ℕ} → length line ≤ line_limit → checked (line_value line) ≡ Some n → text_limit < n → line_says q (read_line id name line) ≡ Err TooLong
  unfolding checked rule_from line_says
  over_says q {n} h e o = short_says q h ∙ by (line_value line) e
    where
      by : (o : Option Json) → checked o ≡ Some n → line_says q (rule_from id name o) ≡ Err TooLong
      by None c = let z : ◌≡◌ {A = ℕ} 0 1 = cc in absurd (omega arith)
      by (Some v) c =
          let l : longest v ≡ n = cc in
          ap (λ (b : Bool). line_says q (cond b (Err TooLong) (filled_rule id name (configured v)))) (lt-ltb text_limit (longest v) (omega arith))

  pub valid_says : (a : Asked) (topic : List ℕ) {n : ℕ} → length line ≤ line_limit → checked (line_value line) ≡ Some n → n ≤ text_limit
      → line_says (question_of a topic) (read_line id name line) ≡ rule_says line (places_at line (skip_blanks line 0)) a id name topic
  unfolding checked rule_from
  valid_says a topic {n} h e k = short_says (question_of a topic) h ∙ by (line_value line) refl e
    where
      by : (o : Option Json) → line_value line ≡ o → checked o ≡ Some n
          → line_says (question_of a topic) (rule_from id name o) ≡ rule_says line (places_at line (skip_blanks line 0)) a id name topic
      by None q c = let z : ◌≡◌ {A = ℕ} 0 1 = cc in absurd (omega arith)
      by (Some v) q c =
          let l : longest v ≡ n = cc in
          ap (λ (b : Bool). line_says (question_of a topic) (cond b (Err TooLong) (filled_rule id name (configured v)))) (le-ltb text_limit (longest v) (omega arith))
          ∙ sym (value_says line (skip_blanks line 0) a topic id name v (line_is line q).1 (omega arith))

-- ---- what a line's members tell

pub tells_short : (line : List ℕ) {p : RuleParts} (m : RulePlaces) → p ≡ parts_at line m → ShortTopic line m.topic → ShortTopic line p.topic × (p.quote ≡ quote_at line p.topic)
unfolding parts_at
tells_short line m e h = subst (λ (x : RuleParts). ShortTopic line x.topic × (x.quote ≡ quote_at line x.topic)) (sym e) (h, refl)

pub tells_says : (line : List ℕ) (a : Asked) (topic id : List ℕ) (name : Option (List ℕ)) {p : RuleParts} (m : RulePlaces) → p ≡ parts_at line m
    → parts_say line p a id name topic ≡ rule_says line m a id name topic
unfolding rule_says parts_say parts_at
tells_says line a topic id name m e = ap (λ (x : RuleParts). parts_say line x a id name topic) e

module _ (line : List ℕ) {p : RuleParts} (t : LineTo line p) where
  passed_valid : checked (line_value line) ≡ Some (longest t.value)
  unfolding checked
  passed_valid = ap checked t.reads

  pub passed_short : ShortTopic line p.topic × (p.quote ≡ quote_at line p.topic)
  passed_short = tells_short line (places_at line (skip_blanks line 0)) t.are (short_line line passed_valid t.short)

  pub passed_says : (a : Asked) (topic id : List ℕ) (name : Option (List ℕ)) → length line ≤ line_limit
      → parts_say line p a id name topic ≡ line_says (question_of a topic) (read_line id name line)
  passed_says a topic id name h = tells_says line a topic id name (places_at line (skip_blanks line 0)) t.are ∙ sym (valid_says id name line a topic h passed_valid t.short)
