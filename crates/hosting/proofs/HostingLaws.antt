-- Laws of what a host asks, and the claims of specs/Claims.antt. Assumes nothing.
use Prim.Native.Nat.{ℕ, zero, suc, ◌+◌, ◌-◌, ◌≤◌}
use native.Mathlib.Omega.{arith}
use mathlib.Core.Path.{◌≡◌, refl, sym, ap, ◌∙◌}
use mathlib.Core.Bool.{Bool, true, false, ◌&&◌, ◌||◌, not, cond, beq, true≢false, and-false, or-true}
use mathlib.Core.List.{List, [], ◌∷◌, ◌++◌, map, Memᴰ}
use Rattle.std.specs.Prelude.{Option, None, Some, sum_by}
use Rattle.std.specs.List.{list_all, starts_with}
use Rattle.text.specs.Maybe.{bind}
use Rattle.std.proofs.lemmas.List.Sums.{sum_by-cons}
use borrow.Author.Tests.{eq-eqb, ne_eqb, eqb-true}
use lib.Dec.{eqb}
use lib.ListN.{length, take, length-append, length-map}
use Rattle.text.specs.Ascii.{ascii}
use Rattle.text.specs.Text.{same, begins, occurs, replace_from, replace}
use Rattle.text.proofs.Laws.{and_split, or_split, isnt, same_itself, begins-take}
use Rattle.topic.specs.Topic.{Level, plus, hash, levels, is_only, is_plus, is_hash, metadata, ends, takes_level, takes, dollar_rule, levels_match, levels_if, checked_levels, tree_match, valid_filter}
use Rattle.table.specs.Table.{some_row, keep, add, add_all, change}
use Rattle.table.proofs.TableLaws.{some_keep, some_map, some_on, present, none as none_rows, none_at, none_of, member, length-keep, some_add_all}
use Rattle.json_text.specs.Lines.{lines, lf, with_byte, extend_line}
use Rattle.json_text.specs.Access.{next_item, places, places_from}
use Rattle.rule.specs.Limits.{text_limit}
use Rattle.rule.specs.Rule as spec
use Rattle.rule.specs.Rule.{Meaning, TopicOf, is_template, topic_means, topic_of}
use Rattle.rule.specs.Places.{value_of, topic_answer, placed_topic}
use Rattle.rule.specs.declared.Topic.{Topic}
use Rattle.rule.specs.declared.Topic.TheVariants.{Filter, Template, Eq, EqTemplate}
use Rattle.rule.specs.Fill.{or_nothing, fill}
use Rattle.rule.specs.RuleText.{Filled, read_rule, rule_on, rules_of, listed, filled_topics, filled_rules, filled, of_kind}
use Rattle.store.specs.Store.{over, View, FilterRow, EqRow, NoteRow, same_filter, same_eq, same_note}
use Rattle.store.specs.View.{view}
use Rattle.store.proofs.LayoutLaws.{filter_rows_lem, eq_rows_lem, note_rows_lem, well_formed_parts, openable_parts}
use Rattle.store.proofs.ViewLaws.{view-well_formed}
use Rattle.store.proofs.OpenLaws.{fit_range}
use Rattle.events.specs.Event.{filled_filters, filled_eqs, filter_rows, eq_rows, note_rows, of_session, clears, cleared, filter_change, new_eqs, note_change, effect}
use Rattle.events.specs.Templates.{first_topic, next_topic, if_template, template_at, filled_template, filled_from}
use Rattle.events.proofs.TemplateWalk.{walk_line}
use Rattle.hosting.specs.Walk.{count_of}
use Rattle.store.specs.Check.{shape_of}
use Rattle.store.specs.declared.Shape.{Shape}
use Rattle.hosting.specs.Hosting.{is_special, no_special, templates_in, templates_of, line_templates, templates, used_in}
use Rattle.hosting.specs.Claims.{PlainFills, FilledOnce, Enough, TakesBack, depart, enter, leave, Entered, EntersAlike, LeavesAlike}

-- ---- plain names

-- all bytes pass, if none is special
pub special_all : (name : List ℕ) → list_all (λ b. not (is_special b)) name ≡ no_special name
unfolding no_special
special_all [] = refl
special_all (b ∷ name) = ap (λ (rest : Bool). not (is_special b) && rest) (special_all name)

-- a text that begins with `$`
pub starts_dollar : (name : List ℕ) → starts_with eqb name (ascii "$") ≡ metadata name
unfolding metadata
starts_dollar [] = refl
starts_dollar (b ∷ name) = grind arith

-- a text that begins with `$`
pub begins_dollar : (name : List ℕ) → begins (ascii "$") name ≡ metadata name
unfolding begins metadata
begins_dollar [] = refl
begins_dollar (b ∷ name) = at (eqb 36 b) refl
  where
    at : (e : Bool) → eqb 36 b ≡ e → (e && true) ≡ eqb b 36
    at true q = sym (eq-eqb b 36 (sym (eqb-true 36 b q)))
    at false q = sym (ne_eqb b 36 (λ is. true≢false (sym (eq-eqb 36 b (sym is)) ∙ q)))

-- ---- what passes a test

module _ {Row : Type 0} (p : Row → Bool) where
  pub keep_append : (rows more : List Row) → keep p (rows ++ more) ≡ keep p rows ++ keep p more
  unfolding keep
  keep_append [] more = refl
  keep_append (r ∷ rows) more = at (p r) (keep_append rows more)
    where
      at : (b : Bool) → keep p (rows ++ more) ≡ keep p rows ++ keep p more
          → cond b (r ∷ keep p (rows ++ more)) (keep p (rows ++ more)) ≡ cond b (r ∷ keep p rows) (keep p rows) ++ keep p more
      at b e = grind arith

  pub keep_none : (rows : List Row) → some_row p rows ≡ false → keep p rows ≡ []
  unfolding some_row keep
  keep_none [] e = refl
  keep_none (r ∷ rows) e = grind (arith, keep_none rows)

  pub keep_all : (rows : List Row) → some_row (λ r. not (p r)) rows ≡ false → keep p rows ≡ rows
  unfolding some_row keep
  keep_all [] e = refl
  keep_all (r ∷ rows) e = let h = or_split (not (p r)) _ e in at (p r) refl h.0 (keep_all rows h.1)
    where
      at : (b : Bool) → p r ≡ b → not (p r) ≡ false → keep p rows ≡ rows → cond b (r ∷ keep p rows) (keep p rows) ≡ r ∷ rows
      at b q h below = grind arith

  -- a row that doesn't pass, at the end
  keep_last : (rows : List Row) (r : Row) → p r ≡ false → keep p (rows ++ (r ∷ [])) ≡ keep p rows
  unfolding keep
  keep_last [] r e = rw e refl
  keep_last (t ∷ rows) r e = ap (λ (rest : List Row). cond (p t) (t ∷ rest) rest) (keep_last rows r e)

  -- added rows that don't pass
  pub keep_adds : (same_row : Row → Row → Bool) (new rows : List Row) → some_row p new ≡ false → keep p (add_all same_row new rows) ≡ keep p rows
  unfolding add_all add some_row
  keep_adds same_row [] rows e = refl
  keep_adds same_row (r ∷ new) rows e =
      let h = or_split (p r) _ e in
      keep_adds same_row new (add same_row r rows) h.1 ∙ at (some_row (same_row r) rows) h.0
    where
      at : (b : Bool) → p r ≡ false → keep p (cond b rows (rows ++ (r ∷ []))) ≡ keep p rows
      at true q = refl
      at false q = keep_last rows r q

-- rows that are all there: none is added
adds_none : {Row : Type 0} (same_row : Row → Row → Bool) (new rows : List Row) → some_row (λ r. not (some_row (same_row r) rows)) new ≡ false → add_all same_row new rows ≡ rows
unfolding add_all add some_row
adds_none same_row [] rows e = refl
adds_none same_row (r ∷ new) rows e = let h = or_split (not (some_row (same_row r) rows)) _ e in at (some_row (same_row r) rows) h.0 (adds_none same_row new rows h.1)
  where
    at : (b : Bool) → not b ≡ false → add_all same_row new rows ≡ rows → add_all same_row new (cond b rows (rows ++ (r ∷ []))) ≡ rows
    at b q below = grind arith

-- ---- filling

no_special-take : (k : ℕ) (text : List ℕ) (b : ℕ) → no_special (take (suc k) (b ∷ text)) ≡ true → (is_special b ≡ false) × (no_special (take k text) ≡ true)
unfolding no_special
no_special-take k text b e = let h = and_split (not (is_special b)) _ e in (isnt (is_special b) (λ q. true≢false (sym h.0 ∙ ap not q)), h.1)

none_special : (text : List ℕ) → no_special text ≡ true → some_row is_special text ≡ false
unfolding no_special some_row
none_special [] e = refl
none_special (b ∷ text) e =
    let h = and_split (not (is_special b)) _ e in
    rw (isnt (is_special b) (λ q. true≢false (sym h.0 ∙ ap not q))) (none_special text h.1)

-- no byte of an occurrence is special
in_occurrence : (b : ℕ) (text pattern : List ℕ) → no_special pattern ≡ true → occurs pattern (b ∷ text) ≡ true
    → (is_special b ≡ false) × (no_special (take (length pattern - 1) text) ≡ true)
unfolding occurs
in_occurrence b text [] plain e = absurd (true≢false (sym e))
in_occurrence b text (p ∷ pattern) plain e =
    let h = no_special-take (length pattern) text b (ap no_special (begins-take (p ∷ pattern) (b ∷ text) e) ∙ plain) in
    let less : suc (length pattern) - 1 ≡ length pattern = omega arith in
    (h.0, ap (λ (k : ℕ). no_special (take k text)) less ∙ h.1)

module _ (pattern new : List ℕ) (plain : no_special pattern ≡ true) (clean : no_special new ≡ true) where
  replaced_from : (k : ℕ) (text : List ℕ) → no_special (take k text) ≡ true → keep is_special (replace_from pattern new k text) ≡ keep is_special text
  unfolding replace_from keep
  replaced_from zero [] e = refl
  replaced_from (suc k) [] e = refl
  replaced_from (suc k) (b ∷ text) e =
      let h = no_special-take k text b e in
      replaced_from k text h.1 ∙ sym (ap (λ (c : Bool). cond c (b ∷ keep is_special text) (keep is_special text)) h.0)
  replaced_from zero (b ∷ text) e = at (occurs pattern (b ∷ text)) refl (replaced_from (length pattern - 1) text) (replaced_from zero text e)
    where
      at : (o : Bool) → occurs pattern (b ∷ text) ≡ o
          → (no_special (take (length pattern - 1) text) ≡ true → keep is_special (replace_from pattern new (length pattern - 1) text) ≡ keep is_special text)
          → keep is_special (replace_from pattern new zero text) ≡ keep is_special text
          → keep is_special (elim o [ true ↦ new ++ replace_from pattern new (length pattern - 1) text | false ↦ b ∷ replace_from pattern new zero text ])
          ≡ cond (is_special b) (b ∷ keep is_special text) (keep is_special text)
      at true q inside onward =
          let h = in_occurrence b text pattern plain q in
          keep_append is_special new _
          ∙ (ap (λ (front : List ℕ). front ++ keep is_special (replace_from pattern new (length pattern - 1) text)) (keep_none is_special new (none_special new clean))
          ∙ (inside h.1 ∙ sym (ap (λ (c : Bool). cond c (b ∷ keep is_special text) (keep is_special text)) h.0)))
      at false q inside onward = ap (λ (rest : List ℕ). cond (is_special b) (b ∷ rest) rest) onward

pub plain_fills : PlainFills
unfolding fill replace no_special is_special
plain_fills template id name clean clean-name =
    replaced_from (ascii "%u") (or_nothing name) refl clean-name zero _ refl
    ∙ replaced_from (ascii "%c") id refl clean zero template refl

-- ---- templates

-- the length of one kind
kind_append : (eq : Bool) (fs gs : List Filled) → length (of_kind eq (fs ++ gs)) ≡ length (of_kind eq fs) + length (of_kind eq gs)
unfolding of_kind
kind_append eq [] gs = omega arith
kind_append eq (f ∷ fs) gs = at (beq f.eq eq) (kind_append eq fs gs)
  where
    at : (b : Bool) → length (of_kind eq (fs ++ gs)) ≡ length (of_kind eq fs) + length (of_kind eq gs)
        → length (cond b (f ∷ of_kind eq (fs ++ gs)) (of_kind eq (fs ++ gs))) ≡ length (cond b (f ∷ of_kind eq fs) (of_kind eq fs)) + length (of_kind eq gs)
    at b h = grind arith

pub topics_once : (eq : Bool) (n : ℕ) (id : List ℕ) (name : Option (List ℕ)) (topics : List (TopicOf (List ℕ)))
    → length (of_kind eq (filled_topics n id name topics)) ≡ templates_in eq topics
unfolding of_kind filled_topics templates_in
topics_once eq n id name [] = refl
topics_once eq n id name (t ∷ topics) = at (is_template t.text) (beq t.eq eq) refl (topics_once eq n id name topics)
  where
    at : (template kind : Bool) → beq t.eq eq ≡ kind → length (of_kind eq (filled_topics n id name topics)) ≡ templates_in eq topics
        → length (of_kind eq (cond template (record { rule = n; eq = t.eq; text = fill t.text id name } ∷ filled_topics n id name topics) (filled_topics n id name topics)))
        ≡ cond (template && kind) (suc (templates_in eq topics)) (templates_in eq topics)
    at template kind q h = grind arith

rules_once : (eq : Bool) (n : ℕ) (id : List ℕ) (name : Option (List ℕ)) (rules : List (Option Meaning))
    → length (of_kind eq (filled_rules n id name rules)) ≡ templates_of eq rules
unfolding of_kind filled_rules templates_of
rules_once eq n id name [] = refl
rules_once eq n id name (r ∷ rules) =
    kind_append eq (filled_topics n id name (listed r)) (filled_rules (suc n) id name rules)
    ∙ (λ i. topics_once eq n id name (listed r) i + rules_once eq (suc n) id name rules i)

pub filled_once : FilledOnce
unfolding filled
filled_once eq text id name = rules_once eq 0 id name (rules_of text)

-- what `topic_at` answers tells whether the topic is a template of a kind
pub count_here : (eq : Bool) (n : ℕ) (id : List ℕ) (name : Option (List ℕ)) (line : List ℕ) (p : ℕ) {answer : Option Topic} → answer ≡ topic_answer (bind (value_of line p) topic_of)
    → length (of_kind eq (filled_template n id name (template_at line p))) ≡ count_of eq answer
unfolding template_at if_template topic_means topic_answer placed_topic filled_template of_kind count_of bind
count_here eq n id name line p e = by (bind (value_of line p) topic_of) ∙ ap (count_of eq) (sym e)
  where
    tests : (t : spec.Topic) (long template is eq : Bool)
        → length (of_kind eq (filled_template n id name (cond (not long && template) (Some (record { eq = is; text = t.text.text })) None)))
        ≡ count_of eq (cond long None (cond is (cond template (Some (EqTemplate t.text.at)) (Some (Eq t.text.at))) (cond template (Some (Template t.text.at)) (Some (Filter t.text.at)))))
    tests t long template is eq = grind arith

    by : (o : Option spec.Topic) → length (of_kind eq (filled_template n id name (bind o (λ t. if_template (topic_means t))))) ≡ count_of eq (topic_answer o)
    by None = refl
    by (Some t) = tests t (over text_limit t.text.text) (is_template t.text.text) t.eq eq

pub count_small : (eq : Bool) (t : Option Topic) → count_of eq t ≤ 1
unfolding count_of
count_small eq t = grind arith

-- ---- the loop over a line's topics

-- 1 for a template of this kind at a place, else 0
unfoldable pub count_at : Bool → List ℕ → ℕ → ℕ
count_at eq line p = length (of_kind eq (filled_template 0 [] None (template_at line p)))

module _ (eq : Bool) (line : List ℕ) where
  places_counted : (most : ℕ) (next : Option ℕ) → length (of_kind eq (filled_from most 0 [] None line next)) ≡ sum_by (count_at eq line) (places most line next)
  unfolding filled_from places of_kind count_at next_topic
  places_counted zero next = refl
  places_counted (suc most) None = refl
  places_counted (suc most) (Some p) =
      omega (arith, kind_append eq (filled_template 0 [] None (template_at line p)) (filled_from most 0 [] None line (next_item line p)), places_counted most (next_item line p), sum_by-cons (count_at eq line) p (places most line (next_item line p)))

  places_most : (most : ℕ) (next : Option ℕ) → length (places most line next) ≤ most
  unfolding places
  places_most zero next = omega arith
  places_most (suc most) None = omega arith
  places_most (suc most) (Some p) = omega (arith, places_most most (next_item line p))

  -- what is counted of a kind, with the topics left, is all; and no more are counted than topics passed
  pub record CountedIn (n : ℕ) (left : List ℕ) : Type 0 where
    pub all : n + sum_by (count_at eq line) left ≡ templates_in eq (listed (rule_on (read_rule line)))
    pub fits : n + length left ≤ length line + 1

  pub counted_first : {first : Option ℕ} → first ≡ first_topic line → CountedIn 0 (places_from line first)
  unfolding places_from
  counted_first {first} e =
      let most = suc (length line) in
      let walked = ap (λ (fs : List Filled). length (of_kind eq fs)) (ap (filled_from most 0 [] None line) e ∙ walk_line 0 [] None line most (omega arith)) in
      record {
        all = omega (arith, places_counted most first, walked, topics_once eq 0 [] None (listed (rule_on (read_rule line))));
        fits = omega (arith, places_most most first);
      }

  pub counted_topic : (n p : ℕ) {left rest : List ℕ} {answer : Option Topic} → left ≡ p ∷ rest → answer ≡ topic_answer (bind (value_of line p) topic_of)
      → CountedIn n left → CountedIn (n + count_of eq answer) rest
  unfolding count_at
  counted_topic n p {rest = rest} {answer} e is c =
      let here = count_here eq 0 [] None line p is in
      record {
        all = omega (arith, c.all, ap (sum_by (count_at eq line)) e, sum_by-cons (count_at eq line) p rest, here);
        fits = omega (arith, c.fits, ap length e, count_small eq answer);
      }

  pub counted_topics : (n : ℕ) {left : List ℕ} → left ≡ [] → CountedIn n left → n ≡ templates_in eq (listed (rule_on (read_rule line)))
  counted_topics n e c = omega (arith, c.all, ap (sum_by (count_at eq line)) e)

-- ---- the loop over the lines

-- a line with its LF takes no more bytes than the text, but for an LF that the last may lack
abbrev pub room_of : List (List ℕ) → ℕ
room_of = sum_by (λ line. length line + 1)

room_most : (text : List ℕ) → room_of (lines text) ≤ length text + 1
unfolding lines with_byte extend_line
room_most [] = omega arith
room_most (b ∷ text) = by (eqb b lf) (lines text) (room_most text)
  where
    by : (e : Bool) (rest : List (List ℕ)) → room_of rest ≤ length text + 1 → room_of (cond e ([] ∷ rest) (extend_line b rest)) ≤ suc (length text) + 1
    by true rest h = omega (arith, sum_by-cons (λ (line : List ℕ). length line + 1) [] rest)
    by false [] h = omega arith
    by false (line ∷ rest) h =
        omega (arith, sum_by-cons (λ (line : List ℕ). length line + 1) line rest, sum_by-cons (λ (line : List ℕ). length line + 1) (b ∷ line) rest)

-- what is counted of a kind, with what the lines left have, is all; and no more are counted than bytes passed
pub record CountedTo (eq : Bool) (text : List ℕ) (n : ℕ) (left : List (List ℕ)) : Type 0 where
  pub all : n + templates_of eq (map (λ line. rule_on (read_rule line)) left) ≡ templates_of eq (rules_of text)
  pub fits : n + room_of left ≤ length text + 1

pub counted_none : (eq : Bool) (text : List ℕ) → CountedTo eq text 0 (lines text)
unfolding rules_of
counted_none eq text = record { all = omega arith; fits = omega (arith, room_most text) }

module _ (eq : Bool) (text : List ℕ) (n more : ℕ) (line : List ℕ) {left rest : List (List ℕ)} (e : left ≡ line ∷ rest) (few : more ≤ length line + 1) where
  pub counted_fits : CountedTo eq text n left → n + more + room_of rest ≤ length text + 1
  counted_fits c = omega (arith, c.fits, ap room_of e, sum_by-cons (λ (line : List ℕ). length line + 1) line rest)

  pub counted_line : more ≡ templates_in eq (listed (rule_on (read_rule line))) → CountedTo eq text n left → CountedTo eq text (n + more) rest
  unfolding templates_of
  counted_line is c =
      let all = ap (λ (ls : List (List ℕ)). templates_of eq (map (λ line. rule_on (read_rule line)) ls)) e in
      record { all = omega (arith, c.all); fits = counted_fits c }

pub counted_all : (eq : Bool) (text : List ℕ) (n : ℕ) {left : List (List ℕ)} → left ≡ [] → CountedTo eq text n left → n ≡ templates_of eq (rules_of text)
unfolding templates_of
counted_all eq text n e c = let all = ap (λ (ls : List (List ℕ)). templates_of eq (map (λ line. rule_on (read_rule line)) ls)) e in omega (arith, c.all)

-- both counts together
pub both_counts : (text : List ℕ) {n m : ℕ} → n ≡ templates_of false (rules_of text) → m ≡ templates_of true (rules_of text) → record { filters = n; eqs = m } ≡ templates text
unfolding templates
both_counts text e f = λ i. record { filters = e i; eqs = f i }

pub both_here : (line : List ℕ) {n m : ℕ} → n ≡ templates_in false (listed (rule_on (read_rule line))) → m ≡ templates_in true (listed (rule_on (read_rule line)))
    → record { filters = n; eqs = m } ≡ line_templates line
unfolding line_templates
both_here line e f = λ i. record { filters = e i; eqs = f i }

-- ---- the used rows

pub rows_told : (o : Option View) {answer : Option Shape} {shape : Shape} → answer ≡ shape_of o → answer ≡ Some shape → (Some (record { filters = shape.filters; eqs = shape.eqs; notes = shape.notes })) ≡ used_in o
unfolding shape_of used_in
rows_told o {shape = shape} e is = grind arith

pub none_told : (o : Option View) {answer : Option Shape} → answer ≡ shape_of o → answer ≡ None → None ≡ used_in o
unfolding shape_of used_in
none_told o e is = grind arith

-- no table has over 4,096 rows
pub used_small : (s : List ℕ) {f e n : ℕ} → used_in (view s) ≡ (Some (record { filters = f; eqs = e; notes = n })) → (f ≤ 4096) × (e ≤ 4096) × (n ≤ 4096)
unfolding used_in
used_small s {f} {e} {n} is = by (view s) refl is
  where
    by : (o : Option View) → view s ≡ o → used_in o ≡ (Some (record { filters = f; eqs = e; notes = n })) → (f ≤ 4096) × (e ≤ 4096) × (n ≤ 4096)
    by None q r = cc
    by (Some v) q r =
        let w = well_formed_parts v (view-well_formed s v q) in
        let c = fit_range v.counts (openable_parts v.counts v.text w.head).counts in
        grind (arith, w.filters.fits, c.filters_most, w.eqs.fits, c.eqs_most, w.notes.fits, c.notes_most)

-- adding brings no more rows than there are new ones
added : {Row : Type 0} (same_row : Row → Row → Bool) (new rows : List Row) → length (add_all same_row new rows) ≤ length rows + length new
unfolding add_all add
added same_row [] rows = omega arith
added {Row} same_row (r ∷ new) rows = at (some_row (same_row r) rows) (added same_row new (add same_row r rows))
  where
    at : (b : Bool) → length (add_all same_row new (add same_row r rows)) ≤ length (cond b rows (rows ++ (r ∷ []))) + length new
        → length (add_all same_row new (add same_row r rows)) ≤ length rows + suc (length new)
    at b h = grind (arith, length-append)

pub enough : Enough
unfolding effect filter_change new_eqs note_change change filter_rows eq_rows note_rows filled_filters filled_eqs
enough v session id name =
    let fs = filled_filters v.text id name in
    let es = filled_eqs v.text id name in
    let few = length-keep (λ (f : Filled). valid_filter f.text) fs in
    let of-filters = filled_once false v.text id name in
    let of-eqs = filled_once true v.text id name in
    let filter-row : Filled → FilterRow = λ f. record { rule = f.rule; text = f.text; owner = id } in
    let eq-row : Filled → EqRow = λ f. record { rule = f.rule; text = f.text } in
    let note-row : Filled → NoteRow = λ f. record { session = session; text = f.text } in
    let filters-new : length (filter_rows v.text id name) ≡ length (keep (λ (f : Filled). valid_filter f.text) fs) = length-map (keep (λ (f : Filled). valid_filter f.text) fs) filter-row in
    let eqs-new : length (eq_rows v.text id name) ≡ length es = length-map es eq-row in
    let notes-new : length (note_rows session v.text id name) ≡ length fs = length-map fs note-row in
    record {
      filters = omega (arith, added same_filter (filter_rows v.text id name) v.filters);
      eqs = omega (arith, added same_eq (eq_rows v.text id name) v.eqs);
      notes = omega (arith, added same_note (note_rows session v.text id name) v.notes);
    }

-- ---- leaving

-- no level is a wildcard and begins with `$`
not_both : (level : Level) → ((is_plus level || is_hash level) && metadata level) ≡ false
unfolding is_only same metadata
not_both [] = refl
not_both (b ∷ level) = at (eqb b plus) (eqb b hash) refl refl
  where
    at : (single multi : Bool) → eqb b plus ≡ single → eqb b hash ≡ multi → (((single && same level []) || (multi && same level [])) && eqb b 36) ≡ false
    at single multi q r = grind arith

takes_itself : (ls : List Level) → takes ls ls ≡ true
unfolding takes ends takes_level
takes_itself [] = refl
takes_itself (l ∷ ls) = rw (same_itself l, takes_itself ls, or-true, or-true)

no_dollar : (ls : List Level) → dollar_rule ls ls ≡ false
unfolding dollar_rule
no_dollar [] = refl
no_dollar (l ∷ ls) = not_both l

-- a valid filter T-matches itself
pub tree_itself : (filter : List ℕ) → valid_filter filter ≡ true → tree_match filter filter ≡ true
unfolding tree_match checked_levels levels_if levels_match
tree_itself filter h = rw (h, takes_itself (levels filter), no_dollar (levels filter)) refl

-- of filled texts, those that clear a filter
abbrev clearing : List ℕ → Filled → Bool
clearing filter f = valid_filter f.text && tree_match filter f.text

-- the session's notes, once those of the filled texts are made
module _ (session : ℕ) (text id : List ℕ) (name : Option (List ℕ)) (notes : List NoteRow) where
  made : (p : List ℕ → Bool)
      → some_row (λ n. of_session session n && p n.text) (add_all same_note (note_rows session text id name) notes)
      ≡ (some_row (λ n. of_session session n && p n.text) notes || some_row (λ (f : Filled). p f.text) (filled_filters text id name))
  unfolding of_session note_rows
  made p =
      some_add_all note_rows_lem (λ n. of_session session n && p n.text) (note_rows session text id name) notes
      ∙ ap (λ (b : Bool). some_row (λ n. of_session session n && p n.text) notes || b)
      (some_map (λ n. of_session session n && p n.text) (λ (f : Filled). record { session = session; text = f.text }) (filled_filters text id name)
      ∙ some_on (filled_filters text id name) (λ f m. rw (eq-eqb session session refl) refl))

  made_alone : some_row (of_session session) notes ≡ false → (p : List ℕ → Bool)
      → some_row (λ n. of_session session n && p n.text) (add_all same_note (note_rows session text id name) notes)
      ≡ some_row (λ (f : Filled). p f.text) (filled_filters text id name)
  made_alone unused p =
      made p ∙ ap (λ (b : Bool). b || some_row (λ (f : Filled). p f.text) (filled_filters text id name)) (none_of notes (λ n e. rw e refl) unused)

  -- each row of the client's clears by its own note
  own_clear : some_row (λ r. not (cleared session id (add_all same_note (note_rows session text id name) notes) r)) (filter_rows text id name) ≡ false
  unfolding cleared clears filter_rows
  own_clear =
      some_map (λ r. not (cleared session id (add_all same_note (note_rows session text id name) notes) r)) (λ (f : Filled). record { rule = f.rule; text = f.text; owner = id })
      (keep (λ f. valid_filter f.text) (filled_filters text id name))
      ∙ (some_keep (λ (f : Filled). not (same id id && some_row (clears session f.text) (add_all same_note (note_rows session text id name) notes))) (λ f. valid_filter f.text) (filled_filters text id name)
      ∙ none_rows (filled_filters text id name) (λ f m. at f m (valid_filter f.text) refl))
    where
      by_itself : (f : Filled) → Memᴰ f (filled_filters text id name) → valid_filter f.text ≡ true
          → some_row (clears session f.text) (add_all same_note (note_rows session text id name) notes) ≡ true
      by_itself f m q =
          made (λ t. valid_filter t && tree_match f.text t)
          ∙ (ap (λ (b : Bool). some_row (clears session f.text) notes || b) (present (clearing f.text) m (rw (q, tree_itself f.text q) refl)) ∙ or-true (some_row (clears session f.text) notes))

      at : (f : Filled) → Memᴰ f (filled_filters text id name) → (b : Bool) → valid_filter f.text ≡ b
          → (not (same id id && some_row (clears session f.text) (add_all same_note (note_rows session text id name) notes)) && b) ≡ false
      at f m true q = rw (same_itself id, by_itself f m q) refl
      at f m false q = and-false (not (same id id && some_row (clears session f.text) (add_all same_note (note_rows session text id name) notes)))

pub takes_back : TakesBack
unfolding effect filter_change note_change new_eqs change add_all
takes_back v session id name =
    let notes = add_all same_note (note_rows session v.text id name) v.notes in
    let rows = add_all same_filter (filter_rows v.text id name) v.filters in
    let mine : FilterRow → Bool = λ r. some_row (same_filter r) (filter_rows v.text id name) in
    some_keep mine (λ r. not (cleared session id notes r)) rows ∙ none_rows rows (λ r m. at r (mine r) refl)
  where
    at : (r : FilterRow) (b : Bool) → some_row (same_filter r) (filter_rows v.text id name) ≡ b
        → (b && not (cleared session id (add_all same_note (note_rows session v.text id name) v.notes) r)) ≡ false
    at r true q =
        none_at (λ r. not (cleared session id (add_all same_note (note_rows session v.text id name) v.notes) r)) (own_clear session v.text id name v.notes)
        (member filter_rows_lem r (filter_rows v.text id name) q)
    at r false q = refl

pub entered : Entered
unfolding effect filter_change note_change new_eqs change
entered v own id name unused = (
  made_alone own v.text id name v.notes unused,
  adds_none same_eq (eq_rows v.text id name) (add_all same_eq (eq_rows v.text id name) v.eqs) (none_rows (eq_rows v.text id name) (λ r m. ap not (there r m))),
)
  where
    there : (r : EqRow) → Memᴰ r (eq_rows v.text id name) → some_row (same_eq r) (add_all same_eq (eq_rows v.text id name) v.eqs) ≡ true
    there r m =
        some_add_all eq_rows_lem (same_eq r) (eq_rows v.text id name) v.eqs
        ∙ (ap (λ (b : Bool). some_row (same_eq r) v.eqs || b) (present (same_eq r) m (eq_rows_lem.itself r)) ∙ or-true (some_row (same_eq r) v.eqs))

not-and : (b : Bool) → (b && not b) ≡ false
not-and true = refl
not-and false = refl

-- the notes of a shared number that come and go
notes_gone : (shared : ℕ) (text id : List ℕ) (name : Option (List ℕ)) (notes : List NoteRow) → some_row (of_session shared) notes ≡ false
    → keep (λ n. not (of_session shared n)) (add_all same_note (note_rows shared text id name) notes) ≡ notes
unfolding of_session note_rows
notes_gone shared text id name notes unused =
    keep_adds (λ n. not (of_session shared n)) same_note (note_rows shared text id name) notes made-shared
    ∙ keep_all (λ n. not (of_session shared n)) notes (none_of notes (λ n e. rw e refl) unused)
  where
    made-shared : some_row (λ n. not (of_session shared n)) (note_rows shared text id name) ≡ false
    made-shared =
        some_map (λ n. not (of_session shared n)) (λ (f : Filled). record { session = shared; text = f.text }) (filled_filters text id name)
        ∙ none_rows (filled_filters text id name) (λ f m. rw (eq-eqb shared shared refl) refl)

pub enters_alike : EntersAlike
unfolding enter effect filter_change note_change new_eqs change add_all
enters_alike v w own shared id name alike unused = (
  record {
    text = alike.text;
    filters = λ i. add_all same_filter (filter_rows (alike.text i) id name) (alike.filters i);
    eqs = λ i. add_all same_eq (eq_rows (alike.text i) id name) (alike.eqs i);
  },
  notes_gone shared w.text id name w.notes unused,
)

pub leaves_alike : LeavesAlike
unfolding depart leave effect filter_change note_change new_eqs change add_all clears cleared
leaves_alike v w own shared id name alike unused notes-are eqs-there = (
  record {
    text = alike.text;
    filters =
        keep_adds (λ r. not (cleared shared id (add_all same_note (note_rows shared w.text id name) w.notes) r)) same_filter (filter_rows w.text id name) w.filters
        (own_clear shared w.text id name w.notes)
        ∙ (λ i. keep (λ r. not (same r.owner id && clear-alike r.text i)) (alike.filters i));
    eqs = (λ i. add_all same_eq (eq_rows (alike.text i) id name) (alike.eqs i)) ∙ eqs-there;
  },
  notes_gone shared w.text id name w.notes unused,
  some_keep (of_session own) (λ n. not (of_session own n)) v.notes ∙ none_rows v.notes (λ n m. not-and (of_session own n)),
)
  where
    clear-alike : (filter : List ℕ)
        → some_row (clears shared filter) (add_all same_note (note_rows shared w.text id name) w.notes) ≡ some_row (clears own filter) v.notes
    clear-alike filter =
        made_alone shared w.text id name w.notes unused (λ t. valid_filter t && tree_match filter t)
        ∙ (ap (λ (text : List ℕ). some_row (clearing filter) (filled_filters text id name)) alike.text ∙ sym (notes-are (λ t. valid_filter t && tree_match filter t)))
