-- Laws of a rule's topics: a topic by its place is the topic of the tree. Assumes nothing.
use Prim.Native.Nat.{ℕ, zero, suc, ◌+◌, ◌-◌, ◌≤◌, ◌<◌}
use native.Mathlib.Omega.{arith}
use mathlib.Core.Path.{◌≡◌, refl, sym, ap, ◌∙◌}
use mathlib.Core.Bool.{Bool, true, false, ◌&&◌, ◌||◌, cond, true≢false}
use Rattle.std.specs.List.{list_any, list_all}
use mathlib.Core.List.{List, [], ◌∷◌}
use Rattle.std.specs.Result.{result_ok}
use Rattle.std.specs.Prelude.{Option, None, Some, is_some, option_map, option_and_then, Result}
use Rattle.text.specs.Maybe.{bind}
use lib.Dec.{eqb}
use lib.ListN.{length, take, drop}
use borrow.Author.Tests.{ne_eqb, eq-eqb, eqb-true, lt-ltb}
use Rattle.text.specs.Ascii.{ascii}
use Rattle.text.specs.Text.{begins, contains}
use Rattle.text.proofs.Laws.{isnt}
use Rattle.topic.specs.Topic.{valid_filter}
use Rattle.json_text.specs.Utf8.{byte_at, between}
use Rattle.json_text.specs.Strings.{Decoded, string_at}
use Rattle.json_text.specs.Json.{object, Members, is_at, kind_of, depth_limit}
use Rattle.json_text.specs.Access.{kind_at, first_item, next_item, places, places_from, copied, decoded_into}
use Rattle.json_text.specs.declared.Kind.TheVariants.{Text, Array, Object}
use Rattle.json_text.proofs.ValueLaws.{All, value_past}
use Rattle.json_text.proofs.PlaceLaws.{next_onward, first_onward}
use Rattle.json_text.proofs.AccessSteps.{kind_opens}
use Rattle.json_text.proofs.PlainLaws.{Plain}
use Rattle.rule.specs.Rule as spec
use Rattle.rule.specs.Rule.{Located, Value, value_named, as_text, as_object, is_template, topic_of}
use Rattle.rule.specs.Limits.{text_limit}
use Rattle.rule.proofs.DecodeLaws.{decoded_length, ok_told, err_told}
use Rattle.rule.specs.Places.{value_of, member_of, text_place, placed_topic, topic_answer, text_topic, string_topic, topics_from, are_topics, topics_here}
use Rattle.rule.specs.declared.Topic.{Topic}
use Rattle.rule.proofs.MemberLaws.{neither, in_object, string_value, text_value, StringIs, member_string}
use Rattle.json_text.specs.declared.DecodeError.{DecodeError}

-- ---- the topic of a string

-- a text over the limit is no topic
text_over : (eq : Bool) (at : ℕ) (t : List ℕ) → text_limit < length t → text_topic eq at t ≡ None
unfolding text_topic placed_topic
text_over eq at t h = rw (lt-ltb text_limit (length t) h) (by (eq || (is_template t || valid_filter t)))
  where
    by : (b : Bool) → ◌≡◌ {A = Option Topic} (cond b None None) None
    by true = refl
    by false = refl

-- a plain string is its own text
pub string_plain : (eq : Bool) (line : List ℕ) (at : ℕ) {end : ℕ} → Plain line at end
    → string_topic eq line at ≡ text_topic eq at (take (end - (at + 1)) (drop (at + 1) line))
unfolding string_topic
string_plain eq line at p = ap (option_and_then (λ (d : Decoded). text_topic eq at d.text)) p.string

-- another is decoded, where it fits
pub string_decoded : (eq : Bool) (line : List ℕ) (at : ℕ) (before : List ℕ) {answer : Result ℕ DecodeError} {after : List ℕ} {n : ℕ}
    → answer ≡ copied (length before) (string_at line at) → after ≡ decoded_into before (string_at line at) → result_ok answer ≡ Some n
    → string_topic eq line at ≡ text_topic eq at (take n after)
unfolding string_topic
string_decoded eq line at before e f q =
    let c = decoded_length before (string_at line at) e f (ok_told q) in
    ap (option_and_then (λ (d : Decoded). text_topic eq at d.text)) c.is ∙ ap (text_topic eq at) (sym c.front)

pub string_unfit : (eq : Bool) (line : List ℕ) (at : ℕ) {answer : Result ℕ DecodeError} → answer ≡ copied text_limit (string_at line at) → result_ok answer ≡ None
    → string_topic eq line at ≡ None
unfolding string_topic
string_unfit eq line at e q = by (string_at line at) refl
  where
    by : (o : Option Decoded) → string_at line at ≡ o → option_and_then (λ (d : Decoded). text_topic eq at d.text) o ≡ None
    by None f = refl
    by (Some d) f = text_over eq at d.text ((err_told text_limit (string_at line at) e q).far d f)

-- ---- templates

-- a text without `%` has no mark
no_mark : (mark : ℕ) (t : List ℕ) → list_any (λ y. eqb y 0x25) t ≡ false → contains (0x25 ∷ mark ∷ []) t ≡ false
unfolding contains begins
no_mark mark [] h = refl
no_mark mark (b ∷ t) h = by (eqb b 0x25) refl h (no_mark mark t)
  where
    by : (x : Bool) → eqb b 0x25 ≡ x → (x || list_any (λ y. eqb y 0x25) t) ≡ false
        → (list_any (λ y. eqb y 0x25) t ≡ false → contains (0x25 ∷ mark ∷ []) t ≡ false)
        → ((eqb 0x25 b && begins (mark ∷ []) t) || contains (0x25 ∷ mark ∷ []) t) ≡ false
    by true e k more = absurd (true≢false k)
    by false e k more = rw (ne_eqb 0x25 b (λ q. absurd (true≢false (sym (eq-eqb b 0x25 (sym q)) ∙ e)))) (more k)

pub template_none : (t : List ℕ) → list_any (λ y. eqb y 0x25) t ≡ false → is_template t ≡ false
unfolding is_template
template_none t h = rw (no_mark 0x75 t h) (no_mark 0x63 t h)

-- ---- the topic of a value, by its kind

module _ (line : List ℕ) (at : ℕ) where
  pub topic_string : kind_at line at ≡ Text → topic_answer (bind (value_of line at) topic_of) ≡ string_topic false line at
  unfolding string_value string_topic text_topic bind topic_of as_object as_text topic_answer
  topic_string k = ap (λ (o : Option Value). topic_answer (bind o topic_of)) (text_value line at k) ∙ by (string_at line at)
    where
      by-test : (b : Bool) (t : spec.Topic) → topic_answer (cond b (Some t) None) ≡ cond b (placed_topic t) None
      by-test true t = refl
      by-test false t = refl

      by : (o : Option Decoded) → topic_answer (bind (string_value at o) topic_of) ≡ option_and_then (λ (d : Decoded). text_topic false at d.text) o
      by None = refl
      by (Some d) = by-test (is_template d.text || valid_filter d.text) (record { eq = false; text = record { at = at; text = d.text } })

  as_eq : Located → spec.Topic
  as_eq t = record { eq = true; text = t }

  topic_object : kind_at line at ≡ Object → bind (value_of line at) topic_of ≡ option_map as_eq (bind (member_of line at (ascii "eq")) as_text)
  unfolding topic_of as_object member_of as_eq
  topic_object k =
      in_object topic_of (λ v. option_map as_eq (bind (bind (as_object v) (value_named (ascii "eq"))) as_text)) line at among k ∙ by (value_of line at)
    where
      among : (p : ℕ) (ms : Members) →
          topic_of (record { at = p; value = object ms })
          ≡ option_map as_eq (bind (bind (as_object (record { at = p; value = object ms })) (value_named (ascii "eq"))) as_text)
      among p ms = unfold bind in refl

      by : (o : Option Value)
          → bind o (λ v. option_map as_eq (bind (bind (as_object v) (value_named (ascii "eq"))) as_text))
          ≡ option_map as_eq (bind (bind o (λ v. bind (as_object v) (value_named (ascii "eq")))) as_text)
      by None = unfold bind in refl
      by (Some v) = unfold bind in refl

  pub topic_eq : {p : ℕ} → kind_at line at ≡ Object → text_place (bind (member_of line at (ascii "eq")) as_text) ≡ Some p
      → topic_answer (bind (value_of line at) topic_of) ≡ string_topic true line p
  unfolding text_place as_eq topic_answer string_topic text_topic
  topic_eq {p} k e = ap topic_answer (topic_object k) ∙ by (bind (member_of line at (ascii "eq")) as_text) (member_string (ascii "eq") line at) e
    where
      by : (o : Option Located) → All (StringIs line) o → text_place o ≡ Some p → topic_answer (option_map as_eq o) ≡ string_topic true line p
      by None h q = let z : ◌≡◌ {A = ℕ} 0 1 = cc in absurd (omega arith)
      by (Some l) h q =
          let w : l.at ≡ p = cc in
          let t = sym h.2 in
          (λ i. placed_topic (record { eq = true; text = record { at = l.at; text = t i } }))
          ∙ (sym (ap (option_and_then (λ (d : Decoded). text_topic true l.at d.text)) h.1) ∙ ap (string_topic true line) w)

  pub topic_no_eq : kind_at line at ≡ Object → text_place (bind (member_of line at (ascii "eq")) as_text) ≡ None
      → topic_answer (bind (value_of line at) topic_of) ≡ None
  unfolding text_place topic_answer
  topic_no_eq k e = ap topic_answer (topic_object k) ∙ by (bind (member_of line at (ascii "eq")) as_text) e
    where
      by : (o : Option Located) → text_place o ≡ None → topic_answer (option_map as_eq o) ≡ None
      by None q = refl
      by (Some l) q = let z : ◌≡◌ {A = ℕ} 0 1 = cc in absurd (omega arith)

  pub topic_other : (kind_at line at ≡ Text → ⊥) → (kind_at line at ≡ Object → ⊥) → topic_answer (bind (value_of line at) topic_of) ≡ None
  unfolding topic_answer topic_of bind
  topic_other t o = ap topic_answer (neither topic_of line at (λ v e f. by (as_object v) (as_text v) e f) t o)
    where
      by : (o : Option Members) (t : Option Located) → o ≡ None → t ≡ None
          → ◌≡◌ {A = Option spec.Topic}
          (elim o as (λ _. Option spec.Topic) [
            | Some ms ↦ option_map (λ t. record { eq = true; text = t }) (bind (value_named (ascii "eq") ms) as_text)
            | None ↦ bind t (λ t. cond (is_template t.text || valid_filter t.text) (Some (record { eq = false; text = t })) None)
          ])
          None
      by None None e f = refl
      by None (Some l) e f = let z : ◌≡◌ {A = ℕ} 0 1 = cc in absurd (omega arith)
      by (Some ms) t e f = let z : ◌≡◌ {A = ℕ} 0 1 = cc in absurd (omega arith)

-- ---- the topics of an array

topics_end : (most : ℕ) (line : List ℕ) → topics_from most line None ≡ true
unfolding topics_from
topics_end zero line = refl
topics_end (suc most) line = refl

-- is the element at a place a topic?
unfoldable pub is_topic : List ℕ → ℕ → Bool
is_topic line p = is_some (topic_answer (bind (value_of line p) topic_of))

past_topic : (line : List ℕ) (p : ℕ) → length line ≤ p → is_topic line p ≡ false
unfolding is_topic value_of topic_answer bind
past_topic line p h = rw (value_past depth_limit line p h)

topics_places : (most : ℕ) (line : List ℕ) (place : Option ℕ) → list_all (is_topic line) (places most line place) ≡ topics_from most line place
unfolding places topics_from is_topic
topics_places zero line place = refl
topics_places (suc most) line None = refl
topics_places (suc most) line (Some p) = ap (λ (b : Bool). is_topic line p && b) (topics_places most line (next_item line p))

-- no more of them stand in the line than it has bytes
topics_enough : (n : ℕ) (line : List ℕ) (p : ℕ) → 0 < n → length line < p + n → topics_from (suc n) line (Some p) ≡ topics_from n line (Some p)
unfolding topics_from is_topic
topics_enough zero line p l h = absurd (omega arith)
topics_enough (suc n) line p l h = by n (topics_enough n line) (is_topic line p) (next_item line p) refl refl h
  where
    by : (n : ℕ) → ((q : ℕ) → 0 < n → length line < q + n → topics_from (suc n) line (Some q) ≡ topics_from n line (Some q))
        → (t : Bool) (next : Option ℕ) → is_topic line p ≡ t → next_item line p ≡ next → length line < p + suc n
        → (t && topics_from (suc n) line next) ≡ (t && topics_from n line next)
    by n again false next e f h = refl
    by n again true None e f h = topics_end (suc n) line ∙ sym (topics_end n line)
    by zero again true (Some q) e f h = absurd (true≢false (sym e ∙ past_topic line p (omega arith)))
    by (suc n) again true (Some q) e f h = again q (omega arith) (omega (arith, next_onward line p f))

pub topics_all : (line : List ℕ) (at : ℕ)
    → list_all (is_topic line) (places_from line (first_item 0x5b 0x5d line at)) ≡ are_topics line (first_item 0x5b 0x5d line at)
unfolding places_from are_topics
topics_all line at = topics_places (suc (length line)) line (first_item 0x5b 0x5d line at) ∙ by (first_item 0x5b 0x5d line at) refl
  where
    by : (first : Option ℕ) → first_item 0x5b 0x5d line at ≡ first → topics_from (suc (length line)) line first ≡ topics_from (length line) line first
    by None e = topics_end (suc (length line)) line ∙ sym (topics_end (length line) line)
    by (Some p) e = let f = first_onward line at e in topics_enough (length line) line p (omega arith) (omega arith)

pub topics_array : (line : List ℕ) (at : ℕ) → kind_at line at ≡ Array → are_topics line (first_item 0x5b 0x5d line at) ≡ topics_here line at
unfolding topics_here kind_at
topics_array line at k = sym (ap (λ (b : Bool). b && are_topics line (first_item 0x5b 0x5d line at)) (kind_opens false line at k))

pub topics_other : (line : List ℕ) (at : ℕ) → (kind_at line at ≡ Array → ⊥) → topics_here line at ≡ false
unfolding topics_here is_at kind_at
topics_other line at k = ap (λ (b : Bool). b && are_topics line (first_item 0x5b 0x5d line at)) (isnt (eqb (byte_at line at) 0x5b) never)
  where
    never : eqb (byte_at line at) 0x5b ≡ true → ⊥
    never e = k (ap kind_of (eqb-true (byte_at line at) 0x5b e) ∙ unfold kind_of between in refl)
