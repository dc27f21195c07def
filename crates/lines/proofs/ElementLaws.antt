-- The elements of a line, by their places: what is read at a place is what the line's tree has there. Assumes nothing.
use Prim.Native.Nat.{ℕ, zero, suc, ◌≤◌, ◌<◌}
use native.Mathlib.Omega.{arith}
use mathlib.Core.Path.{◌≡◌, refl, sym, ap, subst, ◌∙◌}
use mathlib.Core.Bool.{Bool, true, false, cond, true≢false}
use mathlib.Core.List.{List}
use Rattle.std.specs.Prelude.{Option, None, Some, Result, Ok, Err}
use Rattle.std.specs.Option.{option_map, is_some}
use Rattle.std.specs.Result.{result_ok}
use Rattle.text.specs.Maybe.{bind}
use Rattle.std.proofs.lemmas.Option.{none-some}
use lib.Dec.{eqb, leb}
use lib.ListN.{length, take, replicate, length-replicate}
use borrow.Author.Tests.{lt-ltb, le-ltb, le-leb, eq-eqb, ne_eqb}
use Rattle.text.specs.Text.{same, written}
use Rattle.json_text.specs.Strings.{Decoded, string_at}
use Rattle.json_text.specs.Json.{Json, null, bool, number, text, array, object, Elements, no_element, element, skip_blanks, depth_limit, line_value}
use Rattle.json_text.specs.Access.{after_comma, next_item, string_is, count, copied, decoded_into, truth_of}
use Rattle.json_text.proofs.ValueLaws.{value_next, value_past}
use Rattle.json_text.proofs.AccessLaws.{ElementsIn, element_place, array_is, line_is, truth_is}
use Rattle.rule.specs.Limits.{line_limit}
use Rattle.rule.specs.Rule.{Value, nth, as_text, as_number, as_bool}
use Rattle.rule.specs.Places.{place_of}
use Rattle.authinfo.specs.Given.{given}
use Rattle.rule.specs.Members.{number_from, truth_from}
use Rattle.rule.proofs.IdentityLaws.{Listed, unlisted, listed}
use Rattle.rule.proofs.StandsLaws.{ValueStands, ElementsStand, nth_stands}
use Rattle.text.proofs.Laws.{written-take}
use Rattle.lines.specs.Call.{as_string, is_null, or_null, or_zero, as_protocol, having}
use Rattle.reader.specs.Reader.{offset_of, place_at, first_offset, next_offset, offset_after, element_after, fields_here}
use Rattle.lines.specs.Reading.{string_from, word_from, null_from, given_by, given_from, earlier_from, protocol_by, protocol_from}
use Rattle.lines.proofs.TextLaws.{text_short}
use Rattle.lines.proofs.ValueLaws.{text_of_string, string_value, number_value, null_value}
use Rattle.reader.specs.declared.Fields.{Fields}
use Rattle.json_text.specs.declared.DecodeError.TheVariants.{NoText, TooLong}
use Rattle.json_text.specs.declared.DecodeError.{DecodeError}

-- ---- the elements and their places

first_place : (es : Elements) → element_place es ≡ place_of (nth 0 es)
unfolding element_place place_of nth
first_place no_element = refl
first_place (element at value rest) = refl

-- at the line's end nothing comes next
end_next : (line : List ℕ) → next_item line (length line) ≡ None
unfolding next_item after_comma
end_next line = ap (after_comma line) (value_past depth_limit line (length line) (omega arith))

next_place : (line : List ℕ) (n : ℕ) (es : Elements) (low high : ℕ) → ElementsIn line low high es
    → next_item line (offset_of line (place_of (nth n es))) ≡ place_of (nth (suc n) es)
unfolding offset_of place_of nth
next_place line n no_element low high h = end_next line
next_place line zero (element at value rest) low high h = h.2.onward ∙ first_place rest
next_place line (suc n) (element at value rest) low high h = next_place line n rest h.0 high h.3

-- a reader that is at the line's end is nowhere; one that is at a value is at its place, since a value has a byte
pub end_place : (line : List ℕ) → place_at line (offset_of line None) ≡ None
unfolding place_at offset_of
end_place line = ap (λ (b : Bool). cond b (Some (length line)) None) (le-ltb (length line) (length line) (omega arith))

value_place : (line : List ℕ) (o : Option Value) → Listed (ValueStands line) o → place_at line (offset_of line (place_of o)) ≡ place_of o
unfolding place_of
value_place line o unlisted = end_place line
value_place line o (listed v s) =
    unfold place_at offset_of in
    ap (λ (b : Bool). cond b (Some v.at) None) (lt-ltb v.at (length line) (let h = value_next depth_limit line v.at s.reads in omega arith))

module _ (line : List ℕ) (es : Elements) (e : line_value line ≡ Some (array es)) where
  pub line_stands : ElementsStand line es
  line_stands =
      let h = line_is line e in
      record { low = _; high = _; elements = (array_is line (skip_blanks line 0) h.1 refl).elements }

  -- each element stands at its place
  pub element_stands : (n : ℕ) → Listed (ValueStands line) (nth n es)
  element_stands n = let s = line_stands in nth_stands line n es s.low s.high s.elements

  -- a reader that moved n times is at element n, or at the line's end
  offset_is : (n : ℕ) → offset_after line n ≡ offset_of line (place_of (nth n es))
  unfolding offset_after first_offset next_offset
  offset_is zero = let h = line_is line e in ap (offset_of line) ((array_is line (skip_blanks line 0) h.1 refl).first ∙ first_place es)
  offset_is (suc n) = let s = line_stands in ap (next_offset line) (offset_is n) ∙ ap (offset_of line) (next_place line n es s.low s.high s.elements)

  element_is : (n : ℕ) → element_after line n ≡ place_of (nth n es)
  unfolding element_after
  element_is n = ap (place_at line) (offset_is n) ∙ value_place line (nth n es) (element_stands n)

  pub fields_are :
      fields_here line
      ≡ record {
        first = place_of (nth 0 es);
        second = place_of (nth 1 es);
        third = place_of (nth 2 es);
        fourth = place_of (nth 3 es);
        fifth = place_of (nth 4 es);
        sixth = place_of (nth 5 es);
        seventh = place_of (nth 6 es);
        eighth = place_of (nth 7 es);
        ninth = place_of (nth 8 es);
      }
  unfolding fields_here
  fields_are =
      λ i.
      record {
        first = element_is 0 i;
        second = element_is 1 i;
        third = element_is 2 i;
        fourth = element_is 3 i;
        fifth = element_is 4 i;
        sixth = element_is 5 i;
        seventh = element_is 6 i;
        eighth = element_is 7 i;
        ninth = element_is 8 i;
      }

-- ---- how many elements there are

nth_some : (n : ℕ) (es : Elements) {v : Value} → nth n es ≡ Some v → n < count es
unfolding nth count
nth_some n no_element q = absurd (none-some _ q)
nth_some zero (element at value rest) q = omega arith
nth_some (suc n) (element at value rest) q = let h = nth_some n rest q in omega arith

nth_none : (n : ℕ) (es : Elements) → nth n es ≡ None → count es ≤ n
unfolding nth count
nth_none n no_element q = omega arith
nth_none zero (element at value rest) q = absurd (none-some _ (sym q))
nth_none (suc n) (element at value rest) q = let h = nth_none n rest q in omega arith

place_some : (o : Option Value) → is_some (place_of o) ≡ true → (v : Value) × (o ≡ Some v)
unfolding place_of
place_some None q = absurd (true≢false (sym q))
place_some (Some v) q = (v, refl)

place_none : (o : Option Value) → is_some (place_of o) ≡ false → o ≡ None
unfolding place_of
place_none None q = refl
place_none (Some v) q = absurd (true≢false q)

-- an element behind them: not this many
pub having_more : {A : Type 0} (n : ℕ) (es : Elements) (call : Option A) → is_some (place_of (nth n es)) ≡ true → having n es call ≡ None
unfolding having
having_more n es call q =
    let v = place_some (nth n es) q in
    ap (λ (b : Bool). cond b call None) (ne_eqb (count es) n (λ h. omega (arith, nth_some n es v.1)))

-- none behind them: this many, or there is no such call either
pub having_all : {A : Type 0} (n : ℕ) (es : Elements) (call : Option A) → is_some (place_of (nth (suc n) es)) ≡ false → (nth n es ≡ None → call ≡ None) → having (suc n) es call ≡ call
unfolding having
having_all {A} n es call q f = by (nth n es) refl
  where
    few : count es ≤ suc n
    few = nth_none (suc n) es (place_none (nth (suc n) es) q)

    by : (o : Option Value) → nth n es ≡ o → cond (eqb (count es) (suc n)) call None ≡ call
    by None k = ap (λ (b : Bool). cond b call None) (ne_eqb (count es) (suc n) (λ h. omega (arith, nth_none n es k))) ∙ sym (f k)
    by (Some v) k = ap (λ (b : Bool). cond b call None) (eq-eqb (count es) (suc n) (omega (arith, few, nth_some n es k)))

-- where the last of them is read, there are this many
pub having_read : {A B : Type 0} (n : ℕ) (es : Elements) (call : Option A) (read : Value → Option B) {b : B} → is_some (place_of (nth (suc n) es)) ≡ false → bind (nth n es) read ≡ Some b
    → having (suc n) es call ≡ call
unfolding bind
having_read n es call read q e = having_all n es call q (λ k. absurd (none-some _ (sym (ap (λ (o : Option Value). bind o read) k) ∙ e)))

pub having-none : {A : Type 0} (n : ℕ) (es : Elements) → having {A = A} n es None ≡ None
unfolding having
having-none n es = by (eqb (count es) n)
  where
    by : {A : Type 0} (b : Bool) → ◌≡◌ {A = Option A} (cond b None None) None
    by true = refl
    by false = refl

-- ---- what stands at an element's place

-- the answer for a text that is read, whole; for a text or `null`
unfoldable pub copied_text : Option (List ℕ) → Result ℕ DecodeError
copied_text None = Err NoText
copied_text (Some t) = Ok (length t)

unfoldable pub given_text : Option (Option (List ℕ)) → Option (Option ℕ)
given_text None = None
given_text (Some None) = Some None
given_text (Some (Some t)) = Some (Some (length t))

-- is it this text?
unfoldable pub is_text : List ℕ → Option (List ℕ) → Bool
is_text word None = false
is_text word (Some t) = same t word

-- ---- the element, or none

module _ (line : List ℕ) where
  string_short : (place : Option ℕ) {d : Decoded} → string_from line place ≡ Some d → length d.text ≤ length line
  unfolding string_from
  string_short None q = absurd (none-some _ q)
  string_short (Some p) q = text_short line p q

  pub string_element : (o : Option Value) → Listed (ValueStands line) o → text_of_string (string_from line (place_of o)) ≡ bind o as_string
  unfolding string_from place_of bind
  string_element o unlisted = refl
  string_element o (listed v s) = string_value line v s

  pub number_element : (o : Option Value) → Listed (ValueStands line) o → number_from line (place_of o) ≡ bind o as_number
  unfolding number_from place_of bind
  number_element o unlisted = refl
  number_element o (listed v s) = number_value line v s

  pub null_element : (o : Option Value) → Listed (ValueStands line) o → null_from line (place_of o) ≡ elim o [ None ↦ false | Some v ↦ is_null v ]
  unfolding null_from place_of
  null_element o unlisted = refl
  null_element o (listed v s) = null_value line v s

  pub word_element : (word : List ℕ) (o : Option Value) → Listed (ValueStands line) o → word_from line (place_of o) word ≡ is_text word (bind o as_string)
  unfolding word_from place_of bind is_text string_is
  word_element word o unlisted = refl
  word_element word o (listed v s) = by (string_at line v.at) ∙ ap (is_text word) (string_value line v s)
    where
      by : (x : Option Decoded) → elim x as (λ _. Bool) [ None ↦ false | Some d ↦ same d.text word ] ≡ is_text word (text_of_string x)
      by None = refl
      by (Some d) = refl

  pub copied_element : (room : ℕ) (o : Option Value) → Listed (ValueStands line) o → length line ≤ room
      → copied room (string_from line (place_of o)) ≡ copied_text (bind o as_string)
  unfolding copied copied_text
  copied_element room o s h = by (string_from line (place_of o)) refl ∙ ap copied_text (string_element o s)
    where
      by : (x : Option Decoded) → string_from line (place_of o) ≡ x → copied room x ≡ copied_text (text_of_string x)
      by None q = refl
      by (Some d) q =
          ap (λ (b : Bool). cond b (Ok (length d.text)) (Err TooLong)) (le-leb (length d.text) room (omega (arith, h, string_short (place_of o) q)))

  pub given_element : (room : ℕ) (o : Option Value) → Listed (ValueStands line) o → length line ≤ room → given_from room line (place_of o) ≡ given_text (bind o (or_null as_string))
  unfolding given_from bind or_null
  given_element room o s h = (λ i. given_by (copied_element room o s h i) (null_element o s i)) ∙ by o
    where
      value : (j : Json) (at : ℕ)
          → given_by (copied_text (as_string (record { at = at; value = j }))) (is_null (record { at = at; value = j }))
          ≡ given_text (cond (is_null (record { at = at; value = j })) (Some None) (option_map Some (as_string (record { at = at; value = j }))))
      value null at = unfold given_by copied_text given_text as_string as_text is_null in refl
      value (bool b) at = unfold given_by copied_text given_text as_string as_text is_null in refl
      value (number n) at = unfold given_by copied_text given_text as_string as_text is_null in refl
      value (text t) at = unfold given_by copied_text given_text as_string as_text is_null in refl
      value (array es) at = unfold given_by copied_text given_text as_string as_text is_null in refl
      value (object ms) at = unfold given_by copied_text given_text as_string as_text is_null in refl

      by : (o : Option Value) → given_by (copied_text (bind o as_string)) (elim o as (λ _. Bool) [ None ↦ false | Some v ↦ is_null v ]) ≡ given_text (bind o (or_null as_string))
      by None = unfold given_by copied_text given_text in refl
      by (Some v) = value v.value v.at

  pub earlier_element : (o : Option Value) → Listed (ValueStands line) o → earlier_from line (place_of o) ≡ option_map or_zero (bind o (or_null as_number))
  unfolding earlier_from bind or_null
  earlier_element o s = (λ i. cond (null_element o s i) (Some 0) (number_element o s i)) ∙ by o
    where
      value : (j : Json) (at : ℕ)
          → cond (is_null (record { at = at; value = j })) (Some 0) ((as_number (record { at = at; value = j })))
          ≡ (option_map or_zero (cond (is_null (record { at = at; value = j })) (Some None) (option_map Some (as_number (record { at = at; value = j })))))
      value null at = unfold as_number is_null or_zero in refl
      value (bool b) at = unfold as_number is_null or_zero in refl
      value (number n) at = unfold as_number is_null or_zero in refl
      value (text t) at = unfold as_number is_null or_zero in refl
      value (array es) at = unfold as_number is_null or_zero in refl
      value (object ms) at = unfold as_number is_null or_zero in refl

      by : (o : Option Value)
          → cond (elim o as (λ _. Bool) [ None ↦ false | Some v ↦ is_null v ]) (Some 0) ((bind o as_number))
          ≡ option_map or_zero (bind o (or_null as_number))
      by None = refl
      by (Some v) = value v.value v.at

  pub protocol_element : (o : Option Value) → Listed (ValueStands line) o → protocol_from line (place_of o) ≡ bind o (or_null as_protocol)
  unfolding protocol_from bind or_null
  protocol_element o s = (λ i. cond (null_element o s i) (Some None) (protocol_by (number_element o s i))) ∙ by o
    where
      up_to : (n : ℕ) (b : Bool) → cond b (Some (Some n)) None ≡ option_map Some (cond b (Some n) None)
      up_to n true = refl
      up_to n false = refl

      value : (j : Json) (at : ℕ)
          → cond (is_null (record { at = at; value = j })) (Some None) (protocol_by (as_number (record { at = at; value = j })))
          ≡ cond (is_null (record { at = at; value = j })) (Some None) (option_map Some (as_protocol (record { at = at; value = j })))
      value null at = unfold as_number as_protocol protocol_by is_null in refl
      value (bool b) at = unfold as_number as_protocol protocol_by is_null in refl
      value (number n) at = unfold as_number as_protocol protocol_by is_null in up_to n (leb n 255)
      value (text t) at = unfold as_number as_protocol protocol_by is_null in refl
      value (array es) at = unfold as_number as_protocol protocol_by is_null in refl
      value (object ms) at = unfold as_number as_protocol protocol_by is_null in refl

      by : (o : Option Value)
          → cond (elim o as (λ _. Bool) [ None ↦ false | Some v ↦ is_null v ]) (Some None) (protocol_by (bind o as_number)) ≡ bind o (or_null as_protocol)
      by None = unfold protocol_by in refl
      by (Some v) = value v.value v.at

  pub truth_element : (o : Option Value) → Listed (ValueStands line) o → truth_from line (place_of o) ≡ bind o as_bool
  unfolding truth_from place_of bind truth_of as_bool
  truth_element o unlisted = refl
  truth_element o (listed v s) = truth_is depth_limit line v.at s.reads ∙ by v.value
    where
      by : (j : Json) → truth_of j ≡ as_bool (record { at = v.at; value = j })
      by null = refl
      by (bool b) = refl
      by (number n) = refl
      by (text t) = refl
      by (array es) = refl
      by (object ms) = refl

-- ---- and back: what an answer tells of the element

given_none : (x : Option (Option (List ℕ))) → given_text x ≡ None → x ≡ None
unfolding given_text
given_none None q = refl
given_none (Some None) q = absurd (none-some _ (sym q))
given_none (Some (Some t)) q = absurd (none-some _ (sym q))

text_none : (x : Option (List ℕ)) → result_ok (copied_text x) ≡ None → x ≡ None
unfolding copied_text
text_none None q = refl
text_none (Some t) q = absurd (none-some _ (sym q))

-- the text that was decoded stands at the front of the buffer
text_front : (before : List ℕ) (x : Option Decoded) {t : List ℕ} → text_of_string x ≡ Some t → length t ≤ length before → take (length t) (decoded_into before x) ≡ t
unfolding decoded_into
text_front before None q h = absurd (none-some _ q)
text_front before (Some d) {t} q h =
    let e : d.text ≡ t = cc in
    ap (λ (s : List ℕ). take (length t) (written s before)) e ∙ written-take t before h

-- a line has room in a buffer of its limit
abbrev pub zeros : List ℕ
zeros = replicate line_limit 0

pub roomy : (line : List ℕ) → length line ≤ line_limit → length line ≤ length zeros
roomy line h = subst (λ (n : ℕ). length line ≤ n) (sym (length-replicate {A = ℕ} line_limit 0)) h

-- what isn't `null` is the text itself
null_text : (o : Option Value) {t : List ℕ} → bind o (or_null as_string) ≡ Some (Some t) → bind o as_string ≡ Some t
unfolding bind or_null
null_text None q = absurd (none-some _ q)
null_text (Some v) {t} q = by (is_null v) (as_string v) q
  where
    by : (b : Bool) (x : Option (List ℕ)) → cond b (Some None) (option_map Some x) ≡ Some (Some t) → x ≡ Some t
    by true x k = let z : ◌≡◌ {A = ℕ} 0 1 = cc in absurd (omega arith)
    by false None k = absurd (none-some _ k)
    by false (Some y) k = cc

module _ (line : List ℕ) (o : Option Value) (s : Listed (ValueStands line) o) (before : List ℕ) (room : length line ≤ length before) where
  front : {t : List ℕ} → bind o as_string ≡ Some t → take (length t) (decoded_into before (string_from line (place_of o))) ≡ t
  front {t} q = text_front before (string_from line (place_of o)) e (by (string_from line (place_of o)) refl e)
    where
      e : text_of_string (string_from line (place_of o)) ≡ Some t
      e = string_element line o s ∙ q

      by : (x : Option Decoded) → string_from line (place_of o) ≡ x → text_of_string x ≡ Some t → length t ≤ length before
      by None k q = absurd (none-some _ q)
      by (Some d) k q = let f : d.text ≡ t = cc in omega (arith, room, string_short line (place_of o) k, ap length f)

  text_some : {n : ℕ} → result_ok (copied (length before) (string_from line (place_of o))) ≡ Some n
      → bind o as_string ≡ Some (take n (decoded_into before (string_from line (place_of o))))
  unfolding copied_text
  text_some {n} q = by (bind o as_string) refl (sym (ap (λ (r : Result ℕ DecodeError). result_ok r) (copied_element line (length before) o s room)) ∙ q)
    where
      by : (x : Option (List ℕ)) → bind o as_string ≡ x → result_ok (copied_text x) ≡ Some n → x ≡ Some (take n (decoded_into before (string_from line (place_of o))))
      by None e k = absurd (none-some _ k)
      by (Some t) e k = let m : length t ≡ n = cc in ap Some (sym (ap (λ (j : ℕ). take j (decoded_into before (string_from line (place_of o)))) (sym m) ∙ front e))

  given_some : {g : Option ℕ} → given_from (length before) line (place_of o) ≡ Some g
      → bind o (or_null as_string) ≡ Some (given g (decoded_into before (string_from line (place_of o))))
  unfolding given_text given
  given_some {g} q = by (bind o (or_null as_string)) refl (sym (given_element line (length before) o s room) ∙ q)
    where
      after : List ℕ
      after = decoded_into before (string_from line (place_of o))

      by : (x : Option (Option (List ℕ))) → bind o (or_null as_string) ≡ x → given_text x ≡ Some g → x ≡ Some (given g after)
      by None e k = absurd (none-some _ k)
      by (Some None) e k = let m : None ≡ g = cc in ap (λ (g : Option ℕ). Some (given g after)) m
      by (Some (Some t)) e k =
          let m : Some (length t) ≡ g = cc in
          ap (λ (t : List ℕ). Some (Some t)) (sym (front (null_text o e))) ∙ ap (λ (g : Option ℕ). Some (given g after)) m

-- ---- the elements of an array, read at their places

module _ (line : List ℕ) (es : Elements) (is : line_value line ≡ Some (array es)) where
  module _ (k : ℕ) {p : Option ℕ} (at : p ≡ place_of (nth k es)) where
    pub number_read : {answer r : Option ℕ} → answer ≡ number_from line p → answer ≡ r → bind (nth k es) as_number ≡ r
    number_read c q = sym (number_element line (nth k es) (element_stands line es is k)) ∙ (sym (c ∙ ap (number_from line) at) ∙ q)

    pub truth_read : {answer r : Option Bool} → answer ≡ truth_from line p → answer ≡ r → bind (nth k es) as_bool ≡ r
    truth_read c q = sym (truth_element line (nth k es) (element_stands line es is k)) ∙ (sym (c ∙ ap (truth_from line) at) ∙ q)

    pub earlier_read : {answer r : Option ℕ} → answer ≡ earlier_from line p → answer ≡ r → option_map or_zero (bind (nth k es) (or_null as_number)) ≡ r
    earlier_read c q = sym (earlier_element line (nth k es) (element_stands line es is k)) ∙ (sym (c ∙ ap (earlier_from line) at) ∙ q)

    pub protocol_read : {answer r : Option (Option ℕ)} → answer ≡ protocol_from line p → answer ≡ r → bind (nth k es) (or_null as_protocol) ≡ r
    protocol_read c q = sym (protocol_element line (nth k es) (element_stands line es is k)) ∙ (sym (c ∙ ap (protocol_from line) at) ∙ q)

    -- a text, or a text or `null`, decoded into a buffer that has room for the line
    module _ (before : List ℕ) (room : length line ≤ length before) where
      pub text_read : {answer : Result ℕ DecodeError} {after : List ℕ} {n : ℕ} → answer ≡ copied (length before) (string_from line p)
          → after ≡ decoded_into before (string_from line p) → result_ok answer ≡ Some n → bind (nth k es) as_string ≡ Some (take n after)
      text_read {answer} {after} {n} c d q =
          text_some line (nth k es) (element_stands line es is k) before room
          (sym (ap (λ (r : Result ℕ DecodeError). result_ok r) (c ∙ ap (λ (p : Option ℕ). copied (length before) (string_from line p)) at)) ∙ q)
          ∙ ap (λ (after : List ℕ). Some (take n after)) (sym (d ∙ ap (λ (p : Option ℕ). decoded_into before (string_from line p)) at))

      pub text_unread : {answer : Result ℕ DecodeError} → answer ≡ copied (length before) (string_from line p) → result_ok answer ≡ None
          → bind (nth k es) as_string ≡ None
      text_unread c q =
          text_none (bind (nth k es) as_string)
          (sym (ap (λ (r : Result ℕ DecodeError). result_ok r)
          (c ∙ (ap (λ (p : Option ℕ). copied (length before) (string_from line p)) at ∙ copied_element line (length before) (nth k es) (element_stands line es is k) room)))
          ∙ q)

      pub given_read : {answer : Option (Option ℕ)} {after : List ℕ} {g : Option ℕ} → answer ≡ given_from (length before) line p
          → after ≡ decoded_into before (string_from line p) → answer ≡ Some g → bind (nth k es) (or_null as_string) ≡ Some (given g after)
      given_read {answer} {after} {g} c d q =
          given_some line (nth k es) (element_stands line es is k) before room (sym (c ∙ ap (given_from (length before) line) at) ∙ q)
          ∙ ap (λ (after : List ℕ). Some (given g after)) (sym (d ∙ ap (λ (p : Option ℕ). decoded_into before (string_from line p)) at))

      pub given_unread : {answer : Option (Option ℕ)} → answer ≡ given_from (length before) line p → answer ≡ None
          → bind (nth k es) (or_null as_string) ≡ None
      given_unread c q =
          given_none (bind (nth k es) (or_null as_string))
          (sym (c ∙ (ap (given_from (length before) line) at ∙ given_element line (length before) (nth k es) (element_stands line es is k) room)) ∙ q)

  -- the places of a line's fields are those of its elements
  module _ (f : Fields) (at : f ≡ fields_here line) where
    pub first : f.first ≡ place_of (nth 0 es)
    first = ap (λ (f : Fields). f.first) (at ∙ fields_are line es is)

    pub second : f.second ≡ place_of (nth 1 es)
    second = ap (λ (f : Fields). f.second) (at ∙ fields_are line es is)

    pub third : f.third ≡ place_of (nth 2 es)
    third = ap (λ (f : Fields). f.third) (at ∙ fields_are line es is)

    pub fourth : f.fourth ≡ place_of (nth 3 es)
    fourth = ap (λ (f : Fields). f.fourth) (at ∙ fields_are line es is)

    pub fifth : f.fifth ≡ place_of (nth 4 es)
    fifth = ap (λ (f : Fields). f.fifth) (at ∙ fields_are line es is)

    pub sixth : f.sixth ≡ place_of (nth 5 es)
    sixth = ap (λ (f : Fields). f.sixth) (at ∙ fields_are line es is)

    pub seventh : f.seventh ≡ place_of (nth 6 es)
    seventh = ap (λ (f : Fields). f.seventh) (at ∙ fields_are line es is)

    pub eighth : f.eighth ≡ place_of (nth 7 es)
    eighth = ap (λ (f : Fields). f.eighth) (at ∙ fields_are line es is)

    pub ninth : f.ninth ≡ place_of (nth 8 es)
    ninth = ap (λ (f : Fields). f.ninth) (at ∙ fields_are line es is)

-- is there an element behind them?
pub is_more : {p q : Option ℕ} {b c : Bool} → p ≡ q → b ≡ is_some p → b ≡ c → is_some q ≡ c
is_more at e h = sym (ap (λ (p : Option ℕ). is_some p) at) ∙ (sym e ∙ h)

-- nothing, whatever comes before it
pub bind_none : {A B : Type 0} (o : Option A) → ◌≡◌ {A = Option B} (bind o (λ _. None)) None
unfolding bind
bind_none None = refl
bind_none (Some a) = refl
