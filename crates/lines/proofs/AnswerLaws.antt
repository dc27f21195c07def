-- A line's call by the form of its word; a question leaves the store. Assumes nothing.
use Prim.Native.Nat.{ℕ, ◌≤◌}
use mathlib.Core.Path.{◌≡◌, refl, sym, ap, ◌∙◌}
use mathlib.Core.Bool.{Bool, true, false, cond}
use mathlib.Core.List.{List}
use Rattle.std.specs.Prelude.{Option, None, Some}
use Rattle.std.specs.Option.{option_map}
use Rattle.text.specs.Maybe.{bind}
use Rattle.std.proofs.lemmas.Option.{none-some}
use borrow.Author.Tests.{le-ltb}
use lib.Dec.{eqb}
use lib.ListN.{length}
use Rattle.text.specs.Ascii.{ascii}
use Rattle.text.specs.Text.{same}
use Rattle.json_text.specs.Json.{Json, array, Elements, read_as, skip_blanks, is_at, value_at, array_at, line_value}
use Rattle.json_text.specs.declared.Read.{Read}
use Rattle.json_text.specs.Access.{value_here, first_item, bracketed, count}
use Rattle.json_text.proofs.AccessSteps.{opens_here, first_by_lem}
use Rattle.json_text.proofs.AccessLaws.{line_is}
use Rattle.rule.specs.Limits.{line_limit}
use Rattle.rule.specs.Rule.{nth}
use Rattle.questions.specs.Question.{Question}
use Rattle.lines.specs.Call.{Call, asks, as_string, is_given, asker_in, having, connect_in, subscribe_in, publish_in, connected_in, disconnected_in, ended_in, call_by, call_in, call_from, call_of}
use Rattle.lines.specs.Said.{call_done}
use Rattle.reader.specs.Reader.{offset_of, place_at, first_offset, offset_after, element_after, fields_here}
use Rattle.lines.specs.Reading.{word_from, form_here}
use Rattle.reader.specs.declared.Fields.{Fields}
use Rattle.lines.specs.declared.Form.{Form}
use Rattle.lines.specs.declared.Form.TheVariants.{Connect, Subscribe, Publish, Connected, Disconnected, Ended}
use Rattle.lines.proofs.ElementLaws.{end_place, element_stands, fields_are, is_text, word_element}

-- ---- the form, by the word

unfoldable pub form_by : Option (List ℕ) → Option Form
form_by word =
    cond (is_text (ascii "connect") word) (Some Connect)
    (cond (is_text (ascii "subscribe") word) (Some Subscribe)
    (cond (is_text (ascii "publish") word) (Some Publish)
    (cond (is_text (ascii "connected") word) (Some Connected)
    (cond (is_text (ascii "disconnected") word) (Some Disconnected) (cond (is_text (ascii "ended") word) (Some Ended) None)))))

unfoldable pub call_as : Option Form → Elements → Option Call
call_as (Some Connect) es = connect_in es
call_as (Some Subscribe) es = subscribe_in es
call_as (Some Publish) es = publish_in es
call_as (Some Connected) es = connected_in es
call_as (Some Disconnected) es = disconnected_in es
call_as (Some Ended) es = ended_in es
call_as None es = None

pub form_is : (line : List ℕ) (es : Elements) → line_value line ≡ Some (array es) → form_here line (fields_here line).first ≡ form_by (bind (nth 0 es) as_string)
unfolding form_here form_by
form_is line es is =
    λ i.
    cond (word (ascii "connect") i) (Some Connect)
    (cond (word (ascii "subscribe") i) (Some Subscribe)
    (cond (word (ascii "publish") i) (Some Publish)
    (cond (word (ascii "connected") i) (Some Connected)
    (cond (word (ascii "disconnected") i) (Some Disconnected) (cond (word (ascii "ended") i) (Some Ended) None)))))
  where
    word : (w : List ℕ) → word_from line (fields_here line).first w ≡ is_text w (bind (nth 0 es) as_string)
    word w = ap (λ (f : Fields). word_from line f.first w) (fields_are line es is) ∙ word_element line w (nth 0 es) (element_stands line es is 0)

call_form : (es : Elements) (word : Option (List ℕ)) → bind word (λ w. call_by w es) ≡ call_as (form_by word) es
unfolding bind form_by is_text call_as call_by
call_form es None = refl
call_form es (Some w) =
    by (same w (ascii "connect")) (same w (ascii "subscribe")) (same w (ascii "publish")) (same w (ascii "connected")) (same w (ascii "disconnected"))
    (same w (ascii "ended"))
  where
    by : (a b c d e f : Bool)
        → cond a (connect_in es) (cond b (subscribe_in es) (cond c (publish_in es) (cond d (connected_in es) (cond e (disconnected_in es) (cond f (ended_in es) None)))))
        ≡ call_as (cond a (Some Connect) (cond b (Some Subscribe) (cond c (Some Publish) (cond d (Some Connected) (cond e (Some Disconnected) (cond f (Some Ended) None)))))) es
    by true b c d e f = refl
    by false true c d e f = refl
    by false false true d e f = refl
    by false false false true e f = refl
    by false false false false true f = refl
    by false false false false false true = refl
    by false false false false false false = refl

array_call : (es : Elements) → bind (Some (array es)) call_from ≡ call_as (form_by (bind (nth 0 es) as_string)) es
unfolding bind call_from call_in
array_call es = call_form es (bind (nth 0 es) as_string)

-- ---- a line without an array has no word

pub array_opens : (line : List ℕ) (at : ℕ) {r : Read Json} → value_here line at ≡ Some r → is_at line at 0x5b ≡ true → (es : Elements) × (r.value ≡ array es)
unfolding bracketed read_as
array_opens line at {r} e o = by (array_at (value_at 7 line) line at) (sym (opens_here false 7 line at o) ∙ e)
  where
    by : (x : Option (Read Elements)) → read_as array x ≡ Some r → (es : Elements) × (r.value ≡ array es)
    by None q = absurd (none-some _ q)
    by (Some x) q = let k : record { value = array x.value; next = x.next } ≡ r = cc in (x.value, sym (ap (λ (r : Read Json). r.value) k))

-- a document that is no array has no form
pub no_word : (line : List ℕ) {v : Json} → line_value line ≡ Some v → ((es : Elements) → v ≡ array es → ⊥) → form_here line (fields_here line).first ≡ None
unfolding fields_here element_after offset_after first_offset
no_word line e h =
    ap (form_here line) (ap (λ (p : Option ℕ). place_at line (offset_of line p)) (by (is_at line (skip_blanks line 0) 0x5b) refl) ∙ end_place line)
    ∙ unfold form_here word_from in refl
  where
    by : (b : Bool) → is_at line (skip_blanks line 0) 0x5b ≡ b → first_item 0x5b 0x5d line (skip_blanks line 0) ≡ None
    by true o = let is = array_opens line (skip_blanks line 0) (line_is line e).1 o in absurd (h is.0 is.1)
    by false o = first_by_lem 0x5b 0x5d line (skip_blanks line 0) o refl

-- ---- the call of a line

short : (line : List ℕ) → length line ≤ line_limit → call_of line ≡ bind (line_value line) call_from
unfolding call_of
short line h = ap (λ (b : Bool). cond b None (bind (line_value line) call_from)) (le-ltb line_limit (length line) h)

-- of an array it is that of its form
pub form_call : (line : List ℕ) (es : Elements) {form : Option Form} → length line ≤ line_limit → line_value line ≡ Some (array es) → form ≡ form_here line (fields_here line).first
    → call_of line ≡ call_as form es
form_call line es h e q =
    short line h ∙ (ap (λ (o : Option Json). bind o call_from) e ∙ (unfold bind call_from in array_call es ∙ ap (λ (f : Option Form). call_as f es) (sym (q ∙ form_is line es e))))

-- ---- what a question does

-- a question leaves the store
module _ (s : List ℕ) where
  cond_done : (b : Bool) (o : Option Call) → call_done o s ≡ s → call_done (cond b o None) s ≡ s
  unfolding call_done
  cond_done true o h = h
  cond_done false o h = refl

  bind_done : {A : Type 0} (o : Option A) (f : A → Option Call) → ((a : A) → call_done (f a) s ≡ s) → call_done (bind o f) s ≡ s
  unfolding call_done bind
  bind_done None f h = refl
  bind_done (Some a) f h = h a

  map_done : {A : Type 0} (o : Option A) (f : A → Question) → call_done (option_map (λ a. asks (f a)) o) s ≡ s
  unfolding call_done
  map_done None f = refl
  map_done (Some a) f = refl

  asks_done : (q : Question) → call_done (Some (asks q)) s ≡ s
  unfolding call_done
  asks_done q = refl

  pub connect_done : (es : Elements) → s ≡ call_done (connect_in es) s
  unfolding connect_in having
  connect_done es =
      sym (cond_done (eqb (count es) 7) _ (bind_done (asker_in es) _ (λ a. cond_done (is_given a.client.protocol) _ (asks_done _))))

  pub subscribe_done : (es : Elements) → s ≡ call_done (subscribe_in es) s
  unfolding subscribe_in having
  subscribe_done es = sym (cond_done (eqb (count es) 8) _ (bind_done (asker_in es) _ (λ a. map_done (bind (nth 7 es) as_string) _)))

  pub publish_done : (es : Elements) → s ≡ call_done (publish_in es) s
  unfolding publish_in having
  publish_done es = sym (cond_done (eqb (count es) 8) _ (bind_done (asker_in es) _ (λ a. map_done (bind (nth 7 es) as_string) _)))
