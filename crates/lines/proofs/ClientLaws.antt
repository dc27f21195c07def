-- Laws of the lines of `client`: the client and the question by what is read of their elements, and what is said of them. Assumes nothing.
use Prim.Native.Nat.{ℕ, ◌≤◌, ◌<◌}
use mathlib.Core.Path.{◌≡◌, refl, sym, ap, ◌∙◌}
use mathlib.Core.Bool.{Bool, true, false, ◌&&◌, not, cond, true≢false}
use mathlib.Core.List.{List}
use Rattle.std.specs.Prelude.{Option, None, Some, Result, Ok, Err}
use Rattle.std.specs.Option.{is_some, unwrap_or}
use Rattle.std.specs.Result.{result_ok}
use Rattle.std.proofs.lemmas.Option.{none-some}
use Rattle.text.specs.Maybe.{bind}
use lib.Dec.{ltb, eqb}
use lib.ListN.{length, take}
use borrow.Author.Tests.{lt-ltb, le-ltb, ltb-false, eqb-true}
use Rattle.text.specs.Ascii.{ascii}
use Rattle.text.specs.Text.{same}
use Rattle.text.proofs.Laws.{and_split, same_true, isnt}
use Rattle.json_text.specs.Utf8.{byte_at, between}
use Rattle.json_text.specs.Json.{Json, null, bool, number, text, array, object, Elements, skip_blanks, is_at, kind_of, line_value, depth_limit}
use Rattle.json_text.specs.Access.{copied, decoded_into, is_document, kind_at}
use Rattle.json_text.specs.declared.Kind.TheVariants.{Array}
use Rattle.json_text.proofs.AccessSteps.{kind_is, kind_opens}
use Rattle.json_text.proofs.AccessLaws.{kind_is_lem, line_is}
use Rattle.rule.specs.Limits.{line_limit}
use Rattle.rule.specs.Rule.{nth, as_number, as_bool}
use Rattle.rule.specs.Places.{place_of}
use Rattle.authinfo.specs.Given.{given}
use Rattle.rule.specs.Members.{truth_from}
use Rattle.authinfo.specs.Decision.{Client, Question, subscribe, publish, Reply, ask}
use Rattle.lines.specs.Call.{as_string, or_null, call_from, call_of}
use Rattle.lines.specs.Client.{elements_of, array_of, client_in, subscribe_in, publish_in, question_by, question_in, reply_said, question_said, asked_by, client_said}
use Rattle.lines.specs.Said.{refused_at}
use Rattle.reader.specs.Reader.{fields_here}
use Rattle.lines.specs.Reading.{elements_by, elements, string_from, given_from, form_here, is_array_line, nothing_at, with_name, with_truth, header_here}
use Rattle.reader.specs.declared.Fields.{Fields}
use Rattle.lines.specs.declared.Form.{Form}
use Rattle.lines.specs.declared.Form.TheVariants.{Connect, Subscribe, Publish, Connected, Disconnected, Ended}
use Rattle.lines.specs.declared.Said.{Said}
use Rattle.lines.proofs.ElementLaws.{zeros, roomy, is_text, having_more, having_read, having-none, bind_none, is_more, truth_read, text_read, text_unread, given_read, given_unread, first as first_is, second, third, fourth}
pub use Rattle.lines.proofs.AnswerLaws.{connect_done, subscribe_done, publish_done}
use Rattle.lines.proofs.AnswerLaws.{form_by, form_is, array_opens, call_as, form_call}
use Rattle.json_text.specs.declared.DecodeError.TheVariants.{NoText, TooLong}
use Rattle.lines.specs.declared.Header.{Header}
use Rattle.json_text.specs.declared.DecodeError.{DecodeError}

-- ---- the questions, by what is read

module _ (es : Elements) where
  -- a subscribe
  pub subscribe_more : is_some (place_of (nth 3 es)) ≡ true → subscribe_in es ≡ None
  unfolding subscribe_in
  subscribe_more h = having_more 3 es _ h

  pub subscribe_bad : bind (nth 1 es) as_number ≡ None → subscribe_in es ≡ None
  unfolding subscribe_in bind
  subscribe_bad h = simp (h, having-none {A = Question} 3 es)

  pub subscribe_no_topic : bind (nth 2 es) as_string ≡ None → subscribe_in es ≡ None
  unfolding subscribe_in
  subscribe_no_topic h = simp (h, bind_none, having-none {A = Question} 3 es)

  pub subscribe-is : {qos : ℕ} {topic : List ℕ} → is_some (place_of (nth 3 es)) ≡ false → bind (nth 1 es) as_number ≡ Some qos
      → bind (nth 2 es) as_string ≡ Some topic → subscribe_in es ≡ Some (subscribe qos topic)
  unfolding subscribe_in bind
  subscribe-is h q t = having_read 2 es _ as_string h t ∙ simp (q, t)

  -- a publish
  pub publish_more : is_some (place_of (nth 5 es)) ≡ true → publish_in es ≡ None
  unfolding publish_in
  publish_more h = having_more 5 es _ h

  pub publish_bad : bind (nth 1 es) as_number ≡ None → publish_in es ≡ None
  unfolding publish_in bind
  publish_bad h = simp (h, having-none {A = Question} 5 es)

  pub publish_no_retain : bind (nth 2 es) as_bool ≡ None → publish_in es ≡ None
  unfolding publish_in bind
  publish_no_retain h = simp (h, bind_none, having-none {A = Question} 5 es)

  pub publish_no_disconnect : bind (nth 3 es) as_bool ≡ None → publish_in es ≡ None
  unfolding publish_in bind
  publish_no_disconnect h = simp (h, bind_none, having-none {A = Question} 5 es)

  pub publish_no_topic : bind (nth 4 es) as_string ≡ None → publish_in es ≡ None
  unfolding publish_in
  publish_no_topic h = simp (h, bind_none, having-none {A = Question} 5 es)

  pub publish-is : {qos : ℕ} {retain disconnect : Bool} {topic : List ℕ} → is_some (place_of (nth 5 es)) ≡ false → bind (nth 1 es) as_number ≡ Some qos
      → bind (nth 2 es) as_bool ≡ Some retain → bind (nth 3 es) as_bool ≡ Some disconnect → bind (nth 4 es) as_string ≡ Some topic
      → publish_in es ≡ Some (publish qos retain disconnect topic)
  unfolding publish_in bind
  publish-is h q r d t = having_read 4 es _ as_string h t ∙ simp (q, r, d, t)

-- ---- what is said of a question

module _ (c : Client) (rules : List ℕ) where
  pub unasked : {r : Option Said} {q : Option Question} → r ≡ None → q ≡ None → unwrap_or r (refused_at 5 0) ≡ question_said c rules q
  unfolding question_said
  unasked e h = ap (λ (r : Option Said). unwrap_or r (refused_at 5 0)) e ∙ sym (ap (question_said c rules) h)

  pub asked : {x : Question} {r : Said} {q : Option Question} {reply : Reply} → r ≡ reply_said reply → reply ≡ ask c rules x → q ≡ Some x → r ≡ question_said c rules q
  unfolding question_said
  asked e h k = e ∙ (ap reply_said h ∙ sym (ap (question_said c rules) k))

-- ---- the question of a line, by the form of its word

unfoldable pub question_as : Option Form → Elements → Option Question
question_as (Some Connect) es = None
question_as (Some Subscribe) es = subscribe_in es
question_as (Some Publish) es = publish_in es
question_as (Some Connected) es = None
question_as (Some Disconnected) es = None
question_as (Some Ended) es = None
question_as None es = None

question_form : (es : Elements) (word : Option (List ℕ)) → bind word (λ w. question_by w es) ≡ question_as (form_by word) es
unfolding bind form_by is_text question_as question_by same
question_form es None = refl
question_form es (Some w) = by (same w (ascii "connect")) refl
  where
    other : (d e f : Bool) → None ≡ question_as (cond d (Some Connected) (cond e (Some Disconnected) (cond f (Some Ended) None))) es
    other true e f = refl
    other false true f = refl
    other false false true = refl
    other false false false = refl

    rest : (b c d e f : Bool)
        → cond b (subscribe_in es) (cond c (publish_in es) None)
        ≡ question_as (cond b (Some Subscribe) (cond c (Some Publish) (cond d (Some Connected) (cond e (Some Disconnected) (cond f (Some Ended) None))))) es
    rest true c d e f = refl
    rest false true d e f = refl
    rest false false d e f = other d e f

    by : (a : Bool) → same w (ascii "connect") ≡ a
        → question_by w es
        ≡ question_as
        (cond a (Some Connect)
        (cond (same w (ascii "subscribe")) (Some Subscribe)
        (cond (same w (ascii "publish")) (Some Publish)
        (cond (same w (ascii "connected")) (Some Connected) (cond (same w (ascii "disconnected")) (Some Disconnected) (cond (same w (ascii "ended")) (Some Ended) None))))))
        es
    by true q = ap (λ (w : List ℕ). question_by w es) (same_true w (ascii "connect") q)
    by false q =
        rest (same w (ascii "subscribe")) (same w (ascii "publish")) (same w (ascii "connected")) (same w (ascii "disconnected"))
        (same w (ascii "ended"))

pub question_is : (line : List ℕ) (es : Elements) → line_value line ≡ Some (array es) → {f : Fields} {form r : Option Form} → f ≡ fields_here line
    → form ≡ form_here line f.first → form ≡ r → question_in es ≡ question_as r es
unfolding question_in
question_is line es is at q k =
    question_form es (bind (nth 0 es) as_string)
    ∙ ap (λ (f : Option Form). question_as f es) (sym (q ∙ (ap (λ (f : Fields). form_here line f.first) at ∙ form_is line es is)) ∙ k)

-- neither form
pub other_form : (es : Elements) (form : Form) → (form ≡ Subscribe → ⊥) → (form ≡ Publish → ⊥) → question_as (Some form) es ≡ None
unfolding question_as
other_form es Connect h k = refl
other_form es Subscribe h k = absurd (h refl)
other_form es Publish h k = absurd (k refl)
other_form es Connected h k = refl
other_form es Disconnected h k = refl
other_form es Ended h k = refl

-- ---- the client, by what is read: all of it is right, or some of it is wrong

record Right (superuser : Option Bool) (id : Result ℕ DecodeError) (name : Option (Option ℕ)) (behind : Option ℕ) (h : Header) : Type 0 where
  is_superuser : superuser ≡ Some h.superuser
  is_id : result_ok id ≡ Some h.id
  is_name : name ≡ Some h.name
  is_last : is_some behind ≡ false

data Wrong (superuser : Option Bool) (id : Result ℕ DecodeError) (name : Option (Option ℕ)) (behind : Option ℕ) : Type 0 where
  no_superuser : superuser ≡ None → Wrong superuser id name behind
  not_id : result_ok id ≡ None → Wrong superuser id name behind
  no_name : name ≡ None → Wrong superuser id name behind
  more : is_some behind ≡ true → Wrong superuser id name behind

right : (superuser : Option Bool) (id : Result ℕ DecodeError) (name : Option (Option ℕ)) (behind : Option ℕ) {h : Header}
    → nothing_at behind (with_truth superuser id name) ≡ Some h → Right superuser id name behind h
unfolding nothing_at with_truth with_name
right superuser id name (Some p) q = absurd (none-some _ q)
right None id name None q = absurd (none-some _ q)
right (Some b) (Err TooLong) name None q = absurd (none-some _ q)
right (Some b) (Err NoText) name None q = absurd (none-some _ q)
right (Some b) (Ok n) None None q = absurd (none-some _ q)
right (Some b) (Ok n) (Some g) None {h} q =
    let e : record { superuser = b; id = n; name = g } ≡ h = cc in
    record {
      is_superuser = ap (λ (h : Header). Some h.superuser) e;
      is_id = ap (λ (h : Header). Some h.id) e;
      is_name = ap (λ (h : Header). Some h.name) e;
      is_last = refl;
    }

wrong : (superuser : Option Bool) (id : Result ℕ DecodeError) (name : Option (Option ℕ)) (behind : Option ℕ) → nothing_at behind (with_truth superuser id name) ≡ None
    → Wrong superuser id name behind
unfolding nothing_at with_truth with_name
wrong superuser id name (Some p) q = more refl
wrong None id name None q = no_superuser refl
wrong (Some b) (Err TooLong) name None q = not_id refl
wrong (Some b) (Err NoText) name None q = not_id refl
wrong (Some b) (Ok n) None None q = no_name refl
wrong (Some b) (Ok n) (Some g) None q = absurd (none-some _ (sym q))

module _ (line : List ℕ) (es : Elements) (is : line_value line ≡ Some (array es)) (before : List ℕ) (room : length line ≤ length before) where
  pub header_told : {answer : Option Header} {ids names : List ℕ} {h : Header} {client : Client} (f : Fields) → f ≡ fields_here line
      → answer ≡ header_here (length before) (length before) line f
      → ids ≡ decoded_into before (string_from line f.second) → names ≡ decoded_into before (string_from line f.third) → answer ≡ Some h
      → client ≡ record { superuser = h.superuser; id = take h.id ids; name = given h.name names } → client_in es ≡ Some client
  unfolding header_here client_in bind
  header_told f at c i g q e =
      let r = right _ _ _ _ (sym c ∙ q) in
      let name = given_read line es is 2 (third line es is f at) before room refl g r.is_name in
      having_read 2 es _ (or_null as_string) (is_more (fourth line es is f at) refl r.is_last) name
      ∙ simp (
        e,
        truth_read line es is 0 (first_is line es is f at) refl r.is_superuser,
        text_read line es is 1 (second line es is f at) before room refl i r.is_id,
        name,
      )

  pub header_bad : {answer : Option Header} (f : Fields) → f ≡ fields_here line → answer ≡ header_here (length before) (length before) line f
      → answer ≡ None → client_in es ≡ None
  unfolding header_here client_in bind
  header_bad f at c q = by (wrong _ _ _ _ (sym c ∙ q))
    where
      by : Wrong (truth_from line f.first) (copied (length before) (string_from line f.second)) (given_from (length before) line f.third) f.fourth
          → client_in es ≡ None
      by (more k) = having_more 3 es _ (is_more (fourth line es is f at) refl k)
      by (no_superuser k) = simp (truth_read line es is 0 (first_is line es is f at) refl k, having-none {A = Client} 3 es)
      by (not_id k) = simp (text_unread line es is 1 (second line es is f at) before room refl k, bind_none, having-none {A = Client} 3 es)
      by (no_name k) = simp (given_unread line es is 2 (third line es is f at) before room refl k, bind_none, having-none {A = Client} 3 es)

-- ---- a line that is an array

-- it begins with a bracket
opens : (line : List ℕ) (es : Elements) → line_value line ≡ Some (array es) → is_at line (skip_blanks line 0) 0x5b ≡ true
unfolding kind_at kind_is
opens line es e = kind_opens false line (skip_blanks line 0) (kind_is_lem depth_limit line (skip_blanks line 0) (line_is line e).1)

pub long_array : (line : List ℕ) → line_limit < length line → false ≡ is_array_line line
unfolding is_array_line
long_array line h = rw (lt-ltb line_limit (length line) h)

pub no_document : (line : List ℕ) → length line ≤ line_limit → is_document (line_value line) ≡ false → false ≡ is_array_line line
unfolding is_array_line
no_document line h d = rw (le-ltb line_limit (length line) h, d)

-- a document, by the kind of the value that it begins with
module _ (line : List ℕ) (short : length line ≤ line_limit) (is : is_document (line_value line) ≡ true) where
  abbrev first : ℕ
  first = skip_blanks line 0

  document : {r : Bool} → r ≡ is_at line first 0x5b → r ≡ is_array_line line
  unfolding is_array_line
  document q = rw (le-ltb line_limit (length line) short, is) q

  pub array-first : kind_at line first ≡ Array → true ≡ is_array_line line
  unfolding kind_at
  array-first k = document (sym (kind_opens false line first k))

  pub other_first : (kind_at line first ≡ Array → ⊥) → false ≡ is_array_line line
  unfolding is_at kind_at
  other_first k = document (sym (isnt (eqb (byte_at line first) 0x5b) never))
    where
      never : eqb (byte_at line first) 0x5b ≡ true → ⊥
      never e = k (ap kind_of (eqb-true (byte_at line first) 0x5b e) ∙ unfold kind_of between in refl)

pub record ArrayLine (line : List ℕ) : Type 0 where
  pub short : length line ≤ line_limit
  pub value : line_value line ≡ Some (array (elements line))
  pub is : array_of line ≡ Some (elements line)

array_of_lem : (line : List ℕ) (es : Elements) → ltb line_limit (length line) ≡ false → line_value line ≡ Some (array es) → array_of line ≡ Some es
unfolding array_of elements_of bind
array_of_lem line es t e = rw (t, e)

pub array_line : (line : List ℕ) → is_array_line line ≡ true → ArrayLine line
unfolding is_array_line elements elements_by
array_line line q =
    let h = and_split (not (ltb line_limit (length line))) (is_document (line_value line) && is_at line (skip_blanks line 0) 0x5b) q in
    let k = and_split (is_document (line_value line)) (is_at line (skip_blanks line 0) 0x5b) h.1 in
    by (ltb line_limit (length line)) refl h.0 (line_value line) refl k.0 k.1
  where
    by : (b : Bool) → ltb line_limit (length line) ≡ b → not b ≡ true → (o : Option Json) → line_value line ≡ o → is_document o ≡ true
        → is_at line (skip_blanks line 0) 0x5b ≡ true → ArrayLine line
    by true t n o e d a = absurd (true≢false (sym n))
    by false t n None e d a = unfold is_document in absurd (true≢false (sym d))
    by false t n (Some v) e d a =
        let r = array_opens line (skip_blanks line 0) (line_is line e).1 a in
        let found = e ∙ ap Some r.1 in
        let value = found ∙ ap (λ es. Some (array es)) (sym (ap elements_by found)) in
        record { short = ltb-false line_limit (length line) t; value = value; is = array_of_lem line (elements line) t value }

-- the elements of an array, and each text of it fits
pub array_stands : (line : List ℕ) → is_array_line line ≡ true → line_value line ≡ Some (array (elements line))
array_stands line q = (array_line line q).value

pub array_roomy : (line : List ℕ) → is_array_line line ≡ true → length line ≤ length zeros
array_roomy line q = roomy line (array_line line q).short

pub no_array : (line : List ℕ) → is_array_line line ≡ false → array_of line ≡ None
unfolding is_array_line array_of is_document elements_of bind
no_array line q = by (ltb line_limit (length line)) (line_value line) refl q
  where
    by : (b : Bool) (o : Option Json) → line_value line ≡ o → (not b && (is_document o && is_at line (skip_blanks line 0) 0x5b)) ≡ false → cond b None (bind o elements_of) ≡ None
    by true o e k = refl
    by false None e k = refl
    by false (Some null) e k = refl
    by false (Some (bool b)) e k = refl
    by false (Some (number n)) e k = refl
    by false (Some (text t)) e k = refl
    by false (Some (object ms)) e k = refl
    by false (Some (array es)) e k = absurd (true≢false (sym (opens line es e) ∙ k))

-- and a line that is none has no call
pub none_called : (line : List ℕ) → is_array_line line ≡ false → call_of line ≡ None
unfolding is_array_line call_of is_document call_from bind
none_called line q = by (ltb line_limit (length line)) (line_value line) refl q
  where
    by : (b : Bool) (o : Option Json) → line_value line ≡ o → (not b && (is_document o && is_at line (skip_blanks line 0) 0x5b)) ≡ false → cond b None (bind o call_from) ≡ None
    by true o e k = refl
    by false None e k = refl
    by false (Some null) e k = refl
    by false (Some (bool b)) e k = refl
    by false (Some (number n)) e k = refl
    by false (Some (text t)) e k = refl
    by false (Some (object ms)) e k = refl
    by false (Some (array es)) e k = absurd (true≢false (sym (opens line es e) ∙ k))

-- ---- what is said of a line

module _ (header rules line : List ℕ) where
  no_client : {r : Option Said} → r ≡ None → bind (array_of header) client_in ≡ None → unwrap_or r (refused_at 5 0) ≡ client_said header rules line
  unfolding client_said asked_by
  no_client e h =
      ap (λ (r : Option Said). unwrap_or r (refused_at 5 0)) e
      ∙ sym (ap (λ (o : Option Client). asked_by o rules (bind (array_of line) question_in)) h)

  pub no_header : {r : Option Said} → r ≡ None → is_array_line header ≡ false → unwrap_or r (refused_at 5 0) ≡ client_said header rules line
  unfolding bind
  no_header e h = no_client e (ap (λ (o : Option Elements). bind o client_in) (no_array header h))

  pub bad_header : {r : Option Said} → r ≡ None → (h : ArrayLine header) → client_in (elements header) ≡ None → unwrap_or r (refused_at 5 0) ≡ client_said header rules line
  unfolding bind
  bad_header e h k = no_client e (ap (λ (o : Option Elements). bind o client_in) h.is ∙ k)

  pub no_line : {r : Option Said} → r ≡ None → is_array_line line ≡ false → unwrap_or r (refused_at 5 0) ≡ client_said header rules line
  unfolding client_said asked_by question_said bind
  no_line e h =
      ap (λ (r : Option Said). unwrap_or r (refused_at 5 0)) e
      ∙ sym
      (ap (λ (o : Option Elements). asked_by (bind (array_of header) client_in) rules (bind o question_in)) (no_array line h)
      ∙ by (bind (array_of header) client_in))
    where
      by : (o : Option Client) → asked_by o rules None ≡ refused_at 5 0
      by None = refl
      by (Some c) = refl

  pub client_asks : {r : Said} (h : ArrayLine header) (l : ArrayLine line) {c : Client} → client_in (elements header) ≡ Some c → r ≡ question_said c rules (question_in (elements line))
      → r ≡ client_said header rules line
  unfolding client_said asked_by bind
  client_asks h l k e = rw (h.is, l.is, k) e

-- the call of an array line is that of its form
pub called_as : (line : List ℕ) → is_array_line line ≡ true → call_of line ≡ call_as (form_here line (fields_here line).first) (elements line)
called_as line is = form_call line (elements line) (array_line line is).short (array_stands line is) refl

-- the calls, for `using`
pub ruleset calls = (called_as, none_called, connect_done, subscribe_done, publish_done)
