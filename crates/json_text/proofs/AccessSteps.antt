-- Laws of the accessors, each by the tests that its function makes; the steps of the loops of `count_elements` and `member`. Assumes nothing.
use Prim.Native.Nat.{ℕ, suc, ◌+◌, ◌≤◌, ◌<◌, max}
use native.Mathlib.Omega.{arith}
use mathlib.Core.Path.{◌≡◌, refl, sym, ap, subst, ◌∙◌}
use mathlib.Core.Bool.{Bool, true, false, cond, true≢false}
use mathlib.Core.List.{List, [], ◌∷◌}
use Rattle.std.specs.Prelude.{Option, None, Some, option_map, option_and_then}
use Rattle.text.specs.Maybe.{bind}
use lib.Dec.{eqb}
use lib.ListN.{length, drop}
use lib.Seq.{get_or-drop}
use borrow.Author.Tests.{eqb-true}
use Rattle.text.specs.Ascii.{ascii}
use Rattle.text.specs.Text.{begins, same}
use Rattle.text.proofs.Laws.{and_split}
use Rattle.json_text.specs.Utf8.{byte_at, between}
use Rattle.json_text.specs.Strings.{quote, Decoded, string_at}
use Rattle.json_text.specs.Json.{Json, null, bool, number, text, array, object, Elements, no_element, Members, no_member, Read, is_at, is_blank, skip_blanks, kind_of, number_at, word_at, text_at, read_as, separator_at, element_at, name_at, member_at, array_at, object_at, value_at, depth_limit, line_value, longest}
use Rattle.json_text.specs.Access.{checked, stepped, behind, value_here, kind_at, first_item, after_comma, next_item, member_value, count, count_of, element_count, last_named, named_in, member_named, truth_of, truth_here, string_is, decoded_length, scanned, literal_is, literal_of, bracketed, item_step}
use Rattle.json_text.specs.declared.Kind.{Kind}
use Rattle.json_text.specs.declared.Kind.TheVariants.{Number, Text, Array, Object, Word, Blank, Other}
use Rattle.json_text.specs.declared.Cursor.{Cursor}
use Rattle.json_text.specs.declared.Separator.{Separator}
use Rattle.json_text.specs.declared.Separator.TheVariants.{Close, Comma}
use Rattle.json_text.specs.declared.Literal.{Literal}
use Rattle.json_text.specs.declared.Literal.TheVariants.{Null, True, False}
use Rattle.json_text.proofs.Utf8Laws.{byte_past}
use Rattle.json_text.proofs.ValueLaws.{All, all_map, inner, value_as, value_by, elements_from, members_from, array_by, object_by, with_element, with_member, behind_separator, behind_item, elements_step, members_step}

-- ---- by the cursor behind what was read

-- the answer to a whole line, by the cursor behind its value and by whether only blanks stand behind that
unfoldable checked_on : List ℕ → Option Cursor → Option ℕ
checked_on line None = None
checked_on line (Some c) = cond (eqb (skip_blanks line c.at) (length line)) (Some c.longest) None

checked_on_lem : (line : List ℕ) {first : ℕ} {step : Option Cursor} → first ≡ skip_blanks line 0 → stepped longest 0 (value_here line first) ≡ step
    → checked (line_value line) ≡ checked_on line step
unfolding checked line_value checked_on stepped bind
checked_on_lem line f e = by (value_here line (skip_blanks line 0)) ∙ ap (checked_on line) (ap (λ (p : ℕ). stepped longest 0 (value_here line p)) (sym f) ∙ e)
  where
    by : (o : Option (Read Json)) →
        checked (bind o (λ r. cond (eqb (skip_blanks line r.next) (length line)) (Some r.value) None)) ≡ checked_on line (stepped longest 0 o)
    by None = refl
    by (Some r) = at (eqb (skip_blanks line r.next) (length line))
      where
        at : (b : Bool) → checked (cond b (Some r.value) None) ≡ cond b (Some (max 0 (longest r.value))) None
        at true = ap Some (omega arith)
        at false = refl

pub checked-bad : (line : List ℕ) {first : ℕ} → first ≡ skip_blanks line 0 → stepped longest 0 (value_here line first) ≡ None → checked (line_value line) ≡ None
unfolding checked_on
checked-bad line f e = checked_on_lem line f e

pub checked_by : (line : List ℕ) {first last : ℕ} {c : Cursor} {ends : Bool} → first ≡ skip_blanks line 0 → stepped longest 0 (value_here line first) ≡ Some c
    → last ≡ skip_blanks line c.at → eqb last (length line) ≡ ends → checked (line_value line) ≡ cond ends (Some c.longest) None
unfolding checked_on
checked_by line {c} f e l q =
    checked_on_lem line f e ∙ ap (λ (b : Bool). cond b (Some c.longest) None) (ap (λ (p : ℕ). eqb p (length line)) (sym l) ∙ q)

-- the place behind what was read is the cursor's
pub behind_stepped : {What : Type 0} (size : What → ℕ) (o : Option (Read What)) → option_map (λ (c : Cursor). c.at) (stepped size 0 o) ≡ behind o
unfolding behind stepped
behind_stepped size None = refl
behind_stepped size (Some r) = refl

-- the item behind a comma, by the cursor behind the value and by whether a comma stands there
unfoldable next_on : List ℕ → Option Cursor → Option ℕ
next_on line None = None
next_on line (Some c) = cond (is_at line (skip_blanks line c.at) 0x2c) (Some (skip_blanks line (skip_blanks line c.at + 1))) None

next_on_lem : (line : List ℕ) (at : ℕ) {step : Option Cursor} → stepped longest 0 (value_here line at) ≡ step → next_item line at ≡ next_on line step
unfolding next_item after_comma next_on stepped
next_on_lem line at e = by (value_here line at) ∙ ap (next_on line) e
  where
    by : (o : Option (Read Json)) → after_comma line o ≡ next_on line (stepped longest 0 o)
    by None = refl
    by (Some r) = refl

pub next_bad : (line : List ℕ) (at : ℕ) → stepped longest 0 (value_here line at) ≡ None → next_item line at ≡ None
unfolding next_on
next_bad line at e = next_on_lem line at e

pub next_by : (line : List ℕ) (at : ℕ) {c : Cursor} {place : ℕ} {comma : Bool} → stepped longest 0 (value_here line at) ≡ Some c
    → place ≡ skip_blanks line c.at → is_at line place 0x2c ≡ comma → next_item line at ≡ cond comma (Some (skip_blanks line (place + 1))) None
unfolding next_on
next_by line at {c} {place} {comma} e p q =
    next_on_lem line at e
    ∙ (ap (λ (p : ℕ). cond (is_at line p 0x2c) (Some (skip_blanks line (p + 1))) None) (sym p) ∙ ap (λ (b : Bool). cond b (Some (skip_blanks line (place + 1))) None) q)

-- a bool is that of the word, a string's length that of the scan
abbrev pub truth_in : Literal → Option Bool
truth_in Null = None
truth_in True = Some true
truth_in False = Some false

pub truth_literal : (line : List ℕ) (at : ℕ) → option_and_then truth_in (literal_of (word_at line at)) ≡ truth_here line at
unfolding truth_here literal_of
truth_literal line at = by (word_at line at)
  where
    value : (v : Json) → option_and_then truth_in (literal_is v) ≡ truth_of v
    value null = unfold truth_of literal_is in refl
    value (bool true) = unfold truth_of literal_is in refl
    value (bool false) = unfold truth_of literal_is in refl
    value (number n) = unfold truth_of literal_is in refl
    value (text t) = unfold truth_of literal_is in refl
    value (array es) = unfold truth_of literal_is in refl
    value (object ms) = unfold truth_of literal_is in refl

    by : (o : Option (Read Json)) → option_and_then truth_in (option_and_then (λ r. literal_is r.value) o) ≡ option_and_then (λ r. truth_of r.value) o
    by None = refl
    by (Some r) = value r.value

pub length_scanned : (line : List ℕ) (at : ℕ) → option_map (λ (r : Read ℕ). r.value) (scanned at (string_at line at)) ≡ decoded_length line at
unfolding decoded_length scanned
length_scanned line at = by (string_at line at)
  where
    by : (o : Option Decoded) → option_map (λ (r : Read ℕ). r.value) (scanned at o) ≡ option_map (λ (d : Decoded). length d.text) o
    by None = refl
    by (Some d) = refl

-- ---- kinds

pub kind_past : (line : List ℕ) (at : ℕ) → length line ≤ at → kind_at line at ≡ Other
unfolding kind_at kind_of between is_blank
kind_past line at h = rw (byte_past line at h)

-- the kind of a value
unfoldable pub kind_is : Json → Kind
kind_is null = Word
kind_is (bool b) = Word
kind_is (number n) = Number
kind_is (text t) = Text
kind_is (array es) = Array
kind_is (object ms) = Object

abbrev pub OfKind : Kind → Option (Read Json) → Type 0
OfKind kind o = All (λ r. kind_is r.value ≡ kind) o

named_kind : {A : Type 0} (kind : Kind) (make : A → Json) → ((a : A) → kind_is (make a) ≡ kind) → (o : Option (Read A)) → OfKind kind (read_as make o)
unfolding read_as
named_kind kind make h None = tt
named_kind kind make h (Some r) = h r.value

-- the byte at the front of what is left of the line
pub byte_front : (line : List ℕ) (at : ℕ) → byte_at (drop at line) 0 ≡ byte_at line at
byte_front line at = get_or-drop at line 0 256 ∙ ap (byte_at line) (omega arith)

begins_first : (p : ℕ) (pattern s : List ℕ) → begins (p ∷ pattern) s ≡ true → byte_at s 0 ≡ p
unfolding begins
begins_first p pattern [] e = absurd (true≢false (sym e))
begins_first p pattern (b ∷ s) e = sym (eqb-true p b (and_split (eqb p b) _ e).0)

-- a word is of its kind, and so is its first byte
pub word_kind : (line : List ℕ) (at : ℕ) → All (λ r. (kind_is r.value ≡ Word) × (kind_at line at ≡ Word)) (word_at line at)
unfolding word_at kind_is kind_at
word_kind line at =
    by (begins (ascii "null") (drop at line)) (begins (ascii "true") (drop at line)) (begins (ascii "false") (drop at line)) refl refl refl
  where
    first : (p : ℕ) (pattern : List ℕ) → begins (p ∷ pattern) (drop at line) ≡ true → kind_of p ≡ Word → kind_of (byte_at line at) ≡ Word
    first p pattern e q = ap kind_of (sym (byte_front line at) ∙ begins_first p pattern (drop at line) e) ∙ q

    by : (n t f : Bool) → begins (ascii "null") (drop at line) ≡ n → begins (ascii "true") (drop at line) ≡ t → begins (ascii "false") (drop at line) ≡ f →
        All {A = Read Json} (λ r. (kind_is r.value ≡ Word) × (kind_of (byte_at line at) ≡ Word))
        (cond n (Some (record { value = null; next = at + 4 }))
        (cond t (Some (record { value = bool true; next = at + 4 })) (cond f (Some (record { value = bool false; next = at + 5 })) None)))
    by true t f hn ht hf = (refl, first 0x6e _ hn (unfold kind_of between in refl))
    by false true f hn ht hf = (refl, first 0x74 _ ht (unfold kind_of between in refl))
    by false false true hn ht hf = (refl, first 0x66 _ hf (unfold kind_of between in refl))
    by false false false hn ht hf = tt

as_kind : (read : Option (ℕ → Option (Read Json))) (line : List ℕ) (at : ℕ) (kind : Kind) → OfKind kind (value_as read line at kind)
unfolding value_as bind bracketed kind_is
as_kind read line at Number = named_kind Number number (λ n. refl) (number_at line at)
as_kind read line at Text = named_kind Text text (λ t. refl) (text_at line at)
as_kind None line at Array = tt
as_kind (Some read) line at Array = named_kind Array array (λ es. refl) (array_at read line at)
as_kind None line at Object = tt
as_kind (Some read) line at Object = named_kind Object object (λ ms. refl) (object_at read line at)
as_kind read line at Word = all_map (λ r h. h.0) (word_at line at) (word_kind line at)
as_kind read line at Blank = tt
as_kind read line at Other = tt

-- one byte decides
pub value_kind : (depth : ℕ) (line : List ℕ) (at : ℕ) → OfKind (kind_of (byte_at line at)) (value_at depth line at)
value_kind depth line at = subst (OfKind (kind_of (byte_at line at))) (sym (value_by depth line at refl)) (as_kind (inner depth line) line at (kind_of (byte_at line at)))

-- the opening bracket of an object, or of an array
abbrev pub opening : Bool → ℕ
opening within_object = cond within_object 0x7b 0x5b

abbrev pub bracket_kind : Bool → Kind
bracket_kind within_object = cond within_object Object Array

-- of the kinds, the two of brackets say which byte it is
abbrev says : Kind → Bool → Bool → Bool
says Number array_opens object_opens = true
says Text array_opens object_opens = true
says Array array_opens object_opens = array_opens
says Object array_opens object_opens = object_opens
says Word array_opens object_opens = true
says Blank array_opens object_opens = true
says Other array_opens object_opens = true

kind_says : (b : ℕ) → says (kind_of b) (eqb b 0x5b) (eqb b 0x7b) ≡ true
unfolding kind_of
kind_says b = by (between 0x30 0x39 b) (eqb b quote) (eqb b 0x5b) (eqb b 0x7b) (between 0x61 0x7a b) (is_blank b)
  where
    by : (digit string array_opens object_opens letter blank : Bool) →
        says
        (cond digit Number (cond string Text (cond array_opens Array (cond object_opens Object (cond letter Word (cond blank Blank Other))))))
        array_opens
        object_opens
        ≡ true
    by true s a o l k = refl
    by false true a o l k = refl
    by false false true o l k = refl
    by false false false true l k = refl
    by false false false false true k = refl
    by false false false false false true = refl
    by false false false false false false = refl

pub kind_opens : (within_object : Bool) (line : List ℕ) (at : ℕ) → kind_of (byte_at line at) ≡ bracket_kind within_object → is_at line at (opening within_object) ≡ true
unfolding is_at
kind_opens true line at e = ap (λ (k : Kind). says k (eqb (byte_at line at) 0x5b) (eqb (byte_at line at) 0x7b)) (sym e) ∙ kind_says (byte_at line at)
kind_opens false line at e = ap (λ (k : Kind). says k (eqb (byte_at line at) 0x5b) (eqb (byte_at line at) 0x7b)) (sym e) ∙ kind_says (byte_at line at)

-- where a bracket opens, what is read is what stands behind it
pub opens_here : (within_object : Bool) (depth : ℕ) (line : List ℕ) (at : ℕ) → is_at line at (opening within_object) ≡ true
    → value_at (suc depth) line at ≡ bracketed within_object (value_at depth line) line at
unfolding is_at kind_of between value_as inner bind
opens_here true depth line at e = value_by (suc depth) line at (ap kind_of (eqb-true (byte_at line at) 0x7b e))
opens_here false depth line at e = value_by (suc depth) line at (ap kind_of (eqb-true (byte_at line at) 0x5b e))

-- the first item behind a bracket, by its tests
pub first_by_lem : (opens closes : ℕ) (line : List ℕ) (at : ℕ) {open-here close-here : Bool} → is_at line at opens ≡ open-here → is_at line (skip_blanks line (at + 1)) closes ≡ close-here
    → first_item opens closes line at ≡ cond open-here (cond close-here None (Some (skip_blanks line (at + 1)))) None
unfolding first_item
first_by_lem opens closes line at o c = λ i. cond (o i) (cond (c i) None (Some (skip_blanks line (at + 1)))) None

-- ---- counting elements

-- the number of elements that were read behind `n` others
unfoldable pub counted : ℕ → Option (Read Elements) → Option ℕ
counted n None = None
counted n (Some r) = Some (n + count r.value)

abbrev pub count_in : Option (Read Json) → Option ℕ
count_in o = option_and_then (λ r. count_of r.value) o

pub count_closed : (line : List ℕ) (at : ℕ) → is_at line at 0x5b ≡ false → element_count line at ≡ None
count_closed line at e = unfold element_count in by (value_here line at) (value_kind depth_limit line at)
  where
    value : (v : Json) → (kind_is v ≡ Array → ⊥) → count_of v ≡ None
    value null h = unfold count_of in refl
    value (bool b) h = unfold count_of in refl
    value (number n) h = unfold count_of in refl
    value (text t) h = unfold count_of in refl
    value (array es) h = absurd (h (unfold kind_is in refl))
    value (object ms) h = unfold count_of in refl

    by : (o : Option (Read Json)) → OfKind (kind_of (byte_at line at)) o → count_in o ≡ None
    by None h = refl
    by (Some r) h = value r.value (λ q. true≢false (sym (kind_opens false line at (sym h ∙ q)) ∙ e))

pub count_by : (line : List ℕ) (at : ℕ) {closes : Bool} → is_at line at 0x5b ≡ true → is_at line (skip_blanks line (at + 1)) 0x5d ≡ closes
    → element_count line at ≡ cond closes (Some 0) (counted 0 (elements_from 7 line (skip_blanks line (at + 1))))
unfolding bracketed element_count
count_by line at {closes} o c =
    (ap count_in (opens_here false 7 line at o) ∙ (of (array_at (value_at 7 line) line at) ∙ (ap (counted 0) (array_by 7 line at c) ∙ by closes)))
  where
    of : (r : Option (Read Elements)) → count_in (read_as array r) ≡ counted 0 r
    of None = unfold read_as counted in refl
    of (Some r) = unfold read_as counted count_of in ap Some (omega arith)

    by : (b : Bool) →
        counted 0 (cond b (Some (record { value = no_element; next = skip_blanks line (at + 1) + 1 })) (elements_from 7 line (skip_blanks line (at + 1))))
        ≡ cond b (Some 0) (counted 0 (elements_from 7 line (skip_blanks line (at + 1))))
    by true = unfold counted count in ap Some (omega arith)
    by false = refl

-- the step of the loop of `count_elements`
unfoldable pub count_behind : List ℕ → ℕ → Option Separator → Option ℕ
count_behind line n (Some (Close next)) = Some (n + 1)
count_behind line n (Some (Comma next)) = counted (n + 1) (elements_from 7 line next)
count_behind line n None = None

unfoldable pub count_on : List ℕ → ℕ → Option Cursor → Option ℕ
count_on line n None = None
count_on line n (Some c) = count_behind line n (separator_at 0x5d line c.at)

pub count_step : (line : List ℕ) (n at : ℕ) {step : Option Cursor} → at < length line → stepped longest 0 (value_at 7 line at) ≡ step
    → counted n (elements_from 7 line at) ≡ count_on line n step
unfolding element_at
count_step line n at h e = ap (counted n) (elements_step 7 line at h) ∙ (by (value_at 7 line at) ∙ ap (count_on line n) e)
  where
    one : (i : ℕ × Json) (o : Option (Read Elements)) → counted n (read_as (with_element i) o) ≡ counted (n + 1) o
    one i None = unfold read_as counted in refl
    one i (Some r) = unfold read_as counted count in ap Some (omega arith)

    separated : (s : Option Separator) → counted (n + 1) (behind_separator no_element (elements_from 7 line) s) ≡ count_behind line n s
    separated (Some (Close next)) = unfold behind_separator count_behind counted count in ap Some (omega arith)
    separated (Some (Comma next)) = unfold behind_separator count_behind in refl
    separated None = unfold behind_separator count_behind counted in refl

    by : (o : Option (Read Json)) →
        counted n (behind_item no_element with_element 0x5d line (elements_from 7 line) (read_as (λ v. (at, v)) o)) ≡ count_on line n (stepped longest 0 o)
    by None = unfold read_as behind_item counted count_on stepped in refl
    by (Some r) = unfold read_as behind_item count_on stepped in one (at, r.value) _ ∙ separated (separator_at 0x5d line r.next)

-- ---- a member by its name

-- the value of the last of these members with the name, behind others of which `found` was the last
unfoldable pub last_in : List ℕ → Option ℕ → Option (Read Members) → Option ℕ
last_in name found None = None
last_in name found (Some r) = last_named name r.value found

abbrev pub named_of : List ℕ → Option (Read Json) → Option ℕ
named_of name o = option_and_then (λ r. named_in name r.value) o

-- from the first member on
unfoldable pub named_from : List ℕ → List ℕ → Option ℕ → Option ℕ
named_from name line None = None
named_from name line (Some first) = last_in name None (members_from 7 line first)

pub named_by : (name line : List ℕ) (at : ℕ) {first : Option ℕ} → first_item 0x7b 0x7d line at ≡ first → member_named name line at ≡ named_from name line first
named_by name line at e =
    unfold member_named in (by (is_at line at 0x7b) (is_at line (skip_blanks line (at + 1)) 0x7d) refl refl ∙ ap (named_from name line) e)
  where
    value : (v : Json) → (kind_is v ≡ Object → ⊥) → named_in name v ≡ None
    value null h = unfold named_in in refl
    value (bool b) h = unfold named_in in refl
    value (number n) h = unfold named_in in refl
    value (text t) h = unfold named_in in refl
    value (array es) h = unfold named_in in refl
    value (object ms) h = absurd (h (unfold kind_is in refl))

    shut : (o : Option (Read Json)) → OfKind (kind_of (byte_at line at)) o → is_at line at 0x7b ≡ false → named_of name o ≡ None
    shut None h q = refl
    shut (Some r) h q = value r.value (λ k. true≢false (sym (kind_opens true line at (sym h ∙ k)) ∙ q))

    of : (o : Option (Read Members)) → named_of name (read_as object o) ≡ last_in name None o
    of None = unfold read_as last_in in refl
    of (Some r) = unfold read_as named_in last_in in refl

    open-here : (b : Bool) → is_at line at 0x7b ≡ true → is_at line (skip_blanks line (at + 1)) 0x7d ≡ b
        → named_of name (value_here line at) ≡ named_from name line (cond b None (Some (skip_blanks line (at + 1))))
    open-here b q c = unfold bracketed in
        ap (named_of name) (opens_here true 7 line at q) ∙ (of (object_at (value_at 7 line) line at) ∙ (ap (last_in name None) (object_by 7 line at c) ∙ closed b))
      where
        closed : (b : Bool) →
            last_in name None (cond b (Some (record { value = no_member; next = skip_blanks line (at + 1) + 1 })) (members_from 7 line (skip_blanks line (at + 1))))
            ≡ named_from name line (cond b None (Some (skip_blanks line (at + 1))))
        closed true = unfold last_in last_named named_from in refl
        closed false = unfold named_from in refl

    by : (o c : Bool) → is_at line at 0x7b ≡ o → is_at line (skip_blanks line (at + 1)) 0x7d ≡ c
        → named_of name (value_here line at) ≡ named_from name line (first_item 0x7b 0x7d line at)
    by true c q r = open-here c q r ∙ ap (named_from name line) (sym (first_by_lem 0x7b 0x7d line at q r))
    by false c q r =
        shut (value_here line at) (value_kind depth_limit line at) q ∙ unfold named_from in ap (named_from name line) (sym (first_by_lem 0x7b 0x7d line at q r))

-- a member's name is the string that stands at its place
pub name_string : (line : List ℕ) (at : ℕ) {name : Read (List ℕ)} → name_at line at ≡ Some name → (d : Decoded) × (string_at line at ≡ Some d) × (d.text ≡ name.value)
unfolding name_at text_at bind
name_string line at {name} = by (string_at line at)
  where
    colon : (d : Decoded) (b : Bool) (next : ℕ) → cond b (Some (record { value = d.text; next = next })) None ≡ Some name → d.text ≡ name.value
    colon d true next q = cc
    colon d false next q = let z : ◌≡◌ {A = ℕ} 0 1 = cc in absurd (omega arith)

    by : (o : Option Decoded) →
        bind (bind {B = Read (List ℕ)} o (λ d. Some (record { value = d.text; next = at + 1 + d.size })))
        (λ t.
        let p = skip_blanks line t.next in
        cond (is_at line p 0x3a) (Some (record { value = t.value; next = skip_blanks line (p + 1) })) None)
        ≡ Some name → (d : Decoded) × (o ≡ Some d) × (d.text ≡ name.value)
    by None q = let z : ◌≡◌ {A = ℕ} 0 1 = cc in absurd (omega arith)
    by (Some d) q = let p = skip_blanks line (at + 1 + d.size) in (d, refl, colon d (is_at line p 0x3a) (skip_blanks line (p + 1)) q)

pub is_string : (line : List ℕ) (at : ℕ) (t : List ℕ) {d : Decoded} → string_at line at ≡ Some d → string_is line at t ≡ same d.text t
unfolding string_is
is_string line at t q = λ i. elim (q i) [ None ↦ false | Some d ↦ same d.text t ]

pub value_place : (line : List ℕ) (at : ℕ) {name : Read (List ℕ)} → name_at line at ≡ Some name → member_value line at ≡ Some name.next
unfolding member_value behind
value_place line at q = ap behind q

-- the step of the loop of `member`
unfoldable pub named_behind : List ℕ → List ℕ → Option ℕ → Option Separator → Option ℕ
named_behind name line found (Some (Close next)) = found
named_behind name line found (Some (Comma next)) = last_in name found (members_from 7 line next)
named_behind name line found None = None

unfoldable pub named_on : List ℕ → List ℕ → Option ℕ → Option Cursor → Option ℕ
named_on name line found None = None
named_on name line found (Some c) = named_behind name line found (separator_at 0x7d line c.at)

pub named_step : (name line : List ℕ) (found : Option ℕ) (at : ℕ) {step : Option Cursor} → at < length line → item_step true 0 (value_at 7 line) line at ≡ step
    → last_in name found (members_from 7 line at) ≡ named_on name line (cond (string_is line at name) (member_value line at) found) step
unfolding member_at item_step
named_step name line found at h e = ap (last_in name found) (members_step 7 line at h) ∙ (by (name_at line at) refl ∙ ap (named_on name line here) e)
  where
    here : Option ℕ
    here = cond (string_is line at name) (member_value line at) found

    here-is : (n : Read (List ℕ)) → name_at line at ≡ Some n → here ≡ cond (same n.value name) (Some n.next) found
    here-is n q =
        let w = name_string line at q in
        let p = is_string line at name w.1 ∙ ap (λ (t : List ℕ). same t name) w.2 in
        let v = value_place line at q in
        λ i. cond (p i) (v i) found

    one : (m : ℕ × List ℕ × ℕ × Json) (o : Option (Read Members)) → last_in name found (read_as (with_member m) o) ≡ last_in name (cond (same m.1 name) (Some m.2) found) o
    one m None = unfold read_as last_in in refl
    one m (Some r) = unfold read_as last_in last_named in refl

    separated : (f : Option ℕ) (s : Option Separator) → last_in name f (behind_separator no_member (members_from 7 line) s) ≡ named_behind name line f s
    separated f (Some (Close next)) = unfold behind_separator last_in last_named named_behind in refl
    separated f (Some (Comma next)) = unfold behind_separator named_behind in refl
    separated f None = unfold behind_separator last_in named_behind in refl

    by : (o : Option (Read (List ℕ))) → name_at line at ≡ o →
        last_in name found
        (behind_item no_member with_member 0x7d line (members_from 7 line)
        (bind o (λ n. read_as (λ v. (at, n.value, n.next, v)) (value_at 7 line n.next))))
        ≡ named_on name line here
        (stepped (λ m. max (length m.1) (longest m.3)) 0 (bind o (λ n. read_as {B = ℕ × List ℕ × ℕ × Json} (λ v. (at, n.value, n.next, v)) (value_at 7 line n.next))))
    by None q = unfold bind behind_item last_in stepped named_on in refl
    by (Some n) q = unfold bind in value (value_at 7 line n.next)
      where
        value : (o : Option (Read Json)) →
            last_in name found (behind_item no_member with_member 0x7d line (members_from 7 line) (read_as (λ v. (at, n.value, n.next, v)) o))
            ≡ named_on name line here (stepped (λ m. max (length m.1) (longest m.3)) 0 (read_as {B = ℕ × List ℕ × ℕ × Json} (λ v. (at, n.value, n.next, v)) o))
        value None = unfold read_as behind_item last_in stepped named_on in refl
        value (Some r) = unfold read_as behind_item stepped named_on in
            one (at, n.value, n.next, r.value) _ ∙ (separated _ (separator_at 0x7d line r.next) ∙ ap (λ (f : Option ℕ). named_behind name line f (separator_at 0x7d line r.next)) (sym (here-is n q)))
