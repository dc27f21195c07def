-- Laws of the accessors for callers: at a place of a line's own tree each gives what the tree has there. Assumes nothing.
use Prim.Native.Nat.{ℕ, zero, ◌+◌, ◌-◌, ◌≤◌, ◌<◌}
use native.Mathlib.Nat.{le_trans}
use native.Mathlib.Omega.{arith}
use mathlib.Core.Path.{◌≡◌, refl, sym, ap, subst, ◌∙◌}
use mathlib.Core.Bool.{Bool, true, false, cond, true≢false}
use mathlib.Core.List.{List, [], ◌∷◌}
use Rattle.std.specs.Prelude.{Option, None, Some, option_map, option_and_then}
use Rattle.text.specs.Maybe.{bind}
use lib.Dec.{eqb}
use lib.ListN.{length, drop}
use borrow.Author.Tests.{eqb-true, eqb-false}
use Rattle.text.specs.Text.{same}
use Rattle.json_text.specs.Utf8.{byte_at, between}
use Rattle.json_text.specs.Strings.{quote, Decoded, string_from, string_at}
use Rattle.json_text.specs.Json.{Json, null, bool, number, text, array, object, Elements, no_element, element, Members, no_member, member, Read, is_at, skip_blanks, kind_of, digits, decimal, plain_number, number_at, word_at, text_at, read_as, separator_at, items_at, element_at, name_at, member_at, array_at, object_at, value_at, depth_limit, line_value}
use Rattle.json_text.specs.Access.{member_value, value_here, kind_at, first_item, after_comma, next_item, count_of, element_count, last_named, named_in, member_named, number_here, truth_of, truth_here, string_is, decoded_length, bracketed}
use Rattle.json_text.specs.declared.Kind.{Kind}
use Rattle.json_text.specs.declared.Kind.TheVariants.{Number, Text, Word}
use Rattle.json_text.specs.declared.Separator.{Separator}
use Rattle.json_text.specs.declared.Separator.TheVariants.{Close, Comma}
use Rattle.json_text.proofs.ScanLaws.{blanks_from, close_next, comma_next, name_next}
use Rattle.json_text.proofs.ValueLaws.{All, all_map, items_hold, value_next, value_deeper, inner, value_as, value_by, elements_from, members_from, array_by, object_by, with_element, with_member}
use Rattle.json_text.proofs.AccessSteps.{name_string, value_place, OfKind, kind_is, value_kind, byte_front, word_kind, bracket_kind, opening, kind_opens, opens_here, first_by_lem, count_in, named_of}

-- ---- at a place of the tree

-- the item behind an item, by what separates them
unfoldable pub place_behind : Option Separator → Option ℕ
place_behind (Some (Close next)) = None
place_behind (Some (Comma next)) = Some next
place_behind None = None

next_separated : (close : ℕ) (line : List ℕ) (at : ℕ) {r : Read Json} → eqb close 0x2c ≡ false → value_here line at ≡ Some r
    → next_item line at ≡ place_behind (separator_at close line r.next)
unfolding next_item after_comma separator_at is_at place_behind
next_separated close line at {r} h e = ap (after_comma line) e ∙ by (is_at line p close) (is_at line p 0x2c) refl refl
  where
    p : ℕ
    p = skip_blanks line r.next

    by : (b c : Bool) → is_at line p close ≡ b → is_at line p 0x2c ≡ c
        → cond c (Some (skip_blanks line (p + 1))) None ≡ place_behind (cond b (Some (Close (p + 1))) (cond c (Some (Comma (skip_blanks line (p + 1)))) None))
    by true true q k = absurd (eqb-false close 0x2c h (sym (eqb-true (byte_at line p) close q) ∙ eqb-true (byte_at line p) 0x2c k))
    by true false q k = refl
    by false true q k = refl
    by false false q k = refl

-- what was read under a name
named_inside : {A : Type 0} (make : A → Json) → ((a b : A) → make a ≡ make b → a ≡ b) → (P : Read A → Type 0) (o : Option (Read A)) {r : Read Json} {a : A}
    → All P o → read_as make o ≡ Some r → r.value ≡ make a → P (record { value = a; next = r.next })
unfolding read_as
named_inside make same-made P None h e q = let z : ◌≡◌ {A = ℕ} 0 1 = cc in absurd (omega arith)
named_inside make same-made P (Some x) {r} {a} h e q =
    let v : make x.value ≡ make a = cc in
    let n : x.next ≡ r.next = cc in
    let w = same-made x.value a v in
    subst P (λ i. record { value = w i; next = n i }) h

-- the kind of a value that was read is that of its byte
pub kind_is_lem : (depth : ℕ) (line : List ℕ) (at : ℕ) {r : Read Json} → value_at depth line at ≡ Some r → kind_at line at ≡ kind_is r.value
unfolding kind_at
kind_is_lem depth line at e = sym (subst (OfKind (kind_of (byte_at line at))) e (value_kind depth line at))

opens_is : (within_object : Bool) (depth : ℕ) (line : List ℕ) (at : ℕ) {r : Read Json} → value_at depth line at ≡ Some r → kind_is r.value ≡ bracket_kind within_object
    → is_at line at (opening within_object) ≡ true
unfolding kind_at
opens_is within_object depth line at e q = kind_opens within_object line at (kind_is_lem depth line at e ∙ q)

-- the place of the first of these elements, of these members
unfoldable pub element_place : Elements → Option ℕ
element_place no_element = None
element_place (element at value rest) = Some at

unfoldable pub member_place : Members → Option ℕ
member_place no_member = None
member_place (member at name value_start value rest) = Some at

-- an element of this value stands from `at` to `next`, no further than `high`, and the one behind it at `rest`
pub record ElementIs (line : List ℕ) (high at next : ℕ) (value : Json) (rest : Option ℕ) : Type 0 where
  pub reads : value_here line at ≡ Some (record { value = value; next = next })
  pub before : next ≤ high
  pub onward : next_item line at ≡ rest

-- all of these elements stand so, the first not before `low`
abbrev pub ElementsIn : List ℕ → ℕ → ℕ → Elements → Type 0
ElementsIn line low high no_element = Unit {0}
ElementsIn line low high (element at value rest) =
    (next : ℕ) × (low ≤ at) × ElementIs line high at next value (element_place rest) × ElementsIn line next high rest

lower_elements : (line : List ℕ) (low lower high : ℕ) (es : Elements) → lower ≤ low → ElementsIn line low high es → ElementsIn line lower high es
lower_elements line low lower high no_element h k = tt
lower_elements line low lower high (element at value rest) h k = (k.0, le_trans h k.1, k.2, k.3)

module _ (line : List ℕ) where
  abbrev ReadElement : ℕ → Read (ℕ × Json) → Type 0
  ReadElement at r = (r.value.0 ≡ at) × (value_at 7 line r.value.0 ≡ Some (record { value = r.value.1; next = r.next }))

  abbrev ReadElements : ℕ → Read Elements → Type 0
  ReadElements at r = (at < r.next) × (element_place r.value ≡ Some at) × ElementsIn line at r.next r.value

  element_is : (at high : ℕ) (r : Read (ℕ × Json)) {s : Option Separator} {rest : Option ℕ} → ReadElement at r → separator_at 0x5d line r.next ≡ s → place_behind s ≡ rest
      → r.next ≤ high → ElementIs line high r.value.0 r.next r.value.1 rest
  element_is at high r h e q k =
      let reads = value_deeper 7 8 line r.value.0 (omega arith) h.1 in
      record { reads = reads; before = k; onward = next_separated 0x5d line r.value.0 refl reads ∙ (ap place_behind e ∙ q) }

  elements_in : (most at : ℕ) → All (ReadElements at) (items_at no_element with_element (element_at (value_at 7 line)) 0x5d line most at)
  unfolding element_place place_behind
  elements_in = items_hold no_element with_element (element_at (value_at 7 line)) 0x5d line ReadElement ReadElements each closed onward
    where
      each : (at : ℕ) → All (ReadElement at) (element_at (value_at 7 line) at)
      each at = unfold element_at in by (value_at 7 line at) refl
        where
          by : (o : Option (Read Json)) → value_at 7 line at ≡ o → All (ReadElement at) (read_as (λ v. (at, v)) o)
          by None e = unfold read_as in tt
          by (Some r) e = unfold read_as in (refl, e)

      closed : (at : ℕ) (r : Read (ℕ × Json)) (next : ℕ) → ReadElement at r → separator_at 0x5d line r.next ≡ Some (Close next)
          → ReadElements at (record { value = with_element r.value no_element; next = next })
      closed at r next h e =
          let v = value_next 7 line r.value.0 h.1 in
          let n = close_next line r.next 0x5d (omega arith) e in
          (omega arith, ap Some h.0, (r.next, omega arith, element_is at next r h e refl (omega arith), tt))

      onward : (at : ℕ) (r : Read (ℕ × Json)) (next : ℕ) (rest : Read Elements) → ReadElement at r → separator_at 0x5d line r.next ≡ Some (Comma next) → ReadElements next rest
          → ReadElements at (record { value = with_element r.value rest.value; next = rest.next })
      onward at r next rest h e k =
          let v = value_next 7 line r.value.0 h.1 in
          let n = comma_next line r.next 0x5d e in (
            omega arith,
            ap Some h.0,
            (r.next, omega arith, element_is at rest.next r h e (sym k.1) (omega arith), lower_elements line next r.next rest.next rest.value (omega arith) k.2),
          )

-- an array that was read: the place of its first element, and where its elements stand
pub record ArrayIs (line : List ℕ) (at next : ℕ) (es : Elements) : Type 0 where
  pub first : first_item 0x5b 0x5d line at ≡ element_place es
  pub elements : ElementsIn line (at + 1) next es

pub array_is : (line : List ℕ) (at : ℕ) {r : Read Json} {es : Elements} → value_here line at ≡ Some r → r.value ≡ array es → ArrayIs line at r.next es
unfolding bracketed
array_is line at {r} {es} e q =
    named_inside array (λ a b h. cc) (λ x. ArrayIs line at x.next x.value) (array_at (value_at 7 line) line at)
    (inside (is_at line first 0x5d) refl) (sym (opens_here false 7 line at opens) ∙ e) q
  where
    first : ℕ
    first = skip_blanks line (at + 1)

    opens : is_at line at 0x5b ≡ true
    opens = opens_is false depth_limit line at e (unfold kind_is in ap kind_is q)

    inside : (b : Bool) → is_at line first 0x5d ≡ b → All (λ x. ArrayIs line at x.next x.value) (array_at (value_at 7 line) line at)
    inside true c = rw (array_by 7 line at c) (record { first = first_by_lem 0x5b 0x5d line at opens c ∙ unfold element_place in refl; elements = tt })
    inside false c =
        rw (array_by 7 line at c)
        (all_map
        (λ x h. record { first = first_by_lem 0x5b 0x5d line at opens c ∙ sym h.1; elements = lower_elements line first (at + 1) x.next x.value (blanks_from line (at + 1)) h.2 })
        (elements_from 7 line first) (elements_in line (length line - first) first))

-- a member of this name stands at `at`, its value from `value_start` to `next`, no further than `high`, and the one behind it at `rest`
pub record MemberIs (line : List ℕ) (high at : ℕ) (name : List ℕ) (value_start next : ℕ) (value : Json) (rest : Option ℕ) : Type 0 where
  pub string : (d : Decoded) × (string_at line at ≡ Some d) × (d.text ≡ name)
  pub valued : member_value line at ≡ Some value_start
  pub between : at < value_start
  pub reads : value_here line value_start ≡ Some (record { value = value; next = next })
  pub before : next ≤ high
  pub onward : next_item line value_start ≡ rest

-- all of these members stand so, the first not before `low`
abbrev pub MembersIn : List ℕ → ℕ → ℕ → Members → Type 0
MembersIn line low high no_member = Unit {0}
MembersIn line low high (member at name value_start value rest) =
    (next : ℕ) × (low ≤ at) × MemberIs line high at name value_start next value (member_place rest) × MembersIn line next high rest

lower_members : (line : List ℕ) (low lower high : ℕ) (ms : Members) → lower ≤ low → MembersIn line low high ms → MembersIn line lower high ms
lower_members line low lower high no_member h k = tt
lower_members line low lower high (member at name value_start value rest) h k = (k.0, le_trans h k.1, k.2, k.3)

module _ (line : List ℕ) where
  abbrev ReadMember : ℕ → Read (ℕ × List ℕ × ℕ × Json) → Type 0
  ReadMember at r =
      (r.value.0 ≡ at)
      × (name_at line r.value.0 ≡ Some (record { value = r.value.1; next = r.value.2 }))
      × (value_at 7 line r.value.2 ≡ Some (record { value = r.value.3; next = r.next }))

  abbrev ReadMembers : ℕ → Read Members → Type 0
  ReadMembers at r = (at < r.next) × (member_place r.value ≡ Some at) × MembersIn line at r.next r.value

  member_is : (at high : ℕ) (r : Read (ℕ × List ℕ × ℕ × Json)) {s : Option Separator} {rest : Option ℕ}
      → ReadMember at r → separator_at 0x7d line r.next ≡ s → place_behind s ≡ rest → r.next ≤ high
      → MemberIs line high r.value.0 r.value.1 r.value.2 r.next r.value.3 rest
  member_is at high r h e q k =
      let reads = value_deeper 7 8 line r.value.2 (omega arith) h.2 in
      record {
        string = name_string line r.value.0 h.1;
        valued = value_place line r.value.0 h.1;
        between = (name_next line r.value.0 h.1).0;
        reads = reads;
        before = k;
        onward = next_separated 0x7d line r.value.2 refl reads ∙ (ap place_behind e ∙ q);
      }

  members_in : (most at : ℕ) → All (ReadMembers at) (items_at no_member with_member (member_at (value_at 7 line) line) 0x7d line most at)
  unfolding member_place place_behind
  members_in = items_hold no_member with_member (member_at (value_at 7 line) line) 0x7d line ReadMember ReadMembers each closed onward
    where
      each : (at : ℕ) → All (ReadMember at) (member_at (value_at 7 line) line at)
      each at = unfold member_at in by (name_at line at) refl
        where
          by_value : (n : Read (List ℕ)) → name_at line at ≡ Some n → (o : Option (Read Json)) → value_at 7 line n.next ≡ o
              → All (ReadMember at) (read_as (λ v. (at, n.value, n.next, v)) o)
          by_value n q None e = unfold read_as in tt
          by_value n q (Some r) e = unfold read_as in (refl, q, e)

          by : (o : Option (Read (List ℕ))) → name_at line at ≡ o
              → All (ReadMember at) (bind o (λ n. read_as (λ v. (at, n.value, n.next, v)) (value_at 7 line n.next)))
          by None q = unfold bind in tt
          by (Some n) q = unfold bind in by_value n q (value_at 7 line n.next) refl

      closed : (at : ℕ) (r : Read (ℕ × List ℕ × ℕ × Json)) (next : ℕ) → ReadMember at r → separator_at 0x7d line r.next ≡ Some (Close next)
          → ReadMembers at (record { value = with_member r.value no_member; next = next })
      closed at r next h e =
          let m = name_next line r.value.0 h.1 in
          let v = value_next 7 line r.value.2 h.2 in
          let n = close_next line r.next 0x7d (omega arith) e in
          (omega arith, ap Some h.0, (r.next, omega arith, member_is at next r h e refl (omega arith), tt))

      onward : (at : ℕ) (r : Read (ℕ × List ℕ × ℕ × Json)) (next : ℕ) (rest : Read Members)
          → ReadMember at r → separator_at 0x7d line r.next ≡ Some (Comma next) → ReadMembers next rest
          → ReadMembers at (record { value = with_member r.value rest.value; next = rest.next })
      onward at r next rest h e k =
          let m = name_next line r.value.0 h.1 in
          let v = value_next 7 line r.value.2 h.2 in
          let n = comma_next line r.next 0x7d e in (
            omega arith,
            ap Some h.0,
            (r.next, omega arith, member_is at rest.next r h e (sym k.1) (omega arith), lower_members line next r.next rest.next rest.value (omega arith) k.2),
          )

-- an object that was read: the place of its first member, and where its members stand
pub record ObjectIs (line : List ℕ) (at next : ℕ) (ms : Members) : Type 0 where
  pub first : first_item 0x7b 0x7d line at ≡ member_place ms
  pub members : MembersIn line (at + 1) next ms

pub object_is : (line : List ℕ) (at : ℕ) {r : Read Json} {ms : Members} → value_here line at ≡ Some r → r.value ≡ object ms → ObjectIs line at r.next ms
unfolding bracketed
object_is line at {r} {ms} e q =
    named_inside object (λ a b h. cc) (λ x. ObjectIs line at x.next x.value) (object_at (value_at 7 line) line at)
    (inside (is_at line first 0x7d) refl) (sym (opens_here true 7 line at opens) ∙ e) q
  where
    first : ℕ
    first = skip_blanks line (at + 1)

    opens : is_at line at 0x7b ≡ true
    opens = opens_is true depth_limit line at e (unfold kind_is in ap kind_is q)

    inside : (b : Bool) → is_at line first 0x7d ≡ b → All (λ x. ObjectIs line at x.next x.value) (object_at (value_at 7 line) line at)
    inside true c = rw (object_by 7 line at c) (record { first = first_by_lem 0x7b 0x7d line at opens c ∙ unfold member_place in refl; members = tt })
    inside false c =
        rw (object_by 7 line at c)
        (all_map
        (λ x h. record { first = first_by_lem 0x7b 0x7d line at opens c ∙ sym h.1; members = lower_members line first (at + 1) x.next x.value (blanks_from line (at + 1)) h.2 })
        (members_from 7 line first) (members_in line (length line - first) first))

-- ---- the accessors of a value, by the value

pub count_is : (line : List ℕ) (at : ℕ) {r : Read Json} → value_here line at ≡ Some r → element_count line at ≡ count_of r.value
unfolding element_count
count_is line at e = ap count_in e

pub named_is : (name line : List ℕ) (at : ℕ) {r : Read Json} → value_here line at ≡ Some r → member_named name line at ≡ named_in name r.value
unfolding member_named
named_is name line at e = ap (named_of name) e

-- where a number, a word, a string is read, the byte says so
digit_kind : (b : ℕ) → between 0x30 0x39 b ≡ true → kind_of b ≡ Number
unfolding kind_of
digit_kind b e = rw e

number_kind : (line : List ℕ) (at : ℕ) → All (λ r. kind_at line at ≡ Number) (number_at line at)
unfolding number_at kind_at
number_kind line at = by (plain_number (digits (drop at line))) refl
  where
    first : (s : List ℕ) → plain_number (digits s) ≡ true → between 0x30 0x39 (byte_at s 0) ≡ true
    first [] e = absurd (true≢false (sym e ∙ unfold plain_number digits in refl))
    first (b ∷ s) e = digit (between 0x30 0x39 b) refl (unfold digits in e)
      where
        digit : (t : Bool) → between 0x30 0x39 b ≡ t → plain_number (cond t ((b - 0x30) ∷ digits s) []) ≡ true → t ≡ true
        digit true q k = refl
        digit false q k = absurd (true≢false (sym k ∙ unfold plain_number in refl))

    by : (t : Bool) → plain_number (digits (drop at line)) ≡ t
        → All {A = Read ℕ} (λ r. kind_of (byte_at line at) ≡ Number) (cond t (Some (record { value = decimal 0 (digits (drop at line)); next = at + length (digits (drop at line)) })) None)
    by true e = ap kind_of (sym (byte_front line at)) ∙ digit_kind (byte_at (drop at line) 0) (first (drop at line) e)
    by false e = tt

text_kind : (line : List ℕ) (at : ℕ) → All (λ r. kind_at line at ≡ Text) (text_at line at)
unfolding text_at string_at kind_at
text_kind line at = by (eqb (byte_at line at) quote) refl
  where
    read : (o : Option Decoded) → kind_of (byte_at line at) ≡ Text
        → All (λ r. kind_of (byte_at line at) ≡ Text) (bind {B = Read (List ℕ)} o (λ d. Some (record { value = d.text; next = at + 1 + d.size })))
    read None k = unfold bind in tt
    read (Some d) k = unfold bind in k

    by : (t : Bool) → eqb (byte_at line at) quote ≡ t
        → All (λ r. kind_of (byte_at line at) ≡ Text)
        (bind {B = Read (List ℕ)} (cond t (string_from zero (drop (at + 1) line)) None) (λ d. Some (record { value = d.text; next = at + 1 + d.size })))
    by true e = read (string_from zero (drop (at + 1) line)) (ap kind_of (eqb-true (byte_at line at) quote e) ∙ unfold kind_of between in refl)
    by false e = unfold bind in tt

-- what reads a kind of value reads it where a value of that kind stands, and nothing where another stands
module _ {A X : Type 0} (kind : Kind) (make : A → Json) (of : Json → X) (absent : X) (other : (v : Json) → (kind_is v ≡ kind → ⊥) → of v ≡ absent) where
  unfoldable picked : Option (Read A) → X
  picked None = absent
  picked (Some x) = of (make x.value)

  picked_is : (depth : ℕ) (line : List ℕ) (at : ℕ) (o : Option (Read A)) {r : Read Json} → All (λ x. kind_at line at ≡ kind) o
      → value_as (inner depth line) line at kind ≡ read_as make o → value_at depth line at ≡ Some r → picked o ≡ of r.value
  unfolding picked kind_at read_as
  picked_is depth line at None {r} h q e = sym (other r.value (λ k. never (sym (value_by depth line at (kind_is_lem depth line at e ∙ k) ∙ q) ∙ e)))
    where
      never : None ≡ Some r → ⊥
      never z = let w : ◌≡◌ {A = ℕ} 0 1 = cc in omega arith
  picked_is depth line at (Some x) {r} h q e =
      let w : Some (record { value = make x.value; next = x.next }) ≡ Some r = sym (value_by depth line at h ∙ q) ∙ e in
      let v : make x.value ≡ r.value = cc in
      ap of v

unfoldable pub number_of : Json → Option ℕ
number_of null = None
number_of (bool b) = None
number_of (number n) = Some n
number_of (text t) = None
number_of (array es) = None
number_of (object ms) = None

pub number_is : (depth : ℕ) (line : List ℕ) (at : ℕ) {r : Read Json} → value_at depth line at ≡ Some r → number_here line at ≡ number_of r.value
unfolding number_here value_as
number_is depth line at e = by (number_at line at) ∙ picked_is Number number number_of None other depth line at (number_at line at) (number_kind line at) refl e
  where
    other : (v : Json) → (kind_is v ≡ Number → ⊥) → number_of v ≡ None
    other null h = unfold number_of in refl
    other (bool b) h = unfold number_of in refl
    other (number n) h = absurd (h (unfold kind_is in refl))
    other (text t) h = unfold number_of in refl
    other (array es) h = unfold number_of in refl
    other (object ms) h = unfold number_of in refl

    by : (o : Option (Read ℕ)) → option_map (λ (r : Read ℕ). r.value) o ≡ picked Number number number_of None other o
    by None = unfold picked in refl
    by (Some r) = unfold picked number_of in refl

pub truth_is : (depth : ℕ) (line : List ℕ) (at : ℕ) {r : Read Json} → value_at depth line at ≡ Some r → truth_here line at ≡ truth_of r.value
unfolding truth_here value_as
truth_is depth line at e = by (word_at line at) ∙ picked_is Word (λ v. v) truth_of None other depth line at (word_at line at) (all_map (λ r h. h.1) (word_at line at) (word_kind line at)) (itself (word_at line at)) e
  where
    other : (v : Json) → (kind_is v ≡ Word → ⊥) → truth_of v ≡ None
    other null h = absurd (h (unfold kind_is in refl))
    other (bool b) h = absurd (h (unfold kind_is in refl))
    other (number n) h = unfold truth_of in refl
    other (text t) h = unfold truth_of in refl
    other (array es) h = unfold truth_of in refl
    other (object ms) h = unfold truth_of in refl

    itself : (o : Option (Read Json)) → o ≡ read_as (λ v. v) o
    itself None = unfold read_as in refl
    itself (Some r) = unfold read_as in refl

    by : (o : Option (Read Json)) → option_and_then (λ r. truth_of r.value) o ≡ picked Word (λ v. v) truth_of None other o
    by None = unfold picked in refl
    by (Some r) = unfold picked in refl

-- a text that a string's value gives
unfoldable pub text_of : {X : Type 0} → (List ℕ → X) → X → Json → X
text_of given absent null = absent
text_of given absent (bool b) = absent
text_of given absent (number n) = absent
text_of given absent (text t) = given t
text_of given absent (array es) = absent
text_of given absent (object ms) = absent

text_is : {X : Type 0} (given : List ℕ → X) (absent : X) (depth : ℕ) (line : List ℕ) (at : ℕ) {r : Read Json} → value_at depth line at ≡ Some r
    → elim (string_at line at) [ None ↦ absent | Some d ↦ given d.text ] ≡ text_of given absent r.value
unfolding value_as text_at
text_is given absent depth line at e =
    by (string_at line at) ∙ picked_is Text text (text_of given absent) absent other depth line at (text_at line at) (text_kind line at) refl e
  where
    other : (v : Json) → (kind_is v ≡ Text → ⊥) → text_of given absent v ≡ absent
    other null h = unfold text_of in refl
    other (bool b) h = unfold text_of in refl
    other (number n) h = unfold text_of in refl
    other (text t) h = absurd (h (unfold kind_is in refl))
    other (array es) h = unfold text_of in refl
    other (object ms) h = unfold text_of in refl

    by : (o : Option Decoded) → elim o [ None ↦ absent | Some d ↦ given d.text ]
        ≡ picked Text text (text_of given absent) absent other (bind {B = Read (List ℕ)} o (λ d. Some (record { value = d.text; next = at + 1 + d.size })))
    by None = unfold picked bind in refl
    by (Some d) = unfold picked bind text_of in refl

pub string_is_lem : (depth : ℕ) (line : List ℕ) (at : ℕ) (t : List ℕ) {r : Read Json} → value_at depth line at ≡ Some r
    → string_is line at t ≡ text_of (λ s. same s t) false r.value
unfolding string_is
string_is_lem depth line at t e = text_is (λ s. same s t) false depth line at e

pub length-is : (depth : ℕ) (line : List ℕ) (at : ℕ) {r : Read Json} → value_at depth line at ≡ Some r
    → decoded_length line at ≡ text_of (λ s. Some (length s)) None r.value
unfolding decoded_length
length-is depth line at e = by (string_at line at) ∙ text_is (λ s. Some (length s)) None depth line at e
  where
    by : (o : Option Decoded) → option_map (λ (d : Decoded). length d.text) o ≡ elim o [ None ↦ None | Some d ↦ Some (length d.text) ]
    by None = refl
    by (Some d) = refl

-- the string itself
pub string_here : (depth : ℕ) (line : List ℕ) (at : ℕ) {r : Read Json} {t : List ℕ} → value_at depth line at ≡ Some r → r.value ≡ text t
    → (d : Decoded) × (string_at line at ≡ Some d) × (d.text ≡ t)
unfolding text_of
string_here depth line at {r} {t} e q = by (string_at line at) (text_is Some None depth line at e ∙ ap (text_of Some None) q)
  where
    by : (o : Option Decoded) → elim o as (λ o. Option (List ℕ)) [ None ↦ None | Some d ↦ Some d.text ] ≡ Some t → (d : Decoded) × (o ≡ Some d) × (d.text ≡ t)
    by None h = let z : ◌≡◌ {A = ℕ} 0 1 = cc in absurd (omega arith)
    by (Some d) h = (d, refl, cc)

-- ---- the value of a member by its name, and of a line

-- the value of the last member with the name
unfoldable pub last_value : List ℕ → Members → Option Json → Option Json
last_value name no_member found = found
last_value name (member at n value_start value rest) found = last_value name rest (cond (same n name) (Some value) found)

-- this value stands at this place, or none at none
abbrev pub FoundIs : List ℕ → Option ℕ → Option Json → Type 0
FoundIs line None None = Unit {0}
FoundIs line None (Some value) = ⊥
FoundIs line (Some at) None = ⊥
FoundIs line (Some at) (Some value) = (next : ℕ) × (value_here line at ≡ Some (record { value = value; next = next }))

last_found : (name line : List ℕ) (low high : ℕ) (ms : Members) (place : Option ℕ) (found : Option Json) → MembersIn line low high ms → FoundIs line place found
    → FoundIs line (last_named name ms place) (last_value name ms found)
unfolding last_named last_value
last_found name line low high no_member place found h k = k
last_found name line low high (member at n value_start value rest) place found h k =
    last_found name line h.0 high rest (cond (same n name) (Some value_start) place) (cond (same n name) (Some value) found) h.3 (by (same n name))
  where
    by : (b : Bool) → FoundIs line (cond b (Some value_start) place) (cond b (Some value) found)
    by true = (h.0, h.2.reads)
    by false = k

pub member_is_last : (name line : List ℕ) (at : ℕ) {r : Read Json} {ms : Members} → value_here line at ≡ Some r → r.value ≡ object ms
    → FoundIs line (member_named name line at) (last_value name ms None)
unfolding named_in
member_is_last name line at {r} {ms} e q =
    subst (λ p. FoundIs line p (last_value name ms None)) (sym (named_is name line at e ∙ ap (named_in name) q))
    (last_found name line (at + 1) r.next ms None None (object_is line at e q).members tt)

-- the value of a line stands behind the blanks at its front
pub line_is : (line : List ℕ) {v : Json} → line_value line ≡ Some v → (next : ℕ) × (value_here line (skip_blanks line 0) ≡ Some (record { value = v; next = next }))
unfolding line_value
line_is line {v} = by (value_here line (skip_blanks line 0))
  where
    ends : (r : Read Json) (b : Bool) → cond b (Some r.value) None ≡ Some v → r.value ≡ v
    ends r true q = cc
    ends r false q = let z : ◌≡◌ {A = ℕ} 0 1 = cc in absurd (omega arith)

    by : (o : Option (Read Json)) → bind o (λ r. cond (eqb (skip_blanks line r.next) (length line)) (Some r.value) None) ≡ Some v
        → (next : ℕ) × (o ≡ Some (record { value = v; next = next }))
    by None q = unfold bind in let z : ◌≡◌ {A = ℕ} 0 1 = cc in absurd (omega arith)
    by (Some r) q =
        let e = ends r (eqb (skip_blanks line r.next) (length line)) (unfold bind in q) in
        (r.next, λ i. Some (record { value = e i; next = r.next }))
