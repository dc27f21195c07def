-- Laws for readers that go over a line in one pass: elements one by one, an array from its elements, a line from its value. Assumes nothing.
use Prim.Native.Nat.{ℕ, suc, ◌+◌, max}
use native.Mathlib.Omega.{arith}
use mathlib.Core.Path.{◌≡◌, refl, sym, ap, ◌∙◌}
use mathlib.Core.Bool.{Bool, true, false, cond}
use mathlib.Core.List.{List}
use Rattle.std.specs.Prelude.{Option, None, Some}
use Rattle.text.specs.Maybe.{bind}
use Rattle.std.proofs.lemmas.Option.{none-some}
use lib.Dec.{eqb}
use lib.ListN.{length}
use borrow.Author.Tests.{eqb-true, eq-eqb}
use Rattle.text.proofs.Laws.{isnt}
use Rattle.json_text.specs.Utf8.{byte_at, between}
use Rattle.json_text.specs.Strings.{quote, string_at}
use Rattle.json_text.specs.Json.{Json, array, object, Elements, no_element, element, Members, no_member, member, Read, is_at, is_blank, skip_blanks, kind_of, text_at, read_as, separator_at, element_at, member_at, name_at, value_at, line_value}
use Rattle.json_text.specs.Access.{stepped, value_here, bracketed}
use Rattle.json_text.specs.declared.Cursor.{Cursor}
use Rattle.json_text.specs.declared.Separator.{Separator}
use Rattle.json_text.specs.declared.Separator.TheVariants.{Close, Comma}
use Rattle.json_text.proofs.ScanLaws.{at_within, name_next}
use Rattle.json_text.proofs.ValueLaws.{behind_separator, behind_item, with_element, value_as, value_by, value_next, elements_from, elements_step, array_by, with_member, members_from, members_step, object_by}
use Rattle.json_text.proofs.AccessSteps.{opens_here}

-- what was read, by the cursor behind it
pub record Stepped {What : Type 0} (size : What → ℕ) (before : ℕ) (o : Option (Read What)) (c : Cursor) : Type 0 where
  pub value : What
  pub is : o ≡ Some (record { value = value; next = c.at })
  pub long : max before (size value) ≡ c.longest

pub stepped-none : {What : Type 0} (size : What → ℕ) (before : ℕ) (o : Option (Read What)) → stepped size before o ≡ None → o ≡ None
unfolding stepped
stepped-none size before None e = refl
stepped-none size before (Some r) e = let z : ◌≡◌ {A = ℕ} 0 1 = cc in absurd (omega arith)

pub stepped_some : {What : Type 0} (size : What → ℕ) (before : ℕ) (o : Option (Read What)) {c : Cursor} → stepped size before o ≡ Some c → Stepped size before o c
unfolding stepped
stepped_some size before None e = let z : ◌≡◌ {A = ℕ} 0 1 = cc in absurd (omega arith)
stepped_some size before (Some r) e =
    let next = at_of e in
    record { value = r.value; is = λ i. Some (record { value = r.value; next = next i }); long = long_of e }
  where
    at_of : {a b : Cursor} → Some a ≡ Some b → a.at ≡ b.at
    at_of q = cc

    long_of : {a b : Cursor} → Some a ≡ Some b → a.longest ≡ b.longest
    long_of q = cc

-- ---- elements

module _ (depth : ℕ) (line : List ℕ) where
  step_element : (at : ℕ) {v : Json} {end : ℕ} {s : Option Separator} → value_at depth line at ≡ Some (record { value = v; next = end }) → separator_at 0x5d line end ≡ s
      → elements_from depth line at ≡ read_as (with_element (at, v)) (behind_separator no_element (elements_from depth line) s)
  unfolding behind_item element_at read_as
  step_element at {v} {end} e q =
      elements_step depth line at (omega (arith, value_next depth line at e))
      ∙ (ap (λ o. behind_item no_element with_element 0x5d line (elements_from depth line) (read_as (λ (w : Json). (at, w)) o)) e
      ∙ ap (λ (s : Option Separator). read_as (with_element (at, v)) (behind_separator no_element (elements_from depth line) s)) q)

  pub elements_last : (at : ℕ) {v : Json} {end next : ℕ} → value_at depth line at ≡ Some (record { value = v; next = end }) → separator_at 0x5d line end ≡ Some (Close next)
      → elements_from depth line at ≡ Some (record { value = element at v no_element; next = next })
  unfolding behind_separator read_as
  elements_last at e q = step_element at e q

  pub elements_more : (at : ℕ) {v : Json} {end next : ℕ} {r : Read Elements} → value_at depth line at ≡ Some (record { value = v; next = end }) → separator_at 0x5d line end ≡ Some (Comma next)
      → elements_from depth line next ≡ Some r → elements_from depth line at ≡ Some (record { value = element at v r.value; next = r.next })
  unfolding behind_separator read_as
  elements_more at {v} e q h = step_element at e q ∙ ap (read_as (with_element (at, v))) h

  -- no element begins with the closing bracket
  elements_open : (at : ℕ) {r : Read Elements} → elements_from depth line at ≡ Some r → is_at line at 0x5d ≡ false
  unfolding behind_item element_at read_as is_at kind_of between is_blank value_as
  elements_open at {r} e = isnt (eqb (byte_at line at) 0x5d) none-there
    where
      none-there : eqb (byte_at line at) 0x5d ≡ true → ⊥
      none-there q =
          let absent = value_by depth line at (ap kind_of (eqb-true (byte_at line at) 0x5d q)) in
          let nothing = ap (λ o. behind_item no_element with_element 0x5d line (elements_from depth line) (read_as (λ (w : Json). (at, w)) o)) absent in
          none-some r (sym (elements_step depth line at (at_within line at 0x5d (omega arith) q) ∙ nothing) ∙ e)

  -- an array, from its elements
  pub array-read : (at : ℕ) {first : ℕ} {r : Read Elements} → is_at line at 0x5b ≡ true → first ≡ skip_blanks line (at + 1) → elements_from depth line first ≡ Some r
      → value_at (suc depth) line at ≡ Some (record { value = array r.value; next = r.next })
  unfolding bracketed read_as
  array-read at {first} {r} o f e =
      let there : elements_from depth line (skip_blanks line (at + 1)) ≡ Some r = ap (elements_from depth line) (sym f) ∙ e in
      opens_here false depth line at o
      ∙ (ap (read_as array) (array_by depth line at (elements_open (skip_blanks line (at + 1)) there) ∙ there))

-- ---- members

module _ (depth : ℕ) (line : List ℕ) where
  step_member : (at : ℕ) {name : List ℕ} {p : ℕ} {v : Json} {end : ℕ} {s : Option Separator} → name_at line at ≡ Some (record { value = name; next = p })
      → value_at depth line p ≡ Some (record { value = v; next = end }) → separator_at 0x7d line end ≡ s
      → members_from depth line at ≡ read_as (with_member (at, name, p, v)) (behind_separator no_member (members_from depth line) s)
  unfolding behind_item member_at read_as bind
  step_member at {name} {p} {v} n e q =
      members_step depth line at (omega (arith, name_next line at n))
      ∙ (ap (behind_item no_member with_member 0x7d line (members_from depth line))
      (ap (λ o. bind o (λ (r : Read (List ℕ)). read_as {B = ℕ × List ℕ × ℕ × Json} (λ w. (at, r.value, r.next, w)) (value_at depth line r.next))) n
      ∙ ap (λ o. read_as {B = ℕ × List ℕ × ℕ × Json} (λ w. (at, name, p, w)) o) e)
      ∙ ap (λ (s : Option Separator). read_as (with_member (at, name, p, v)) (behind_separator no_member (members_from depth line) s)) q)

  pub members_last : (at : ℕ) {name : List ℕ} {p : ℕ} {v : Json} {end next : ℕ} → name_at line at ≡ Some (record { value = name; next = p })
      → value_at depth line p ≡ Some (record { value = v; next = end }) → separator_at 0x7d line end ≡ Some (Close next)
      → members_from depth line at ≡ Some (record { value = member at name p v no_member; next = next })
  unfolding behind_separator read_as
  members_last at n e q = step_member at n e q

  pub members_more : (at : ℕ) {name : List ℕ} {p : ℕ} {v : Json} {end next : ℕ} {r : Read Members} → name_at line at ≡ Some (record { value = name; next = p })
      → value_at depth line p ≡ Some (record { value = v; next = end }) → separator_at 0x7d line end ≡ Some (Comma next)
      → members_from depth line next ≡ Some r → members_from depth line at ≡ Some (record { value = member at name p v r.value; next = r.next })
  unfolding behind_separator read_as
  members_more at {name} {p} {v} n e q h = step_member at n e q ∙ ap (read_as (with_member (at, name, p, v))) h

  -- no member begins with the closing bracket
  members_open : (at : ℕ) {r : Read Members} → members_from depth line at ≡ Some r → is_at line at 0x7d ≡ false
  unfolding behind_item member_at name_at text_at string_at bind is_at
  members_open at {r} e = isnt (eqb (byte_at line at) 0x7d) none-there
    where
      none-there : eqb (byte_at line at) 0x7d ≡ true → ⊥
      none-there q =
          let other : eqb (byte_at line at) quote ≡ false = ap (λ (b : ℕ). eqb b quote) (eqb-true (byte_at line at) 0x7d q) in
          let nothing : behind_item no_member with_member 0x7d line (members_from depth line) (member_at (value_at depth line) line at) ≡ None = rw other in
          none-some r (sym (members_step depth line at (at_within line at 0x7d (omega arith) q) ∙ nothing) ∙ e)

  -- an object, from its members
  pub object-read : (at : ℕ) {first : ℕ} {r : Read Members} → is_at line at 0x7b ≡ true → first ≡ skip_blanks line (at + 1) → members_from depth line first ≡ Some r
      → value_at (suc depth) line at ≡ Some (record { value = object r.value; next = r.next })
  unfolding bracketed read_as
  object-read at {first} {r} o f e =
      let there : members_from depth line (skip_blanks line (at + 1)) ≡ Some r = ap (members_from depth line) (sym f) ∙ e in
      opens_here true depth line at o
      ∙ (ap (read_as object) (object_by depth line at (members_open (skip_blanks line (at + 1)) there) ∙ there))

-- ---- a line

pub line_read : (line : List ℕ) {first next : ℕ} {v : Json} → first ≡ skip_blanks line 0 → value_here line first ≡ Some (record { value = v; next = next })
    → skip_blanks line next ≡ length line → line_value line ≡ Some v
unfolding line_value bind
line_read line {first} {next} {v} f e q =
    ap (λ o. bind o (λ r. cond (eqb (skip_blanks line r.next) (length line)) (Some r.value) None)) (ap (value_here line) (sym f) ∙ e)
    ∙ ap (λ (b : Bool). cond b (Some v) None) (eq-eqb _ _ q)
