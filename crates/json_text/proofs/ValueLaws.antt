-- Laws of values: how far reading goes, the step of a loop over the items of a bracket, and reading within a larger depth.
-- Assumes nothing.
use Prim.Native.Nat.{ℕ, zero, suc, ◌+◌, ◌-◌, ◌≤◌, ◌<◌, max}
use native.Mathlib.Omega.{arith}
use mathlib.Core.Path.{◌≡◌, refl, sym, ap, subst, ◌∙◌}
use mathlib.Core.Bool.{Bool, true, false, cond}
use mathlib.Core.List.{List}
use Rattle.std.specs.Prelude.{Option, None, Some}
use Rattle.text.specs.Maybe.{bind}
use lib.ListN.{length}
use Rattle.json_text.specs.Utf8.{byte_at}
use Rattle.json_text.specs.Json.{Json, number, text, array, object, Elements, no_element, element, Members, no_member, member, Read, is_at, skip_blanks, kind_of, number_at, word_at, text_at, read_as, separator_at, items_at, bracket_at, element_at, name_at, member_at, array_at, object_at, value_with, value_at, longest, longest_element, longest_member}
use Rattle.json_text.specs.Access.{stepped, no_string, closing, bracketed, itemized, item_step}
use Rattle.json_text.specs.declared.Kind.{Kind}
use Rattle.json_text.specs.declared.Kind.TheVariants.{Number, Text, Array, Object, Word, Blank, Other}
use Rattle.json_text.specs.declared.Cursor.{Cursor}
use Rattle.json_text.specs.declared.Separator.{Separator}
use Rattle.json_text.specs.declared.Separator.TheVariants.{Close, Comma}
use Rattle.json_text.proofs.ScanLaws.{blanks_from, at_within, number_next, word_next, text_next, name_next, comma_next, close_next}

-- ---- how far reading goes

-- what was read, if anything was, has this property
abbrev pub All : {A : Type 0} → (A → Type 0) → Option A → Type 0
All P None = Unit {0}
All P (Some a) = P a

pub all_map : {A : Type 0} {P Q : A → Type 0} → ((a : A) → P a → Q a) → (o : Option A) → All P o → All Q o
all_map f None h = tt
all_map f (Some a) h = f a h

-- it ends behind the place where it began, and within the line
abbrev pub Ahead : {What : Type 0} → List ℕ → ℕ → Option (Read What) → Type 0
Ahead line at o = All (λ r. (at < r.next) × (r.next ≤ length line)) o

pub ahead : {What : Type 0} (line : List ℕ) (at : ℕ) (o : Option (Read What)) → ((r : Read What) → o ≡ Some r → (at < r.next) × (r.next ≤ length line)) → Ahead line at o
ahead line at None h = tt
ahead line at (Some r) h = h r refl

-- from the line's end on nothing is read
pub past : {What : Type 0} (line : List ℕ) (at : ℕ) (o : Option (Read What)) → Ahead line at o → length line ≤ at → o ≡ None
past line at None h k = refl
past line at (Some r) h k = absurd (omega arith)

ahead_from : {What : Type 0} (line : List ℕ) (at p : ℕ) (o : Option (Read What)) → at ≤ p → Ahead line p o → Ahead line at o
ahead_from line at p None h k = tt
ahead_from line at p (Some r) h k = omega arith

ahead_named : {A B : Type 0} (line : List ℕ) (at : ℕ) (make : A → B) (o : Option (Read A)) → Ahead line at o → Ahead line at (read_as make o)
unfolding read_as
ahead_named line at make None h = tt
ahead_named line at make (Some r) h = h

-- the cursor behind what was read is ahead too
step_ahead : {What : Type 0} (line : List ℕ) (at : ℕ) (size : What → ℕ) (before : ℕ) (o : Option (Read What)) {c : Cursor} → Ahead line at o
    → stepped size before o ≡ Some c → (at < c.at) × (c.at ≤ length line)
unfolding stepped
step_ahead line at size before None h e = let z : ◌≡◌ {A = ℕ} 0 1 = cc in absurd (omega arith)
step_ahead line at size before (Some r) {c} h e = let q : r.next ≡ c.at = cc in omega arith

named_cond : {A B : Type 0} (make : A → B) (b : Bool) (t f : Option (Read A)) → read_as make (cond b t f) ≡ cond b (read_as make t) (read_as make f)
named_cond make true t f = refl
named_cond make false t f = refl

-- ---- the items of a bracket

-- the cursor behind the items, by the separator behind the first: `rest` goes on from the place behind a comma
unfoldable pub step_behind : (ℕ → ℕ → Option Cursor) → ℕ → Option Separator → Option Cursor
step_behind rest before (Some (Close next)) = Some (record { at = next; longest = before })
step_behind rest before (Some (Comma next)) = rest before next
step_behind rest before None = None

-- and by the cursor behind the first
unfoldable pub step_on : (ℕ → ℕ → Option Cursor) → ℕ → List ℕ → Option Cursor → Option Cursor
step_on rest close line None = None
step_on rest close line (Some c) = step_behind rest c.longest (separator_at close line c.at)

-- the items behind a separator, where `rest` reads those behind a comma
unfoldable pub behind_separator : {Items : Type 0} → Items → (ℕ → Option (Read Items)) → Option Separator → Option (Read Items)
behind_separator none_left rest (Some (Close next)) = Some (record { value = none_left; next = next })
behind_separator none_left rest (Some (Comma next)) = rest next
behind_separator none_left rest None = None

-- an item and those behind it
unfoldable pub behind_item : {Item Items : Type 0} → Items → (Item → Items → Items) → ℕ → List ℕ → (ℕ → Option (Read Items)) → Option (Read Item) → Option (Read Items)
behind_item none_left more close line rest None = None
behind_item none_left more close line rest (Some r) = read_as (more r.value) (behind_separator none_left rest (separator_at close line r.next))

module _ {Item Items : Type 0} (none_left : Items) (more : Item → Items → Items) (item : ℕ → Option (Read Item)) (close : ℕ) (line : List ℕ) where
  abbrev up_to : ℕ → ℕ → Option (Read Items)
  up_to = items_at none_left more item close line

  -- the items from a place on: what is left of the line is as many as it can have
  abbrev pub items_from : ℕ → Option (Read Items)
  items_from at = up_to (length line - at) at

  pub items_by : (most at : ℕ) → up_to (suc most) at ≡ behind_item none_left more close line (up_to most) (item at)
  unfolding items_at behind_item behind_separator read_as bind
  items_by most at = by-item (item at)
    where
      by-separator : (i : Item) (s : Option Separator) →
          elim s [
            | Some (Close next) ↦ Some (record { value = more i none_left; next = next })
            | Some (Comma next) ↦ read_as (more i) (up_to most next)
            | None ↦ None
          ]
          ≡ read_as (more i) (behind_separator none_left (up_to most) s)
      by-separator i (Some (Close next)) = refl
      by-separator i (Some (Comma next)) = refl
      by-separator i None = refl

      by-item : (o : Option (Read Item)) →
          bind o
          (λ r.
          elim (separator_at close line r.next) [
            | Some (Close next) ↦ Some (record { value = more r.value none_left; next = next })
            | Some (Comma next) ↦ read_as (more r.value) (up_to most next)
            | None ↦ None
          ])
          ≡ behind_item none_left more close line (up_to most) o
      by-item None = refl
      by-item (Some r) = by-separator r.value (separator_at close line r.next)

  -- what each item has, and what follows of the last one and of one before others, all items have
  pub items_hold : (Q : ℕ → Read Item → Type 0) (P : ℕ → Read Items → Type 0)
      → ((at : ℕ) → All (Q at) (item at))
      → ((at : ℕ) (r : Read Item) (next : ℕ) → Q at r → separator_at close line r.next ≡ Some (Close next) → P at (record { value = more r.value none_left; next = next }))
      → ((at : ℕ) (r : Read Item) (next : ℕ) (rest : Read Items) → Q at r → separator_at close line r.next ≡ Some (Comma next) → P next rest
      → P at (record { value = more r.value rest.value; next = rest.next }))
      → (most at : ℕ) → All (P at) (up_to most at)
  items_hold Q P each closed onward zero at = unfold items_at in tt
  items_hold Q P each closed onward (suc most) at = rw (items_by most at) (by-item (item at) (each at) (items_hold Q P each closed onward most))
    where
      by-item : (o : Option (Read Item)) → All (Q at) o → ((p : ℕ) → All (P p) (up_to most p)) → All (P at) (behind_item none_left more close line (up_to most) o)
      by-item None h rest = unfold behind_item in tt
      by-item (Some r) h rest = unfold behind_item in by-separator (separator_at close line r.next) refl
        where
          by-rest : (next : ℕ) → separator_at close line r.next ≡ Some (Comma next) → (o : Option (Read Items)) → All (P next) o → All (P at) (read_as (more r.value) o)
          by-rest next e None k = unfold read_as in tt
          by-rest next e (Some q) k = unfold read_as in onward at r next q h e k

          by-separator : (s : Option Separator) → separator_at close line r.next ≡ s → All (P at) (read_as (more r.value) (behind_separator none_left (up_to most) s))
          by-separator (Some (Close next)) e = unfold read_as behind_separator in closed at r next h e
          by-separator (Some (Comma next)) e = unfold behind_separator in by-rest next e (up_to most next) (rest next)
          by-separator None e = unfold read_as behind_separator in tt

  module _ (item-ahead : (at : ℕ) → Ahead line at (item at)) (byte : close < 256) where
    items_ahead : (most at : ℕ) → Ahead line at (up_to most at)
    items_ahead =
        items_hold (λ at r. (at < r.next) × (r.next ≤ length line)) (λ at r. (at < r.next) × (r.next ≤ length line)) item-ahead
        (λ at r next h e. omega (arith, close_next line r.next close byte e)) (λ at r next rest h e k. omega (arith, comma_next line r.next close e))

    behind_alike : (f g : ℕ → Option (Read Items)) (at : ℕ) (o : Option (Read Item)) → Ahead line at o → ((p : ℕ) → at < p → f p ≡ g p)
        → behind_item none_left more close line f o ≡ behind_item none_left more close line g o
    unfolding behind_item behind_separator
    behind_alike f g at None h e = refl
    behind_alike f g at (Some r) h e = ap (read_as (more r.value)) (by-separator (separator_at close line r.next) refl)
      where
        by-separator : (s : Option Separator) → separator_at close line r.next ≡ s → behind_separator none_left f s ≡ behind_separator none_left g s
        by-separator (Some (Close next)) q = refl
        by-separator (Some (Comma next)) q = e next (omega (arith, comma_next line r.next close q))
        by-separator None q = refl

    enough : (m n at : ℕ) → length line - at ≤ m → length line - at ≤ n → up_to m at ≡ up_to n at
    enough m zero at h k = past line at (up_to m at) (items_ahead m at) (omega arith) ∙ sym (past line at (up_to zero at) (items_ahead zero at) (omega arith))
    enough zero (suc n) at h k =
        past line at (up_to zero at) (items_ahead zero at) (omega arith) ∙ sym (past line at (up_to (suc n) at) (items_ahead (suc n) at) (omega arith))
    enough (suc m) (suc n) at h k =
        items_by m at
        ∙ (behind_alike (up_to m) (up_to n) at (item at) (item-ahead at) (λ p l. enough m n p (omega arith) (omega arith)) ∙ sym (items_by n at))

    pub items_all : (at : ℕ) → up_to (length line) at ≡ items_from at
    items_all at = enough (length line) (length line - at) at (omega arith) (omega arith)

    -- the step of a loop over the items
    pub items_step : (at : ℕ) → at < length line → items_from at ≡ behind_item none_left more close line items_from (item at)
    items_step at h =
        ap (λ (n : ℕ). up_to n at) (omega arith)
        ∙ (items_by (length line - at - 1) at
        ∙ behind_alike (up_to (length line - at - 1)) items_from at (item at) (item-ahead at)
        (λ p l. enough (length line - at - 1) (length line - p) p (omega arith) (omega arith)))

    -- what stands behind an opening bracket
    pub bracket_by : (at : ℕ) {empty : Bool} → is_at line (skip_blanks line (at + 1)) close ≡ empty
        → bracket_at none_left more item close line at
        ≡ cond empty (Some (record { value = none_left; next = skip_blanks line (at + 1) + 1 })) (items_from (skip_blanks line (at + 1)))
    unfolding bracket_at
    bracket_by at e = by (is_at line (skip_blanks line (at + 1)) close) ∙ ap (λ (b : Bool). cond b closed (items_from first)) e
      where
        first : ℕ
        first = skip_blanks line (at + 1)

        closed : Option (Read Items)
        closed = Some (record { value = none_left; next = first + 1 })

        by : (b : Bool) → elim b [ true ↦ closed | false ↦ up_to (length line) first ] ≡ cond b closed (items_from first)
        by true = refl
        by false = items_all first

    bracket_ahead : (at : ℕ) → Ahead line at (bracket_at none_left more item close line at)
    bracket_ahead at = by (is_at line (skip_blanks line (at + 1)) close) refl
      where
        by : (b : Bool) → is_at line (skip_blanks line (at + 1)) close ≡ b → Ahead line at (bracket_at none_left more item close line at)
        by true e =
            rw (bracket_by at e) (omega (arith, blanks_from line (at + 1), at_within line (skip_blanks line (at + 1)) close byte e))
        by false e =
            rw (bracket_by at e)
            (ahead_from line at (skip_blanks line (at + 1)) (items_from (skip_blanks line (at + 1))) (omega (arith, blanks_from line (at + 1)))
            (items_ahead (length line - skip_blanks line (at + 1)) (skip_blanks line (at + 1))))

  -- the step of a loop that keeps the length of the longest string: `make` makes the value of the items, `size` is the longest string of one
  module _ (make : Items → Json) (size : Item → ℕ) (grows : (i : Item) (rest : Items) → longest (make (more i rest)) ≡ max (size i) (longest (make rest)))
      (empty : longest (make none_left) ≡ 0) where
    step_on_lem : (before : ℕ) (o : Option (Read Item))
        → stepped longest before (read_as make (behind_item none_left more close line items_from o))
        ≡ step_on (λ l p. stepped longest l (read_as make (items_from p))) close line (stepped size before o)
    unfolding stepped step_on step_behind behind_item behind_separator read_as
    step_on_lem before None = refl
    step_on_lem before (Some r) = by-separator (separator_at close line r.next)
      where
        longer : (o : Option (Read Items))
            → stepped longest before (read_as make (read_as (more r.value) o)) ≡ stepped longest (max before (size r.value)) (read_as make o)
        longer None = refl
        longer (Some q) = ap (λ (n : ℕ). Some (record { at = q.next; longest = n })) (omega (arith, grows r.value q.value))

        by-separator : (s : Option Separator)
            → stepped longest before (read_as make (read_as (more r.value) (behind_separator none_left items_from s)))
            ≡ step_behind (λ l p. stepped longest l (read_as make (items_from p))) (max before (size r.value)) s
        by-separator (Some (Close next)) =
            longer (Some (record { value = none_left; next = next })) ∙ ap (λ (n : ℕ). Some (record { at = next; longest = n })) (omega (arith, empty))
        by-separator (Some (Comma next)) = longer (items_from next)
        by-separator None = refl

-- ---- arrays and objects

abbrev pub with_element : ℕ × Json → Elements → Elements
with_element e rest = element e.0 e.1 rest

abbrev pub with_member : ℕ × List ℕ × ℕ × Json → Members → Members
with_member m rest = member m.0 m.1 m.2 m.3 rest

module _ (line : List ℕ) (read : ℕ → Option (Read Json)) (read-ahead : (at : ℕ) → Ahead line at (read at)) where
  element_ahead : (at : ℕ) → Ahead line at (element_at read at)
  unfolding element_at
  element_ahead at = ahead_named line at (λ v. (at, v)) (read at) (read-ahead at)

  member_ahead : (at : ℕ) → Ahead line at (member_at read line at)
  unfolding member_at bind
  member_ahead at = by (name_at line at) refl
    where
      by : (o : Option (Read (List ℕ))) → name_at line at ≡ o
          → Ahead line at (bind o (λ name. read_as {B = ℕ × List ℕ × ℕ × Json} (λ v. (at, name.value, name.next, v)) (read name.next)))
      by None e = tt
      by (Some name) e =
          ahead_from line at name.next (read_as (λ v. (at, name.value, name.next, v)) (read name.next)) (omega (arith, name_next line at e))
          (ahead_named line name.next (λ v. (at, name.value, name.next, v)) (read name.next) (read-ahead name.next))

  bracketed-ahead : (within_object : Bool) (at : ℕ) → Ahead line at (bracketed within_object read line at)
  unfolding bracketed array_at object_at
  bracketed-ahead true at = ahead_named line at object _ (bracket_ahead no_member with_member (member_at read line) 0x7d line member_ahead (omega arith) at)
  bracketed-ahead false at = ahead_named line at array _ (bracket_ahead no_element with_element (element_at read) 0x5d line element_ahead (omega arith) at)

-- ---- values

-- what reads the values inside a bracket, if one may open
unfoldable pub inner : ℕ → List ℕ → Option (ℕ → Option (Read Json))
inner zero line = None
inner (suc depth) line = Some (value_at depth line)

-- the value at a place, by its kind
unfoldable pub value_as : Option (ℕ → Option (Read Json)) → List ℕ → ℕ → Kind → Option (Read Json)
value_as read line at Number = read_as number (number_at line at)
value_as read line at Text = read_as text (text_at line at)
value_as read line at Array = bind read (λ r. bracketed false r line at)
value_as read line at Object = bind read (λ r. bracketed true r line at)
value_as read line at Word = word_at line at
value_as read line at Blank = None
value_as read line at Other = None

pub value_by : (depth : ℕ) (line : List ℕ) (at : ℕ) {kind : Kind} → kind_of (byte_at line at) ≡ kind → value_at depth line at ≡ value_as (inner depth line) line at kind
unfolding value_with value_as bracketed
value_by depth line at e = inside depth ∙ (by (inner depth line) (kind_of (byte_at line at)) ∙ ap (value_as (inner depth line) line at) e)
  where
    inside : (d : ℕ) → value_at d line at ≡ value_with (inner d line) line at
    inside zero = unfold value_at inner in refl
    inside (suc d) = unfold value_at inner in refl

    by : (read : Option (ℕ → Option (Read Json))) (k : Kind) →
        elim k [
          | Number ↦ read_as number (number_at line at)
          | Text ↦ read_as text (text_at line at)
          | Array ↦ bind read (λ r. read_as array (array_at r line at))
          | Object ↦ bind read (λ r. read_as object (object_at r line at))
          | Word ↦ word_at line at
          | Blank ↦ None
          | Other ↦ None
        ]
        ≡ value_as read line at k
    by read Number = refl
    by read Text = refl
    by read Array = refl
    by read Object = refl
    by read Word = refl
    by read Blank = refl
    by read Other = refl

abbrev AllAhead : List ℕ → Option (ℕ → Option (Read Json)) → Type 0
AllAhead line None = Unit {0}
AllAhead line (Some read) = (at : ℕ) → Ahead line at (read at)

as_ahead : (line : List ℕ) (read : Option (ℕ → Option (Read Json))) → AllAhead line read → (at : ℕ) (kind : Kind) → Ahead line at (value_as read line at kind)
unfolding value_as bind
as_ahead line read h at Number = ahead_named line at number (number_at line at) (ahead line at (number_at line at) (λ r e. number_next line at e))
as_ahead line read h at Text = ahead_named line at text (text_at line at) (ahead line at (text_at line at) (λ r e. text_next line at e))
as_ahead line None h at Array = tt
as_ahead line (Some read) h at Array = bracketed-ahead line read h false at
as_ahead line None h at Object = tt
as_ahead line (Some read) h at Object = bracketed-ahead line read h true at
as_ahead line read h at Word = ahead line at (word_at line at) (λ r e. word_next line at e)
as_ahead line read h at Blank = tt
as_ahead line read h at Other = tt

pub value_ahead : (depth : ℕ) (line : List ℕ) (at : ℕ) → Ahead line at (value_at depth line at)
unfolding inner
value_ahead zero line at = rw (value_by zero line at refl) (as_ahead line None tt at _)
value_ahead (suc depth) line at = rw (value_by (suc depth) line at refl) (as_ahead line (Some (value_at depth line)) (value_ahead depth line) at _)

-- progress: a value ends behind where it began, and within the line
pub value_next : (depth : ℕ) (line : List ℕ) (at : ℕ) {r : Read Json} → value_at depth line at ≡ Some r → (at < r.next) × (r.next ≤ length line)
value_next depth line at e = subst (Ahead line at) e (value_ahead depth line at)

pub value_forward : (depth : ℕ) (line : List ℕ) (at before : ℕ) {c : Cursor} → stepped longest before (value_at depth line at) ≡ Some c → (at < c.at) × (c.at ≤ length line)
value_forward depth line at before e = step_ahead line at longest before (value_at depth line at) (value_ahead depth line at) e

pub value_past : (depth : ℕ) (line : List ℕ) (at : ℕ) → length line ≤ at → value_at depth line at ≡ None
value_past depth line at h = past line at (value_at depth line at) (value_ahead depth line at) h

-- the cursor behind a bracket, if one may open
unfoldable pub step_opened : Bool → Option (ℕ → Option (Read Json)) → List ℕ → ℕ → ℕ → Option Cursor
step_opened within_object None line before at = None
step_opened within_object (Some read) line before at = stepped longest before (bracketed within_object read line at)

-- the cursor behind a value, by its kind
unfoldable pub step_as : Option (ℕ → Option (Read Json)) → List ℕ → ℕ → ℕ → Kind → Option Cursor
step_as read line before at Number = stepped no_string before (number_at line at)
step_as read line before at Text = stepped length before (text_at line at)
step_as read line before at Array = step_opened false read line before at
step_as read line before at Object = step_opened true read line before at
step_as read line before at Word = stepped longest before (word_at line at)
step_as read line before at Blank = None
step_as read line before at Other = None

pub value_step : (depth : ℕ) (line : List ℕ) (before at : ℕ) {kind : Kind} {read : Option (ℕ → Option (Read Json))}
    → kind_of (byte_at line at) ≡ kind → inner depth line ≡ read → stepped longest before (value_at depth line at) ≡ step_as read line before at kind
unfolding stepped value_as bind step_opened
value_step depth line before at {kind} {read} e d =
    ap (stepped longest before) (value_by depth line at e ∙ ap (λ (f : Option (ℕ → Option (Read Json))). value_as f line at kind) d) ∙ by read kind
  where
    sized : {A : Type 0} (make : A → Json) (size : A → ℕ) → ((a : A) → longest (make a) ≡ size a) → (o : Option (Read A))
        → stepped longest before (read_as make o) ≡ stepped size before o
    sized make size h None = unfold read_as in refl
    sized make size h (Some r) = unfold read_as in ap (λ (n : ℕ). Some (record { at = r.next; longest = max before n })) (h r.value)

    by : (f : Option (ℕ → Option (Read Json))) (k : Kind) → stepped longest before (value_as f line at k) ≡ step_as f line before at k
    by f Number = unfold step_as longest in sized number no_string (λ n. refl) (number_at line at)
    by f Text = unfold step_as longest in sized text length (λ t. refl) (text_at line at)
    by None Array = unfold step_as in refl
    by (Some g) Array = unfold step_as in refl
    by None Object = unfold step_as in refl
    by (Some g) Object = unfold step_as in refl
    by f Word = unfold step_as in refl
    by f Blank = unfold step_as in refl
    by f Other = unfold step_as in refl

pub inner_none : (depth : ℕ) (line : List ℕ) → depth ≡ 0 → inner depth line ≡ None
unfolding inner
inner_none zero line e = refl
inner_none (suc depth) line e = absurd (omega arith)

pub inner_some : (depth : ℕ) (line : List ℕ) → (depth ≡ 0 → ⊥) → inner depth line ≡ Some (value_at (depth - 1) line)
unfolding inner
inner_some zero line h = absurd (h refl)
inner_some (suc depth) line h = ap (λ (d : ℕ). Some (value_at d line)) (omega arith)

-- ---- the loop over the items of a bracket

-- an array or an object without items
abbrev no_item : Bool → Json
no_item true = object no_member
no_item false = array no_element

-- a closing bracket stands within the line
pub closing_within : (within_object : Bool) (line : List ℕ) (at : ℕ) {b : ℕ} → b ≡ closing within_object → is_at line at b ≡ true → at < length line
closing_within true line at {b} q e = at_within line at b (omega arith) e
closing_within false line at {b} q e = at_within line at b (omega arith) e

module _ (depth : ℕ) (line : List ℕ) where
  abbrev read : ℕ → Option (Read Json)
  read = value_at depth line

  -- the elements, the members, either from a place on
  abbrev pub elements_from : ℕ → Option (Read Elements)
  elements_from = items_from no_element with_element (element_at read) 0x5d line

  abbrev pub members_from : ℕ → Option (Read Members)
  members_from = items_from no_member with_member (member_at read line) 0x7d line

  abbrev pub itemized_from : Bool → ℕ → Option (Read Json)
  itemized_from within_object at = itemized within_object read line (length line - at) at

  pub elements_step : (at : ℕ) → at < length line → elements_from at ≡ behind_item no_element with_element 0x5d line elements_from (element_at read at)
  elements_step = items_step no_element with_element (element_at read) 0x5d line (element_ahead line read (value_ahead depth line)) (omega arith)

  pub members_step : (at : ℕ) → at < length line → members_from at ≡ behind_item no_member with_member 0x7d line members_from (member_at read line at)
  members_step = items_step no_member with_member (member_at read line) 0x7d line (member_ahead line read (value_ahead depth line)) (omega arith)

  pub elements_past : (at : ℕ) → length line ≤ at → elements_from at ≡ None
  elements_past at h = past line at (elements_from at) (items_ahead no_element with_element (element_at read) 0x5d line (element_ahead line read (value_ahead depth line)) (omega arith) _ at) h

  pub members_past : (at : ℕ) → length line ≤ at → members_from at ≡ None
  members_past at h = past line at (members_from at) (items_ahead no_member with_member (member_at read line) 0x7d line (member_ahead line read (value_ahead depth line)) (omega arith) _ at) h

  -- an array or an object has as many items as stand in what is left of the line
  pub itemized_all : (within_object : Bool) (at : ℕ) → itemized within_object read line (length line) at ≡ itemized_from within_object at
  unfolding itemized
  itemized_all true at = ap (read_as object) (items_all no_member with_member (member_at read line) 0x7d line (member_ahead line read (value_ahead depth line)) (omega arith) at)
  itemized_all false at = ap (read_as array) (items_all no_element with_element (element_at read) 0x5d line (element_ahead line read (value_ahead depth line)) (omega arith) at)

  itemized_ahead : (within_object : Bool) (at : ℕ) → Ahead line at (itemized_from within_object at)
  unfolding itemized
  itemized_ahead true at =
      ahead_named line at object _ (items_ahead no_member with_member (member_at read line) 0x7d line (member_ahead line read (value_ahead depth line)) (omega arith) _ at)
  itemized_ahead false at =
      ahead_named line at array _ (items_ahead no_element with_element (element_at read) 0x5d line (element_ahead line read (value_ahead depth line)) (omega arith) _ at)

  pub itemized_past : (within_object : Bool) (before at : ℕ) → length line ≤ at → stepped longest before (itemized_from within_object at) ≡ None
  unfolding stepped
  itemized_past within_object before at h = rw (past line at (itemized_from within_object at) (itemized_ahead within_object at) h)

  -- the cursor goes on from the place behind a comma
  abbrev pub step_from : Bool → ℕ → ℕ → Option Cursor
  step_from within_object before at = stepped longest before (itemized_from within_object at)

  pub itemized_step : (within_object : Bool) (before at : ℕ) {step : Option Cursor} → at < length line → item_step within_object before read line at ≡ step
      → stepped longest before (itemized_from within_object at) ≡ step_on (step_from within_object) (closing within_object) line step
  unfolding itemized item_step longest longest_element longest_member
  itemized_step true before at h e =
      ap (λ o. stepped longest before (read_as object o)) (members_step at h)
      ∙ (step_on_lem no_member with_member (member_at read line) 0x7d line object (λ m. max (length m.1) (longest m.3)) (λ m rest. omega arith) refl before (member_at read line at)
      ∙ ap (step_on _ 0x7d line) e)
  itemized_step false before at h e =
      ap (λ o. stepped longest before (read_as array o)) (elements_step at h)
      ∙ (step_on_lem no_element with_element (element_at read) 0x5d line array (λ v. longest v.1) (λ m rest. omega arith) refl before (element_at read at)
      ∙ ap (step_on _ 0x5d line) e)

  -- and it has gone on
  pub item_next : (within_object : Bool) (before at : ℕ) {c : Cursor} → item_step within_object before read line at ≡ Some c → (at < c.at) × (c.at ≤ length line)
  unfolding item_step
  item_next true before at e = step_ahead line at _ before (member_at read line at) (member_ahead line read (value_ahead depth line) at) e
  item_next false before at e = step_ahead line at _ before (element_at read at) (element_ahead line read (value_ahead depth line) at) e

  -- what stands behind an opening bracket, by whether it is closed at once
  pub array_by : (at : ℕ) {empty : Bool} → is_at line (skip_blanks line (at + 1)) 0x5d ≡ empty
      → array_at read line at ≡ cond empty (Some (record { value = no_element; next = skip_blanks line (at + 1) + 1 })) (elements_from (skip_blanks line (at + 1)))
  unfolding array_at
  array_by at e = bracket_by no_element with_element (element_at read) 0x5d line (element_ahead line read (value_ahead depth line)) (omega arith) at e

  pub object_by : (at : ℕ) {empty : Bool} → is_at line (skip_blanks line (at + 1)) 0x7d ≡ empty
      → object_at read line at ≡ cond empty (Some (record { value = no_member; next = skip_blanks line (at + 1) + 1 })) (members_from (skip_blanks line (at + 1)))
  unfolding object_at
  object_by at e = bracket_by no_member with_member (member_at read line) 0x7d line (member_ahead line read (value_ahead depth line)) (omega arith) at e

  bracketed_by : (within_object : Bool) (at : ℕ) {empty : Bool} → is_at line (skip_blanks line (at + 1)) (closing within_object) ≡ empty
      → bracketed within_object read line at
      ≡ cond empty (Some (record { value = no_item within_object; next = skip_blanks line (at + 1) + 1 })) (itemized_from within_object (skip_blanks line (at + 1)))
  unfolding bracketed itemized read_as
  bracketed_by true at {empty} e = ap (read_as object) (object_by at e) ∙ named_cond object empty _ _
  bracketed_by false at {empty} e = ap (read_as array) (array_by at e) ∙ named_cond array empty _ _

  pub bracket_step : (within_object : Bool) (before at : ℕ) {empty : Bool} → is_at line (skip_blanks line (at + 1)) (closing within_object) ≡ empty
      → stepped longest before (bracketed within_object read line at)
      ≡ cond empty (Some (record { at = skip_blanks line (at + 1) + 1; longest = before })) (stepped longest before (itemized_from within_object (skip_blanks line (at + 1))))
  bracket_step within_object before at {empty} e = rw (bracketed_by within_object at e) (by within_object empty)
    where
      by : (i b : Bool) →
          stepped longest before (cond b (Some (record { value = no_item i; next = skip_blanks line (at + 1) + 1 })) (itemized_from within_object (skip_blanks line (at + 1))))
          ≡ cond b (Some (record { at = skip_blanks line (at + 1) + 1; longest = before })) (stepped longest before (itemized_from within_object (skip_blanks line (at + 1))))
      by true true = unfold stepped longest longest_member in ap (λ (n : ℕ). Some (record { at = skip_blanks line (at + 1) + 1; longest = n })) (omega arith)
      by false true = unfold stepped longest longest_element in ap (λ (n : ℕ). Some (record { at = skip_blanks line (at + 1) + 1; longest = n })) (omega arith)
      by i false = refl

  pub bracket_past : (within_object : Bool) (before at : ℕ) → length line ≤ at → stepped longest before (bracketed within_object read line at) ≡ None
  unfolding stepped
  bracket_past within_object before at h = rw (past line at (bracketed within_object read line at) (bracketed-ahead line read (value_ahead depth line) within_object at) h)

-- an item, by the cursor behind a member's name
unfoldable pub value_on : (ℕ → Option (Read Json)) → Option Cursor → Option Cursor
value_on read None = None
value_on read (Some c) = stepped longest c.longest (read c.at)

pub member_step : (line : List ℕ) (read : ℕ → Option (Read Json)) (before at : ℕ) {step : Option Cursor} → stepped length before (name_at line at) ≡ step
    → item_step true before read line at ≡ value_on read step
unfolding item_step member_at stepped value_on read_as bind
member_step line read before at e = by (name_at line at) ∙ ap (value_on read) e
  where
    by : (o : Option (Read (List ℕ))) →
        stepped (λ m. max (length m.1) (longest m.3)) before (bind o (λ name. read_as {B = ℕ × List ℕ × ℕ × Json} (λ v. (at, name.value, name.next, v)) (read name.next)))
        ≡ value_on read (stepped length before o)
    by None = refl
    by (Some name) = by_value (read name.next)
      where
        by_value : (o : Option (Read Json)) →
            stepped (λ m. max (length m.1) (longest m.3)) before (read_as {B = ℕ × List ℕ × ℕ × Json} (λ v. (at, name.value, name.next, v)) o)
            ≡ stepped longest (max before (length name.value)) o
        by_value None = refl
        by_value (Some r) = ap (λ (n : ℕ). Some (record { at = r.next; longest = n })) (omega arith)

pub element_step : (line : List ℕ) (read : ℕ → Option (Read Json)) (before at : ℕ) → item_step false before read line at ≡ stepped longest before (read at)
unfolding item_step element_at
element_step line read before at = by (read at)
  where
    by : (o : Option (Read Json)) → stepped (λ e. longest e.1) before (read_as {B = ℕ × Json} (λ v. (at, v)) o) ≡ stepped longest before o
    by None = unfold read_as stepped in refl
    by (Some r) = unfold read_as stepped in refl

-- ---- a larger depth

-- what the first reads the second reads too
abbrev Keeps : {A : Type 0} → Option A → Option A → Type 0
Keeps o q = All (λ a. q ≡ Some a) o

keeps_itself : {A : Type 0} (o : Option A) → Keeps o o
keeps_itself None = tt
keeps_itself (Some a) = refl

keeps_named : {A B : Type 0} (make : A → B) (o q : Option (Read A)) → Keeps o q → Keeps (read_as make o) (read_as make q)
unfolding read_as
keeps_named make None q h = tt
keeps_named make (Some r) q h = ap (read_as make) h

keeps-bind : {A B : Type 0} (o q : Option A) (f g : A → Option B) → Keeps o q → ((a : A) → Keeps (f a) (g a)) → Keeps (bind o f) (bind q g)
unfolding bind
keeps-bind None q f g h k = tt
keeps-bind (Some a) q f g h k = subst (λ (o : Option _). Keeps (f a) (bind o g)) (sym h) (k a)

module _ {Item Items : Type 0} (none_left : Items) (more : Item → Items → Items) (close : ℕ) (line : List ℕ) where
  behind_keeps : (f g : ℕ → Option (Read Items)) → ((p : ℕ) → Keeps (f p) (g p)) → (o q : Option (Read Item)) → Keeps o q
      → Keeps (behind_item none_left more close line f o) (behind_item none_left more close line g q)
  unfolding behind_item behind_separator
  behind_keeps f g h None q k = tt
  behind_keeps f g h (Some r) q k =
      subst (λ (o : Option (Read Item)). Keeps (behind_item none_left more close line f (Some r)) (behind_item none_left more close line g o)) (sym k)
      (keeps_named (more r.value) (behind_separator none_left f (separator_at close line r.next)) (behind_separator none_left g (separator_at close line r.next))
      (by-separator (separator_at close line r.next)))
    where
      by-separator : (s : Option Separator) → Keeps (behind_separator none_left f s) (behind_separator none_left g s)
      by-separator (Some (Close next)) = refl
      by-separator (Some (Comma next)) = h next
      by-separator None = tt

  module _ (item wider : ℕ → Option (Read Item)) (item-keeps : (at : ℕ) → Keeps (item at) (wider at)) where
    items_keeps : (most at : ℕ) → Keeps (items_at none_left more item close line most at) (items_at none_left more wider close line most at)
    items_keeps zero at = unfold items_at in tt
    items_keeps (suc most) at =
        rw (items_by none_left more item close line most at, items_by none_left more wider close line most at)
        (behind_keeps (items_at none_left more item close line most) (items_at none_left more wider close line most) (items_keeps most) (item at) (wider at) (item-keeps at))

    bracket_keeps : (at : ℕ) → Keeps (bracket_at none_left more item close line at) (bracket_at none_left more wider close line at)
    unfolding bracket_at
    bracket_keeps at = by (is_at line (skip_blanks line (at + 1)) close)
      where
        by : (b : Bool) →
            Keeps {A = Read Items}
            (elim b [
              | true ↦ Some (record { value = none_left; next = skip_blanks line (at + 1) + 1 })
              | false ↦ items_at none_left more item close line (length line) (skip_blanks line (at + 1))
            ])
            (elim b [
              | true ↦ Some (record { value = none_left; next = skip_blanks line (at + 1) + 1 })
              | false ↦ items_at none_left more wider close line (length line) (skip_blanks line (at + 1))
            ])
        by true = refl
        by false = items_keeps (length line) (skip_blanks line (at + 1))

module _ (line : List ℕ) (read wider : ℕ → Option (Read Json)) (read_Keeps : (at : ℕ) → Keeps (read at) (wider at)) where
  element_keeps : (at : ℕ) → Keeps (element_at read at) (element_at wider at)
  unfolding element_at
  element_keeps at = keeps_named (λ v. (at, v)) (read at) (wider at) (read_Keeps at)

  member_keeps : (at : ℕ) → Keeps (member_at read line at) (member_at wider line at)
  unfolding member_at
  member_keeps at =
      keeps-bind (name_at line at) (name_at line at) _ _ (keeps_itself (name_at line at))
      (λ name. keeps_named (λ v. (at, name.value, name.next, v)) (read name.next) (wider name.next) (read_Keeps name.next))

  bracketed-keeps : (within_object : Bool) (at : ℕ) → Keeps (bracketed within_object read line at) (bracketed within_object wider line at)
  unfolding bracketed array_at object_at
  bracketed-keeps true at = keeps_named object _ _ (bracket_keeps no_member with_member 0x7d line (member_at read line) (member_at wider line) member_keeps at)
  bracketed-keeps false at = keeps_named array _ _ (bracket_keeps no_element with_element 0x5d line (element_at read) (element_at wider) element_keeps at)

abbrev InnerKeeps : Option (ℕ → Option (Read Json)) → Option (ℕ → Option (Read Json)) → Type 0
InnerKeeps None wider = Unit {0}
InnerKeeps (Some read) None = ⊥
InnerKeeps (Some read) (Some wider) = (at : ℕ) → Keeps (read at) (wider at)

as_keeps : (line : List ℕ) (read wider : Option (ℕ → Option (Read Json))) → InnerKeeps read wider → (at : ℕ) (kind : Kind)
    → Keeps (value_as read line at kind) (value_as wider line at kind)
unfolding value_as bind
as_keeps line read wider h at Number = keeps_itself (read_as number (number_at line at))
as_keeps line read wider h at Text = keeps_itself (read_as text (text_at line at))
as_keeps line None wider h at Array = tt
as_keeps line (Some read) None h at Array = absurd h
as_keeps line (Some read) (Some wider) h at Array = bracketed-keeps line read wider h false at
as_keeps line None wider h at Object = tt
as_keeps line (Some read) None h at Object = absurd h
as_keeps line (Some read) (Some wider) h at Object = bracketed-keeps line read wider h true at
as_keeps line read wider h at Word = keeps_itself (word_at line at)
as_keeps line read wider h at Blank = tt
as_keeps line read wider h at Other = tt

value_keeps : (depth deeper : ℕ) (line : List ℕ) → depth ≤ deeper → (at : ℕ) → Keeps (value_at depth line at) (value_at deeper line at)
unfolding inner
value_keeps zero deeper line h at = rw (value_by zero line at refl, value_by deeper line at refl) (as_keeps line None (inner deeper line) tt at _)
value_keeps (suc depth) zero line h at = absurd (omega arith)
value_keeps (suc depth) (suc deeper) line h at =
    rw (value_by (suc depth) line at refl, value_by (suc deeper) line at refl)
    (as_keeps line (Some (value_at depth line)) (Some (value_at deeper line)) (value_keeps depth deeper line (omega arith)) at _)

-- what reads within a depth reads alike within every larger one
pub value_deeper : (depth deeper : ℕ) (line : List ℕ) (at : ℕ) {r : Read Json} → depth ≤ deeper → value_at depth line at ≡ Some r → value_at deeper line at ≡ Some r
value_deeper depth deeper line at h e = subst (λ (o : Option (Read Json)). Keeps o (value_at deeper line at)) e (value_keeps depth deeper line h at)
