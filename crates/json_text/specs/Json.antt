-- What a line means: RFC 8259 without signs, fractions, exponents, lone surrogates and LF, with numbers up to 18446744073709551615 and
-- at most 8 brackets open at once; document 01, JSON line.
use Rattle.std.specs.Prelude.{ℕ, zero, suc, ◌+◌, ◌-◌, ◌*◌, max, Bool, true, false, ◌&&◌, ◌||◌, not, cond, List, [], ◌∷◌, eqb, leb, length, get_or, drop, Option, None, Some, option_map}
use Rattle.std.specs.List.{prefix_len}
use Rattle.text.specs.Maybe.{bind}
use Rattle.text.specs.Ascii.{ascii}
use Rattle.text.specs.Text.{begins}
use Rattle.json_text.specs.Utf8.{byte_at, between}
use Rattle.json_text.specs.Strings.{quote, string_at}
pub use Rattle.json_text.specs.declared.Read.{Read}
use Rattle.json_text.specs.declared.Separator.{Separator}
use Rattle.json_text.specs.declared.Separator.TheVariants.{Close, Comma}
use Rattle.json_text.specs.declared.Kind.{Kind}
use Rattle.json_text.specs.declared.Kind.TheVariants.{Number, Text, Array, Object, Word, Blank, Other}

-- a value, with the places in the line of the elements, member names and member values inside it
mutual
  pub data Json : Type 0 where
    null : Json
    bool : Bool → Json
    number : ℕ → Json
    text : List ℕ → Json
    array : Elements → Json
    object : Members → Json

  pub data Elements : Type 0 where
    no_element : Elements
    element : ℕ → Json → Elements → Elements

  pub data Members : Type 0 where
    no_member : Members
    member : ℕ → List ℕ → ℕ → Json → Members → Members

-- this byte stands at this place
unfoldable pub is_at : List ℕ → ℕ → ℕ → Bool
is_at line at b = eqb (byte_at line at) b

-- RFC 8259's blanks; LF can't stand in a line
unfoldable pub is_blank : ℕ → Bool
is_blank b = eqb b 0x20 || (eqb b 0x09 || eqb b 0x0d)

-- the number of blanks at the front
unfoldable pub blanks : List ℕ → ℕ
blanks s = prefix_len is_blank s

-- the place of the first byte that is no blank, from this place on
unfoldable pub skip_blanks : List ℕ → ℕ → ℕ
skip_blanks line at = at + blanks (drop at line)

-- "One byte decides what kind of value comes next"
unfoldable pub kind_of : ℕ → Kind
kind_of b =
    cond (between 0x30 0x39 b) Number
    (cond (eqb b quote) Text
    (cond (eqb b 0x5b) Array (cond (eqb b 0x7b) Object (cond (between 0x61 0x7a b) Word (cond (is_blank b) Blank Other)))))

-- the digits at the front, read as numbers
unfoldable pub digits : List ℕ → List ℕ
digits [] = []
digits (b ∷ s) = cond (between 0x30 0x39 b) ((b - 0x30) ∷ digits s) []

-- the number that digits write in decimal, behind those that write `high`
unfoldable pub decimal : ℕ → List ℕ → ℕ
decimal high [] = high
decimal high (d ∷ ds) = decimal (high * 10 + d) ds

-- "Numbers are plain digits without leading zeros, up to 18446744073709551615"
unfoldable pub plain_number : List ℕ → Bool
plain_number ds = (eqb (length ds) 1 || not (eqb (get_or ds 0 0) 0)) && leb (decimal 0 ds) 18446744073709551615

-- the number at a place. "signs, fractions and exponents are refused": no digit begins with one, and what stands behind the digits is
-- judged by what may follow a value
unfoldable pub number_at : List ℕ → ℕ → Option (Read ℕ)
number_at line at =
    let ds = digits (drop at line) in
    cond (plain_number ds) (Some (record { value = decimal 0 ds; next = at + length ds })) None

-- the three words; what stands behind one is judged by what may follow a value
unfoldable pub word_at : List ℕ → ℕ → Option (Read Json)
word_at line at =
    cond (begins (ascii "null") (drop at line)) (Some (record { value = null; next = at + 4 }))
    (cond (begins (ascii "true") (drop at line)) (Some (record { value = bool true; next = at + 4 }))
    (cond (begins (ascii "false") (drop at line)) (Some (record { value = bool false; next = at + 5 })) None))

unfoldable pub text_at : List ℕ → ℕ → Option (Read (List ℕ))
text_at line at = bind (string_at line at) (λ d. Some (record { value = d.text; next = at + 1 + d.size }))

-- what is read, made into something else
unfoldable pub read_as : {A B : Type 0} → (A → B) → Option (Read A) → Option (Read B)
read_as make o = option_map (λ r. record { value = make r.value; next = r.next }) o

-- what comes behind an item: the closing bracket, a comma with the place of the next item, or neither
unfoldable pub separator_at : ℕ → List ℕ → ℕ → Option Separator
separator_at close line at =
    let p = skip_blanks line at in
    cond (is_at line p close) (Some (Close (p + 1))) (cond (is_at line p 0x2c) (Some (Comma (skip_blanks line (p + 1)))) None)

module _ {Item Items : Type 0} (none_left : Items) (more : Item → Items → Items) (item : ℕ → Option (Read Item)) (close : ℕ) (line : List ℕ) where
  -- items with commas between them, `most` at the most, up to and with the closing bracket
  unfoldable pub items_at : ℕ → ℕ → Option (Read Items)
  items_at zero at = None
  items_at (suc most) at =
      bind (item at)
      (λ r.
      elim (separator_at close line r.next) [
        | Some (Close next) ↦ Some (record { value = more r.value none_left; next = next })
        | Some (Comma next) ↦ read_as (more r.value) (items_at most next)
        | None ↦ None
      ])

  -- what stands behind an opening bracket: a line has no more items than bytes
  unfoldable pub bracket_at : ℕ → Option (Read Items)
  bracket_at at =
      let p = skip_blanks line (at + 1) in
      elim (is_at line p close) [ true ↦ Some (record { value = none_left; next = p + 1 }) | false ↦ items_at (length line) p ]

-- an element: its place and its value
unfoldable pub element_at : (ℕ → Option (Read Json)) → ℕ → Option (Read (ℕ × Json))
element_at read at = read_as (λ v. (at, v)) (read at)

-- a member's name and the place of its value
unfoldable pub name_at : List ℕ → ℕ → Option (Read (List ℕ))
name_at line at =
    bind (text_at line at)
    (λ name.
    let p = skip_blanks line name.next in
    cond (is_at line p 0x3a) (Some (record { value = name.value; next = skip_blanks line (p + 1) })) None)

-- a member: the place of its name, its name, the place of its value, and its value
unfoldable pub member_at : (ℕ → Option (Read Json)) → List ℕ → ℕ → Option (Read (ℕ × List ℕ × ℕ × Json))
member_at read line at = bind (name_at line at) (λ name. read_as (λ v. (at, name.value, name.next, v)) (read name.next))

-- an array and an object, of values that `read` reads; that a bracket opens there is the caller's test
unfoldable pub array_at : (ℕ → Option (Read Json)) → List ℕ → ℕ → Option (Read Elements)
array_at read line at = bracket_at no_element (λ e rest. element e.0 e.1 rest) (element_at read) 0x5d line at

unfoldable pub object_at : (ℕ → Option (Read Json)) → List ℕ → ℕ → Option (Read Members)
object_at read line at = bracket_at no_member (λ m rest. member m.0 m.1 m.2 m.3 rest) (member_at read line) 0x7d line at

-- the value at a place; `inner` reads the values inside a bracket, if one may open there
unfoldable pub value_with : Option (ℕ → Option (Read Json)) → List ℕ → ℕ → Option (Read Json)
value_with inner line at =
    elim (kind_of (byte_at line at)) [
      | Number ↦ read_as number (number_at line at)
      | Text ↦ read_as text (text_at line at)
      | Array ↦ bind inner (λ read. read_as array (array_at read line at))
      | Object ↦ bind inner (λ read. read_as object (object_at read line at))
      | Word ↦ word_at line at
      | Blank ↦ None
      | Other ↦ None
    ]

-- the value at a place, in which at most `depth` brackets are open at once
unfoldable pub value_at : ℕ → List ℕ → ℕ → Option (Read Json)
value_at zero line at = value_with None line at
value_at (suc depth) line at = value_with (Some (value_at depth line)) line at

-- "Depth is at most 8 brackets"
abbrev pub depth_limit : ℕ
depth_limit = 8

-- a line: one value, with nothing but blanks before and behind it
unfoldable pub line_value : List ℕ → Option Json
line_value line =
    bind (value_at depth_limit line (skip_blanks line 0))
    (λ r. cond (eqb (skip_blanks line r.next) (length line)) (Some r.value) None)

-- the length of the longest decoded string, "member names included"
unfoldable mutual
  pub longest : Json → ℕ
  longest null = 0
  longest (bool b) = 0
  longest (number n) = 0
  longest (text t) = length t
  longest (array es) = longest_element es
  longest (object ms) = longest_member ms

  pub longest_element : Elements → ℕ
  longest_element no_element = 0
  longest_element (element at value rest) = max (longest value) (longest_element rest)

  pub longest_member : Members → ℕ
  longest_member no_member = 0
  longest_member (member at name value_start value rest) = max (length name) (max (longest value) (longest_member rest))
