-- What the accessors give: each is what reading from its place gives, whatever stands there.
use Rattle.std.specs.Prelude.{ℕ, zero, suc, ◌+◌, ◌≤◌, max, Bool, true, false, cond, List, [], ◌∷◌, leb, length, Option, None, Some, is_some, option_map, option_and_then, Result, Ok, Err}
use Rattle.json_text.specs.Utf8.{byte_at}
use Rattle.text.specs.Text.{same, written}
use Rattle.json_text.specs.Strings.{Decoded, string_at}
use Rattle.json_text.specs.Json.{Json, null, bool, number, text, array, object, Elements, no_element, element, Members, no_member, member, Read, is_at, skip_blanks, kind_of, number_at, word_at, read_as, items_at, element_at, name_at, member_at, array_at, object_at, value_at, depth_limit, longest}
use Rattle.json_text.specs.declared.Kind.{Kind}
use Rattle.json_text.specs.declared.Literal.{Literal}
use Rattle.json_text.specs.declared.Literal.TheVariants.{Null, True, False}
use Rattle.json_text.specs.declared.DecodeError.TheVariants.{NoText, TooLong}
use Rattle.json_text.specs.declared.Cursor.{Cursor}
use Rattle.json_text.specs.declared.DecodeError.{DecodeError}

-- the answer to a whole line: no document, or one whose longest decoded string is this long
unfoldable pub checked : Option Json → Option ℕ
checked o = option_map longest o

-- is the line a document? and one whose decoded strings, member names included, have at most this many bytes?
unfoldable pub is_document : Option Json → Bool
is_document o = is_some o

unfoldable pub document_within : ℕ → Option Json → Bool
document_within most None = false
document_within most (Some v) = leb (longest v) most

-- the cursor behind what was read: `long` is the length of the longest string in it, `before` that of those before it
unfoldable pub stepped : {What : Type 0} → (What → ℕ) → ℕ → Option (Read What) → Option Cursor
stepped long before o = option_map (λ r. record { at = r.next; longest = max before (long r.value) }) o

-- the place behind what was read
unfoldable pub behind : {What : Type 0} → Option (Read What) → Option ℕ
behind o = option_map (λ r. r.next) o

-- the value at a place, with 8 brackets allowed from there on
abbrev pub value_here : List ℕ → ℕ → Option (Read Json)
value_here line at = value_at depth_limit line at

-- the kind of value that begins at a place
unfoldable pub kind_at : List ℕ → ℕ → Kind
kind_at line at = kind_of (byte_at line at)

-- where the first item behind a bracket that stands at this place would begin; nowhere, if the bracket closes at once or none stands there
unfoldable pub first_item : ℕ → ℕ → List ℕ → ℕ → Option ℕ
first_item opens closes line at =
    let p = skip_blanks line (at + 1) in cond (is_at line at opens) (cond (is_at line p closes) None (Some p)) None

-- where the item behind the one whose value stands at this place would begin
unfoldable pub after_comma : List ℕ → Option (Read Json) → Option ℕ
after_comma line o =
    option_and_then (λ r. let p = skip_blanks line r.next in cond (is_at line p 0x2c) (Some (skip_blanks line (p + 1))) None) o

unfoldable pub next_item : List ℕ → ℕ → Option ℕ
next_item line at = after_comma line (value_here line at)

-- the places of the items from one on, `most` at the most
unfoldable pub places : ℕ → List ℕ → Option ℕ → List ℕ
places zero line at = []
places (suc most) line None = []
places (suc most) line (Some at) = at ∷ places most line (next_item line at)

-- the places of the items from one on: of each item that has another behind it a byte stands in the line
unfoldable pub places_from : List ℕ → Option ℕ → List ℕ
places_from line at = places (suc (length line)) line at

-- the value of the member whose name stands at this place
unfoldable pub member_value : List ℕ → ℕ → Option ℕ
member_value line at = behind (name_at line at)

-- the number of elements of an array
unfoldable pub count : Elements → ℕ
count no_element = 0
count (element at value rest) = suc (count rest)

unfoldable pub count_of : Json → Option ℕ
count_of null = None
count_of (bool b) = None
count_of (number n) = None
count_of (text t) = None
count_of (array es) = Some (count es)
count_of (object ms) = None

unfoldable pub element_count : List ℕ → ℕ → Option ℕ
element_count line at = option_and_then (λ r. count_of r.value) (value_here line at)

-- "Of equal member names the last counts": the place of its value
unfoldable pub last_named : List ℕ → Members → Option ℕ → Option ℕ
last_named name no_member found = found
last_named name (member at n value_start value rest) found = last_named name rest (cond (same n name) (Some value_start) found)

unfoldable pub named_in : List ℕ → Json → Option ℕ
named_in name null = None
named_in name (bool b) = None
named_in name (number n) = None
named_in name (text t) = None
named_in name (array es) = None
named_in name (object ms) = last_named name ms None

unfoldable pub member_named : List ℕ → List ℕ → ℕ → Option ℕ
member_named name line at = option_and_then (λ r. named_in name r.value) (value_here line at)

-- a number's value, and a bool's
unfoldable pub number_here : List ℕ → ℕ → Option ℕ
number_here line at = option_map (λ r. r.value) (number_at line at)

unfoldable pub truth_of : Json → Option Bool
truth_of null = None
truth_of (bool b) = Some b
truth_of (number n) = None
truth_of (text t) = None
truth_of (array es) = None
truth_of (object ms) = None

unfoldable pub truth_here : List ℕ → ℕ → Option Bool
truth_here line at = option_and_then (λ r. truth_of r.value) (word_at line at)

-- is the string at this place, decoded, this text?
unfoldable pub string_is : List ℕ → ℕ → List ℕ → Bool
string_is line at t = elim (string_at line at) [ None ↦ false | Some d ↦ same d.text t ]

-- the length of the string at this place, decoded
unfoldable pub decoded_length : List ℕ → ℕ → Option ℕ
decoded_length line at = option_map (λ d. length d.text) (string_at line at)

-- the place behind a string whose opening quote stands at this place, and the length of its decoded text
unfoldable pub scanned : ℕ → Option Decoded → Option (Read ℕ)
scanned at o = option_map (λ d. record { value = length d.text; next = at + 1 + d.size }) o

-- a word that was read
unfoldable pub literal_is : Json → Option Literal
literal_is null = Some Null
literal_is (bool b) = cond b (Some True) (Some False)
literal_is (number n) = None
literal_is (text t) = None
literal_is (array es) = None
literal_is (object ms) = None

unfoldable pub literal_of : Option (Read Json) → Option Literal
literal_of o = option_and_then (λ r. literal_is r.value) o

-- how many bytes a word has
abbrev pub word_size : Literal → ℕ
word_size Null = 4
word_size True = 4
word_size False = 5

-- what has no string in it
abbrev pub no_string : ℕ → ℕ
no_string n = 0

-- the closing bracket of an object, or of an array
abbrev pub closing : Bool → ℕ
closing within_object = cond within_object 0x7d 0x5d

-- the object, or the array, whose bracket opens at a place
unfoldable pub bracketed : Bool → (ℕ → Option (Read Json)) → List ℕ → ℕ → Option (Read Json)
bracketed true read line at = read_as object (object_at read line at)
bracketed false read line at = read_as array (array_at read line at)

-- the items of an object or an array from a place on, `most` at the most
unfoldable pub itemized : Bool → (ℕ → Option (Read Json)) → List ℕ → ℕ → ℕ → Option (Read Json)
itemized true read line most at = read_as object (items_at no_member (λ m rest. member m.0 m.1 m.2 m.3 rest) (member_at read line) 0x7d line most at)
itemized false read line most at = read_as array (items_at no_element (λ e rest. element e.0 e.1 rest) (element_at read) 0x5d line most at)

-- the cursor behind one item
unfoldable pub item_step : Bool → ℕ → (ℕ → Option (Read Json)) → List ℕ → ℕ → Option Cursor
item_step true before read line at = stepped (λ m. max (length m.1) (longest m.3)) before (member_at read line at)
item_step false before read line at = stepped (λ e. longest e.1) before (element_at read at)

-- the answer for a text that is copied into a buffer of `room` bytes
abbrev pub copied_text : ℕ → List ℕ → Result ℕ DecodeError
copied_text room t = cond (leb (length t) room) (Ok (length t)) (Err TooLong)

-- the answer of `decode` for a buffer of `room` bytes, and the buffer afterwards
unfoldable pub copied : ℕ → Option Decoded → Result ℕ DecodeError
copied room None = Err NoText
copied room (Some d) = copied_text room d.text

unfoldable pub decoded_into : List ℕ → Option Decoded → List ℕ
decoded_into buffer None = buffer
decoded_into buffer (Some d) = written d.text buffer

-- a string that fits a buffer of `room` bytes
abbrev pub Fits : ℕ → Option Decoded → Type 0
Fits room None = ⊥
Fits room (Some d) = length d.text ≤ room
