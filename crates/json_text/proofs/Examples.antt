-- The definition on worked lines: RFC 8259's own examples, sections 7 and 13, and lines at the limits of document 01. Assumes nothing.
use mathlib.Core.Path.{◌≡◌, refl}
use mathlib.Core.Bool.{true, false}
use mathlib.Core.List.{List, [], ◌∷◌, map}
use Rattle.std.specs.Prelude.{Option, None, Some}
use Rattle.text.specs.Maybe.{bind}
use Prim.Native.Nat.{ℕ}
use Rattle.text.specs.Ascii.{ascii}
use Rattle.text.specs.Text.{begins}
use Rattle.json_text.specs.Utf8.{between, lead_size, second, tail, sequence, utf8}
use Rattle.json_text.specs.Strings.{hex_digit, hex4, short_escape, low_surrogate, unicode, escape, raw_piece, piece_of, grown, string_from, string_at}
use Rattle.json_text.specs.Json.{Json, null, bool, number, text, array, object, no_element, element, no_member, member, is_at, is_blank, blanks, skip_blanks, kind_of, digits, decimal, plain_number, number_at, word_at, text_at, read_as, separator_at, items_at, bracket_at, element_at, name_at, member_at, array_at, object_at, value_with, value_at, line_value}

-- lines, each with its value
pub worked : List (List ℕ × Option Json)
worked =
    (ascii "{ \"Image\": { \"Width\": 800, \"Height\": 600, \"Title\": \"View from 15th Floor\", \"Thumbnail\": { \"Url\": \"http://www.example.com/image/481989943\", \"Height\": 125, \"Width\": 100 }, \"Animated\" : false, \"IDs\": [116, 943, 234, 38793] } }", Some (object (member 2 (ascii "Image") 11 (object (member 13 (ascii "Width") 22 (number 800) (member 27 (ascii "Height") 37 (number 600) (member 42 (ascii "Title") 51 (text (ascii "View from 15th Floor")) (member 75 (ascii "Thumbnail") 88 (object (member 90 (ascii "Url") 97 (text (ascii "http://www.example.com/image/481989943")) (member 139 (ascii "Height") 149 (number 125) (member 154 (ascii "Width") 163 (number 100) no_member)))) (member 170 (ascii "Animated") 183 (bool false) (member 190 (ascii "IDs") 197 (array (element 198 (number 116) (element 203 (number 943) (element 208 (number 234) (element 213 (number 38793) no_element))))) no_member))))))) no_member)))
    ∷ (ascii "\"Hello world!\"", Some (text (ascii "Hello world!")))
    ∷ (ascii "42", Some (number 42))
    ∷ (ascii "true", Some (bool true))
    ∷ (ascii "\"\\uD834\\uDD1E\"", Some (text (240 ∷ 157 ∷ 132 ∷ 158 ∷ [])))
    ∷ (ascii "[\"allow\",{\"user\":\"bo\"}, 7 ,[true,null]]", Some (array (element 1 (text (ascii "allow")) (element 9 (object (member 10 (ascii "user") 17 (text (ascii "bo")) no_member)) (element 24 (number 7) (element 27 (array (element 28 (bool true) (element 33 null no_element))) no_element))))))
    ∷ (ascii " [ ] ", Some (array no_element))
    ∷ (ascii "{}", Some (object no_member))
    ∷ (ascii "18446744073709551615", Some (number 18446744073709551615))
    ∷ (ascii "[[[[[[[[]]]]]]]]", Some (array (element 1 (array (element 2 (array (element 3 (array (element 4 (array (element 5 (array (element 6 (array (element 7 (array no_element) no_element)) no_element)) no_element)) no_element)) no_element)) no_element)) no_element)))
    ∷ (ascii "[ { \"Latitude\": 37.7668, \"Longitude\": -122.3959 } ]", None)
    ∷ (ascii "18446744073709551616", None)
    ∷ (ascii "01", None)
    ∷ (ascii "[[[[[[[[[]]]]]]]]]", None)
    ∷ (ascii "\"\\uDD1E\"", None)
    ∷ (ascii "[1,]", None)
    ∷ (ascii "", None)
    ∷ (ascii "7 7", None)
    ∷ (ascii "tru", None)
    ∷ []

-- one claim for all of them
pub evaluated : map (λ e. line_value e.0) worked ≡ map (λ e. e.1) worked
unfolding worked line_value value_at value_with kind_of number_at text_at word_at array_at object_at bracket_at items_at element_at member_at name_at read_as separator_at skip_blanks blanks is_blank is_at digits decimal plain_number string_at string_from grown piece_of raw_piece sequence lead_size second tail between utf8 begins bind hex_digit hex4 short_escape low_surrogate unicode escape
evaluated = refl
