-- Worked examples, evaluated: what `replace` makes of a text, and whether the text contains the pattern.
use Prim.Native.String.{String}
use mathlib.Core.Bool.{Bool, true, false, ◌&&◌, beq}
use mathlib.Core.List.{List, [], ◌∷◌}
use mathlib.Core.Path.{◌≡◌, refl}
use Rattle.text.specs.Ascii.{ascii}
use Rattle.text.specs.Text.{same, begins, contains, occurs, replace_from, replace}

-- pattern, new, text, the text with `new` for each occurrence, is there one?
abbrev Example : Type 0
Example = String × String × String × String × Bool

abbrev examples : List Example
examples =
    ("%c", "g7", "a/%c/%c", "a/g7/g7", true) ∷
    ("%c", "%c%c", "%c", "%c%c", true) ∷
    ("aa", "b", "aaa", "ba", true) ∷
    ("abcd", "x", "abc", "abc", false) ∷
    ("bd", "x", "abc", "abc", false) ∷
    ("b", "", "abcb", "ac", true) ∷
    ("", "x", "abc", "abc", true) ∷
    ("", "x", "", "", true) ∷
    ("x", "y", "", "", false) ∷
    []

abbrev holds : Example → Bool
holds e = same (replace (ascii e.0) (ascii e.1) (ascii e.2)) (ascii e.3) && beq (contains (ascii e.0) (ascii e.2)) e.4

abbrev all_hold : List Example → Bool
all_hold [] = true
all_hold (e ∷ es) = holds e && all_hold es

pub examples_hold : all_hold examples ≡ true
unfolding same begins contains occurs replace_from replace
examples_hold = refl
