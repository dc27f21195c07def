-- Topic filters and the two ways of matching: document 01, Filters and Tree match T; Plain match P by request b) of document 02.
use Rattle.std.specs.Prelude.{ℕ, Bool, true, false, ◌&&◌, ◌||◌, not, cond, List, [], ◌∷◌, eqb}
use Rattle.text.specs.Text.{same}

-- a level is a list of bytes
abbrev pub Level : Type 0
Level = List ℕ

-- the characters that the rules speak of: `/`, `+`, `#`, `$`
abbrev pub slash : ℕ
slash = 47

abbrev pub plus : ℕ
plus = 43

abbrev pub hash : ℕ
hash = 35

abbrev pub dollar : ℕ
dollar = 36

-- the levels with one more byte at the front of the first
unfoldable pub extend_first : ℕ → List Level → List Level
extend_first b [] = (b ∷ []) ∷ []
extend_first b (level ∷ rest) = (b ∷ level) ∷ rest

-- the levels of a text with this byte before those
unfoldable pub with_byte : ℕ → List Level → List Level
with_byte b rest = cond (eqb b slash) ([] ∷ rest) (extend_first b rest)

-- "Levels are the pieces between `/`; an empty piece is Blank. .. The empty text is one Blank"
unfoldable pub levels : List ℕ → List Level
levels [] = [] ∷ []
levels (b ∷ text) = with_byte b (levels text)

-- is the level this one character?
unfoldable pub is_only : ℕ → Level → Bool
is_only b level = same level (b ∷ [])

-- is it the wildcard `+`? the wildcard `#`?
abbrev pub is_plus : Level → Bool
is_plus level = is_only plus level

abbrev pub is_hash : Level → Bool
is_hash level = is_only hash level

-- a level with neither `+` nor `#` in it
unfoldable pub wildcard_free : Level → Bool
wildcard_free [] = true
wildcard_free (b ∷ level) = not (eqb b plus || eqb b hash) && wildcard_free level

-- does no level follow?
abbrev pub is_last : List Level → Bool
is_last [] = true
is_last (level ∷ rest) = false

-- "`+` or `#` inside a longer level is invalid; `#` only as the last level"
unfoldable pub valid_levels : List Level → Bool
valid_levels [] = true
valid_levels (level ∷ rest) = (wildcard_free level || (is_plus level || (is_hash level && is_last rest))) && valid_levels rest

unfoldable pub valid_filter : List ℕ → Bool
valid_filter text = valid_levels (levels text)

-- a level that begins with `$`, which the Rust calls metadata
unfoldable pub metadata : Level → Bool
metadata [] = false
metadata (b ∷ level) = eqb b dollar

-- the filter's levels when none of the text is left: "`#` the rest or nothing"
unfoldable pub ends : List Level → Bool
ends [] = true
ends (level ∷ rest) = is_hash level

-- one level of the filter on one of the text: "`+` takes any one level, .. another level its equal"
unfoldable pub takes_level : Level → Level → Bool
takes_level filter text = is_plus filter || same filter text

-- "A match takes one level at a time": the filter's levels on the checked text's. "`#` the rest or nothing"
unfoldable pub takes : List Level → List Level → Bool
takes filter [] = ends filter
takes [] (t ∷ text) = false
takes (f ∷ filter) (t ∷ text) = is_hash f || (takes_level f t && takes filter text)

-- "If the checked text's first level begins with `$`, a filter's leading wildcard doesn't match; later levels have no such rule"
unfoldable pub dollar_rule : List Level → List Level → Bool
dollar_rule [] text = false
dollar_rule (f ∷ filter) [] = false
dollar_rule (f ∷ filter) (t ∷ text) = (is_plus f || is_hash f) && metadata t

-- both together: the matching of T and P, once the checked text is split
unfoldable pub levels_match : List Level → List Level → Bool
levels_match filter text = not (dollar_rule filter text) && takes filter text

-- the levels of a text that is a valid filter, else none
unfoldable pub levels_if : Bool → List ℕ → List Level
levels_if valid text = cond valid (levels text) []

-- "A checked text that isn't a valid filter has zero levels"
unfoldable pub checked_levels : List ℕ → List Level
checked_levels text = levels_if (valid_filter text) text

-- Tree match T: zero levels are those "which `#` alone matches"
unfoldable pub tree_match : List ℕ → List ℕ → Bool
tree_match filter text = levels_match (levels filter) (checked_levels text)

-- Plain match P: "As T, but the checked text is split without a validity test". Request b): "From now on it follows section 4.7: only a
-- filter's leading wildcard shies from a first level beginning with `$`"
unfoldable pub plain_match : List ℕ → List ℕ → Bool
plain_match filter text = levels_match (levels filter) (levels text)
