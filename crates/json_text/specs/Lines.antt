-- The lines of a text: document 01, JSON line.
use Rattle.std.specs.Prelude.{ℕ, suc, ◌+◌, min, cond, List, [], ◌∷◌, eqb, ltb, length, drop}

abbrev pub lf : ℕ
lf = 10

-- the lines of a text with one more byte at the front of the first
unfoldable pub extend_line : ℕ → List (List ℕ) → List (List ℕ)
extend_line b [] = (b ∷ []) ∷ []
extend_line b (line ∷ rest) = (b ∷ line) ∷ rest

-- the lines of a text with this byte before those
unfoldable pub with_byte : ℕ → List (List ℕ) → List (List ℕ)
with_byte b rest = cond (eqb b lf) ([] ∷ rest) (extend_line b rest)

-- "LF ends a line and isn't counted in its length; the last may lack it; empty text is zero lines"
unfoldable pub lines : List ℕ → List (List ℕ)
lines [] = []
lines (b ∷ text) = with_byte b (lines text)

-- a text up to its first LF
unfoldable pub first_line : List ℕ → List ℕ
first_line [] = []
first_line (b ∷ text) = cond (eqb b lf) [] (b ∷ first_line text)

-- the line that begins at an offset; past the text the empty list, where `lines (drop at text)` has none
unfoldable pub line_at : List ℕ → ℕ → List ℕ
line_at text at = first_line (drop at text)

-- the offset of the line behind one that ends at a place: behind the LF, or the text's end
unfoldable pub line_behind : List ℕ → ℕ → ℕ
line_behind text end = cond (ltb end (length text)) (end + 1) (length text)

-- the offset of the line behind the one that begins at an offset
unfoldable pub next_line : List ℕ → ℕ → ℕ
next_line text at = line_behind text (at + length (line_at text at))

-- the number of lines, or one more than `most` where there are more
unfoldable pub count_up_to : ℕ → List ℕ → ℕ
count_up_to most text = min (length (lines text)) (suc most)
