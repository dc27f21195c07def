-- An order of rows: the first eight bytes in which two rows differ decide, as a number. Nothing is said of which order it is: rows that
-- ascend in any strict order are no two equal.
use Rattle.std.specs.Prelude.{ℕ, ◌+◌, ◌*◌, ◌-◌, ◌/◌, ◌<◌, ◌≡◌, cond, List, ltb, length, get_or, take, drop}

-- the row of a number, from 0, in a table that has it
abbrev pub row : ℕ → ℕ → List ℕ → List ℕ
row size i s = take size (drop (i * size) s)

-- the number that the two, four or eight bytes from `at` on say, the low one first
unfoldable pub two : ℕ → List ℕ → ℕ
two at s = get_or s (at + 1) 0 * 256 + get_or s at 0

unfoldable pub four : ℕ → List ℕ → ℕ
four at s = two (at + 2) s * 65536 + two at s

unfoldable pub eight : ℕ → List ℕ → ℕ
eight at s = four (at + 4) s * 4294967296 + four at s

-- the words of a row: eight bytes each, and behind the whole ones the row's last eight bytes
unfoldable pub word : ℕ → List ℕ → ℕ
word i s = cond (ltb i (length s / 8)) (eight (i * 8) s) (eight (length s - 8) s)

-- the first word in which they differ is less in the first row
pub record Before (s t : List ℕ) : Type 0 where
  pub place : ℕ
  pub alike : (k : ℕ) → k < place → word k s ≡ word k t
  pub less : word place s < word place t
