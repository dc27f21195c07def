-- Equality, search and replace on bytes: document 01, Bytes.
use Rattle.std.specs.Prelude.{ℕ, zero, suc, ◌+◌, ◌-◌, Bool, true, false, ◌&&◌, ◌||◌, cond, Option, Some, None, MatchOption, ◌≡◌, ◌<◌, ◌≤◌, List, [], ◌∷◌, ◌++◌, eqb, leb, length, take, drop}

-- "Equality"
unfoldable pub same : List ℕ → List ℕ → Bool
same [] [] = true
same [] (b ∷ t) = false
same (a ∷ s) [] = false
same (a ∷ s) (b ∷ t) = eqb a b && same s t

-- does the text begin with the pattern?
unfoldable pub begins : List ℕ → List ℕ → Bool
begins [] text = true
begins (p ∷ pattern) [] = false
begins (p ∷ pattern) (b ∷ text) = eqb p b && begins pattern text

-- "search", which asks yes or no: does the pattern stand somewhere in the text?
unfoldable pub contains : List ℕ → List ℕ → Bool
contains pattern [] = begins pattern []
contains pattern (b ∷ text) = begins pattern (b ∷ text) || contains pattern text

-- does an occurrence that `replace` takes begin the text? An empty pattern has none (DECISIONS.md, 2)
unfoldable pub occurs : List ℕ → List ℕ → Bool
occurs [] text = false
occurs (p ∷ pattern) text = begins (p ∷ pattern) text

-- the first occurrence that `replace` takes stands here; nowhere, it has none
abbrev pub FirstAt : List ℕ → List ℕ → Option ℕ → Type 0
FirstAt pattern text found =
    MatchOption found ((k : ℕ) → occurs pattern (drop k text) ≡ false)
    (λ i. (i + length pattern ≤ length text) × (occurs pattern (drop i text) ≡ true) × ((k : ℕ) → k < i → occurs pattern (drop k text) ≡ false))

-- `new` for each occurrence, "left to right, non-overlapping"; the first `skip` bytes belong to an occurrence that was replaced
unfoldable pub replace_from : List ℕ → List ℕ → ℕ → List ℕ → List ℕ
replace_from pattern new skip [] = []
replace_from pattern new (suc skip) (b ∷ text) = replace_from pattern new skip text
replace_from pattern new zero (b ∷ text) =
    elim (occurs pattern (b ∷ text)) [
      | true ↦ new ++ replace_from pattern new (length pattern - 1) text
      | false ↦ b ∷ replace_from pattern new zero text
    ]

-- "replace .. as `str::replace`", but for the empty pattern
unfoldable pub replace : List ℕ → List ℕ → List ℕ → List ℕ
replace pattern new text = replace_from pattern new zero text

-- the answer for a buffer of `room` bytes: the result's length; none, where it is longer than the buffer
unfoldable pub fitted : List ℕ → ℕ → Option ℕ
fitted result room = cond (leb (length result) room) (Some (length result)) None

-- a buffer with the result at its front and the rest as it was; where the result is longer, all as it was
unfoldable pub written : List ℕ → List ℕ → List ℕ
written result buffer = cond (leb (length result) (length buffer)) (result ++ drop (length result) buffer) buffer

-- is there room for the source from a place of the buffer on?
unfoldable pub fits_at : ℕ → List ℕ → List ℕ → Bool
fits_at at source buffer = leb (at + length source) (length buffer)

-- the buffer with the source from that place on, the rest as it was; without room for it, all as it was
unfoldable pub pasted : ℕ → List ℕ → List ℕ → List ℕ
pasted at source buffer = cond (fits_at at source buffer) (take at buffer ++ (source ++ drop (at + length source) buffer)) buffer
