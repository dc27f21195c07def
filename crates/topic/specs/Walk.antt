-- Levels by their places in a text, and the walk of a match over them: document 01, "A match takes one level at a time".
use Rattle.std.specs.Prelude.{ℕ, ◌+◌, Bool, true, false, cond, Some, is_some, List, [], ◌∷◌, eqb, leb, ltb, length, drop}
use Rattle.topic.specs.Topic.{Level, slash, plus, hash, levels, is_hash, ends, takes_level}
use Rattle.topic.specs.declared.Walk.{Walk}

-- a text up to its first `/`
unfoldable pub first_level : List ℕ → Level
first_level [] = []
first_level (b ∷ text) = cond (eqb b slash) [] (b ∷ first_level text)

-- the level that begins at a place; the empty list past the text, where `levels_at` has no level
unfoldable pub level_at : List ℕ → ℕ → Level
level_at text at = first_level (drop at text)

-- where that level ends, and where the next begins: one past its end, be there a `/` or not
unfoldable pub level_end : List ℕ → ℕ → ℕ
level_end text at = at + length (level_at text at)

unfoldable pub next_level : List ℕ → ℕ → ℕ
next_level text at = level_end text at + 1

-- the levels from a place on: past the text there are none
unfoldable pub levels_at : List ℕ → ℕ → List Level
levels_at text at = cond (leb at (length text)) (levels (drop at text)) []

-- the walk with its answer
unfoldable pub answered : Walk → Bool → Walk
answered w taken = record { filter = w.filter; text = w.text; answer = Some taken }

-- the walk behind one level of the filter and one of the text
unfoldable pub onward : List ℕ → List ℕ → Walk → Walk
onward filter text w =
    record { filter = next_level filter w.filter; text = next_level text w.text; answer = w.answer }

-- the walk after one more level; a walk that has its answer stays as it is
unfoldable pub stepped : List ℕ → List ℕ → Walk → Walk
stepped filter text w =
    cond (is_some w.answer) w
    (cond (ltb (length text) w.text) (answered w (ends (levels_at filter w.filter)))
    (cond (ltb (length filter) w.filter) (answered w false)
    (cond (is_hash (level_at filter w.filter)) (answered w true)
    (cond (takes_level (level_at filter w.filter) (level_at text w.text)) (onward filter text w) (answered w false)))))

-- the two differ at a byte, and up to it the filter has no wildcard
unfoldable pub begins_apart : List ℕ → List ℕ → Bool
begins_apart [] text = false
begins_apart (b ∷ filter) [] = false
begins_apart (b ∷ filter) (t ∷ text) = cond (eqb b plus) false (cond (eqb b hash) false (cond (eqb b t) (begins_apart filter text) true))
