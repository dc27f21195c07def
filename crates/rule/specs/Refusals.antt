-- The numbers of document 01, Refusals by operation.
use Rattle.std.specs.Prelude.{ℕ, Bool, cond, List, [], ◌∷◌, Option, None, Some}
use Rattle.rule.specs.declared.Refusal.{Refusal}
use Rattle.rule.specs.declared.Refusal.TheVariants.{TooLong, OutOfRange, Malformed, Counts, NotJson, NotARule, FilledTooLong, FiltersFull, EqsFull, NotesFull}

-- 1 over-long text, 2 a value out of range, 3 a store not as laid out, 4 counts, 5 not the JSON, 6 not a rule, 7 a filled text over 256,
-- 8, 9, 10 a full table
unfoldable pub number : Refusal → ℕ
number TooLong = 1
number OutOfRange = 2
number Malformed = 3
number Counts = 4
number NotJson = 5
number NotARule = 6
number FilledTooLong = 7
number FiltersFull = 8
number EqsFull = 9
number NotesFull = 10

-- "The first cause in the order listed gives the number": the causes that an operation tests, each with its number
unfoldable pub first : List (Bool × ℕ) → Option ℕ
first [] = None
first (c ∷ causes) = cond c.0 (Some c.1) (first causes)
