-- Tables of rows, whatever a row is: document 01, Store ("Used rows come first, in order of arrival; removal closes gaps")
-- and Events ("Present rows aren't added again"). One set of definitions serves the filter, eq and note tables.
use Rattle.std.specs.Prelude.{ℕ, Bool, true, false, ◌&&◌, ◌||◌, not, cond, List, [], ◌∷◌, ◌++◌, leb, length}

module _ {Row : Type 0} where
  -- is there a row that passes the test?
  unfoldable pub some_row : (Row → Bool) → List Row → Bool
  some_row p [] = false
  some_row p (r ∷ rows) = p r || some_row p rows

  -- the rows that pass the test, in order of arrival: "removal closes gaps"
  unfoldable pub keep : (Row → Bool) → List Row → List Row
  keep p [] = []
  keep p (r ∷ rows) = cond (p r) (r ∷ keep p rows) (keep p rows)

-- what an event does to one table: it adds rows, in this order, or drops those that pass a test
pub data Change (Row : Type 0) : Type 0 where
  adds : List Row → Change Row
  drops : (Row → Bool) → Change Row

-- an event that leaves the table alone
abbrev pub nothing : {Row : Type 0} → Change Row
nothing = adds []

module _ {Row : Type 0} (same : Row → Row → Bool) where
  -- "Present rows aren't added again"; a new row comes last
  unfoldable pub add : Row → List Row → List Row
  add r rows = cond (some_row (same r) rows) rows (rows ++ (r ∷ []))

  unfoldable pub add_all : List Row → List Row → List Row
  add_all [] rows = rows
  add_all (r ∷ new) rows = add_all new (add r rows)

  unfoldable pub change : Change Row → List Row → List Row
  change (adds new) rows = add_all new rows
  change (drops test) rows = keep (λ r. not (test r)) rows

  -- "no two used rows of a table are equal"
  unfoldable pub distinct : List Row → Bool
  distinct [] = true
  distinct (r ∷ rows) = not (some_row (same r) rows) && distinct rows

  -- a table as laid out: it has room for its rows, no row is bad, no two are equal
  unfoldable pub sound : (Row → Bool) → ℕ → List Row → Bool
  sound bad room rows = leb (length rows) room && (not (some_row bad rows) && distinct rows)
