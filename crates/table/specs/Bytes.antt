-- Tables as bytes: document 01, Store. A table is a stretch of the store; its rows are its whole rows of one size, the used ones first.
use Rattle.std.specs.Prelude.{ℕ, zero, suc, ◌+◌, ◌*◌, ◌-◌, ◌/◌, ◌%◌, Bool, true, ◌&&◌, not, cond, List, [], ◌∷◌, ◌++◌, eqb, leb, length, get_or, take, drop, replicate}
use Rattle.text.specs.Text.{same, fits_at, pasted}
use Rattle.table.specs.Table.{some_row, keep}
use Rattle.table.specs.declared.Pushed.{Pushed}
use Rattle.table.specs.declared.Pushed.TheVariants.{Present, Added, Full}

-- "Little-endian u16"
unfoldable pub u16 : ℕ → List ℕ
u16 n = (n % 256) ∷ (n / 256) ∷ []

-- the number that the first two bytes say; a byte that is missing counts as 0
unfoldable pub number : List ℕ → ℕ
number s = get_or s 1 0 * 256 + get_or s 0 0

-- "Padding and unused rows are zero"
unfoldable pub zeros : List ℕ → Bool
zeros [] = true
zeros (b ∷ s) = eqb b 0 && zeros s

-- the bytes from `from` to before `to` set to zero; where not all of them lie in the list, the list as it was
unfoldable pub cleared : ℕ → ℕ → List ℕ → List ℕ
cleared from to s = cond (leb from to && leb to (length s)) (take from s ++ (replicate (to - from) 0 ++ drop to s)) s

-- the first `n` rows, as far as they are whole
unfoldable pub rows : ℕ → ℕ → List ℕ → List (List ℕ)
rows size zero s = []
rows size (suc n) s = cond (leb size (length s)) (take size s ∷ rows size n (drop size s)) []

-- the row of a number, from 0; the empty list where the table has no such whole row
unfoldable pub row_at : ℕ → ℕ → List ℕ → List ℕ
row_at size i s = cond (leb (i * size + size) (length s)) (take size (drop (i * size) s)) []

-- is the row one of the first `used`? The table's rows have this row's length
unfoldable pub present : List ℕ → ℕ → List ℕ → Bool
present row used s = some_row (same row) (rows (length row) used s)

-- "Present rows aren't added again"; another comes behind the used ones, where there is room for it
unfoldable pub push_answer : List ℕ → ℕ → List ℕ → Pushed
push_answer row used s = cond (present row used s) Present (cond (fits_at (used * length row) row s) Added Full)

unfoldable pub pushed : List ℕ → ℕ → List ℕ → List ℕ
pushed row used s = cond (present row used s) s (pasted (used * length row) row s)

-- a row goes if its mark is there and not 0
unfoldable pub is_marked : List ℕ → ℕ → Bool
is_marked marks i = not (eqb (get_or marks i 0) 0)

-- the rows that stay
unfoldable pub unmarked : List ℕ → List (List ℕ) → List (List ℕ)
unmarked marks [] = []
unmarked [] (r ∷ rs) = r ∷ rs
unmarked (m ∷ marks) (r ∷ rs) = cond (eqb m 0) (r ∷ unmarked marks rs) (unmarked marks rs)

unfoldable pub join : List (List ℕ) → List ℕ
join [] = []
join (r ∷ rs) = r ++ join rs

-- "removal closes gaps": the rows that stay, then zero bytes for those that went, then the rest as it was
unfoldable pub kept : ℕ → ℕ → List ℕ → List ℕ → List (List ℕ)
kept size used marks s = unmarked marks (rows size used s)

unfoldable pub removed : ℕ → ℕ → List ℕ → List ℕ → List ℕ
removed size used marks s =
    join (kept size used marks s)
    ++ (replicate ((length (rows size used s) - length (kept size used marks s)) * size) 0 ++ drop (length (rows size used s) * size) s)

-- the rows that stay where those that pass a test go
unfoldable pub left : (List ℕ → Bool) → ℕ → ℕ → List ℕ → List (List ℕ)
left goes size used s = keep (λ r. not (goes r)) (rows size used s)

-- the gaps that they leave are closed in the same way
unfoldable pub closed_up : (List ℕ → Bool) → ℕ → ℕ → List ℕ → List ℕ
closed_up goes size used s =
    join (left goes size used s)
    ++ (replicate ((length (rows size used s) - length (left goes size used s)) * size) 0 ++ drop (length (rows size used s) * size) s)

-- a table put back to an earlier number of used rows: the rows behind them are zero again, as unused rows are; where the table has not
-- so many, the table as it was
unfoldable pub restored : ℕ → ℕ → ℕ → List ℕ → List ℕ
restored size earlier used s = cleared (earlier * size) (used * size) s
