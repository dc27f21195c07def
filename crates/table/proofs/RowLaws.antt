-- Laws of the rows of a table as bytes (`specs/Bytes.antt`), and the steps of the loops over them. Assumes nothing.
use Prim.Native.Nat.{ℕ, zero, suc, ◌+◌, ◌-◌, ◌*◌, ◌≤◌, ◌<◌}
use mathlib.Core.Path.{◌≡◌, refl, sym, ap, ◌∙◌}
use mathlib.Core.Bool.{Bool, true, false, ◌&&◌, not, cond}
use mathlib.Core.List.{List, [], ◌∷◌, ◌++◌, append_assoc, append-nil}
use native.Mathlib.Nat.{zero-add, add-zero, sub-zero, zero-mul, mul_comm, mul-sub, mul-le-mul_right}
use native.Mathlib.Numerals.{add-one}
use native.Mathlib.Omega.{arith}
use borrow.Author.Tests.{leb-true, le-leb, lt-leb, ltb-true, ltb-false, lt-ltb}
use lib.Dec.{eqb, leb, ltb}
use lib.ListN.{length, take, drop, replicate, length-append, length-drop}
use lib.Seq.{drop-drop, length-take-le, paste, take-paste, drop-paste, length-paste}
use Rattle.text.specs.Text.{same, fits_at, pasted}
use Rattle.text.proofs.Laws.{pasted_not, same_itself}
use Rattle.table.specs.Table.{some_row, keep, distinct}
use Rattle.table.specs.Bytes.{cleared, rows, present, push_answer, pushed, is_marked, unmarked, join, kept, removed, left, closed_up}
use Rattle.table.specs.declared.Pushed.{Pushed}
use Rattle.table.specs.declared.Pushed.TheVariants.{Present, Added, Full}
use Rattle.table.proofs.ByteLaws.{cleared_fits, moved_here}

-- ---- rows

-- where a whole row stands at `at`, it is the first one of those left
pub rows_step : (size n i at : ℕ) (s : List ℕ) → i < n → at + size ≤ length s
    → rows size (n - i) (drop at s) ≡ take size (drop at s) ∷ rows size (n - (i + 1)) (drop (at + size) s)
unfolding rows
rows_step size n i at s h k =
    let more : n - i ≡ suc (n - (i + 1)) = omega arith in
    let fits : size ≤ length (drop at s) = rw (length-drop at s) (omega arith) in
    rw (more, rows, le-leb size (length (drop at s)) fits, drop-drop size at s)

-- no whole row stands there
pub rows_short : (size n at : ℕ) (s : List ℕ) → length s - at < size → rows size n (drop at s) ≡ []
unfolding rows
rows_short size zero at s h = refl
rows_short size (suc n) at s h =
    let short : length (drop at s) < size = rw (length-drop at s) h in
    rw (lt-leb size (length (drop at s)) short)

-- no row is left
pub rows_end : (size n i : ℕ) (s : List ℕ) → n ≤ i → rows size (n - i) s ≡ []
unfolding rows
rows_end size n i s h = let none : n - i ≡ 0 = omega arith in rw none

-- any number finds all the whole rows, if one row more wouldn't fit
pub rows_enough : (size n m : ℕ) (s : List ℕ) → length s < n * size + size → length s < m * size + size → rows size n s ≡ rows size m s
unfolding rows
rows_enough size zero zero s k l = refl
rows_enough size zero (suc m) s k l = rw (lt-leb size (length s) (omega arith))
rows_enough size (suc n) zero s k l = rw (lt-leb size (length s) (omega arith))
rows_enough size (suc n) (suc m) s k l = at (leb size (length s)) refl (λ f g. rows_enough size n m (drop size s) f g)
  where
    at : (b : Bool) → leb size (length s) ≡ b
        → (length (drop size s) < n * size + size → length (drop size s) < m * size + size → rows size n (drop size s) ≡ rows size m (drop size s))
        → cond b (take size s ∷ rows size n (drop size s)) [] ≡ cond b (take size s ∷ rows size m (drop size s)) []
    at true e r =
        let whole = leb-true size (length s) e in
        let left = length-drop size s in
        rw (r (omega arith) (omega arith))
    at false e r = refl

-- the empty row is one of any number of rows without bytes
pub present_empty : (row : List ℕ) (used : ℕ) (s : List ℕ) → length row ≡ 0 → some_row (same row) (rows 0 used s) ≡ ltb 0 used
unfolding rows some_row
present_empty row zero s h = refl
present_empty [] (suc used) s h = rw (le-leb 0 (length s) (omega arith), lt-ltb 0 (suc used) (omega arith), same_itself [])
present_empty (b ∷ row) (suc used) s h = absurd (omega arith)

-- the first row and all behind it; of the rows from `i` on
distinct_first : {row behind : List ℕ} (size n : ℕ) (s : List ℕ) → size ≤ length s → row ≡ take size s → behind ≡ drop size s
    → distinct same (rows size (suc n) s) ≡ (not (present row n behind) && distinct same (rows size n behind))
unfolding rows present distinct
distinct_first {row} {behind} size n s k r b =
    let whole : length row ≡ size = ap length r ∙ length-take-le size s k in
    rw (le-leb size (length s) k, ← r, ← b, whole) refl

pub distinct_step : {row behind : List ℕ} (size used i : ℕ) (s : List ℕ) → i < used → size ≤ length s → row ≡ take size s → behind ≡ drop size s
    → distinct same (rows size (used - i) s) ≡ (not (present row (used - i - 1) behind) && distinct same (rows size (used - (i + 1)) behind))
distinct_step {row} {behind} size used i s h k r b =
    let more : used - i ≡ suc (used - i - 1) = omega arith in
    let less : used - i - 1 ≡ used - (i + 1) = omega arith in
    ap (λ (n : ℕ). distinct same (rows size n s)) more
    ∙ (distinct_first size (used - i - 1) s k r b ∙ ap (λ (n : ℕ). not (present row (used - i - 1) behind) && distinct same (rows size n behind)) less)

pub distinct_short : (size n : ℕ) (s : List ℕ) → length s < size → distinct same (rows size n s) ≡ true
unfolding rows distinct
distinct_short size zero s h = refl
distinct_short size (suc n) s h = rw (lt-leb size (length s) h)

pub distinct_end : (size n : ℕ) (s : List ℕ) → n ≡ 0 → distinct same (rows size n s) ≡ true
unfolding rows distinct
distinct_end size n s h = rw h

-- ---- what `push` answers and does

-- a push on `s` answers `answer` and leaves `table`
abbrev pub Pushes : List ℕ → ℕ → List ℕ → Pushed → List ℕ → Type 0
Pushes row used s answer table = (answer ≡ push_answer row used s) × (table ≡ pushed row used s)

module _ (row : List ℕ) (used : ℕ) (s : List ℕ) where
  pub push_present : present row used s ≡ true → Pushes row used s Present s
  unfolding push_answer pushed
  push_present e = (rw e, rw e)

  -- another row is written behind the used ones, if it fits there
  pub push_new : {at : ℕ} {fits : Bool} {table : List ℕ} → present row used s ≡ false → at ≡ used * length row
      → fits ≡ fits_at at row s → table ≡ pasted at row s → Pushes row used s (cond fits Added Full) table
  unfolding push_answer pushed
  push_new e p f t = (rw (e, ← p, ← f), t ∙ rw (e, ← p))

  pub push_full : present row used s ≡ false → length s < used * length row + length row → Pushes row used s Full s
  unfolding push_answer pushed fits_at
  push_full e h =
      (rw (e, lt-leb (used * length row + length row) (length s) h), rw e (sym (pasted_not (used * length row) row s h)))

-- ---- removal

pub join_append : (front back : List (List ℕ)) → join (front ++ back) ≡ join front ++ join back
unfolding join
join_append [] back = refl
join_append (r ∷ front) back = rw (join_append front back) (sym (append_assoc r (join front) (join back)))

join_snoc : (front : List (List ℕ)) (r : List ℕ) → join (front ++ (r ∷ [])) ≡ join front ++ r
unfolding join
join_snoc front r = join_append front (r ∷ []) ∙ rw (append-nil r)

-- what lies behind a row that was moved to an earlier place is as it was
moved_behind : (s : List ℕ) (from to size : ℕ) → to ≤ from → from + size ≤ length s
    → drop (from + size) (paste s to (drop from s) size) ≡ drop (from + size) s
moved_behind s from to size h k =
    let left = length-drop from s in
    let place : from + size ≡ to + size + (from - to) = omega arith in
    let behind = drop-paste s to (drop from s) size (omega arith) (omega arith) in
    rw (place, ← drop-drop (from - to) (to + size) (paste s to (drop from s) size), behind) (drop-drop (from - to) (to + size) s)

-- what stays of the rows from a place on, if row `i` is the first of them: it goes, or it stays
abbrev pub Goes : (ℕ → List (List ℕ) → List (List ℕ)) → ℕ → List ℕ → Type 0
Goes staying i r = (rest : List (List ℕ)) → staying i (r ∷ rest) ≡ staying (i + 1) rest

abbrev pub Stays : (ℕ → List (List ℕ) → List (List ℕ)) → ℕ → List ℕ → Type 0
Stays staying i r = (rest : List (List ℕ)) → staying i (r ∷ rest) ≡ r ∷ staying (i + 1) rest

-- by a test, at any place
abbrev pub by_test : (List ℕ → Bool) → ℕ → List (List ℕ) → List (List ℕ)
by_test goes i rs = keep (λ r. not (goes r)) rs

pub test_goes : (goes : List ℕ → Bool) (i : ℕ) (r : List ℕ) → goes r ≡ true → Goes (by_test goes) i r
unfolding keep
test_goes goes i r e rest = rw e

pub test_stays : (goes : List ℕ → Bool) (i : ℕ) (r : List ℕ) → goes r ≡ false → Stays (by_test goes) i r
unfolding keep
test_stays goes i r e rest = rw e

pub test_none : (goes : List ℕ → Bool) (i : ℕ) → by_test goes i [] ≡ []
unfolding keep
test_none goes i = refl

-- by marks, each at its place
abbrev pub by_marks : List ℕ → ℕ → List (List ℕ) → List (List ℕ)
by_marks marks i rs = unmarked (drop i marks) rs

unmarked_all : (rest : List (List ℕ)) → unmarked [] rest ≡ rest
unfolding unmarked
unmarked_all [] = refl
unmarked_all (r ∷ rest) = refl

-- what the mark of a number does to the first of the rows left
unmarked_step : (marks : List ℕ) (i : ℕ) (r : List ℕ) (rest : List (List ℕ))
    → unmarked (drop i marks) (r ∷ rest) ≡ cond (is_marked marks i) (unmarked (drop (suc i) marks) rest) (r ∷ unmarked (drop (suc i) marks) rest)
unfolding unmarked is_marked
unmarked_step [] zero r rest = rw (unmarked_all rest)
unmarked_step [] (suc i) r rest = rw (unmarked_all rest)
unmarked_step (m ∷ marks) zero r rest = at (eqb m 0)
  where
    at : (t : Bool) → cond t (r ∷ unmarked marks rest) (unmarked marks rest) ≡ cond (not t) (unmarked marks rest) (r ∷ unmarked marks rest)
    at true = refl
    at false = refl
unmarked_step (m ∷ marks) (suc i) r rest = unmarked_step marks i r rest

pub marks_go : (marks : List ℕ) (i : ℕ) (r : List ℕ) → is_marked marks i ≡ true → Goes (by_marks marks) i r
marks_go marks i r e rest = rw (add-one i) (unmarked_step marks i r rest ∙ rw e)

pub marks_stay : (marks : List ℕ) (i : ℕ) (r : List ℕ) → is_marked marks i ≡ false → Stays (by_marks marks) i r
marks_stay marks i r e rest = rw (add-one i) (unmarked_step marks i r rest ∙ rw e)

pub marks_none : (marks : List ℕ) (i : ℕ) → by_marks marks i [] ≡ []
unfolding unmarked
marks_none marks i = refl

-- the state of the loop of `remove` and `remove_marked` before row `i`, in a table that was `before`: the rows that stay are closed up
-- to before `to`, and from `from` on the table is as it was
pub record Removing (staying : ℕ → List (List ℕ) → List (List ℕ)) (size used : ℕ) (before table : List ℕ) (from to i stay : ℕ) : Type 0 where
  pub front : List (List ℕ)
  pub whole : front ++ staying i (rows size (used - i) (drop from before)) ≡ staying 0 (rows size used before)
  pub counted : i + length (rows size (used - i) (drop from before)) ≡ length (rows size used before)
  pub closed : take to table ≡ join front
  pub behind : drop from table ≡ drop from before
  pub lengths : length table ≡ length before
  pub stayed : length front ≡ stay
  pub passed : i * size ≡ from
  pub filled : stay * size ≡ to
  pub fewer : stay ≤ i
  pub room : from ≤ length table

pub removing_none : (staying : ℕ → List (List ℕ) → List (List ℕ)) (size used : ℕ) (before : List ℕ) → Removing staying size used before before 0 0 0 0
unfolding join
removing_none staying size used before = record {
  front = [];
  whole = rw sub-zero;
  counted = rw (sub-zero, zero-add);
  closed = refl;
  behind = refl;
  lengths = refl;
  stayed = refl;
  passed = zero-mul size;
  filled = zero-mul size;
  fewer = omega arith;
  room = omega arith;
}

module _ {staying : ℕ → List (List ℕ) → List (List ℕ)} {size used : ℕ} {before table : List ℕ} {from to i stay : ℕ}
    (w : Removing staying size used before table from to i stay) where
  -- what is closed up ends before the rows that are left, and a row before, where one went
  pub removing_earlier : to ≤ from
  removing_earlier = omega (arith, w.passed, w.filled, mul-le-mul_right size w.fewer)

  pub removing_apart : to < from → to + size ≤ from
  removing_apart h = at (ltb stay i) refl
    where
      at : (b : Bool) → ltb stay i ≡ b → to + size ≤ from
      at true e = omega (arith, w.passed, w.filled, mul-le-mul_right size (ltb-true stay i e))
      at false e = let same : stay ≡ i = omega (arith, w.fewer, ltb-false stay i e) in absurd (omega (arith, w.passed, w.filled, ap (λ n. n * size) same))

  module _ (h : i < used) (k : from + size ≤ length table) where
    -- the first of the rows left
    first : rows size (used - i) (drop from before) ≡ take size (drop from before) ∷ rows size (used - (i + 1)) (drop (from + size) before)
    first = rows_step size used i from before h (omega (arith, w.lengths))

    counted_one : i + 1 + length (rows size (used - (i + 1)) (drop (from + size) before)) ≡ length (rows size used before)
    counted_one = omega (arith, ap length first, w.counted)

    behind_one : drop (from + size) table ≡ drop (from + size) before
    behind_one = rw (← drop-drop size from table, w.behind) (drop-drop size from before)

    -- a row goes
    pub removing_gone : Goes staying i (take size (drop from table)) → Removing staying size used before table (from + size) to (i + 1) stay
    removing_gone e = record {
      front = w.front;
      whole = rw (first, (rw w.behind at e) _) at w.whole;
      counted = counted_one;
      closed = w.closed;
      behind = behind_one;
      lengths = w.lengths;
      stayed = w.stayed;
      passed = omega (arith, w.passed);
      filled = w.filled;
      fewer = omega arith;
      room = k;
    }

    -- a row stays
    pub removing_moved : Stays staying i (take size (drop from table))
        → Removing staying size used before (take to table ++ (take size (drop from table) ++ drop (to + size) table)) (from + size) (to + size) (i + 1) (stay + 1)
    removing_moved e =
        let left = length-drop from table in
        let row = take size (drop from before) in
        let earlier = removing_earlier in
        let same_length = length-paste table to (drop from table) size (omega arith) (omega arith) in
        rw
        (← append_assoc (take to table) (take size (drop from table)) (drop (to + size) table))
        (record {
          front = w.front ++ (row ∷ []);
          whole = append_assoc w.front (row ∷ []) _ ∙ rw (first, (rw w.behind at e) _) at w.whole;
          counted = counted_one;
          closed = take-paste table to (drop from table) size (omega arith) (omega arith) ∙ rw (w.closed, w.behind) (sym (join_snoc w.front row));
          behind = moved_behind table from to size earlier k ∙ behind_one;
          lengths = same_length ∙ w.lengths;
          stayed = length-append w.front (row ∷ []) ∙ rw w.stayed;
          passed = omega (arith, w.passed);
          filled = omega (arith, w.filled);
          fewer = omega arith;
          room = omega arith;
        })

    -- where it is already
    pub removing_here : from ≤ to → Stays staying i (take size (drop from table)) → Removing staying size used before table (from + size) (to + size) (i + 1) (stay + 1)
    removing_here l e =
        let same : to ≡ from = omega (arith, removing_earlier) in
        let moved : take to table ++ (take size (drop from table) ++ drop (to + size) table) ≡ table = rw same (moved_here table from size) in
        rw moved at (removing_moved e)

  -- no row is left
  removing_end : staying i [] ≡ [] → rows size (used - i) (drop from before) ≡ []
      → (stay ≡ length (staying 0 (rows size used before)))
      × (cleared to from table
      ≡ join (staying 0 (rows size used before))
      ++ (replicate ((length (rows size used before) - length (staying 0 (rows size used before))) * size) 0 ++ drop (length (rows size used before) * size) before))
  removing_end n e =
      let all = rw (e, n, append-nil) at w.whole in
      let total = rw (e, add-zero) at w.counted in
      let gap : (i - stay) * size ≡ from - to = rw (mul_comm (i - stay) size, mul-sub size i stay, mul_comm size i, mul_comm size stay, w.passed, w.filled) in (
        sym w.stayed ∙ ap length all,
        rw (cleared_fits to from table removing_earlier w.room, w.closed, w.behind, ← all, w.stayed, ← total, gap, w.passed),
      )

-- by a test, and by marks
module _ {size used : ℕ} {before table : List ℕ} {from to i stay : ℕ} (none : rows size (used - i) (drop from before) ≡ []) where
  pub test_end : (goes : List ℕ → Bool) → Removing (by_test goes) size used before table from to i stay
      → (stay ≡ length (left goes size used before)) × (cleared to from table ≡ closed_up goes size used before)
  unfolding left closed_up
  test_end goes w = removing_end w (test_none goes i) none

  pub marks_end : (marks : List ℕ) → Removing (by_marks marks) size used before table from to i stay
      → (stay ≡ length (kept size used marks before)) × (cleared to from table ≡ removed size used marks before)
  unfolding kept removed
  marks_end marks w = removing_end w (marks_none marks i) none
