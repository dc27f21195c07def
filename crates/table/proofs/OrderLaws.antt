-- Laws of `specs/Order.antt`: the order of rows is strict, and rows that ascend in it, as many as a table's used ones and each of them one
-- of these, show that no two of the table's are equal. Assumes nothing.
use Prim.Native.Nat.{ℕ, zero, suc, ◌+◌, ◌*◌, ◌-◌, ◌/◌, ◌≤◌, ◌<◌}
use mathlib.Core.Path.{◌≡◌, refl, sym, ap, ◌∙◌}
use mathlib.Core.Bool.{Bool, true, false, not, and-false}
use mathlib.Core.Logic.{⊎_elim}
use mathlib.Core.List.Memᴰ
use mathlib.Core.List.{List, [], ◌∷◌, Memᴰ}
use native.Mathlib.Nat.{zero-mul, eq-or-lt_of_le}
use native.Mathlib.Omega.{arith}
use borrow.Author.Tests.{ltb-true, ltb-false, lt-ltb, le-ltb, le-leb}
use lib.Dec.{ltb}
use lib.ListN.{length, take, drop, get_or, length-drop}
use lib.Seq.{drop-drop, get_or-take, get_or-drop}
use Rattle.text.specs.Text.{same}
use Rattle.text.proofs.Laws.{same_unequal, same_sym}
use Rattle.table.specs.Table.{some_row, distinct}
use Rattle.table.specs.Bytes.{rows}
use Rattle.table.specs.Order.{row, two, four, eight, word, Before}
use Rattle.std.specs.Int.{from_le_bytes, w64}
use Rattle.table.proofs.TableLaws.{present, none, texts}
use Rattle.table.proofs.CountLaws.{distinct_within}
use Rattle.table.proofs.JoinLaws.{rows_count}

-- ---- the order

pub before_irreflexive : (s : List ℕ) → Before s s → ⊥
before_irreflexive s b = omega (arith, b.less)

pub before_trans : {s t u : List ℕ} → Before s t → Before t u → Before s u
before_trans {s} {t} {u} p q = at (ltb p.place q.place) refl
  where
    first : p.place < q.place → Before s u
    first h = record {
      place = p.place;
      alike = λ k l. p.alike k l ∙ q.alike k (omega arith);
      less = omega (arith, p.less, q.alike p.place h);
    }

    later : q.place < p.place → Before s u
    later h = record {
      place = q.place;
      alike = λ k l. p.alike k (omega arith) ∙ q.alike k l;
      less = omega (arith, q.less, p.alike q.place h);
    }

    both : q.place ≤ p.place → q.place ≡ p.place → Before s u
    both _ e = record {
      place = q.place;
      alike = λ k l. p.alike k (omega arith) ∙ q.alike k l;
      less = omega (arith, q.less, ap (λ k. word k s) e, ap (λ k. word k t) e, p.less);
    }

    at : (b : Bool) → ltb p.place q.place ≡ b → Before s u
    at true e = first (ltb-true _ _ e)
    at false e = let h = ltb-false _ _ e in ⊎_elim (both h) later (eq-or-lt_of_le h)

pub word_whole : (i : ℕ) (s : List ℕ) → i < length s / 8 → word i s ≡ eight (i * 8) s
unfolding word
word_whole i s h = rw (lt-ltb i (length s / 8) h)

pub word_last : (i : ℕ) (s : List ℕ) → length s / 8 ≤ i → word i s ≡ eight (length s - 8) s
unfolding word
word_last i s h = rw (le-ltb i (length s / 8) h)

-- the word that eight bytes say
pub word_read : (at : ℕ) (s bytes : List ℕ) → bytes ≡ take 8 (drop at s) → from_le_bytes w64 bytes ≡ eight at s
unfolding eight four two
word_read at s bytes e =
    let byte : (i j : ℕ) → i < 8 → at + i ≡ j → get_or bytes i 0 ≡ get_or s j 0 = λ i j h p. rw (e, ← p) (get_or-take 8 (drop at s) i 0 h ∙ get_or-drop at s i 0) in
    let first = byte 0 at (omega arith) (omega arith) in
    omega (
      arith,
      first,
      byte 1 (at + 1) (omega arith) refl,
      byte 2 (at + 2) (omega arith) refl,
      byte 3 (at + 2 + 1) (omega arith) (omega arith),
      byte 4 (at + 4) (omega arith) refl,
      byte 5 (at + 4 + 1) (omega arith) (omega arith),
      byte 6 (at + 4 + 2) (omega arith) (omega arith),
      byte 7 (at + 4 + 2 + 1) (omega arith) (omega arith),
    )

-- ---- rows by their numbers

row_behind : (size i : ℕ) (s : List ℕ) → row size (suc i) s ≡ row size i (drop size s)
row_behind size i s =
    let more : suc i * size ≡ size + i * size = omega arith in
    rw (more, drop-drop (i * size) size s)

row_first : (size : ℕ) (s : List ℕ) → row size 0 s ≡ take size s
row_first size s = rw (zero-mul size)

rows_first : (size n : ℕ) (s : List ℕ) → suc n * size ≤ length s → rows size (suc n) s ≡ take size s ∷ rows size n (drop size s)
unfolding rows
rows_first size n s h = rw (le-leb size (length s) (omega arith))

row_member : (size n i : ℕ) (s : List ℕ) → n * size ≤ length s → i < n → Memᴰ (row size i s) (rows size n s)
row_member size zero i s l h = absurd (omega arith)
row_member size (suc n) zero s l h = rw (rows_first size n s l) (Memᴰ.head (row_first size s))
row_member size (suc n) (suc i) s l h =
    let left = length-drop size s in
    rw (rows_first size n s l, row_behind size i s) (Memᴰ.tail (row_member size n i (drop size s) (omega arith) (omega arith)))

-- two places with equal rows
pub row_twice : (size n i j : ℕ) (s : List ℕ) → n * size ≤ length s → i < j → j < n → same (row size i s) (row size j s) ≡ true → distinct same (rows size n s) ≡ false
unfolding distinct
row_twice size zero i j s l h k e = absurd (omega arith)
row_twice size (suc n) i zero s l h k e = absurd (omega arith)
row_twice size (suc n) zero (suc j) s l h k e =
    let left = length-drop size s in
    let again = row_member size n j (drop size s) (omega arith) (omega arith) in
    let equal = rw (row_first size s, row_behind size j s) at e in
    rw (rows_first size n s l, present (same (take size s)) again equal)
row_twice size (suc n) (suc i) (suc j) s l h k e =
    let left = length-drop size s in
    let equal = rw (row_behind size i s, row_behind size j s) at e in
    rw (rows_first size n s l, row_twice size n i j (drop size s) (omega arith) (omega arith) (omega arith) equal) (and-false (not (some_row (same (take size s)) (rows size n (drop size s)))))

-- two numbers with equal rows
pub row_again : (size n i j : ℕ) (s : List ℕ) → n * size ≤ length s → (i ≡ j → ⊥) → i < n → j < n → same (row size i s) (row size j s) ≡ true → distinct same (rows size n s) ≡ false
row_again size n i j s l other h k e = at (ltb i j) refl
  where
    at : (b : Bool) → ltb i j ≡ b → distinct same (rows size n s) ≡ false
    at true f = row_twice size n i j s l (ltb-true _ _ f) k e
    at false f =
        let behind = ltb-false _ _ f in
        let earlier : j < i = ⊎_elim (λ q. absurd (other (sym q))) (λ q. q) (eq-or-lt_of_le behind) in
        row_twice size n j i s l earlier h (same_sym (row size j s) (row size i s) ∙ e)

-- ---- rows in sorted order

-- the row of the number at a place of `order` is a used one and comes behind the row of the number before
abbrev pub Ascends : ℕ → ℕ → List ℕ → List ℕ → ℕ → Type 0
Ascends size n s order k = 0 < k → (get_or order (k - 1) 0 < n) × ((get_or order k 0 < n) × Before (row size (get_or order (k - 1) 0) s) (row size (get_or order k 0) s))

module _ (size n : ℕ) (s order : List ℕ) where
  -- the rows of the first `m` numbers, the last one first
  picked : ℕ → List (List ℕ)
  picked zero = []
  picked (suc m) = row size (get_or order m 0) s ∷ picked m

  picked_count : (m : ℕ) → length (picked m) ≡ m
  unfolding picked
  picked_count zero = refl
  picked_count (suc m) = ap suc (picked_count m)

  step : (m : ℕ) → Ascends size n s order (suc m) → (get_or order m 0 < n) × ((get_or order (suc m) 0 < n) × Before (row size (get_or order m 0) s) (row size (get_or order (suc m) 0) s))
  step m a = let back : suc m - 1 ≡ m = omega arith in rw back at (a (omega arith))

  picked_before : (m : ℕ) → ((k : ℕ) → k < suc m → Ascends size n s order k) → (r : List ℕ) → Memᴰ r (picked m) → Before r (row size (get_or order m 0) s)
  unfolding picked
  picked_before zero up r m = absurd (Memᴰ.not-nil m)
  picked_before (suc m) up r (Memᴰ.head e) = rw e (step m (up (suc m) (omega arith))).1.1
  picked_before (suc m) up r (Memᴰ.tail d) =
      before_trans (picked_before m (λ k h. up k (omega arith)) r d) (step m (up (suc m) (omega arith))).1.1

  picked_distinct : (m : ℕ) → ((k : ℕ) → k < m → Ascends size n s order k) → distinct same (picked m) ≡ true
  unfolding distinct picked
  picked_distinct zero up = refl
  picked_distinct (suc m) up =
      let other : (r : List ℕ) → Memᴰ r (picked m) → same (row size (get_or order m 0) s) r ≡ false =
      λ r d. same_unequal (row size (get_or order m 0) s) r (λ e. before_irreflexive r (rw e at (picked_before m up r d))) in
      rw (none (picked m) other, picked_distinct m (λ k h. up k (omega arith)))

  module _ (fits : n * size ≤ length s) (some : 2 ≤ n) (up : (k : ℕ) → k < n → Ascends size n s order k) where
    used : (k : ℕ) → k < n → get_or order k 0 < n
    used zero h = (step 0 (up 1 (omega arith))).0
    used (suc k) h = (step k (up (suc k) h)).1.0

    picked_used : (m : ℕ) → m ≤ n → (r : List ℕ) → Memᴰ r (picked m) → Memᴰ r (rows size n s)
    unfolding picked
    picked_used zero h r m = absurd (Memᴰ.not-nil m)
    picked_used (suc m) h r (Memᴰ.head e) = rw e (row_member size n (get_or order m 0) s fits (used m (omega arith)))
    picked_used (suc m) h r (Memᴰ.tail d) = picked_used m (omega arith) r d

    pub ascending_distinct : distinct same (rows size n s) ≡ true
    ascending_distinct =
        distinct_within texts (picked n) (rows size n s) (picked_distinct n up) (picked_used n (omega arith))
        (omega (arith, picked_count n, rows_count size n s fits))
