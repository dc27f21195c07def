-- Laws of `specs/Bytes.antt`: the step of each loop over plain lists and indices, and what numbers and zero bytes mean.
-- Assumes nothing.
use Prim.Native.Nat.{ℕ, zero, suc, ◌+◌, ◌-◌, ◌*◌, ◌/◌, ◌%◌, ◌≤◌, ◌<◌, min}
use mathlib.Core.Path.{◌≡◌, refl, sym, ap, ◌∙◌}
use mathlib.Core.Bool.{Bool, true, false, ◌&&◌, and-true, and-false, and_assoc}
use mathlib.Core.List.{List, [], ◌∷◌, ◌++◌}
use native.Mathlib.Nat.{mul-zero, div-add-mod', le-div_iff_mul-le, div-lt_iff_lt-mul}
use native.Mathlib.Omega.{arith}
use borrow.Author.Tests.{eqb-true, le-leb, lt-leb, leb-true, leb-false}
use lib.Dec.{eqb, leb}
use lib.ListN.{length, take, drop, get_or, replicate, take-append-drop, length-drop, drop_of_length-le, get_or-eq_default}
use lib.Seq.{drop-drop, length-take-le}
use borrow.Rule.Slice.PartMut.{put_mid}
use Rattle.std.specs.Int.{to_le_bytes, from_le_bytes, w16}
use Rattle.text.proofs.Laws.{and_split}
use Rattle.table.specs.Bytes.{u16, number, zeros, cleared, row_at}

-- ---- zero bytes

pub zeros-snoc : (s : List ℕ) (b : ℕ) → zeros (s ++ (b ∷ [])) ≡ (zeros s && eqb b 0)
unfolding zeros
zeros-snoc [] b = and-true (eqb b 0)
zeros-snoc (a ∷ s) b = ap (λ (r : Bool). eqb a 0 && r) (zeros-snoc s b) ∙ sym (and_assoc (eqb a 0) (zeros s) (eqb b 0))

-- a front and the rest
pub zeros_split : (n : ℕ) (s : List ℕ) → zeros s ≡ (zeros (take n s) && zeros (drop n s))
unfolding zeros
zeros_split zero s = refl
zeros_split (suc n) [] = refl
zeros_split (suc n) (b ∷ s) = ap (λ (r : Bool). eqb b 0 && r) (zeros_split n s) ∙ sym (and_assoc (eqb b 0) (zeros (take n s)) (zeros (drop n s)))

-- so the bytes from an earlier place on tell as much
pub zeros_overlap : (front : Bool) (s : List ℕ) (j i : ℕ) → j ≤ i → (front && zeros (drop i s)) ≡ zeros s → (front && zeros (drop j s)) ≡ zeros s
zeros_overlap front s j i h e = at (zeros (drop j s)) refl
  where
    at : (b : Bool) → zeros (drop j s) ≡ b → (front && b) ≡ zeros s
    at true k =
        let same : j + (i - j) ≡ i = omega arith in
        let later = (and_split (zeros (take (i - j) (drop j s))) _ (sym (zeros_split (i - j) (drop j s)) ∙ k)).1 in
        rw (rw (drop-drop, same) at later) at e
    at false k = and-false front ∙ sym (zeros_split j s ∙ (ap (λ (b : Bool). zeros (take j s) && b) k ∙ and-false (zeros (take j s))))

-- a stretch of the bytes
pub zeros_stretch : (front : Bool) (s : List ℕ) (i n : ℕ) → (front && zeros (take n (drop i s)) && zeros (drop (i + n) s)) ≡ (front && zeros (drop i s))
zeros_stretch front s i n =
    and_assoc front (zeros (take n (drop i s))) (zeros (drop (i + n) s))
    ∙ ap (λ (r : Bool). front && r) (ap (λ (t : List ℕ). zeros (take n (drop i s)) && zeros t) (sym (drop-drop n i s)) ∙ sym (zeros_split n (drop i s)))

-- zero bytes are a run of zeros
pub zeros_replicate : (n : ℕ) → zeros (replicate n 0) ≡ true
unfolding zeros
zeros_replicate zero = refl
zeros_replicate (suc n) = zeros_replicate n

pub zeros_true : (s : List ℕ) → zeros s ≡ true → s ≡ replicate (length s) 0
unfolding zeros
zeros_true [] e = refl
zeros_true (b ∷ s) e =
    let h = and_split (eqb b 0) _ e in
    let first = eqb-true b 0 h.0 in
    let others = zeros_true s h.1 in
    cc

-- ---- clearing

-- what is cleared; nothing is where the list does not have the bytes, or there are none
pub cleared_fits : (from to : ℕ) (s : List ℕ) → from ≤ to → to ≤ length s → cleared from to s ≡ take from s ++ (replicate (to - from) 0 ++ drop to s)
unfolding cleared
cleared_fits from to s h k = rw (le-leb from to h, le-leb to (length s) k)

pub cleared_not : (from to : ℕ) (s : List ℕ) → length s < to → cleared from to s ≡ s
unfolding cleared
cleared_not from to s h = rw (lt-leb to (length s) h, and-false)

pub cleared_before : (from to : ℕ) (s : List ℕ) → to < from → cleared from to s ≡ s
unfolding cleared
cleared_before from to s h = rw (lt-leb from to h)

-- the part written as zeros
pub cleared_part : (from to : ℕ) (s : List ℕ) → from ≤ to → to ≤ length s → cleared from to s ≡ put_mid from (to - from) s (replicate (length (take (to - from) (drop from s))) 0)
cleared_part from to s h k =
    let place : from + (to - from) ≡ to = omega arith in
    let left = length-drop from s in
    rw (cleared_fits from to s h k, length-take-le (to - from) (drop from s) (omega arith), drop-drop (to - from) from s, place) refl

-- ---- moving a row

-- a row that is moved to where it is
pub moved_here : (s : List ℕ) (at size : ℕ) → take at s ++ (take size (drop at s) ++ drop (at + size) s) ≡ s
moved_here s at size = rw (← drop-drop size at s, take-append-drop size (drop at s)) (take-append-drop at s)

-- ---- numbers

-- where there are no bytes, and of a part, by how many it has
pub number_missing : (s : List ℕ) (at : ℕ) → length s ≤ at → number (drop at s) ≡ 0
unfolding number
number_missing s at h = rw (drop_of_length-le s h)

pub number_short : (s : List ℕ) → length s < 2 → number s ≡ get_or s 0 0
unfolding number
number_short s h = let high : get_or s 1 0 ≡ 0 = get_or-eq_default s 0 (omega arith) in rw high (omega arith)

pub number_bytes : (s : List ℕ) → from_le_bytes w16 (get_or s 0 0 ∷ get_or s 1 0 ∷ []) ≡ number s
unfolding number
number_bytes s = omega arith

-- as the library writes it
pub u16_bytes : (n : ℕ) → n < 65536 → to_le_bytes w16 n ≡ u16 n
unfolding u16
u16_bytes n h = let high : n / 256 % 256 ≡ n / 256 = omega arith in ap (λ (b : ℕ). n % 256 ∷ b ∷ []) high

-- ---- rows

-- so many rows lie in a table of `n` bytes
pub rows_fit : (size used n : ℕ) → 0 < size → used ≤ n / size → used * size ≤ n
rows_fit size used n h k = (le-div_iff_mul-le h).0 k

-- a row of a number below that of the table's whole rows lies in the table, and no other does
pub row_fits : (size i n : ℕ) → 0 < size → i < n / size → i * size + size ≤ n
row_fits size i n h k =
    let whole = rows_fit size (i + 1) n h (omega arith) in
    omega arith

pub row_not : (size i n : ℕ) → 0 < size → n / size ≤ i → n < i * size + size
row_not size i n h k =
    let whole : n < (i + 1) * size = (div-lt_iff_lt-mul h).0 (omega arith) in
    omega arith

pub row_at_whole : (size i : ℕ) (s : List ℕ) → i * size + size ≤ length s → row_at size i s ≡ take size (drop (i * size) s)
unfolding row_at
row_at_whole size i s h = rw (le-leb (i * size + size) (length s) h)

pub row_at_not : (size i : ℕ) (s : List ℕ) → length s < i * size + size → row_at size i s ≡ []
unfolding row_at
row_at_not size i s h = rw (lt-leb (i * size + size) (length s) h)

-- rows of no bytes
pub row_at_none : (i : ℕ) (s : List ℕ) → row_at 0 i s ≡ []
row_at_none i s = row_at_whole 0 i s (rw (mul-zero i) (omega arith))

-- a place beyond the end of any list is as good as one still further
pub cleared_bounded : (from to most : ℕ) (s : List ℕ) → length s < most → cleared (min from most) (min to most) s ≡ cleared from to s
cleared_bounded from to most s h = at (leb to (length s)) (leb from to) refl refl
  where
    at : (b d : Bool) → leb to (length s) ≡ b → leb from to ≡ d → cleared (min from most) (min to most) s ≡ cleared from to s
    at true true e f =
        let within = leb-true to (length s) e in
        let before = leb-true from to f in
        let last : min to most ≡ to = omega arith in
        let first : min from most ≡ from = omega arith in
        rw (last, first) refl
    at true false e f =
        let within = leb-true to (length s) e in
        let behind = leb-false from to f in
        cleared_before (min from most) (min to most) s (omega arith) ∙ sym (cleared_before from to s behind)
    at false d e f =
        let beyond = leb-false to (length s) e in
        cleared_not (min from most) (min to most) s (omega arith) ∙ sym (cleared_not from to s beyond)

-- what `u16` writes, `number` reads
pub number-u16 : (n : ℕ) (rest : List ℕ) → number (u16 n ++ rest) ≡ n
unfolding number u16
number-u16 n rest = div-add-mod' n 256
