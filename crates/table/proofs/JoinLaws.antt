-- Laws of `rows` and `join` of `specs/Bytes.antt`: a table's rows joined are its bytes, and joined rows are read back. Assumes nothing.
use Prim.Native.Nat.{ℕ, zero, suc, ◌+◌, ◌*◌, ◌/◌, ◌%◌, ◌≤◌, ◌<◌}
use mathlib.Core.Path.{◌≡◌, refl, sym, ap}
use mathlib.Core.Bool.{Bool, true, false, cond}
use mathlib.Core.List.Memᴰ
use mathlib.Core.List.{List, [], ◌∷◌, ◌++◌, append_assoc, Memᴰ}
use native.Mathlib.Nat.{zero-mul}
use native.Mathlib.Omega.{arith}
use borrow.Author.Tests.{le-leb, leb-true}
use lib.Dec.{leb}
use lib.ListN.{length, take, drop, get_or, length-append, length-drop}
use lib.Seq.{take-add, take_at, drop_at, length-take-le, get_or-drop}
use Rattle.table.specs.Bytes.{u16, number, rows, join}

-- the elements are bytes
abbrev pub Bytes : List ℕ → Type 0
Bytes s = (i : ℕ) → get_or s i 0 < 256

pub bytes_drop : (n : ℕ) (s : List ℕ) → Bytes s → Bytes (drop n s)
bytes_drop n s h i = omega (arith, get_or-drop n s i 0, h (n + i))

pub bytes_take : (n : ℕ) (s : List ℕ) → Bytes s → Bytes (take n s)
bytes_take zero s h i = omega arith
bytes_take (suc n) [] h i = h i
bytes_take (suc n) (b ∷ s) h zero = h zero
bytes_take (suc n) (b ∷ s) h (suc i) = bytes_take n s (λ j. h (suc j)) i

pub bytes_part : (at n : ℕ) (s : List ℕ) → Bytes s → Bytes (take n (drop at s))
bytes_part at n s h = bytes_take n (drop at s) (bytes_drop at s h)

module _ (size : ℕ) where
  pub rows_count : (n : ℕ) (s : List ℕ) → n * size ≤ length s → length (rows size n s) ≡ n
  unfolding rows
  rows_count zero s h = refl
  rows_count (suc n) s h =
      rw (le-leb size (length s) (omega arith)) (ap suc (rows_count n (drop size s) (omega (arith, length-drop size s))))

  pub rows_joined : (n : ℕ) (s : List ℕ) → n * size ≤ length s → join (rows size n s) ≡ take (n * size) s
  unfolding rows join
  rows_joined zero s h = rw (zero-mul size)
  rows_joined (suc n) s h =
      let more : suc n * size ≡ size + n * size = omega arith in
      rw (le-leb size (length s) (omega arith), rows_joined n (drop size s) (omega (arith, length-drop size s)), more) (sym (take-add size (n * size) s))

  -- each has the size, and is of bytes where the table is
  pub row_sized : (n : ℕ) (s b : List ℕ) → Memᴰ b (rows size n s) → length b ≡ size
  unfolding rows
  row_sized zero s b m = absurd (Memᴰ.not-nil m)
  row_sized (suc n) s b m = at (leb size (length s)) refl m (row_sized n (drop size s) b)
    where
      at : (t : Bool) → leb size (length s) ≡ t → Memᴰ b (cond t (take size s ∷ rows size n (drop size s)) [])
          → (Memᴰ b (rows size n (drop size s)) → length b ≡ size) → length b ≡ size
      at true e (Memᴰ.head q) f = rw q (length-take-le size s (leb-true _ _ e))
      at true e (Memᴰ.tail m) f = f m
      at false e m f = absurd (Memᴰ.not-nil m)

  pub row_bytes : (n : ℕ) (s b : List ℕ) → Bytes s → Memᴰ b (rows size n s) → Bytes b
  unfolding rows
  row_bytes zero s b h m = absurd (Memᴰ.not-nil m)
  row_bytes (suc n) s b h m = at (leb size (length s)) m (row_bytes n (drop size s) b (bytes_drop size s h))
    where
      at : (t : Bool) → Memᴰ b (cond t (take size s ∷ rows size n (drop size s)) [])
          → (Memᴰ b (rows size n (drop size s)) → Bytes b) → Bytes b
      at true (Memᴰ.head q) f = rw q (bytes_take size s h)
      at true (Memᴰ.tail m) f = f m
      at false m f = absurd (Memᴰ.not-nil m)

  -- rows of the size
  abbrev pub Sized : List (List ℕ) → Type 0
  Sized rs = (b : List ℕ) → Memᴰ b rs → length b ≡ size

  pub joined_length : (rs : List (List ℕ)) → Sized rs → length (join rs) ≡ length rs * size
  unfolding join
  joined_length [] h = omega arith
  joined_length (b ∷ rs) h =
      rw (length-append b (join rs), h b (Memᴰ.head refl), joined_length rs (λ t m. h t (Memᴰ.tail m))) (omega arith)

  pub joined_rows : (rs : List (List ℕ)) (rest : List ℕ) → Sized rs → rows size (length rs) (join rs ++ rest) ≡ rs
  unfolding rows join
  joined_rows [] rest h = refl
  joined_rows (b ∷ rs) rest h =
      let first = h b (Memᴰ.head refl) in
      let there : size ≤ length (b ++ (join rs ++ rest)) = omega (arith, length-append b (join rs ++ rest)) in
      rw (
        append_assoc b (join rs) rest,
        le-leb size _ there,
        take_at b (join rs ++ rest) size first,
        drop_at b (join rs ++ rest) size first,
        joined_rows rs rest (λ t m. h t (Memᴰ.tail m)),
      )

-- the two bytes of the number that two bytes say
pub u16_number : (s : List ℕ) → 2 ≤ length s → get_or s 0 0 < 256 → u16 (number s) ≡ take 2 s
unfolding u16 number
u16_number [] h k = absurd (omega arith)
u16_number (a ∷ []) h k = absurd (omega arith)
u16_number (a ∷ b ∷ s) h k =
    let low : (b * 256 + a) % 256 ≡ a = omega arith in
    let high : (b * 256 + a) / 256 ≡ b = omega arith in
    rw (low, high)
