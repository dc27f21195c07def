-- The rows of a table as `chunks_exact` gives them. Assumes nothing.
use Prim.Native.Nat.{ℕ, zero, suc, ◌+◌, ◌*◌, ◌≤◌, ◌<◌}
use mathlib.Core.Path.{◌≡◌, refl, sym, ap, subst, ◌∙◌}
use mathlib.Core.Bool.{Bool, true, false, ◌||◌, cond}
use mathlib.Core.List.{List, [], ◌∷◌, ◌++◌}
use native.Mathlib.Nat.{mul-le-mul_right, mul_comm}
use native.Mathlib.Omega.{arith}
use borrow.Author.Tests.{leb-true, leb-false, lt-leb}
use lib.Dec.{leb}
use lib.ListN.{length, take, drop, length-append, length-drop}
use lib.Seq.{take_at, drop_at}
use Rattle.std.specs.Iterator.{AlwaysYields}
use Rattle.std.specs.List.{list_any}
use Rattle.std.specs.declared.slice.ChunksExact.{ChunksExact}
use Rattle.std.specs.Slice.Iter.{chunks_exact_rest, chunks_exact_size, chunks_exact_steps}
use Rattle.std.proofs.lemmas.Iterator.{YieldsList}
use Rattle.table.specs.Table.{some_row}
use Rattle.table.specs.Bytes.{rows}

-- a chunk that comes is the first row, and what is left are the rows behind it
chunk_first : (size : ℕ) (s t x : List ℕ) → s ≡ x ++ t → length x ≡ size → (size ≤ length s) × (x ≡ take size s) × (t ≡ drop size s)
chunk_first size s t x e l = (omega (arith, ap length e, length-append x t), rw e (sym (take_at x t size l)), rw e (sym (drop_at x t size l)))

-- the chunks of a size are the rows: any number of these, if one row more wouldn't fit
rows_come : (size n : ℕ) (s : ChunksExact ℕ) → chunks_exact_size s ≡ size → length (chunks_exact_rest s) < n * size + size
    → AlwaysYields chunks_exact_steps (λ x. x.now) s (rows size n (chunks_exact_rest s))
unfolding rows
rows_come size zero s e h = λ x j p. let c = chunk_first size _ _ _ p.1.0 (p.1.1 ∙ e) in absurd (omega (arith, c.0))
rows_come size (suc n) s e h = at (leb size (length (chunks_exact_rest s))) refl (rows_come size n)
  where
    at : (b : Bool) → leb size (length (chunks_exact_rest s)) ≡ b
        → ((t : ChunksExact ℕ) → chunks_exact_size t ≡ size → length (chunks_exact_rest t) < n * size + size
        → AlwaysYields chunks_exact_steps (λ x. x.now) t (rows size n (chunks_exact_rest t)))
        → AlwaysYields chunks_exact_steps (λ x. x.now) s (cond b (take size (chunks_exact_rest s) ∷ rows size n (drop size (chunks_exact_rest s))) [])
    at true q f = (
      λ j p. absurd (omega (arith, p.1.0, e, leb-true _ _ q)),
      λ x j p.
          let c = chunk_first size _ _ _ p.1.0 (p.1.1 ∙ e) in
          let left = length-drop size (chunks_exact_rest s) in
          (c.1, subst (λ (r : List ℕ). AlwaysYields chunks_exact_steps (λ x. x.now) j (rows size n r)) c.2 (f j (p.0 ∙ e) (omega (arith, ap length c.2, c.0)))),
    )
    at false q f = λ x j p. let c = chunk_first size _ _ _ p.1.0 (p.1.1 ∙ e) in absurd (omega (arith, c.0, leb-false _ _ q))

pub YieldsList-from_rows : {s : ChunksExact ℕ} (size n : ℕ) (table : List ℕ) → chunks_exact_rest s ≡ table → chunks_exact_size s ≡ size
    → length table < n * size + size → YieldsList chunks_exact_steps (λ x. x.now) s (rows size n table)
YieldsList-from_rows {s} size n table r e h = record { runs = subst (λ (t : List ℕ). AlwaysYields chunks_exact_steps (λ x. x.now) s (rows size n t)) r (rows_come size n s e (rw r h)) }

-- the first rows of as many as there are
pub take-rows : (size m n : ℕ) (s : List ℕ) → length s < n * size + size → take m (rows size n s) ≡ rows size m s
unfolding rows
take-rows size zero n s h = refl
take-rows size (suc m) zero s h = rw (lt-leb size (length s) (omega arith))
take-rows size (suc m) (suc n) s h = at (leb size (length s)) refl (λ k. take-rows size m n (drop size s) k)
  where
    at : (b : Bool) → leb size (length s) ≡ b → (length (drop size s) < n * size + size → take m (rows size n (drop size s)) ≡ rows size m (drop size s))
        → take (suc m) (cond b (take size s ∷ rows size n (drop size s)) []) ≡ cond b (take size s ∷ rows size m (drop size s)) []
    at true e f = let whole = leb-true size (length s) e in ap (λ (r : List (List ℕ)). take size s ∷ r) (f (omega (arith, length-drop size s)))
    at false e f = refl

-- more rows than there are bytes
pub rows_bound : (size : ℕ) (s : List ℕ) → 0 < size → length s < length s * size + size
rows_bound size s h = omega (arith, mul-le-mul_right (length s) h, mul_comm size (length s))

pub some_row-any : (test : List ℕ → Bool) (rs : List (List ℕ)) → list_any test rs ≡ some_row test rs
unfolding some_row
some_row-any test [] = refl
some_row-any test (r ∷ rs) = ap (λ (b : Bool). test r || b) (some_row-any test rs)
