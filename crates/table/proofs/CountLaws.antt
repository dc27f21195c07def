-- A law of `distinct` (`specs/Table.antt`) by counting: as many rows as a table has, no two equal and each one of the table's, leave no room
-- for two equal ones in the table. Assumes nothing.
use Prim.Native.Nat.{suc, ◌≤◌}
use mathlib.Core.Path.{◌≡◌, refl, sym, ap, ◌∙◌}
use mathlib.Core.Bool.{Bool, true, false, ◌&&◌, not, true≢false}
use mathlib.Core.List.{List, [], ◌∷◌, Memᴰ}
use native.Mathlib.Omega.{arith}
use borrow.Author.Tests.{not-true}
use lib.ListN.{length}
use Rattle.text.proofs.Laws.{and_split}
use Rattle.table.specs.Table.{some_row, distinct}
use Rattle.table.proofs.TableLaws.{Equals, none_at, member}

module _ {Row : Type 0} where
  -- a list without one place of a row: it is shorter by one, and holds every other row that the list holds
  record Without (r : Row) (rows : List Row) : Type 0 where
    rest : List Row
    shorter : length rows ≡ suc (length rest)
    others : (t : Row) → Memᴰ t rows → (t ≡ r → ⊥) → Memᴰ t rest

  without : {r : Row} {rows : List Row} → Memᴰ r rows → Without r rows
  without {r} (Memᴰ.head {x = b} {xs = l} e) = record { rest = l; shorter = refl; others = away }
    where
      away : (t : Row) → Memᴰ t (b ∷ l) → (t ≡ r → ⊥) → Memᴰ t l
      away t (Memᴰ.head q) n = absurd (n (q ∙ sym e))
      away t (Memᴰ.tail m) n = m
  without {r} (Memᴰ.tail {x = b} {xs = l} m) = after (without m)
    where
      after : Without r l → Without r (b ∷ l)
      after w = record { rest = b ∷ w.rest; shorter = ap suc w.shorter; others = away }
        where
          away : (t : Row) → Memᴰ t (b ∷ l) → (t ≡ r → ⊥) → Memᴰ t (b ∷ w.rest)
          away t (Memᴰ.head q) n = Memᴰ.head q
          away t (Memᴰ.tail m) n = Memᴰ.tail (w.others t m n)

  -- a shorter list that holds the same rows
  record Shorter (rows : List Row) : Type 0 where
    rest : List Row
    shorter : length rows ≡ suc (length rest)
    all : (t : Row) → Memᴰ t rows → Memᴰ t rest

module _ {Row : Type 0} {same : Row → Row → Bool} (E : Equals same) where
  open E use {agree, itself}

  -- rows of which no two are equal are no more than those among which they are
  distinct_fewer : (xs ys : List Row) → distinct same xs ≡ true → ((r : Row) → Memᴰ r xs → Memᴰ r ys) → length xs ≤ length ys
  unfolding distinct
  distinct_fewer [] ys d h = omega arith
  distinct_fewer (x ∷ xs) ys d h =
      let a = and_split (not (some_row (same x) xs)) (distinct same xs) d in
      let w = without (h x (Memᴰ.head refl)) in
      let other : (r : Row) → Memᴰ r xs → r ≡ x → ⊥ = λ r m e. true≢false (sym (itself x) ∙ ap (same x) (sym e) ∙ none_at (same x) (not-true _ a.0) m) in
      let fewer = distinct_fewer xs w.rest a.1 (λ r m. w.others r (h r (Memᴰ.tail m)) (other r m)) in
      omega (arith, w.shorter)

  -- of rows that hold an equal pair one can go
  repeated : (rows : List Row) → distinct same rows ≡ false → Shorter rows
  unfolding distinct
  repeated [] d = absurd (true≢false d)
  repeated (r ∷ rows) d = at (some_row (same r) rows) refl d (repeated rows)
    where
      at : (b : Bool) → some_row (same r) rows ≡ b → (not b && distinct same rows) ≡ false → (distinct same rows ≡ false → Shorter rows) → Shorter (r ∷ rows)
      at true e d f = record { rest = rows; shorter = refl; all = kept }
        where
          kept : (t : Row) → Memᴰ t (r ∷ rows) → Memᴰ t rows
          kept t (Memᴰ.head q) = rw q (member E r rows e)
          kept t (Memᴰ.tail m) = m
      at false e d f = after (f d)
        where
          after : Shorter rows → Shorter (r ∷ rows)
          after w = record { rest = r ∷ w.rest; shorter = ap suc w.shorter; all = kept }
            where
              kept : (t : Row) → Memᴰ t (r ∷ rows) → Memᴰ t (r ∷ w.rest)
              kept t (Memᴰ.head q) = Memᴰ.head q
              kept t (Memᴰ.tail m) = Memᴰ.tail (w.all t m)

  -- as many rows as a list has, no two equal and each one of the list's: then the list has no two equal ones
  pub distinct_within : (xs ys : List Row) → distinct same xs ≡ true → ((r : Row) → Memᴰ r xs → Memᴰ r ys) → length ys ≤ length xs → distinct same ys ≡ true
  distinct_within xs ys d h l = at (distinct same ys) refl
    where
      at : (b : Bool) → distinct same ys ≡ b → b ≡ true
      at true e = refl
      at false e =
          let w = repeated ys e in
          let fewer = distinct_fewer xs w.rest d (λ r m. w.all r (h r m)) in
          absurd (omega (arith, w.shorter))
