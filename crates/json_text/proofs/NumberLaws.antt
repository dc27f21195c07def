-- Laws of the digits of a number, one by one: the steps of the loop of `number_at` and what it ends in. Assumes nothing.
use Rattle.std.specs.Prelude.{Some, None}
use Prim.Native.Nat.{ℕ, ◌+◌, ◌-◌, ◌*◌, ◌≤◌, ◌<◌}
use native.Mathlib.Numerals.{add-one}
use native.Mathlib.Omega.{arith}
use mathlib.Core.Path.{◌≡◌, refl, sym, ap, ◌∙◌}
use mathlib.Core.Bool.{Bool, true, false, ◌&&◌, ◌||◌, not, and-true, and-false, or-true}
use mathlib.Core.List.{List, [], ◌∷◌}
use lib.Dec.{eqb}
use lib.ListN.{length, get_or, drop, length-drop, drop_of_length-le}
use lib.Seq.{drop-cons}
use borrow.Author.Tests.{eq-eqb, ne_eqb, le-leb, lt-leb}
use Rattle.text.proofs.Laws.{isnt}
use Rattle.json_text.specs.Utf8.{between}
use Rattle.json_text.specs.Json.{digits, decimal, plain_number, number_at}
use Rattle.json_text.proofs.ScanLaws.{digits_at, digits_all, plain_some}
use Rattle.json_text.proofs.Utf8Laws.{within_told}

pub digits_past : (line : List ℕ) (i : ℕ) → length line ≤ i → digits_at line i ≡ []
unfolding digits
digits_past line i h = rw (drop_of_length-le line {i = i} h)

pub digits_other : (line : List ℕ) (i : ℕ) → i < length line → between 0x30 0x39 (get_or line i 0) ≡ false → digits_at line i ≡ []
unfolding digits
digits_other line i h e = rw (drop-cons line i 0 h, e)

digits_here : (line : List ℕ) (i : ℕ) → i < length line → between 0x30 0x39 (get_or line i 0) ≡ true
    → digits_at line i ≡ (get_or line i 0 - 0x30) ∷ digits_at line (i + 1)
unfolding digits
digits_here line i h e = rw (add-one, drop-cons line i 0 h, e)

-- more digits don't make a number less
decimal_grows : (high : ℕ) (ds : List ℕ) → high ≤ decimal high ds
unfolding decimal
decimal_grows high [] = omega arith
decimal_grows high (d ∷ ds) = omega (arith, decimal_grows (high * 10 + d) ds)

abbrev largest : ℕ
largest = 18446744073709551615

-- of a number that is small enough, its first digit decides; another is not plain
plain_by : (ds : List ℕ) {one zero : Bool} → decimal 0 ds ≤ largest → eqb (length ds) 1 ≡ one → eqb (get_or ds 0 0) 0 ≡ zero → plain_number ds ≡ (one || not zero)
unfolding plain_number
plain_by ds {one} {zero} h o z = (λ i. (o i || not (z i)) && le-leb (decimal 0 ds) largest h i) ∙ and-true (one || not zero)

plain_over : (ds : List ℕ) → largest < decimal 0 ds → plain_number ds ≡ false
unfolding plain_number
plain_over ds h = rw (lt-leb (decimal 0 ds) largest h) (and-false (eqb (length ds) 1 || not (eqb (get_or ds 0 0) 0)))

module _ (line : List ℕ) (at : ℕ) where
  number_bad : plain_number (digits_at line at) ≡ false → None ≡ (number_at line at)
  unfolding number_at
  number_bad e = rw e

  number_good : (v i : ℕ) → plain_number (digits_at line at) ≡ true → v ≡ decimal 0 (digits_at line at) → i ≡ at + length (digits_at line at)
      → (Some (record { value = v; next = i })) ≡ (number_at line at)
  unfolding number_at
  number_good v i e p q = rw e (λ k. Some (record { value = (p k); next = (q k) }))

  -- the first of some digits
  first_digit : 0 < length (digits_at line at) → (0x30 ≤ get_or line at 0) × (get_or (digits_at line at) 0 0 ≡ get_or line at 0 - 0x30)
  first_digit h = within (omega (arith, digits_all (drop at line), length-drop at line))
    where
      within : at < length line → (0x30 ≤ get_or line at 0) × (get_or (digits_at line at) 0 0 ≡ get_or line at 0 - 0x30)
      within k = by (between 0x30 0x39 (get_or line at 0)) refl
        where
          by : (b : Bool) → between 0x30 0x39 (get_or line at 0) ≡ b → (0x30 ≤ get_or line at 0) × (get_or (digits_at line at) 0 0 ≡ get_or line at 0 - 0x30)
          by true e = ((within_told 0x30 0x39 (get_or line at 0) e).0, ap (λ (ds : List ℕ). get_or ds 0 0) (digits_here line at k e))
          by false e = absurd (omega (arith, ap length (digits_other line at k e)))

-- the digits from `at` to `i` write `v`, which is small enough; what the digits from `at` on write, those from `i` on write behind `v`
pub record Reading (line : List ℕ) (at v i : ℕ) : Type 0 where
  pub from : at ≤ i
  pub room : i - at ≤ length line - at
  pub small : v ≤ largest
  pub value : decimal v (digits_at line i) ≡ decimal 0 (digits_at line at)
  pub count : i + length (digits_at line i) ≡ at + length (digits_at line at)

pub reading_none : (line : List ℕ) (at : ℕ) → Reading line at 0 at
reading_none line at = record { from = omega arith; room = omega arith; small = omega arith; value = refl; count = refl }

module _ (line : List ℕ) (at v i : ℕ) (r : Reading line at v i) where
  abbrev next : ℕ
  next = v * 10 + (get_or line i 0 - 0x30)

  -- a digit more
  module _ (h : i < length line) (e : between 0x30 0x39 (get_or line i 0) ≡ true) where
    value_more : decimal next (digits_at line (i + 1)) ≡ decimal 0 (digits_at line at)
    unfolding decimal
    value_more = ap (decimal v) (sym (digits_here line i h e)) ∙ r.value

    pub reading_more : next ≤ largest → Reading line at next (i + 1)
    reading_more k =
        record {
          from = omega arith;
          room = omega arith;
          small = k;
          value = value_more;
          count = omega (arith, ap length (digits_here line i h e));
        }

    -- which is too much
    pub reading_over : largest < next → None ≡ (number_at line at)
    reading_over k =
        number_bad line at (plain_over (digits_at line at) (omega (arith, value_more, decimal_grows next (digits_at line (i + 1)))))

  -- no digit more
  module _ (e : digits_at line i ≡ []) where
    reading_value : v ≡ decimal 0 (digits_at line at)
    unfolding decimal
    reading_value = ap (decimal v) (sym e) ∙ r.value

    reading_count : i ≡ at + length (digits_at line at)
    reading_count = omega (arith, ap length e)

    pub reading_nothing : i ≡ at → None ≡ (number_at line at)
    reading_nothing k =
        number_bad line at (isnt (plain_number (digits_at line at)) (λ p. omega (arith, reading_count, plain_some (digits_at line at) p)))

    -- by its first digit, where there is one
    module _ (k : i ≡ at → ⊥) where
      first : (0x30 ≤ get_or line at 0) × (get_or (digits_at line at) 0 0 ≡ get_or line at 0 - 0x30)
      first = first_digit line at (omega (arith, reading_count))

      plain : {one zero : Bool} → eqb (length (digits_at line at)) 1 ≡ one → eqb (get_or (digits_at line at) 0 0) 0 ≡ zero
          → plain_number (digits_at line at) ≡ (one || not zero)
      plain = plain_by (digits_at line at) (omega (arith, reading_value))

      -- a zero in front of others, a digit alone, another digit in front
      pub reading_zeros : get_or line at 0 ≡ 0x30 → (i - at ≡ 1 → ⊥) → None ≡ (number_at line at)
      reading_zeros z m = number_bad line at (plain (ne_eqb (length (digits_at line at)) 1 (λ l. m (omega (arith, reading_count)))) (eq-eqb _ 0 (first.1 ∙ ap (λ (b : ℕ). b - 0x30) z)))

      pub reading_one : i - at ≡ 1 → (Some (record { value = v; next = i })) ≡ (number_at line at)
      reading_one m = number_good line at v i (plain (eq-eqb (length (digits_at line at)) 1 (omega (arith, reading_count))) refl) reading_value reading_count

      pub reading_other : (get_or line at 0 ≡ 0x30 → ⊥) → (Some (record { value = v; next = i })) ≡ (number_at line at)
      reading_other z =
          number_good line at v i
          (plain refl (ne_eqb (get_or (digits_at line at) 0 0) 0 (λ d. z (omega (arith, first)))) ∙ or-true (eqb (length (digits_at line at)) 1))
          reading_value
          reading_count
