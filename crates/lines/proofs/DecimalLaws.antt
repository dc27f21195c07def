-- Laws of a number in decimal (`specs/Output.antt`): it is std's, which `itoa` writes, has at most 20 digits, and is read back as a JSON number.
-- Assumes nothing.
use Prim.Native.Nat.{ℕ, zero, suc, ◌+◌, ◌-◌, ◌*◌, ◌/◌, ◌%◌, ◌^◌, ◌≤◌, ◌<◌}
use native.Mathlib.Nat.{pow-suc, mod-lt, div-add-mod'}
use native.Mathlib.Omega.{arith}
use mathlib.Core.Path.{◌≡◌, refl, sym, ap, ◌∙◌}
use mathlib.Core.Bool.{Bool, true, false, ◌&&◌, ◌||◌, not, cond, or-true}
use mathlib.Core.List.{List, [], ◌∷◌, ◌++◌, append_assoc}
use Rattle.std.specs.Prelude.{Some}
use lib.Dec.{eqb, ltb}
use lib.ListN.{length, get_or, take, length-append}
use lib.Seq.{take_at}
use borrow.Author.Tests.{ltb-true, ltb-false, lt-ltb, le-ltb, le-leb, eqb-true, eqb-false, eq-eqb, ne_eqb}
use Rattle.std.specs.Fmt as std
use Rattle.std.proofs.lemmas.Fmt.{decimal_digit, decimal_step}
use Rattle.json_text.proofs.Utf8Laws.{within}
use Rattle.json_text.specs.Json as json
use Rattle.lines.specs.Output.{decimal_up_to, decimal}

-- ---- a number in decimal

-- one digit, and one more
up_to_one : (most n : ℕ) → n < 10 → decimal_up_to (suc most) n ≡ (48 + n) ∷ []
unfolding decimal_up_to
up_to_one most n h = rw (lt-ltb n 10 h)

up_to_more : (most n : ℕ) → 10 ≤ n → decimal_up_to (suc most) n ≡ decimal_up_to most (n / 10) ++ ((48 + n % 10) ∷ [])
unfolding decimal_up_to
up_to_more most n h = rw (le-ltb n 10 h)

-- it is std's, by its last digits
up_to_std : (most n : ℕ) → n < 10 ^ suc most → n < 18446744073709551616 → std.decimal n ≡ decimal_up_to (suc most) n
up_to_std zero n h wide =
    let small : n < 10 = omega arith in
    decimal_digit n small ∙ sym (up_to_one zero n small)
up_to_std (suc most) n h wide =
    by (ltb n 10) refl (up_to_std most (n / 10) (omega (arith, h, pow-suc 10 (suc most))) (omega arith))
  where
    by : (b : Bool) → ltb n 10 ≡ b → std.decimal (n / 10) ≡ decimal_up_to (suc most) (n / 10) → std.decimal n ≡ decimal_up_to (suc (suc most)) n
    by true q rest =
        let small = ltb-true n 10 q in
        decimal_digit n small ∙ sym (up_to_one (suc most) n small)
    by false q rest =
        let big = ltb-false n 10 q in
        decimal_step n big (omega arith) ∙ (ap (λ (ds : List ℕ). ds ++ ((48 + n % 10) ∷ [])) rest ∙ sym (up_to_more (suc most) n big))

pub std_decimal : (n : ℕ) → n < 18446744073709551616 → std.decimal n ≡ decimal n
unfolding decimal
std_decimal n h = up_to_std 19 n (omega arith) h

-- as `itoa` writes it to the end of 20 bytes
pub spelt : {n : ℕ} (start : ℕ) (written : List ℕ) → n < 18446744073709551616 → start + length (std.decimal n) ≡ 20 → written ≡ std.decimal n ++ []
    → take (20 - start) written ≡ decimal n
spelt {n} start written h place e =
    ap (take (20 - start)) e ∙ (take_at (std.decimal n) [] (20 - start) (omega arith) ∙ std_decimal n h)

-- ---- its length

up_to_length : (most n : ℕ) → length (decimal_up_to most n) ≤ most
unfolding decimal_up_to
up_to_length zero n = omega arith
up_to_length (suc most) n = by (ltb n 10) (up_to_length most (n / 10))
  where
    by : (b : Bool) → length (decimal_up_to most (n / 10)) ≤ most → length (cond b ((48 + n) ∷ []) (decimal_up_to most (n / 10) ++ ((48 + n % 10) ∷ []))) ≤ suc most
    by true h = omega arith
    by false h = omega (arith, length-append (decimal_up_to most (n / 10)) ((48 + n % 10) ∷ []))

pub decimal-length : (n : ℕ) → length (decimal n) ≤ 20
unfolding decimal
decimal-length n = up_to_length 20 n

-- ---- read back

-- a digit of a decimal is a digit of a JSON number
digit_read : (d : ℕ) (rest : List ℕ) → d < 10 → json.digits ((48 + d) ∷ rest) ≡ d ∷ json.digits rest
unfolding json.digits
digit_read d rest h =
    let back : 48 + d - 48 ≡ d = omega arith in
    rw (within 48 57 (48 + d) (omega arith) (omega arith), back)

read_one : (high d : ℕ) (rest : List ℕ) → d < 10 → json.decimal high (json.digits ((48 + d) ∷ rest)) ≡ json.decimal (high * 10 + d) (json.digits rest)
unfolding json.decimal
read_one high d rest h = ap (json.decimal high) (digit_read d rest h)

read_on_lem : (most n : ℕ) (rest : List ℕ) → n < 10 ^ most
    → json.decimal 0 (json.digits (decimal_up_to most n ++ rest)) ≡ json.decimal n (json.digits rest)
unfolding decimal_up_to
read_on_lem zero n rest h = let none : 0 ≡ n = omega arith in ap (λ (k : ℕ). json.decimal k (json.digits rest)) none
read_on_lem (suc most) n rest h =
    by (ltb n 10) refl (read_on_lem most (n / 10) ((48 + n % 10) ∷ rest) (omega (arith, h, pow-suc 10 most)))
  where
    by : (b : Bool) → ltb n 10 ≡ b
        → json.decimal 0 (json.digits (decimal_up_to most (n / 10) ++ ((48 + n % 10) ∷ rest))) ≡ json.decimal (n / 10) (json.digits ((48 + n % 10) ∷ rest))
        → json.decimal 0 (json.digits (decimal_up_to (suc most) n ++ rest)) ≡ json.decimal n (json.digits rest)
    by true q ih =
        let small = ltb-true n 10 q in
        let only : 0 * 10 + n ≡ n = omega arith in
        ap (λ (s : List ℕ). json.decimal 0 (json.digits (s ++ rest))) (up_to_one most n small) ∙
        (read_one 0 n rest small ∙ ap (λ (k : ℕ). json.decimal k (json.digits rest)) only)
    by false q ih =
        let all : n / 10 * 10 + n % 10 ≡ n = div-add-mod' n 10 in
        ap (λ (s : List ℕ). json.decimal 0 (json.digits (s ++ rest))) (up_to_more most n (ltb-false n 10 q)) ∙
        (ap (λ (s : List ℕ). json.decimal 0 (json.digits s)) (append_assoc (decimal_up_to most (n / 10)) ((48 + n % 10) ∷ []) rest) ∙
        (ih ∙ (read_one (n / 10) (n % 10) rest (mod-lt n (omega arith)) ∙ ap (λ (k : ℕ). json.decimal k (json.digits rest)) all)))

-- a reader of JSON numbers reads the number back, whatever stands behind it but a digit
pub decimal_read : (n : ℕ) (rest : List ℕ) → n < 10 ^ 20 → json.digits rest ≡ [] → json.decimal 0 (json.digits (decimal n ++ rest)) ≡ n
unfolding decimal json.decimal
decimal_read n rest h e = read_on_lem 20 n rest h ∙ ap (json.decimal n) e

-- the digits are all of it, and none is a leading zero
digits_all : (most n : ℕ) (rest : List ℕ) → length (json.digits (decimal_up_to most n ++ rest)) ≡ length (decimal_up_to most n) + length (json.digits rest)
unfolding decimal_up_to
digits_all zero n rest = omega arith
digits_all (suc most) n rest = by (ltb n 10) refl (digits_all most (n / 10) ((48 + n % 10) ∷ rest))
  where
    by : (b : Bool) → ltb n 10 ≡ b
        → length (json.digits (decimal_up_to most (n / 10) ++ ((48 + n % 10) ∷ rest))) ≡ length (decimal_up_to most (n / 10)) + length (json.digits ((48 + n % 10) ∷ rest))
        → length (json.digits (decimal_up_to (suc most) n ++ rest)) ≡ length (decimal_up_to (suc most) n) + length (json.digits rest)
    by true q ih =
        let small = ltb-true n 10 q in
        rw (up_to_one most n small) (omega (arith, ap length (digit_read n rest small)))
    by false q ih =
        let last : n % 10 < 10 = mod-lt n (omega arith) in
        rw (up_to_more most n (ltb-false n 10 q), append_assoc (decimal_up_to most (n / 10)) ((48 + n % 10) ∷ []) rest)
        (omega (arith, ih, ap length (digit_read (n % 10) rest last), length-append (decimal_up_to most (n / 10)) ((48 + n % 10) ∷ [])))

first_digit : (most n : ℕ) (rest : List ℕ) → 0 < n → n < 10 ^ most → eqb (get_or (json.digits (decimal_up_to most n ++ rest)) 0 0) 0 ≡ false
first_digit zero n rest any h = absurd (omega arith)
first_digit (suc most) n rest any h =
    by (ltb n 10) refl (λ big. first_digit most (n / 10) ((48 + n % 10) ∷ rest) (omega arith) (omega (arith, h, pow-suc 10 most)))
  where
    by : (b : Bool) → ltb n 10 ≡ b → (10 ≤ n → eqb (get_or (json.digits (decimal_up_to most (n / 10) ++ ((48 + n % 10) ∷ rest))) 0 0) 0 ≡ false)
        → eqb (get_or (json.digits (decimal_up_to (suc most) n ++ rest)) 0 0) 0 ≡ false
    by true q ih =
        let small = ltb-true n 10 q in
        ap (λ (s : List ℕ). eqb (get_or (json.digits (s ++ rest)) 0 0) 0) (up_to_one most n small) ∙
        (ap (λ (ds : List ℕ). eqb (get_or ds 0 0) 0) (digit_read n rest small) ∙ ne_eqb n 0 (λ e. omega arith))
    by false q ih =
        let big = ltb-false n 10 q in
        ap (λ (s : List ℕ). eqb (get_or (json.digits (s ++ rest)) 0 0) 0) (up_to_more most n big) ∙
        (ap (λ (s : List ℕ). eqb (get_or (json.digits s) 0 0) 0) (append_assoc (decimal_up_to most (n / 10)) ((48 + n % 10) ∷ []) rest) ∙ ih big)

-- so a decimal of up to 64 bits is a JSON number, which is read back
module _ (n : ℕ) (rest : List ℕ) (h : n < 18446744073709551616) (e : json.digits rest ≡ []) where
  abbrev read : List ℕ
  read = json.digits (decimal n ++ rest)

  read_value : json.decimal 0 read ≡ n
  read_value = decimal_read n rest (omega arith) e

  read_length : length read ≡ length (decimal n)
  unfolding decimal
  read_length = omega (arith, digits_all 20 n rest, ap length e)

  read_first : (eqb (length read) 1 || not (eqb (get_or read 0 0) 0)) ≡ true
  unfolding decimal
  read_first = by (eqb n 0) refl
    where
      by : (b : Bool) → eqb n 0 ≡ b → (eqb (length read) 1 || not (eqb (get_or read 0 0) 0)) ≡ true
      by true q =
          let one : length read ≡ 1 = omega (arith, read_length, ap length (up_to_one 19 n (omega (arith, eqb-true n 0 q)))) in
          ap (◌|| not (eqb (get_or read 0 0) 0)) (eq-eqb (length read) 1 one)
      by false q =
          let any : 0 < n = pos (eqb-false n 0 q) in
          ap (λ (z : Bool). eqb (length read) 1 || not z) (first_digit 20 n rest any (omega arith)) ∙ or-true (eqb (length read) 1)
        where
          pos : (n ≡ 0 → ⊥) → 0 < n
          pos f = omega (arith, f)

  read_plain : json.plain_number read ≡ true
  unfolding json.plain_number
  read_plain =
      let small = le-leb (json.decimal 0 read) 18446744073709551615 (omega (arith, read_value)) in
      λ i. read_first i && small i

  pub number_read : json.number_at (decimal n ++ rest) 0 ≡ Some (record { value = n; next = length (decimal n) })
  unfolding json.number_at
  number_read =
      let next : 0 + length read ≡ length (decimal n) = omega (arith, read_length) in
      rw read_plain (λ i. Some (record { value = read_value i; next = next i }))

-- two numbers have two decimals
pub decimal_one : (m n : ℕ) → m < 10 ^ 20 → n < 10 ^ 20 → decimal m ≡ decimal n → m ≡ n
unfolding json.digits
decimal_one m n h k e =
    sym (decimal_read m [] h none) ∙ (ap (λ (s : List ℕ). json.decimal 0 (json.digits (s ++ []))) e ∙ decimal_read n [] k none)
  where
    none : json.digits [] ≡ []
    none = refl
