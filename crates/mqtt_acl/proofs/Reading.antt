-- What is read from a number: of opening, by what the code computes; and that a packed number is read back. Assumes nothing.
use Prim.Native.Nat.{ℕ, ◌+◌, ◌*◌, ◌/◌, ◌%◌, ◌≤◌}
use mathlib.Core.Path.{◌≡◌, refl, ap, ◌∙◌}
use Rattle.std.specs.Prelude.{Some}
use native.Mathlib.Nat.{mul-add-div, mul-add-mod_self_left, mod-eq_of_lt, div-eq_of_lt}
use native.Mathlib.Omega.{arith}
use borrow.Author.Tests.{ne_eqb}
use Rattle.mqtt_acl.specs.Unpacked.{parts_by, parts, read_open, open_refusal, open_line}

pub open_refusal_read : (n : ℕ) → open_refusal (read_open n) ≡ n % 256
unfolding read_open open_refusal
open_refusal_read n = grind arith

pub open_line_read : (n : ℕ) → open_line (read_open n) ≡ n / 256
unfolding read_open open_line
open_line_read n = grind arith

-- ---- what was packed

pub back : (what v : ℕ) → what % 16 ≡ what → what / 16 ≡ 0 → parts (16 * v + what) ≡ parts_by what v
unfolding parts
back what v m d =
    let low = mul-add-mod_self_left 16 v what ∙ m in
    let none_left : v + what / 16 ≡ v = omega arith in
    let high = mul-add-div {m = 16} (omega arith) v what ∙ none_left in
    λ i. parts_by (low i) (high i)

-- a number and the line beside it
module _ (n line : ℕ) (h : n ≤ 10) where
  pub number_back : (256 * line + n) % 256 ≡ n
  number_back = mul-add-mod_self_left 256 line n ∙ mod-eq_of_lt (omega arith)

  pub line_back : (256 * line + n) / 256 ≡ line
  line_back =
      let none_left : n / 256 ≡ 0 = div-eq_of_lt (omega arith) in
      mul-add-div {m = 256} (omega arith) line n ∙ omega (arith, none_left)

  pub refusal_back : parts (16 * (n + 256 * line)) ≡ parts_by 0 (256 * line + n)
  refusal_back =
      let e : 16 * (n + 256 * line) ≡ 16 * (256 * line + n) + 0 = omega arith in
      ap parts e ∙ back 0 (256 * line + n) refl refl

  pub open_back : 1 ≤ n → read_open (n + 256 * line) ≡ Some (n, line)
  unfolding read_open
  open_back l =
      let e : n + 256 * line ≡ 256 * line + n = omega arith in
      rw (ne_eqb (n + 256 * line) 0 (λ z. omega arith), e) (λ i. Some (number_back i, line_back i))
