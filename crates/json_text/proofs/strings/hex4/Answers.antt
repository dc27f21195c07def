-- Each return has the first byte that is no digit, or four digits. Assumes nothing.
use native.Mathlib.Omega.{arith}
use mathlib.Core.Path.{refl, sym, ◌∙◌}
use Rattle.text.specs.Maybe.{bind}
use Rattle.json_text.proofs.PieceLaws.{hex_most, hex4_by, hex4_short, digit_here, digit_first}
use Rattle.json_text.proofs.strings.hex4.Goals as goal

pub returns-in_default : goal.returns-in_default
returns-in_default c =
    sym (hex4_short c.args.bytes.now (omega arith))

pub returns-in_err-a : goal.returns-in_err-a
unfolding bind
returns-in_err-a c =
    let s = c.args.bytes.now in
    c.from_residual.ensures ∙ sym (hex4_by s (digit_first s 0 (omega arith) c.hex_digit.ensures c.in_err-a.was) refl refl refl)

pub returns-in_err-b : goal.returns-in_err-b
unfolding bind
returns-in_err-b c =
    let s = c.args.bytes.now in
    c.from_residual-in_err-b.ensures
    ∙ sym
    (hex4_by s (digit_first s 0 (omega arith) c.hex_digit.ensures c.in_ok-a.was)
    (digit_here s 0 1 (omega arith) c.hex_digit-2.ensures c.in_err-b.was) refl refl)

pub returns-in_err-c : goal.returns-in_err-c
unfolding bind
returns-in_err-c c =
    let s = c.args.bytes.now in
    c.from_residual-in_err-c.ensures
    ∙ sym
    (hex4_by s (digit_first s 0 (omega arith) c.hex_digit.ensures c.in_ok-a.was)
    (digit_here s 0 1 (omega arith) c.hex_digit-2.ensures c.in_ok-b.was)
    (digit_here s 0 2 (omega arith) c.hex_digit-3.ensures c.in_err-c.was) refl)

pub returns-in_err-d : goal.returns-in_err-d
unfolding bind
returns-in_err-d c =
    let s = c.args.bytes.now in
    c.from_residual-in_err-d.ensures
    ∙ sym
    (hex4_by s (digit_first s 0 (omega arith) c.hex_digit.ensures c.in_ok-a.was)
    (digit_here s 0 1 (omega arith) c.hex_digit-2.ensures c.in_ok-b.was)
    (digit_here s 0 2 (omega arith) c.hex_digit-3.ensures c.in_ok-c.was)
    (digit_here s 0 3 (omega arith) c.hex_digit-4.ensures c.in_err-d.was))

pub overflow_mul-result : goal.overflow_mul-result
overflow_mul-result c =
    omega (arith, hex_most _ (sym c.hex_digit.ensures ∙ c.in_ok-a.was))

pub overflow_mul-result-2 : goal.overflow_mul-result-2
overflow_mul-result-2 c =
    omega (arith, hex_most _ (sym c.hex_digit-2.ensures ∙ c.in_ok-b.was))

pub overflow_add-result : goal.overflow_add-result
overflow_add-result c =
    omega (arith, hex_most _ (sym c.hex_digit.ensures ∙ c.in_ok-a.was), hex_most _ (sym c.hex_digit-2.ensures ∙ c.in_ok-b.was))

pub overflow_mul-result-3 : goal.overflow_mul-result-3
overflow_mul-result-3 c =
    omega (arith, hex_most _ (sym c.hex_digit-3.ensures ∙ c.in_ok-c.was))

pub overflow_add-result-2 : goal.overflow_add-result-2
overflow_add-result-2 c =
    omega (
      arith,
      hex_most _ (sym c.hex_digit.ensures ∙ c.in_ok-a.was),
      hex_most _ (sym c.hex_digit-2.ensures ∙ c.in_ok-b.was),
      hex_most _ (sym c.hex_digit-3.ensures ∙ c.in_ok-c.was),
    )

pub overflow_add-result-3 : goal.overflow_add-result-3
overflow_add-result-3 c =
    omega (
      arith,
      hex_most _ (sym c.hex_digit.ensures ∙ c.in_ok-a.was),
      hex_most _ (sym c.hex_digit-2.ensures ∙ c.in_ok-b.was),
      hex_most _ (sym c.hex_digit-3.ensures ∙ c.in_ok-c.was),
      hex_most _ (sym c.hex_digit-4.ensures ∙ c.in_ok-d.was),
    )

pub returns : goal.returns
unfolding bind
returns c =
    let s = c.args.bytes.now in
    sym
    (hex4_by s (digit_first s 0 (omega arith) c.hex_digit.ensures c.in_ok-a.was)
    (digit_here s 0 1 (omega arith) c.hex_digit-2.ensures c.in_ok-b.was)
    (digit_here s 0 2 (omega arith) c.hex_digit-3.ensures c.in_ok-c.was)
    (digit_here s 0 3 (omega arith) c.hex_digit-4.ensures c.in_ok-d.was))
