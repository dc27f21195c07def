-- The loop's invariant: the digits from `at` to `i` write `v`. The measure is what is left of the line. Assumes nothing.
use mathlib.Core.Path.{◌≡◌, sym, ◌∙◌}
use Prim.Native.Nat.{◌+◌, ◌-◌, ◌*◌}
use mathlib.Core.List.{[]}
use native.Mathlib.Omega.{arith}
use lib.ListN.{get_or}
use Rattle.json_text.proofs.ScanLaws.{digits_at}
use Rattle.json_text.proofs.Utf8Laws.{within_told}
use Rattle.json_text.proofs.NumberLaws.{digits_past, digits_other, reading_none, reading_more, reading_over, reading_nothing, reading_zeros, reading_one, reading_other}
use Rattle.json_text.proofs.values.number_at.Goals as goal
use Rattle.json_text.proofs.values.number_at.Goals.{else-line-at-eq48-via-then-line-at-eq48+else-i-at-ne1, else-line-at-eq48-via-else-line-at-eq48, else-loop-i-test, then-loop-i-test+else-is_digit}

pub loop-i-init : goal.loop-i-init
loop-i-init c =
    reading_none _ _

pub overflow_sub-line : goal.overflow_sub-line
overflow_sub-line c =
    omega (arith, within_told 0x30 0x39 (get_or c.args.line.now c.loop-i.i 0) (sym c.is_digit.ensures ∙ c.if-is_digit.true))

pub returns-in_err-shifted : goal.returns-in_err-shifted
returns-in_err-shifted c =
    c.from_residual.ensures
    ∙ reading_over c.args.line.now c.args.at c.loop-i.v c.loop-i.i c.loop-i.invariant c.loop-i-test.true (sym c.is_digit.ensures ∙ c.if-is_digit.true) (omega (arith, c.in_err-shifted.ensures))

pub returns-in_err-v : goal.returns-in_err-v
returns-in_err-v c =
    c.from_residual-in_err-v.ensures
    ∙ reading_over c.args.line.now c.args.at c.loop-i.v c.loop-i.i c.loop-i.invariant c.loop-i-test.true (sym c.is_digit.ensures ∙ c.if-is_digit.true)
    (omega (arith, c.in_ok-shifted.ensures, c.in_err-v.ensures))

pub loop-i-preserved : goal.loop-i-preserved
loop-i-preserved c =
    let sum : c.in_ok-v.v ≡ c.loop-i.v * 10 + (get_or c.args.line.now c.loop-i.i 0 - 0x30) = omega (arith, c.in_ok-shifted.ensures, c.in_ok-v.ensures) in
    rw sum
    (reading_more c.args.line.now c.args.at c.loop-i.v c.loop-i.i c.loop-i.invariant c.loop-i-test.true (sym c.is_digit.ensures ∙ c.if-is_digit.true)
    (omega (arith, c.in_ok-shifted.ensures, c.in_ok-v.ensures)))

pub returns-then-i-at : goal.returns-then-i-at
returns-then-i-at c =
    let ended : digits_at c.args.line.now c.loop-i.i ≡ [] = elim c.loop-i-test.branch [
      | else-loop-i-test w ↦ digits_past _ _ w.loop-i-test.false
      | then-loop-i-test+else-is_digit w ↦ digits_other _ _ w.loop-i-test.true (sym w.is_digit.ensures ∙ w.if-is_digit.false)
    ] in
    reading_nothing c.args.line.now c.args.at c.loop-i.v c.loop-i.i c.loop-i.invariant ended c.if-i-at.true

pub bounds-line-at : goal.bounds-line-at
bounds-line-at c =
    omega arith

pub overflow_sub-i : goal.overflow_sub-i
overflow_sub-i c =
    omega arith

pub returns-then-i-at-ne1 : goal.returns-then-i-at-ne1
returns-then-i-at-ne1 c =
    let ended : digits_at c.args.line.now c.loop-i.i ≡ [] = elim c.loop-i-test.branch [
      | else-loop-i-test w ↦ digits_past _ _ w.loop-i-test.false
      | then-loop-i-test+else-is_digit w ↦ digits_other _ _ w.loop-i-test.true (sym w.is_digit.ensures ∙ w.if-is_digit.false)
    ] in
    reading_zeros c.args.line.now c.args.at c.loop-i.v c.loop-i.i c.loop-i.invariant ended c.if-i-at.false c.if-line-at-eq48.true c.if-i-at-ne1.true

pub returns : goal.returns
returns c =
    let ended : digits_at c.args.line.now c.loop-i.i ≡ [] = elim c.loop-i-test.branch [
      | else-loop-i-test w ↦ digits_past _ _ w.loop-i-test.false
      | then-loop-i-test+else-is_digit w ↦ digits_other _ _ w.loop-i-test.true (sym w.is_digit.ensures ∙ w.if-is_digit.false)
    ] in
    elim c.else-line-at-eq48.branch [
      | else-line-at-eq48-via-then-line-at-eq48+else-i-at-ne1 w ↦
          reading_one c.args.line.now c.args.at c.loop-i.v c.loop-i.i c.loop-i.invariant ended c.if-i-at.false w.if-i-at-ne1.false
      | else-line-at-eq48-via-else-line-at-eq48 w ↦
          reading_other c.args.line.now c.args.at c.loop-i.v c.loop-i.i c.loop-i.invariant ended c.if-i-at.false w.if-line-at-eq48.false
    ]
