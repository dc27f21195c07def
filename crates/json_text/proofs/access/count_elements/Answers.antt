-- The loop's invariant: what the elements from `i` on come to, behind `n` others, is what the array's come to, and no more elements
-- than bytes were passed. The measure is what is left of the line. Assumes nothing.
use Rattle.std.specs.Prelude.{Some}
use mathlib.Core.Path.{sym, ap, ◌∙◌}
use mathlib.Core.Bool.{true, false, cond}
use Prim.Native.Nat.{ℕ, ◌<◌}
use native.Mathlib.Omega.{arith}
use Rattle.json_text.specs.Json.{is_at}
use Rattle.json_text.proofs.ScanLaws.{at_within, comma_next}
use Rattle.json_text.proofs.ValueLaws.{elements_from, elements_past, value_forward}
use Rattle.json_text.proofs.AccessSteps.{counted, count_closed, count_by, count_behind, count_on, count_step}
use Rattle.json_text.proofs.access.count_elements.Goals as goal

pub returns-then-not-is_at : goal.returns-then-not-is_at
returns-then-not-is_at c =
    sym (count_closed c.args.line.now c.args.at (sym c.is_at.ensures ∙ c.if-not-is_at.true))

pub overflow_add-at : goal.overflow_add-at
overflow_add-at c =
    omega (arith, at_within c.args.line.now c.args.at 0x5b (omega arith) (sym c.is_at.ensures ∙ c.if-not-is_at.false))

pub returns-then-is_at : goal.returns-then-is_at
returns-then-is_at c =
    ap (λ (p : ℕ). cond true (Some 0) (counted 0 (elements_from 7 c.args.line.now p))) c.skip_blanks-first.ensures
    ∙ sym
    (count_by c.args.line.now c.args.at (sym c.is_at.ensures ∙ c.if-not-is_at.false)
    (ap (λ (p : ℕ). is_at c.args.line.now p 0x5d) (sym c.skip_blanks-first.ensures) ∙ (sym c.is_at-2.ensures ∙ c.if-is_at.true)))

pub loop-i-init : goal.loop-i-init
loop-i-init c = (
  omega arith,
  ap (λ (p : ℕ). cond false (Some 0) (counted 0 (elements_from 7 c.args.line.now p))) c.skip_blanks-first.ensures
      ∙ sym
      (count_by c.args.line.now c.args.at (sym c.is_at.ensures ∙ c.if-not-is_at.false)
      (ap (λ (p : ℕ). is_at c.args.line.now p 0x5d) (sym c.skip_blanks-first.ensures) ∙ (sym c.is_at-2.ensures ∙ c.if-is_at.false))),
)

pub returns-in_err-behind : goal.returns-in_err-behind
unfolding count_on
returns-in_err-behind c =
    c.from_residual.ensures
    ∙ sym (count_step c.args.line.now c.loop-i.n c.loop-i.i c.loop-i-test.true (sym c.value.ensures ∙ c.in_err-behind.was)) ∙ c.loop-i.invariant.1

pub returns-in-Close : goal.returns-in-Close
unfolding count_behind count_on
returns-in-Close c =
    ap (count_behind c.args.line.now c.loop-i.n) (sym (c.in_ok-separator.was ∙ ap Some c.in-Close.is) ∙ c.separator.ensures)
    ∙ (sym (count_step c.args.line.now c.loop-i.n c.loop-i.i c.loop-i-test.true (sym c.value.ensures ∙ c.in_ok-behind.was)) ∙ c.loop-i.invariant.1)

pub loop-i-smaller : goal.loop-i-smaller
loop-i-smaller c =
    omega (
      arith,
      value_forward 7 c.args.line.now c.loop-i.i 0 (sym c.value.ensures ∙ c.in_ok-behind.was),
      comma_next c.args.line.now c.in_ok-behind.behind.at 0x5d (sym c.separator.ensures ∙ (c.in_ok-separator.was ∙ ap Some c.in-Comma.is)),
    )

pub loop-i-preserved : goal.loop-i-preserved
unfolding count_behind count_on
loop-i-preserved c =
    let forward : c.loop-i.i < c.in-Comma.next = omega (
      arith,
      value_forward 7 c.args.line.now c.loop-i.i 0 (sym c.value.ensures ∙ c.in_ok-behind.was),
      comma_next c.args.line.now c.in_ok-behind.behind.at 0x5d (sym c.separator.ensures ∙ (c.in_ok-separator.was ∙ ap Some c.in-Comma.is)),
    ) in (
      omega arith,
      ap (count_behind c.args.line.now c.loop-i.n) (sym (c.in_ok-separator.was ∙ ap Some c.in-Comma.is) ∙ c.separator.ensures)
          ∙ (sym (count_step c.args.line.now c.loop-i.n c.loop-i.i c.loop-i-test.true (sym c.value.ensures ∙ c.in_ok-behind.was)) ∙ c.loop-i.invariant.1),
    )

pub returns-in_err-separator : goal.returns-in_err-separator
unfolding count_behind count_on
returns-in_err-separator c =
    c.from_residual-in_err-separator.ensures
    ∙ ap (count_behind c.args.line.now c.loop-i.n) (sym c.in_err-separator.was ∙ c.separator.ensures)
    ∙ (sym (count_step c.args.line.now c.loop-i.n c.loop-i.i c.loop-i-test.true (sym c.value.ensures ∙ c.in_ok-behind.was)) ∙ c.loop-i.invariant.1)

pub returns : goal.returns
unfolding counted
returns c =
    ap (counted c.loop-i.n) (sym (elements_past 7 c.args.line.now c.loop-i.i c.loop-i-test.false)) ∙ c.loop-i.invariant.1
