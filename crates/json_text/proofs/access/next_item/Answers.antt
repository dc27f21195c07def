-- Each return has the tests that led there: the value, and the comma behind it. Assumes nothing.
use Rattle.std.specs.Prelude.{Some}
use mathlib.Core.Path.{sym, ap, ◌∙◌}
use native.Mathlib.Omega.{arith}
use Rattle.json_text.proofs.ScanLaws.{at_within}
use Rattle.json_text.proofs.AccessSteps.{next_bad, next_by}
use Rattle.json_text.proofs.access.next_item.Goals as goal

pub overflow_add-p : goal.overflow_add-p
overflow_add-p c =
    omega (arith, at_within c.args.line.now c.skip_blanks-p.result 0x2c (omega arith) (sym c.is_at.ensures ∙ c.if-is_at.true))

pub returns-then-is_at : goal.returns-then-is_at
returns-then-is_at c =
    ap Some c.skip_blanks.ensures
    ∙ sym (next_by c.args.line.now c.args.at (sym c.value.ensures ∙ c.in_ok-behind.was) c.skip_blanks-p.ensures (sym c.is_at.ensures ∙ c.if-is_at.true))

pub returns : goal.returns
returns c =
    sym (next_by c.args.line.now c.args.at (sym c.value.ensures ∙ c.in_ok-behind.was) c.skip_blanks-p.ensures (sym c.is_at.ensures ∙ c.if-is_at.false))

pub returns-in_err-behind : goal.returns-in_err-behind
returns-in_err-behind c =
    c.from_residual.ensures ∙ sym (next_bad c.args.line.now c.args.at (sym c.value.ensures ∙ c.in_err-behind.was))
