-- Each return has the tests that led there: the bracket at the place, and whether it is closed at once. Assumes nothing.
use Rattle.std.specs.Prelude.{Some, None, cond}
use mathlib.Core.Path.{refl, sym, ap, ◌∙◌}
use Prim.Native.Nat.{ℕ}
use native.Mathlib.Omega.{arith}
use Rattle.json_text.specs.Json.{is_at}
use Rattle.json_text.proofs.ScanLaws.{at_within, told_unless}
use Rattle.json_text.proofs.AccessSteps.{first_by_lem}
use Rattle.json_text.proofs.access.first_item.Goals as goal

pub returns-then-not-is_at : goal.returns-then-not-is_at
returns-then-not-is_at c =
    sym (first_by_lem c.args.opens c.args.closes c.args.line.now c.args.at (sym c.is_at.ensures ∙ c.if-not-is_at.true) refl)

pub overflow_add-at : goal.overflow_add-at
overflow_add-at c =
    omega (arith, at_within c.args.line.now c.args.at c.args.opens (omega arith) (sym c.is_at.ensures ∙ c.if-not-is_at.false))

pub returns : goal.returns
returns c =
    let closes = c.is_at-2.result in
    c.then_some.ensures
    ∙ (told_unless closes c.skip_blanks-p.result
    ∙ (ap (λ (p : ℕ). cond closes None (Some p)) c.skip_blanks-p.ensures
    ∙ sym (first_by_lem c.args.opens c.args.closes c.args.line.now c.args.at (sym c.is_at.ensures ∙ c.if-not-is_at.false)
    (ap (λ (p : ℕ). is_at c.args.line.now p c.args.closes) (sym c.skip_blanks-p.ensures) ∙ sym c.is_at-2.ensures))))
