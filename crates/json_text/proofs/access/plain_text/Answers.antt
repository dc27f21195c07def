-- Each return has the tests that led there: the quote at the place, and the byte behind the plain ones. Assumes nothing.
use Rattle.std.specs.Prelude.{Some, None, cond}
use mathlib.Core.Path.{refl, sym, ap, ◌∙◌}
use Prim.Native.Nat.{ℕ}
use native.Mathlib.Omega.{arith}
use Rattle.json_text.specs.Json.{is_at}
use Rattle.json_text.proofs.ScanLaws.{at_within, told_if}
use Rattle.json_text.proofs.PlainLaws.{plain_text_by}
use Rattle.json_text.proofs.access.plain_text.Goals as goal

pub returns-then-not-is_at : goal.returns-then-not-is_at
returns-then-not-is_at c =
    sym (plain_text_by c.args.line.now c.args.at (sym c.is_at.ensures ∙ c.if-not-is_at.true) refl)

pub overflow_add-at : goal.overflow_add-at
overflow_add-at c =
    omega (arith, at_within c.args.line.now c.args.at 0x22 (omega arith) (sym c.is_at.ensures ∙ c.if-not-is_at.false))

pub returns : goal.returns
returns c =
    let closes = c.is_at-2.result in
    c.then_some.ensures
    ∙ (told_if closes c.plain_end-end.result
    ∙ (ap (λ (end : ℕ). cond closes (Some end) None) c.plain_end-end.ensures
    ∙ sym (plain_text_by c.args.line.now c.args.at (sym c.is_at.ensures ∙ c.if-not-is_at.false)
    (ap (λ (p : ℕ). is_at c.args.line.now p 0x22) (sym c.plain_end-end.ensures) ∙ sym c.is_at-2.ensures))))
