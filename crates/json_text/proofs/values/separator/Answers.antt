-- Each return has the tests of `separator_at` that led there. Assumes nothing.
use Rattle.std.specs.Prelude.{Some}
use mathlib.Core.Path.{refl, sym, ap, ◌∙◌}
use Prim.Native.Nat.{◌+◌}
use native.Mathlib.Omega.{arith}
use Rattle.json_text.specs.Json.{is_at, skip_blanks}
use Rattle.json_text.proofs.ScanLaws.{at_within, separator_by}
use Rattle.json_text.specs.declared.Separator.TheVariants.{Close, Comma}
use Rattle.json_text.proofs.values.separator.Goals as goal

pub overflow_add-result : goal.overflow_add-result
overflow_add-result c =
    let within = at_within c.args.line.now c.skip_blanks-p.result c.args.close (omega arith) (sym c.is_at.ensures ∙ c.if-is_at.true) in
    omega arith

pub returns-then-is_at : goal.returns-then-is_at
returns-then-is_at c =
    ap (λ q. Some (Close (q + 1))) c.skip_blanks-p.ensures
    ∙ sym (separator_by c.args.close c.args.line.now c.args.at (sym (ap (λ q. is_at c.args.line.now q c.args.close) c.skip_blanks-p.ensures) ∙ (sym c.is_at.ensures ∙ c.if-is_at.true)) refl)

pub overflow_add-p : goal.overflow_add-p
overflow_add-p c =
    let within = at_within c.args.line.now c.skip_blanks-p.result 0x2c (omega arith) (sym c.is_at-2.ensures ∙ c.if-is_at-2.true) in
    omega arith

pub returns-then-is_at-2 : goal.returns-then-is_at-2
returns-then-is_at-2 c =
    ap (λ q. Some (Comma q)) (c.skip_blanks.ensures ∙ ap (λ q. skip_blanks c.args.line.now (q + 1)) c.skip_blanks-p.ensures)
    ∙ sym (separator_by c.args.close c.args.line.now c.args.at (sym (ap (λ q. is_at c.args.line.now q c.args.close) c.skip_blanks-p.ensures) ∙ (sym c.is_at.ensures ∙ c.if-is_at.false)) (sym (ap (λ q. is_at c.args.line.now q 0x2c) c.skip_blanks-p.ensures) ∙ (sym c.is_at-2.ensures ∙ c.if-is_at-2.true)))

pub returns : goal.returns
returns c =
    sym (separator_by c.args.close c.args.line.now c.args.at (sym (ap (λ q. is_at c.args.line.now q c.args.close) c.skip_blanks-p.ensures) ∙ (sym c.is_at.ensures ∙ c.if-is_at.false)) (sym (ap (λ q. is_at c.args.line.now q 0x2c) c.skip_blanks-p.ensures) ∙ (sym c.is_at-2.ensures ∙ c.if-is_at-2.false)))
