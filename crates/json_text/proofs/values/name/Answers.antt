-- The cursor behind the string, moved over a colon. Assumes nothing.
use Rattle.std.specs.Prelude.{Some, None}
use mathlib.Core.Path.{sym, ap, ◌∙◌}
use Prim.Native.Nat.{◌+◌}
use mathlib.Core.Bool.{cond}
use native.Mathlib.Omega.{arith}
use Rattle.json_text.specs.Json.{is_at, skip_blanks}
use Rattle.json_text.proofs.ScanLaws.{at_within}
use Rattle.json_text.proofs.StepLaws.{behind_name, name_stepped}
use Rattle.json_text.proofs.values.name.Goals as goal

pub overflow_add-p : goal.overflow_add-p
overflow_add-p c =
    let within = at_within c.args.line.now c.skip_blanks-p.result 0x3a (omega arith) (sym c.is_at.ensures ∙ c.if-is_at.true) in
    omega arith

pub returns-then-is_at : goal.returns-then-is_at
returns-then-is_at c =
    let next = c.skip_blanks.ensures ∙ ap (λ q. skip_blanks c.args.line.now (q + 1)) c.skip_blanks-p.ensures in
    (λ i. Some (record { at = next i; longest = c.in_ok-behind.behind.longest }))
    ∙ sym (name_stepped c.args.c.longest c.args.line.now c.args.c.at ∙ (ap (behind_name c.args.line.now) (sym c.string.ensures ∙ c.in_ok-behind.was)
    ∙ λ i. cond ((sym (ap (λ q. is_at c.args.line.now q 0x3a) c.skip_blanks-p.ensures) ∙ (sym c.is_at.ensures ∙ c.if-is_at.true)) i) (Some (record { at = skip_blanks c.args.line.now (skip_blanks c.args.line.now c.in_ok-behind.behind.at + 1); longest = c.in_ok-behind.behind.longest })) None))

pub returns : goal.returns
returns c =
    sym (name_stepped c.args.c.longest c.args.line.now c.args.c.at ∙ (ap (behind_name c.args.line.now) (sym c.string.ensures ∙ c.in_ok-behind.was)
    ∙ λ i. cond ((sym (ap (λ q. is_at c.args.line.now q 0x3a) c.skip_blanks-p.ensures) ∙ (sym c.is_at.ensures ∙ c.if-is_at.false)) i) (Some (record { at = skip_blanks c.args.line.now (skip_blanks c.args.line.now c.in_ok-behind.behind.at + 1); longest = c.in_ok-behind.behind.longest })) None))

pub returns-in_err-behind : goal.returns-in_err-behind
returns-in_err-behind c =
    c.from_residual.ensures
    ∙ sym (name_stepped c.args.c.longest c.args.line.now c.args.c.at ∙ ap (behind_name c.args.line.now) (sym c.string.ensures ∙ c.in_err-behind.was))
