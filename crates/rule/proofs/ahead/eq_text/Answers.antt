-- By the kind of what stands there: an object, or something else. Assumes nothing.
use native.Mathlib.Omega.{arith}
use mathlib.Core.Path.{sym, ◌∙◌}
use Rattle.json_text.proofs.ScanLaws.{at_within}
use Rattle.rule.proofs.MemberLaws.{object_opens, no_object}
use Rattle.rule.proofs.OnePassLaws.{eq_unopened, eq_named_lem}
use Rattle.rule.proofs.ahead.eq_text.Goals as goal

pub overflow_add-at : goal.overflow_add-at
overflow_add-at c =
    omega (arith, at_within c.args.line.now c.args.at 0x7b (omega arith) (object_opens c.args.line.now c.args.at (sym c.kind_at.ensures ∙ c.in-Object.is)))

pub returns-in-Object : goal.returns-in-Object
returns-in-Object c =
    c.eq_member.ensures ∙ sym (eq_named_lem c.args.line.now c.args.at (object_opens c.args.line.now c.args.at (sym c.kind_at.ensures ∙ c.in-Object.is)) c.skip_blanks.ensures)

pub returns-in_default : goal.returns-in_default
returns-in_default c =
    sym (eq_unopened c.args.line.now c.args.at (no_object c.args.line.now c.args.at (λ e. c.in_default.not-Object (c.kind_at.ensures ∙ e))))
