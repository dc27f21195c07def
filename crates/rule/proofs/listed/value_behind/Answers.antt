-- The colon stands within the line. Assumes nothing.
use mathlib.Core.Path.{sym, ◌∙◌}
use native.Mathlib.Omega.{arith}
use Rattle.json_text.proofs.ScanLaws.{at_within}
use Rattle.rule.proofs.listed.value_behind.Goals as goal

pub overflow_add-p : goal.overflow_add-p
overflow_add-p c = omega (arith, at_within c.args.line.now _ 0x3a (omega arith) (sym c.is_at.ensures ∙ c.if-is_at.true))
