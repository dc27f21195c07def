-- The loop's invariant: the blanks from `i` on end where those from `at` on do. The measure is what is left of the line. Assumes nothing.
use mathlib.Core.Path.{refl, sym, ◌∙◌}
use Rattle.json_text.proofs.ScanLaws.{blanks_past, blanks_onward, blanks_end}
use Rattle.json_text.proofs.values.skip_blanks.Goals as goal

pub loop-i-init : goal.loop-i-init
loop-i-init c =
    refl

pub loop-i-preserved : goal.loop-i-preserved
loop-i-preserved c =
    sym (blanks_onward c.args.line.now c.loop-i.i c.loop-i-test.true (sym c.is_blank.ensures ∙ c.if-is_blank.true)) ∙ c.loop-i.invariant

pub returns-else-is_blank : goal.returns-else-is_blank
returns-else-is_blank c =
    sym (blanks_end c.args.line.now c.loop-i.i c.loop-i-test.true (sym c.is_blank.ensures ∙ c.if-is_blank.false)) ∙ c.loop-i.invariant

pub returns-after-loop-i : goal.returns-after-loop-i
returns-after-loop-i c =
    sym (blanks_past c.args.line.now c.loop-i.i c.loop-i-test.false) ∙ c.loop-i.invariant
