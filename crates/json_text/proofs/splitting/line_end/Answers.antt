-- The loop's invariant: the line that begins at `i` ends where the line that begins at `at` does. The measure is what is left of
-- the text. Assumes nothing.
use native.Mathlib.Omega.{arith}
use mathlib.Core.Path.{sym, ◌∙◌}
use Rattle.json_text.proofs.LineLaws.{end_past, end_lf, end_onward}
use Rattle.json_text.proofs.splitting.line_end.Goals as goal

pub loop-i-init : goal.loop-i-init
loop-i-init c =
    c.past-i.ensures ∙ (c.past-half.ensures ∙ c.past_stretches-long.ensures)

pub returns-then-text-i-eq10 : goal.returns-then-text-i-eq10
returns-then-text-i-eq10 c =
    sym (end_lf c.args.text.now c.loop-i.i (omega arith) c.if-text-i-eq10.true) ∙ c.loop-i.invariant

pub loop-i-preserved : goal.loop-i-preserved
loop-i-preserved c =
    sym (end_onward c.args.text.now c.loop-i.i (omega arith) c.if-text-i-eq10.false) ∙ c.loop-i.invariant

pub returns : goal.returns
returns c =
    sym (end_past c.args.text.now c.loop-i.i c.loop-i-test.false) ∙ c.loop-i.invariant
