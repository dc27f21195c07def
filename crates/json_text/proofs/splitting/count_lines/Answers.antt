-- The loop's invariant: `n` with the number of lines from `at` on is the number of lines, and `n` is at most `most`. The measure is
-- what is left of the text. Assumes nothing.
use native.Mathlib.Omega.{arith}
use Rattle.json_text.proofs.LineLaws.{counted_more, counted_past, counted_all, next_after}
use Rattle.json_text.proofs.splitting.count_lines.Goals as goal

pub loop-at-init : goal.loop-at-init
loop-at-init c =
    record { passed = omega arith; place = omega arith; few = omega arith; all = omega arith }

pub returns-then-most-n : goal.returns-then-most-n
returns-then-most-n c =
    counted_past _ _ _ _ c.loop-at.invariant c.loop-at-test.true c.if-most-n.true

pub loop-at-smaller : goal.loop-at-smaller
loop-at-smaller c =
    rw c.next_line-at.ensures (omega (arith, next_after c.args.text.now c.loop-at.at c.loop-at-test.true))

pub loop-at-preserved : goal.loop-at-preserved
loop-at-preserved c =
    rw c.next_line-at.ensures (counted_more _ _ _ _ c.loop-at.invariant c.loop-at-test.true c.if-most-n.false)

pub returns : goal.returns
returns c =
    counted_all _ _ _ _ c.loop-at.invariant c.loop-at-test.false
