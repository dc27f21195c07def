-- The loop's invariant: what the walk comes to is what the levels come to. The measure is what is left of the filter while the walk
-- has no answer. Assumes nothing.
use mathlib.Core.Path.{sym, ap₂, ◌∙◌}
use Rattle.topic.specs.Topic.{takes}
use Rattle.topic.proofs.Places.{comes_to, comes_done, levels_all, step_nearer}
use Rattle.topic.proofs.takes.Goals as goal

pub loop-walk-init : goal.loop-walk-init
unfolding comes_to
loop-walk-init c =
    ap₂ takes (levels_all c.args.filter.now) (levels_all c.args.text.now)

pub returns-in-Some : goal.returns-in-Some
returns-in-Some c =
    sym (comes_done c.args.filter.now c.args.text.now c.loop-walk.walk c.in-Some.is) ∙ c.loop-walk.invariant

pub loop-walk-smaller : goal.loop-walk-smaller
loop-walk-smaller c =
    rw c.step-walk.ensures (step_nearer c.args.filter.now c.args.text.now c.loop-walk.walk c.in_default.is).less

pub loop-walk-preserved : goal.loop-walk-preserved
loop-walk-preserved c =
    rw c.step-walk.ensures ((step_nearer c.args.filter.now c.args.text.now c.loop-walk.walk c.in_default.is).comes ∙ c.loop-walk.invariant)
