-- The loop's invariant: of each kind, the templates counted and those of the topics left are all, and no more are counted than topics passed.
-- Assumes nothing.
use Rattle.std.proofs.Common.{rules, ◌≡◌, ap, arith}
use mathlib.Core.Bool.{true, false}
use Rattle.hosting.specs.declared.Templates.{Templates}
use Rattle.hosting.proofs.HostingLaws.{counted_first, counted_topic, counted_topics, count_small, both_here}
use Rattle.hosting.proofs.line_templates.Goals as goal

pub loop-p-init : goal.loop-p-init
loop-p-init c =
    let line = c.args.line.now in
    let is = c.topics-p-items.ensures.from_first in
    let none : c.default-sum.result ≡ record { filters = 0; eqs = 0 } = search rules in
    rw (none, c.into_iter-p-iterator.ensures.into_iter_gives, c.topics-p-items.ensures.of_line) (tt, tt, counted_first false line is, counted_first true line is)

pub add-requires : goal.add-requires
add-requires c = (
  omega (arith, ap (λ (t : Templates). t.filters) c.counted.ensures, count_small false c.topic_at.result, c.loop-p.invariant.2.fits),
  omega (arith, ap (λ (t : Templates). t.eqs) c.counted.ensures, count_small true c.topic_at.result, c.loop-p.invariant.3.fits),
)

pub loop-p-preserved : goal.loop-p-preserved
loop-p-preserved c =
    let line = c.args.line.now in
    rw (c.add.ensures, c.counted.ensures) (
      tt,
      tt,
      counted_topic false line _ _ c.in-Some.ensures.steps c.topic_at.ensures c.loop-p.invariant.2,
      counted_topic true line _ _ c.in-Some.ensures.steps c.topic_at.ensures c.loop-p.invariant.3,
    )

pub returns-clause-value : goal.returns-clause-value
returns-clause-value c =
    let line = c.args.line.now in
    both_here line (counted_topics false line _ c.in-None.ensures.steps.0 c.loop-p.invariant.2) (counted_topics true line _ c.in-None.ensures.steps.0 c.loop-p.invariant.3)
