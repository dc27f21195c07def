-- The loop's invariant: of each kind, what is counted and what the lines left have is all, and no more are counted than bytes passed. Assumes nothing.
use Rattle.std.proofs.Common.{rules, ◌≡◌, ap}
use mathlib.Core.Bool.{true, false}
use Rattle.hosting.specs.Hosting.{line_templates}
use Rattle.hosting.specs.declared.Templates.{Templates}
use Rattle.hosting.proofs.HostingLaws.{counted_none, counted_line, counted_all, both_counts}
use Rattle.hosting.proofs.count_templates.Goals as goal

pub loop-line-init : goal.loop-line-init
loop-line-init c =
    let whole : c.into_iter-line-iterator.result.rest.now ≡ c.args.rules.now = cc (c.into_iter-line-iterator.ensures.into_iter_gives, c.new-line-items.ensures) in
    let none : c.default-sum.result ≡ record { filters = 0; eqs = 0 } = search rules in
    rw (none, whole) (tt, tt, counted_none false c.args.rules.now, counted_none true c.args.rules.now)

pub loop-line-preserved : goal.loop-line-preserved
unfolding line_templates
loop-line-preserved c =
    let here = c.line_templates.ensures in
    rw c.add.ensures (
      tt,
      tt,
      counted_line false c.args.rules.now _ _ _ c.in-Some.ensures.steps here.in_bounds.0 (ap (λ (t : Templates). t.filters) here.value) c.loop-line.invariant.2,
      counted_line true c.args.rules.now _ _ _ c.in-Some.ensures.steps here.in_bounds.1 (ap (λ (t : Templates). t.eqs) here.value) c.loop-line.invariant.3,
    )

pub returns : goal.returns
returns c =
    both_counts c.args.rules.now (counted_all false c.args.rules.now c.loop-line.sum.filters c.in-None.ensures.steps.0 c.loop-line.invariant.2)
    (counted_all true c.args.rules.now c.loop-line.sum.eqs c.in-None.ensures.steps.0 c.loop-line.invariant.3)
