-- The loop's invariant: of each kind, what is counted and what the lines left have is all, and no more are counted than bytes passed. Assumes nothing.
use mathlib.Core.Bool.{true, false}
use Rattle.json_text.specs.Lines.{lines}
use Rattle.hosting.proofs.HostingLaws.{CountedTo}
use Rattle.hosting.proofs.count_templates.Given as goal

abbrev pub invariant-loop-line : goal.invariant-loop-line
invariant-loop-line l =
    (goal.iterator-loop-line).can_next l.line-iterator
    × (goal.iterator-loop-line).is_finite l.line-iterator
    × CountedTo false l.rules l.sum.filters (lines l.line-iterator.rest.now)
    × CountedTo true l.rules l.sum.eqs (lines l.line-iterator.rest.now)
