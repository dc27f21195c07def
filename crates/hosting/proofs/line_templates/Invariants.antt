-- The loop's invariant: of each kind, the templates counted and those of the topics left are all, and no more are counted than topics passed.
-- Assumes nothing.
use mathlib.Core.Bool.{true, false}
use Rattle.json_text.specs.Access.{places_from}
use Rattle.hosting.proofs.HostingLaws.{CountedIn}
use Rattle.hosting.proofs.line_templates.Given as goal

abbrev pub invariant-loop-p : goal.invariant-loop-p
invariant-loop-p l =
    (goal.iterator-loop-p).can_next l.p-iterator
    × (goal.iterator-loop-p).is_finite l.p-iterator
    × CountedIn false l.line l.sum.filters (places_from l.p-iterator.line.now l.p-iterator.next)
    × CountedIn true l.line l.sum.eqs (places_from l.p-iterator.line.now l.p-iterator.next)
