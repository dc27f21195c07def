-- The loop's invariant: what the walk comes to is what the levels come to. The measure is what is left of the filter while the walk
-- has no answer. Assumes nothing.
use mathlib.Core.Path.{◌≡◌}
use Rattle.topic.specs.Topic.{levels, takes}
use Rattle.topic.proofs.Places.{comes_to, left}
use Rattle.topic.proofs.takes.Given as goal

abbrev pub invariant-loop-walk : goal.invariant-loop-walk
invariant-loop-walk l =
    comes_to l.filter l.text l.walk ≡ takes (levels l.filter) (levels l.text)

abbrev pub decreases-loop-walk : goal.decreases-loop-walk
decreases-loop-walk l =
    left l.filter l.walk
