-- The loop's invariant: what is left of the two is apart if and only if they are. Assumes nothing.
use mathlib.Core.Path.{◌≡◌}
use lib.ListN.{drop}
use Rattle.topic.specs.Walk.{begins_apart}
use Rattle.topic.proofs.begins_apart.Given as goal

abbrev pub invariant-loop-i : goal.invariant-loop-i
invariant-loop-i l =
    begins_apart (drop l.i l.filter) (drop l.i l.text) ≡ begins_apart l.filter l.text
