-- The loop's invariant: what the elements from `i` on come to, behind `n` others, is what the array's come to, and no more elements
-- than bytes were passed. The measure is what is left of the line. Assumes nothing.
use mathlib.Core.Path.{◌≡◌}
use Prim.Native.Nat.{◌-◌, ◌≤◌}
use lib.ListN.{length}
use Rattle.json_text.specs.Access.{element_count}
use Rattle.json_text.proofs.ValueLaws.{elements_from}
use Rattle.json_text.proofs.AccessSteps.{counted}
use Rattle.json_text.proofs.access.count_elements.Given as goal

abbrev pub invariant-loop-i : goal.invariant-loop-i
invariant-loop-i l =
    (l.n ≤ l.i) × (counted l.n (elements_from 7 l.line l.i) ≡ element_count l.line l.at)

abbrev pub decreases-loop-i : goal.decreases-loop-i
decreases-loop-i l =
    length l.line - l.i
