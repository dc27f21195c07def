-- The loop's invariant: what was told so far is told by the members before `i`. The measure is what is left of the line. Assumes nothing.
use Prim.Native.Nat.{◌-◌}
use lib.ListN.{length}
use Rattle.authinfo.proofs.OnePassLaws.{Passed}
use Rattle.authinfo.proofs.one_pass.in_one_pass.Given as goal

abbrev pub invariant-loop-i : goal.invariant-loop-i
invariant-loop-i l =
    Passed l.line l.first l.found l.i

abbrev pub decreases-loop-i : goal.decreases-loop-i
decreases-loop-i l =
    length l.line - l.i
