-- The loop's invariant: the digits from `at` to `i` write `v`. The measure is what is left of the line. Assumes nothing.
use Prim.Native.Nat.{◌-◌}
use lib.ListN.{length}
use Rattle.json_text.proofs.NumberLaws.{Reading}
use Rattle.json_text.proofs.values.number_at.Given as goal

abbrev pub invariant-loop-i : goal.invariant-loop-i
invariant-loop-i l =
    Reading l.line l.at l.v l.i

abbrev pub decreases-loop-i : goal.decreases-loop-i
decreases-loop-i l =
    length l.line - l.i
