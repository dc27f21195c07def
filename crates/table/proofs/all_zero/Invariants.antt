-- `table::all_zero` meets its contract. The loop's invariant: all bytes are zero if `zero` holds and those from `i` on are zero, and `i` is less than
-- a stretch behind the last one. The measure is what is left up to that. Assumes nothing.
use Prim.Native.Nat.{◌-◌}
use mathlib.Core.Path.{◌≡◌}
use mathlib.Core.Bool.{◌&&◌}
use lib.ListN.{drop}
use Rattle.table.specs.Bytes.{zeros}
use Rattle.table.proofs.all_zero.Given as goal

abbrev pub invariant-loop-i : goal.invariant-loop-i
invariant-loop-i l =
    (l.zero && zeros (drop l.i l.bytes)) ≡ zeros l.bytes

abbrev pub decreases-loop-i : goal.decreases-loop-i
decreases-loop-i l =
    l.last - l.i
