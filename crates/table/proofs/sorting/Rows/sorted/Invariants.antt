-- `table::sorting::Rows::sorted` meets its contract. The loop's invariant: the width is not 0. The measure is what the width lacks to `used`.
-- Assumes nothing.
use Prim.Native.Nat.{◌-◌, ◌<◌}
use Rattle.table.proofs.sorting.Rows.sorted.Given as goal

abbrev pub invariant-loop-width : goal.invariant-loop-width
invariant-loop-width g l =
    0 < l.width

abbrev pub decreases-loop-width : goal.decreases-loop-width
decreases-loop-width g l =
    l.self.used - l.width
