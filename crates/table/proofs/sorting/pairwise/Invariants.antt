-- `table::sorting::pairwise` meets its contract. The loop's invariant: the rows left are distinct if and only if the first `used` are. Assumes nothing.
use Prim.Native.Nat.{◌-◌}
use mathlib.Core.Path.{◌≡◌}
use Rattle.text.specs.Text.{same}
use Rattle.table.specs.Table.{distinct}
use Rattle.table.specs.Bytes.{rows}
use Rattle.table.proofs.sorting.pairwise.Given as goal

abbrev pub invariant-loop-i : goal.invariant-loop-i
invariant-loop-i l =
    distinct same (rows l.size l.used l.table) ≡ distinct same (rows l.size (l.used - l.i) l.rest)
