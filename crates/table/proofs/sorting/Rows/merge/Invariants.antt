-- `table::sorting::Rows::merge` meets its contract. The loop's invariant: what was written is what was taken. Assumes nothing.
use Prim.Native.Nat.{◌+◌, ◌≤◌}
use mathlib.Core.Path.{◌≡◌}
use lib.ListN.{length}
use Rattle.table.proofs.sorting.Rows.merge.Given as goal

abbrev pub invariant-loop-k : goal.invariant-loop-k
invariant-loop-k l =
    (l.i ≤ length l.left) × (l.j ≤ length l.right) × (l.i + l.j ≡ l.k)
