-- `table::sorting::Rows::ascending` meets its contract. The loop's invariant: up to before `i` each number is a used row's that comes behind the
-- row of the number before. Assumes nothing.
use Prim.Native.Nat.{ℕ, ◌<◌}
use Rattle.table.proofs.OrderLaws.{Ascends}
use Rattle.table.proofs.sorting.Rows.ascending.Given as goal

abbrev pub invariant-loop-i : goal.invariant-loop-i
invariant-loop-i l =
    (k : ℕ) → k < l.i → Ascends l.self.size l.self.used l.self.table.now l.order k
