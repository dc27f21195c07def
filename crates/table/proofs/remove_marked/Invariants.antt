-- `table::remove_marked` meets its contract. The loop's invariant, `Removing`: the rows passed that stay are closed up to before `to`, and from `from`
-- on the table is as it was. Assumes nothing.
use Rattle.table.proofs.RowLaws.{Removing, by_marks}
use Rattle.table.proofs.remove_marked.Given as goal

abbrev pub invariant-loop-i : goal.invariant-loop-i
invariant-loop-i l =
    Removing (by_marks l.marks) l.size l.used l.initial.table l.table l.from l.to l.i l.stay
