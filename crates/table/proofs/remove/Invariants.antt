-- `table::remove` meets its contract. The loop's invariant, `Removing`: the rows passed that stay are closed up to before `to`, and from `from`
-- on the table is as it was. Assumes nothing.
use Rattle.table.proofs.RowLaws.{Removing, by_test}
use Rattle.table.proofs.remove.Given as goal

abbrev pub invariant-loop : goal.invariant-loop
invariant-loop g l =
    Removing (by_test (g.T.RowTest.goes l.test)) l.size l.used l.initial.table l.table l.from l.to l.counter l.stay
