-- `table::remove` meets its contract. The loop's invariant, `Removing`: the rows passed that stay are closed up to before `to`, and from `from`
-- on the table is as it was. Assumes nothing.
use Prim.Native.Nat.{◌-◌}
use mathlib.Core.Path.{sym, ◌∙◌}
use native.Mathlib.Nat.{add-sub_cancel_left}
use native.Mathlib.Omega.{arith}
use Rattle.table.proofs.RowLaws.{rows_short, rows_end, removing_none, removing_apart, removing_gone, removing_moved, removing_here, test_goes, test_stays, test_end}
use Rattle.table.proofs.remove.Goals as goal
use Rattle.table.proofs.remove.Goals.{then-not-goes, then-to-from, else-to-from, else-not-goes, else-loop-test, then-loop-test+then-table-from}

pub loop-init : goal.loop-init
loop-init g c =
    removing_none _ _ _ _

pub move_row-requires-clause-apart : goal.move_row-requires-clause-apart
move_row-requires-clause-apart g c =
    removing_apart c.loop.invariant c.if-to-from.true

pub loop-preserved : goal.loop-preserved
loop-preserved g c =
    let told = rw add-sub_cancel_left at c.goes.ensures in
    elim c.if-not-goes.branch [
      | then-not-goes w ↦ elim w.if-to-from.branch [
        | then-to-from w' ↦ rw (w.table-is, w'.table-is, w'.move_row.ensures, w.to-is, w.stay-is) (removing_moved c.loop.invariant c.loop-test.true (omega arith) (test_stays _ c.loop.counter _ (sym told ∙ w.if-not-goes.true)))
        | else-to-from w' ↦ rw (w.table-is, w'.table-is, w.to-is, w.stay-is) (removing_here c.loop.invariant c.loop-test.true (omega arith) w'.if-to-from.false (test_stays _ c.loop.counter _ (sym told ∙ w.if-not-goes.true)))
      ]
      | else-not-goes w ↦ rw (w.table-is, w.to-is, w.stay-is) (removing_gone c.loop.invariant c.loop-test.true (omega arith) (test_goes _ c.loop.counter _ (sym told ∙ w.if-not-goes.false)))
    ]

pub returns : goal.returns
returns g c =
    let end = test_end (elim c.loop-test.branch [
      | else-loop-test w ↦ rows_end _ _ _ _ w.loop-test.false
      | then-loop-test+then-table-from w ↦ rows_short c.args.size (c.args.used - c.loop.counter) c.loop.from c.args.table.now (omega (arith, c.loop.invariant.lengths, w.if-table-from.true))
    ])
    _ c.loop.invariant in
    record { value = end.0; table_after = c.clear.ensures ∙ end.1 }
