-- `table::remove_marked` meets its contract. The loop's invariant, `Removing`: the rows passed that stay are closed up to before `to`, and from `from`
-- on the table is as it was. Assumes nothing.
use Prim.Native.Nat.{◌-◌}
use mathlib.Core.Path.{sym, ◌∙◌}
use native.Mathlib.Omega.{arith}
use Rattle.table.proofs.RowLaws.{rows_short, rows_end, removing_none, removing_apart, removing_gone, removing_moved, removing_here, marks_go, marks_stay, marks_end}
use Rattle.table.proofs.remove_marked.Goals as goal
use Rattle.table.proofs.remove_marked.Goals.{then-not-is_marked, then-to-from, else-to-from, else-not-is_marked, else-loop-i-test, then-loop-i-test+then-table-from}

pub loop-i-init : goal.loop-i-init
loop-i-init c =
    removing_none _ _ _ _

pub move_row-requires-clause-apart : goal.move_row-requires-clause-apart
move_row-requires-clause-apart c =
    removing_apart c.loop-i.invariant c.if-to-from.true

pub loop-i-preserved : goal.loop-i-preserved
loop-i-preserved c =
    elim c.if-not-is_marked.branch [
      | then-not-is_marked w ↦ elim w.if-to-from.branch [
        | then-to-from w' ↦ rw (w.table-is, w'.table-is, w'.move_row.ensures, w.to-is, w.stay-is) (removing_moved c.loop-i.invariant c.loop-i-test.true (omega arith) (marks_stay _ _ _ (sym c.is_marked.ensures ∙ w.if-not-is_marked.true)))
        | else-to-from w' ↦ rw (w.table-is, w'.table-is, w.to-is, w.stay-is) (removing_here c.loop-i.invariant c.loop-i-test.true (omega arith) w'.if-to-from.false (marks_stay _ _ _ (sym c.is_marked.ensures ∙ w.if-not-is_marked.true)))
      ]
      | else-not-is_marked w ↦ rw (w.table-is, w.to-is, w.stay-is) (removing_gone c.loop-i.invariant c.loop-i-test.true (omega arith) (marks_go _ _ _ (sym c.is_marked.ensures ∙ w.if-not-is_marked.false)))
    ]

pub returns : goal.returns
returns c =
    let end = marks_end (elim c.loop-i-test.branch [
      | else-loop-i-test w ↦ rows_end _ _ _ _ w.loop-i-test.false
      | then-loop-i-test+then-table-from w ↦ rows_short c.args.size (c.args.used - c.loop-i.i) c.loop-i.from c.args.table.now (omega (arith, c.loop-i.invariant.lengths, w.if-table-from.true))
    ])
    _ c.loop-i.invariant in
    record { value = end.0; table_after = c.clear.ensures ∙ end.1 }
