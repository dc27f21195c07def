-- `table::row_at` meets its contract: the whole rows of a table are as many as its length divided by their size. Assumes nothing.
use mathlib.Core.Path.{sym}
use native.Mathlib.Nat.{add-sub_cancel_left}
use native.Mathlib.Omega.{arith}
use lib.ListN.{length}
use Rattle.table.proofs.ByteLaws.{row_fits, row_not, row_at_none, row_at_whole, row_at_not}
use Rattle.table.proofs.row_at.Goals as goal
use Rattle.table.proofs.row_at.Goals.{then-size-eq0-via-then-size-eq0, then-size-eq0-via-else-size-eq0+then-table-size}

pub returns-then-size-eq0 : goal.returns-then-size-eq0
returns-then-size-eq0 c =
    elim c.then-size-eq0.branch [
      | then-size-eq0-via-then-size-eq0 w ↦ rw w.if-size-eq0.true (sym (row_at_none c.args.i c.args.table.now))
      | then-size-eq0-via-else-size-eq0+then-table-size w ↦ sym (row_at_not c.args.size c.args.i c.args.table.now (row_not c.args.size c.args.i (length c.args.table.now) (omega (arith, w.if-size-eq0.false)) w.if-table-size.true))
    ]

pub returns : goal.returns
returns c =
    rw add-sub_cancel_left (sym (row_at_whole c.args.size c.args.i c.args.table.now (row_fits c.args.size c.args.i (length c.args.table.now) (omega arith) c.if-table-size.false)))
