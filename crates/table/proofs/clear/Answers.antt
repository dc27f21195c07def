-- `table::clear` meets its contract. Assumes nothing.
use mathlib.Core.Path.{sym}
use Rattle.table.proofs.ByteLaws.{cleared_not, cleared_before, cleared_part}
use Rattle.table.proofs.clear.Goals as goal
use Rattle.table.proofs.clear.Goals.{else-from-to-via-then-from-to+else-to-buffer, else-from-to-via-else-from-to}

pub returns-then-to-buffer : goal.returns-then-to-buffer
returns-then-to-buffer c =
    rw (c.fill.ensures.after (λ y e. e)) (sym (cleared_part c.args.from c.args.to c.args.buffer.now c.if-from-to.true c.if-to-buffer.true))

pub returns-else-from-to : goal.returns-else-from-to
returns-else-from-to c =
    elim c.else-from-to.branch [
      | else-from-to-via-then-from-to+else-to-buffer w ↦ sym (cleared_not c.args.from c.args.to c.args.buffer.now w.if-to-buffer.false)
      | else-from-to-via-else-from-to w ↦ sym (cleared_before c.args.from c.args.to c.args.buffer.now w.if-from-to.false)
    ]
