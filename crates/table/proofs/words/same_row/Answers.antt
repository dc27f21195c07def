-- `table::words::same_row` meets its contract: rows that differ in a word are not equal. Assumes nothing.
use mathlib.Core.Path.{sym}
use Rattle.text.proofs.Laws.{same_unequal}
use Rattle.table.proofs.words.same_row.Goals as goal

pub returns-else-not-differs : goal.returns-else-not-differs
returns-else-not-differs c =
    rw c.if-not-differs.false (sym (same_unequal c.args.a.now c.args.b.now (c.differs.ensures c.if-not-differs.false)))
