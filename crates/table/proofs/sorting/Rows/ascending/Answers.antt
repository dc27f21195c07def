-- `table::sorting::Rows::ascending` meets its contract: rows that ascend are distinct. Assumes nothing.
use mathlib.Core.Path.{sym}
use native.Mathlib.Omega.{arith}
use borrow.Author.Rules.{rules}
use Rattle.table.proofs.OrderLaws.{ascending_distinct}
use Rattle.table.proofs.sorting.Rows.ascending.Goals as goal

pub returns : goal.returns
returns c =
    sym (ascending_distinct c.args.self.now.size c.args.self.now.used c.args.self.now.table.now c.args.order.now (search rules) c.requires.some (λ k h. c.loop-i.invariant k (omega arith)))
