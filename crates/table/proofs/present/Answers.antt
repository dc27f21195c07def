-- `table::present` meets its contract: its chunks are the rows. Assumes nothing.
use mathlib.Core.Path.{sym, ap, ◌∙◌}
use borrow.Author.Rules.{rules}
use borrow.Author.Tests.{tests, eqb-true, eqb-false}
use native.Mathlib.Omega.{arith}
use lib.ListN.{length}
use Rattle.std.specs.Slice.Iter.{chunks_exact_rest, chunks_exact_size}
use Rattle.std.proofs.lemmas.Iterator.{YieldsList-from_take}
use Rattle.std.proofs.lemmas.Iterator.Search.{any_from_yields_List}
use Rattle.text.specs.Text.{same}
use Rattle.table.specs.Table.{some_row}
use Rattle.table.specs.Bytes.{present}
use Rattle.table.proofs.ChunkLaws.{YieldsList-from_rows, take-rows, rows_bound, some_row-any}
use Rattle.table.proofs.RowLaws.{present_empty}
use Rattle.table.proofs.present.Goals as goal

pub returns-then-is_empty : goal.returns-then-is_empty
unfolding present
returns-then-is_empty c =
    let none = eqb-true (length c.args.row.now) 0 (sym c.is_empty.ensures ∙ c.if-is_empty.true) in
    rw none (sym (present_empty c.args.row.now c.args.used c.args.table.now none))

pub returns : goal.returns
unfolding present
returns c =
    let size = length c.args.row.now in
    let some = rows_bound size c.args.table.now (omega (arith, eqb-false size 0 (sym c.is_empty.ensures ∙ c.if-is_empty.false))) in
    let of_rows = YieldsList-from_rows size (length c.args.table.now) c.args.table.now (ap chunks_exact_rest c.take.ensures.source ∙ c.chunks_exact.ensures.rest) (ap chunks_exact_size c.take.ensures.source ∙ c.chunks_exact.ensures.size) some in
    any_from_yields_List (same c.args.row.now) _ _ c.any.result c.any.ensures.ran (YieldsList-from_take c.args.used of_rows c.take.ensures.count) (λ x b q k. search (rules, tests))
    ∙ some_row-any (same c.args.row.now) _ ∙ ap (some_row (same c.args.row.now)) (take-rows size c.args.used (length c.args.table.now) c.args.table.now some)
