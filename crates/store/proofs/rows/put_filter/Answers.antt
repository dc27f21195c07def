-- `store::rows::put_filter` meets its contract: each write is into the zeros that `fill` left. Assumes nothing.
use native.Mathlib.Omega.{arith}
use lib.ListN.{take, length-take}
use Rattle.rule.specs.Limits.{text_limit, id_limit}
use Rattle.store.specs.Layout.{filter_codec}
use Rattle.store.proofs.RowLaws.{put_row_not, put_filter}
use Rattle.store.proofs.rows.put_filter.Goals as goal

pub returns-then-row-ne-FILTER : goal.returns-then-row-ne-FILTER
unfolding filter_codec
returns-then-row-ne-FILTER c =
    put_row_not filter_codec _ c.args.row.now c.if-row-ne-FILTER.true

pub returns : goal.returns
returns c =
    put_filter c.args.rule (take text_limit c.args.text.now) (take id_limit c.args.owner.now) c.args.row.now (omega (arith, length-take text_limit c.args.text.now)) (omega (arith, length-take id_limit c.args.owner.now)) c.if-row-ne-FILTER.false
    (c.fill.ensures.after (λ y e. e)) c.put_number.ensures c.put_field.ensures c.put_field-2.ensures
