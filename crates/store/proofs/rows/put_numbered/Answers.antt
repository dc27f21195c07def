-- `store::rows::put_numbered` meets its contract: each write is into the zeros that `fill` left. Assumes nothing.
use native.Mathlib.Omega.{arith}
use lib.ListN.{take, length-take}
use Rattle.rule.specs.Limits.{text_limit}
use Rattle.store.specs.Layout.{numbered_codec, eq_codec}
use Rattle.store.proofs.RowLaws.{put_row_not, put_numbered}
use Rattle.store.proofs.rows.put_numbered.Goals as goal

pub returns-then-row-ne-EQ : goal.returns-then-row-ne-EQ
unfolding numbered_codec
returns-then-row-ne-EQ c =
    put_row_not eq_codec _ c.args.row.now c.if-row-ne-EQ.true

pub returns : goal.returns
returns c =
    put_numbered c.args.n (take text_limit c.args.text.now) c.args.row.now (omega (arith, length-take text_limit c.args.text.now)) c.if-row-ne-EQ.false
    (c.fill.ensures.after (λ y e. e)) c.put_number.ensures c.put_field.ensures
