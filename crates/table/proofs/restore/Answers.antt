-- `table::restore` meets its contract. Assumes nothing.
use mathlib.Core.Path.{◌∙◌}
use native.Mathlib.Omega.{arith}
use Rattle.table.specs.Bytes.{restored}
use Rattle.table.proofs.ByteLaws.{cleared_bounded}
use Rattle.table.proofs.restore.Goals as goal

pub returns : goal.returns
unfolding restored
returns c =
    c.clear.ensures ∙ rw (c.saturating_mul.ensures, c.saturating_mul-2.ensures) (cleared_bounded _ _ _ c.args.table.now (omega arith))
