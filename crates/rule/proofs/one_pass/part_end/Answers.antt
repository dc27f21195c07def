-- The value that was passed over is the part. Assumes nothing.
use mathlib.Core.Path.{sym}
use borrow.Author.Tests.{leb-true}
use lib.Dec.{leb}
use Rattle.rule.specs.Limits.{text_limit}
use Rattle.rule.proofs.OnePassLaws.{then_told, part_read}
use Rattle.rule.proofs.one_pass.part_end.Goals as goal

pub returns : goal.returns
returns c =
    then_told _ (leb c.in_ok-behind.behind.longest text_limit) c.then_some.ensures (λ e. part_read 6 c.args.line.now c.args.at c.args.longest (sym c.in_ok-behind.ensures) (leb-true _ _ e))
