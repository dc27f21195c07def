-- Nothing is left to replace. Assumes nothing.
use mathlib.Core.Path.{sym}
use borrow.Author.Tests.{eqb-true}
use Rattle.text.proofs.Laws.{replace_nothing, wrote_all}
use Rattle.text.proofs.write_replaced.Goals as goal

pub returns : goal.returns
returns c =
    let end = replace_nothing c.args.pattern.now c.args.new.now _ (eqb-true _ _ (sym c.loop-rest-test.ensures)) in
    wrote_all (rw end at c.loop-rest.invariant)
