-- `table::sorting::pairwise` meets its contract: the first row is compared with all behind it, and then these. Assumes nothing.
use mathlib.Core.Path.{refl, sym, ◌∙◌}
use native.Mathlib.Omega.{arith}
use Rattle.table.proofs.RowLaws.{distinct_step, distinct_short, distinct_end}
use Rattle.table.proofs.sorting.pairwise.Goals as goal

pub returns-in_default : goal.returns-in_default
returns-in_default c =
    let short = rw c.in_default.is at c.split_at_checked.ensures.cases in
    sym (c.loop-i.invariant ∙ distinct_short c.args.size _ c.loop-i.rest.now short)

pub returns-then-present : goal.returns-then-present
returns-then-present c =
    let parts = c.in-Some.ensures.cases in
    let step = distinct_step c.args.size c.args.used c.loop-i.i c.loop-i.rest.now c.loop-i-test.true parts.0 parts.1 parts.2 in
    sym (c.loop-i.invariant ∙ step ∙ rw (← c.present.ensures, c.if-present.true) refl)

pub loop-i-preserved : goal.loop-i-preserved
loop-i-preserved c =
    let parts = c.in-Some.ensures.cases in
    let step = distinct_step c.args.size c.args.used c.loop-i.i c.loop-i.rest.now c.loop-i-test.true parts.0 parts.1 parts.2 in
    c.loop-i.invariant ∙ step ∙ rw (← c.present.ensures, c.if-present.false) refl

pub returns : goal.returns
returns c =
    sym (c.loop-i.invariant ∙ distinct_end _ _ _ (omega arith))
