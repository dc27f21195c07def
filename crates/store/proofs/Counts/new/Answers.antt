-- `store::Counts::new` meets its contract: the first test that fails puts the counts out of range. Assumes nothing.
use mathlib.Core.Path.{sym, ◌∙◌}
use native.Mathlib.Omega.{arith}
use Rattle.store.specs.Store.{counts_fit, bytes_limit, rows_limit}
use Rattle.store.specs.Check.{counts_read}
use Rattle.store.proofs.OpenLaws.{one_to_lem}
use Rattle.store.proofs.Counts.new.Goals.{else-one_to-via-then-one_to+then-one_to-2+then-one_to-3+else-one_to-4, else-one_to-via-then-one_to+then-one_to-2+else-one_to-3, else-one_to-via-then-one_to+else-one_to-2, else-one_to-via-else-one_to}
use Rattle.store.proofs.Counts.new.Goals as goal

pub overflow_cast-result : goal.overflow_cast-result
overflow_cast-result c =
    omega (arith, one_to_lem bytes_limit c.args.bytes (sym c.one_to.ensures ∙ c.if-one_to.true))

pub overflow_cast-result-then-one_to-4 : goal.overflow_cast-result-then-one_to-4
overflow_cast-result-then-one_to-4 c =
    omega (arith, one_to_lem rows_limit c.args.filters (sym c.one_to-then-one_to.ensures ∙ c.if-one_to-2.true))

pub overflow_cast-result-then-one_to-4-2 : goal.overflow_cast-result-then-one_to-4-2
overflow_cast-result-then-one_to-4-2 c =
    omega (arith, one_to_lem rows_limit c.args.eqs (sym c.one_to-then-one_to-2.ensures ∙ c.if-one_to-3.true))

pub overflow_cast-result-then-one_to-4-3 : goal.overflow_cast-result-then-one_to-4-3
overflow_cast-result-then-one_to-4-3 c =
    omega (arith, one_to_lem rows_limit c.args.notes (sym c.one_to-then-one_to-3.ensures ∙ c.if-one_to-4.true))

pub returns-then-one_to-4 : goal.returns-then-one_to-4
unfolding counts_read counts_fit
returns-then-one_to-4 c =
    rw (
      sym c.one_to.ensures ∙ c.if-one_to.true,
      sym c.one_to-then-one_to.ensures ∙ c.if-one_to-2.true,
      sym c.one_to-then-one_to-2.ensures ∙ c.if-one_to-3.true,
      sym c.one_to-then-one_to-3.ensures ∙ c.if-one_to-4.true,
    )

pub returns-else-one_to : goal.returns-else-one_to
unfolding counts_read counts_fit
returns-else-one_to c =
    elim c.else-one_to.branch [
      | else-one_to-via-then-one_to+then-one_to-2+then-one_to-3+else-one_to-4 w ↦
          rw (
            sym c.one_to.ensures ∙ w.if-one_to.true,
            sym w.one_to-then-one_to.ensures ∙ w.if-one_to-2.true,
            sym w.one_to-then-one_to-2.ensures ∙ w.if-one_to-3.true,
            sym w.one_to-then-one_to-3.ensures ∙ w.if-one_to-4.false,
          )
      | else-one_to-via-then-one_to+then-one_to-2+else-one_to-3 w ↦
          rw (
            sym c.one_to.ensures ∙ w.if-one_to.true,
            sym w.one_to-then-one_to.ensures ∙ w.if-one_to-2.true,
            sym w.one_to-then-one_to-2.ensures ∙ w.if-one_to-3.false,
          )
      | else-one_to-via-then-one_to+else-one_to-2 w ↦
          rw (sym c.one_to.ensures ∙ w.if-one_to.true, sym w.one_to-then-one_to.ensures ∙ w.if-one_to-2.false)
      | else-one_to-via-else-one_to w ↦ rw (sym c.one_to.ensures ∙ w.if-one_to.false)
    ]
