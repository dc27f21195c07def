-- `store::check::text_rules` meets its contract, which has its tests in the same order. Assumes nothing.
use mathlib.Core.Path.{sym, ◌∙◌}
use Rattle.store.proofs.OpenLaws.{text_read, text_short, text_unpadded}
use Rattle.store.proofs.check.text_rules.Goals.{then-part-used-via-then-part-used, then-part-used-via-else-part-used+then-not-all_zero}
use Rattle.store.proofs.check.text_rules.Goals as goal

pub returns-then-part-used : goal.returns-then-part-used
returns-then-part-used c =
    elim c.then-part-used.branch [
      | then-part-used-via-then-part-used w ↦ text_short c.args.used c.args.part.now w.if-part-used.true
      | then-part-used-via-else-part-used+then-not-all_zero w ↦
          text_unpadded c.args.used c.args.part.now w.if-part-used.false (sym w.all_zero.ensures ∙ w.if-not-all_zero.true)
    ]

pub returns : goal.returns
returns c =
    c.ok.ensures.value ∙ text_read c.args.used c.args.part.now c.if-part-used.false (sym c.all_zero.ensures ∙ c.if-not-all_zero.false) c.count_rules.ensures
