-- Each return has the tests that led there: the value, and whether only blanks stand behind it. Assumes nothing.
use mathlib.Core.Path.{refl, sym, ◌∙◌}
use lib.ListN.{length}
use lib.Dec.{eqb}
use Rattle.json_text.proofs.ScanLaws.{told_if}
use Rattle.json_text.proofs.AccessSteps.{checked-bad, checked_by}
use Rattle.json_text.proofs.values.check.Goals as goal

pub returns : goal.returns
returns c =
    c.then_some.ensures
    ∙ (told_if (eqb c.skip_blanks-2.result (length c.args.line.now)) c.in_ok-behind.behind.longest
    ∙ sym (checked_by c.args.line.now c.skip_blanks.ensures (sym c.value.ensures ∙ c.in_ok-behind.was) c.skip_blanks-2.ensures refl))

pub returns-in_err-behind : goal.returns-in_err-behind
returns-in_err-behind c =
    c.from_residual.ensures ∙ sym (checked-bad c.args.line.now c.skip_blanks.ensures (sym c.value.ensures ∙ c.in_err-behind.was))
