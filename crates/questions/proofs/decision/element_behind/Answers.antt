-- By what separates the elements. Assumes nothing.
use Rattle.std.specs.Prelude.{Some}
use mathlib.Core.Path.{sym, ap, ◌∙◌}
use Rattle.rule.proofs.FrontLaws.{separated, item_by}
use Rattle.questions.proofs.decision.element_behind.Goals as goal

pub returns-in_err-next : goal.returns-in_err-next
unfolding separated
returns-in_err-next c =
    c.from_residual.ensures ∙ sym (item_by c.args.line.now c.args.at (sym c.in_err-next.ensures))

pub returns-in-Comma : goal.returns-in-Comma
unfolding separated
returns-in-Comma c =
    sym (item_by c.args.line.now c.args.at (sym c.in_ok-next.ensures ∙ ap Some c.in-Comma.is))

pub returns-in-Close : goal.returns-in-Close
unfolding separated
returns-in-Close c =
    sym (item_by c.args.line.now c.args.at (sym c.in_ok-next.ensures ∙ ap Some c.in-Close.is))
