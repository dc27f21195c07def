-- The bool is that of the word. Assumes nothing.
use Rattle.std.specs.Prelude.{option_and_then, Some}
use mathlib.Core.Path.{sym, ap, ◌∙◌}
use Rattle.json_text.proofs.AccessSteps.{truth_in, truth_literal}
use Rattle.json_text.proofs.access.truth.Goals as goal

pub returns-in-True : goal.returns-in-True
returns-in-True c =
    ap (option_and_then truth_in) (sym (c.in_ok-literal_at.was ∙ ap Some c.in-True.is) ∙ c.literal_at.ensures) ∙ truth_literal c.args.line.now c.args.at

pub returns-in-False : goal.returns-in-False
returns-in-False c =
    ap (option_and_then truth_in) (sym (c.in_ok-literal_at.was ∙ ap Some c.in-False.is) ∙ c.literal_at.ensures) ∙ truth_literal c.args.line.now c.args.at

pub returns-in-Null : goal.returns-in-Null
returns-in-Null c =
    ap (option_and_then truth_in) (sym (c.in_ok-literal_at.was ∙ ap Some c.in-Null.is) ∙ c.literal_at.ensures) ∙ truth_literal c.args.line.now c.args.at

pub returns-in_err-literal_at : goal.returns-in_err-literal_at
returns-in_err-literal_at c =
    c.from_residual.ensures ∙ (ap (option_and_then truth_in) (sym c.in_err-literal_at.was ∙ c.literal_at.ensures) ∙ truth_literal c.args.line.now c.args.at)
