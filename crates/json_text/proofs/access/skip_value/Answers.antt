-- The place is the cursor's behind the value. Assumes nothing.
use Rattle.std.specs.Prelude.{option_map}
use mathlib.Core.Path.{sym, ap, ◌∙◌}
use Rattle.json_text.specs.Json.{longest}
use Rattle.json_text.specs.Access.{value_here}
use Rattle.json_text.specs.declared.Cursor.{Cursor}
use Rattle.json_text.proofs.AccessSteps.{behind_stepped}
use Rattle.json_text.proofs.access.skip_value.Goals as goal

pub returns : goal.returns
returns c =
    ap (option_map (λ (k : Cursor). k.at)) (sym c.in_ok-behind.was ∙ c.value.ensures)
    ∙ behind_stepped longest (value_here c.args.line.now c.args.at)

pub returns-in_err-behind : goal.returns-in_err-behind
returns-in_err-behind c =
    c.from_residual.ensures
    ∙ (ap (option_map (λ (k : Cursor). k.at)) (sym c.in_err-behind.was ∙ c.value.ensures)
    ∙ behind_stepped longest (value_here c.args.line.now c.args.at))
