-- The place is the cursor's behind the name. Assumes nothing.
use Rattle.std.specs.Prelude.{option_map, length}
use mathlib.Core.Path.{sym, ap, ◌∙◌}
use Rattle.json_text.specs.Json.{name_at}
use Rattle.json_text.specs.Access.{member_value}
use Rattle.json_text.specs.declared.Cursor.{Cursor}
use Rattle.json_text.proofs.AccessSteps.{behind_stepped}
use Rattle.json_text.proofs.access.member_value.Goals as goal

pub returns : goal.returns
unfolding member_value
returns c =
    ap (option_map (λ (k : Cursor). k.at)) (sym c.in_ok-behind.was ∙ c.name.ensures)
    ∙ behind_stepped length (name_at c.args.line.now c.args.at)

pub returns-in_err-behind : goal.returns-in_err-behind
unfolding member_value
returns-in_err-behind c =
    c.from_residual.ensures
    ∙ (ap (option_map (λ (k : Cursor). k.at)) (sym c.in_err-behind.was ∙ c.name.ensures)
    ∙ behind_stepped length (name_at c.args.line.now c.args.at))
