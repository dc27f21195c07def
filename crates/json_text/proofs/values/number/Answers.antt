-- The cursor behind the digits. Assumes nothing.
use Rattle.std.specs.Prelude.{ℕ, option_map}
use mathlib.Core.Path.{sym, ap, ◌∙◌}
use Rattle.json_text.specs.Json.{Read, number_at}
use Rattle.json_text.proofs.StepLaws.{number_stepped}
use Rattle.json_text.proofs.values.number.Goals as goal

pub returns : goal.returns
returns c =
    ap (option_map (λ (r : Read ℕ). record { at = r.next; longest = c.args.c.longest })) (sym c.in_ok-read.was ∙ c.number_at.ensures)
    ∙ number_stepped c.args.c.longest (number_at c.args.line.now c.args.c.at)

pub returns-in_err-read : goal.returns-in_err-read
returns-in_err-read c =
    c.from_residual.ensures
    ∙ (ap (option_map (λ (r : Read ℕ). record { at = r.next; longest = c.args.c.longest })) (sym c.in_err-read.was ∙ c.number_at.ensures)
    ∙ number_stepped c.args.c.longest (number_at c.args.line.now c.args.c.at))
