-- The number's value is that of the digits. Assumes nothing.
use Rattle.std.specs.Prelude.{ℕ, option_map}
use mathlib.Core.Path.{sym, ap, ◌∙◌}
use Rattle.json_text.specs.Json.{Read}
use Rattle.json_text.specs.Access.{number_here}
use Rattle.json_text.proofs.access.number_value.Goals as goal

pub returns : goal.returns
unfolding number_here
returns c = ap (option_map (λ (r : Read ℕ). r.value)) (sym c.in_ok-read.was ∙ c.number_at.ensures)

pub returns-in_err-read : goal.returns-in_err-read
unfolding number_here
returns-in_err-read c = c.from_residual.ensures ∙ ap (option_map (λ (r : Read ℕ). r.value)) (sym c.in_err-read.was ∙ c.number_at.ensures)
