-- The cursor behind the string. Assumes nothing.
use Rattle.std.specs.Prelude.{ℕ, Some, max, option_map}
use mathlib.Core.Path.{sym, ap, ◌∙◌}
use Rattle.json_text.specs.Json.{Read}
use Rattle.json_text.proofs.StepLaws.{text_stepped}
use Rattle.json_text.proofs.values.string.Goals as goal

pub returns : goal.returns
returns c =
    (λ i. Some (record { at = c.in_ok-read.read.next; longest = c.max.ensures i }))
    ∙ (ap (option_map (λ (r : Read ℕ). record { at = r.next; longest = max c.args.c.longest r.value })) (sym c.in_ok-read.was ∙ c.scan_string.ensures)
    ∙ text_stepped c.args.c.longest c.args.line.now c.args.c.at)

pub returns-in_err-read : goal.returns-in_err-read
returns-in_err-read c =
    c.from_residual.ensures
    ∙ (ap (option_map (λ (r : Read ℕ). record { at = r.next; longest = max c.args.c.longest r.value })) (sym c.in_err-read.was ∙ c.scan_string.ensures)
    ∙ text_stepped c.args.c.longest c.args.line.now c.args.c.at)
