-- The length is that of the string. Assumes nothing.
use Rattle.std.specs.Prelude.{ℕ, option_map}
use mathlib.Core.Path.{sym, ap, ◌∙◌}
use Rattle.json_text.specs.Json.{Read}
use Rattle.json_text.proofs.AccessSteps.{length_scanned}
use Rattle.json_text.proofs.access.decoded_length.Goals as goal

pub returns : goal.returns
returns c =
    ap (option_map (λ (r : Read ℕ). r.value)) (sym c.in_ok-read.was ∙ c.scan_string.ensures) ∙ length_scanned c.args.line.now c.args.at

pub returns-in_err-read : goal.returns-in_err-read
returns-in_err-read c =
    c.from_residual.ensures
    ∙ (ap (option_map (λ (r : Read ℕ). r.value)) (sym c.in_err-read.was ∙ c.scan_string.ensures) ∙ length_scanned c.args.line.now c.args.at)
