-- By what `check` answers. Assumes nothing.
use Rattle.std.specs.Prelude.{is_some}
use mathlib.Core.Path.{ap, ◌∙◌}
use Rattle.json_text.specs.Json.{line_value}
use Rattle.json_text.proofs.DocumentLaws.{checked_document}
use Rattle.json_text.proofs.values.is_document.Goals as goal

pub returns : goal.returns
returns c = c.is_some.ensures ∙ (ap is_some c.check.ensures ∙ checked_document (line_value c.args.line.now))
