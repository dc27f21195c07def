-- The encoded bytes are compared. Assumes nothing.
use mathlib.Core.Path.{ap, ◌∙◌}
use Rattle.text.specs.Text.{begins}
use Rattle.json_text.proofs.Utf8Laws.{encoded-is}
use Rattle.json_text.proofs.strings.begins_with.Goals as goal

pub returns : goal.returns
returns c =
    c.begins.ensures
    ∙ ap (λ p. begins p c.args.text.now) (c.as_bytes.ensures.value ∙ (c.encode_utf8.ensures.value ∙ encoded-is c.args.c))
