-- The answer is whether the text fits at the front. Assumes nothing.
use mathlib.Core.Path.{sym, ◌∙◌}
use mathlib.Core.Bool.{true, false}
use Rattle.json_text.proofs.PlainLaws.{pasted_front, copied_by}
use Rattle.json_text.proofs.strings.copy_text.Goals as goal

pub returns-then-paste : goal.returns-then-paste
returns-then-paste c =
    record { value = copied_by {fits = true} c.args.text.now c.args.buffer.now (sym c.if-paste.true ∙ c.paste.ensures.value); buffer_after = c.paste.ensures.buffer_after ∙ pasted_front c.args.text.now c.args.buffer.now }

pub returns : goal.returns
returns c =
    record { value = copied_by {fits = false} c.args.text.now c.args.buffer.now (sym c.if-paste.false ∙ c.paste.ensures.value); buffer_after = c.paste.ensures.buffer_after ∙ pasted_front c.args.text.now c.args.buffer.now }
