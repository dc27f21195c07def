-- `table::put_number` meets its contract: the bytes of the number are pasted. Assumes nothing.
use mathlib.Core.Path.{ap, ◌∙◌}
use Rattle.text.specs.Text.{pasted}
use Rattle.table.proofs.ByteLaws.{u16_bytes}
use Rattle.table.proofs.put_number.Goals as goal

pub returns : goal.returns
returns c =
    c.paste.ensures.buffer_after ∙ ap (λ b. pasted c.args.at b c.args.bytes.now) (c.to_le_bytes.ensures ∙ u16_bytes c.args.n c.ranges.n.fits)
