-- Past the line stands no byte, whose kind is `Other`. Assumes nothing.
use mathlib.Core.Path.{sym, ap, ◌∙◌}
use Rattle.json_text.specs.Json.{kind_of}
use Rattle.json_text.specs.Access.{kind_at}
use Rattle.json_text.proofs.ScanLaws.{byte_here}
use Rattle.json_text.proofs.AccessSteps.{kind_past}
use Rattle.json_text.proofs.access.kind_at.Goals as goal

pub returns-then-line-at : goal.returns-then-line-at
returns-then-line-at c =
    sym (kind_past c.args.line.now c.args.at c.if-line-at.true)

pub returns : goal.returns
unfolding kind_at
returns c =
    c.kind_of.ensures ∙ ap kind_of (sym (byte_here c.args.line.now c.args.at c.if-line-at.false))
