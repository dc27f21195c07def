-- The piece is pasted behind the text. Assumes nothing.
use native.Mathlib.Omega.{arith}
use mathlib.Core.Path.{ap, ◌∙◌}
use lib.ListN.{length, length-append}
use Rattle.lines.proofs.OutputLaws.{piece_pasted}
use Rattle.lines.proofs.output.Line.push.Goals as goal

pub returns : goal.returns
returns c =
    let text = piece_pasted c.self.inside.bytes c.args.piece.now c.self.inside.length (omega arith) c.self.invariant c.self.view_is c.requires c.paste.ensures.buffer_after in
    record { text = text; len = ap length text ∙ length-append c.args.self.now c.args.piece.now }
