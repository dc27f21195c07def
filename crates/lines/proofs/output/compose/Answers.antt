-- The pieces in their order. Assumes nothing.
use Rattle.lines.proofs.OutputLaws.{all_pieces}
use Rattle.lines.proofs.output.compose.Goals as goal

pub returns : goal.returns
returns c =
    rw (
      c.push-4.ensures.text,
      c.push_line.ensures.text,
      c.push_decimal-2.ensures.text,
      c.push-3.ensures.text,
      c.push-2.ensures.text,
      c.word_text.ensures.text,
      c.push.ensures.text,
      c.push_decimal.ensures.text,
      c.new-line.ensures.text,
    )
    (all_pieces c.args.n c.args.said)
