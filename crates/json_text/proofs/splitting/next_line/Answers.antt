-- Behind the line's end. Assumes nothing.
use Rattle.json_text.proofs.LineLaws.{next_from_end}
use Rattle.json_text.proofs.splitting.next_line.Goals as goal

pub returns : goal.returns
returns c =
    next_from_end c.args.text.now c.args.at c.line_end.ensures c.line_behind.ensures
