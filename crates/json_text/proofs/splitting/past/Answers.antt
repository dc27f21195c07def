-- The line goes on to the same end behind bytes of it. Assumes nothing.
use mathlib.Core.Path.{sym, ◌∙◌}
use Rattle.json_text.proofs.LineLaws.{end_later}
use Rattle.json_text.proofs.splitting.past.Goals as goal

pub returns-then-within_line : goal.returns-then-within_line
returns-then-within_line c =
    end_later c.args.text.now c.args.at c.args.n (sym c.within_line.ensures ∙ c.if-within_line.true)
