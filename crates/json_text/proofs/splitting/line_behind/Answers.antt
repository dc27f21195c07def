-- By its test. Assumes nothing.
use lib.ListN.{length}
use borrow.Author.Tests.{lt-ltb, le-ltb}
use Rattle.json_text.specs.Lines.{line_behind}
use Rattle.json_text.proofs.splitting.line_behind.Goals as goal

pub returns-then-end-text : goal.returns-then-end-text
unfolding line_behind
returns-then-end-text c =
    rw (lt-ltb c.args.end (length c.args.text.now) c.if-end-text.true)

pub returns-else-end-text : goal.returns-else-end-text
unfolding line_behind
returns-else-end-text c =
    rw (le-ltb c.args.end (length c.args.text.now) c.if-end-text.false)
