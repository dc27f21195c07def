-- The word `all` lists nobody. Assumes nothing.
use Rattle.std.specs.Prelude.{Some}
use mathlib.Core.Path.{sym, ap, ◌∙◌}
use Rattle.json_text.proofs.PlainLaws.{plain_string}
use Rattle.rule.proofs.OnePassLaws.{all_users}
use Rattle.rule.proofs.one_pass.everyone_end.Goals as goal

pub returns-in-All : goal.returns-in-All
returns-in-All c allow =
    all_users c.args.line.now allow c.args.at (plain_string c.args.line.now c.args.at (sym c.in_ok-end.ensures))
    (sym c.in_ok-word_of.ensures ∙ ap Some c.in-All.is)
