-- A plain string is tested as it stands. Assumes nothing.
use mathlib.Core.Path.{sym, ◌∙◌}
use Rattle.json_text.proofs.PlainLaws.{plain_string}
use Rattle.rule.proofs.OnePassLaws.{plain_topic}
use Rattle.rule.proofs.one_pass.string_end.Goals as goal

pub returns-then-is_topic : goal.returns-then-is_topic
returns-then-is_topic c =
    plain_topic c.args.line.now c.args.at (plain_string c.args.line.now c.args.at (sym c.plain_text.ensures ∙ c.in-Some.is)) c.if-end-at-le-TEXT.true
    (sym c.is_topic.ensures ∙ c.if-is_topic.true)
