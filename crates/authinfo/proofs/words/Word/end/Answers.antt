-- A plain string ends at its quote, another value where the step over it does. Assumes nothing.
use native.Mathlib.Omega.{arith}
use mathlib.Core.Path.{sym, ◌∙◌}
use Rattle.json_text.proofs.PlainLaws.{plain_string}
use Rattle.rule.proofs.OnePassLaws.{part_read}
use Rattle.authinfo.proofs.OnePassLaws.{plain_part}
use Rattle.authinfo.proofs.words.Word.end.Goals as goal

pub returns-in-Some : goal.returns-in-Some
returns-in-Some c =
    plain_part c.args.self.now.line.now c.args.self.now.at (plain_string c.args.self.now.line.now c.args.self.now.at (sym c.args.self.now.closes ∙ c.in-Some.is)) c.args.longest (omega arith) (omega arith)

pub returns : goal.returns
returns c =
    part_read 7 c.args.self.now.line.now c.args.self.now.at c.args.longest (sym c.value.ensures ∙ c.in_ok-c.was) c.if-c-gt-TEXT.false
