-- A plain string is compared as it stands. Assumes nothing.
use mathlib.Core.Path.{sym, ◌∙◌}
use Rattle.json_text.proofs.PlainLaws.{plain_string}
use Rattle.authinfo.proofs.OnePassLaws.{plain_is}
use Rattle.authinfo.proofs.words.Word.is.Goals as goal

pub returns-in-Some : goal.returns-in-Some
returns-in-Some c =
    c.same.ensures ∙ plain_is c.args.self.now.line.now c.args.self.now.at (plain_string c.args.self.now.line.now c.args.self.now.at (sym c.args.self.now.closes ∙ c.in-Some.is)) c.args.word.now
