-- By the kind of what stands there: a string, or something else. Assumes nothing.
use mathlib.Core.Path.{sym, ◌∙◌}
use Rattle.rule.proofs.MemberLaws.{no_text}
use Rattle.authinfo.proofs.words.closing_quote.Goals as goal

pub returns-in_default : goal.returns-in_default
returns-in_default c =
    sym (no_text c.args.line.now c.args.at (λ e. c.in_default.not-Text (c.kind_at.ensures ∙ e)))
