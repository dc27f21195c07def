-- By the kind of the byte that the line begins with: an array, or something else. Assumes nothing.
use native.Mathlib.Omega.{arith}
use mathlib.Core.Path.{sym, ◌∙◌}
use Rattle.json_text.proofs.ScanLaws.{at_within}
use Rattle.rule.proofs.MemberLaws.{array_opens, no_array}
use Rattle.rule.proofs.FrontLaws.{access_unopened, access_word_at}
use Rattle.rule.proofs.one_pass.access_end.Goals as goal

pub overflow_add-first : goal.overflow_add-first
overflow_add-first c =
    omega (arith, at_within c.args.line.now _ 0x5b (omega arith) (array_opens c.args.line.now _ (sym c.kind_at.ensures ∙ c.in-Array.is)))

pub returns-in-Array : goal.returns-in-Array
returns-in-Array c =
    c.access_word.ensures ∙ sym (access_word_at c.args.line.now c.skip_blanks-first.ensures (array_opens c.args.line.now _ (sym c.kind_at.ensures ∙ c.in-Array.is)) c.skip_blanks.ensures)

pub returns-in_default : goal.returns-in_default
returns-in_default c =
    sym (access_unopened c.args.line.now c.skip_blanks-first.ensures (no_array c.args.line.now _ (λ e. c.in_default.not-Array (c.kind_at.ensures ∙ e))))
