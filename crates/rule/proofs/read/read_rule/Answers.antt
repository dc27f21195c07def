-- By the line's length, what one pass over it reads, and what its check answers. Assumes nothing.
use Rattle.std.specs.Prelude.{Err}
use mathlib.Core.Path.{◌≡◌, sym, ◌∙◌}
use native.Mathlib.Omega.{arith}
use Rattle.std.proofs.lemmas.Grind.{common_steps}
use Rattle.rule.specs.declared.Refusal.TheVariants.{NotJson}
use borrow.Author.Tests.{lt-ltb, le-ltb}
use Rattle.rule.specs.Limits.{text_limit}
use Rattle.rule.specs.OnePass.{IsRule}
use Rattle.rule.proofs.RuleLaws.{read_long, read_invalid, read_valid}
use Rattle.rule.proofs.OnePassLaws.{answered}
use Rattle.rule.proofs.read.read_rule.Goals as goal

pub returns-then-line-gt-LINE : goal.returns-then-line-gt-LINE
returns-then-line-gt-LINE c =
    sym (read_long c.args.line.now c.if-line-gt-LINE.true)

pub returns-then-longest-gt-TEXT : goal.returns-then-longest-gt-TEXT
returns-then-longest-gt-TEXT c =
    sym (read_valid c.args.line.now c.if-line-gt-LINE.false (sym c.check.ensures ∙ c.in_ok-longest.ensures.ok_part) (lt-ltb text_limit c.in_ok-longest.longest c.if-longest-gt-TEXT.true))

pub returns-in_err-longest : goal.returns-in_err-longest
returns-in_err-longest c =
    let none = read_invalid c.args.line.now c.if-line-gt-LINE.false (sym c.check.ensures ∙ c.in_err-longest.ensures.ok_part) in
    let told : c.from_residual.result ≡ Err NotJson = grind (arith, common_steps) in
    told ∙ sym none

pub returns-in-Some : goal.returns-in-Some
returns-in-Some c =
    sym (answered (IsRule c.args.line.now) c.in-Some.is c.in_one_pass.ensures c.if-line-gt-LINE.false)

pub returns : goal.returns
returns c =
    c.rule_of.ensures
    ∙ sym
    (read_valid c.args.line.now c.if-line-gt-LINE.false (sym c.check.ensures ∙ c.in_ok-longest.ensures.ok_part)
    (le-ltb text_limit c.in_ok-longest.longest c.if-longest-gt-TEXT.false))
