-- The value is passed over, and read where no string of it is over the limit. Assumes nothing.
use native.Mathlib.Omega.{arith}
use mathlib.Core.Path.{sym, ap, ◌∙◌}
use borrow.Author.Tests.{lt-ltb, le-ltb}
use Rattle.json_text.specs.Json.{longest}
use Rattle.json_text.proofs.ElementLaws.{stepped-none, stepped_some}
use Rattle.rule.specs.Limits.{text_limit}
use Rattle.rule.specs.Places.{users_of_place}
use Rattle.rule.specs.Front.{told_to}
use Rattle.rule.proofs.FrontLaws.{users_none, users_long, users_within_lem}
use Rattle.rule.proofs.one_pass.users_passed.Goals as goal

pub returns-in_err-c : goal.returns-in_err-c
returns-in_err-c c =
    c.from_residual.ensures ∙ sym (users_none c.args.line.now c.args.allow c.args.at (stepped-none longest 0 _ (sym c.in_err-c.ensures)))

pub returns-then-c-gt-TEXT : goal.returns-then-c-gt-TEXT
returns-then-c-gt-TEXT c =
    let r = stepped_some longest 0 _ (sym c.in_ok-c.ensures) in
    sym (users_long c.args.line.now c.args.allow c.args.at r.is (lt-ltb text_limit (longest r.value) (omega (arith, r.long, c.if-c-gt-TEXT.true))))

pub returns-in_err-users_at : goal.returns-in_err-users_at
unfolding told_to users_of_place
returns-in_err-users_at c =
    let r = stepped_some longest 0 _ (sym c.in_ok-c.ensures) in
    c.from_residual-in_err-users_at.ensures
    ∙ sym
    (users_within_lem c.args.line.now c.args.allow c.args.at r.is (le-ltb text_limit (longest r.value) (omega (arith, r.long, c.if-c-gt-TEXT.false)))
    ∙ ap (told_to _) (sym c.in_err-users_at.ensures))

pub returns : goal.returns
unfolding told_to users_of_place
returns c =
    let r = stepped_some longest 0 _ (sym c.in_ok-c.ensures) in
    sym
    (users_within_lem c.args.line.now c.args.allow c.args.at r.is (le-ltb text_limit (longest r.value) (omega (arith, r.long, c.if-c-gt-TEXT.false)))
    ∙ ap (told_to _) (sym c.in_ok-users_at.ensures))
