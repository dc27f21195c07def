-- By the kind of the value at the place. Assumes nothing.
use mathlib.Core.Path.{sym, ap, ◌∙◌}
use Rattle.rule.specs.Front.{told_to}
use Rattle.rule.proofs.FrontLaws.{users_there, users_members, users_neither}
use Rattle.rule.proofs.OnePassLaws.{answered}
use Rattle.rule.specs.Members.{MembersTo}
use Rattle.rule.proofs.one_pass.users_end.Goals as goal

pub returns-then-is_some : goal.returns-then-is_some
returns-then-is_some c = users_there c.args.line.now c.args.allow c.args.at _ (c.everyone_end-everyone.ensures c.args.allow) (sym c.is_some.ensures ∙ c.if-is_some.true)

pub returns-in_err-users_of-in-Object : goal.returns-in_err-users_of-in-Object
unfolding told_to
returns-in_err-users_of-in-Object c =
    c.from_residual.ensures
    ∙ sym
    (users_members c.args.line.now c.args.allow c.args.at (answered (λ r. MembersTo c.args.line.now c.args.at r.value r.next) c.in-Some.is c.members_end.ensures)
    ∙ ap (told_to _) (sym c.in_err-users_of-in-Object.ensures))

pub returns-in_ok-users_of-in-Object : goal.returns-in_ok-users_of-in-Object
unfolding told_to
returns-in_ok-users_of-in-Object c =
    sym
    (users_members c.args.line.now c.args.allow c.args.at (answered (λ r. MembersTo c.args.line.now c.args.at r.value r.next) c.in-Some.is c.members_end.ensures)
    ∙ ap (told_to _) (sym c.in_ok-users_of-in-Object.ensures))

pub returns-in_default : goal.returns-in_default
returns-in_default c =
    sym (users_neither c.args.line.now c.args.allow c.args.at (λ e. c.in_default.not-Text (c.kind_at.ensures ∙ e))
    (λ e. c.in_default.not-Object (c.kind_at.ensures ∙ e)))
