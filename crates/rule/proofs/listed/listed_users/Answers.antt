-- By the object's members. Assumes nothing.
use mathlib.Core.Path.{sym, ◌∙◌}
use Rattle.rule.specs.Members.{places_at}
use Rattle.rule.proofs.MemberLaws.{users_absent, users_listed_lem}
use Rattle.rule.proofs.listed.listed_users.Goals as goal

pub returns-in_err-skip_value : goal.returns-in_err-skip_value
returns-in_err-skip_value c =
    c.from_residual.ensures ∙ sym (users_absent c.args.allow c.args.line.now c.args.at (sym c.in_err-skip_value.ensures))

pub returns : goal.returns
unfolding places_at
returns c =
    c.users_of.ensures
    ∙ sym
    (users_listed_lem c.args.allow c.args.line.now c.args.at (sym c.in_ok-skip_value.ensures)
    (λ i.
    record {
      user = c.member.ensures i;
      password = c.member-2.ensures i;
      superuser = c.member-3.ensures i;
      clientid = c.member-4.ensures i;
      ipaddr = c.member-5.ensures i;
      protocol = c.member-6.ensures i;
    }))
