-- The string is that of the member's place. Assumes nothing.
use mathlib.Core.Path.{refl, sym, ap, ◌∙◌}
use Rattle.rule.specs.Members.{text_from}
use Rattle.rule.proofs.MemberLaws.{text_by}
use Rattle.rule.proofs.listed.text_member.Goals as goal

pub returns : goal.returns
returns c =
    c.text_at.ensures ∙ (ap (text_from c.args.line.now) c.member.ensures ∙ sym (text_by c.args.line.now c.args.name.now c.args.at refl))
