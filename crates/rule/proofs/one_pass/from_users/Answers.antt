-- By what stands behind the users. Assumes nothing.
use Rattle.std.specs.Prelude.{Some}
use mathlib.Core.Path.{refl, sym, ap, ◌∙◌}
use Rattle.rule.proofs.FrontLaws.{users_to}
use Rattle.rule.proofs.OnePassLaws.{rule_map, users_last, users_more, at_end}
use Rattle.rule.proofs.one_pass.from_users.Goals as goal

pub returns-in-Comma : goal.returns-in-Comma
returns-in-Comma c =
    let t = users_to c.args.line.now c.args.access.value c.args.access.next (sym c.in_ok-users.ensures) in
    rule_map c.from_control.result
    (λ rule h. users_more c.args.line.now c.args.access.value c.args.access.next t.reads t.short t.are (sym c.in_ok-next.ensures ∙ ap Some c.in-Comma.is) h)
    c.from_control.ensures

pub returns-in-Close : goal.returns-in-Close
returns-in-Close c =
    let t = users_to c.args.line.now c.args.access.value c.args.access.next (sym c.in_ok-users.ensures) in
    at_end c.args.line.now _ _ c.at_end.ensures
    (λ e. users_last c.args.line.now c.args.access.value c.args.access.next t.reads t.short t.are (sym c.in_ok-next.ensures ∙ ap Some c.in-Close.is) refl e)
