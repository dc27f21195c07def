-- By what stands behind the control. Assumes nothing.
use Rattle.std.specs.Prelude.{Some}
use mathlib.Core.Path.{refl, sym, ap, ◌∙◌}
use Rattle.json_text.proofs.PlainLaws.{plain_string}
use Rattle.rule.proofs.OnePassLaws.{rule_map, control_last, control_more, at_end}
use Rattle.rule.proofs.one_pass.from_control.Goals as goal

pub returns-in-Comma : goal.returns-in-Comma
returns-in-Comma c =
    rule_map c.from_topics.result
    (λ rule h.
    control_more c.args.line.now c.args.allow c.args.users c.args.at (plain_string c.args.line.now c.args.at (sym c.in_ok-end.ensures))
    (sym c.in_ok-word_of.ensures) (sym c.in_ok-control.ensures) (sym c.in_ok-next.ensures ∙ ap Some c.in-Comma.is) h)
    c.from_topics.ensures

pub returns-in-Close : goal.returns-in-Close
returns-in-Close c =
    at_end c.args.line.now _ _ c.at_end.ensures
    (λ e.
    control_last c.args.line.now c.args.allow c.args.users c.args.at (plain_string c.args.line.now c.args.at (sym c.in_ok-end.ensures))
    (sym c.in_ok-word_of.ensures) (sym c.in_ok-control.ensures) (sym c.in_ok-next.ensures ∙ ap Some c.in-Close.is) refl e)
