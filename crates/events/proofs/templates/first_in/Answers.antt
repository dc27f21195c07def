-- `events::templates::first_in` meets its contract: by what `read_rule` answers. Assumes nothing.
use mathlib.Core.Path.{sym, ap, ◌∙◌}
use Rattle.events.specs.Templates.{first_of}
use Rattle.events.proofs.TemplateWalk.{first_by, first_by_lem}
use Rattle.events.proofs.templates.first_in.Goals as goal

pub returns-in_err-ok : goal.returns-in_err-ok
unfolding first_by
returns-in_err-ok c =
    let read = first_by_lem c.args.line.now c.read_rule.ensures (sym c.ok.ensures.value ∙ c.in_err-ok.was) in
    c.from_residual.ensures ∙ sym (read)

pub returns-in_err-branch : goal.returns-in_err-branch
unfolding first_by first_of
returns-in_err-branch c =
    let read = first_by_lem c.args.line.now c.read_rule.ensures (sym c.ok.ensures.value ∙ c.in_ok-ok.was) in
    c.from_residual-in_err-branch.ensures ∙ sym (read ∙ ap (first_of c.args.line.now) c.in_err-branch.was)

pub returns : goal.returns
unfolding first_by first_of
returns c =
    let read = first_by_lem c.args.line.now c.read_rule.ensures (sym c.ok.ensures.value ∙ c.in_ok-ok.was) in
    c.first_element.ensures ∙ sym (read ∙ ap (first_of c.args.line.now) c.in_ok-branch.was)
