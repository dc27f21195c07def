-- By the comparisons. Assumes nothing.
use mathlib.Core.Path.{sym, ◌∙◌}
use Rattle.authinfo.proofs.OnePassLaws.{is_permission, is_action, is_topic, is_qos, is_retain, is_other}
use Rattle.authinfo.proofs.one_pass.with_member.Goals as goal

pub returns-then-same : goal.returns-then-same
returns-then-same c =
    is_permission c.args.value.now.line.now c.args.name.now c.args.value.now.at c.args.found (sym c.same.ensures ∙ c.if-same.true) c.permission.ensures

pub returns-then-same-2 : goal.returns-then-same-2
returns-then-same-2 c =
    is_action c.args.value.now.line.now c.args.name.now c.args.value.now.at c.args.found (sym c.same-2.ensures ∙ c.if-same-2.true) c.action.ensures

pub returns-then-same-3 : goal.returns-then-same-3
returns-then-same-3 c =
    is_topic c.args.value.now.line.now c.args.name.now c.args.value.now.at c.args.found (sym c.same-3.ensures ∙ c.if-same-3.true) c.args.value.now.closes

pub returns-then-same-4 : goal.returns-then-same-4
returns-then-same-4 c =
    is_qos c.args.value.now.line.now c.args.name.now c.args.value.now.at c.args.found (sym c.same-4.ensures ∙ c.if-same-4.true)

pub returns-then-same-5 : goal.returns-then-same-5
returns-then-same-5 c =
    is_retain c.args.value.now.line.now c.args.name.now c.args.value.now.at c.args.found (sym c.same-5.ensures ∙ c.if-same-5.true)

pub returns : goal.returns
returns c =
    is_other c.args.value.now.line.now c.args.name.now c.args.value.now.at c.args.found (sym c.same.ensures ∙ c.if-same.false) (sym c.same-2.ensures ∙ c.if-same-2.false) (sym c.same-3.ensures ∙ c.if-same-3.false) (sym c.same-4.ensures ∙ c.if-same-4.false) (sym c.same-5.ensures ∙ c.if-same-5.false)
