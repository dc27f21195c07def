-- By what `read_rule` answers, `covers` and `identity`; what `identity` says of places is what the rule means. Assumes nothing.
use mathlib.Core.Path.{refl, ◌∙◌}
use Rattle.questions.proofs.HeadLaws.{head_with, head_by, head_of_rule, head_read}
use Rattle.questions.proofs.decision.head.Goals as goal

pub returns-in_err-rule : goal.returns-in_err-rule
unfolding head_by
returns-in_err-rule c =
    c.from_residual.ensures ∙ head_of_rule c.args.asked c.args.line.now c.args.client.now c.read_rule.ensures c.in_err-rule.ensures.value

pub returns-then-not-covers : goal.returns-then-not-covers
returns-then-not-covers c =
    head_read _ _ _ c.read_rule.ensures c.in_ok-rule.ensures.value c.if-not-covers.ensures refl refl

pub returns-in_err-superuser : goal.returns-in_err-superuser
unfolding head_with
returns-in_err-superuser c =
    c.from_residual-in_err-superuser.ensures
    ∙ head_read _ _ _ c.read_rule.ensures c.in_ok-rule.ensures.value c.if-not-covers.ensures refl c.in_err-superuser.ensures

pub returns : goal.returns
unfolding head_with
returns c =
    head_read _ _ _ c.read_rule.ensures c.in_ok-rule.ensures.value c.if-not-covers.ensures c.asked_topics.ensures c.in_ok-superuser.ensures
