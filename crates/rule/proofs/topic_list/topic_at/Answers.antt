-- The topic of a value, by its kind. Assumes nothing.
use mathlib.Core.Path.{sym, ◌∙◌}
use Rattle.rule.proofs.TopicLaws.{topic_string, topic_eq, topic_no_eq, topic_other}
use Rattle.rule.proofs.topic_list.topic_at.Goals as goal

pub returns-in-Text : goal.returns-in-Text
returns-in-Text c = c.string_topic.ensures ∙ sym (topic_string c.args.line.now c.args.at (sym c.kind_at.ensures ∙ c.in-Text.is))

pub returns-in_err-text_member-in-Object : goal.returns-in_err-text_member-in-Object
returns-in_err-text_member-in-Object c =
    c.from_residual.ensures
    ∙ sym (topic_no_eq c.args.line.now c.args.at (sym c.kind_at.ensures ∙ c.in-Object.is) (sym c.in_err-text_member-in-Object.ensures))

pub returns-in_ok-text_member-in-Object : goal.returns-in_ok-text_member-in-Object
returns-in_ok-text_member-in-Object c =
    c.string_topic-in-Object.ensures ∙ sym (topic_eq c.args.line.now c.args.at (sym c.kind_at.ensures ∙ c.in-Object.is) (sym c.in_ok-text_member-in-Object.ensures))

pub returns-in_default : goal.returns-in_default
returns-in_default c =
    sym (topic_other c.args.line.now c.args.at (λ e. c.in_default.not-Text (c.kind_at.ensures ∙ e)) (λ e. c.in_default.not-Object (c.kind_at.ensures ∙ e)))
