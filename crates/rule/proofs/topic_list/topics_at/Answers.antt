-- Each return has the kind of the value. Assumes nothing.
use mathlib.Core.Path.{sym, ◌∙◌}
use Rattle.rule.proofs.TopicLaws.{topics_array, topics_other}
use Rattle.rule.proofs.topic_list.topics_at.Goals as goal

pub returns-in-Array : goal.returns-in-Array
returns-in-Array c =
    c.are_topics.ensures ∙ (topics_array c.args.line.now c.args.at (sym c.kind_at.ensures ∙ c.in-Array.is))

pub returns-in_default : goal.returns-in_default
returns-in_default c =
    sym (topics_other c.args.line.now c.args.at (λ e. c.in_default.not-Array (c.kind_at.ensures ∙ e)))
