-- A text without `%` has no mark. Assumes nothing.
use mathlib.Core.Path.{sym, ◌∙◌}
use Rattle.rule.proofs.TopicLaws.{template_none}
use Rattle.rule.proofs.topic_list.is_template.Goals as goal

pub returns-else-contains : goal.returns-else-contains
returns-else-contains c = c.if-contains.false ∙ sym (template_none c.args.text.now (sym c.contains.ensures.value ∙ c.if-contains.false))
