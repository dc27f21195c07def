-- By what filling the topic into 256 bytes answers. Assumes nothing.
use Rattle.std.specs.Option.{option_copied}
use mathlib.Core.Path.{refl, sym, ◌∙◌}
use Rattle.events.specs.Templates.{topic_over}
use Rattle.events.proofs.TemplateWalk.{over_is, over_not, topic_over as over_by}
use Rattle.events.proofs.connecting.topic_over.Goals as goal

pub returns-in-TooLong : goal.returns-in-TooLong
unfolding topic_over
returns-in-TooLong c =
    sym (over_by 0 c.args.who.id.now (option_copied c.args.who.name) c.args.line.now c.args.topic c.args.who.short refl c.fill_topic.ensures.value ∙ over_is c.in-TooLong.is)

pub returns-in_default : goal.returns-in_default
unfolding topic_over
returns-in_default c =
    sym (over_by 0 c.args.who.id.now (option_copied c.args.who.name) c.args.line.now c.args.topic c.args.who.short refl c.fill_topic.ensures.value ∙ over_not _ c.in_default.not-TooLong)
