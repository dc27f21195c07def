-- `events::templates::fill_topic` meets its contract: by what `topic_at` answers, since the text of the topic stands at its place.
-- Assumes nothing.
use mathlib.Core.Path.{ap, ◌∙◌}
use mathlib.Core.Bool.{true, false}
use Rattle.std.specs.Option.{option_copied}
use Rattle.std.specs.Prelude.{Some}
use Rattle.events.proofs.TemplateWalk.{fills_template, fills_nowhere, fills_none}
use Rattle.events.proofs.templates.fill_topic.Goals as goal

pub returns-in_default : goal.returns-in_default
returns-in_default c =
    let whole = fills_nowhere c.args.line.now c.args.buffer.now c.args.id.now (option_copied c.args.name) c.args.topic c.topic_at.ensures c.in_default.is in
    record { value = whole.0; buffer_after = whole.1 }

pub returns-in-Template : goal.returns-in-Template
returns-in-Template c =
    let whole = fills_template c.args.line.now c.args.buffer.now c.args.id.now (option_copied c.args.name) c.args.topic false _ c.topic_at.ensures (c.in-Some.is ∙ ap Some c.in-Template.is) c.fill.ensures.value c.fill.ensures.buffer_after c.filled_as.ensures in
    record { value = whole.0; buffer_after = whole.1 }

pub returns-in-EqTemplate : goal.returns-in-EqTemplate
returns-in-EqTemplate c =
    let whole = fills_template c.args.line.now c.args.buffer.now c.args.id.now (option_copied c.args.name) c.args.topic true _ c.topic_at.ensures (c.in-Some.is ∙ ap Some c.in-EqTemplate.is) c.fill-in-EqTemplate.ensures.value c.fill-in-EqTemplate.ensures.buffer_after c.filled_as-in-EqTemplate.ensures in
    record { value = whole.0; buffer_after = whole.1 }

pub returns-in_default-found : goal.returns-in_default-found
returns-in_default-found c =
    let whole = fills_none c.args.line.now c.args.buffer.now c.args.id.now (option_copied c.args.name) c.args.topic c.in-Some.found c.topic_at.ensures c.in-Some.is c.in_default-found.not-Template c.in_default-found.not-EqTemplate in
    record { value = whole.0; buffer_after = whole.1 }
