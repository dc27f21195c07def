-- The topic was read where its value was passed over. Assumes nothing.
use Rattle.std.specs.Prelude.{is_some}
use mathlib.Core.Path.{sym, ap, ◌∙◌}
use Rattle.rule.proofs.OnePassLaws.{then_told, value_topic}
use Rattle.rule.proofs.one_pass.topic_passed.Goals as goal

pub returns : goal.returns
returns c =
    let t = c.in_ok-end.ensures in
    then_told _ c.is_some.result c.then_some.ensures (λ e. value_topic c.args.line.now c.args.at t.reads t.short (ap is_some (sym c.topic_at.ensures) ∙ (sym c.is_some.ensures ∙ e)))
