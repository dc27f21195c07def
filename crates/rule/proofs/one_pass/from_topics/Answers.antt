-- The line ends behind the topics. Assumes nothing.
use Rattle.std.specs.Prelude.{Some}
use mathlib.Core.Path.{refl, sym, ap, ◌∙◌}
use Rattle.rule.proofs.OnePassLaws.{topics_tail, at_end}
use Rattle.rule.proofs.one_pass.from_topics.Goals as goal

pub returns : goal.returns
returns c =
    at_end c.args.line.now _ _ c.at_end.ensures
    (λ e. topics_tail c.args.line.now c.args.allow c.args.users c.args.control c.args.at c.in_ok-end.ensures (sym c.in_ok-next.ensures ∙ ap Some c.in-Close.is) refl e)
