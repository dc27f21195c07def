-- The elements' places are gone over one by one. Assumes nothing.
use mathlib.Core.Path.{◌∙◌}
use borrow.Author.Rules.{rules}
use Rattle.std.proofs.lemmas.Iterator.Search.{any_from_yields_List}
use Rattle.std.proofs.lemmas.Iterator.Consumers.{YieldsList-from_first}
use Rattle.json_text.specs.declared.access.Elements.{Elements}
use Rattle.json_text.specs.Access.{places_from}
use Rattle.questions.specs.Parts.{topic_agrees_at}
use Rattle.questions.proofs.DecisionLaws.{some_in}
use Rattle.questions.proofs.decision.some_topic_agrees.Goals as goal

pub returns : goal.returns
returns c =
    let places = YieldsList-from_first (λ p. p) (λ (s : Elements). places_from s.line.now s.next) {s = c.new.result} _ (λ i. places_from (c.new.ensures.0 i).now (c.new.ensures.1 i)) in
    any_from_yields_List (topic_agrees_at c.args.topic.now c.args.line.now) c.any.new.self _ c.any.result c.any.ensures.ran places (λ x b q k. search rules)
    ∙ some_in c.args.topic.now c.args.line.now c.args.array
