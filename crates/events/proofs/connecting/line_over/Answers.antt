-- The topics' places are gone over one by one. Assumes nothing.
use borrow.Author.Rules.{rules}
use Rattle.std.specs.Option.{option_copied}
use Rattle.std.proofs.lemmas.Iterator.Search.{any_from_yields_List}
use Rattle.std.proofs.lemmas.Iterator.Consumers.{YieldsList-from_first}
use Rattle.json_text.specs.declared.access.Elements.{Elements}
use Rattle.json_text.specs.Access.{places_from}
use Rattle.events.specs.Templates.{topic_over, line_over}
use Rattle.events.proofs.connecting.line_over.Goals as goal

pub returns : goal.returns
unfolding line_over
returns c =
    let places = YieldsList-from_first (λ p. p) (λ (s : Elements). places_from s.line.now s.next) {s = c.topics.result} _ (λ i. places_from (c.topics.ensures.of_line i).now (c.topics.ensures.from_first i)) in
    any_from_yields_List (topic_over c.args.who.id.now (option_copied c.args.who.name) c.args.line.now) c.any.new.self _ c.any.result c.any.ensures.ran places (λ x b q k. search rules)
