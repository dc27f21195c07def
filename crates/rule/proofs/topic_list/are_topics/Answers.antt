-- The elements are those at the places of the array. Assumes nothing.
use mathlib.Core.Path.{◌∙◌}
use borrow.Author.Rules.{rules}
use Rattle.std.proofs.lemmas.Iterator.Consumers.{YieldsList-from_first}
use Rattle.std.proofs.lemmas.Iterator.Search.{all_from_yields_List}
use Rattle.rule.proofs.TopicLaws.{is_topic, topics_all}
use Rattle.json_text.specs.Access.{places_from}
use Rattle.rule.proofs.topic_list.are_topics.Goals as goal

pub returns : goal.returns
unfolding is_topic
returns c =
    all_from_yields_List (is_topic c.args.line.now) c.all.new.self _ c.all.result c.all.ensures.ran
    (YieldsList-from_first (λ x. x) (λ s. places_from s.line.now s.next) _ (λ i. places_from (c.new.ensures.0 i).now (c.new.ensures.1 i)))
    (λ x b q k. search rules)
    ∙ topics_all c.args.line.now c.args.at
