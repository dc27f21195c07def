-- The templates of a rule text by places: what the functions of templates.rt answer.
use Rattle.std.specs.Prelude.{ℕ, zero, suc, Bool, ◌&&◌, not, cond, List, [], ◌∷◌, ◌++◌, Option, None, Some, Result, Ok, Err}
use Rattle.std.specs.List.{list_any}
use Rattle.text.specs.Maybe.{bind}
use Rattle.json_text.specs.Json.{line_value}
use Rattle.json_text.specs.Access.{first_item, next_item, places_from}
use Rattle.table.specs.Table.{some_row}
use Rattle.rule.specs.Limits.{text_limit}
use Rattle.rule.specs.Rule.{Rule, TopicOf, topic_of, topic_means, is_template}
use Rattle.rule.specs.Fill.{fill}
use Rattle.rule.specs.RuleText.{read_rule, Filled, filled}
use Rattle.rule.specs.Places.{value_of, place_of, fourth_of, filling, filled_into}
use Rattle.store.specs.Store.{over}
use Rattle.events.specs.declared.FilledTopic.{FilledTopic}
use Rattle.events.specs.declared.FilledTopic.TheVariants.{Static, TooLong, Filter, Eq}
use Rattle.rule.specs.declared.Refusal.{Refusal}

-- the place of the first topic of a line's rule, and of the topic behind one
unfoldable pub first_of : List ℕ → Option ℕ → Option ℕ
first_of line None = None
first_of line (Some t) = first_item 0x5b 0x5d line t

unfoldable pub first_in : List ℕ → Result Rule Refusal → Option ℕ
first_in line (Err cause) = None
first_in line (Ok r) = first_of line (place_of (fourth_of (line_value line)))

unfoldable pub first_topic : List ℕ → Option ℕ
first_topic line = first_in line (read_rule line)

unfoldable pub next_topic : List ℕ → ℕ → Option ℕ
next_topic line topic = next_item line topic

-- the topic at a place of the line, if it is a template; a text over the limit is none here, since no rule that was read has one
unfoldable pub if_template : TopicOf (List ℕ) → Option (TopicOf (List ℕ))
if_template t = cond (not (over text_limit t.text) && is_template t.text) (Some t) None

unfoldable pub template_at : List ℕ → ℕ → Option (TopicOf (List ℕ))
template_at line at = bind (bind (value_of line at) topic_of) (λ t. if_template (topic_means t))

-- a filled template: its kind and its length
unfoldable pub filled_as : Bool → Option ℕ → FilledTopic
filled_as eq None = TooLong
filled_as eq (Some n) = cond eq (Eq n) (Filter n)

unfoldable pub topic_filling : ℕ → List ℕ → Option (List ℕ) → Option (TopicOf (List ℕ)) → FilledTopic
topic_filling room id name None = Static
topic_filling room id name (Some t) = filled_as t.eq (filling room t.text id name)

unfoldable pub topic_filled : List ℕ → List ℕ → Option (List ℕ) → Option (TopicOf (List ℕ)) → List ℕ
topic_filled buffer id name None = buffer
topic_filled buffer id name (Some t) = filled_into buffer t.text id name

-- the filled templates from a place of the line on, of `most` topics at the most, under the rule's number
unfoldable pub filled_template : ℕ → List ℕ → Option (List ℕ) → Option (TopicOf (List ℕ)) → List Filled
filled_template n id name None = []
filled_template n id name (Some t) = record { rule = n; eq = t.eq; text = fill t.text id name } ∷ []

unfoldable pub filled_from : ℕ → ℕ → List ℕ → Option (List ℕ) → List ℕ → Option ℕ → List Filled
filled_from zero n id name line place = []
filled_from (suc most) n id name line None = []
filled_from (suc most) n id name line (Some p) =
    filled_template n id name (template_at line p) ++ filled_from most n id name line (next_topic line p)

-- the topic at a place is filled to a text over 256, and so is one of a line's
unfoldable pub topic_over : List ℕ → Option (List ℕ) → List ℕ → ℕ → Bool
topic_over id name line p = some_row (λ (f : Filled). over text_limit f.text) (filled_template 0 id name (template_at line p))

unfoldable pub line_over : List ℕ → Option (List ℕ) → List ℕ → Bool
line_over id name line = list_any (topic_over id name line) (places_from line (first_topic line))

-- "7 a text over 256 after both replacements"
unfoldable pub over_filled : List ℕ → List ℕ → Option (List ℕ) → Bool
over_filled text id name = some_row (λ (f : Filled). over text_limit f.text) (filled text id name)
