-- What the functions that read a rule in one pass over its line tell, where they answer: the line's elements from a place on, up to its end.
use Rattle.std.specs.Prelude.{ℕ, ◌-◌, ◌≤◌, ◌≡◌, Bool, false, List, length, Option, Some, Ok}
use Rattle.json_text.specs.Json.{Json, array, Elements, no_element, element, skip_blanks, items_at, element_at, value_at, line_value, longest, longest_element}
use Rattle.json_text.specs.declared.Read.{Read}
use Rattle.json_text.specs.Access.{count}
use Rattle.rule.specs.Limits.{line_limit, text_limit, topics_limit}
use Rattle.rule.specs.Rule as spec
use Rattle.rule.specs.Rule.{nth, topic_of, topics_in}
use Rattle.rule.specs.RuleText.{read_rule}
use Rattle.rule.specs.Places.{place_of, fourth_of, rule_answer, too_many, control_here, users_of_place, with_topics, with_control, with_users}
use Rattle.rule.specs.declared.Control.{Control}
use Rattle.rule.specs.declared.Users.{Users}
use Rattle.rule.specs.declared.Rule.{Rule}

-- a value inside as many brackets that ends before a place: no string of it, nor one of so many bytes, is over the limit
pub record PartTo (depth : ℕ) (line : List ℕ) (at before end : ℕ) : Type 0 where
  pub value : Json
  pub reads : value_at depth line at ≡ Some (record { value = value; next = end })
  pub within : before ≤ text_limit
  pub short : longest value ≤ text_limit

-- a topic that ends before this place, no string of which is over the limit
pub record TopicTo (line : List ℕ) (at end : ℕ) : Type 0 where
  pub value : Json
  pub topic : spec.Topic
  pub reads : value_at 6 line at ≡ Some (record { value = value; next = end })
  pub short : longest value ≤ text_limit
  pub is : topic_of (record { at = at; value = value }) ≡ Some topic

-- and the topics of an array, no more of them than a rule may have
pub record TopicsTo (line : List ℕ) (at end : ℕ) : Type 0 where
  pub elements : Elements
  pub topics : List spec.Topic
  pub reads : value_at 7 line at ≡ Some (record { value = array elements; next = end })
  pub short : longest_element elements ≤ text_limit
  pub few : count elements ≤ topics_limit
  pub are : topics_in elements ≡ Some topics

-- the elements of the line's array from a place on, of which this holds; behind them the line ends
abbrev pub elements_from : List ℕ → ℕ → Option (Read Elements)
elements_from line at = items_at no_element (λ e rest. element e.0 e.1 rest) (element_at (value_at 7 line)) 0x5d line (length line - at) at

pub record Tail (line : List ℕ) (at : ℕ) (holds : Elements → Type 0) : Type 0 where
  pub rest : Elements
  pub next : ℕ
  pub reads : elements_from line at ≡ Some (record { value = rest; next = next })
  pub ends : skip_blanks line next ≡ length line
  pub short : longest_element rest ≤ text_limit
  pub fine : holds rest

-- the rule, by what is left of it: the topics; control and topics; users, control and topics; and the whole
abbrev pub FromTopics : List ℕ → Bool → Users → Control → ℕ → Rule → Type 0
FromTopics line allow users control at rule =
    Tail line at (λ rest. (too_many line (place_of (nth 0 rest)) ≡ false) × (with_topics line allow users control (place_of (nth 0 rest)) ≡ Some rule))

abbrev pub FromControl : List ℕ → Bool → Users → ℕ → Rule → Type 0
FromControl line allow users at rule =
    Tail line at (λ rest. (too_many line (place_of (nth 1 rest)) ≡ false) × (with_control line allow users (control_here line (place_of (nth 0 rest))) (place_of (nth 1 rest)) ≡ Some rule))

abbrev pub FromUsers : List ℕ → Bool → ℕ → Rule → Type 0
FromUsers line allow at rule =
    Tail line at (λ rest. (too_many line (place_of (nth 2 rest)) ≡ false) × (with_users line allow (users_of_place line allow (place_of (nth 0 rest))) (place_of (nth 1 rest)) (place_of (nth 2 rest)) ≡ Some rule))

abbrev pub IsRule : List ℕ → Rule → Type 0
IsRule line rule = length line ≤ line_limit → rule_answer (fourth_of (line_value line)) (read_rule line) ≡ Ok rule
