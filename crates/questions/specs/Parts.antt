-- The decision on a rule text and used rows that are lent as parts of their own: what the functions of decision.rt answer.
use Rattle.std.specs.Prelude.{ℕ, zero, suc, Bool, true, false, ◌&&◌, ◌||◌, not, cond, List, [], ◌∷◌, length, Option, None, Some, Result, Ok, Err}
use Rattle.text.specs.Maybe.{bind}
use Rattle.text.specs.Text.{same}
use Rattle.topic.specs.Topic.{valid_filter, tree_match}
use Rattle.json_text.specs.Strings.{string_at}
use Rattle.json_text.specs.Json.{line_value}
use Rattle.json_text.specs.Access.{next_item}
use Rattle.table.specs.Table.{some_row}
use Rattle.rule.specs.Limits.{text_limit}
use Rattle.rule.specs.Rule.{Rule, Meaning, means, is_template, topic_of, topic_means}
use Rattle.rule.specs.RuleText.{read_rule, rule_on, rules_of}
use Rattle.rule.specs.Identity.{Client, agrees, superuser}
use Rattle.rule.specs.Places.{value_of, place_of, fourth_of}
use Rattle.rule.specs.declared.Control.{Control}
use Rattle.store.specs.Store.{over, FilterRow, EqRow, View}
use Rattle.store.specs.Layout.{filter_codec, eq_codec, get_all}
use Rattle.questions.specs.declared.Asked.{Asked}
use Rattle.questions.specs.declared.Asked.TheVariants.{Connect, Subscribe, Publish}
use Rattle.questions.specs.declared.Head.{Head}
use Rattle.questions.specs.declared.TopicPassed.{TopicPassed}
use Rattle.questions.specs.declared.TopicPassed.TheVariants.{Agrees as TopicAgrees, Onward}
use Rattle.questions.specs.declared.Deciding.{Deciding}
use Rattle.questions.specs.Decision.{Wish, to_connect, to_subscribe, to_publish, covers, static_agrees, rule_agrees, first_from}
use Rattle.rule.specs.declared.Refusal.{Refusal}

-- what is asked, with the topic beside it
unfoldable pub wish_of : Asked → List ℕ → Wish
wish_of Connect topic = to_connect
wish_of Subscribe topic = to_subscribe topic
wish_of Publish topic = to_publish topic

-- the used rows of a part: all its whole rows
unfoldable pub filter_rows : List ℕ → List FilterRow
filter_rows part = get_all filter_codec (length part) part

unfoldable pub eq_rows : List ℕ → List EqRow
eq_rows part = get_all eq_codec (length part) part

-- a rule's control covers what is asked, whatever the topic
unfoldable pub covers_asked : Control → Asked → Bool
covers_asked control asked = covers control (wish_of asked [])

-- a line before its topics: its rule covers what is asked and means the client, or not; connect has no topics to ask
unfoldable pub topics_for : Asked → Option ℕ → Option ℕ
topics_for Connect topics = None
topics_for Subscribe topics = topics
topics_for Publish topics = topics

unfoldable pub head_of : Client → Asked → Option ℕ → Result Rule Refusal → Option Head
head_of c asked topics (Err cause) = None
head_of c asked topics (Ok r) =
    cond (covers_asked r.control asked && agrees (means r) c) (Some (record { allow = r.allow; superuser = superuser (means r); topics = topics_for asked topics })) None

unfoldable pub head_at : Client → Asked → List ℕ → Option Head
head_at c asked line = head_of c asked (place_of (fourth_of (line_value line))) (read_rule line)

-- a line is a rule, and so is each of these
unfoldable pub is_rule : Result Rule Refusal → Bool
is_rule (Err cause) = false
is_rule (Ok r) = true

unfoldable pub every_rule : List (List ℕ) → Bool
every_rule [] = true
every_rule (line ∷ rest) = is_rule (read_rule line) && every_rule rest

-- the filter at a place of the line T-matches the topic; where no string of at most 256 bytes stands, nothing does
unfoldable pub filter_matches_at : List ℕ → List ℕ → ℕ → Bool
filter_matches_at topic line at =
    elim (string_at line at) [ None ↦ false | Some d ↦ not (over text_limit d.text) && tree_match d.text topic ]

-- the topic at a place of the line agrees; a text over the limit is none here, since no rule that was read has one
unfoldable pub topic_agrees_at : List ℕ → List ℕ → ℕ → Bool
topic_agrees_at topic line at =
    elim (bind (value_of line at) topic_of) [ None ↦ false | Some t ↦ not (over text_limit t.text.text) && static_agrees topic (topic_means t) ]

-- a filter that stands in the line as it is
unfoldable pub text_agrees : List ℕ → List ℕ → Bool
text_agrees topic t = tree_match t topic && (not (over text_limit t) && (not (is_template t) && valid_filter t))

-- and a text under `eq`
unfoldable pub eq_text_agrees : List ℕ → List ℕ → Bool
eq_text_agrees topic t = same t topic && (not (over text_limit t) && not (is_template t))

-- the topic at a place, when it is passed
unfoldable pub passed_topic : List ℕ → List ℕ → ℕ → TopicPassed
passed_topic topic line at = cond (topic_agrees_at topic line at) TopicAgrees (Onward (next_item line at))

-- one of the topics from a place on agrees, of `most` at the most
unfoldable pub some_topic_from : List ℕ → ℕ → List ℕ → Option ℕ → Bool
some_topic_from topic zero line place = false
some_topic_from topic (suc most) line None = false
some_topic_from topic (suc most) line (Some p) = topic_agrees_at topic line p || some_topic_from topic most line (next_item line p)

-- rule n, counted from 0, of a line agrees; a line that is no rule agrees with nothing
unfoldable pub line_agrees : Client → Wish → ℕ → List ℕ → List ℕ → List ℕ → Bool
line_agrees c w n line filters eqs =
    elim (rule_on (read_rule line)) [
      | None ↦ false
      | Some r ↦ rule_agrees (λ p. some_row p (filter_rows filters)) (λ p. some_row p (eq_rows eqs)) c w n r
    ]

-- the first rule that agrees
unfoldable pub deciding_of : Option (ℕ × Meaning) → Option Deciding
deciding_of None = None
deciding_of (Some f) = Some (record { rule = suc f.0; allow = f.1.allow; superuser = superuser f.1 })

unfoldable pub deciding : Client → Wish → List ℕ → List ℕ → List ℕ → Option Deciding
deciding c w text filters eqs =
    deciding_of (first_from (λ p. some_row p (filter_rows filters)) (λ p. some_row p (eq_rows eqs)) c w 0 (rules_of text))

-- the same on what a store means
unfoldable pub deciding_on : Client → Wish → View → Option Deciding
deciding_on c w v = deciding_of (first_from (λ p. some_row p v.filters) (λ p. some_row p v.eqs) c w 0 (rules_of v.text))
