-- The decision: document 01, Plugin decisions; `AclHandler::hook` of lib.rs.
use Rattle.std.specs.Prelude.{ℕ, suc, Bool, true, false, ◌&&◌, ◌||◌, not, cond, List, [], ◌∷◌, eqb, Option, None, Some}
use Rattle.text.specs.Text.{same}
use Rattle.topic.specs.Topic.{tree_match}
use Rattle.table.specs.Table.{some_row}
use Rattle.rule.specs.Rule.{Meaning, TopicOf, is_template}
use Rattle.rule.specs.RuleText.{rules_of}
use Rattle.rule.specs.Identity.{Client, agrees, superuser}
use Rattle.rule.specs.declared.Control.{Control}
use Rattle.rule.specs.declared.Control.TheVariants.{All, Connect, Publish, Subscribe, Pubsub}
use Rattle.store.specs.Store.{FilterRow, EqRow, View}
use Rattle.store.specs.View.{view}
use Rattle.questions.specs.Question.{Question, connect, subscribe, publish, Decision, kept, connects, subscribes, publishes, not_authorized, unspecified_error, Reply, refuses, decides, question_cause}

-- who asks
unfoldable pub client : Question → Client
client (connect earlier c) = c
client (subscribe earlier c topic qos) = c
client (publish earlier c topic disconnect) = c

-- "Connect's 3 and 4 and the others' 2 are returned as kept, rule 0; other codes count as 0"
unfoldable pub keeps : Question → Option ℕ
keeps (connect earlier c) = cond (eqb earlier 3 || eqb earlier 4) (Some earlier) None
keeps (subscribe earlier c topic qos) = cond (eqb earlier 2) (Some earlier) None
keeps (publish earlier c topic disconnect) = cond (eqb earlier 2) (Some earlier) None

-- what is asked, whatever the earlier answer was: a subscribe and a publish ask for a topic
pub data Wish : Type 0 where
  to_connect : Wish
  to_subscribe : List ℕ → Wish
  to_publish : List ℕ → Wish

unfoldable pub wish : Question → Wish
wish (connect earlier c) = to_connect
wish (subscribe earlier c topic qos) = to_subscribe topic
wish (publish earlier c topic disconnect) = to_publish topic

-- does a rule's control cover it? connect: all, connect; subscribe: all, subscribe, pubsub; publish: all, publish, pubsub
unfoldable pub covers : Control → Wish → Bool
covers All w = true
covers Connect to_connect = true
covers Connect (to_subscribe topic) = false
covers Connect (to_publish topic) = false
covers Publish to_connect = false
covers Publish (to_subscribe topic) = false
covers Publish (to_publish topic) = true
covers Subscribe to_connect = false
covers Subscribe (to_subscribe topic) = true
covers Subscribe (to_publish topic) = false
covers Pubsub to_connect = false
covers Pubsub (to_subscribe topic) = true
covers Pubsub (to_publish topic) = true

-- "the text equals an eq of this rule, static .. or T-matches one of this rule's static filters": a template is neither
unfoldable pub static_agrees : List ℕ → TopicOf (List ℕ) → Bool
static_agrees topic t = not (is_template t.text) && cond t.eq (same t.text topic) (tree_match t.text topic)

-- an eq row of rule n, from 0, that is the text; a filter row of rule n and this client that T-matches it
unfoldable pub eq_agrees : ℕ → List ℕ → EqRow → Bool
eq_agrees n topic r = eqb r.rule n && same r.text topic

unfoldable pub filter_agrees : ℕ → List ℕ → List ℕ → FilterRow → Bool
filter_agrees n id topic r = eqb r.rule n && (same r.owner id && tree_match r.text topic)

-- "is there a filter row such that ..", "is there an eq row such that ..": a decision looks at rows in no other way
module _ (some_filter : (FilterRow → Bool) → Bool) (some_eq : (EqRow → Bool) → Bool) where
  -- "Topics agree if all, or the text equals an eq of this rule, static or row, or T-matches one of this rule's static filters or of its
  -- filter rows owned by this client": an empty array has no topic, and its rows count
  unfoldable pub topics_agree : ℕ → List ℕ → List ℕ → Option (List (TopicOf (List ℕ))) → Bool
  topics_agree n id topic None = true
  topics_agree n id topic (Some topics) =
      some_row (static_agrees topic) topics || (some_eq (eq_agrees n topic) || some_filter (filter_agrees n id topic))

  -- "connect skips topics"
  unfoldable pub wish_agrees : Wish → ℕ → List ℕ → Option (List (TopicOf (List ℕ))) → Bool
  wish_agrees to_connect n id topics = true
  wish_agrees (to_subscribe topic) n id topics = topics_agree n id topic topics
  wish_agrees (to_publish topic) n id topics = topics_agree n id topic topics

  -- rule n agrees: "control, users and topics all agree"
  unfoldable pub rule_agrees : Client → Wish → ℕ → Meaning → Bool
  rule_agrees c w n r = covers r.control w && (agrees r c && wish_agrees w n c.id r.topics)

  -- the first rule that agrees, with its number, counted from n; a line that is no rule agrees with nothing
  unfoldable pub first_from : Client → Wish → ℕ → List (Option Meaning) → Option (ℕ × Meaning)
  first_from c w n [] = None
  first_from c w n (None ∷ rules) = first_from c w (suc n) rules
  first_from c w n (Some r ∷ rules) = cond (rule_agrees c w n r) (Some (n, r)) (first_from c w (suc n) rules)

-- "A refused subscribe stands for the Rust's `UnspecifiedError`, every other refusal .. for `NotAuthorized`. A refused publish carries the
-- caller's disconnect flag"; rules counted from 1
unfoldable pub refusal : Question → ℕ → Decision
refusal (connect earlier c) n = not_authorized n None
refusal (subscribe earlier c topic qos) n = unspecified_error n
refusal (publish earlier c topic disconnect) n = not_authorized n (Some disconnect)

-- "connect allow carries superuser, subscribe allow the asked QoS"
unfoldable pub allowance : Question → ℕ → Meaning → Decision
allowance (connect earlier c) n r = connects n (superuser r)
allowance (subscribe earlier c topic qos) n r = subscribes n qos
allowance (publish earlier c topic disconnect) n r = publishes n

-- "the first rule whose control, users and topics all agree decides. .. None: refused, rule 0"
unfoldable pub by_rule : Question → Option (ℕ × Meaning) → Decision
by_rule q None = refusal q 0
by_rule q (Some f) = cond f.1.allow (allowance q (suc f.0) f.1) (refusal q (suc f.0))

unfoldable pub or_kept : Option ℕ → Decision → Decision
or_kept None d = d
or_kept (Some code) d = kept code

-- the decision on a rule text and tests of rows
unfoldable pub decide : Question → List ℕ → ((FilterRow → Bool) → Bool) → ((EqRow → Bool) → Bool) → Reply
decide q text some_filter some_eq = decides (or_kept (keeps q) (by_rule q (first_from some_filter some_eq (client q) (wish q) 0 (rules_of text))))

-- "3 store not as laid out"
unfoldable pub decided : Question → Option View → Reply
decided q None = refuses 3 0
decided q (Some v) = decide q v.text (λ p. some_row p v.filters) (λ p. some_row p v.eqs)

-- 1 and 2 come before 3
unfoldable pub ask_view : Question → Option View → Reply
ask_view q o = elim (question_cause q) [ None ↦ decided q o | Some n ↦ refuses n 0 ]

unfoldable pub ask : Question → List ℕ → Reply
ask q s = ask_view q (view s)
