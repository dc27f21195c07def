-- What the pass over a line's members tells, where it answers.
use Rattle.std.specs.Prelude.{ℕ, ◌≤◌, ◌≡◌, cond, List, Option, Some, Bool, None, Result}
use Rattle.text.specs.Ascii.{ascii}
use Rattle.text.specs.Text.{same}
use Rattle.json_text.specs.Json.{Json, skip_blanks, line_value, longest}
use Rattle.json_text.specs.Plain.{plain_text}
use Rattle.rule.specs.Limits.{text_limit}
use Rattle.rule.specs.Members.{truth_from}
use Rattle.authinfo.specs.Places.{places_at, permission_here, action_here, qos_of_asked, qos_here, topic_from, with_permission}
use Rattle.authinfo.specs.declared.Asked.{Asked}
use Rattle.authinfo.specs.declared.RulePlaces.{RulePlaces}
use Rattle.authinfo.specs.declared.RuleParts.{RuleParts}
use Rattle.rule.specs.declared.Refusal.{Refusal}

-- the closing quote of the string at a place, if it is plain
unfoldable pub quote_at : List ℕ → Option ℕ → Option ℕ
quote_at line None = None
quote_at line (Some p) = plain_text line p

-- what the members at these places tell: two words, three places and the topic's closing quote
unfoldable pub parts_at : List ℕ → RulePlaces → RuleParts
parts_at line m =
    record {
      permission = permission_here line m.permission;
      action = action_here line m.action;
      qos = m.qos;
      retain = m.retain;
      topic = m.topic;
      quote = quote_at line m.topic;
    }

abbrev pub no_parts : RuleParts
no_parts = record { permission = None; action = None; qos = None; retain = None; topic = None; quote = None }

-- with those of one member more: its name, and the place of its value
unfoldable pub with_member : List ℕ → List ℕ → ℕ → RuleParts → RuleParts
with_member line name p parts =
    record {
      permission = cond (same name (ascii "permission")) (permission_here line (Some p)) parts.permission;
      action = cond (same name (ascii "action")) (action_here line (Some p)) parts.action;
      qos = cond (same name (ascii "qos")) (Some p) parts.qos;
      retain = cond (same name (ascii "retain")) (Some p) parts.retain;
      topic = cond (same name (ascii "topic")) (Some p) parts.topic;
      quote = cond (same name (ascii "topic")) (plain_text line p) parts.quote;
    }

-- the rule of an object whose members tell this
unfoldable pub parts_say : List ℕ → RuleParts → Asked → List ℕ → Option (List ℕ) → List ℕ → Result (Option Bool) Refusal
parts_say line parts a id name topic =
    with_permission
    (truth_from line parts.retain)
    a
    parts.permission
    parts.action
    (qos_here line (qos_of_asked a) parts.qos)
    (topic_from topic id name line parts.topic)

-- a line that is a document, no string of which is over the limit, and what its members tell
pub record LineTo (line : List ℕ) (parts : RuleParts) : Type 0 where
  pub value : Json
  pub reads : line_value line ≡ Some value
  pub short : longest value ≤ text_limit
  pub are : parts ≡ parts_at line (places_at line (skip_blanks line 0))
