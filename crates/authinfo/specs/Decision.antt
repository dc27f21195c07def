-- What the rules of a client decide: document 01, Per-client rules and Refusals by operation; `AuthInfo` of rmqtt/src/acl.rs.
use Rattle.std.specs.Prelude.{ℕ, suc, Bool, true, false, ◌&&◌, ◌||◌, not, cond, List, [], ◌∷◌, eqb, ltb, length, Option, None, Some, Ok, Err}
use Rattle.std.specs.Bool.{beq}
use Rattle.text.specs.Text.{same}
use Rattle.topic.specs.Topic.{plain_match}
use Rattle.json_text.specs.Lines.{lines}
use Rattle.rule.specs.Limits.{text_limit, lines_limit, id_limit}
use Rattle.rule.specs.Refusals.{number}
use Rattle.rule.specs.declared.Fault.{Fault}
use Rattle.rule.specs.declared.Refusal.TheVariants.{TooLong, OutOfRange}
use Rattle.authinfo.specs.ClientRule.{Topic, ClientRule, read_line}
use Rattle.authinfo.specs.declared.Action.{Action}
use Rattle.authinfo.specs.declared.Action.TheVariants.{All, Publish, Subscribe}

-- who asks: the id and, if there is one, the user name; and whether as a superuser
pub record Client : Type 0 where
  pub superuser : Bool
  pub id : List ℕ
  pub name : Option (List ℕ)

-- what is asked: a subscribe with its QoS, a publish with its QoS, retain and disconnect flags, and the topic
pub data Question : Type 0 where
  subscribe : (qos : ℕ) → (topic : List ℕ) → Question
  publish : (qos : ℕ) → (retain : Bool) → (disconnect : Bool) → (topic : List ℕ) → Question

-- an answer that is no refusal by number: allowed by a rule, or rule 0 for a superuser, a subscribe with the asked QoS; refused by a rule, with
-- the Rust's reason, a publish with the caller's disconnect flag; or no decision (rule 0). Rules count from 1
pub data Decision : Type 0 where
  subscribes : (rule : ℕ) → (qos : ℕ) → Decision
  publishes : (rule : ℕ) → Decision
  not_authorized : (rule : ℕ) → (disconnect : Option Bool) → Decision
  no_decision : Decision

-- a decision, or a refusal with its number and its line
pub data Reply : Type 0 where
  refuses : (number : ℕ) → (line : ℕ) → Reply
  decides : Decision → Reply

-- the QoS and the topic that are asked for
unfoldable pub qos_asked : Question → ℕ
qos_asked (subscribe qos topic) = qos
qos_asked (publish qos retain disconnect topic) = qos

unfoldable pub topic_asked : Question → List ℕ
topic_asked (subscribe qos topic) = topic
topic_asked (publish qos retain disconnect topic) = topic

-- which questions an action covers: `all` both, each other one its own (acl.rs)
unfoldable pub covers : Action → Question → Bool
covers All q = true
covers Publish (subscribe qos topic) = false
covers Publish (publish qos retain disconnect topic) = true
covers Subscribe (subscribe qos topic) = true
covers Subscribe (publish qos retain disconnect topic) = false

-- the QoS is among those of the rule: "an empty array never hits"
unfoldable pub among : ℕ → List ℕ → Bool
among q [] = false
among q (level ∷ levels) = eqb level q || among q levels

unfoldable pub qos_hits : Option (List ℕ) → ℕ → Bool
qos_hits None q = true
qos_hits (Some levels) q = among q levels

-- "An allow rule with retain false doesn't hit a retained publish, with true it hits either; a deny rule needs equality"
unfoldable pub publish_retain : Bool → Option Bool → Bool → Bool
publish_retain allow None retained = true
publish_retain true (Some retain) retained = retain || not retained
publish_retain false (Some retain) retained = beq retain retained

-- "Subscribe ignores retain"
unfoldable pub retain_hits : Bool → Option Bool → Question → Bool
retain_hits allow retain (subscribe qos topic) = true
retain_hits allow retain (publish qos retained disconnect topic) = publish_retain allow retain retained

-- "compared exactly .. else a filter", matched by P
unfoldable pub topic_hits : Topic → List ℕ → Bool
topic_hits t topic = cond t.eq (same t.text topic) (plain_match t.text topic)

-- a rule hits: its action, QoS, retain and topic all do
unfoldable pub hits : Question → ClientRule → Bool
hits q r =
    covers r.action q && (qos_hits r.qos (qos_asked q) && (retain_hits r.allow r.retain q && topic_hits r.topic (topic_asked q)))

-- the rules of a text, or its first faulty line
pub data TextRead : Type 0 where
  faulty : Fault → TextRead
  reads : List ClientRule → TextRead

unfoldable pub with_rule : ClientRule → TextRead → TextRead
with_rule r (faulty f) = faulty f
with_rule r (reads rules) = reads (r ∷ rules)

-- all lines are read, whatever they decide, counted from n
unfoldable pub read_lines : List ℕ → Option (List ℕ) → ℕ → List (List ℕ) → TextRead
read_lines id name n [] = reads []
read_lines id name n (line ∷ rest) =
    elim (read_line id name line) [
      | Err cause ↦ faulty (record { cause = cause; line = n })
      | Ok r ↦ with_rule r (read_lines id name (suc n) rest)
    ]

-- "the first rule that hits", with its number, counted from n
unfoldable pub first_hit : Question → ℕ → List ClientRule → Option (ℕ × ClientRule)
first_hit q n [] = None
first_hit q n (r ∷ rules) = cond (hits q r) (Some (n, r)) (first_hit q (suc n) rules)

-- "answers carry the QoS or disconnect flag as the plugin's do"
unfoldable pub allowance : Question → ℕ → Decision
allowance (subscribe qos topic) n = subscribes n qos
allowance (publish qos retain disconnect topic) n = publishes n

-- "every other refusal, per-client ones too, for `NotAuthorized`"
unfoldable pub refusal : Question → ℕ → Decision
refusal (subscribe qos topic) n = not_authorized n None
refusal (publish qos retain disconnect topic) n = not_authorized n (Some disconnect)

-- "the first rule that hits decides .. No hit: no decision, rule 0"
unfoldable pub by_rule : Question → Option (ℕ × ClientRule) → Decision
by_rule q None = no_decision
by_rule q (Some h) = cond h.1.allow (allowance q h.0) (refusal q h.0)

-- "Superuser allows, rule 0, once nothing is refused by number"
unfoldable pub decision : Bool → Question → List ClientRule → Decision
decision superuser q rules = cond superuser (allowance q 0) (by_rule q (first_hit q 1 rules))

-- a refusal with its number and its line
unfoldable pub refuse : Fault → Reply
refuse f = refuses (number f.cause) f.line

unfoldable pub on_text : Bool → Question → TextRead → Reply
on_text superuser q (faulty f) = refuse f
on_text superuser q (reads rules) = decides (decision superuser q rules)

-- "text over 32,768"
abbrev pub client_text_limit : ℕ
client_text_limit = 32768

-- "QoS over 2"
abbrev pub qos_limit : ℕ
qos_limit = 2

-- "id or name over 64", where a name is given
unfoldable pub name_over : Option (List ℕ) → Bool
name_over None = false
name_over (Some n) = ltb id_limit (length n)

-- "1 id, name or topic as above, text over 32,768 (line 0), then over 256 lines (line 257). 2 QoS over 2"
unfoldable pub causes : Client → List ℕ → Question → List (Bool × Fault)
causes c rules q =
    (ltb id_limit (length c.id) || (name_over c.name || (ltb text_limit (length (topic_asked q)) || ltb client_text_limit (length rules))), record { cause = TooLong; line = 0 })
    ∷ (ltb lines_limit (length (lines rules)), record { cause = TooLong; line = suc lines_limit })
    ∷ (ltb qos_limit (qos_asked q), record { cause = OutOfRange; line = 0 })
    ∷ []

-- "The first cause in the order listed gives the number (and line ..)"
unfoldable pub first_fault : List (Bool × Fault) → Option Fault
first_fault [] = None
first_fault (c ∷ rest) = cond c.0 (Some c.1) (first_fault rest)

-- the reply to a question, by the text of the client's rules
unfoldable pub ask : Client → List ℕ → Question → Reply
ask c rules q =
    elim (first_fault (causes c rules q)) [
      | Some f ↦ refuse f
      | None ↦ on_text c.superuser q (read_lines c.id c.name 1 (lines rules))
    ]
