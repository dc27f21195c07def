-- What a host asks beside the calls of document 01: plain names, the templates of a rule text, the used rows of a store.
use Rattle.std.specs.Prelude.{ℕ, suc, ◌+◌, Bool, true, false, ◌&&◌, ◌||◌, not, cond, List, [], ◌∷◌, eqb, length, Option, None, Some}
use Rattle.std.specs.Bool.{beq}
use Rattle.topic.specs.Topic.{metadata}
use Rattle.rule.specs.Rule.{Meaning, TopicOf, is_template}
use Rattle.rule.specs.RuleText.{read_rule, rule_on, rules_of, listed}
use Rattle.store.specs.Store.{View}
use Rattle.hosting.specs.declared.Templates.{Templates}
use Rattle.hosting.specs.declared.Used.{Used}

-- a byte that separates levels or is a wildcard
unfoldable pub is_special : ℕ → Bool
is_special b = eqb b 0x2b || (eqb b 0x23 || eqb b 0x2f)

unfoldable pub no_special : List ℕ → Bool
no_special [] = true
no_special (b ∷ rest) = not (is_special b) && no_special rest

-- a client id or a user name without these bytes, that doesn't begin with `$` either
unfoldable pub plain_name : List ℕ → Bool
plain_name name = not (metadata name) && no_special name

-- the templates of one kind among a rule's topics
unfoldable pub templates_in : Bool → List (TopicOf (List ℕ)) → ℕ
templates_in eq [] = 0
templates_in eq (t ∷ topics) = cond (is_template t.text && beq t.eq eq) (suc (templates_in eq topics)) (templates_in eq topics)

-- among the topics of all rules
unfoldable pub templates_of : Bool → List (Option Meaning) → ℕ
templates_of eq [] = 0
templates_of eq (r ∷ rules) = templates_in eq (listed r) + templates_of eq rules

unfoldable pub line_templates : List ℕ → Templates
line_templates line =
    record { filters = templates_in false (listed (rule_on (read_rule line))); eqs = templates_in true (listed (rule_on (read_rule line))) }

unfoldable pub templates : List ℕ → Templates
templates text = record { filters = templates_of false (rules_of text); eqs = templates_of true (rules_of text) }

-- the used rows of what a store means
unfoldable pub used_in : Option View → Option Used
used_in None = None
used_in (Some v) = Some (record { filters = (length v.filters); eqs = (length v.eqs); notes = (length v.notes) })
