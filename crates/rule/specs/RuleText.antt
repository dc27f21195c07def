-- A whole rule text: its lines as rules, the first faulty line, and its templates filled for a client; document 01, Refusals by operation
-- (Open) and Events.
use Rattle.std.specs.Prelude.{ℕ, suc, Bool, false, ◌||◌, cond, List, [], ◌∷◌, ◌++◌, map, ltb, length, Option, None, Some, ok_or, Result, Ok, Err}
use Rattle.std.specs.Bool.{beq}
use Rattle.text.specs.Maybe.{bind}
use Rattle.json_text.specs.Lines.{lines}
use Rattle.json_text.specs.Json.{Json, null, bool, number, text, array, object, Elements, line_value, longest}
use Rattle.json_text.specs.Access.{count}
use Rattle.rule.specs.Limits.{line_limit, text_limit, topics_limit, lines_limit}
use Rattle.rule.specs.Rule.{Rule, Meaning, TopicOf, means, nth, as_array, rule_of, is_template}
use Rattle.rule.specs.Fill.{fill}
use Rattle.rule.specs.declared.Refusal.{Refusal}
use Rattle.rule.specs.declared.Refusal.TheVariants.{TooLong, NotJson, NotARule}
pub use Rattle.rule.specs.declared.Fault.{Fault}

-- "a fourth element that is an array of over 64"
unfoldable pub fourth_over : Option Elements → Bool
fourth_over None = false
fourth_over (Some es) = ltb topics_limit (count es)

unfoldable pub topics_over : Json → Bool
topics_over v =
    elim v [
      | null ↦ false
      | bool b ↦ false
      | number n ↦ false
      | text t ↦ false
      | array es ↦ fourth_over (bind (nth 3 es) as_array)
      | object ms ↦ false
    ]

-- "6 not a rule"
unfoldable pub or_not_a_rule : {A : Type 0} → Option A → Result A Refusal
or_not_a_rule o = ok_or o NotARule

-- "5 not the JSON above; 1 any decoded string, member names included, over 256 bytes, or a fourth element that is an array of over 64; 6"
unfoldable pub rule_from : Option Json → Result Rule Refusal
rule_from None = Err NotJson
rule_from (Some v) = cond (ltb text_limit (longest v) || topics_over v) (Err TooLong) (or_not_a_rule (rule_of v))

-- "1 over 2,048 bytes" comes first
unfoldable pub read_rule : List ℕ → Result Rule Refusal
read_rule line = cond (ltb line_limit (length line)) (Err TooLong) (rule_from (line_value line))

-- "Then the first faulty line"
unfoldable pub fault_in : ℕ → List (List ℕ) → Option Fault
fault_in n [] = None
fault_in n (line ∷ rest) = elim (read_rule line) [ Err cause ↦ Some (record { cause = cause; line = n }) | Ok r ↦ fault_in (suc n) rest ]

-- "1 .. then over 256 lines (line 257). Then the first faulty line"
abbrev pub over_lines : Fault
over_lines = record { cause = TooLong; line = suc lines_limit }

unfoldable pub text_fault : List ℕ → Option Fault
text_fault t = cond (ltb lines_limit (length (lines t))) (Some over_lines) (fault_in 1 (lines t))

-- the rules of a text: each line has one, or is refused
unfoldable pub rule_on : Result Rule Refusal → Option Meaning
rule_on (Err cause) = None
rule_on (Ok r) = Some (means r)

unfoldable pub rules_of : List ℕ → List (Option Meaning)
rules_of t = map (λ line. rule_on (read_rule line)) (lines t)

-- a filled template: its rule's number from 0, whether it is an eq, and the text
pub record Filled : Type 0 where
  pub rule : ℕ
  pub eq : Bool
  pub text : List ℕ

-- the templates of a rule's topics, filled, in written order
unfoldable pub filled_topics : ℕ → List ℕ → Option (List ℕ) → List (TopicOf (List ℕ)) → List Filled
filled_topics n id name [] = []
filled_topics n id name (t ∷ topics) =
    cond (is_template t.text)
    (record { rule = n; eq = t.eq; text = fill t.text id name } ∷ filled_topics n id name topics)
    (filled_topics n id name topics)

-- the topics that a rule lists
unfoldable pub listed : Option Meaning → List (TopicOf (List ℕ))
listed None = []
listed (Some r) = elim r.topics [ None ↦ [] | Some topics ↦ topics ]

-- "in rule and template order", the rules counted from `n`
unfoldable pub filled_rules : ℕ → List ℕ → Option (List ℕ) → List (Option Meaning) → List Filled
filled_rules n id name [] = []
filled_rules n id name (r ∷ rules) = filled_topics n id name (listed r) ++ filled_rules (suc n) id name rules

unfoldable pub filled : List ℕ → List ℕ → Option (List ℕ) → List Filled
filled t id name = filled_rules 0 id name (rules_of t)

-- the filter templates and the eq templates, each with their order
unfoldable pub of_kind : Bool → List Filled → List Filled
of_kind eq [] = []
of_kind eq (f ∷ fs) = cond (beq f.eq eq) (f ∷ of_kind eq fs) (of_kind eq fs)
