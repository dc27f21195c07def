-- Document 01, Marked examples of matching and filling: "Proved together, a single claim over one list". The list and the claim. Request b)
-- of document 02: "P's marked lines in document 01 become yes, no and no".
use Rattle.std.specs.Prelude.{ℕ, zero, suc, ◌-◌, Bool, true, false, ◌&&◌, cond, List, [], ◌∷◌, ◌++◌, ◌≡◌, eqb, replicate, Option, None, Some, Result, Ok, Err}
use Prim.Native.String.{String}
use Rattle.std.specs.Bool.{beq}
use Rattle.text.specs.Ascii.{ascii}
use Rattle.text.specs.Text.{same}
use Rattle.topic.specs.Topic.{tree_match, plain_match}
use Rattle.rule.specs.Rule.{Rule}
use Rattle.rule.specs.Fill.{fill}
use Rattle.rule.specs.RuleText.{read_rule}
use Rattle.rule.specs.Refusals.{number}
use Rattle.store.specs.Store.{View}
use Rattle.store.specs.Opening.{opened}
use Rattle.store.specs.View.{openable}
use Rattle.questions.specs.Question.{subscribe, publish, Reply, refuses, decides}
use Rattle.questions.specs.Decision.{ask_view}
use Rattle.events.specs.Event.{connected, cause}
use Rattle.acl.specs.Decide.{counts, bo}
use Rattle.rule.specs.declared.Refusal.{Refusal}

-- T and P of a filter and a checked text; a template filled with a client id and a user name; a rule's protocol. Then lengths, each with
-- the number of the refusal, 0 where it passes: a string of a rule, a member's name too; a text that connected fills, under `eq` too; the
-- topic of a subscribe and a publish. (Those of a client's own rules are in crates/authinfo/proofs/Examples.antt.)
pub data Example : Type 0 where
  T : String → String → Bool → Example
  P : String → String → Bool → Example
  Fills : String → String → String → String → Example
  Protocol : String → ℕ → Example
  Decoded : ℕ → ℕ → Example
  FilledTo : ℕ → ℕ → Example
  Asked : ℕ → ℕ → Example

abbrev pub letters : ℕ → List ℕ
letters n = replicate n 0x61

-- so many letters, each as an escape of six bytes
unfoldable pub escaped : ℕ → List ℕ
escaped zero = []
escaped (suc n) = ascii "\\u0061" ++ escaped n

-- a rule with one topic, with one under `eq`, and one whose users have a member of this name
abbrev pub rule_for : List ℕ → List ℕ
rule_for topic = ascii "[\"allow\",\"all\",\"all\",[\"" ++ (topic ++ ascii "\"]]")

abbrev pub eq_rule_for : List ℕ → List ℕ
eq_rule_for topic = ascii "[\"allow\",\"all\",\"all\",[{\"eq\":\"" ++ (topic ++ ascii "\"}]]")

abbrev pub member_rule : List ℕ → List ℕ
member_rule name = ascii "[\"allow\",{\"" ++ (name ++ ascii "\":0}]")

-- what a store means as Open leaves it for these rules, with the counts of `decide`; none where they are refused
abbrev pub opened_for : List ℕ → Option View
opened_for rules = cond (openable counts rules) (Some (opened counts rules)) None

-- a template that has n bytes once it is filled for an id and a name of so many bytes together
abbrev pub filled_to : ℕ → ℕ → List ℕ
filled_to together n = letters (n - together) ++ ascii "%c%u"

-- the cause of a refusal where a client with an id of 64 bytes, and perhaps a name, connects
abbrev pub connected_by : Option (List ℕ) → List ℕ → Option ℕ
connected_by name rules = cause (connected 1 (letters 64) name) (opened_for rules)

abbrev pub protocol_is : Result Rule Refusal → ℕ → Bool
protocol_is (Err cause) n = false
protocol_is (Ok r) n = elim r.protocol [ None ↦ false | Some m ↦ eqb m n ]

-- the number of a refusal, 0 where there is none
abbrev pub of_rule : Result Rule Refusal → ℕ
of_rule (Err cause) = number cause
of_rule (Ok r) = 0

abbrev pub of_event : Option ℕ → ℕ
of_event None = 0
of_event (Some n) = n

abbrev pub of_reply : Reply → ℕ
of_reply (refuses n place) = n
of_reply (decides d) = 0

abbrev pub holds : Example → Bool
holds (T filter text yes_or_no) = beq (tree_match (ascii filter) (ascii text)) yes_or_no
holds (P filter text yes_or_no) = beq (plain_match (ascii filter) (ascii text)) yes_or_no
holds (Fills template id name result) = same (fill (ascii template) (ascii id) (Some (ascii name))) (ascii result)
holds (Protocol line n) = protocol_is (read_rule (ascii line)) n
holds (Decoded n refusal) =
    eqb (of_rule (read_rule (rule_for (letters n)))) refusal
    && (eqb (of_rule (read_rule (rule_for (escaped n)))) refusal && eqb (of_rule (read_rule (member_rule (letters n)))) refusal)
-- without a name the text is two bytes longer after the first replacement than after both
holds (FilledTo n refusal) =
    eqb (of_event (connected_by None (rule_for (filled_to 64 n)))) refusal
    && (eqb (of_event (connected_by None (eq_rule_for (filled_to 64 n)))) refusal
    && eqb (of_event (connected_by (Some (letters 64)) (rule_for (filled_to 128 n)))) refusal)
holds (Asked n refusal) =
    eqb (of_reply (ask_view (subscribe 0 bo (letters n) 0) (opened_for []))) refusal
    && eqb (of_reply (ask_view (publish 0 bo (letters n) true) (opened_for []))) refusal

abbrev pub all_hold : List Example → Bool
all_hold [] = true
all_hold (e ∷ es) = holds e && all_hold es

-- zero levels are those of a text that is no valid filter, as `$a#`: with a first level, `$` would stop `#`; `#` alone takes them
abbrev pub examples : List Example
examples =
    T "#" "a#" true ∷
    T "#" "$a#" true ∷
    T "+" "a#" false ∷
    T "#" "$SYS/a" false ∷
    T "a/#" "a/$b" true ∷
    P "a/#" "a/$b" true ∷
    P "+" "$SYS/a/b" false ∷
    T "+" "$SYS/a/b" false ∷
    P "+/b" "$SYS/b" false ∷
    T "a/+" "a/#" true ∷
    T "a/+" "a/" true ∷
    T "a/+" "a" false ∷
    Fills "%c/%u" "%u" "bo" "bo/bo" ∷
    Protocol "[\"allow\",{\"protocol\":260}]" 4 ∷
    Decoded 256 0 ∷
    Decoded 257 1 ∷
    FilledTo 256 0 ∷
    FilledTo 257 7 ∷
    Asked 256 0 ∷
    Asked 257 1 ∷
    []

-- all of them together
abbrev pub Marked : Type 0
Marked = all_hold examples ≡ true
