-- Laws of the reading functions, each by the tests that its function makes; the step of `count_rules`'s loop. Assumes nothing.
use Prim.Native.Nat.{ℕ, suc, ◌+◌, ◌≤◌, ◌<◌}
use native.Mathlib.Numerals.{add-one}
use native.Mathlib.Omega.{arith}
use mathlib.Core.Path.{◌≡◌, refl, sym, ap, ◌∙◌}
use mathlib.Core.Bool.{Bool, true, false, cond}
use mathlib.Core.List.{List, [], ◌∷◌}
use Rattle.std.specs.Prelude.{Option, None, Some, Ok, Err, Result}
use lib.Dec.{ltb}
use lib.ListN.{length}
use borrow.Author.Tests.{lt-ltb, le-ltb}
use Rattle.json_text.specs.Lines.{lines, count_up_to}
use Rattle.json_text.specs.Json.{line_value}
use Rattle.rule.specs.Limits.{lines_limit}
use Rattle.rule.specs.Rule as spec
use Rattle.rule.specs.RuleText.{Fault, over_lines, or_not_a_rule, read_rule, fault_in, text_fault}
use Rattle.rule.specs.Places.{topics_here, too_many, parts_here, with_topics, with_access, rule_here, fourth_of, rule_answer, rules_answer, faulty_line}
use Rattle.rule.specs.declared.Control.{Control}
use Rattle.rule.specs.declared.Users.{Users}
use Rattle.rule.specs.declared.Rule.{Rule}
use Rattle.rule.specs.declared.Refusal.{Refusal}
use Rattle.rule.specs.declared.Refusal.TheVariants.{TooLong}
use Rattle.rule.specs.declared.Parts.{Parts}

-- ---- a rule, from its parts' places

pub topics_by : (line : List ℕ) (allow : Bool) (users : Users) (control : Control) (t : ℕ) {are : Bool} → topics_here line t ≡ are
    → with_topics line allow users control (Some t)
    ≡ cond are (Some (record { allow = allow; users = users; control = control; topics = Some t })) None
unfolding with_topics
topics_by line allow users control t e =
    λ i. cond (e i) (Some (record { allow = allow; users = users; control = control; topics = Some t })) None

pub here_by : (line : List ℕ) {parts : Parts} {over : Bool} {access : Option ℕ} → parts ≡ parts_here line → too_many line parts.topics ≡ over
    → parts.access ≡ access → rule_here line ≡ cond over (Err TooLong) (or_not_a_rule (with_access line parts access))
unfolding rule_here
here_by line {parts} e o q =
    ap (λ (p : Parts). cond (too_many line p.topics) (Err TooLong) (or_not_a_rule (with_access line p p.access))) (sym e)
    ∙ (λ i. cond (o i) (Err TooLong) (or_not_a_rule (with_access line parts (q i))))

-- ---- a text, by its lines

pub text_over : (text : List ℕ) → lines_limit < length (lines text) → text_fault text ≡ Some over_lines
unfolding text_fault
text_over text h = rw (lt-ltb lines_limit (length (lines text)) h)

pub text_fits : (text : List ℕ) → length (lines text) ≤ lines_limit → text_fault text ≡ fault_in 1 (lines text)
unfolding text_fault
text_fits text h = rw (le-ltb lines_limit (length (lines text)) h)

-- the first fault from line `n` on, by what reading that line answers; `rest` are the lines behind it
unfoldable pub fault_on : ℕ → List (List ℕ) → Result Rule Refusal → Option Fault
fault_on n rest (Ok r) = fault_in (n + 1) rest
fault_on n rest (Err cause) = Some (record { cause = cause; line = n })

fault_by : (n : ℕ) (line : List ℕ) (rest : List (List ℕ)) {answer read : Result Rule Refusal}
    → answer ≡ rule_answer (fourth_of (line_value line)) (read_rule line) → answer ≡ read → fault_in n (line ∷ rest) ≡ fault_on n rest read
unfolding fault_in fault_on rule_answer
fault_by n line rest e q = by (read_rule line) ∙ ap (fault_on n rest) (sym e ∙ q)
  where
    by : (r : Result spec.Rule Refusal) →
        elim r [ Err cause ↦ Some (record { cause = cause; line = n }) | Ok r ↦ fault_in (suc n) rest ]
        ≡ fault_on n rest (rule_answer (fourth_of (line_value line)) r)
    by (Err cause) = refl
    by (Ok r) = ap (λ (k : ℕ). fault_in k rest) (sym (add-one n))

-- the first `n` lines of a text are rules, and these are left
pub record Passed (text : List ℕ) (n : ℕ) (left : List (List ℕ)) : Type 0 where
  pub few : n ≤ lines_limit
  pub all : n + length left ≡ length (lines text)
  pub fault : fault_in (n + 1) left ≡ fault_in 1 (lines text)

module _ {text : List ℕ} {n : ℕ} {left rest : List (List ℕ)} {line : List ℕ} (r : Passed text n left) (s : left ≡ line ∷ rest) where
  -- one line more
  pub read_more : {answer : Result Rule Refusal} {rule : Rule} → (n ≡ lines_limit → ⊥)
      → answer ≡ rule_answer (fourth_of (line_value line)) (read_rule line) → answer ≡ Ok rule → Passed text (n + 1) rest
  unfolding fault_on
  read_more k e q =
      record {
        few = omega (arith, r.few);
        all = omega (arith, r.all, ap length s);
        fault = sym (ap (fault_in (n + 1)) s ∙ fault_by (n + 1) line rest e q) ∙ r.fault;
      }

  -- the 257th line begins
  pub read_over : n ≡ lines_limit → Err over_lines ≡ rules_answer (length (lines text)) (text_fault text)
  unfolding rules_answer
  read_over k = sym (ap (rules_answer (length (lines text))) (text_over text (omega (arith, r.all, ap length s))))

  -- the line is faulty
  pub read_faulty : {answer : Result Rule Refusal} {cause : Refusal} → answer ≡ rule_answer (fourth_of (line_value line)) (read_rule line) → answer ≡ Err cause
      → Err (faulty_line (length (lines text)) cause (n + 1)) ≡ rules_answer (length (lines text)) (text_fault text)
  unfolding faulty_line rules_answer fault_on text_fault
  read_faulty {cause = cause} e q = by (ltb lines_limit (length (lines text)))
    where
      fault : fault_in 1 (lines text) ≡ Some (record { cause = cause; line = n + 1 })
      fault = sym r.fault ∙ (ap (fault_in (n + 1)) s ∙ fault_by (n + 1) line rest e q)

      by : (over : Bool)
          → Err (cond over over_lines (record { cause = cause; line = n + 1 }))
          ≡ rules_answer (length (lines text)) (cond over (Some over_lines) (fault_in 1 (lines text)))
      by true = refl
      by false = rw fault

-- no line is left
pub read_all : {text : List ℕ} {n : ℕ} {left : List (List ℕ)} → Passed text n left → left ≡ [] → Ok n ≡ rules_answer (length (lines text)) (text_fault text)
unfolding rules_answer fault_in
read_all {text} {n} r s =
    let all : n ≡ length (lines text) = omega (arith, r.all, ap length s) in
    ap Ok all
    ∙ sym
    (ap (rules_answer (length (lines text)))
    (text_fits text (omega (arith, r.few)) ∙ (sym r.fault ∙ ap (fault_in (n + 1)) s)))

-- what the count of the lines tells
pub faulty_over : (text : List ℕ) (cause : Refusal) (line : ℕ) → lines_limit < count_up_to lines_limit text → over_lines ≡ faulty_line (length (lines text)) cause line
unfolding faulty_line count_up_to
faulty_over text cause line h = rw (lt-ltb lines_limit (length (lines text)) (omega arith))

pub faulty_here : (text : List ℕ) (cause : Refusal) (line : ℕ) → count_up_to lines_limit text ≤ lines_limit
    → record { cause = cause; line = line } ≡ faulty_line (length (lines text)) cause line
unfolding faulty_line count_up_to
faulty_here text cause line h = rw (le-ltb lines_limit (length (lines text)) (omega arith))

-- what the answers tell
pub rules_told : {answer : Result ℕ Fault} {k : ℕ} (n : ℕ) (f : Option Fault) → answer ≡ rules_answer n f → answer ≡ Ok k → (f ≡ None) × (k ≡ n)
unfolding rules_answer
rules_told {answer} {k} n None e q = let same : k ≡ n = cc in (refl, same)
rules_told n (Some f) e q = let z : ◌≡◌ {A = ℕ} 0 1 = cc in absurd (omega arith)

pub rules_faulty_told : {answer : Result ℕ Fault} {fault : Fault} (n : ℕ) (f : Option Fault) → answer ≡ rules_answer n f → answer ≡ Err fault → f ≡ Some fault
unfolding rules_answer
rules_faulty_told n None e q = let z : ◌≡◌ {A = ℕ} 0 1 = cc in absurd (omega arith)
rules_faulty_told {answer} {fault} n (Some f) e q = let same : f ≡ fault = cc in ap Some same
