-- What the calls about a rule line answer, by what `read_rule` does. Assumes nothing.
use Prim.Native.Nat.{ℕ}
use mathlib.Core.Path.{◌≡◌, refl, sym, ap, ◌∙◌}
use mathlib.Core.List.{List}
use native.Mathlib.Omega.{arith}
use Rattle.std.specs.Prelude.{Option, Ok, Err, Result}
use Rattle.json_text.specs.Json.{line_value}
use Rattle.rule.specs.Refusals.{number}
use Rattle.rule.specs.Rule as spec
use Rattle.rule.specs.Rule.{Value}
use Rattle.rule.specs.RuleText.{read_rule}
use Rattle.rule.specs.Identity.{Client}
use Rattle.rule.specs.Places.{fourth_of, rule_answer}
use Rattle.rule.specs.Agreement.{identity_at}
use Rattle.rule.proofs.StandsLaws.{identity_read}
use Rattle.mqtt_acl.specs.Rules.{refusal_number, refusal_of, identity_number, identity_in}
use Rattle.rule.specs.declared.Refusal.{Refusal}
use Rattle.rule.specs.declared.Rule.{Rule}

-- ---- refusals

unfoldable pub refusal_by : Result Rule Refusal → ℕ
refusal_by (Err cause) = number cause
refusal_by (Ok r) = 0

refusal_answer : (topics : Option Value) (o : Result spec.Rule Refusal) → refusal_by (rule_answer topics o) ≡ refusal_number o
unfolding refusal_by rule_answer refusal_number
refusal_answer topics o = grind arith

pub refusal_by_lem :
    (line : List ℕ) {answer read : Result Rule Refusal} → answer ≡ rule_answer (fourth_of (line_value line)) (read_rule line) → answer ≡ read
    → refusal_of line ≡ refusal_by read
unfolding refusal_of
refusal_by_lem line e is = sym (refusal_answer (fourth_of (line_value line)) (read_rule line)) ∙ ap refusal_by (sym e ∙ is)

-- ---- identity

unfoldable pub identity_by : List ℕ → Client → Result Rule Refusal → ℕ
identity_by line c (Err cause) = 3
identity_by line c (Ok r) =
    identity_number (identity_at line r.users c)

identity_answer :
    (line : List ℕ) (c : Client) (topics : Option Value) (o : Result spec.Rule Refusal) → read_rule line ≡ o
    → identity_by line c (rule_answer topics o) ≡ identity_in o c
unfolding identity_by rule_answer identity_in
identity_answer line c topics (Err cause) e = refl
identity_answer line c topics (Ok r) e = ap identity_number (identity_read line topics r c e)

pub identity_by_lem :
    (line : List ℕ) (c : Client) {answer read : Result Rule Refusal} → answer ≡ rule_answer (fourth_of (line_value line)) (read_rule line) → answer ≡ read
    → identity_in (read_rule line) c ≡ identity_by line c read
identity_by_lem line c e is = sym (identity_answer line c (fourth_of (line_value line)) (read_rule line) refl) ∙ ap (identity_by line c) (sym e ∙ is)
