-- The numbers that the calls on a store answer are small: a rule is at most 256, a line at most 257, a code 4, a QoS 2. Assumes nothing.
use Prim.Native.Nat.{ℕ, suc, ◌+◌, ◌≤◌, ◌<◌}
use mathlib.Core.Path.{◌≡◌, refl}
use mathlib.Core.Bool.{Bool, true, false, ◌||◌, cond}
use mathlib.Core.List.{List, [], ◌∷◌}
use Rattle.std.specs.Prelude.{Option, None, Some, Result, Ok, Err}
use Rattle.std.specs.Option.{option_map}
use native.Mathlib.Omega.{arith}
use borrow.Author.Tests.{ltb-false}
use lib.Dec.{ltb, leb, eqb}
use lib.ListN.{length, length-map}
use Rattle.text.proofs.Laws.{and_split, or_split}
use Rattle.json_text.specs.Lines.{lines}
use Rattle.table.specs.Table.{some_row}
use Rattle.rule.specs.Limits.{text_limit, lines_limit}
use Rattle.rule.specs.Refusals.{number, first}
use Rattle.rule.specs.Rule.{Rule, Meaning}
use Rattle.rule.specs.RuleText.{read_rule, fault_in, text_fault, rule_on, rules_of}
use Rattle.rule.specs.declared.Fault.{Fault}
use Rattle.rule.specs.Identity.{Client, superuser}
use Rattle.rule.specs.declared.Refusal.{Refusal}
use Rattle.store.specs.Store.{over, counts_fit, FilterRow, EqRow, View}
use Rattle.store.specs.View.{faultless, openable, well_formed, view}
use Rattle.store.specs.Opening.{open_fault, told}
use Rattle.store.specs.declared.Counts.{Counts}
use Rattle.store.proofs.ViewLaws.{view-well_formed}
use Rattle.questions.specs.Question.{Question, connect, subscribe, publish, connect_limit, code_limit, qos_limit, client_over, question_cause, kept, connects, subscribes, publishes, not_authorized, unspecified_error, Reply, refuses, decides}
use Rattle.questions.specs.Decision.{Wish, client, wish, keeps, rule_agrees, first_from, refusal, allowance, by_rule, ask}
use Rattle.questions.proofs.AskLaws.{refuses_by, refuses_malformed, keeps_by, decides_by}
use Rattle.mqtt_acl.specs.Answers.{open_number, decision_number, packed}
use Rattle.mqtt_acl.specs.Unpacked.{read_open}
use Rattle.mqtt_acl.proofs.Reading.{open_back}

-- ---- number 1, then number 2

first_small : (a b : Bool) (n : ℕ) → first ((a, 1) ∷ (b, 2) ∷ []) ≡ Some n → n ≤ 2
unfolding first
first_small a b n e = grind arith

pub first-none : (a b : Bool) → first ((a, 1) ∷ (b, 2) ∷ []) ≡ None → b ≡ false
unfolding first
first-none a b e = grind arith

pub cause_small : (q : Question) (n : ℕ) → question_cause q ≡ Some n → n ≤ 2
unfolding question_cause
cause_small (connect earlier c) n e = first_small (client_over c) (ltb connect_limit earlier) n e
cause_small (subscribe earlier c topic qos) n e = first_small (client_over c || over text_limit topic) (ltb code_limit earlier || ltb qos_limit qos) n e
cause_small (publish earlier c topic disconnect) n e = first_small (client_over c || over text_limit topic) (ltb code_limit earlier) n e

-- ---- codes and QoS

cond-some : (b : Bool) (n m : ℕ) → cond b (Some n) None ≡ Some m → n ≡ m
cond-some b n m e = grind arith

kept_small : (q : Question) (code : ℕ) → question_cause q ≡ None → keeps q ≡ Some code → code ≤ 4
unfolding question_cause keeps
kept_small (connect earlier c) code e k =
    let is = cond-some (eqb earlier 3 || eqb earlier 4) earlier code k in
    omega (arith, ltb-false connect_limit earlier (first-none (client_over c) (ltb connect_limit earlier) e))
kept_small (subscribe earlier c topic qos) code e k =
    let is = cond-some (eqb earlier 2) earlier code k in
    let h = or_split (ltb code_limit earlier) (ltb qos_limit qos) (first-none (client_over c || over text_limit topic) _ e) in
    omega (arith, ltb-false code_limit earlier h.0)
kept_small (publish earlier c topic disconnect) code e k =
    let is = cond-some (eqb earlier 2) earlier code k in
    omega (arith, ltb-false code_limit earlier (first-none (client_over c || over text_limit topic) (ltb code_limit earlier) e))

-- ---- the rule that decides is one of the text's

module _ (some_filter : (FilterRow → Bool) → Bool) (some_eq : (EqRow → Bool) → Bool) (c : Client) (w : Wish) where
  pub first_below : (n : ℕ) (rules : List (Option Meaning)) (f : ℕ × Meaning) → first_from some_filter some_eq c w n rules ≡ Some f → f.0 < n + length rules
  unfolding first_from
  first_below n [] f e = let z : ◌≡◌ {A = ℕ} 0 1 = cc in omega arith
  first_below n (None ∷ rules) f e = omega (arith, first_below (suc n) rules f e)
  first_below n (Some r ∷ rules) f e = by (rule_agrees some_filter some_eq c w n r) (first_below (suc n) rules f) e
    where
      by : (b : Bool) → (first_from some_filter some_eq c w (suc n) rules ≡ Some f → f.0 < suc n + length rules)
          → cond b (Some (n, r)) (first_from some_filter some_eq c w (suc n) rules) ≡ Some f → f.0 < n + suc (length rules)
      by b h k = grind arith

lines_few : (text : List ℕ) → text_fault text ≡ None → length (lines text) ≤ lines_limit
unfolding text_fault
lines_few text e = grind (arith, ltb-false)

faultless_none : (o : Option Fault) → faultless o ≡ true → o ≡ None
unfolding faultless
faultless_none o e = grind arith

-- "over 256 lines" is refused
rules_few : (v : View) → well_formed v ≡ true → length (rules_of v.text) ≤ 256
unfolding well_formed openable rules_of
rules_few v e =
    let h = and_split (openable v.counts v.text) _ e in
    let k = and_split (counts_fit v.counts) _ h.0 in
    let l = and_split (leb (length v.text) v.counts.bytes) _ k.1 in
    omega (arith, length-map (lines v.text) (λ line. rule_on (read_rule line)), lines_few v.text (faultless_none (text_fault v.text) l.1))

-- ---- what a question is answered

pub data Answered : Reply → Type 0 where
  by_number : (n : ℕ) → n ≤ 10 → Answered (refuses n 0)
  by_code : (code : ℕ) → code ≤ 4 → Answered (decides (kept code))
  connected : (rule : ℕ) (flag : Bool) → rule ≤ 256 → Answered (decides (connects rule flag))
  subscribed : (rule qos : ℕ) → rule ≤ 256 → qos ≤ 2 → Answered (decides (subscribes rule qos))
  published : (rule : ℕ) → rule ≤ 256 → Answered (decides (publishes rule))
  denied : (rule : ℕ) (disconnect : Option Bool) → rule ≤ 256 → Answered (decides (not_authorized rule disconnect))
  failed : (rule : ℕ) → rule ≤ 256 → Answered (decides (unspecified_error rule))

refusal_answered : (q : Question) (n : ℕ) → n ≤ 256 → Answered (decides (refusal q n))
unfolding refusal
refusal_answered (connect earlier c) n h = denied n None h
refusal_answered (subscribe earlier c topic qos) n h = failed n h
refusal_answered (publish earlier c topic disconnect) n h = denied n (Some disconnect) h

allowance_answered : (q : Question) (n : ℕ) (r : Meaning) → question_cause q ≡ None → n ≤ 256 → Answered (decides (allowance q n r))
unfolding allowance question_cause
allowance_answered (connect earlier c) n r e h = connected n (superuser r) h
allowance_answered (subscribe earlier c topic qos) n r e h =
    let k = or_split (ltb code_limit earlier) (ltb qos_limit qos) (first-none (client_over c || over text_limit topic) _ e) in
    subscribed n qos h (ltb-false qos_limit qos k.1)
allowance_answered (publish earlier c topic disconnect) n r e h = published n h

by_rule-answered : (q : Question) (o : Option (ℕ × Meaning)) → question_cause q ≡ None → ((f : ℕ × Meaning) → o ≡ Some f → f.0 < 256)
    → Answered (decides (by_rule q o))
unfolding by_rule
by_rule-answered q None e h = refusal_answered q 0 (omega arith)
by_rule-answered q (Some f) e h = by f.1.allow
  where
    by : (b : Bool) → Answered (decides (cond b (allowance q (suc f.0) f.1) (refusal q (suc f.0))))
    by true = allowance_answered q (suc f.0) f.1 e (omega (arith, h f refl))
    by false = refusal_answered q (suc f.0) (omega (arith, h f refl))

laid_answered : (q : Question) (s : List ℕ) (v : View) → question_cause q ≡ None → view s ≡ Some v → (o : Option ℕ) → keeps q ≡ o → Answered (ask q s)
laid_answered q s v e h (Some code) k = rw (keeps_by q s e h k) (by_code code (kept_small q code e k))
laid_answered q s v e h None k =
    let few = rules_few v (view-well_formed s v h) in
    rw (decides_by q s e h k)
    (by_rule-answered q _ e (λ f is. omega (arith, first_below (λ p. some_row p v.filters) (λ p. some_row p v.eqs) (client q) (wish q) 0 (rules_of v.text) f is)))

view-answered : (q : Question) (s : List ℕ) → question_cause q ≡ None → (o : Option View) → view s ≡ o → Answered (ask q s)
view-answered q s e None h = rw (refuses_malformed q s e h) (by_number 3 (omega arith))
view-answered q s e (Some v) h = laid_answered q s v e h (keeps q) refl

pub answered : (q : Question) (s : List ℕ) → Answered (ask q s)
answered q s = by (question_cause q) refl
  where
    by : (o : Option ℕ) → question_cause q ≡ o → Answered (ask q s)
    by (Some n) e = rw (refuses_by q s e) (by_number n (omega (arith, cause_small q n e)))
    by None e = view-answered q s e (view s) refl

answered_small : {r : Reply} → Answered r → packed r ≤ 4111
unfolding packed decision_number
answered_small (by_number n h) = omega (arith, h)
answered_small (by_code code h) = omega (arith, h)
answered_small (connected rule true h) = omega (arith, h)
answered_small (connected rule false h) = omega (arith, h)
answered_small (subscribed rule qos h l) = omega (arith, h, l)
answered_small (published rule h) = omega (arith, h)
answered_small (denied rule None h) = omega (arith, h)
answered_small (denied rule (Some true) h) = omega (arith, h)
answered_small (denied rule (Some false) h) = omega (arith, h)
answered_small (failed rule h) = omega (arith, h)

pub answer_small : (q : Question) (s : List ℕ) → packed (ask q s) ≤ 4111
answer_small q s = answered_small (answered q s)

-- ---- opening

pub number_small : (cause : Refusal) → number cause ≤ 10
unfolding number
number_small cause = grind arith

number_some : (cause : Refusal) → 1 ≤ number cause
unfolding number
number_some cause = grind arith

fault-line : (n : ℕ) (ls : List (List ℕ)) (f : Fault) → fault_in n ls ≡ Some f → f.line < n + length ls
unfolding fault_in
fault-line n [] f e = let z : ◌≡◌ {A = ℕ} 0 1 = cc in omega arith
fault-line n (line ∷ rest) f e = by (read_rule line) (fault-line (suc n) rest f) e
  where
    by : (o : Result Rule Refusal) → (fault_in (suc n) rest ≡ Some f → f.line < suc n + length rest)
        → (elim o as (λ _. Option Fault) [ Err cause ↦ Some (record { cause = cause; line = n }) | Ok r ↦ fault_in (suc n) rest ]) ≡ Some f → f.line < n + suc (length rest)
    by o h k = grind arith

text_line : (text : List ℕ) (f : Fault) → text_fault text ≡ Some f → f.line ≤ 257
unfolding text_fault
text_line text f e = grind (arith, ltb-false, fault-line)

open_line : (c : Counts) (text : List ℕ) (room : ℕ) (f : Fault) → open_fault c text room ≡ Some f → f.line ≤ 257
unfolding open_fault
open_line c text room f e = grind (arith, text_line)

pub open_small : (c : Counts) (text : List ℕ) (room : ℕ) → open_number (option_map told (open_fault c text room)) ≤ 66047
unfolding open_number told
open_small c text room = grind (arith, number_small, open_line)

-- every answer of opening is what its number says
pub open_read_back : (c : Counts) (text : List ℕ) (room : ℕ)
    → read_open (open_number (option_map told (open_fault c text room))) ≡ option_map told (open_fault c text room)
unfolding open_number told read_open
open_read_back c text room = by (open_fault c text room)
  where
    by : (o : Option Fault) → read_open (open_number (option_map told o)) ≡ option_map told o
    by None = refl
    by (Some f) = open_back (number f.cause) f.line (number_small f.cause) (number_some f.cause)
