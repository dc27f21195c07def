-- The numbers that the per-client calls answer are small (a rule is at most 256, a line 257, a QoS 2), and an answer is read back from its
-- number's parts, so that no two have the same. Assumes nothing.
use Prim.Native.Nat.{ℕ, zero, suc, ◌+◌, ◌≤◌, ◌<◌}
use mathlib.Core.Path.{◌≡◌, refl, ap, ◌∙◌}
use mathlib.Core.Bool.{Bool, true, false, cond}
use mathlib.Core.List.{List, [], ◌∷◌}
use Rattle.std.specs.Prelude.{Option, None, Some, Result, Ok, Err}
use native.Mathlib.Omega.{arith}
use borrow.Author.Tests.{ltb-false}
use lib.Dec.{ltb}
use lib.ListN.{length}
use Rattle.json_text.specs.Lines.{lines}
use Rattle.rule.specs.Limits.{lines_limit}
use Rattle.rule.specs.Refusals.{number}
use Rattle.rule.specs.declared.Fault.{Fault}
use Rattle.rule.specs.declared.Refusal.TheVariants.{TooLong, OutOfRange}
use Rattle.authinfo.specs.ClientRule.{ClientRule, read_line}
use Rattle.authinfo.specs.Decision.{Client, Question, subscribe, publish, qos_asked, qos_limit, hits, TextRead, faulty, reads, with_rule, read_lines, first_hit, allowance, refusal, by_rule, decision, refuse, on_text, causes, first_fault, ask}
use Rattle.authinfo.specs.Decision.{subscribes, publishes, not_authorized, no_decision, Reply, refuses, decides}
use Rattle.authinfo.specs.Expiry as expiry
use Rattle.mqtt_acl.specs.Clients.{decision_number, packed, expiry_number}
use Rattle.mqtt_acl.specs.Unpacked.{Parts, parts_by, parts, by_client, on_expiry, client_allows}
use Rattle.mqtt_acl.proofs.AnswerLaws.{number_small}
use Rattle.mqtt_acl.proofs.Reading.{back, number_back, line_back, refusal_back}
use Rattle.authinfo.specs.declared.Time.{Time}
use Rattle.rule.specs.declared.Refusal.{Refusal}

-- ---- what a question is answered

data Answered : Reply → Type 0 where
  by_number : (n line : ℕ) → n ≤ 10 → line ≤ 257 → Answered (refuses n line)
  subscribed : (rule qos : ℕ) → rule ≤ 256 → qos ≤ 2 → Answered (decides (subscribes rule qos))
  published : (rule : ℕ) → rule ≤ 256 → Answered (decides (publishes rule))
  denied : (rule : ℕ) (disconnect : Option Bool) → rule ≤ 256 → Answered (decides (not_authorized rule disconnect))
  undecided : Answered (decides no_decision)

-- the line of a fault is one of the text's; without a fault each line is a rule
Bounded : ℕ → ℕ → TextRead → Type 0
Bounded n k (faulty f) = f.line < n + k
Bounded n k (reads rules) = length rules ≡ k

bounded : (id : List ℕ) (name : Option (List ℕ)) (n : ℕ) (ls : List (List ℕ)) → Bounded n (length ls) (read_lines id name n ls)
unfolding read_lines with_rule Bounded
bounded id name n [] = refl
bounded id name n (line ∷ rest) = by (read_line id name line) (read_lines id name (suc n) rest) (bounded id name (suc n) rest)
  where
    by : (o : Result ClientRule Refusal) (t : TextRead) → Bounded (suc n) (length rest) t
        → Bounded n (suc (length rest)) (elim o as (λ _. TextRead) [ Err cause ↦ faulty (record { cause = cause; line = n }) | Ok r ↦ with_rule r t ])
    by (Err cause) t h = omega arith
    by (Ok r) (faulty f) h = omega (arith, h)
    by (Ok r) (reads rules) h = ap suc h

hit_below : (q : Question) (n : ℕ) (rules : List ClientRule) (h : ℕ × ClientRule) → first_hit q n rules ≡ Some h → h.0 < n + length rules
unfolding first_hit
hit_below q n [] h e = let z : ◌≡◌ {A = ℕ} 0 1 = cc in omega arith
hit_below q n (r ∷ rules) h e = by (hits q r) (hit_below q (suc n) rules h) e
  where
    by : (b : Bool) → (first_hit q (suc n) rules ≡ Some h → h.0 < suc n + length rules)
        → cond b (Some (n, r)) (first_hit q (suc n) rules) ≡ Some h → h.0 < n + suc (length rules)
    by b k i = grind arith

allowance_answered : (q : Question) (n : ℕ) → qos_asked q ≤ 2 → n ≤ 256 → Answered (decides (allowance q n))
unfolding allowance qos_asked
allowance_answered (subscribe qos topic) n low h = subscribed n qos h low
allowance_answered (publish qos retain disconnect topic) n low h = published n h

refusal_answered : (q : Question) (n : ℕ) → n ≤ 256 → Answered (decides (refusal q n))
unfolding refusal
refusal_answered (subscribe qos topic) n h = denied n None h
refusal_answered (publish qos retain disconnect topic) n h = denied n (Some disconnect) h

by_rule-answered : (q : Question) (o : Option (ℕ × ClientRule)) → qos_asked q ≤ 2 → ((h : ℕ × ClientRule) → o ≡ Some h → h.0 ≤ 256)
    → Answered (decides (by_rule q o))
unfolding by_rule
by_rule-answered q None low small = undecided
by_rule-answered q (Some h) low small = by h.1.allow
  where
    by : (b : Bool) → Answered (decides (cond b (allowance q h.0) (refusal q h.0)))
    by true = allowance_answered q h.0 low (small h refl)
    by false = refusal_answered q h.0 (small h refl)

on_text_lem : (superuser : Bool) (q : Question) (k : ℕ) → k ≤ 256 → qos_asked q ≤ 2 → (t : TextRead) → Bounded 1 k t → Answered (on_text superuser q t)
unfolding on_text refuse decision Bounded
on_text_lem superuser q k few low (faulty f) b = by_number (number f.cause) f.line (number_small f.cause) (omega (arith, b))
on_text_lem true q k few low (reads rules) b = allowance_answered q 0 low (omega arith)
on_text_lem false q k few low (reads rules) b =
    by_rule-answered q (first_hit q 1 rules) low (λ h e. omega (arith, b, hit_below q 1 rules h e))

cause-line : (a b d : Bool) (f : Fault)
    → first_fault ((a, record { cause = TooLong; line = 0 }) ∷ (b, record { cause = TooLong; line = suc lines_limit }) ∷ (d, record { cause = OutOfRange; line = 0 }) ∷ []) ≡ Some f
    → f.line ≤ 257
unfolding first_fault
cause-line a b d f e = grind arith

no_cause : (a b d : Bool)
    → first_fault ((a, record { cause = TooLong; line = 0 }) ∷ (b, record { cause = TooLong; line = suc lines_limit }) ∷ (d, record { cause = OutOfRange; line = 0 }) ∷ []) ≡ None
    → (b ≡ false) × (d ≡ false)
unfolding first_fault
no_cause a b d e = grind arith

answered : (c : Client) (rules : List ℕ) (q : Question) → Answered (ask c rules q)
unfolding ask causes refuse
answered c rules q = by (first_fault (causes c rules q)) refl
  where
    by : (o : Option Fault) → first_fault (causes c rules q) ≡ o
        → Answered (elim o as (λ _. Reply) [ Some f ↦ refuse f | None ↦ on_text c.superuser q (read_lines c.id c.name 1 (lines rules)) ])
    by (Some f) e = by_number (number f.cause) f.line (number_small f.cause) (cause-line _ _ _ f e)
    by None e =
        let h = no_cause _ (ltb lines_limit (length (lines rules))) (ltb qos_limit (qos_asked q)) e in
        on_text_lem c.superuser q (length (lines rules)) (ltb-false lines_limit (length (lines rules)) h.0) (ltb-false qos_limit (qos_asked q) h.1)
        (read_lines c.id c.name 1 (lines rules)) (bounded c.id c.name 1 (lines rules))

-- ---- small

answered_small : {r : Reply} → Answered r → packed r ≤ 1052832
unfolding packed decision_number
answered_small (by_number n line h l) = omega (arith, h, l)
answered_small (subscribed rule qos h l) = omega (arith, h, l)
answered_small (published rule h) = omega (arith, h)
answered_small (denied rule None h) = omega (arith, h)
answered_small (denied rule (Some false) h) = omega (arith, h)
answered_small (denied rule (Some true) h) = omega (arith, h)
answered_small undecided = omega arith

pub client_small : (c : Client) (rules : List ℕ) (q : Question) → packed (ask c rules q) ≤ 1052832
client_small c rules q = answered_small (answered c rules q)

-- ---- reading back

-- its number's parts are those of the answer
abbrev Back : Reply → Type 0
Back r = (by_client (parts (packed r)) ≡ Some r) × ((parts (packed r)).allows ≡ client_allows r)

told : (r : Reply) {p : Parts} → parts (packed r) ≡ p → by_client p ≡ Some r → p.allows ≡ client_allows r → Back r
told r e reply allow = (ap by_client e ∙ reply, ap (λ (p : Parts). p.allows) e ∙ allow)

answered_back : {r : Reply} → Answered r → Back r
unfolding packed decision_number parts_by by_client client_allows
answered_back (by_number n line h l) =
    told (refuses n line) (refusal_back n line h) (λ i. Some (refuses (number_back n line h i) (line_back n line h i))) refl
answered_back (subscribed rule zero h l) = told (decides (subscribes rule 0)) (back 4 rule refl refl) refl refl
answered_back (subscribed rule (suc zero) h l) = told (decides (subscribes rule 1)) (back 5 rule refl refl) refl refl
answered_back (subscribed rule (suc (suc zero)) h l) = told (decides (subscribes rule 2)) (back 6 rule refl refl) refl refl
answered_back (subscribed rule (suc (suc (suc n))) h l) = absurd (omega arith)
answered_back (published rule h) = told (decides (publishes rule)) (back 7 rule refl refl) refl refl
answered_back (denied rule None h) = told (decides (not_authorized rule None)) (back 8 rule refl refl) refl refl
answered_back (denied rule (Some false) h) = told (decides (not_authorized rule (Some false))) (back 9 rule refl refl) refl refl
answered_back (denied rule (Some true) h) = told (decides (not_authorized rule (Some true))) (back 10 rule refl refl) refl refl
answered_back undecided = told (decides no_decision) (back 12 0 refl refl) refl refl

-- every answer of a per-client question, on any text of rules, is what its number says
pub client_read_back : (c : Client) (rules : List ℕ) (q : Question) → by_client (parts (packed (ask c rules q))) ≡ Some (ask c rules q)
client_read_back c rules q = (answered_back (answered c rules q)).0

-- and says that it allows where it does
pub client-allows_back : (c : Client) (rules : List ℕ) (q : Question) → (parts (packed (ask c rules q))).allows ≡ client_allows (ask c rules q)
client-allows_back c rules q = (answered_back (answered c rules q)).1

-- and of an expiry
pub expiry_read_back : (e : Option Time) (now : Time) → on_expiry (parts (expiry_number (expiry.expiry e now))) ≡ Some (expiry.expiry e now)
unfolding expiry.expiry expiry_number parts parts_by on_expiry
expiry_read_back e now = grind arith
