-- Laws of the per-client questions: the tests before the rules, the step of `first_hit`'s loop, and each kind of answer. Assumes nothing.
use Prim.Native.Nat.{ℕ, suc, ◌+◌, ◌≤◌, ◌<◌}
use native.Mathlib.Numerals.{add-one}
use native.Mathlib.Omega.{arith}
use mathlib.Core.Path.{◌≡◌, refl, sym, ap, ◌∙◌}
use mathlib.Core.Bool.{Bool, true, false, ◌||◌, ◌&&◌, cond}
use mathlib.Core.List.{List, [], ◌∷◌}
use Rattle.std.specs.Prelude.{Option, None, Some, Ok, Err, Result}
use Rattle.std.specs.Option.{option_or}
use lib.Dec.{ltb}
use lib.ListN.{length}
use borrow.Author.Tests.{lt-ltb, le-ltb}
pub use Rattle.text.proofs.TryLaws.{passed_on}
use Rattle.json_text.specs.Lines.{lines, count_up_to}
use Rattle.rule.specs.Limits.{lines_limit, id_limit}
use Rattle.rule.specs.Refusals.{number}
use Rattle.rule.specs.declared.Fault.{Fault}
use Rattle.rule.specs.declared.Refusal.{Refusal}
use Rattle.rule.specs.declared.Refusal.TheVariants.{TooLong, OutOfRange}
use Rattle.authinfo.specs.ClientRule.{ClientRule, read_line}
use Rattle.authinfo.specs.Decision.{Client, Question, publish, Reply, refuses, decides, no_decision, TextRead, faulty, reads, topic_asked, qos_asked, covers, qos_hits, retain_hits, topic_hits, hits, with_rule, read_lines, first_hit, allowance, refusal, by_rule, decision, refuse, on_text, qos_limit, name_over, causes, first_fault, ask}
use Rattle.authinfo.specs.Places.{question_of, qos_of_asked, verdict, line_says, or_hit, hit_of, hit_in, too_long, for_client, unless_fault, deciding}
use Rattle.authinfo.specs.declared.Action.{Action}
use Rattle.authinfo.specs.declared.Action.TheVariants as action
use Rattle.authinfo.specs.declared.Asked.{Asked}
use Rattle.authinfo.specs.declared.Asked.TheVariants as asked
use Rattle.authinfo.specs.declared.Hit.{Hit}

-- ---- the first hit, line by line

module _ (q : Question) (id : List ℕ) (name : Option (List ℕ)) where
  -- what is answered once `found` was seen before line `n`: a faulty line wins over an earlier hit
  unfoldable pub from : Option Hit → ℕ → List (List ℕ) → Result (Option Hit) Fault
  from found n [] = Ok found
  from found n (line ∷ rest) =
      elim (line_says q (read_line id name line)) [ Err cause ↦ Err (record { cause = cause; line = n }) | Ok v ↦ from (or_hit found v n) (suc n) rest ]

  -- by what line `n` says; `rest` are the lines behind it
  unfoldable pub on_line : Option Hit → ℕ → List (List ℕ) → Result (Option Bool) Refusal → Result (Option Hit) Fault
  on_line found n rest (Err cause) = Err (record { cause = cause; line = n })
  on_line found n rest (Ok v) = from (or_hit found v n) (n + 1) rest

  -- the step of the loop
  pub on_line_lem : (found : Option Hit) (n : ℕ) {line : List ℕ} {rest ls : List (List ℕ)} {answer read : Result (Option Bool) Refusal} → ls ≡ line ∷ rest
      → answer ≡ line_says q (read_line id name line) → answer ≡ read → from found n ls ≡ on_line found n rest read
  unfolding from on_line
  on_line_lem found n {line} {rest} l e k = ap (from found n) l ∙ (by (line_says q (read_line id name line)) ∙ ap (on_line found n rest) (sym e ∙ k))
    where
      by : (r : Result (Option Bool) Refusal) →
          elim r [ Err cause ↦ Err (record { cause = cause; line = n }) | Ok v ↦ from (or_hit found v n) (suc n) rest ] ≡ on_line found n rest r
      by (Err cause) = refl
      by (Ok v) = ap (λ (k : ℕ). from (or_hit found v n) k rest) (sym (add-one n))

  -- after `n` lines: what is answered from here on is what is answered from the first line on, and no line was passed by
  pub record After (text : List ℕ) (found : Option Hit) (n : ℕ) (rest : List (List ℕ)) : Type 0 where
    pub all : n + length rest ≡ length (lines text)
    pub told : from found (n + 1) rest ≡ from None 1 (lines text)

-- the lines from `n` on, read, behind a hit that was seen before or none: an earlier hit stays before a later one
unfoldable hit_from : Question → Option Hit → ℕ → TextRead → Result (Option Hit) Fault
hit_from q found n (faulty f) = Err f
hit_from q found n (reads rules) = Ok (option_or found (hit_of (first_hit q n rules)))

nothing_later : (found : Option Hit) → found ≡ option_or found None
nothing_later (Some h) = refl
nothing_later None = refl

-- one rule more
one_more : (found : Option Hit) (n : ℕ) (r : ClientRule) (hit : Bool) (behind : Option (ℕ × ClientRule)) →
    option_or (or_hit found (verdict r.allow hit) n) (hit_of behind) ≡ option_or found (hit_of (cond hit (Some (n, r)) behind))
unfolding hit_of
one_more (Some h) n r hit behind = refl
one_more None n r false behind = refl
one_more None n r true behind = refl

more_rules : (q : Question) (found : Option Hit) (n : ℕ) (r : ClientRule) (t : TextRead) →
    hit_from q (or_hit found (verdict r.allow (hits q r)) n) (suc n) t ≡ hit_from q found n (with_rule r t)
unfolding hit_from with_rule first_hit
more_rules q found n r (faulty f) = refl
more_rules q found n r (reads rules) = ap Ok (one_more found n r (hits q r) (first_hit q (suc n) rules))

from_read : (q : Question) (id : List ℕ) (name : Option (List ℕ)) (found : Option Hit) (n : ℕ) (ls : List (List ℕ)) →
    from q id name found n ls ≡ hit_from q found n (read_lines id name n ls)
unfolding from read_lines hit_from first_hit hit_of line_says
from_read q id name found n [] = ap Ok (nothing_later found)
from_read q id name found n (line ∷ rest) = at (read_line id name line) (λ seen. from_read q id name seen (suc n) rest)
  where
    at : (r : Result ClientRule Refusal) → ((seen : Option Hit) → from q id name seen (suc n) rest ≡ hit_from q seen (suc n) (read_lines id name (suc n) rest)) →
        elim (line_says q r) [ Err cause ↦ Err (record { cause = cause; line = n }) | Ok v ↦ from q id name (or_hit found v n) (suc n) rest ]
        ≡ hit_from q found n (elim r [ Err cause ↦ faulty (record { cause = cause; line = n }) | Ok r ↦ with_rule r (read_lines id name (suc n) rest) ])
    at (Err cause) onward = refl
    at (Ok r) onward = onward _ ∙ more_rules q found n r (read_lines id name (suc n) rest)

-- with nothing seen before, from line 1: the first hit of the text
pub from_first : (q : Question) (id : List ℕ) (name : Option (List ℕ)) (ls : List (List ℕ)) → from q id name None 1 ls ≡ hit_in q (read_lines id name 1 ls)
unfolding hit_from hit_in
from_first q id name ls = from_read q id name None 1 ls ∙ at (read_lines id name 1 ls)
  where
    at : (t : TextRead) → hit_from q None 1 t ≡ hit_in q t
    at (faulty f) = refl
    at (reads rules) = refl

-- ---- what decides, by the tests in their order

pub many_lines : (text : List ℕ) → lines_limit < count_up_to lines_limit text → ltb lines_limit (length (lines text)) ≡ true
unfolding count_up_to
many_lines text h = lt-ltb lines_limit (length (lines text)) (omega arith)

pub few_lines : (text : List ℕ) → count_up_to lines_limit text ≤ lines_limit → ltb lines_limit (length (lines text)) ≡ false
unfolding count_up_to
few_lines text h = le-ltb lines_limit (length (lines text)) (omega arith)

-- where nothing is too long, the name isn't
pub name_fits : (id : List ℕ) (name : Option (List ℕ)) (topic rules : List ℕ) → too_long id name topic rules ≡ false → name_over name ≡ false
unfolding too_long
name_fits id name topic rules e = second (ltb id_limit (length id)) (name_over name) _ e
  where
    second : (a b c : Bool) → (a || (b || c)) ≡ false → b ≡ false
    second a false c e = refl
    second true true c e = e
    second false true c e = e

-- the cause by the three tests
unfoldable pub fault_by : Bool → Bool → Bool → Option Fault
fault_by long many wrong =
    cond long (Some (record { cause = TooLong; line = 0 }))
    (cond many (Some (record { cause = TooLong; line = suc lines_limit })) (cond wrong (Some (record { cause = OutOfRange; line = 0 })) None))

tests : (c : Client) (rules : List ℕ) (a : Asked) (topic : List ℕ) →
    first_fault (causes c rules (question_of a topic))
    ≡ fault_by (too_long c.id c.name topic rules) (ltb lines_limit (length (lines rules))) (ltb qos_limit (qos_of_asked a))
unfolding causes first_fault fault_by too_long question_of qos_of_asked topic_asked qos_asked
tests c rules (asked.Subscribe qos) topic = refl
tests c rules (asked.Publish qos retained) topic = refl

pub deciding_by : (c : Client) (rules : List ℕ) (a : Asked) (topic : List ℕ) {long many wrong : Bool} {found : Result (Option Hit) Fault} →
    too_long c.id c.name topic rules ≡ long → ltb lines_limit (length (lines rules)) ≡ many → ltb qos_limit (qos_of_asked a) ≡ wrong
    → found ≡ hit_in (question_of a topic) (read_lines c.id c.name 1 (lines rules))
    → deciding c rules (question_of a topic) ≡ unless_fault (fault_by long many wrong) (for_client c.superuser found)
unfolding deciding
deciding_by c rules a topic long many wrong found =
    ap (λ (o : Option Fault). unless_fault o (for_client c.superuser (hit_in (question_of a topic) (read_lines c.id c.name 1 (lines rules))))) (tests c rules a topic)
    ∙ (λ i. unless_fault (fault_by (long i) (many i) (wrong i)) (for_client c.superuser (sym found i)))

-- a superuser, with no faulty line, and everyone else
pub superuser_allowed : {superuser : Bool} (found : Option Hit) → superuser ≡ true → for_client superuser (Ok found) ≡ Ok (Some (record { rule = 0; allow = true }))
unfolding for_client
superuser_allowed found e = rw e

pub others_decided : {superuser : Bool} (found : Option Hit) → superuser ≡ false → for_client superuser (Ok found) ≡ Ok found
unfolding for_client
others_decided found e = rw e

-- ---- the reply, by what decides

unfoldable pub reply_to : Question → Result (Option Hit) Fault → Reply
reply_to q (Err f) = refuses (number f.cause) f.line
reply_to q (Ok None) = decides no_decision
reply_to q (Ok (Some h)) = decides (cond h.allow (allowance q h.rule) (refusal q h.rule))

by_hit : (superuser : Bool) (q : Question) (o : Option (ℕ × ClientRule)) → decides (cond superuser (allowance q 0) (by_rule q o)) ≡ reply_to q (for_client superuser (Ok (hit_of o)))
unfolding by_rule reply_to for_client hit_of
by_hit true q None = refl
by_hit false q None = refl
by_hit true q (Some h) = refl
by_hit false q (Some h) = refl

by_text : (superuser : Bool) (q : Question) (t : TextRead) → on_text superuser q t ≡ reply_to q (for_client superuser (hit_in q t))
unfolding on_text refuse decision hit_in reply_to for_client
by_text superuser q (faulty f) = refl
by_text superuser q (reads rules) = by_hit superuser q (first_hit q 1 rules)

pub reply_decided : (c : Client) (rules : List ℕ) (q : Question) → ask c rules q ≡ reply_to q (deciding c rules q)
unfolding ask deciding unless_fault reply_to refuse
reply_decided c rules q = at (first_fault (causes c rules q))
  where
    text : TextRead
    text = read_lines c.id c.name 1 (lines rules)

    at : (o : Option Fault) → elim o [ Some f ↦ refuse f | None ↦ on_text c.superuser q text ] ≡ reply_to q (unless_fault o (for_client c.superuser (hit_in q text)))
    at (Some f) = refl
    at None = by_text c.superuser q text

-- no rule looks at the disconnect flag
module _ (qos : ℕ) (retained disconnect : Bool) (topic : List ℕ) where
  flag_hits : (r : ClientRule) → hits (publish qos retained disconnect topic) r ≡ hits (publish qos retained false topic) r
  unfolding hits covers qos_asked topic_asked retain_hits
  flag_hits r =
      ap (λ (b : Bool). b && (qos_hits r.qos qos && (retain_hits r.allow r.retain (publish qos retained false topic) && topic_hits r.topic topic))) (at r.action)
    where
      at : (act : Action) → covers act (publish qos retained disconnect topic) ≡ covers act (publish qos retained false topic)
      at action.All = refl
      at action.Publish = refl
      at action.Subscribe = refl

  flag_first : (n : ℕ) (rules : List ClientRule) → first_hit (publish qos retained disconnect topic) n rules ≡ first_hit (publish qos retained false topic) n rules
  unfolding first_hit
  flag_first n [] = refl
  flag_first n (r ∷ rules) = λ i. cond (flag_hits r i) (Some (n, r)) (flag_first (suc n) rules i)

  flag_in : (t : TextRead) → hit_in (publish qos retained disconnect topic) t ≡ hit_in (publish qos retained false topic) t
  unfolding hit_in
  flag_in (faulty f) = refl
  flag_in (reads rules) = ap (λ (h : Option (ℕ × ClientRule)). Ok (hit_of h)) (flag_first 1 rules)

  pub flag_decides : (c : Client) (rules : List ℕ) → deciding c rules (publish qos retained disconnect topic) ≡ deciding c rules (publish qos retained false topic)
  unfolding deciding causes qos_asked topic_asked
  flag_decides c rules =
      ap (λ (h : Result (Option Hit) Fault). unless_fault (first_fault (causes c rules (publish qos retained false topic))) (for_client c.superuser h)) (flag_in (read_lines c.id c.name 1 (lines rules)))

-- the replies, for `using`
pub ruleset replies = (reply_decided, flag_decides, passed_on)
