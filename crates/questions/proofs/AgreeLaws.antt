-- Laws of `rule_agrees`: what a line's head says of whether its rule agrees. Assumes nothing.
use Prim.Native.Nat.{ℕ}
use mathlib.Core.Path.{◌≡◌, refl, sym, ap, ◌∙◌}
use mathlib.Core.Bool.{Bool, true, false, ◌||◌, cond}
use mathlib.Core.List.{List, [], ◌∷◌}
use Rattle.std.specs.Prelude.{Option, None, Some}
use native.Mathlib.Omega.{arith}
use lib.ListN.{length}
use Rattle.json_text.specs.Access.{first_item}
use Rattle.rule.specs.Rule.{Meaning}
use Rattle.rule.specs.RuleText.{read_rule, rule_on}
use Rattle.rule.specs.Identity.{Client}
use Rattle.questions.specs.Decision.{eq_agrees, filter_agrees, rule_agrees, first_from}
use Rattle.questions.specs.Parts.{wish_of, head_at, some_topic_from, line_agrees}
use Rattle.questions.specs.declared.Asked.{Asked}
use Rattle.questions.proofs.DecisionLaws.{topics_hold, head_says, in_filters, in_eqs}

module _ (filters eqs : List ℕ) (c : Client) (asked : Asked) (topic : List ℕ) (n : ℕ) (line : List ℕ) where
  -- the rule of a line agrees, if it has one
  abbrev agrees_on : Option Meaning → Bool
  agrees_on o = elim o [ None ↦ false | Some r ↦ rule_agrees (in_filters filters) (in_eqs eqs) c (wish_of asked topic) n r ]

  -- a line whose head differs agrees with nothing
  pub line_differs : head_at c asked line ≡ None → line_agrees c (wish_of asked topic) n line filters eqs ≡ false
  unfolding line_agrees first_from
  line_differs e = by (rule_on (read_rule line)) (head_says (in_filters filters) (in_eqs eqs) c asked topic n line e [])
    where
      at : (r : Meaning) (b : Bool) → cond {A = Option (ℕ × Meaning)} b (Some (n, r)) None ≡ None → b ≡ false
      at r true q = let z : ◌≡◌ {A = ℕ} 0 1 = cc in absurd (omega arith)
      at r false q = refl

      by : (o : Option Meaning) → first_from (in_filters filters) (in_eqs eqs) c (wish_of asked topic) n (o ∷ []) ≡ None → agrees_on o ≡ false
      by None q = refl
      by (Some r) q = at r (rule_agrees (in_filters filters) (in_eqs eqs) c (wish_of asked topic) n r) q

  -- a line whose head agrees does so where its topics do
  line_holds : {allow flag : Bool} {topics : Option ℕ} → head_at c asked line ≡ Some (record { allow = allow; superuser = flag; topics = topics })
      → line_agrees c (wish_of asked topic) n line filters eqs ≡ topics_hold (in_filters filters) (in_eqs eqs) n c.id topic line topics
  unfolding line_agrees
  line_holds e =
      let h = head_says (in_filters filters) (in_eqs eqs) c asked topic n line e in
      ap agrees_on h.reads ∙ h.agreed

  module _ {allow flag : Bool} {left : Option ℕ} (e : head_at c asked line ≡ Some (record { allow = allow; superuser = flag; topics = left })) where
    pub line-all : left ≡ None → line_agrees c (wish_of asked topic) n line filters eqs ≡ true
    unfolding topics_hold
    line-all l = line_holds e ∙ ap (topics_hold (in_filters filters) (in_eqs eqs) n c.id topic line) l

    pub line-listed : {t : ℕ} → left ≡ Some t
        → line_agrees c (wish_of asked topic) n line filters eqs
        ≡ (some_topic_from topic (length line) line (first_item 0x5b 0x5d line t) || (in_eqs eqs (eq_agrees n topic) || in_filters filters (filter_agrees n c.id topic)))
    unfolding topics_hold
    line-listed l = line_holds e ∙ ap (topics_hold (in_filters filters) (in_eqs eqs) n c.id topic line) l

    -- the same by the answers of the walk over the topics and of the one over the eq rows
    pub line_by : {t : ℕ} {first : Option ℕ} {told row : Bool} → left ≡ Some t → first ≡ first_item 0x5b 0x5d line t
        → some_topic_from topic (length line) line first ≡ told → in_eqs eqs (eq_agrees n topic) ≡ row
        → line_agrees c (wish_of asked topic) n line filters eqs ≡ (told || (row || in_filters filters (filter_agrees n c.id topic)))
    line_by l p q r =
        line-listed l ∙ (λ i. (ap (some_topic_from topic (length line) line) (sym p) ∙ q) i || (r i || in_filters filters (filter_agrees n c.id topic)))
