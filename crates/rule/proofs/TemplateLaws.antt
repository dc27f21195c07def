-- Laws of the filled templates of a rule text: the rule of each is one of the text's, and each is a filter or an eq. Assumes nothing.
use Prim.Native.Nat.{ℕ, suc, ◌+◌, ◌≤◌, ◌<◌}
use native.Mathlib.Omega.{arith}
use mathlib.Core.Bool.{Bool, true, false, cond, beq}
use mathlib.Core.List.{List, [], ◌∷◌, ◌++◌}
use Rattle.std.specs.Prelude.{Option}
use mathlib.Core.Path.{◌≡◌, refl}
use lib.ListN.{length, length-map}
use Rattle.json_text.specs.Lines.{lines}
use Rattle.rule.specs.Rule.{Meaning, TopicOf, is_template}
use Rattle.rule.specs.Fill.{fill}
use Rattle.rule.specs.RuleText.{Filled, read_rule, rule_on, rules_of, filled_topics, listed, filled_rules, filled, of_kind}

-- the rule's number of each is below m
abbrev pub Below : ℕ → List Filled → Type 0
Below m [] = Unit {0}
Below m (f ∷ fs) = (f.rule < m) × Below m fs

below-append : (m : ℕ) (fs gs : List Filled) → Below m fs → Below m gs → Below m (fs ++ gs)
below-append m [] gs h k = k
below-append m (f ∷ fs) gs h k = (h.0, below-append m fs gs h.1 k)

topics_below : (n m : ℕ) (id : List ℕ) (name : Option (List ℕ)) (topics : List (TopicOf (List ℕ))) → n < m → Below m (filled_topics n id name topics)
unfolding filled_topics
topics_below n m id name [] h = tt
topics_below n m id name (t ∷ topics) h = by (is_template t.text) (topics_below n m id name topics h)
  where
    by : (b : Bool) → Below m (filled_topics n id name topics)
        → Below m (cond b (record { rule = n; eq = t.eq; text = fill t.text id name } ∷ filled_topics n id name topics) (filled_topics n id name topics))
    by true k = (h, k)
    by false k = k

rules_below : (n m : ℕ) (id : List ℕ) (name : Option (List ℕ)) (rules : List (Option Meaning)) → n + length rules ≤ m → Below m (filled_rules n id name rules)
unfolding filled_rules
rules_below n m id name [] h = tt
rules_below n m id name (r ∷ rules) h =
    below-append m (filled_topics n id name (listed r)) (filled_rules (suc n) id name rules)
    (topics_below n m id name (listed r) (omega arith))
    (rules_below (suc n) m id name rules (omega arith))

-- its rule's number, counted from 0, is below the number of lines
pub filled-below : (t id : List ℕ) (name : Option (List ℕ)) → Below (length (lines t)) (filled t id name)
unfolding filled rules_of
filled-below t id name =
    let e = length-map (lines t) (λ line. rule_on (read_rule line)) in rules_below 0 (length (lines t)) id name (rules_of t) (omega arith)

-- each is a filter or an eq
pub kinds_length : (fs : List Filled) → length (of_kind false fs) + length (of_kind true fs) ≡ length fs
unfolding of_kind
kinds_length [] = refl
kinds_length (f ∷ fs) = by f.eq (kinds_length fs)
  where
    by : (b : Bool) → length (of_kind false fs) + length (of_kind true fs) ≡ length fs
        → length (cond (beq b false) (f ∷ of_kind false fs) (of_kind false fs)) + length (cond (beq b true) (f ∷ of_kind true fs) (of_kind true fs)) ≡ suc (length fs)
    by true h = omega arith
    by false h = omega arith
