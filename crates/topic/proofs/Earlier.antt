-- Where no level begins with `$`, Plain match P is document 01's: the rule for `$` holds nothing off, and neither did the earlier one.
-- Assumes nothing.
use mathlib.Core.Path.{◌≡◌, refl}
use mathlib.Core.Bool.{Bool, true, false, ◌&&◌, ◌||◌, not, cond, and-false, and-eq-true_iff}
use mathlib.Core.List.{List, [], ◌∷◌}
use borrow.Author.Tests.{not-true}
use Rattle.topic.specs.Topic.{Level, levels, is_plus, is_hash, metadata, ends, takes_level, takes, dollar_rule, levels_match, plain_match}
use Rattle.topic.specs.Earlier.{earlier_takes, earlier_match, no_dollar_level, Unmoved}

-- the first level doesn't begin with `$`, nor does one of the others
plain_first : (level : Level) (rest : List Level) → no_dollar_level (level ∷ rest) ≡ true → (metadata level ≡ false) × (no_dollar_level rest ≡ true)
unfolding no_dollar_level
plain_first level rest h = let b = (and-eq-true_iff (not (metadata level)) (no_dollar_level rest)).0 h in (not-true (metadata level) b.0, b.1)

no_rule : (filter text : List Level) → no_dollar_level text ≡ true → dollar_rule filter text ≡ false
unfolding dollar_rule
no_rule [] text h = refl
no_rule (f ∷ filter) [] h = refl
no_rule (f ∷ filter) (t ∷ text) h = rw (plain_first t text h).0 (and-false (is_plus f || is_hash f))

same_walk : (filter text : List Level) → no_dollar_level text ≡ true → takes filter text ≡ earlier_takes filter text
unfolding takes earlier_takes
same_walk filter [] h = refl
same_walk [] (t ∷ text) h = refl
same_walk (f ∷ filter) (t ∷ text) h =
    let b = plain_first t text h in
    rw (b.0, same_walk filter text b.1) (at (is_hash f) (is_plus f))
  where
    at : (multi single : Bool) → (multi || (takes_level f t && earlier_takes filter text))
        ≡ cond multi true (cond (single && false) (ends filter) (takes_level f t && earlier_takes filter text))
    at true single = refl
    at false true = refl
    at false false = refl

pub unmoved : Unmoved
unfolding plain_match earlier_match levels_match
unmoved filter text h = rw (no_rule (levels filter) (levels text) h) (same_walk (levels filter) (levels text) h)
