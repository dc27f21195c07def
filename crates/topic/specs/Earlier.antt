-- How far request b) of document 02 reaches: ".. in per-client matching the Rust decides only where no level begins with `$`". There Plain
-- match P answers as document 01 had it before the request. (That the Rust does too is tested, not proved.) Nothing else cites this file.
use Rattle.std.specs.Prelude.{ℕ, ◌≡◌, Bool, true, false, ◌&&◌, not, cond, List, [], ◌∷◌}
use Rattle.topic.specs.Topic.{Level, levels, is_plus, is_hash, metadata, ends, takes_level, plain_match}

-- document 01's P: "As T, but .. at every level: `#` on a level beginning with `$` answers no; `+` on such a level ends the walk there,
-- yes if the filter has nothing more or exactly `#` next, else no"
unfoldable pub earlier_takes : List Level → List Level → Bool
earlier_takes filter [] = ends filter
earlier_takes [] (t ∷ text) = false
earlier_takes (f ∷ filter) (t ∷ text) =
    cond (is_hash f) (not (metadata t)) (cond (is_plus f && metadata t) (ends filter) (takes_level f t && earlier_takes filter text))

-- "the checked text is split without a validity test"
unfoldable pub earlier_match : List ℕ → List ℕ → Bool
earlier_match filter text = earlier_takes (levels filter) (levels text)

-- "no level begins with `$`"
unfoldable pub no_dollar_level : List Level → Bool
no_dollar_level [] = true
no_dollar_level (level ∷ rest) = not (metadata level) && no_dollar_level rest

-- where no level of the text begins with `$`, no answer of P has moved
abbrev pub Unmoved : Type 0
Unmoved = (filter text : List ℕ) → no_dollar_level (levels text) ≡ true → plain_match filter text ≡ earlier_match filter text
