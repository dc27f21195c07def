-- Filters and both ways of matching are those of section 4.7 of OASIS MQTT. Validity goes by the places of the wildcards, matching by level:
-- `takes` is `Takes` on the levels of a filter (`Valid`), and the `$` rule is read at the first bytes. Assumes nothing.
use Prim.Native.Nat.{ℕ, zero, suc}
use mathlib.Core.Path.{◌≡◌, refl, sym, ap, ◌∙◌}
use mathlib.Core.Bool.{Bool, true, false, ◌&&◌, ◌||◌, not, true≢false, and-eq-true_iff}
use mathlib.Core.Logic.Iff
use mathlib.Core.Logic.{◌↔◌, ◌⊎◌, inl, inr, ⊎_elim, ⊎_map}
use mathlib.Core.List.{List, [], ◌∷◌}
use mathlib.Core.Option.{some-injective, none-ne-some}
use lib.Dec.{eqb}
use lib.ListN.{get_elem?}
use borrow.Author.Tests.{not-true}
use Rattle.text.specs.Text.{same}
use Rattle.text.proofs.Laws.{same_true, same_itself, same_unequal}
use Rattle.topic.specs.Topic.{Level, plus, hash, levels, is_only, is_plus, is_hash, wildcard_free, is_last, valid_levels, valid_filter, ends, takes_level, takes, dollar_rule, levels_match, levels_if, checked_levels, tree_match, plain_match}
use Rattle.topic.specs.Mqtt47.{multi, single, dollar, At, Filter, Name, Literal, Takes, nothing, equal, single_level, multi_level, Matches}
use Rattle.topic.specs.Demand2.{Filter47, Tree47, Plain47}
use Rattle.topic.proofs.Scan.{leveled, leveled_levels}
use Rattle.topic.proofs.Positions.{valid_places}
use Rattle.topic.proofs.Levels.{splits, splits_levels, front, metadata_front}

-- a level without wildcards, by its places
absent : (level : Level) → wildcard_free level ≡ true → (c : ℕ) → (eqb c plus || eqb c hash) ≡ true → (i : ℕ) → At level i c → ⊥
unfolding wildcard_free
absent [] e c h i a = none-ne-some c a
absent (b ∷ level) e c h zero a =
    let f = not-true (eqb b plus || eqb b hash) ((and-eq-true_iff _ (wildcard_free level)).0 e).0 in
    true≢false (sym h ∙ (rw (some-injective b c a) at f))
absent (b ∷ level) e c h (suc i) a = absent level ((and-eq-true_iff (not (eqb b plus || eqb b hash)) (wildcard_free level)).0 e).1 c h i a

-- it is no wildcard
not_only : (c : ℕ) (level : Level) → ((i : ℕ) → At level i c → ⊥) → is_only c level ≡ false
unfolding is_only
not_only c level h = same_unequal level (c ∷ []) (λ e. h 0 (ap (λ l. get_elem? l 0) e))

not_hash : {level : Level} → Literal level → is_hash level ≡ false
not_hash {level} l = not_only multi level l.no_multi

not_plus : {level : Level} → Literal level → is_plus level ≡ false
not_plus {level} l = not_only single level l.no_single

-- the levels of a valid filter
data Valid : List Level → Type 0 where
  none : Valid []
  literal : {level : Level} {rest : List Level} → Literal level → Valid rest → Valid (level ∷ rest)
  any_level : {rest : List Level} → Valid rest → Valid ((single ∷ []) ∷ rest)
  any_rest : Valid ((multi ∷ []) ∷ [])

valid : (ls : List Level) → valid_levels ls ≡ true → Valid ls
unfolding valid_levels is_only
valid [] e = none
valid (level ∷ rest) e =
    let h = (and-eq-true_iff _ (valid_levels rest)).0 e in
    at (wildcard_free level) (is_plus level) (is_hash level) refl refl refl h.0 (valid rest h.1)
  where
    at :
        (w p h : Bool) → wildcard_free level ≡ w → is_plus level ≡ p → is_hash level ≡ h →
        {rest : List Level} → (w || (p || (h && is_last rest))) ≡ true → Valid rest → Valid (level ∷ rest)
    at true p h w _ _ e v = literal (record { no_multi = absent level w multi refl; no_single = absent level w single refl }) v
    at false true h _ q _ e v = rw (same_true level (single ∷ []) q) (any_level v)
    at false false true _ _ q {rest = []} e v = rw (same_true level (multi ∷ []) q) any_rest
    at false false true _ _ q {rest = r ∷ rest} e v = absurd (true≢false (sym e))
    at false false false _ _ _ e v = absurd (true≢false (sym e))

-- `takes` is `Takes`: a valid filter's levels take what `takes` says they take, and nothing else
takes_levels : {filter : List Level} → Valid filter → (name : List Level) → takes filter name ≡ true → Takes filter name
unfolding takes takes_level ends is_only same
takes_levels none [] e = nothing
takes_levels none (t ∷ name) e = absurd (true≢false (sym e))
takes_levels (literal l v) [] e = absurd (true≢false (sym e ∙ not_hash l))
takes_levels (literal {level} {rest} l v) (t ∷ name) e =
    let h = (and-eq-true_iff (same level t) (takes rest name)).0 (rw (not_hash l, not_plus l) at e) in
    rw (← same_true level t h.0) (equal level l (takes_levels v name h.1))
takes_levels (any_level v) [] e = absurd (true≢false (sym e))
takes_levels (any_level v) (t ∷ name) e = single_level t (takes_levels v name e)
takes_levels any_rest name e = multi_level name

levels_take : {filter name : List Level} → Takes filter name → takes filter name ≡ true
unfolding takes takes_level ends is_only same
levels_take nothing = refl
levels_take (equal level l t) = rw (not_hash l, not_plus l, same_itself level) (levels_take t)
levels_take (single_level level t) = levels_take t
levels_take (multi_level []) = refl
levels_take (multi_level (t ∷ name)) = refl

-- a filter's first level is a wildcard where it begins with one
wildcard_front : {level : Level} {rest : List Level} → Valid (level ∷ rest) → ((is_plus level || is_hash level) ≡ true) ↔ (At level 0 multi ⊎ At level 0 single)
unfolding is_only same
wildcard_front (literal l v) = (
  λ e. absurd (true≢false (sym e ∙ (rw (not_hash l, not_plus l)))),
  λ a. absurd (⊎_elim (l.no_multi 0) (l.no_single 0) a),
)
wildcard_front (any_level v) = (λ e. inr refl, λ a. refl)
wildcard_front any_rest = (λ e. inl refl, λ a. refl)

-- a test that two facts don't hold together
apart : {A B : Type 0} (a b : Bool) → (a ≡ true) ↔ A → (b ≡ true) ↔ B → (not (a && b) ≡ true) ↔ (A → B → ⊥)
apart true true f g = (λ e x y. true≢false (sym e), λ h. absurd (h (f.0 refl) (g.0 refl)))
apart true false f g = (λ e x y. true≢false (sym (g.1 y)), λ h. refl)
apart false b f g = (λ e x y. true≢false (sym (f.1 x)), λ h. refl)

-- [MQTT-4.7.2-1]
abbrev NoDollar : List ℕ → List ℕ → Type 0
NoDollar filter name = At filter 0 multi ⊎ At filter 0 single → At name 0 dollar → ⊥

rule_dollar : (filter name : List ℕ) → Valid (levels filter) → (not (dollar_rule (levels filter) (levels name)) ≡ true) ↔ NoDollar filter name
unfolding dollar_rule
rule_dollar filter name v =
    let f = (leveled filter).2 in
    let n = (leveled name).2 in
    let hash-front = front f multi refl in
    let plus-front = front f single refl in
    rw (leveled_levels f, leveled_levels n)
    (apart _ _
    (Iff.trans (wildcard_front (rw (leveled_levels f) at v)) (⊎_map hash-front.0 plus-front.0, ⊎_map hash-front.1 plus-front.1))
    (Iff.trans (metadata_front _) (front n dollar refl)))

-- a match, by the levels
matches : (filter name : List ℕ) → (NoDollar filter name × Takes (levels filter) (levels name)) ↔ Matches filter name
matches filter name = (
  λ h. record { filter_levels = levels filter; name_levels = levels name; splits_filter = splits filter; splits_name = splits name; takes = h.1; no_dollar = h.0 },
  λ m. (m.no_dollar, rw (splits_levels m.splits_filter, splits_levels m.splits_name) m.takes),
)

-- topic filters are valid, and so are topic names
filter_valid : {text : List ℕ} → Filter text → valid_filter text ≡ true
filter_valid {text} f = (valid_places text).1 (f.multi_level, f.single_level)

name_valid : {text : List ℕ} → Name text → valid_filter text ≡ true
name_valid {text} n = (valid_places text).1 (λ i a. absurd (n.no_multi i a), λ i a. absurd (n.no_single i a))

valid_filter_lem : {filter : List ℕ} → Filter filter → Valid (levels filter)
unfolding valid_filter
valid_filter_lem {filter} f = valid (levels filter) (filter_valid f)

takes-filter : {filter : List ℕ} → Filter filter → (name : List ℕ) → (takes (levels filter) (levels name) ≡ true) ↔ Takes (levels filter) (levels name)
takes-filter f name = (takes_levels (valid_filter_lem f) (levels name), levels_take)

-- the valid filters of document 01 are the topic filters of 4.7
pub filter_47 : Filter47
filter_47 text c = (λ e. let p = (valid_places text).0 e in record { characters = c; multi_level = p.0; single_level = p.1 }, filter_valid)

-- on topic filters and topic names, Plain match P is the matching of 4.7
pub plain_47 : Plain47
unfolding plain_match levels_match
plain_47 filter name f n =
    Iff.trans (and-eq-true_iff _ _) (Iff.trans (Iff.and (rule_dollar filter name (valid_filter_lem f)) (takes-filter f name)) (matches filter name))

-- Tree match T is too, since topic names are valid
pub tree_47 : Tree47
unfolding tree_match checked_levels levels_if plain_match
tree_47 filter name f n = rw (name_valid n) (plain_47 filter name f n)
